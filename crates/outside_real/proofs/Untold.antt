-- What is said of an object's content, where it tells none.
use Rattle.std.proofs.Common.{◌≡◌, true, false, Result, Ok, Err, IfOk, IfErr}

pub untold_any : {P : Type 0} → false ≡ true → P
untold_any told = cc

pub untold_ok : {T E : Type 0} (result : Result T E) (P : T → Type 0) → IfOk result (λ value. false ≡ true → P value)
untold_ok (Ok value) P = untold_any
untold_ok (Err error) P = tt

pub untold_err : {T E : Type 0} (result : Result T E) (P : E → Type 0) → IfErr result (λ error. false ≡ true → P error)
untold_err (Ok value) P = tt
untold_err (Err error) P = untold_any
