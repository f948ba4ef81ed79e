-- The host's objects of devices, of which none was attached.
use Rattle.std.proofs.Common.{◌≡◌, ℕ, ◌<◌, inl, inr, List, length, get_or, arith}
use Rattle.std.proofs.lemmas.Bool.{cases_lt}
use Rattle.std.proofs.lemmas.List.{get_or_past}
use Rattle.std.specs.Fn.{Mut, Called}
use Rattle.std.specs.Array.{IsFromFnResult}
use Rattle.vm_host.specs.declared.attached.Attached.{Attached}
use Rattle.vm_host.specs.declared.attached.Attached.TheVariants as attached
use Rattle.outside_mem.specs.Devices.{names_in}

pub none_named : (each : List Attached) → ((k : ℕ) → k < length each → get_or each k attached.Nothing ≡ attached.Nothing)
    → names_in each ≡ (λ (k : ℕ). attached.Nothing)
none_named each all = λ (i : 𝕀). λ (k : ℕ). none k i where
  none : (k : ℕ) → get_or each k attached.Nothing ≡ attached.Nothing
  none k = elim (cases_lt k (length each)) [
    | inl below ↦ all k below
    | inr past ↦ get_or_past each k attached.Nothing past
  ]

pub all_nothing : {F : Type 0} (g : Mut F (ℕ × Unit {0}) Attached) (f : F) (each : List Attached) (n : ℕ) → IsFromFnResult g f each n
    → ((p : F) (k : ℕ) (a : Attached) (q : F) → Called g p (k, tt) a q → a ≡ attached.Nothing) → names_in each ≡ (λ (k : ℕ). attached.Nothing)
all_nothing g f each n made calls =
    none_named each (λ (k : ℕ) (below : k < length each).
    let call = made.at k attached.Nothing (omega (arith, below, made.long)) in calls call.0 k (get_or each k attached.Nothing) call.1 call.2)
