-- What fits, kind by kind.
use Rattle.std.proofs.Common.{◌≡◌, ◌<◌, ◌^◌, ℕ, Bool, true, List, length, Option, Some, arith}
use Rattle.std.specs.Prelude.{IfSome}
use Rattle.std.specs.List.{All}
use Rattle.std.specs.Str.{is_utf8}
use Rattle.std.proofs.lemmas.List.Elements.{All-from_recursion, recursion_from_All}
use Rattle.file_format.specs.Format.{Format}
use Rattle.file_format.specs.Kinds.{byte, byte_list, flag, list_of, number16, number32, number64, optional, text, times, zeros}

pub every : {A : Type 0} (P Q : A → Type 0) (xs : List A) → ((x : A) → P x → Q x) → All P xs → All Q xs
every P Q xs each all = λ k d below. each _ (all k d below)

pub fits8 : (n : ℕ) → n < 2 ^ 8 → byte.Fits n
unfolding byte
fits8 n small = omega (arith, small)

pub fits16 : (n : ℕ) → n < 2 ^ 16 → number16.Fits n
unfolding number16
fits16 n small = omega (arith, small)

pub fits32 : (n : ℕ) → n < 2 ^ 32 → number32.Fits n
unfolding number32
fits32 n small = omega (arith, small)

pub fits64 : (n : ℕ) → n < 2 ^ 64 → number64.Fits n
unfolding number64
fits64 n small = omega (arith, small)

pub fits_flag : (b : Bool) → flag.Fits b
unfolding flag
fits_flag b = tt

pub fits_zeros : (n : ℕ) → (zeros n).Fits tt
unfolding zeros
fits_zeros n = tt

pub fits_bytes : (bytes : List ℕ) → length bytes < 2 ^ 32 → byte_list.Fits bytes
unfolding byte_list
fits_bytes bytes few = omega (arith, few)

pub fits_text : (t : List ℕ) → length t < 2 ^ 32 → is_utf8 t ≡ true → text.Fits t
unfolding text
fits_text t few is = (fits_bytes t few, is)

pub fits_times : {A : Type 0} (item : Format A) (n : ℕ) (xs : List A) → length xs ≡ n → All item.Fits xs → (times n item).Fits xs
unfolding times
fits_times item n xs many all = (many, recursion_from_All item.Fits xs all)

pub fits_list : {A : Type 0} (item : Format A) (xs : List A) → length xs < 2 ^ 32 → All item.Fits xs → (list_of item).Fits xs
unfolding list_of
fits_list item xs few all = (omega (arith, few), recursion_from_All item.Fits xs all)

pub fits_optional : {A : Type 0} (item : Format A) (o : Option A) → IfSome o item.Fits → (optional item).Fits o
unfolding optional
fits_optional item o is = is

-- ---- and back: what is known of what fits

pub of8 : (n : ℕ) → byte.Fits n → n < 2 ^ 8
unfolding byte
of8 n fits = omega (arith, fits)

pub of16 : (n : ℕ) → number16.Fits n → n < 2 ^ 16
unfolding number16
of16 n fits = omega (arith, fits)

pub of32 : (n : ℕ) → number32.Fits n → n < 2 ^ 32
unfolding number32
of32 n fits = omega (arith, fits)

pub of64 : (n : ℕ) → number64.Fits n → n < 2 ^ 64
unfolding number64
of64 n fits = omega (arith, fits)

pub of_times : {A : Type 0} (item : Format A) (n : ℕ) (xs : List A) → (times n item).Fits xs → (length xs ≡ n) × All item.Fits xs
unfolding times
of_times item n xs fits = (fits.0, All-from_recursion item.Fits xs fits.1)

pub of_list : {A : Type 0} (item : Format A) (xs : List A) → (list_of item).Fits xs → All item.Fits xs
unfolding list_of
of_list item xs fits = All-from_recursion item.Fits xs fits.1

pub of_optional : {A : Type 0} (item : Format A) (x : A) → (optional item).Fits (Some x) → item.Fits x
unfolding optional
of_optional item x fits = fits
