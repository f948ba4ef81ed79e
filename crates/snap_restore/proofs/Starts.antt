-- A state file that its first bytes and its size refuse is refused so as a whole.
use Rattle.std.proofs.Common.{◌≡◌, ℕ, zero, suc, ◌+◌, ◌≤◌, Bool, true, false, not, eqb, ltb, get_or, ◌&&◌, ◌==◌, nat_le, cond, if◌then◌else◌, List, [], ◌∷◌, length, take, drop, length-drop, Option, Some, None, Result, Ok, Err, refl, sym, ap, subst, ◌∙◌, arith, inl, inr}
use Rattle.std.proofs.Math.Seq.{take-length}
use Rattle.std.proofs.lemmas.Bool.{and_from, and_parts, cases_lt, eqb-true, eq-eqb, le-leb, ltb-false, le-ltb, lt-ltb, or_parts, false_from_ne_true}
use Rattle.std.proofs.lemmas.List.{drop-take, length-take}
use Rattle.std.proofs.lemmas.Option.{option_and_then_some}
use Rattle.std.specs.Int.{w32, from_le_bytes}
use Rattle.vm_types.specs.declared.identity.Identity.{Identity}
use Rattle.refusals.specs.declared.refusal.Refusal.{Refusal}
use Rattle.refusals.specs.declared.refusal.Refusal.TheVariants as refusal
use Rattle.file_format.specs.Kinds.{number32, ◌&◌}
use Rattle.file_format.specs.Identities.{identity}
use Rattle.file_format.specs.Starts.{is_closed, is_other}
use Rattle.file_format.specs.Versions.{version_bytes, version_of}
use Rattle.file_format.specs.declared.version.Version.{Version}
use Rattle.file_format.specs.declared.version.Version.TheVariants.{One, Two}
use Rattle.snap_state.specs.declared.copy.StateCopy.{StateCopy}
use Rattle.snap_state.specs.Copies.{state_copy}
use Rattle.snap_state.specs.Files as state
use Rattle.snap_state.specs.Valid.{is_valid}
use Rattle.snap_state.specs.declared.file.Saved.{Saved}
use Rattle.vm_outside.specs.Filing.{IsReadAt}
use Rattle.std.specs.Option.{option_and_then, option_map}
use Rattle.std.specs.Str.{bytes_eq}
use Rattle.gate_file.specs.Reading.{start_of}
use Rattle.flat_snapshot.specs.Found.{state_found, state_in, state_read}
use Rattle.snap_state.proofs.Longest.{accepted_short}
use Rattle.snap_restore.specs.declared.finding.FindError.{FindError}
use Rattle.snap_restore.specs.declared.finding.FindError.TheVariants.{Refused, Fault, OutOfMemory}
use Rattle.snap_restore.specs.Finding.{Answers, most_bytes, said_length, size_found, size_judged, size_of, state_of}

take_less : (n m : ℕ) (xs : List ℕ) → n ≤ m → take n (take m xs) ≡ take n xs
take_less zero m xs le = refl
take_less (suc n) zero xs le = absurd (omega (arith, le))
take_less (suc n) (suc m) [] le = refl
take_less (suc n) (suc m) (x ∷ xs) le = ap (λ (l : List ℕ). x ∷ l) (take_less n m xs (omega (arith, le)))

-- ---- what the first 32 bytes tell is what all of them tell

front_short : (given : List ℕ) → ltb (length (take 32 given)) 32 ≡ ltb (length given) 32
front_short given =
    elim (cases_lt (length given) 32) [
      | inl lt ↦ lt-ltb _ _ (omega (arith, length-take 32 given)) ∙ sym (lt-ltb _ _ lt)
      | inr le ↦ le-ltb _ _ (omega (arith, length-take 32 given)) ∙ sym (le-ltb _ _ le)
    ]

front_first : (given : List ℕ) → get_or (take 32 given) 0 0 ≡ get_or given 0 0
front_first [] = refl
front_first (b ∷ rest) = refl

front_closed : (given : List ℕ) → is_closed 32 (take 32 given) ≡ is_closed 32 given
front_closed given = rw (front_short given, front_first given) refl

front_version : (given : List ℕ) → version_of (take 32 given) ≡ version_of given
front_version given =
    ap (λ (l : List ℕ). if bytes_eq l (version_bytes Two) then Two else One)
    (ap (take 4) (drop-take 8 24 given) ∙ take_less 4 24 (drop 8 given) (omega arith))

front_other : (given : List ℕ)
    → is_other (state.magic (version_of (take 32 given))) (take 32 given) ≡ is_other (state.magic (version_of given)) given
front_other given =
    ap (λ (v : Version). is_other (state.magic v) (take 32 given)) (front_version given)
    ∙ ap (λ (l : List ℕ). not (bytes_eq l (state.magic (version_of given))))
    (ap (take 11) (drop-take 1 31 given) ∙ take_less 11 31 (drop 1 given) (omega arith))

front_said : (given : List ℕ) → said_length (take 32 given) ≡ said_length given
front_said given = ap (from_le_bytes w32) (ap (take 4) (drop-take 12 20 given) ∙ take_less 4 20 (drop 12 given) (omega arith))

-- ---- a length that the file doesn't have

said_of : (short : Bool) (x y : ℕ × List ℕ) → cond short None (Some x) ≡ Some y → y.0 ≡ x.0
said_of true x y is = absurd cc
said_of false x y is =
    let same : x ≡ y = cc in ap (λ (p : ℕ × List ℕ). p.0) (sym same)

-- what is read first is the length that the header says
read_said : (v : Version) (rest : List ℕ) (read : (ℕ × (Identity × StateCopy)) × List ℕ) → (state.contents v).reads rest ≡ Some read
    → read.0.0 ≡ from_le_bytes w32 (take 4 rest)
unfolding number32
read_said v rest read is =
    let behind : List ℕ → Option ((Identity × StateCopy) × List ℕ) = (identity & state_copy v).reads in
    option_and_then_some (λ (x : ℕ × List ℕ). option_and_then (λ (y : (Identity × StateCopy) × List ℕ). Some ((x.0, y.0), y.1)) (behind x.1))
    (number32.reads rest) read is
    (λ x of_length of_both. option_and_then_some (λ (y : (Identity × StateCopy) × List ℕ). Some ((x.0, y.0), y.1)) (behind x.1) read of_both
    (λ y of_rest made.
    let same : ((x.0, y.0), y.1) ≡ read = cc in
    ap (λ (r : (ℕ × (Identity × StateCopy)) × List ℕ). r.0.0) (sym same)
    ∙ said_of (ltb (length rest) 4) (from_le_bytes w32 (take 4 rest), drop 4 rest) x of_length))

module _ (given : List ℕ) (opens : is_closed 32 given ≡ false) (read : (ℕ × (Identity × StateCopy)) × List ℕ)
    (reads : (state.contents (version_of given)).reads (drop 12 given) ≡ Some read) where
  abbrev accepts : Bool
  accepts = state.is_accepted (length (drop 12 given)) (length read.1) read.0.0 read.0.1.0 read.0.1.1

  -- what is accepted has the size that the header says, and one that a state file may have
  may_be : accepts ≡ true → ((said_length given + 32 == length given) && nat_le (length given) most_bytes) ≡ true
  may_be is =
      let long : 32 ≤ length given = ltb-false _ _ (or_parts _ _ opens).0 in
      let counted : read.0.0 + 20 ≡ length (drop 12 given) =
      eqb-true _ _ (and_parts (eqb (length read.1) 0) _ (and_parts _ _ (and_parts _ (is_valid read.0.1.1) is).0).0).1 in
      and_from (said_length given + 32 == length given) (nat_le (length given) most_bytes)
      (eq-eqb _ _ (omega (arith, long, counted, length-drop 12 given, read_said (version_of given) (drop 12 given) read reads)))
      (le-leb _ _ (omega (arith, length-drop 12 given, accepted_short (version_of given) (drop 12 given) read reads is)))

module _ (given : List ℕ) (opens : is_closed 32 given ≡ false)
    (refuses : ((said_length given + 32 == length given) && nat_le (length given) most_bytes) ≡ false) where
  bad_read : (o : Option ((ℕ × (Identity × StateCopy)) × List ℕ)) → (state.contents (version_of given)).reads (drop 12 given) ≡ o
      → state_read (length (drop 12 given)) o ≡ Err refusal.BadField
  bad_read None is = refl
  bad_read (Some read) is =
      ap (λ (b : Bool). if b then Ok read.0.1 else Err refusal.BadField)
      (false_from_ne_true (accepts given opens read is) (λ accepted. let may = may_be given opens read is accepted in absurd cc))

  bad_size : state_read (length (drop 12 given)) ((state.contents (version_of given)).reads (drop 12 given)) ≡ Err refusal.BadField
  bad_size = bad_read ((state.contents (version_of given)).reads (drop 12 given)) refl

-- ---- the whole file

abbrev by_tests : Bool → Bool → Bool → ℕ → Result ℕ Refusal
by_tests closed other fits size =
    if closed then Err refusal.GateClosed
    else (if other then Err refusal.WrongMagic
    else (if fits then Ok size else Err refusal.BadField))

-- what the tests refuse is refused so, if what they let through is read alone
tests_refuse : (closed other fits : Bool) (size : ℕ) (rest : Result (Identity × StateCopy) Refusal) (why : Refusal)
    → (closed ≡ false → fits ≡ false → rest ≡ Err refusal.BadField)
    → by_tests closed other fits size ≡ Err why
    → (if closed then Err refusal.GateClosed else (if other then Err refusal.WrongMagic else rest)) ≡ Err why
tests_refuse true other fits size rest why bad is =
    let same : refusal.GateClosed ≡ why = cc in ap Err same
tests_refuse false true fits size rest why bad is =
    let same : refusal.WrongMagic ≡ why = cc in ap Err same
tests_refuse false false true size rest why bad is = absurd cc
tests_refuse false false false size rest why bad is =
    let same : refusal.BadField ≡ why = cc in bad refl refl ∙ ap Err same

-- by all of its bytes as by the first
judged_whole : (given : List ℕ) → size_judged (length given) (take 32 given) ≡ size_judged (length given) given
judged_whole given = rw (front_closed given, front_other given, front_said given) refl

pub size_refused : (given : List ℕ) (why : Refusal) → size_judged (length given) (take 32 given) ≡ Err why → state_in given ≡ Err why
size_refused given why is =
    tests_refuse (is_closed 32 given) (is_other (state.magic (version_of given)) given)
    ((said_length given + 32 == length given) && nat_le (length given) most_bytes) (length given)
    (state_read (length (drop 12 given)) ((state.contents (version_of given)).reads (drop 12 given))) why (bad_size given) (sym (judged_whole given) ∙ is)

-- ---- as it is answered

pub size_err : (o : Option (List ℕ)) (why : FindError) → Answers size_of (Err why) (size_found o) → Answers state_of (Err why) (state_found o)
size_err None (Refused why) is =
    let same : refusal.NoSuchFile ≡ why = cc in ap Err same
size_err (Some given) (Refused why) is = size_refused given why is
size_err o Fault is = tt
size_err o OutOfMemory is = tt

judged_size : (closed other fits : Bool) (is_size size : ℕ)
    → by_tests closed other fits is_size ≡ Ok size
    → is_size ≡ size
judged_size true other fits is_size size is = absurd cc
judged_size false true fits is_size size is = absurd cc
judged_size false false true is_size size is = cc
judged_size false false false is_size size is = absurd cc

-- so many bytes of the file are all of it
pub size_ok : (o : Option (List ℕ)) (size : ℕ) (bytes : List ℕ) (r : Result Saved FindError) → size_found o ≡ Ok size → length bytes ≡ size
    → IsReadAt o 0 bytes → Answers state_of r (state_in bytes) → Answers state_of r (state_found o)
size_ok None size bytes r found long is judged = absurd cc
size_ok (Some given) size bytes r found long is judged =
    let whole = judged_size _ _ _ (length given) size found in
    let same : bytes ≡ given = is.1 ∙ ap (λ (n : ℕ). take n given) (long ∙ sym whole) ∙ take-length given in
    subst (λ (l : List ℕ). Answers state_of r (state_in l)) same judged

-- the start that was read is the file's
pub start_of_file : (size : ℕ) (front : List ℕ) (o : Option (List ℕ)) (r : Result ℕ FindError)
    → ◌≡◌ {A = Option (ℕ × List ℕ)} (Some (size, front)) (option_map (start_of 32) o)
    → Answers size_of r (size_judged size front) → Answers size_of r (size_found o)
start_of_file size front None r is judged = absurd cc
start_of_file size front (Some given) r is judged =
    let same : ◌≡◌ {A = ℕ × List ℕ} (size, front) (length given, take 32 given) = cc in
    subst (λ (p : ℕ × List ℕ). Answers size_of r (size_judged p.0 p.1)) same judged
