-- Which features the driver of a queue accepted, in the byte that says that the queue is there.
use Rattle.std.specs.Prelude.{◌≡◌, ℕ, zero, suc, ◌+◌, ◌*◌, ◌/◌, ◌%◌, Bool, true, false, Option, Some, None, unwrap_or, refl}
use Rattle.std.proofs.Common.{sym, ap, ap₂, ◌∙◌, arith}
use Rattle.vm_types.specs.declared.port_look.Accepted.{Accepted}
use Rattle.file_format.specs.Format.{Format}
use Rattle.file_format.specs.Kinds.{byte, just, nothing, variant, chosen_by}
use Rattle.queue_device.specs.declared.lanes.Which.{Which}
use Rattle.queue_device.specs.declared.lanes.Which.TheVariants.{First, Second, Third}

-- ---- none, indirect descriptors, the event index, or both

abbrev pub feature_code : Bool → Bool → ℕ
feature_code false false = 0
feature_code true false = 1
feature_code false true = 2
feature_code true true = 3

abbrev pub accepted_code : Accepted → ℕ
accepted_code a = feature_code a.indirect a.event_index

abbrev pub accepted : Bool → Bool → Accepted
accepted indirect event_index = record { indirect = indirect; event_index = event_index }

abbrev pub accepted_at : ℕ → Option Accepted
accepted_at zero = Some (accepted false false)
accepted_at (suc zero) = Some (accepted true false)
accepted_at (suc (suc zero)) = Some (accepted false true)
accepted_at (suc (suc (suc zero))) = Some (accepted true true)
accepted_at (suc (suc (suc (suc n)))) = None

abbrev code_in : Option Accepted → ℕ
code_in None = 0
code_in (Some a) = accepted_code a

pub accepted_at-is : (code : ℕ) (a : Accepted) → accepted_at code ≡ Some a → code ≡ accepted_code a
accepted_at-is zero a is = ap code_in is
accepted_at-is (suc zero) a is = ap code_in is
accepted_at-is (suc (suc zero)) a is = ap code_in is
accepted_at-is (suc (suc (suc zero))) a is = ap code_in is
accepted_at-is (suc (suc (suc (suc n)))) a is = absurd (cc)

pub at_code : (a : Accepted) → accepted_at (accepted_code a) ≡ Some a
at_code a = by a.indirect a.event_index
  where
    by : (indirect event_index : Bool) → accepted_at (feature_code indirect event_index) ≡ Some (accepted indirect event_index)
    by false false = refl
    by true false = refl
    by false true = refl
    by true true = refl

-- ---- of an option: 0, or 1 and what was accepted, and behind it the value

module _ {X : Type 0} (of : Accepted → Format X) (marks : X → Accepted) (other : X)
    (is : (a : Accepted) (x : X) → (of a).Fits x → a ≡ marks x) where
  abbrev pub maybe_code : Option X → ℕ
  maybe_code None = 0
  maybe_code (Some x) = suc (accepted_code (marks x))

  abbrev pub maybe_by : Option Accepted → Format (Option X)
  maybe_by None = nothing
  maybe_by (Some a) = variant Some (λ o. unwrap_or o other) (λ _. refl) (of a)

  abbrev pub maybes : ℕ → Format (Option X)
  maybes zero = just None
  maybes (suc n) = maybe_by (accepted_at n)

  maybe_is : (n : ℕ) (o : Option Accepted) → accepted_at n ≡ o → (v : Option X) → (maybe_by o).Fits v → suc n ≡ maybe_code v
  maybe_is n None there v fits = absurd fits
  maybe_is n (Some a) there v fits =
      let same : a ≡ marks (unwrap_or v other) = is a (unwrap_or v other) fits.1 in
      ap suc (accepted_at-is n a there ∙ ap accepted_code same) ∙ sym (ap maybe_code fits.0)

  pub maybe_code-is : (code : ℕ) (v : Option X) → (maybes code).Fits v → code ≡ maybe_code v
  maybe_code-is zero v fits = sym (ap maybe_code fits)
  maybe_code-is (suc n) v fits = maybe_is n (accepted_at n) refl v fits

  unfoldable pub maybe : Format (Option X)
  maybe = chosen_by byte maybes maybe_code maybe_code-is

-- ---- of what has a number below 4: in bits 2 and 3 of that what was accepted

module _ {K : Type 0} (code : K → ℕ) (at : ℕ → Option K) (at-is : (n : ℕ) (k : K) → at n ≡ Some k → n ≡ code k) where
  abbrev pub mark_code : K → Accepted → ℕ
  mark_code k a = code k + 4 * accepted_code a

  abbrev pub mark_of : Option K → Option Accepted → Option (K × Accepted)
  mark_of None a = None
  mark_of (Some k) None = None
  mark_of (Some k) (Some a) = Some (k, a)

  abbrev pub mark_at : ℕ → Option (K × Accepted)
  mark_at n = mark_of (at (n % 4)) (accepted_at (n / 4))

  mark_is : (n : ℕ) (first : Option K) (second : Option Accepted) (k : K) (a : Accepted) → at (n % 4) ≡ first
      → accepted_at (n / 4) ≡ second → mark_of first second ≡ Some (k, a) → n ≡ mark_code k a
  mark_is n None second k a low high is = absurd (cc)
  mark_is n (Some j) None k a low high is = absurd (cc)
  mark_is n (Some j) (Some b) k a low high is =
      let parts : n ≡ n % 4 + 4 * (n / 4) = omega arith in
      let first : K × Accepted = (j, b) in
      let second : K × Accepted = (k, a) in
      let same : first ≡ second = cc in
      let one : n % 4 ≡ code k = at-is (n % 4) j low ∙ ap (λ (p : K × Accepted). code p.0) same in
      let four : n / 4 ≡ accepted_code a = accepted_at-is (n / 4) b high ∙ ap (λ (p : K × Accepted). accepted_code p.1) same in
      parts ∙ ap₂ (λ (x y : ℕ). x + 4 * y) one four

  pub mark_at-is : (n : ℕ) (k : K) (a : Accepted) → mark_at n ≡ Some (k, a) → n ≡ mark_code k a
  mark_at-is n k a is = mark_is n (at (n % 4)) (accepted_at (n / 4)) k a refl refl is

  -- what has such a number, and was accepted with one of these
  module _ {X : Type 0} (of : K → Accepted → Format X) (key : X → K) (marks : X → Accepted)
      (is : (k : K) (a : Accepted) (x : X) → (of k a).Fits x → (k ≡ key x) × (a ≡ marks x)) where
    abbrev pub marked_code : X → ℕ
    marked_code x = mark_code (key x) (marks x)

    abbrev pub marked_by : Option (K × Accepted) → Format X
    marked_by None = nothing
    marked_by (Some (k, a)) = of k a

    abbrev pub markeds : ℕ → Format X
    markeds n = marked_by (mark_at n)

    marked_is : (n : ℕ) (o : Option (K × Accepted)) → mark_at n ≡ o → (x : X) → (marked_by o).Fits x → n ≡ marked_code x
    marked_is n None there x fits = absurd fits
    marked_is n (Some (k, a)) there x fits =
        let own = is k a x fits in
        mark_at-is n k a there ∙ ap₂ mark_code own.0 own.1

    pub marked_code-is : (n : ℕ) (x : X) → (markeds n).Fits x → n ≡ marked_code x
    marked_code-is n x fits = marked_is n (mark_at n) refl x fits

    unfoldable pub marked : Format X
    marked = chosen_by byte markeds marked_code marked_code-is

-- ---- the number of a queue

abbrev pub which_code : Which → ℕ
which_code First = 0
which_code Second = 1
which_code Third = 2

abbrev pub which_at : ℕ → Option Which
which_at zero = Some First
which_at (suc zero) = Some Second
which_at (suc (suc zero)) = Some Third
which_at (suc (suc (suc n))) = None

abbrev which_in : Option Which → ℕ
which_in None = 0
which_in (Some k) = which_code k

pub which_at-is : (code : ℕ) (k : Which) → which_at code ≡ Some k → code ≡ which_code k
which_at-is zero k is = ap which_in is
which_at-is (suc zero) k is = ap which_in is
which_at-is (suc (suc zero)) k is = ap which_in is
which_at-is (suc (suc (suc n))) k is = absurd (cc)

-- with what was accepted of it
abbrev pub queue_code : Which → Accepted → ℕ
queue_code k a = mark_code which_code which_at which_at-is k a

abbrev pub queue_at : ℕ → Option (Which × Accepted)
queue_at n = mark_at which_code which_at which_at-is n

pub at_queue : (k : Which) (a : Accepted) → queue_at (queue_code k a) ≡ Some (k, a)
at_queue k a = by k a.indirect a.event_index
  where
    by : (j : Which) (indirect event_index : Bool)
        → queue_at (queue_code j (accepted indirect event_index)) ≡ Some (j, accepted indirect event_index)
    by First false false = refl
    by First true false = refl
    by First false true = refl
    by First true true = refl
    by Second false false = refl
    by Second true false = refl
    by Second false true = refl
    by Second true true = refl
    by Third false false = refl
    by Third true false = refl
    by Third false true = refl
    by Third true true = refl

abbrev pub of_queue : {X : Type 0} (of : Which → Accepted → Format X) (key : X → Which) (marks : X → Accepted)
    → ((k : Which) (a : Accepted) (x : X) → (of k a).Fits x → (k ≡ key x) × (a ≡ marks x)) → Format X
of_queue of key marks is = marked which_code which_at which_at-is of key marks is
