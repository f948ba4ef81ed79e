-- What acts keep, by how a tree is made.
use Rattle.std.proofs.Common.{◌≡◌, sym, subst, Bool, true, false, if◌then◌else◌}
use Rattle.vm_types.specs.declared.op.Op.{Op}
use Rattle.device_trace.specs.Doing.{Doing, Gives, Wants, and_then}
use Rattle.device_trace.specs.Script.{Script, perform}
use Rattle.device_trace.specs.Keeps.{Keeps, Stays}

pub keeps_if : {A : Type 0} (P : Op → Type 0) (Q : A → Type 0) (test t : Bool) (x w : Doing A) → test ≡ t
    → (test ≡ true → Keeps P Q x) → (test ≡ false → Keeps P Q w) → Keeps P Q (if test then x else w)
keeps_if P Q test true x w is on_true on_false = subst (λ b. Keeps P Q (if b then x else w)) (sym is) (on_true is)
keeps_if P Q test false x w is on_true on_false = subst (λ b. Keeps P Q (if b then x else w)) (sym is) (on_false is)

pub keeps_then : {A B : Type 0} (P : Op → Type 0) (Q : A → Type 0) (R : B → Type 0) (t : Doing A) (more : A
    → Doing B) → Keeps P Q t → ((a : A) → Q a → Keeps P R (more a)) → Keeps P R (and_then t more)
keeps_then P Q R (Gives a) more keeps on = on a keeps
keeps_then P Q R (Wants op next) more keeps on =
    (keeps.0, λ reply fit. keeps_then P Q R (next reply) more (keeps.1 reply fit) on)

-- what a result meets leads to what it meets too
pub keeps_more : {A : Type 0} (P : Op → Type 0) (Q R : A → Type 0) (t : Doing A) → Keeps P Q t → ((a : A) → Q a → R a)
    → Keeps P R t
keeps_more P Q R (Gives a) keeps on = on a keeps
keeps_more P Q R (Wants op next) keeps on = (keeps.0, λ reply fit. keeps_more P Q R (next reply) (keeps.1 reply fit) on)

-- what two tell of the same tree is told together
pub keeps_both : {A : Type 0} (P O : Op → Type 0) (Q R : A → Type 0) (t : Doing A) → Keeps P Q t → Keeps O R t
    → Keeps (λ op. P op × O op) (λ a. Q a × R a) t
keeps_both P O Q R (Gives a) one two = (one, two)
keeps_both P O Q R (Wants op on) one two =
    ((one.0, two.0), λ reply fit. keeps_both P O Q R (on reply) (one.1 reply fit) (two.1 reply fit))

module _ {D : Type 0} (P : Op → Type 0) (R : D → Type 0) (S : D → D → Type 0) where
  pub stays_if : (test t : Bool) (x w : Script D) → test ≡ t → (test ≡ true → Stays P R S x)
      → (test ≡ false → Stays P R S w) → Stays P R S (if test then x else w)
  stays_if test true x w is on_true on_false = subst (λ b. Stays P R S (if b then x else w)) (sym is) (on_true is)
  stays_if test false x w is on_true on_false = subst (λ b. Stays P R S (if b then x else w)) (sym is) (on_false is)

  -- what is performed, and then what its result leads to
  pub stays_perform : {A : Type 0} (same : (d : D) → S d d) (on_and_on : (d e f : D) → S d e → S e f → S d f) (Q : A
      → Type 0) (t : Doing A) (d : D) (more : D → A → Script D) → Keeps P Q t
      → ((e : D) (a : A) → S d e → Q a → Stays P R S (more e a)) → Stays P R S (perform t d more)
  stays_perform same on_and_on Q (Gives a) d more keeps on = on d a (same d) keeps
  stays_perform same on_and_on Q (Wants op next) d more keeps on = (
    keeps.0,
    λ e reply first fit.
        stays_perform same on_and_on Q (next reply) e more (keeps.1 reply fit)
        (λ f a again q. on f a (on_and_on d e f first again) q),
  )
