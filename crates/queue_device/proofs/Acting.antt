-- What acts keep, by how a tree is made.
use Rattle.std.proofs.Common.{◌≡◌, refl, sym, subst, Bool, true, false, if◌then◌else◌, Some}
use Rattle.vm_types.specs.declared.op.Op.{Op}
use Rattle.vm_types.specs.declared.reply.Reply.{Reply}
use Rattle.vm_types.specs.Fits.{Fits}
use Rattle.device_trace.specs.Doing.{Doing, Gives, Wants, asked, led}
use Rattle.device_trace.specs.Keeps as trees
use Rattle.device_trace.specs.Keeps.{Stays}
use Rattle.device_trace.specs.Script.{Script}
use Rattle.queue_device.specs.declared.lanes.Rounds.{Rounds}
use Rattle.queue_device.specs.Acting.{Acting, ActingKeeps, Acts, Comes, performing}
use Rattle.queue_device.specs.Confined.{LeavesRounds}
use Rattle.queue_device.specs.Rounds.{during}
use Rattle.queue_device.specs.Service.{Queued}

module _ {E : Type 0} (P : Op → Type 0) where
  -- what a kind does leaves the rounds
  pub stays_during : {A : Type 0} (R : Queued E → Type 0) (Q : A → Type 0) (t : Acting E A) (r : Rounds) (more : Queued E
      → A → Script (Queued E)) → ((d e : Queued E) → R d → LeavesRounds d e → R e)
      → ((e : E) → R (record { rounds = r; own = e })) → ActingKeeps P Q t
      → ((d : Queued E) (a : A) → R d → Q a → Stays P R LeavesRounds (more d a)) → Stays P R LeavesRounds (during t r more)
  stays_during R Q (Comes e a) r more left has keeps on = on (record { rounds = r; own = e }) a (has e) keeps
  stays_during R Q (Acts e op next) r more left has keeps on = (
    keeps.0,
    λ d reply same fit.
        let here : R d = left (record { rounds = r; own = e }) d (has e) same in
        stays_during R Q (next d.own reply) d.rounds more left
        (λ f. left d (record { rounds = d.rounds; own = f }) here refl) (keeps.1 d.own reply fit) on,
  )

  pub performing_keeps : {A B : Type 0} (Q : A → Type 0) (R : B → Type 0) (t : Doing A) (e : E) (more : E → A → Acting E B)
      → trees.Keeps P Q t → ((f : E) (a : A) → Q a → ActingKeeps P R (more f a)) → ActingKeeps P R (performing t e more)
  performing_keeps Q R (Gives a) e more keeps on = on e a keeps
  performing_keeps Q R (Wants op next) e more keeps on =
      (keeps.0, λ f reply fit. performing_keeps Q R (next reply) f more (keeps.1 reply fit) on)

  pub keeps_either : {B : Type 0} (R : B → Type 0) (test : Bool) (x y : Acting E B)
      → (test ≡ true → ActingKeeps P R x) → (test ≡ false → ActingKeeps P R y) → ActingKeeps P R (if test then x else y)
  keeps_either R true x y on off = on refl
  keeps_either R false x y on off = off refl

-- ---- what is performed, where it wants an act

-- what is kept on a condition
pub keeps_when : {A : Type 0} (C : Type 0) (P : Op → Type 0) (Q : A → Type 0) (t : Doing A) → (C → trees.Keeps P Q t)
    → trees.Keeps (λ op. C → P op) (λ a. C → Q a) t
keeps_when C P Q (Gives a) keeps = keeps
keeps_when C P Q (Wants op on) keeps =
    (λ c. (keeps c).0, λ reply fit. keeps_when C P Q (on reply) (λ c. (keeps c).1 reply fit))

pub led_keeps : {A : Type 0} (P : Op → Type 0) (Q : A → Type 0) (t : Doing A) (op : Op) → asked t ≡ Some op
    → trees.Keeps P Q t → P op × ((reply : Reply) → Fits op reply → trees.Keeps P Q (led t reply))
led_keeps P Q (Gives a) op is keeps = absurd (cc)
led_keeps P Q (Wants o on) op is keeps =
    let same : o ≡ op = cc in
    (subst P same keeps.0, λ reply fit. keeps.1 reply (subst (λ (x : Op). Fits x reply) (sym same) fit))

pub performing_acts : {E A B : Type 0} (t : Doing A) (e : E) (more : E → A → Acting E B) (op : Op) → asked t ≡ Some op
    → performing t e more ≡ Acts e op (λ f reply. performing (led t reply) f more)
performing_acts (Gives a) e more op is = absurd (cc)
performing_acts (Wants o on) e more op is = cc
