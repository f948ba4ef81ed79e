-- By which pace turns of several harts are made.
use Rattle.std.proofs.Common.{Bool, ◌≡◌, ◌+◌, ◌-◌, ℕ, zero, suc, refl, sym, ap, ◌∙◌, subst, arith, Option, length}
use Rattle.pause_gate.specs.Tally.{Tally}
use Rattle.vm_world.specs.Worlds.{WorldValue}
use Rattle.monitor_running.specs.declared.pacing.Pace.{Pace}
use Rattle.monitor_running.specs.declared.ran.Ran.{Ran}
use Rattle.monitor_running.specs.declared.steering.Steering.{Steering}
use Rattle.monitor_running.specs.Paced.{AreSeveral, IsPaced}
use Rattle.monitor_running.specs.Paced.IsPaced.{Rotation}

-- only the flag of guest time is another
pub timed_same : (p q : Pace) → q ≡ p → q ≡ record p { is_timed = q.is_timed }
timed_same p q is = subst (λ (x : Pace). x ≡ record p { is_timed = x.is_timed }) (sym is) refl

pub timed_so : (p q : Pace) (is_timed : Bool) → q ≡ record p { is_timed = is_timed } → q ≡ record p { is_timed = q.is_timed }
timed_so p q is_timed is = subst (λ (x : Pace). x ≡ record p { is_timed = x.is_timed }) (sym is) refl

-- where no rotation is left, counting changes nothing
due_same : (p q : Pace) → p.left ≡ 0 → q ≡ record p { left = p.left - 1 } → q ≡ p
due_same p q none counted =
    let same : p.left - 1 ≡ p.left = omega (arith, none) in
    counted ∙ ap (λ (n : ℕ). record p { left = n }) same

-- a slice was due
pub slice_made : {Q : Type 0} (tally : Q → Tally) (s : Steering Q) (q : Pace) (end : Option Ran) (now : Steering Q) (w v : WorldValue)
    → s.pace.left ≡ 0 → q ≡ record s.pace { left = s.pace.left - 1 } → AreSeveral (length s.passes.items) w
    → (AreSeveral (length s.passes.items) w → q.left ≡ 0 → IsPaced tally end (record s { pace = q }) w now v)
    → IsPaced tally end s w now v
slice_made tally s q end now w v none counted several made =
    let same = due_same s.pace q none counted in
    subst (λ (x : Pace). IsPaced tally end (record s { pace = x }) w now v) same
    (made several (ap (λ (x : Pace). x.left) same ∙ none))

one_less : (n m : ℕ) → (n ≡ 0 → ⊥) → m ≡ n - 1 → n ≡ m + 1
one_less zero m some is = absurd (some refl)
one_less (suc n) m some is = omega (arith, is)

-- a rotation was
pub rotation_made : {Q : Type 0} (tally : Q → Tally) (s : Steering Q) (q : Pace) (end : Option Ran) (now : Steering Q)
    (w v : WorldValue) → (s.pace.left ≡ 0 → ⊥) → q ≡ record s.pace { left = s.pace.left - 1 } → now.pace.left ≡ q.left
    → AreSeveral (length s.passes.items) w → IsPaced tally end s w now v
rotation_made tally s q end now w v some counted same several =
    Rotation several (one_less s.pace.left now.pace.left some (same ∙ ap (λ (x : Pace). x.left) counted))
