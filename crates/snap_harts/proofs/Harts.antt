-- A hart and its copy.
use Rattle.std.proofs.Common.{◌≡◌, ℕ, Bool, true, false, Option, Some, None, refl, sym}
use Rattle.rv_supervisor.specs.declared.regs.Turn.{Turn}
use Rattle.rv_supervisor.specs.declared.regs.Turn.TheVariants as turn
use Rattle.rv_supervisor.specs.Csrs.{bit, status}
use Rattle.hart_trace.specs.States.{Hart}
use Rattle.snap_harts.specs.declared.hart.HartPlace.{HartPlace}
use Rattle.snap_harts.specs.declared.hart.HartPlace.TheVariants.{Begin, BeginWaiting, Idle, IdleWaiting, Access}
use Rattle.snap_harts.specs.Copy.{turn_of, begun_at, hart_of, is_due, place_of, saved_hart, IsBegunByFetch}

sie_back : (sie spie : Bool) → bit 1 (status sie spie) ≡ sie
sie_back false false = refl
sie_back false true = refl
sie_back true false = refl
sie_back true true = refl

spie_back : (sie spie : Bool) → bit 5 (status sie spie) ≡ spie
spie_back false false = refl
spie_back false true = refl
spie_back true false = refl
spie_back true true = refl

turn_back : (begun : Option ℕ) (t : Turn) → ((word : ℕ) → begun ≡ Some word → t ≡ turn.Fetch) → turn_of (is_due t) (place_of begun t) ≡ t
turn_back None turn.Fetch by_fetch = refl
turn_back None turn.Look by_fetch = refl
turn_back None turn.WakeLook by_fetch = refl
turn_back None turn.Idle by_fetch = refl
turn_back None turn.WakeIdle by_fetch = refl
turn_back (Some word) t by_fetch = sym (by_fetch word refl)

begun_back : (begun : Option ℕ) (t : Turn) → begun_at (place_of begun t) ≡ begun
begun_back None turn.Fetch = refl
begun_back None turn.Look = refl
begun_back None turn.WakeLook = refl
begun_back None turn.Idle = refl
begun_back None turn.WakeIdle = refl
begun_back (Some word) t = refl

pub hart_back : (h : Hart) → IsBegunByFetch h → hart_of (saved_hart h) ≡ h
hart_back h by_fetch = λ i. record {
  regs = record h.regs {
    status_sie = sie_back h.regs.status_sie h.regs.status_spie i;
    status_spie = spie_back h.regs.status_sie h.regs.status_spie i;
    turn = turn_back h.begun h.regs.turn by_fetch i;
  };
  begun = begun_back h.begun h.regs.turn i;
}

pub place_again : (due : Bool) (p : HartPlace) → place_of (begun_at p) (turn_of due p) ≡ p
place_again false Begin = refl
place_again true Begin = refl
place_again due BeginWaiting = refl
place_again due Idle = refl
place_again due IdleWaiting = refl
place_again due (Access word) = refl
