-- A hart that a copy may have and its copy, a board and its copy.
use Rattle.std.proofs.Common.{◌≡◌, ℕ, Bool, true, false, eqb, refl, sym}
use Rattle.std.proofs.lemmas.Bool.{eqb-true, and_parts}
use Rattle.board_table.specs.Board.{Board}
use Rattle.rv_supervisor.specs.Csrs.{bit, status}
use Rattle.snap_harts.specs.declared.hart.SavedHart.{SavedHart}
use Rattle.snap_harts.specs.declared.hart.HartPlace.{HartPlace}
use Rattle.snap_harts.specs.declared.hart.HartPlace.TheVariants.{Begin, BeginWaiting, Idle, IdleWaiting, Access}
use Rattle.snap_harts.specs.Copy.{turn_of, regs_of, hart_of, is_due, saved_hart}
use Rattle.snap_harts.proofs.Harts.{place_again}
use Rattle.snap_state.specs.Copy.{board_at, saved_board}
use Rattle.snap_state.specs.Valid.{is_placed, is_hart, has_bits, is_granule, asks}

due_again : (due : Bool) (p : HartPlace) → is_placed due p ≡ true → is_due (turn_of due p) ≡ due
due_again false Begin e = refl
due_again true Begin e = refl
due_again true BeginWaiting e = refl
due_again false BeginWaiting e = absurd cc
due_again false Idle e = refl
due_again true Idle e = absurd cc
due_again false IdleWaiting e = refl
due_again true IdleWaiting e = absurd cc
due_again false (Access word) e = refl
due_again true (Access word) e = absurd cc

pub hart_again : (pages : ℕ) (s : SavedHart) → is_hart pages s ≡ true → saved_hart (hart_of s) ≡ s
hart_again pages s is =
    let p5 = and_parts _ (asks s.place (regs_of s)) is in
    let p4 = and_parts _ (is_placed s.is_look_due s.place) p5.0 in
    let p3 = and_parts _ (is_granule pages s.held) p4.0 in
    let p2 = and_parts _ (has_bits s) p3.0 in
    let bits = and_parts _ (eqb (status (bit 1 s.sstatus) (bit 5 s.sstatus)) s.sstatus) p2.1 in
    let status_is : status (bit 1 s.sstatus) (bit 5 s.sstatus) ≡ s.sstatus = eqb-true _ _ bits.1 in
    λ i. record s {
      sstatus = status_is i;
      is_look_due = due_again s.is_look_due s.place p4.1 i;
      place = place_again s.is_look_due s.place i;
    }

pub board_back : (b : Board) → b.off ≡ false → board_at b.now (saved_board b) ≡ b
board_back b on = λ i. record b { off = sym on i }
