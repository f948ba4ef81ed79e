-- A hart, and whether it runs, in the fields of a file: each number that a board or a hart keeps fits its own.
use Rattle.std.proofs.Common.{◌≡◌, ◌<◌, ◌≤◌, ℕ, ◌/◌, ◌^◌, Bool, true, false, Option, Some, None, bit_and, refl, arith, subst}
use Rattle.std.proofs.lemmas.Nat.{and_shr}
use lib.Bits.{and_zero_r}
use Rattle.file_format.specs.Kinds.{number64, optional}
use Rattle.file_format.proofs.Fitting.{every, fits8, fits32, fits64, fits_flag, fits_optional, fits_times}
use Rattle.board_table.specs.declared.hart_state.HartState.{HartState}
use Rattle.board_table.specs.declared.hart_state.HartState.TheVariants.{Started, Stopped, StartPending}
use Rattle.board_table.specs.Kept.{IsSmallState}
use Rattle.guest_memory.specs.Ram.{is_ram}
use Rattle.rv_supervisor.specs.declared.regs.Turn.{Turn}
use Rattle.rv_supervisor.specs.declared.regs.Turn.TheVariants as turn
use Rattle.rv_supervisor.specs.Csrs.{interrupts, status}
use Rattle.hart_trace.specs.Kept.{IsBegun, IsHeld, IsKept, IsWord}
use Rattle.hart_trace.specs.States.{Hart}
use Rattle.snap_harts.specs.Copy.{place_of, saved_hart}
use Rattle.snap_harts.specs.Harts.{hart, place}
use Rattle.snap_harts.specs.HartStates.{hart_state}

-- ---- whether a hart runs

pub state_fits : (s : HartState) → IsSmallState s → hart_state.Fits s
unfolding hart_state
state_fits Started small = (fits8 0 (omega arith), refl)
state_fits Stopped small = (fits8 1 (omega arith), refl)
state_fits (StartPending pc word) small = (fits8 2 (omega arith), (refl, (fits64 pc small.0, fits64 word small.1)))

-- ---- a hart, in a memory that isn't too large

status_small : (sie spie : Bool) → status sie spie < 2 ^ 64
status_small true true = omega arith
status_small true false = omega arith
status_small false true = omega arith
status_small false false = omega arith

held_small : (size at : ℕ) → size ≤ 2 ^ 32 → is_ram size at 8 ≡ true → at < 2 ^ 64
held_small size at few is = grind (arith, few, is)

held_fits : (size : ℕ) (held : Option ℕ) → size ≤ 2 ^ 32 → IsHeld size held → (optional number64).Fits held
held_fits size None few is = fits_optional number64 None tt
held_fits size (Some at) few is = fits_optional number64 (Some at) (fits64 at (held_small size at few is.1))

place_fits : (begun : Option ℕ) (t : Turn) → ((word : ℕ) → begun ≡ Some word → word < 2 ^ 32) → place.Fits (place_of begun t)
unfolding place
place_fits (Some word) t small = (fits8 4 (omega arith), (refl, fits32 word (small word refl)))
place_fits None turn.Fetch small = (fits8 0 (omega arith), refl)
place_fits None turn.Look small = (fits8 0 (omega arith), refl)
place_fits None turn.WakeLook small = (fits8 1 (omega arith), refl)
place_fits None turn.Idle small = (fits8 2 (omega arith), refl)
place_fits None turn.WakeIdle small = (fits8 3 (omega arith), refl)

word_small : (h : Hart) (begun : Option ℕ) → h.begun ≡ begun → IsBegun begun h.regs → (word : ℕ) → begun ≡ Some word → word < 2 ^ 32
word_small h None is holds word there = cc
word_small h (Some own) is holds word there =
    let same : own ≡ word = cc in
    subst (λ (n : ℕ). n < 2 ^ 32) same holds.0

sie_small : (n : ℕ) → bit_and n interrupts ≡ n → n < 2 ^ 64
sie_small n is =
    let high : bit_and n interrupts / 2 ^ 10 ≡ bit_and (n / 2 ^ 10) 0 = and_shr n interrupts 10 in
    omega (arith, high, and_zero_r (n / 2 ^ 10), is)

pub hart_fits : (size : ℕ) (h : Hart) → size ≤ 2 ^ 32 → IsKept size h → hart.Fits (saved_hart h)
unfolding hart
hart_fits size h few is =
    let r = is.regs in
    let count = r.few in (
      (fits_times number64 31 h.regs.x r.many (every IsWord number64.Fits h.regs.x fits64 r.x), fits64 h.regs.pc r.pc),
      (
        (
          fits64 _ (status_small h.regs.status_sie h.regs.status_spie),
          (
            fits64 h.regs.sie (sie_small h.regs.sie r.sie),
            (
              fits64 h.regs.stvec r.stvec,
              (fits64 h.regs.sscratch r.sscratch, (fits64 h.regs.sepc r.sepc, (fits64 h.regs.scause r.scause, fits64 h.regs.stval r.stval))),
            ),
          ),
        ),
        (
          fits8 h.regs.count (omega (arith, count)),
          (
            fits_flag _,
            (held_fits size h.regs.held few r.held, place_fits h.begun h.regs.turn (word_small h h.begun refl is.begun)),
          ),
        ),
      ),
    )
