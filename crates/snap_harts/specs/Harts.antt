-- A hart in a state file.
use Rattle.std.specs.Prelude.{◌≡◌, ℕ, zero, suc, refl}
use Rattle.std.proofs.Common.{sym, ap}
use Rattle.file_format.specs.Format.{Format}
use Rattle.file_format.specs.Kinds.{byte, number32, number64, flag, optional, times, just, nothing, variant, chosen_by}
use Rattle.file_format.specs.Kinds.{◌&◌, made_of}
use Rattle.snap_harts.specs.declared.hart.SavedHart.{SavedHart}
use Rattle.snap_harts.specs.declared.hart.HartPlace.{HartPlace}
use Rattle.snap_harts.specs.declared.hart.HartPlace.TheVariants.{Begin, BeginWaiting, Idle, IdleWaiting, Access}

-- ---- where it is: a byte, and behind 4 the instruction's word

abbrev pub place_code : HartPlace → ℕ
place_code Begin = 0
place_code BeginWaiting = 1
place_code Idle = 2
place_code IdleWaiting = 3
place_code (Access word) = 4

abbrev pub word_of : HartPlace → ℕ
word_of (Access word) = word
word_of _ = 0

abbrev pub places : ℕ → Format HartPlace
places zero = just Begin
places (suc zero) = just BeginWaiting
places (suc (suc zero)) = just Idle
places (suc (suc (suc zero))) = just IdleWaiting
places (suc (suc (suc (suc zero)))) = variant Access word_of (λ _. refl) number32
places (suc (suc (suc (suc (suc n))))) = nothing

pub place_code-is : (code : ℕ) (p : HartPlace) → (places code).Fits p → code ≡ place_code p
place_code-is zero p fits = sym (ap place_code fits)
place_code-is (suc zero) p fits = sym (ap place_code fits)
place_code-is (suc (suc zero)) p fits = sym (ap place_code fits)
place_code-is (suc (suc (suc zero))) p fits = sym (ap place_code fits)
place_code-is (suc (suc (suc (suc zero)))) p fits = sym (ap place_code fits.0)
place_code-is (suc (suc (suc (suc (suc n))))) p fits = absurd fits

unfoldable pub place : Format HartPlace
place = chosen_by byte places place_code place_code-is

-- ---- the hart: x1 to x31 and pc; its CSRs; and where it is

unfoldable pub hart : Format SavedHart
hart =
    made_of
    (λ h. (
      (h.x, h.pc),
      (
        (h.sstatus, (h.sie, (h.stvec, (h.sscratch, (h.sepc, (h.scause, h.stval)))))),
        (h.count, (h.is_look_due, (h.held, h.place))),
      ),
    ))
    (λ (
      (x, pc),
      (
        (sstatus, (sie, (stvec, (sscratch, (sepc, (scause, stval)))))),
        (count, (is_look_due, (held, place))),
      ),
    ).
    record {
      x = x;
      pc = pc;
      sstatus = sstatus;
      sie = sie;
      stvec = stvec;
      sscratch = sscratch;
      sepc = sepc;
      scause = scause;
      stval = stval;
      count = count;
      is_look_due = is_look_due;
      held = held;
      place = place;
    })
    (λ _. refl) (λ _. refl)
    ((times 31 number64 & number64)
    & (number64 & number64 & number64 & number64 & number64 & number64 & number64)
    & (byte & flag & optional number64 & place))
