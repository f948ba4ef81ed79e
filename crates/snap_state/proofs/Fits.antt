-- What a copy keeps of a board, of reservations and of the rest, in the fields of a file.
use Rattle.std.proofs.Common.{◌≡◌, ◌≤◌, ◌<◌, ◌^◌, ℕ, Bool, true, false, if◌then◌else◌, arith, refl, List, [], ◌∷◌, ◌++◌, length, length-append, Option, Some, None}
use Rattle.std.specs.List.{All, list_all, list_any}
use Rattle.std.proofs.lemmas.List.Elements.{All-cons, All-nil}
use Rattle.std.proofs.lemmas.Bool.{and_parts, ltb-true}
use Rattle.api_calls.specs.declared.entropy.Entropy.{Entropy}
use Rattle.api_calls.specs.Form.{holds}
use Rattle.board_table.specs.Board.{Board}
use Rattle.board_table.specs.Kept.{AreLines, IsKept, IsSmallState, IsWord}
use Rattle.guest_memory.specs.Ram.{page_size}
use Rattle.port_table.specs.declared.state.PortState.{PortState}
use Rattle.file_format.specs.Kinds.{flag, number16, number64}
use Rattle.file_format.specs.Whole.{counted}
use Rattle.file_format.proofs.Fitting.{every, fits16, fits32, fits64, fits_bytes, fits_flag, fits_list}
use Rattle.snap_harts.specs.HartStates.{hart_state}
use Rattle.snap_harts.proofs.Fits.{state_fits}
use Rattle.snap_state.specs.declared.copy.Reservation.{Reservation}
use Rattle.snap_state.specs.declared.sections.Section.TheVariants as sections
use Rattle.snap_state.specs.Boards.{board}
use Rattle.snap_state.specs.Copies.{entropy, reservation, section}
use Rattle.snap_state.specs.Copy.{saved_board}
use Rattle.snap_state.specs.Sections.{configured, is_offering, offering_bytes, sections_of}
use Rattle.snap_state.specs.Valid.{is_entropy, is_reserved}
use Rattle.snap_state.proofs.Longest.{entropy_within}
use Rattle.snap_state.proofs.Sectioned.{offering_short}
use Rattle.snap_state.proofs.Texts.{limiters_fit}

pub board_fits : (harts : ℕ) (b : Board) → harts ≤ 32 → IsKept harts b → board.Fits (saved_board b)
unfolding board
board_fits harts b few is =
    let console = is.console in
    let enables = is.many_enables in
    let software = is.many_software in
    let deadlines = is.many_deadlines in
    let states = is.many_states in (
      fits16 b.pending is.pending,
      (
        fits_list number16 b.enables (omega (arith, enables, few)) (every AreLines number16.Fits b.enables fits16 is.enables),
        (
          fits_list flag b.software (omega (arith, software, few)) (λ k d below. fits_flag _),
          (
            fits_list number64 b.deadlines (omega (arith, deadlines, few)) (every IsWord number64.Fits b.deadlines fits64 is.deadlines),
            (
              fits_list hart_state b.states (omega (arith, states, few)) (every IsSmallState hart_state.Fits b.states state_fits is.states),
              fits_bytes b.console (omega (arith, console)),
            ),
          ),
        ),
      ),
    )

pub reservation_fits : (pages harts : ℕ) (r : Reservation) → pages ≤ 2 ^ 20 → harts ≤ 32 → is_reserved pages harts r ≡ true → reservation.Fits r
unfolding reservation
reservation_fits pages harts r some few is =
    let p2 = and_parts _ _ is in
    let p1 = and_parts _ _ p2.0 in
    let p0 = and_parts _ _ p1.0 in
    let page = ltb-true r.page pages p0.0 in
    let hart = ltb-true r.hart harts p0.1 in
    let offset = ltb-true r.offset page_size p1.1 in
    (fits32 r.page (omega (arith, page, some)), (fits32 r.hart (omega (arith, hart, few)), fits32 r.offset (omega (arith, offset))))

pub reservations_fit : (pages harts : ℕ) (rs : List Reservation) → pages ≤ 2 ^ 20 → harts ≤ 32 → list_all (is_reserved pages harts) rs ≡ true
    → All reservation.Fits rs
reservations_fit pages harts [] some few are = All-nil reservation.Fits
reservations_fit pages harts (r ∷ rs) some few are =
    let p = and_parts (is_reserved pages harts r) (list_all (is_reserved pages harts) rs) are in
    All-cons reservation.Fits r rs (reservation_fits pages harts r some few p.0) (reservations_fit pages harts rs some few p.1)

-- ---- sections

offering_fits : (ports : List PortState) → length ports < 2 ^ 31 → section.Fits (sections.Offering (offering_bytes ports))
unfolding section
offering_fits ports few =
    (fits32 1 (omega arith), (refl, fits_bytes (offering_bytes ports) (omega (arith, few, offering_short ports))))

limits_fit : (e : Entropy) → is_entropy e ≡ true → entropy.Fits e
unfolding entropy
limits_fit e is = limiters_fit e.rate_limiter is

counted_fits : (e : Entropy) → entropy.Fits e → (counted entropy).Fits e
unfolding counted
counted_fits e fits =
    let bytes : List ℕ = entropy.bytes e in
    let short = entropy_within.at (bytes ++ []) e [] (entropy.again e [] fits) in
    (fits, fits_bytes bytes (omega (arith, short, length-append {A = ℕ} bytes [])))

entropy_fits : (e : Entropy) → is_entropy e ≡ true → section.Fits (sections.Entropy e)
unfolding section
entropy_fits e is = (fits32 3 (omega arith), (refl, counted_fits e (limits_fit e is)))

configured_fit : (e : Option Entropy) → holds is_entropy e ≡ true → All section.Fits (configured e)
configured_fit None is = All-nil section.Fits
configured_fit (Some e) is = All-cons section.Fits (sections.Entropy e) [] (entropy_fits e is) (All-nil section.Fits)

pub sections_fit : (ports : List PortState) (e : Option Entropy) → length ports < 2 ^ 31 → holds is_entropy e ≡ true
    → All section.Fits (sections_of ports e)
sections_fit ports e few is = by (list_any is_offering ports)
  where
    by : (there : Bool) → All section.Fits ((if there then sections.Offering (offering_bytes ports) ∷ [] else []) ++ configured e)
    by true =
        All-cons section.Fits (sections.Offering (offering_bytes ports)) (configured e) (offering_fits ports few) (configured_fit e is)
    by false = configured_fit e is
