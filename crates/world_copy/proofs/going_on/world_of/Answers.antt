use Rattle.std.proofs.Common.{◌≡◌, ◌*◌, sym, subst, ap, ◌∙◌, ℕ, List, length, arith}
use Rattle.std.specs.List.{list_all}
use Rattle.guest_memory.specs.Ram.{page_size}
use Rattle.guest_pages.specs.Made.{PagesValue}
use Rattle.guest_pages.specs.Pages.{PageValue, flat_of, marks_of}
use Rattle.snap_state.specs.declared.copy.Reservation.{Reservation}
use Rattle.snap_harts.specs.declared.hart.SavedHart.{SavedHart}
use Rattle.snap_state.specs.Valid.{is_hart, is_reserved}
use Rattle.flat_snapshot.specs.Carried.{carried_guest, slots_with}
use Rattle.vm_world.specs.Worlds.{IsWorld, WorldValue}
use Rattle.world_copy.specs.GoingOn.{GoOn}
use Rattle.snap_state.proofs.Rules.{attached, few_harts, few_pages, rules_of}
use Rattle.world_copy.proofs.GoingOn.{goes_on}
use Rattle.world_copy.proofs.going_on.world_of.Goals as goal

pub board_of-requires-clause-valid : goal.board_of-requires-clause-valid
board_of-requires-clause-valid c = (rules_of c.args.copy c.requires.valid).board

pub board_of-requires-clause-few : goal.board_of-requires-clause-few
board_of-requires-clause-few c = few_harts c.args.copy (rules_of c.args.copy c.requires.valid)

pub harts_of-requires : goal.harts_of-requires
harts_of-requires c =
    ap (λ (l : List SavedHart). list_all (is_hart c.args.copy.pages) l) c.as_slice.ensures
    ∙ (rules_of c.args.copy c.requires.valid).harts

pub reserve-requires-clause-few : goal.reserve-requires-clause-few
reserve-requires-clause-few c = few_harts c.args.copy (rules_of c.args.copy c.requires.valid)

pub reserve-requires-clause-there : goal.reserve-requires-clause-there
reserve-requires-clause-there c =
    let copy = c.args.copy in
    let harts = copy.configuration.machine.vcpu_count in
    ap (λ (l : List Reservation). list_all (is_reserved (length c.reserve_for.new.self.pages) harts) l) c.as_slice-reservations.ensures
    ∙ ap (λ (v : PagesValue). list_all (is_reserved (length v.pages) harts) copy.reservations) c.in_ok-reserve_for.ensures.ok
    ∙ ap (λ (n : ℕ). list_all (is_reserved n harts) copy.reservations) c.requires.count
    ∙ (rules_of copy c.requires.valid).reservations

pub from_parts-requires-clause-few : goal.from_parts-requires-clause-few
from_parts-requires-clause-few c =
    omega (arith, c.reserve.ensures.count, ap (λ (v : PagesValue). length v.pages) c.in_ok-reserve_for.ensures.ok, c.requires.count, few_pages c.args.copy (rules_of c.args.copy c.requires.valid))

pub from_parts-requires-clause-few_ports : goal.from_parts-requires-clause-few_ports
from_parts-requires-clause-few_ports c =
    let on = attached c.args.copy (rules_of c.args.copy c.requires.valid) in
    omega (arith, ap length c.in_ok-ports.ensures, ap length c.into_vec.ensures, on.ports, on.few)

pub returns-clause-whole : goal.returns-clause-whole
returns-clause-whole c =
    c.len-size.ensures.bytes ∙ ap (λ (n : ℕ). page_size * n) (c.len-size.ensures.pages ∙ c.requires.count)

pub returns-clause-world : goal.returns-clause-world
returns-clause-world c =
    let copy = c.args.copy in
    let whole : length (flat_of c.args.pages.pages).bytes ≡ page_size * copy.pages =
    c.len-size.ensures.bytes ∙ ap (λ (n : ℕ). page_size * n) (c.len-size.ensures.pages ∙ c.requires.count) in
    let same : c.reserve_for.new.self.pages ≡ c.args.pages.pages = ap (λ (v : PagesValue). v.pages) c.in_ok-reserve_for.ensures.ok in
    subst (λ (w : WorldValue). IsWorld w (carried_guest copy (flat_of c.args.pages.pages).bytes)) (sym c.from_parts.ensures)
    (goes_on copy c.args.pages.pages c.reserve.new.pages.pages c.in_ok-board.board c.in_ok-ports.ports.items c.in_ok-harts.harts.items
    c.in_ok-devices.devices.items c.requires.valid whole
    (c.reserve.ensures.bytes ∙ ap (λ (l : List PageValue). (flat_of l).bytes) same)
    (c.reserve.ensures.reserved
    ∙ ap (λ (l : List Reservation). slots_with l (flat_of c.reserve_for.new.self.pages).reserved) c.as_slice-reservations.ensures
    ∙ ap (λ (l : List PageValue). slots_with copy.reservations (flat_of l).reserved) same)
    c.requires.free (c.reserve.ensures.marks ∙ ap marks_of same) c.requires.unmarked c.in_ok-board.ensures
    (c.in_ok-ports.ensures ∙ c.into_vec.ensures)
    (subst (λ (l : List SavedHart). GoOn l c.in_ok-harts.harts.items) c.as_slice.ensures c.in_ok-harts.ensures)
    (c.in_ok-devices.ensures ∙ c.into_vec-2.ensures))

pub reserve-requires-clause-room : goal.reserve-requires-clause-room
reserve-requires-clause-room c =
    c.in_ok-reserve_for.ensures.room
