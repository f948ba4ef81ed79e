-- The body of a state file.
use Rattle.std.specs.Prelude.{◌≡◌, ℕ, zero, suc, refl, nat_le, Bool, None, List, [], length}
use Rattle.std.proofs.Common.{sym, ap}
use Rattle.file_format.specs.Format.{Format}
use Rattle.file_format.specs.Kinds.{number32, number64, flag, byte_list, list_of, passing, just, nothing, variant, chosen_by, optional, ◌&◌, made_of}
use Rattle.file_format.specs.declared.version.Version.{Version}
use Rattle.file_format.specs.declared.version.Version.TheVariants.{One, Two}
use Rattle.file_format.specs.Ends.{listed}
use Rattle.file_format.specs.Whole.{counted}
use Rattle.api_calls.specs.declared.entropy.Entropy.{Entropy}
use Rattle.port_table.specs.declared.state.PortState.{PortState}
use Rattle.port_table.specs.Window.{most_ports}
use Rattle.guest_devices.specs.declared.device.Device.{Device}
use Rattle.snap_devices.specs.Ports.{port}
use Rattle.snap_devices.specs.Devices.{device}
use Rattle.snap_state.specs.Configured.{configuration}
use Rattle.snap_state.specs.Boards.{board}
use Rattle.snap_state.specs.Limits.{limiter}
use Rattle.snap_state.specs.declared.board.SavedBoard.{SavedBoard}
use Rattle.snap_harts.specs.declared.hart.SavedHart.{SavedHart}
use Rattle.snap_harts.specs.Harts.{hart}
use Rattle.snap_state.specs.declared.copy.Reservation.{Reservation}
use Rattle.snap_state.specs.declared.sections.Section.{Section}
use Rattle.snap_state.specs.declared.sections.Section.TheVariants as sections
use Rattle.snap_state.specs.declared.copy.StateCopy.{StateCopy}

-- what one hart has reserved in one page
unfoldable pub reservation : Format Reservation
reservation =
    made_of (λ r. (r.page, (r.hart, r.offset)))
    (λ (page, (hart, offset)). record { page = page; hart = hart; offset = offset })
    (λ _. refl) (λ _. refl)
    (number32 & number32 & number32)

-- the devices, of which there are as many as ports at most
abbrev pub are_few : List Device → Bool
are_few ds = nat_le (length ds) most_ports

unfoldable pub devices : Format (List Device)
devices = passing are_few (list_of (listed device))

-- the entropy device, as it is configured: its limits, if it has some
unfoldable pub entropy : Format Entropy
entropy =
    made_of (λ e. e.rate_limiter) (λ rate_limiter. record { rate_limiter = rate_limiter }) (λ _. refl) (λ _. refl)
    (optional limiter)

-- ---- a section: its tag, and behind it what stands under that, as a list of bytes

abbrev pub tag_of : Section → ℕ
tag_of (sections.Offering bytes) = 1
tag_of (sections.Entropy e) = 3

abbrev pub offering_of : Section → List ℕ
offering_of (sections.Offering bytes) = bytes
offering_of _ = []

abbrev pub configured_of : Section → Entropy
configured_of (sections.Entropy e) = e
configured_of _ = record { rate_limiter = None }

abbrev pub tagged : ℕ → Format Section
tagged zero = nothing
tagged (suc zero) = variant sections.Offering offering_of (λ _. refl) byte_list
tagged (suc (suc zero)) = nothing
tagged (suc (suc (suc zero))) = variant sections.Entropy configured_of (λ _. refl) (counted entropy)
tagged (suc (suc (suc (suc n)))) = nothing

pub tag_of-is : (tag : ℕ) (s : Section) → (tagged tag).Fits s → tag ≡ tag_of s
tag_of-is zero s fits = absurd fits
tag_of-is (suc zero) s fits = sym (ap tag_of fits.0)
tag_of-is (suc (suc zero)) s fits = absurd fits
tag_of-is (suc (suc (suc zero))) s fits = sym (ap tag_of fits.0)
tag_of-is (suc (suc (suc (suc n)))) s fits = absurd fits

unfoldable pub section : Format Section
section = chosen_by number32 tagged tag_of tag_of-is

-- version 1 has no place for sections
unfoldable pub sections_in : Version → Format (List Section)
sections_in One = just []
sections_in Two = list_of section

-- Behind the harts stand the ports and the devices, each as a list of its bytes; the reservations; and the sections, as the
-- version has them.
abbrev pub behind_harts : Version → Format (List PortState × (List Device × (List Reservation × List Section)))
behind_harts v = list_of (counted port) & devices & list_of reservation & sections_in v

-- Behind guest time stand the board, the harts, and what stands behind those.
abbrev pub behind_time : Version → Format (SavedBoard × (List SavedHart × (List PortState × (List Device × (List Reservation × List Section)))))
behind_time v = board & list_of hart & behind_harts v

-- The configuration, the number of pages, track_dirty_pages once more and guest time, and what stands behind that.
unfoldable pub state_copy : Version → Format StateCopy
state_copy v =
    made_of
    (λ c. (
      (c.configuration, (c.pages, (c.track_dirty_pages, c.guest_time))),
      (c.board, (c.harts, (c.ports, (c.devices, (c.reservations, c.sections))))),
    ))
    (λ ((configuration, (pages, (track_dirty_pages, guest_time))), (board, (harts, (ports, (devices, (reservations, sections)))))).
    record {
      configuration = configuration;
      pages = pages;
      track_dirty_pages = track_dirty_pages;
      guest_time = guest_time;
      board = board;
      harts = harts;
      ports = ports;
      devices = devices;
      reservations = reservations;
      sections = sections;
    })
    (λ _. refl) (λ _. refl)
    ((configuration & number32 & flag & number64) & behind_time v)
