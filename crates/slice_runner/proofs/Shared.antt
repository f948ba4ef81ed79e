-- What the actors of a slice leave, from a world in a table to the world that its places are then.
use Rattle.std.proofs.Common.{◌≡◌, ℕ, List, ◌++◌, length, map, sym, ap, ◌∙◌, subst}
use Rattle.vm_types.specs.declared.entry.Entry.{Entry}
use Rattle.vm_types.specs.declared.op.OutOp.{OutOp}
use Rattle.vm_types.specs.declared.reply.Reply.{Reply}
use Rattle.board_table.specs.Board.{Board}
use Rattle.guest_pages.specs.Flat.{ArePages}
use Rattle.guest_pages.specs.Pages.{PageValue}
use Rattle.guest_devices.specs.declared.device.Device.{Device}
use Rattle.hart_trace.specs.States.{Hart}
use Rattle.pause_gate.specs.Tally.{Tally}
use Rattle.port_table.specs.declared.state.PortState.{PortState}
use Rattle.stamp_merge.specs.declared.journal.Journal.{Journal}
use Rattle.stamp_merge.specs.Journals.{all_of}
use Rattle.stamp_merge.specs.Merged.{journals_of}
use Rattle.stamp_merge.specs.Order.{IsOrder}
use Rattle.turn_table.specs.declared.held.Held.{Held}
use Rattle.turn_table.specs.declared.view.Round.{Round}
use Rattle.turn_table.specs.declared.view.View.{View}
use Rattle.turn_table.specs.Steps.{Told}
use Rattle.turn_work.specs.Work.{HasNoted}
use Rattle.vm_host.specs.Telling.{ClockKnown}
use Rattle.vm_world.specs.Worlds.{WorldValue, world_with}
use Rattle.machine_places.specs.declared.place.MachinePlace.{MachinePlace}
use Rattle.machine_places.specs.Acts.{IsMade, touch}
use Rattle.machine_places.specs.Laid.{AreLaid, ArePlaces, index_among, place_of}
use Rattle.slice_runner.specs.declared.places.Places.{Places}
use Rattle.slice_runner.specs.declared.stop.Stopped.{Stopped}
use Rattle.slice_runner.specs.declared.worker.DeviceWorker.{DeviceWorker}
use Rattle.slice_runner.specs.declared.worker.HartWorker.{HartWorker}
use Rattle.slice_runner.specs.declared.worker.TimerWorker.{TimerWorker}
use Rattle.slice_runner.specs.Ends.{BesideEnds, HartsWorked}
use Rattle.guest_pages.specs.Made.{made_of}
use Rattle.slice_runner.specs.Blanks.{pool_of}
use Rattle.slice_runner.specs.Slices.{IsSlice}
use Rattle.slice_runner.specs.Staff.{AreBack, AreDevices, AreHired, devices_of, harts_of, tracks_of}
use Rattle.slice_runner.specs.Values.{layout_in}
use Rattle.slice_runner.proofs.Valued.{IsAgain, told_again}
use Rattle.slice_runner.proofs.Whole.{whole}

abbrev pub TellsAll : View MachinePlace → List (Held MachinePlace) → Type 0
TellsAll v list = Told touch (λ (p : MachinePlace). p) IsMade v list

module _ (w : WorldValue) (r : Round MachinePlace) (v : View MachinePlace) (list : List (Held MachinePlace)) (laid : AreLaid w.pages w.ports w.board r.opens)
    (round_is : v.round ≡ r) (long : length list ≡ length v.round.opens) (told : TellsAll v list) where
  laid_now : AreLaid w.pages w.ports w.board v.round.opens
  laid_now = subst (λ (s : Round MachinePlace). AreLaid w.pages w.ports w.board s.opens) (sym round_is) laid

  pub left : IsAgain (length w.pages) (length w.ports) (map place_of list)
  left = told_again w.pages w.ports w.board v list laid_now.places_are long told

  module _ {Q K : Type 0} (serves : Q → Type 0) (tally : Q → Tally) (Answers : ℕ → OutOp → Reply → K → K → Type 0) (n : ℕ) (asked now : ClockKnown)
      (known over_known : K) (places : Places)
      (t u : TimerWorker Q) (ws vs : List (HartWorker Q)) (ds es : List (DeviceWorker Q)) (resting : List Device) (over passes later : List Q)
      (pages : List PageValue) (ports : List PortState) (b : Board) (harts : List Hart) (devices : List Device) (journals : List Journal)
      (stops : List Stopped) (events : List Entry)
      (are : ArePages 0 w.pages) (layout_is : places.layout ≡ layout_in w) (made_is : places.made.items ≡ made_of w.pages)
      (hired : AreHired n (pool_of n w.pages) (length w.harts) passes (tracks_of t ws ds) over)
      (timer_is : t.timer ≡ w.timer) (harts_are : harts_of ws ≡ w.harts) (devices_are : devices_of ds ++ resting ≡ w.devices) (numbers : AreDevices 0 ds)
      (beside : BesideEnds serves tally Answers places n asked now known over_known t u ds es) (worked : HartsWorked serves tally places n ws vs)
      (harts_now : harts ≡ harts_of vs) (devices_now : devices ≡ devices_of es ++ resting) (back : AreBack (tracks_of u vs es) over later journals stops)
      (noted : HasNoted r (index_among places.layout) v (all_of (journals_of journals)))
      (home : (pages ≡ left.of_pages) × (ports ≡ left.of_ports) × (b ≡ left.of_board))
      (order : IsOrder (all_of (journals_of journals)) events) where
    kept : ArePlaces pages ports b list
    kept =
        subst (λ (ps : List PageValue). ArePlaces ps ports b list) (sym home.0)
        (subst (λ (ms : List PortState). ArePlaces left.of_pages ms b list) (sym home.1)
        (subst (λ (c : Board). ArePlaces left.of_pages left.of_ports c list) (sym home.2) left.are))

    noted_now : HasNoted v.round (index_among places.layout) v (all_of (journals_of journals))
    noted_now = subst (λ (s : Round MachinePlace). HasNoted s (index_among places.layout) v (all_of (journals_of journals))) (sym round_is) noted

    pub done : IsSlice tally Answers n (length ds) asked now known over_known w events (world_with pages b ports u.timer harts devices) stops passes later
    done =
        whole serves tally Answers n asked now known over_known w places t u ws vs ds es resting over passes later pages ports b harts devices journals stops events v list
        are layout_is made_is hired timer_is harts_are devices_are numbers beside worked harts_now devices_now back
        laid_now noted_now told kept (ap length home.0 ∙ left.pages_many) (ap length home.1 ∙ left.ports_many) order
