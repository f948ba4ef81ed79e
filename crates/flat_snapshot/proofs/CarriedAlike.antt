-- The guest that goes on from a snapshot is alike with the one that was saved.
use Rattle.std.proofs.Common.{◌≡◌, ℕ, zero, suc, ◌+◌, ◌*◌, ◌/◌, ◌%◌, true, false, refl, sym, ap, subst, ◌∙◌, List, [], ◌∷◌, ◌++◌, length, map, replicate, Option, Some, None, slice_get, slice_set, append_assoc, arith, length-append}
use Rattle.std.specs.List.{list_all, AllByRecursion}
use Rattle.std.proofs.lemmas.Bool.{and_parts}
use Rattle.std.proofs.lemmas.List.{length-map}
use Rattle.vm_types.specs.declared.ids.ActorId.{ActorId}
use Rattle.vm_types.specs.declared.ids.ActorId.TheVariants.{Hart as HartId, Timer as TimerId}
use Rattle.vm_types.specs.declared.entry.Step.{Step}
use Rattle.vm_types.specs.declared.identity.Identity.{Identity}
use Rattle.vm_config.specs.declared.config.Config.{Config}
use Rattle.rv_supervisor.specs.declared.regs.Regs.{Regs}
use Rattle.rv_supervisor.specs.declared.regs.Turn.TheVariants as turn
use Rattle.hart_trace.specs.States.{BegunBy, Hart, LeadsTo}
use Rattle.timer_trace.specs.States as timer
use Rattle.timer_trace.proofs.Traces as timer_traces
use Rattle.guest_memory.specs.Ram.{page_size}
use Rattle.guest_memory.specs.Reserved.{hart_limit, unreserved}
use Rattle.guest_devices.specs.declared.device.Device.{Device}
use Rattle.guest_devices.specs.Devices.{DeviceLeads, DeviceLeft, FlatDevice}
use Rattle.guest_devices.specs.Kept.{device_left, devices_left}
use Rattle.guest_devices.proofs.Follows.{at_start}
use Rattle.flat_guest.specs.Guest.{Guest, unwritten}
use Rattle.flat_guest.specs.Sound.{IsSound}
use Rattle.flat_guest.specs.Body.{Body, IsGuest}
use Rattle.flat_guest.specs.Same.{AreAlike}
use Rattle.flat_guest.proofs.Marked.{none_marked}
use Rattle.snap_state.specs.declared.copy.StateCopy.{StateCopy}
use Rattle.snap_harts.specs.Copy.{IsBegunByFetch, regs_of, saved_hart}
use Rattle.file_format.specs.declared.version.Version.{Version}
use Rattle.snap_state.specs.Files.{IsSaved}
use Rattle.snap_harts.specs.Harts.{hart}
use Rattle.snap_state.specs.Valid.{is_hart}
use Rattle.snap_harts.proofs.Harts.{hart_back}
use Rattle.snap_state.proofs.Parts.{board_back}
use Rattle.snap_state.proofs.Rules.{rules_of}
use Rattle.flat_snapshot.specs.Copies.{AreHarts, AreKept, IsCopyOf, copy_of, reservations_from}
use Rattle.flat_snapshot.specs.Carried.{carried_guest, hart_steps, resumed, slots_with, steps_at}
use Rattle.flat_snapshot.proofs.CopiedAgain.{hart_leads, harts_fit}
use Rattle.flat_snapshot.proofs.GoesOn.{carried_sound}

-- ---- what is reserved

set_at : (done more : List (Option ℕ)) (k : ℕ) (held old : Option ℕ) → length done ≡ k
    → slice_set (done ++ old ∷ more) k held ≡ done ++ held ∷ more
set_at [] more zero held old is = refl
set_at [] more (suc k) held old is = absurd (omega (arith, is))
set_at (s ∷ done) more zero held old is = absurd (omega (arith, is))
set_at (s ∷ done) more (suc k) held old is = ap (λ (l : List (Option ℕ)). s ∷ l) (set_at done more k held old (omega (arith, is)))

slots_back : (slots done : List (Option ℕ)) (k : ℕ) → length done ≡ k
    → slots_with (reservations_from k slots) (done ++ replicate (length slots) None) ≡ done ++ slots
slots_back [] done k is = refl
slots_back (None ∷ slots) done k is =
    let next : length (done ++ None ∷ []) ≡ suc k = omega (arith, length-append done (None ∷ []), is) in
    ap (λ (l : List (Option ℕ)). slots_with (reservations_from (suc k) slots) l)
    (sym (append_assoc done (None ∷ []) (replicate (length slots) None)))
    ∙ slots_back slots (done ++ None ∷ []) (suc k) next
    ∙ append_assoc done (None ∷ []) slots
slots_back (Some offset ∷ slots) done k is =
    let next : length (done ++ Some offset ∷ []) ≡ suc k = omega (arith, length-append done (Some offset ∷ []), is) in
    let here : hart_limit * (k / hart_limit) + k % hart_limit ≡ k = omega arith in
    ap (λ (n : ℕ). slots_with (reservations_from (suc k) slots)
    (slice_set (done ++ None ∷ replicate (length slots) None) n (Some offset))) here
    ∙ ap (λ (l : List (Option ℕ)). slots_with (reservations_from (suc k) slots) l)
    (set_at done (replicate (length slots) None) k (Some offset) None is
    ∙ sym (append_assoc done (Some offset ∷ []) (replicate (length slots) None)))
    ∙ slots_back slots (done ++ Some offset ∷ []) (suc k) next
    ∙ append_assoc done (Some offset ∷ []) slots

all_back : (slots : List (Option ℕ)) (pages : ℕ) → length slots ≡ hart_limit * pages
    → slots_with (reservations_from 0 slots) (unreserved pages) ≡ slots
unfolding unreserved
all_back slots pages is =
    ap (λ (n : ℕ). slots_with (reservations_from 0 slots) (replicate n None)) (sym is) ∙ slots_back slots [] 0 refl

-- ---- harts

begun_fetch : (begun : Option ℕ) (r : Regs) (part : List Step) → BegunBy begun r part → (word : ℕ) → begun ≡ Some word
    → r.turn ≡ turn.Fetch
begun_fetch None r part by word is = cc
begun_fetch (Some had) r [] by word is = absurd by
begun_fetch (Some had) r (s ∷ part) by word is = by.0

by_fetch : (start : Regs) (steps : List Step) (h : Hart) → LeadsTo start steps h → IsBegunByFetch h
by_fetch start steps h leads word is = begun_fetch h.begun h.regs leads.1 leads.3 word is

harts_many : (starts : List Regs) (k : ℕ) (steps : ActorId → List Step) (harts : List Hart) → AreHarts k starts steps harts
    → length harts ≡ length starts
harts_many [] k steps harts are = ap length are
harts_many (start ∷ starts) k steps harts (h, rest, is, leads, more) =
    ap length is ∙ ap suc (harts_many starts (suc k) steps rest more)

hart_at : (starts : List Regs) (k : ℕ) (steps : ActorId → List Step) (harts : List Hart) → AreHarts k starts steps harts
    → (i : ℕ) (start : Regs) (h : Hart) → slice_get starts i ≡ Some start → slice_get harts i ≡ Some h
    → LeadsTo start (steps (HartId (k + i))) h
hart_at [] k steps harts are i start h is there = cc
hart_at (first ∷ starts) k steps harts (x, rest, are, leads, more) zero start h is there =
    let same : first ≡ start = cc in
    let got : ◌≡◌ {A = Option Hart} (Some x) (Some h) = sym (ap (λ (l : List Hart). slice_get l 0) are) ∙ there in
    let it : x ≡ h = cc in
    let here : k ≡ k + 0 = omega arith in
    subst (λ (n : ℕ). LeadsTo start (steps (HartId n)) h) here
    (subst (λ (q : Hart). LeadsTo start (steps (HartId k)) q) it
    (subst (λ (r : Regs). LeadsTo r (steps (HartId k)) x) same leads))
hart_at (first ∷ starts) k steps harts (x, rest, are, leads, more) (suc i) start h is there =
    let next : suc k + i ≡ k + suc i = omega arith in
    subst (λ (n : ℕ). LeadsTo start (steps (HartId n)) h) next
    (hart_at starts (suc k) steps rest more i start h is (sym (ap (λ (l : List Hart). slice_get l (suc i)) are) ∙ there))

-- the hart of a copy begins where the guest's hart was
carried_hart : (pages : ℕ) (h : Hart) → IsBegunByFetch h → is_hart pages (saved_hart h) ≡ true → hart.Fits (saved_hart h)
    → LeadsTo (regs_of (saved_hart h)) (steps_at (saved_hart h).place (saved_hart h).pc) h
carried_hart pages h fetch is fits =
    subst (λ (q : Hart). LeadsTo (regs_of (saved_hart h)) (steps_at (saved_hart h).place (saved_hart h).pc) q) (hart_back h fetch)
    (hart_leads pages (saved_hart h) is fits)

-- the first of these, or a later one
at_index : (x : Hart) (rest : List Hart) (start : Regs) (h : Hart)
    → LeadsTo (regs_of (saved_hart x)) (steps_at (saved_hart x).place (saved_hart x).pc) x
    → ((j : ℕ) → slice_get (map regs_of (map saved_hart rest)) j ≡ Some start → slice_get rest j ≡ Some h
    → LeadsTo start (hart_steps (slice_get (map saved_hart rest) j)) h)
    → (i : ℕ) → slice_get (map regs_of (map saved_hart (x ∷ rest))) i ≡ Some start → slice_get (x ∷ rest) i ≡ Some h
    → LeadsTo start (hart_steps (slice_get (map saved_hart (x ∷ rest)) i)) h
at_index x rest start h own later zero is there =
    let begins : regs_of (saved_hart x) ≡ start = cc in
    let same : x ≡ h = cc in
    subst (λ (q : Hart). LeadsTo start (steps_at (saved_hart x).place (saved_hart x).pc) q) same
    (subst (λ (r : Regs). LeadsTo r (steps_at (saved_hart x).place (saved_hart x).pc) x) begins own)
at_index x rest start h own later (suc j) is there = later j is there

carried_at : (pages : ℕ) (starts : List Regs) (k : ℕ) (steps : ActorId → List Step) (harts : List Hart)
    → AreHarts k starts steps harts → list_all (is_hart pages) (map saved_hart harts) ≡ true
    → AllByRecursion hart.Fits (map saved_hart harts)
    → (i : ℕ) (start : Regs) (h : Hart) → slice_get (map regs_of (map saved_hart harts)) i ≡ Some start
    → slice_get harts i ≡ Some h → LeadsTo start (hart_steps (slice_get (map saved_hart harts) i)) h
carried_at pages [] k steps harts are all fits i start h is there =
    let none : slice_get harts i ≡ None = ap (λ (l : List Hart). slice_get l i) are in
    cc
carried_at pages (first ∷ starts) k steps harts (x, rest, are, leads, more) all fits i start h is there =
    let all_of = subst (λ (l : List Hart). list_all (is_hart pages) (map saved_hart l) ≡ true) are all in
    let fits_of = subst (λ (l : List Hart). AllByRecursion hart.Fits (map saved_hart l)) are fits in
    let parts = and_parts (is_hart pages (saved_hart x)) (list_all (is_hart pages) (map saved_hart rest)) all_of in
    let own = carried_hart pages x (by_fetch first (steps (HartId k)) x leads) parts.0 fits_of.0 in
    subst (λ (l : List Hart). LeadsTo start (hart_steps (slice_get (map saved_hart l) i)) h) (sym are)
    (at_index x rest start h own (λ j at it. carried_at pages starts (suc k) steps rest more parts.1 fits_of.1 j start h at it) i
    (subst (λ (l : List Hart). slice_get (map regs_of (map saved_hart l)) i ≡ Some start) are is)
    (subst (λ (l : List Hart). slice_get l i ≡ Some h) are there))

-- ---- devices

kept_many : (kept : List Device) (devices : List FlatDevice) → AreKept kept devices → length (devices_left kept) ≡ length devices
kept_many [] [] are = refl
kept_many (it ∷ kept) (d ∷ devices) are = ap suc (kept_many kept devices are.2)
kept_many [] (d ∷ devices) are = absurd are
kept_many (it ∷ kept) [] are = absurd are

kept_at : (kept : List Device) (devices : List FlatDevice) → AreKept kept devices → (k : ℕ) (d : FlatDevice) (left : DeviceLeft)
    → slice_get devices k ≡ Some d → slice_get (devices_left kept) k ≡ Some left → DeviceLeads d left
kept_at [] [] are k d left is there = cc
kept_at [] (x ∷ devices) are k d left is there = absurd are
kept_at (it ∷ kept) [] are k d left is there = absurd are
kept_at (it ∷ kept) (x ∷ devices) are zero d left is there =
    let same : x ≡ d = cc in
    let told : device_left it ≡ left = cc in
    subst (λ (q : FlatDevice). DeviceLeads q left) same (subst (λ (l : DeviceLeft). DeviceLeads x l) told are.0)
kept_at (it ∷ kept) (x ∷ devices) are (suc k) d left is there = kept_at kept devices are.2 k d left is there

resumed_at : (kept : List Device) (k : ℕ) (d : FlatDevice) (left : DeviceLeft) → slice_get (map resumed kept) k ≡ Some d
    → slice_get (devices_left kept) k ≡ Some left → DeviceLeads d left
resumed_at [] k d left is there = cc
resumed_at (it ∷ kept) zero d left is there =
    let same : resumed it ≡ d = cc in
    let told : device_left it ≡ left = cc in
    subst (λ (q : FlatDevice). DeviceLeads q left) same
    (subst (λ (l : DeviceLeft). DeviceLeads (resumed it) l) told (at_start (device_left it)))
resumed_at (it ∷ kept) (suc k) d left is there = resumed_at kept k d left is there

resumed_many : (kept : List Device) → length (devices_left kept) ≡ length (map resumed kept)
resumed_many kept = length-map kept device_left ∙ sym (length-map kept resumed)

-- ---- the guest

module _ (config : Config) (g : Guest) (harts : List Hart) (kept : List Device) (version : Version) (identity : Identity)
    (saved : IsSaved version (record { identity = identity; copy = copy_of config g harts kept }))
    (are : AreHarts 0 g.starts g.steps harts) (keep : AreKept kept g.devices) (sound : IsSound g)
    (on : g.board.off ≡ false) (rests : g.steps TimerId ≡ [])
    (whole : length g.memory.bytes ≡ page_size * (length g.memory.bytes / page_size))
    (slots : length g.memory.reserved ≡ hart_limit * (length g.memory.bytes / page_size)) where
  abbrev copy : StateCopy
  copy = copy_of config g harts kept

  abbrev both : Body
  both = record {
    memory = g.memory;
    marks = replicate copy.pages false;
    board = g.board;
    ports = g.ports;
    timer = timer.new_timer;
    harts = harts;
    devices = devices_left kept;
  }

  source : IsGuest both (unwritten g)
  source = record {
    memory_is = refl;
    marks_are = none_marked copy.pages;
    board_is = refl;
    ports_are = refl;
    timer_is = subst (λ (l : List Step). timer.LeadsTo l timer.new_timer) (sym rests) timer_traces.leads_start;
    harts_are = record {
      count = harts_many g.starts 0 g.steps harts are;
      each = λ k start h is there.
          let same : 0 + k ≡ k = omega arith in
          subst (λ (n : ℕ). LeadsTo start (g.steps (HartId n)) h) same (hart_at g.starts 0 g.steps harts are k start h is there);
    };
    devices_are = record {
      count = kept_many kept g.devices keep;
      each = λ k d left is there. kept_at kept g.devices keep k d left is there;
      sound = sound.devices_on;
    };
  }

  target : IsGuest both (carried_guest copy g.memory.bytes)
  target = record {
    memory_is = λ i. record g.memory { reserved = sym (all_back g.memory.reserved copy.pages slots) i };
    marks_are = none_marked copy.pages;
    board_is = sym (board_back g.board on);
    ports_are = refl;
    timer_is = timer_traces.leads_start;
    harts_are = record {
      count = sym (length-map (map saved_hart harts) regs_of ∙ length-map harts saved_hart);
      each = λ k start h is there.
          carried_at copy.pages g.starts 0 g.steps harts are (rules_of copy saved.valid).harts (harts_fit version copy saved.fits.1.1) k start h is there;
    };
    devices_are = record {
      count = resumed_many kept;
      each = λ k d left is there. resumed_at kept k d left is there;
      sound = (carried_sound copy g.memory.bytes saved.valid whole).devices_on;
    };
  }

  pub alike_here : AreAlike (unwritten g) (carried_guest copy g.memory.bytes)
  alike_here = record { body = both; first = source; second = target }

pub carried_alike : (config : Config) (g : Guest) (copy : StateCopy) (version : Version) (identity : Identity) → IsSound g → IsCopyOf config g copy
    → IsSaved version (record { identity = identity; copy = copy }) → length g.memory.bytes ≡ page_size * copy.pages
    → g.board.off ≡ false → g.steps TimerId ≡ [] → length g.memory.reserved ≡ hart_limit * copy.pages
    → AreAlike (unwritten g) (carried_guest copy g.memory.bytes)
carried_alike config g copy version identity sound (harts, are, keep, is) saved whole on rests slots =
    let pages : copy.pages ≡ length g.memory.bytes / page_size = ap (λ (c : StateCopy). c.pages) is in
    subst (λ (c : StateCopy). AreAlike (unwritten g) (carried_guest c g.memory.bytes)) (sym is)
    (alike_here config g harts copy.devices version identity
    (subst (λ (c : StateCopy). IsSaved version (record { identity = identity; copy = c })) is saved)
    are keep sound on rests (subst (λ (n : ℕ). length g.memory.bytes ≡ page_size * n) pages whole)
    (subst (λ (n : ℕ). length g.memory.reserved ≡ hart_limit * n) pages slots))
