-- The guest that goes on from a snapshot has that snapshot's copy.
use Rattle.std.proofs.Common.{Bool, ◌≡◌, ◌<◌, ◌≤◌, ◌⊎◌, inl, inr, ℕ, zero, suc, ◌+◌, ◌*◌, ◌/◌, ◌%◌, nat_lt, ◌^◌, ◌==◌, true, ◌&&◌, refl, sym, ap, subst, ◌∙◌, List, [], ◌∷◌, ◌++◌, length, map, replicate, Option, Some, None, slice_get, slice_set, append_assoc, arith}
use Rattle.std.specs.Prelude.{is_some}
use Rattle.std.specs.List.{list_all, AllByRecursion}
use Rattle.std.proofs.lemmas.Bool.{and_parts, eqb-true, ltb-true, or_cases}
use Rattle.std.proofs.lemmas.List.{length-set, length-replicate}
use Rattle.vm_types.specs.declared.ids.ActorId.{ActorId}
use Rattle.vm_types.specs.declared.ids.ActorId.TheVariants.{Hart as HartId}
use Rattle.vm_types.specs.declared.op.Op.{Op}
use Rattle.vm_types.specs.declared.reply.Reply.{Reply}
use Rattle.vm_types.specs.declared.entry.Step.{Step}
use Rattle.vm_types.specs.declared.identity.Identity.{Identity}
use Rattle.le_fields.specs.Fields.{bytes_of}
use Rattle.le_fields.proofs.Values.{long, value_of_bytes}
use Rattle.file_format.specs.Kinds.{list_of, number32}
use Rattle.file_format.specs.declared.version.Version.{Version}
use Rattle.guest_devices.specs.declared.device.Device.{Device}
use Rattle.guest_devices.specs.Kept.{device_left}
use Rattle.guest_devices.proofs.Follows.{at_start}
use Rattle.guest_memory.specs.Ram.{page_size}
use Rattle.guest_memory.specs.Reserved.{hart_limit, unreserved}
use Rattle.rv_supervisor.specs.declared.regs.Turn.TheVariants as turn
use Rattle.rv_doing.specs.Doing.{asked}
use Rattle.hart_trace.specs.Traces.{executes}
use Rattle.hart_trace.specs.States.{LeadsTo}
use Rattle.hart_trace.proofs.Traces.{leads_start}
use Rattle.snap_harts.specs.declared.hart.SavedHart.{SavedHart}
use Rattle.snap_harts.specs.declared.hart.HartPlace.{HartPlace}
use Rattle.snap_harts.specs.declared.hart.HartPlace.TheVariants.{Begin, BeginWaiting, Idle, IdleWaiting, Access}
use Rattle.snap_state.specs.declared.copy.Reservation.{Reservation}
use Rattle.snap_state.specs.declared.copy.StateCopy.{StateCopy}
use Rattle.snap_state.specs.Copies.{state_copy}
use Rattle.snap_harts.specs.Copy.{begun_at, hart_of, regs_of, saved_hart, turn_of}
use Rattle.snap_state.specs.Copy.{harts_of}
use Rattle.snap_state.specs.Files.{IsSaved}
use Rattle.snap_harts.specs.Harts.{hart, place}
use Rattle.snap_state.specs.Valid.{are_devices, asks, is_before, is_device, is_hart, is_reserved, is_rising, rises_from}
use Rattle.snap_state.proofs.Parts.{hart_again}
use Rattle.snap_state.proofs.Rules.{attached, device_of, few_harts, rules_of}
use Rattle.snap_state.specs.Sections.{entropy_in}
use Rattle.snap_state.proofs.Sectioned.{sections_known}
use Rattle.flat_snapshot.specs.Copies.{AreHarts, AreKept, IsCopyOf, reservations_from}
use Rattle.flat_snapshot.specs.Carried.{carried_config, carried_guest, hart_steps, resumed, slots_with, steps_at, steps_from, with_tracking}
use Rattle.flat_snapshot.proofs.GoesOn.{access_fetches}

-- ---- harts

some_op : (o : Option Op) → is_some o ≡ true → (op : Op) × (o ≡ Some op)
some_op (Some op) e = (op, refl)
some_op None e = absurd cc

access_fits : (word : ℕ) → place.Fits (Access word) → word < 2 ^ 32
unfolding place number32
access_fits word fits = omega (arith, fits.1.1)

at_place : (h : SavedHart) (p : HartPlace) → h.place ≡ p → asks p (regs_of h) ≡ true → place.Fits p
    → LeadsTo (regs_of h) (steps_at p h.pc) (record { regs = regs_of h; begun = begun_at p })
at_place h Begin is asks fits = leads_start (regs_of h)
at_place h BeginWaiting is asks fits = leads_start (regs_of h)
at_place h Idle is asks fits = leads_start (regs_of h)
at_place h IdleWaiting is asks fits = leads_start (regs_of h)
at_place h (Access word) is asks fits =
    let step : Step = record { op = Op.Read h.pc 4; reply = Reply.Bytes (bytes_of 4 word) } in
    let fetches : turn_of h.is_look_due h.place ≡ turn.Fetch =
    subst (λ (p : HartPlace). turn_of h.is_look_due p ≡ turn.Fetch) (sym is) (access_fetches h.is_look_due word) in
    let small : word < 256 ^ 4 = omega (arith, access_fits word fits) in
    let wanted = some_op (asked (executes word (regs_of h))) asks in
    ([], step ∷ [], refl, (fetches, bytes_of 4 word, refl, long 4 word, value_of_bytes 4 word small, wanted.0, wanted.1, tt), refl)

place_fits : (h : SavedHart) → hart.Fits h → place.Fits h.place
unfolding hart
place_fits h fits = fits.1.1.1.1.1

pub hart_leads : (pages : ℕ) (h : SavedHart) → is_hart pages h ≡ true → hart.Fits h
    → LeadsTo (regs_of h) (steps_at h.place h.pc) (hart_of h)
hart_leads pages h is fits = at_place h h.place refl (and_parts _ (asks h.place (regs_of h)) is).1 (place_fits h fits)

harts_lead : (pages : ℕ) (harts : List SavedHart) (k : ℕ) (steps : ActorId → List Step)
    → ((i : ℕ) → steps (HartId (k + i)) ≡ hart_steps (slice_get harts i)) → list_all (is_hart pages) harts ≡ true
    → AllByRecursion hart.Fits harts → AreHarts k (map regs_of harts) steps (map hart_of harts)
harts_lead pages [] k steps same all fits = refl
harts_lead pages (h ∷ harts) k steps same all fits =
    let parts = and_parts (is_hart pages h) (list_all (is_hart pages) harts) all in
    let here : k ≡ k + 0 = omega arith in
    let own : steps (HartId k) ≡ steps_at h.place h.pc = ap (λ (n : ℕ). steps (HartId n)) here ∙ same 0 in
    let leads = subst (λ (l : List Step). LeadsTo (regs_of h) l (hart_of h)) (sym own) (hart_leads pages h parts.0 fits.0) in
    let later : (i : ℕ) → steps (HartId (suc k + i)) ≡ hart_steps (slice_get harts i) = λ i.
    let next : suc k + i ≡ k + suc i = omega arith in
    ap (λ (n : ℕ). steps (HartId n)) next ∙ same (suc i) in
    (hart_of h, map hart_of harts, refl, leads, harts_lead pages harts (suc k) steps later parts.1 fits.1)

harts_again : (pages : ℕ) (harts : List SavedHart) → list_all (is_hart pages) harts ≡ true
    → map saved_hart (map hart_of harts) ≡ harts
harts_again pages [] all = refl
harts_again pages (h ∷ harts) all =
    let parts = and_parts (is_hart pages h) (list_all (is_hart pages) harts) all in
    ap (λ (x : SavedHart). x ∷ map saved_hart (map hart_of harts)) (hart_again pages h parts.0)
    ∙ ap (λ (l : List SavedHart). h ∷ l) (harts_again pages harts parts.1)

-- ---- devices

kept_again : (pages port : ℕ) (kept : List Device) → are_devices pages port kept ≡ true → AreKept kept (map resumed kept)
kept_again pages port [] all = tt
kept_again pages port (it ∷ kept) all =
    let parts = and_parts (is_device pages port it) (are_devices pages (suc port) kept) all in
    (at_start (device_left it), (device_of pages port it parts.0).kept, kept_again pages (suc port) kept parts.1)

-- ---- reservations

-- nothing is reserved in the slots from this one on
abbrev NoneFrom : List (Option ℕ) → ℕ → Type 0
NoneFrom [] n = Unit {0}
NoneFrom (s ∷ slots) zero = (s ≡ None) × NoneFrom slots zero
NoneFrom (s ∷ slots) (suc n) = NoneFrom slots n

none_later : (slots : List (Option ℕ)) (n m : ℕ) → n ≤ m → NoneFrom slots n → NoneFrom slots m
none_later [] n m le none = tt
none_later (s ∷ slots) zero zero le none = none
none_later (s ∷ slots) zero (suc m) le none = none_later slots zero m (omega arith) none.1
none_later (s ∷ slots) (suc n) zero le none = absurd (omega (arith, le))
none_later (s ∷ slots) (suc n) (suc m) le none = none_later slots n m (omega (arith, le)) none

none_behind : (slots : List (Option ℕ)) (n : ℕ) (held : Option ℕ) → NoneFrom slots n → NoneFrom (slice_set slots n held) (suc n)
none_behind [] n held none = tt
none_behind (s ∷ slots) zero held none = none.1
none_behind (s ∷ slots) (suc n) held none = none_behind slots n held none

none_replicate : (n : ℕ) → NoneFrom (replicate n None) zero
none_replicate zero = tt
none_replicate (suc n) = (refl, none_replicate n)

none_reserved : (slots : List (Option ℕ)) (k : ℕ) → NoneFrom slots zero → reservations_from k slots ≡ []
none_reserved [] k none = refl
none_reserved (None ∷ slots) k none = none_reserved slots (suc k) none.1
none_reserved (Some offset ∷ slots) k none = let e = none.0 in absurd cc

abbrev at_slot : ℕ → ℕ → Reservation
at_slot slot offset = record { page = slot / hart_limit; hart = slot % hart_limit; offset = offset }

one_more : (slots : List (Option ℕ)) (k n offset : ℕ) → n < length slots → NoneFrom slots n
    → reservations_from k (slice_set slots n (Some offset)) ≡ reservations_from k slots ++ at_slot (k + n) offset ∷ []
one_more [] k n offset lt none = absurd (omega (arith, lt))
one_more (s ∷ slots) k zero offset lt none =
    let here : k ≡ k + 0 = omega arith in
    ap (λ (l : List Reservation). at_slot k offset ∷ l) (none_reserved slots (suc k) none.1)
    ∙ ap (λ (n : ℕ). at_slot n offset ∷ []) here
    ∙ ap (λ (l : List Reservation). l ++ at_slot (k + 0) offset ∷ []) (sym (none_reserved (s ∷ slots) k none))
one_more (None ∷ slots) k (suc n) offset lt none =
    let next : suc k + n ≡ k + suc n = omega arith in
    one_more slots (suc k) n offset (omega (arith, lt)) none
    ∙ ap (λ (m : ℕ). reservations_from (suc k) slots ++ at_slot m offset ∷ []) next
one_more (Some held ∷ slots) k (suc n) offset lt none =
    let next : suc k + n ≡ k + suc n = omega arith in
    ap (λ (l : List Reservation). at_slot k held ∷ l)
    (one_more slots (suc k) n offset (omega (arith, lt)) none
    ∙ ap (λ (m : ℕ). reservations_from (suc k) slots ++ at_slot m offset ∷ []) next)

abbrev slot_of : Reservation → ℕ
slot_of r = hart_limit * r.page + r.hart

slot_back : (r : Reservation) → r.hart < hart_limit → at_slot (0 + slot_of r) r.offset ≡ r
slot_back r lt =
    let page : (0 + slot_of r) / hart_limit ≡ r.page = omega (arith, lt) in
    let own : (0 + slot_of r) % hart_limit ≡ r.hart = omega (arith, lt) in
    λ i. record { page = page i; hart = own i; offset = r.offset }

-- each of these is of a page and a hart that are there
record IsThere (pages : ℕ) (r : Reservation) : Type 0 where
  page : r.page < pages
  own : r.hart < hart_limit

there : (pages harts : ℕ) (r : Reservation) → harts ≤ hart_limit → is_reserved pages harts r ≡ true → IsThere pages r
there pages harts r few is =
    let p2 = and_parts _ (r.offset % 8 == 0) is in
    let p1 = and_parts _ (nat_lt r.offset page_size) p2.0 in
    let p0 = and_parts (nat_lt r.page pages) (nat_lt r.hart harts) p1.0 in
    record { page = ltb-true _ _ p0.0; own = omega (arith, few, ltb-true _ _ p0.1) }

rises : (pages : ℕ) (a b : Reservation) → IsThere pages a → is_before a b ≡ true → suc (slot_of a) ≤ slot_of b
rises pages a b is before = by_cases (or_cases (nat_lt a.page b.page) ((a.page == b.page) && nat_lt a.hart b.hart) before) where
  by_cases : (nat_lt a.page b.page ≡ true) ⊎ (((a.page == b.page) && nat_lt a.hart b.hart) ≡ true) → suc (slot_of a) ≤ slot_of b
  by_cases (inl e) = omega (arith, is.own, ltb-true _ _ e)
  by_cases (inr e) =
      let parts = and_parts (a.page == b.page) (nat_lt a.hart b.hart) e in
      omega (arith, eqb-true a.page b.page parts.0, ltb-true _ _ parts.1)

module _ (pages harts : ℕ) (few : harts ≤ hart_limit) where
  all_behind : (a : Reservation) (others : List Reservation) (slots : List (Option ℕ)) → length slots ≡ hart_limit * pages
      → is_reserved pages harts a ≡ true → list_all (is_reserved pages harts) others ≡ true → rises_from a others ≡ true
      → NoneFrom slots (slot_of a)
      → reservations_from 0 (slots_with (a ∷ others) slots) ≡ reservations_from 0 slots ++ a ∷ others
  all_behind a [] slots whole is all rising none =
      let t = there pages harts a few is in
      one_more slots 0 (slot_of a) a.offset (omega (arith, whole, t.page, t.own)) none
      ∙ ap (λ (r : Reservation). reservations_from 0 slots ++ r ∷ []) (slot_back a t.own)
  all_behind a (b ∷ others) slots whole is all rising none =
      let t = there pages harts a few is in
      let after = slice_set slots (slot_of a) (Some a.offset) in
      let parts = and_parts (is_reserved pages harts b) (list_all (is_reserved pages harts) others) all in
      let up = and_parts (is_before a b) (rises_from b others) rising in
      let free = none_later after (suc (slot_of a)) (slot_of b) (rises pages a b t up.0)
      (none_behind slots (slot_of a) (Some a.offset) none) in
      all_behind b others after (length-set slots (slot_of a) (Some a.offset) ∙ whole) parts.0 parts.1 up.1 free
      ∙ ap (λ (l : List Reservation). l ++ b ∷ others)
      (one_more slots 0 (slot_of a) a.offset (omega (arith, whole, t.page, t.own)) none
      ∙ ap (λ (r : Reservation). reservations_from 0 slots ++ r ∷ []) (slot_back a t.own))
      ∙ append_assoc (reservations_from 0 slots) (a ∷ []) (b ∷ others)

  reserved_again : (reservations : List Reservation) → list_all (is_reserved pages harts) reservations ≡ true
      → is_rising reservations ≡ true
      → reservations_from 0 (slots_with reservations (unreserved pages)) ≡ reservations
  unfolding unreserved
  reserved_again [] all rising = none_reserved (replicate (hart_limit * pages) None) 0 (none_replicate (hart_limit * pages))
  reserved_again (a ∷ others) all rising =
      let slots = replicate (hart_limit * pages) None in
      let parts = and_parts (is_reserved pages harts a) (list_all (is_reserved pages harts) others) all in
      let none = none_replicate (hart_limit * pages) in
      all_behind a others slots (length-replicate (hart_limit * pages) None) parts.0 parts.1 rising
      (none_later slots zero (slot_of a) (omega arith) none)
      ∙ ap (λ (l : List Reservation). l ++ a ∷ others) (none_reserved slots 0 none)

-- ---- the copy

pub harts_fit : (v : Version) (c : StateCopy) → (state_copy v).Fits c → AllByRecursion hart.Fits c.harts
unfolding state_copy list_of
harts_fit v c fits = fits.1.1.0.1

pub copied_again : (version : Version) (identity : Identity) (c : StateCopy) (bytes : List ℕ) (tracking : Bool)
    → IsSaved version (record { identity = identity; copy = c })
    → length bytes ≡ page_size * c.pages
    → IsCopyOf (carried_config tracking c.configuration (entropy_in c.sections)) (carried_guest c bytes) (with_tracking tracking c)
copied_again version identity c bytes tracking saved whole =
    let parts = rules_of c saved.valid in
    let pages : c.pages ≡ length bytes / page_size = omega (arith, whole) in
    let harts = sym (harts_again c.pages c.harts parts.harts) in
    let reserved = sym (reserved_again c.pages c.configuration.machine.vcpu_count (few_harts c parts) c.reservations parts.reservations parts.rising) in
    let sections = sections_known c.ports c.sections parts.sections in
    let first : (i : ℕ) → steps_from c.harts (HartId (0 + i)) ≡ hart_steps (slice_get c.harts i) = λ i.
    let same : 0 + i ≡ i = omega arith in
    ap (λ (n : ℕ). hart_steps (slice_get c.harts n)) same in (
      harts_of c,
      harts_lead c.pages c.harts 0 (steps_from c.harts) first parts.harts (harts_fit version c saved.fits.1.1),
      kept_again c.pages 0 c.devices (attached c parts).each,
      λ i. record (with_tracking tracking c) { pages = pages i; harts = harts i; reservations = reserved i; sections = sections i },
    )
