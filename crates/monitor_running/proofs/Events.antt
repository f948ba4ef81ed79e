-- What the objects of devices were asked, event by event.
use Rattle.std.proofs.Common.{arith, ◌≡◌, ℕ, zero, suc, Bool, true, false, cond, refl, sym, ap, ◌∙◌, subst, Option, List, [], ◌∷◌, ◌++◌, take, drop, All}
use Rattle.std.specs.List.{AllByRecursion}
use Rattle.std.proofs.lemmas.List.Elements.{recursion_from_All}
use Rattle.vm_types.specs.Ids.{of_actor, same_actor}
use Rattle.vm_types.specs.declared.entry.Entry.{Entry}
use Rattle.vm_types.specs.declared.ids.ActorId.{ActorId}
use Rattle.vm_types.specs.declared.op.Op.{Op}
use Rattle.vm_types.specs.declared.reply.Reply.{Reply}
use Rattle.vm_host.specs.Telling.{ClockKnown}
use Rattle.slice_runner.specs.Slices.{ClockWasAsked, IsThere}
use Rattle.monitor_machine.specs.Kinds.{DevicesKnown, disks, links, vsocks, words}
use Rattle.monitor_running.specs.Asked.{DevicesUncalled}
use Rattle.monitor_running.specs.Devices.{AsksDevices, DevicesRest, IsDevices, WereAsked}
use Rattle.monitor_running.specs.Waiting.{hart_turn, hart_turns, is_left_out, makers, turns}
use Rattle.monitor_running.proofs.KindLaws.{disks_law, links_law, vsocks_law, words_law}
use Rattle.monitor_running.proofs.OneKind.{IsOther}
use Rattle.monitor_running.proofs.OneKind as one

-- ---- all kinds at once

pub rests_same : (known : DevicesKnown) → DevicesRest known known
rests_same known = record {
  disk = one.rests_same disks disks_law known.disk;
  link = one.rests_same links links_law known.link;
  vsock = one.rests_same vsocks vsocks_law known.vsock;
  words = one.rests_same words words_law known.words;
}

pub rests_of : (old new : DevicesKnown) → new ≡ old → DevicesRest old new
rests_of old new same = subst (λ (now : DevicesKnown). DevicesRest old now) (sym same) (rests_same old)

pub rests_more : (a b c : DevicesKnown) → DevicesRest a b → DevicesRest b c → DevicesRest a c
rests_more a b c first behind = record {
  disk = one.rests_more disks disks_law a.disk b.disk c.disk first.disk behind.disk;
  link = one.rests_more links links_law a.link b.link c.link first.link behind.link;
  vsock = one.rests_more vsocks vsocks_law a.vsock b.vsock c.vsock first.vsock behind.vsock;
  words = one.rests_more words words_law a.words b.words c.words first.words behind.words;
}

-- none is called
pub rests_uncalled : (a b : DevicesKnown) → DevicesRest a b → DevicesUncalled a b
rests_uncalled a b rests = record {
  disk = one.rests_uncalled disks disks_law a.disk b.disk rests.disk;
  link = one.rests_uncalled links links_law a.link b.link rests.link;
  vsock = one.rests_uncalled vsocks vsocks_law a.vsock b.vsock rests.vsock;
  words = one.rests_uncalled words words_law a.words b.words rests.words;
}

pub asks_later : (op : Op) (actor : ActorId) (reply : Reply) (a b c : DevicesKnown) → DevicesRest a b → AsksDevices op actor reply b c
    → AsksDevices op actor reply a c
asks_later op actor reply a b c rests then = record {
  disk = one.asks_later disks disks_law op actor reply a.disk b.disk c.disk rests.disk then.disk;
  link = one.asks_later links links_law op actor reply a.link b.link c.link rests.link then.link;
  vsock = one.asks_later vsocks vsocks_law op actor reply a.vsock b.vsock c.vsock rests.vsock then.vsock;
  words = one.asks_later words words_law op actor reply a.words b.words c.words rests.words then.words;
}

-- an actor that is no device asks none
pub asks_none : (op : Op) (actor : ActorId) (reply : Reply) (known : DevicesKnown) → IsOther actor → AsksDevices op actor reply known known
asks_none op actor reply known other = record {
  disk = one.asks_none disks disks_law op actor reply known.disk other;
  link = one.asks_none links links_law op actor reply known.link other;
  vsock = one.asks_none vsocks vsocks_law op actor reply known.vsock other;
  words = one.asks_none words words_law op actor reply known.words other;
}

-- what is no call of a host object asks none
abbrev pub is_inside : Op → Bool
is_inside (Op.Out act) = false
is_inside op = true

pub asks_nothing : (op : Op) (actor : ActorId) (reply : Reply) (old new : DevicesKnown) → is_inside op ≡ true → new ≡ old
    → AsksDevices op actor reply old new
asks_nothing (Op.Out act) actor reply old new inside same = cc
asks_nothing op actor reply old new inside same =
    let all = rests_of old new same in record { disk = all.disk; link = all.link; vsock = all.vsock; words = all.words }

-- ---- events one after another

-- one event more
pub asked_more : (es : List Entry) (e : Entry) (start mid now : DevicesKnown) → WereAsked start es mid
    → AsksDevices e.op e.actor e.reply mid now → WereAsked start (es ++ e ∷ []) now
asked_more [] e start mid now was asks = (now, asks_later e.op e.actor e.reply start mid now was asks, rests_same now)
asked_more (d ∷ es) e start mid now was asks = (was.0, was.1, asked_more es e was.0 mid now was.2 asks)

-- the first of the events, and the others
pub asked_split : (n : ℕ) (es : List Entry) (start now : DevicesKnown) → WereAsked start es now
    → (mid : DevicesKnown) × WereAsked start (take n es) mid × WereAsked mid (drop n es) now
asked_split zero es start now was = (start, rests_same start, was)
asked_split (suc n) [] start now was = (now, was, rests_same now)
asked_split (suc n) (e ∷ es) start now was =
    let rest = asked_split n es was.0 now was.2 in
    (rest.0, (was.0, was.1, rest.1), rest.2)

-- ---- events of others

-- which ask no object of a device
unasked_by : (es : List Entry) (known : DevicesKnown) → AllByRecursion (λ (e : Entry). IsOther e.actor) es → WereAsked known es known
unasked_by [] known others = rests_same known
unasked_by (e ∷ es) known others = (known, asks_none e.op e.actor e.reply known others.0, unasked_by es known others.1)

other_by : (harts : ℕ) (actor : ActorId) → IsThere harts 0 actor → IsOther actor
other_by harts ActorId.Timer there = tt
other_by harts (ActorId.Hart k) there = tt
other_by harts (ActorId.Device k) there = absurd (omega (arith, there))

pub all_other : (harts : ℕ) (es : List Entry) → AllByRecursion (λ (e : Entry). IsThere harts 0 e.actor) es
    → AllByRecursion (λ (e : Entry). IsOther e.actor) es
all_other harts [] there = tt
all_other harts (e ∷ es) there = (other_by harts e.actor there.0, all_other harts es there.1)

-- those of a slice
pub unasked_there : (harts : ℕ) (es : List Entry) (known : DevicesKnown) → All (λ (e : Entry). IsThere harts 0 e.actor) es
    → WereAsked known es known
unasked_there harts es known there =
    unasked_by es known (all_other harts es (recursion_from_All (λ (e : Entry). IsThere harts 0 e.actor) es there))

-- and those of a wait
other_append : (xs ys : List ActorId) → AllByRecursion IsOther xs → AllByRecursion IsOther ys → AllByRecursion IsOther (xs ++ ys)
other_append [] ys first last = last
other_append (x ∷ xs) ys first last = (first.0, other_append xs ys first.1 last)

other_turn : (out : Bool) (k : ℕ) → AllByRecursion IsOther (cond out [] (ActorId.Hart k ∷ ActorId.Hart k ∷ []))
other_turn true k = tt
other_turn false k = (tt, (tt, tt))

others_turn : (but : Option ℕ) (k : ℕ) → AllByRecursion IsOther (hart_turns but k)
others_turn but zero = tt
others_turn but (suc k) =
    other_append (hart_turns but k) (hart_turn but k) (others_turn but k) (other_turn (is_left_out but k) k)

made_by : (es : List Entry) → AllByRecursion IsOther (makers es) → AllByRecursion (λ (e : Entry). IsOther e.actor) es
made_by [] others = tt
made_by (e ∷ es) others = (others.0, made_by es others.1)

pub others_made : (but : Option ℕ) (harts : ℕ) (es : List Entry) → makers es ≡ turns but harts
    → AllByRecursion (λ (e : Entry). IsOther e.actor) es
others_made but harts es made =
    made_by es (subst (λ (l : List ActorId). AllByRecursion IsOther l) (sym made) (tt, (tt, others_turn but harts)))

pub unasked_turns : (but : Option ℕ) (harts : ℕ) (es : List Entry) (known : DevicesKnown) → makers es ≡ turns but harts
    → WereAsked known es known
unasked_turns but harts es known made = unasked_by es known (others_made but harts es made)

-- and those of one hart
pub unasked_hart : (k : ℕ) (es : List Entry) (known : DevicesKnown) → AllByRecursion (λ (e : Entry). e.actor ≡ ActorId.Hart k) es
    → WereAsked known es known
unasked_hart k es known own = unasked_by es known (all_own es own)
  where
    all_own : (es : List Entry) → AllByRecursion (λ (e : Entry). e.actor ≡ ActorId.Hart k) es
        → AllByRecursion (λ (e : Entry). IsOther e.actor) es
    all_own [] own = tt
    all_own (e ∷ es) own = (subst IsOther (sym own.0) tt, all_own es own.1)

-- ---- and neither a device nor a hart asks the clock

-- an actor that isn't the timer
abbrev IsUntimed : ActorId → Type 0
IsUntimed actor = same_actor actor ActorId.Timer ≡ false

none_timed : (e : Entry) (es : List Entry) (timed : Bool) → timed ≡ false → cond timed (e ∷ es) es ≡ es
none_timed e es true is = cc
none_timed e es false is = refl

no_timer : (es : List Entry) → AllByRecursion (λ (e : Entry). IsUntimed e.actor) es → of_actor ActorId.Timer es ≡ []
no_timer [] untimed = refl
no_timer (e ∷ es) untimed =
    none_timed e (of_actor ActorId.Timer es) (same_actor e.actor ActorId.Timer) untimed.0 ∙ no_timer es untimed.1

untimed_rests : (clock : ClockKnown) (es : List Entry) → AllByRecursion (λ (e : Entry). IsUntimed e.actor) es
    → ClockWasAsked clock es clock
untimed_rests clock es untimed tells =
    let none = no_timer es untimed in
    rw none (tells, refl)

devices_untimed : (es : List Entry) → AllByRecursion IsDevices es → AllByRecursion (λ (e : Entry). IsUntimed e.actor) es
devices_untimed [] made = tt
devices_untimed (e ∷ es) made = (ap (λ (a : ActorId). same_actor a ActorId.Timer) made.0.2, devices_untimed es made.1)

pub clock_rests : (clock : ClockKnown) (es : List Entry) → All IsDevices es → ClockWasAsked clock es clock
clock_rests clock es made = untimed_rests clock es (devices_untimed es (recursion_from_All IsDevices es made))

harts_untimed : (k : ℕ) (es : List Entry) → AllByRecursion (λ (e : Entry). e.actor ≡ ActorId.Hart k) es
    → AllByRecursion (λ (e : Entry). IsUntimed e.actor) es
harts_untimed k [] own = tt
harts_untimed k (e ∷ es) own = (ap (λ (a : ActorId). same_actor a ActorId.Timer) own.0, harts_untimed k es own.1)

pub hart_rests : (k : ℕ) (clock : ClockKnown) (es : List Entry) → AllByRecursion (λ (e : Entry). e.actor ≡ ActorId.Hart k) es
    → ClockWasAsked clock es clock
hart_rests k clock es own = untimed_rests clock es (harts_untimed k es own)
