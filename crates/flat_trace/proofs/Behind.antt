-- What goes on behind the event that turned the guest off leaves it off, and what is written in all is the same.
use Rattle.std.proofs.Common.{◌≡◌, ℕ, Bool, true, false, cond, refl, sym, ap, ◌∙◌, subst, List, [], ◌∷◌, ◌++◌, Option, Some, None, append_assoc}
use Rattle.vm_types.specs.declared.exit.Exit.{Exit}
use Rattle.vm_types.specs.declared.ids.ActorId.{ActorId}
use Rattle.vm_types.specs.declared.reply.Reply.{Reply}
use Rattle.flat_guest.specs.Given.{Given}
use Rattle.flat_guest.specs.Given.Given.{Host, Nothing}
use Rattle.script_text.specs.declared.item.Item.{Item}
use Rattle.script_text.specs.declared.item.Item.TheVariants as item
use Rattle.responses.specs.Output.{console_line, off_line}
use Rattle.flat_guest.specs.Guest.{Guest}
use Rattle.flat_guest.specs.Steps.{guest_after}
use Rattle.flat_machine.specs.Machine.{Machine, console_by, console_of, drained, drained_guest, is_off, off_by, running}
use Rattle.flat_machine.specs.Outcome.{Outcome}
use Rattle.flat_machine.specs.Replay.{closing}
use Rattle.flat_machine.specs.Run.{Act}
use Rattle.flat_trace.specs.Showing.{HasEvent, Hears, Out, Run, TraceStep, line_by, lines}
use Rattle.flat_trace.specs.Showing.Out.{Quiet, Opened, Heard, Shown}
use Rattle.flat_trace.proofs.Boards.{board_stays}
use Rattle.flat_trace.proofs.Lines.{guest_is}

-- what is written last, by the console and whether the guest is off
abbrev last_text : List ℕ → Bool → List ℕ
last_text console off = console_line console ++ cond off off_line []

-- the guest is off, and this text with what is written last is what would have been written last before
abbrev pub Closes : Machine → List ℕ → Machine → Type 0
Closes m text n = (is_off n ≡ true) × (text ++ closing Exit.Done n ≡ closing Exit.Done m)

guest_of : {m n : Machine} → m ≡ n → m.guest ≡ n.guest
guest_of same = ap (λ (k : Machine). k.guest) same

-- the same guest
same_guest : (m n : Machine) → is_off m ≡ true → n.guest ≡ m.guest → Closes m [] n
same_guest m n off is = (ap off_by is ∙ off, ap (λ (o : Option Guest). last_text (console_by o) (off_by o)) is)

-- an event
event_closes : (o : Option Guest) (actor : ActorId) (given : Given) (m n : Machine)
    → ((g : Guest) → o ≡ Some g → m.guest ≡ Some g) → is_off m ≡ true → HasEvent o actor given m n → Closes m [] n
event_closes None actor given m n there off a = absurd a
event_closes (Some g) actor given m n there off a =
    let old : m.guest ≡ Some g = there g refl in
    let e = a.entry in
    let new : n.guest ≡ Some (guest_after g e) = guest_of a.leaves ∙ ap (λ (h : Guest). Some h) a.step.after in
    let stays = board_stays g.board (sym (ap off_by old) ∙ off) e.place e.actor e.op in
    let is : is_off n ≡ true = ap off_by new ∙ stays.off in
    let held : console_of n ≡ console_of m = ap console_by new ∙ stays.console ∙ sym (ap console_by old) in
    let offs : is_off n ≡ is_off m = is ∙ sym off in
    (is, λ i. last_text (held i) (offs i))

-- a drain
pub drain_off : (o : Option Guest) → off_by (drained_guest o) ≡ off_by o
drain_off None = refl
drain_off (Some g) = refl

pub drain_empty : (o : Option Guest) → console_by (drained_guest o) ≡ []
drain_empty None = refl
drain_empty (Some g) = refl

drain_closes : (m : Machine) → is_off m ≡ true → Closes m (console_line (console_of m)) (drained m)
drain_closes m off =
    let is : is_off (drained m) ≡ is_off m = drain_off m.guest in
    let empty : console_of (drained m) ≡ [] = drain_empty m.guest in
    (is ∙ off, λ i. console_line (console_of m) ++ last_text (empty i) (is i))

-- an item of a trace, by what it shows
closes_as : (m n : Machine) (out other : Out) → out ≡ other → Closes m (line_by other) n → Closes m (line_by out) n
closes_as m n out other is closes = subst (λ (o : Out). Closes m (line_by o) n) (sym is) closes

hears_closes : (bytes : List ℕ) (outcomes : List Outcome) (m n : Machine) (out : Out) (b : Bool) → b ≡ true
    → is_off m ≡ true → Hears b bytes outcomes m out n → Closes m (line_by out) n
hears_closes bytes outcomes m n out false is off hears = cc
hears_closes bytes outcomes m n out true is off (none, says, same) =
    closes_as m n out (Heard bytes []) says (same_guest m n off (guest_of same))

item_closes : (it : Item) (outcomes : List Outcome) (m n : Machine) (out : Out) → is_off m ≡ true
    → TraceStep it outcomes m out n → Closes m (line_by out) n
item_closes (item.Step actor count) outcomes m n out off (none, is, one, event) =
    closes_as m n out Quiet is (event_closes (running m) actor Nothing m n (guest_is m) off event)
item_closes (item.Reply actor reply) outcomes m n out off (none, is, given, says, event) =
    closes_as m n out Quiet is (event_closes (running m) actor (Host given) m n (guest_is m) off event)
item_closes item.Console outcomes m n out off (is, step) =
    closes_as m n out (Shown (console_of m)) is
    (subst (λ (k : Machine). Closes m (console_line (console_of m)) k) (sym step.1.1) (drain_closes m off))
item_closes (item.Bytes bytes) outcomes m n out off hears = hears_closes bytes outcomes m n out (is_off m) off off hears
item_closes item.Connect outcomes m n out off (is, step) =
    closes_as m n out Opened is (same_guest m n off (guest_of step.1.1))
item_closes (item.Lineage lineage) outcomes m n out off (is, step) =
    closes_as m n out Quiet is (same_guest m n off (guest_of step.1.1))
item_closes item.Nothing outcomes m n out off step = absurd step
item_closes (item.File name content) outcomes m n out off step = absurd step
item_closes (item.Api method path body) outcomes m n out off step = absurd step
item_closes (item.Register hart number) outcomes m n out off step = absurd step
item_closes (item.Memory at len) outcomes m n out off step = absurd step

-- several
pub run_closes : (acts : List Act) (m n : Machine) (outs : List Out) → is_off m ≡ true → Run acts m outs n
    → Closes m (lines outs) n
run_closes [] m n outs off (none, is) =
    subst (λ (os : List Out). Closes m (lines os) n) (sym none) (same_guest m n off (guest_of (sym is)))
run_closes (act ∷ acts) m n outs off (out, mid, rest, is, step, more) =
    let first = item_closes act.item act.outcomes m mid out off step in
    let later = run_closes acts mid n rest first.0 more in (
      later.0,
      ap (λ (os : List Out). lines os ++ closing Exit.Done n) is
          ∙ append_assoc (line_by out) (lines rest) (closing Exit.Done n)
          ∙ ap (λ (t : List ℕ). line_by out ++ t) later.1
          ∙ first.1,
    )
