-- Between two lines nothing is due, so that where a host object failed no request of the next line was answered.
use Rattle.std.proofs.Common.{◌≡◌, sym, subst, List, [], ◌∷◌, Option, Some, None, ℕ, inl, inr, refl, length}
use Rattle.vm_types.specs.Saved.{Saved}
use Rattle.vm_outside.specs.Calls.{FileCall}
use Rattle.vm_types.specs.declared.ids.ActorId.{ActorId}
use Rattle.vm_types.specs.declared.reply.Reply.{Reply}
use Rattle.vm_types.specs.declared.exit.Exit.{Exit}
use Rattle.vm_types.specs.declared.exit.Object.{Object}
use Rattle.vm_types.specs.declared.exit.Object.TheVariants as object
use Rattle.guest_memory.specs.Ram.{is_ram}
use Rattle.http_stream.specs.Conversation.{ConversationFront, IsQuiet, arrived}
use Rattle.http_stream.specs.Sent.{sent}
use Rattle.http_stream.proofs.ConversationLemmas.{new_quiet, no_front, quiet_after}
use Rattle.flat_guest.specs.Given.{Given}
use Rattle.script_text.specs.declared.item.Item.{Item}
use Rattle.script_text.specs.declared.item.Item.TheVariants as item
use Rattle.hart_trace.specs.Asks.{is_host_op}
use Rattle.flat_guest.specs.Guest.{Guest, is_actor}
use Rattle.flat_guest.specs.Steps.{is_given}
use Rattle.flat_machine.specs.Given.{reply_given}
use Rattle.flat_machine.specs.Outcome.{Outcome}
use Rattle.flat_machine.specs.Machine.{Machine, new_machine, running}
use Rattle.flat_machine.specs.Items.{ItemStep, MemoryLine, PartStep, RegisterLine, RepliesLine, StepsLine, Talks, bytes_of}
use Rattle.flat_machine.specs.Requests.{RequestStep}
use Rattle.responses.specs.Responses.{Response}
use Rattle.flat_machine.specs.Run.{Act, Run}
use Rattle.flat_machine.specs.Stops.{IsStopped, StopsBy, StopsInside}
use Rattle.flat_machine.proofs.Between.{by_either}

abbrev Quiet : Machine → Type 0
Quiet m = IsQuiet m.connection

keeps : {n q : Machine} → n ≡ q → Quiet q → Quiet n
keeps is quiet = subst (λ (x : Machine). Quiet x) (sym is) quiet

steps_quiet : (guest : Option Guest) (actor : ActorId) (count : ℕ) (m n : Machine) (t : List ℕ)
    → StepsLine guest actor count m t n → Quiet m → Quiet n
steps_quiet None actor count m n t x quiet = keeps x.1 quiet
steps_quiet (Some g) actor count m n t x quiet =
    by_either (is_actor g actor) (λ moves. keeps moves.leaves quiet) (λ none. keeps none.1 quiet) x

replies_quiet : (guest : Option Guest) (actor : ActorId) (given : Given) (m n : Machine) (t : List ℕ)
    → RepliesLine guest actor given m t n → Quiet m → Quiet n
replies_quiet None actor given m n t x quiet = keeps x.1 quiet
replies_quiet (Some g) actor given m n t x quiet =
    by_either (is_actor g actor)
    (λ there. by_either (is_host_op there.0)
    (λ host. by_either (is_given there.0 given) (λ fit. keeps fit.leaves quiet) (λ unfit. keeps unfit.1 quiet) host)
    (λ none. keeps none.1 quiet) there.2)
    (λ none. keeps none.1 quiet) x

register_quiet : (guest : Option Guest) (hart number : ℕ) (m n : Machine) (t : List ℕ) → RegisterLine guest hart number m t n
    → Quiet m → Quiet n
register_quiet None hart number m n t x quiet = keeps x.1 quiet
register_quiet (Some g) hart number m n t x quiet =
    by_either (is_actor g (ActorId.Hart hart)) (λ there. keeps there.1 quiet) (λ none. keeps none.1 quiet) x

memory_quiet : (guest : Option Guest) (at len : ℕ) (m n : Machine) (t : List ℕ) → MemoryLine guest at len m t n → Quiet m
    → Quiet n
memory_quiet None at len m n t x quiet = keeps x.1 quiet
memory_quiet (Some g) at len m n t x quiet =
    by_either (is_ram (length g.memory.bytes) at len) (λ there. keeps there.1 quiet) (λ none. keeps none.1 quiet) x

talks_quiet : (bytes : List ℕ) (outcomes : List Outcome) (m n : Machine) (t : List Response) → Talks bytes outcomes m t n → Quiet n
talks_quiet bytes outcomes m n t (d, mid, talk, leaves) =
    keeps leaves (quiet_after RequestStep outcomes (arrived m.connection bytes) d m mid t talk)

item_quiet : (it : Item) (outcomes : List Outcome) (m n : Machine) (t : List ℕ) → ItemStep it outcomes m t n → Quiet m
    → Quiet n
item_quiet (item.Bytes bytes) outcomes m n t x quiet = talks_quiet bytes outcomes m n x.0 x.1
item_quiet (item.Api method path body) outcomes m n t x quiet = talks_quiet (sent method path body) outcomes m n x.0 x.1
item_quiet item.Nothing outcomes m n t x quiet = keeps x.1.1 quiet
item_quiet (item.File name content) outcomes m n t x quiet = keeps x.1.1 quiet
item_quiet (item.Lineage lineage) outcomes m n t x quiet = keeps x.1.1 quiet
item_quiet item.Connect outcomes m n t x quiet = keeps x.1.1 new_quiet
item_quiet (item.Step actor count) outcomes m n t x quiet = steps_quiet (running m) actor count m n t x.1 quiet
item_quiet (item.Reply actor reply) outcomes m n t x quiet = replies_quiet (running m) actor (reply_given reply) m n t x.1 quiet
item_quiet item.Console outcomes m n t x quiet = keeps x.1.1 quiet
item_quiet (item.Register hart number) outcomes m n t x quiet = register_quiet m.guest hart number m n t x.1 quiet
item_quiet (item.Memory at len) outcomes m n t x quiet = memory_quiet m.guest at len m n t x.1 quiet

pub run_quiet : (acts : List Act) (m n : Machine) (t : List ℕ) → Quiet m → Run acts m t n → Quiet n
run_quiet [] m n t quiet x = keeps (sym x.1) quiet
run_quiet (act ∷ acts) m n t quiet x =
    run_quiet acts x.1 n x.2 (item_quiet act.item act.outcomes m x.1 x.0 x.3 quiet) x.4

part_none : (it : Item) (part : List Outcome) (m n : Machine) (t : List ℕ) → Quiet m → bytes_of it ≡ [] → PartStep it part m t n
    → part ≡ []
part_none it part m n t quiet none (inl nothing) = nothing.0
part_none it part m n t quiet none (inr (said, (d, mid, front, leaves), is)) =
    absurd (no_front RequestStep part m.connection d m mid said quiet
    (subst (λ (bytes : List ℕ). ConversationFront RequestStep part (arrived m.connection bytes) m said d mid) none front))

fault_at : (name : Object) (left : List (Option Item)) (part : List Outcome) (m n : Machine) (t : List ℕ) → Quiet m
    → StopsBy (Exit.Fault name) left part m → StopsInside left part m t n → part ≡ []
fault_at object.Source left part m n t quiet stops inside = stops.1
fault_at object.Sink left part m n t quiet stops inside = absurd stops
fault_at object.Trace left part m n t quiet stops inside = absurd stops
fault_at object.Listener left part m n t quiet stops inside = absurd stops
fault_at object.Words left part m n t quiet stops inside = absurd stops
fault_at object.Files left part m n t quiet (on, (file, content, more, is)) inside =
    part_none (item.File file content) part m n t quiet refl
    (subst (λ (l : List (Option Item)). StopsInside l part m t n) is inside)

pub run_leaves_quiet : (acts : List Act) (id : List ℕ) (saved : Saved) (calls : List FileCall) (text : List ℕ) (n : Machine)
    → Run acts (new_machine id saved calls) text n → IsQuiet n.connection
run_leaves_quiet acts id saved calls text n ran = run_quiet acts (new_machine id saved calls) n text new_quiet ran

pub fault_between : (script id : List ℕ) (saved : Saved) (calls : List FileCall) (acts : List Act) (part : List Outcome) (name : Object)
    (text : List ℕ) (end : Machine) → IsStopped script (new_machine id saved calls) acts part (Exit.Fault name) text end → part ≡ []
fault_between script id saved calls acts part name text end stop =
    fault_at name stop.left part stop.last end stop.unwritten
    (run_leaves_quiet acts id saved calls stop.answers stop.last stop.plays.ran) stop.stops stop.inside
