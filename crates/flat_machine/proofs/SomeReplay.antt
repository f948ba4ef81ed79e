-- Every script has a replay.
use Rattle.std.proofs.Common.{◌≡◌, ℕ, ◌+◌, Bool, true, false, MatchBool, refl, ap, subst, List, [], ◌∷◌, ◌++◌, length, Option, Some, None, slice_get, inl, inr, arith}
use Rattle.std.specs.FinMap.{insert}
use Rattle.vm_types.specs.Saved.{Saved}
use Rattle.vm_types.specs.declared.ids.ActorId.{ActorId}
use Rattle.vm_types.specs.declared.ids.ActorId.TheVariants.{Hart as HartId}
use Rattle.vm_types.specs.declared.entry.Step.{Step}
use Rattle.vm_types.specs.declared.reply.Reply.{Reply}
use Rattle.vm_types.specs.declared.exit.Exit.{Exit}
use Rattle.guest_memory.specs.Memory.{read_from}
use Rattle.guest_memory.specs.Ram.{is_ram}
use Rattle.rv_supervisor.specs.declared.regs.Regs.{Regs}
use Rattle.flat_guest.specs.Given.{Given}
use Rattle.hart_trace.specs.Asks.{is_host_op}
use Rattle.hart_trace.specs.Traces.{IsPrefix}
use Rattle.hart_trace.specs.Shown.{register_of}
use Rattle.hart_trace.proofs.Traces.{some_hart}
use Rattle.http_stream.specs.Conversation.{new_connection}
use Rattle.http_stream.specs.Sent.{sent}
use Rattle.vm_outside.specs.Calls.{FileCall}
use Rattle.script_text.specs.declared.item.Item.{Item}
use Rattle.script_text.specs.declared.item.Item.TheVariants as item
use Rattle.script_text.specs.declared.output.Misfit.{Misfit}
use Rattle.script_text.specs.declared.output.Misfit.TheVariants as misfit
use Rattle.script_text.specs.Output.{memory_line, misfit_line, register_line}
use Rattle.responses.specs.Output.{console_line}
use Rattle.flat_guest.specs.Guest.{Guest, is_actor}
use Rattle.flat_guest.specs.Sound.{IsSound}
use Rattle.flat_guest.proofs.Soundness.{actor_step, actor_steps, missing}
use Rattle.flat_guest.specs.Steps.{is_given}
use Rattle.gate_file.specs.Runs.{save_calls}
use Rattle.flat_machine.specs.Given.{reply_given}
use Rattle.flat_machine.specs.Outcome.{AreAnswered, Outcome}
use Rattle.flat_machine.specs.Outcome.Outcome.{Answered}
use Rattle.guest_devices.specs.declared.device.Device.{Device}
use Rattle.http_stream.specs.declared.request.Next.{Next}
use Rattle.responses.specs.Responses.{Response}
use Rattle.flat_machine.specs.Machine.{Machine, console_of, drained, is_off, new_machine, running_by}
use Rattle.flat_machine.specs.Items.{Answers, ItemStep, MemoryLine, Misfits, Moves, RegisterLine, Replies, RepliesLine, Shows, ShowsFrom, StepsLine, steps_text}
use Rattle.flat_machine.specs.Replay.{IsEnd, IsReplay, closed, closing, judged_script}
use Rattle.flat_machine.specs.Ready.{HasFields, Ready, ReadyBy}
use Rattle.flat_machine.specs.Requests.{RequestStep}
use Rattle.flat_machine.specs.Run.{Act, AllAnswered, OnBefore, Run, lines_done}
use Rattle.flat_machine.proofs.Determined.{item_one}
use Rattle.flat_machine.proofs.Ready.{item_ready, new_ready}
use Rattle.flat_machine.proofs.SomeAnswer.{some_talk}

-- ---- each item is done

record Goes (it : Item) (m : Machine) : Type 0 where
  outcomes : List Outcome
  text : List ℕ
  next : Machine
  step : ItemStep it outcomes m text next
  good : AreAnswered outcomes

-- what a line that brings no request writes and leaves
abbrev Does : (List ℕ → Machine → Type 0) → Type 0
Does Step = (text : List ℕ) × (n : Machine) × Step text n

misfit_does : (why : Misfit) (m : Machine) → Does (Misfits why m)
misfit_does why m = (misfit_line why, m, (refl, refl))

-- either way something is done
does_by : (there : Bool) (Yes No : List ℕ → Machine → Type 0) → (there ≡ true → Does Yes) → Does No
    → Does (λ text n. MatchBool there (Yes text n) (No text n))
does_by true Yes No yea nay = yea refl
does_by false Yes No yea nay = nay

some_moves : (g : Guest) (actor : ActorId) (count : ℕ) (m : Machine) → IsSound g → is_actor g actor ≡ true → Does (Moves g actor count m)
some_moves g actor count m sound there =
    let made = actor_steps count g actor sound there in (
      steps_text count (length made.0) made.1.board.off,
      record m { guest = Some made.1 },
      record { entries = made.0; end = made.1; made = made.2; writes = refl; leaves = refl },
    )

some_steps : (guest : Option Guest) (paused : Bool) (actor : ActorId) (count : ℕ) (m : Machine) → ReadyBy m.config m.paused guest
    → Does (StepsLine (running_by guest paused) actor count m)
some_steps guest true actor count m own = misfit_does misfit.NotRunning m
some_steps None false actor count m own = misfit_does misfit.NotRunning m
some_steps (Some g) false actor count m own =
    does_by (is_actor g actor) (Moves g actor count m) (Misfits misfit.NoActor m) (some_moves g actor count m own.sound)
    (misfit_does misfit.NoActor m)

some_answer : (g : Guest) (actor : ActorId) (given : Given) (m : Machine) → IsSound g → is_actor g actor ≡ true
    → Does (Replies g actor given m)
some_answer g actor given m sound there =
    let want = actor_step g actor sound there in
    let answered : is_given want.0 given ≡ true → Does (Answers g actor given m) = λ fit. let made = want.2 given fit in (
      [],
      record m { guest = Some made.1 },
      record { entry = made.0; end = made.1; unstamped = made.2; step = made.3; quiet = refl; leaves = refl },
    ) in
    let fits : Does (λ text n. MatchBool (is_given want.0 given) (Answers g actor given m text n) (Misfits misfit.Unfit m text n)) =
    does_by (is_given want.0 given) (Answers g actor given m) (Misfits misfit.Unfit m) answered (misfit_does misfit.Unfit m) in
    let line = does_by (is_host_op want.0) (λ text n. MatchBool (is_given want.0 given) (Answers g actor given m text n) (Misfits misfit.Unfit m text n)) (Misfits misfit.NotWaiting m)
    (λ host. fits) (misfit_does misfit.NotWaiting m) in
    (line.0, line.1, (want.0, want.1, line.2))

some_reply : (guest : Option Guest) (paused : Bool) (actor : ActorId) (given : Given) (m : Machine) → ReadyBy m.config m.paused guest
    → Does (RepliesLine (running_by guest paused) actor given m)
some_reply guest true actor given m own = misfit_does misfit.NotRunning m
some_reply None false actor given m own = misfit_does misfit.NotRunning m
some_reply (Some g) false actor given m own =
    does_by (is_actor g actor) (Replies g actor given m) (Misfits misfit.NoActor m) (some_answer g actor given m own.sound)
    (misfit_does misfit.NoActor m)

some_shown : (start : Option Regs) (steps : List Step) (number : ℕ) → (start ≡ None → ⊥)
    → ((first : Regs) → start ≡ Some first → IsPrefix first steps) → (text : List ℕ) × ShowsFrom start steps number text
some_shown None steps number some sound = absurd (some refl)
some_shown (Some start) steps number some sound =
    let hart = some_hart start steps (sound start refl) in
    (register_line (register_of hart.0 number), (hart.0, hart.1, refl))

some_register : (guest : Option Guest) (hart number : ℕ) (m : Machine) → ReadyBy m.config m.paused guest → Does (RegisterLine guest hart number m)
some_register None hart number m own = misfit_does misfit.NoMachine m
some_register (Some g) hart number m own =
    does_by (is_actor g (HartId hart)) (λ text n. Shows g hart number text × (n ≡ m)) (Misfits misfit.NoActor m)
    (λ there. let shown = some_shown (slice_get g.starts hart) (g.steps (HartId hart)) number
    (λ none. missing g.starts hart none there) (λ first is. own.sound.harts_on hart first is) in (shown.0, m, (shown.1, refl)))
    (misfit_does misfit.NoActor m)

some_memory : (guest : Option Guest) (at len : ℕ) (m : Machine) → Does (MemoryLine guest at len m)
some_memory None at len m = misfit_does misfit.NoMachine m
some_memory (Some g) at len m =
    does_by (is_ram (length g.memory.bytes) at len)
    (λ text n. (text ≡ memory_line (read_from g.memory at len)) × (n ≡ m)) (Misfits misfit.OutsideMemory m)
    (λ there. (memory_line (read_from g.memory at len), m, (refl, refl))) (misfit_does misfit.OutsideMemory m)

quietly : (it : Item) (m : Machine) (text : List ℕ) (n : Machine) → ItemStep it [] m text n → Goes it m
quietly it m text n step = record { outcomes = []; text = text; next = n; step = step; good = tt }

-- ---- and each script

record Ends (judges : List (Option Item)) (m : Machine) (number : ℕ) : Type 0 where
  acts : List Act
  exit : Exit
  answers : List ℕ
  last : Machine
  left : List (Option Item)
  lines : judges ≡ lines_done acts ++ left
  on : OnBefore acts m
  ran : Run acts m answers last
  good : AllAnswered acts
  ends : IsEnd exit left (length acts + number) last

at_once : (judges : List (Option Item)) (m : Machine) (exit : Exit) (number : ℕ) → IsEnd exit judges number m → Ends judges m number
at_once judges m exit number ends =
    let none_before : number ≡ 0 + number = omega arith in
    record {
      acts = [];
      exit = exit;
      answers = [];
      last = m;
      left = judges;
      lines = refl;
      on = tt;
      ran = (refl, refl);
      good = tt;
      ends = subst (λ (n : ℕ). IsEnd exit judges n m) none_before ends;
    }

-- each line that is one of a script is such a one
abbrev pub AreFit : (Item → Type 0) → List (Option Item) → Type 0
AreFit IsFit [] = Unit {0}
AreFit IsFit (None ∷ judges) = AreFit IsFit judges
AreFit IsFit (Some it ∷ judges) = IsFit it × AreFit IsFit judges

-- where a fact of machines gives that there is a copy that fits, and each request that is answered and each line that fits keep it
module _ (Narrow : Machine → Type 0) (fields : (m : Machine) → Ready m → Narrow m → HasFields m)
    (keeps : (kept : List Device) (given : Next) (m : Machine) (said : List Response) (n : Machine) → Ready m → Narrow m
    → RequestStep (Answered kept) given m said n → Narrow n)
    (IsFit : Item → Type 0)
    (goes_on : (it : Item) (outcomes : List Outcome) (m n : Machine) (text : List ℕ) → Ready m → Narrow m → IsFit it
    → AreAnswered outcomes → ItemStep it outcomes m text n → Narrow n) where
  some_item : (it : Item) (m : Machine) → Ready m → Narrow m → Goes it m
  some_item (item.Bytes bytes) m ready narrow =
      let said = some_talk Narrow fields keeps bytes m ready narrow in
      record { outcomes = said.outcomes; text = said.text; next = said.next; step = said.talk; good = said.good }
  some_item (item.Api method path body) m ready narrow =
      let said = some_talk Narrow fields keeps (sent method path body) m ready narrow in
      record { outcomes = said.outcomes; text = said.text; next = said.next; step = said.talk; good = said.good }
  some_item item.Nothing m ready narrow = quietly item.Nothing m [] m (refl, (refl, refl))
  some_item (item.File name content) m ready narrow =
      quietly (item.File name content) m [] (record m { saved = insert m.saved name content; calls = m.calls ++ save_calls name content }) (refl, (refl, refl))
  some_item (item.Lineage lineage) m ready narrow =
      quietly (item.Lineage lineage) m [] (record m { ids = record m.ids { lineage = lineage } }) (refl, (refl, refl))
  some_item item.Connect m ready narrow =
      quietly item.Connect m [] (record m { connection = new_connection }) (refl, (refl, refl))
  some_item (item.Step actor count) m ready narrow =
      let line = some_steps m.guest m.paused actor count m ready.guest in
      quietly (item.Step actor count) m line.0 line.1 (refl, line.2)
  some_item (item.Reply actor reply) m ready narrow =
      let line = some_reply m.guest m.paused actor (reply_given reply) m ready.guest in
      quietly (item.Reply actor reply) m line.0 line.1 (refl, line.2)
  some_item item.Console m ready narrow =
      quietly item.Console m (console_line (console_of m)) (drained m) (refl, (refl, refl))
  some_item (item.Register hart number) m ready narrow =
      let line = some_register m.guest hart number m ready.guest in
      quietly (item.Register hart number) m line.0 line.1 (refl, line.2)
  some_item (item.Memory at len) m ready narrow =
      let line = some_memory m.guest at len m in
      quietly (item.Memory at len) m line.0 line.1 (refl, line.2)

  some_ends : (judges : List (Option Item)) (m : Machine) (number : ℕ) (off : Bool) → AreFit IsFit judges → is_off m ≡ off → Ready m → Narrow m
      → Ends judges m number
  some_ends judges m number true fit off ready narrow = at_once judges m Exit.Done number (inr off)
  some_ends [] m number false fit on ready narrow = at_once [] m Exit.Done number (inl refl)
  some_ends (None ∷ more) m number false fit on ready narrow = at_once (None ∷ more) m (Exit.Script number) number (refl, on, more, refl)
  some_ends (Some item ∷ more) m number false fit on ready narrow =
      let first = some_item item m ready narrow in
      let left = item_ready item first.outcomes m first.next first.text ready first.step in
      let after = goes_on item first.outcomes m first.next first.text ready narrow fit.0 first.good first.step in
      let rest = some_ends more first.next (number + 1) (is_off first.next) fit.1 refl left after in
      let act : Act = record { item = item; outcomes = first.outcomes } in
      let count : length rest.acts + (number + 1) ≡ length (act ∷ rest.acts) + number = omega arith in
      record {
        acts = act ∷ rest.acts;
        exit = rest.exit;
        answers = first.text ++ rest.answers;
        last = rest.last;
        left = rest.left;
        lines = ap (λ (xs : List (Option Item)). Some item ∷ xs) rest.lines;
        on = (on, λ text n step. subst (λ (q : Machine). OnBefore rest.acts q) (item_one item first.outcomes m first.next n first.text text first.step step).1 rest.on);
        ran = (first.text, first.next, rest.answers, first.step, rest.ran, refl);
        good = (first.good, rest.good);
        ends = subst (λ (n : ℕ). IsEnd rest.exit rest.left n rest.last) count rest.ends;
      }

  pub replay_of : (script id : List ℕ) (saved : Saved) (calls : List FileCall) → AreFit IsFit (judged_script script)
      → Narrow (new_machine id saved calls) → (acts : List Act) × (exit : Exit) × (text : List ℕ) × (end : Machine) × AllAnswered acts
      × IsReplay script (new_machine id saved calls) acts exit text end
  replay_of script id saved calls fit narrow =
      let ran = some_ends (judged_script script) (new_machine id saved calls) 1 false fit refl (new_ready id saved calls) narrow in (
        ran.acts,
        ran.exit,
        ran.answers ++ closing ran.exit ran.last,
        closed ran.exit ran.last,
        ran.good,
        record {
          answers = ran.answers;
          last = ran.last;
          left = ran.left;
          plays = record { lines = ran.lines; on = ran.on; ran = ran.ran };
          ends = ran.ends;
          writes = refl;
          leaves = refl;
        },
      )
