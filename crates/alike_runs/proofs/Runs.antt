-- Runs of machines that are alike.
use Rattle.std.proofs.Common.{◌≡◌, ℕ, Bool, true, false, MatchBool, refl, sym, ap, subst, ◌∙◌, List, [], ◌∷◌, ◌++◌, length, Option, Some, None}
use Rattle.vm_types.specs.declared.ids.ActorId.{ActorId}
use Rattle.vm_types.specs.declared.ids.ActorId.TheVariants.{Hart as HartId}
use Rattle.guest_memory.specs.Memory as memory
use Rattle.guest_memory.specs.Memory.{read_from}
use Rattle.guest_memory.specs.Ram.{is_ram}
use Rattle.board_table.specs.Board.{Board}
use Rattle.hart_trace.specs.Asks.{is_host_op}
use Rattle.http_stream.specs.Stream.{Connection}
use Rattle.http_stream.specs.Conversation.{Conversation, arrived, new_connection}
use Rattle.http_stream.specs.Sent.{sent}
use Rattle.script_text.specs.declared.item.Item.{Item}
use Rattle.script_text.specs.declared.item.Item.TheVariants as item
use Rattle.script_text.specs.declared.output.Misfit.{Misfit}
use Rattle.script_text.specs.declared.output.Misfit.TheVariants as misfit
use Rattle.script_text.specs.Output.{memory_line}
use Rattle.responses.specs.Output.{console_line}
use Rattle.responses.specs.Responses.{Response}
use Rattle.flat_guest.specs.Given.{Given}
use Rattle.flat_guest.specs.Guest.{Guest, is_actor}
use Rattle.flat_guest.specs.Steps.{guest_after, is_given}
use Rattle.flat_machine.specs.Given.{reply_given}
use Rattle.flat_machine.specs.Items.{Answers, ItemStep, MemoryLine, Misfits, Moves, RegisterLine, Replies, RepliesLine, Shows, StepsLine, TalkLines, Talks, steps_text}
use Rattle.flat_machine.specs.Machine.{Machine, console_by, console_of, drained, drained_guest, running_by}
use Rattle.flat_machine.specs.Outcome.{Outcome}
use Rattle.flat_machine.specs.Requests.{RequestStep}
use Rattle.flat_machine.specs.Run.{Act, Run}
use Rattle.alike_runs.specs.Alike.{Alike, AlikeGuests}
use Rattle.alike_runs.specs.Twins.{Twins}
use Rattle.alike_runs.proofs.Changed.{with_connection, with_file, with_guest, with_lineage}
use Rattle.alike_runs.proofs.Guests.{actor_same, board_same, drained_alike, event_alike, events_alike, memory_same, shows_too, wants_too}
use Rattle.alike_runs.proofs.Requests.{Led, led, led_on, moved, named_alike, request_alike}

-- ---- what is said

pub conversation_alike : (outcomes : List Outcome) (twins : List Twins) (c d : Connection) (m n k : Machine) (said : List Response) → Alike twins m n
    → Conversation RequestStep outcomes c m said d k → Led twins k (λ (l : Machine). Conversation RequestStep outcomes c n said d l)
conversation_alike [] twins c d m n k said alike (quiet, same, none, is) =
    led twins k n (λ (l : Machine). Conversation RequestStep [] c n said d l) (quiet, same, none, refl) (moved twins k m n is alike)
conversation_alike (how ∷ outcomes) twins c d m n k said alike (given, after, first, mid, rest, takes, step, more, text) =
    let now = request_alike twins m n alike how given first mid step in
    let later = conversation_alike outcomes (now.front ++ twins) after d mid now.l k rest now.stays more in
    led_on now.front twins k (λ (l : Machine). Conversation RequestStep outcomes after now.l rest d l)
    (λ (l : Machine). Conversation RequestStep (how ∷ outcomes) c n said d l)
    (λ l so. (given, after, first, now.l, rest, takes, now.is, so, text)) later

module _ (twins : List Twins) (m n : Machine) (alike : Alike twins m n) where
  pub talks_alike : (bytes : List ℕ) (outcomes : List Outcome) (said : List Response) (k : Machine) → Talks bytes outcomes m said k
      → Led twins k (λ (l : Machine). Talks bytes outcomes n said l)
  talks_alike bytes outcomes said k (after, mid, talk, is) =
      let here : Conversation RequestStep outcomes (arrived n.connection bytes) m said after mid =
      subst (λ (c : Connection). Conversation RequestStep outcomes (arrived c bytes) m said after mid) alike.connection talk in
      let on = conversation_alike outcomes twins (arrived n.connection bytes) after m n mid said alike here in
      record {
        l = record on.l { connection = after };
        front = on.front;
        is = (after, on.l, on.is, refl);
        stays =
            moved (on.front ++ twins) k (record mid { connection = after }) (record on.l { connection = after }) is
            (with_connection (on.front ++ twins) mid on.l on.stays after);
      }

  lines_alike : (bytes : List ℕ) (outcomes : List Outcome) (text : List ℕ) (k : Machine) → TalkLines bytes outcomes m text k
      → Led twins k (λ (l : Machine). TalkLines bytes outcomes n text l)
  lines_alike bytes outcomes text k (said, talk, is) =
      let on = talks_alike bytes outcomes said k talk in
      record { l = on.l; front = on.front; is = (said, on.is, is); stays = on.stays }

  -- nothing is changed
  misfits_alike : (why : Misfit) (text : List ℕ) (k : Machine) → Misfits why m text k → Led twins k (λ (l : Machine). Misfits why n text l)
  misfits_alike why text k (is, same) = led twins k n (λ (l : Machine). Misfits why n text l) (is, refl) (moved twins k m n same alike)

  -- ---- events, and what is shown

  with_end : (k : Machine) (x y : Guest) → k ≡ record m { guest = Some x } → AlikeGuests x y → Alike twins k (record n { guest = Some y })
  with_end k x y is guests =
      moved twins k (record m { guest = Some x }) (record n { guest = Some y }) is
      (with_guest twins m n alike (Some x) (Some y) x y refl refl guests)

  module _ (g h : Guest) (guests : AlikeGuests g h) where
    moves_alike : (actor : ActorId) (count : ℕ) (text : List ℕ) (k : Machine) → Moves g actor count m text k
        → Led twins k (λ (l : Machine). Moves h actor count n text l)
    moves_alike actor count text k moves =
        let on = events_alike g h moves.end actor count moves.entries guests moves.made in
        led twins k (record n { guest = Some on.0 }) (λ (l : Machine). Moves h actor count n text l) (record {
          entries = moves.entries;
          end = on.0;
          made = on.1;
          writes = moves.writes ∙ ap (λ (b : Board). steps_text count (length moves.entries) b.off) (board_same moves.end on.0 on.2);
          leaves = refl;
        }) (with_end k moves.end on.0 moves.leaves on.2)

    pub answers_alike : (actor : ActorId) (given : Given) (text : List ℕ) (k : Machine) → Answers g actor given m text k
        → Led twins k (λ (l : Machine). Answers h actor given n text l)
    answers_alike actor given text k x =
        let on = event_alike g h x.end (record { actor = actor; given = given }) x.entry guests x.step in
        led twins k (record n { guest = Some (guest_after h x.entry) }) (λ (l : Machine). Answers h actor given n text l) (record {
          entry = x.entry;
          end = guest_after h x.entry;
          unstamped = x.unstamped;
          step = on.0;
          quiet = x.quiet;
          leaves = refl;
        }) (with_end k x.end (guest_after h x.entry) x.leaves on.1)

  -- what two tests come to that are the same
  by_test : (k : Machine) (b c : Bool) (A B : Type 0) (P Q : Machine → Type 0) → b ≡ c → (A → Led twins k P) → (B → Led twins k Q)
      → MatchBool b A B → Led twins k (λ (l : Machine). MatchBool c (P l) (Q l))
  by_test k true c A B P Q same some none x =
      subst (λ (t : Bool). Led twins k (λ (l : Machine). MatchBool t (P l) (Q l))) same (some x)
  by_test k false c A B P Q same some none x =
      subst (λ (t : Bool). Led twins k (λ (l : Machine). MatchBool t (P l) (Q l))) same (none x)

  steps_alike : (actor : ActorId) (count : ℕ) (text : List ℕ) (k : Machine) (b : Bool) (o p : Option Guest) → o ≡ Some alike.g → p ≡ Some alike.h
      → StepsLine (running_by o b) actor count m text k → Led twins k (λ (l : Machine). StepsLine (running_by p b) actor count n text l)
  steps_alike actor count text k true o p first second x = misfits_alike misfit.NotRunning text k x
  steps_alike actor count text k false None p first second x = absurd cc
  steps_alike actor count text k false (Some g) None first second x = absurd cc
  steps_alike actor count text k false (Some g) (Some h) first second x =
      let guests = named_alike alike.g alike.h alike.guests g h first second in
      by_test k (is_actor g actor) (is_actor h actor) (Moves g actor count m text k) (Misfits misfit.NoActor m text k)
      (λ (l : Machine). Moves h actor count n text l) (λ (l : Machine). Misfits misfit.NoActor n text l) (actor_same g h guests actor)
      (moves_alike g h guests actor count text k) (misfits_alike misfit.NoActor text k) x

  reply_alike : (g h : Guest) (guests : AlikeGuests g h) (actor : ActorId) (given : Given) (text : List ℕ) (k : Machine) → Replies g actor given m text k
      → Led twins k (λ (l : Machine). Replies h actor given n text l)
  reply_alike g h guests actor given text k (op, wants, x) =
      let on = by_test k (is_host_op op) (is_host_op op)
      (MatchBool (is_given op given) (Answers g actor given m text k) (Misfits misfit.Unfit m text k)) (Misfits misfit.NotWaiting m text k)
      (λ (l : Machine). MatchBool (is_given op given) (Answers h actor given n text l) (Misfits misfit.Unfit n text l))
      (λ (l : Machine). Misfits misfit.NotWaiting n text l) refl
      (by_test k (is_given op given) (is_given op given) (Answers g actor given m text k) (Misfits misfit.Unfit m text k)
      (λ (l : Machine). Answers h actor given n text l) (λ (l : Machine). Misfits misfit.Unfit n text l) refl
      (answers_alike g h guests actor given text k) (misfits_alike misfit.Unfit text k))
      (misfits_alike misfit.NotWaiting text k) x in
      record { l = on.l; front = on.front; is = (op, wants_too g h guests actor op wants, on.is); stays = on.stays }

  replies_alike : (actor : ActorId) (given : Given) (text : List ℕ) (k : Machine) (b : Bool) (o p : Option Guest) → o ≡ Some alike.g → p ≡ Some alike.h
      → RepliesLine (running_by o b) actor given m text k → Led twins k (λ (l : Machine). RepliesLine (running_by p b) actor given n text l)
  replies_alike actor given text k true o p first second x = misfits_alike misfit.NotRunning text k x
  replies_alike actor given text k false None p first second x = absurd cc
  replies_alike actor given text k false (Some g) None first second x = absurd cc
  replies_alike actor given text k false (Some g) (Some h) first second x =
      let guests = named_alike alike.g alike.h alike.guests g h first second in
      by_test k (is_actor g actor) (is_actor h actor) (Replies g actor given m text k) (Misfits misfit.NoActor m text k)
      (λ (l : Machine). Replies h actor given n text l) (λ (l : Machine). Misfits misfit.NoActor n text l) (actor_same g h guests actor)
      (reply_alike g h guests actor given text k) (misfits_alike misfit.NoActor text k) x

  register_alike : (hart number : ℕ) (text : List ℕ) (k : Machine) (o p : Option Guest) → o ≡ Some alike.g → p ≡ Some alike.h
      → RegisterLine o hart number m text k → Led twins k (λ (l : Machine). RegisterLine p hart number n text l)
  register_alike hart number text k None p first second x = absurd cc
  register_alike hart number text k (Some g) None first second x = absurd cc
  register_alike hart number text k (Some g) (Some h) first second x =
      let guests = named_alike alike.g alike.h alike.guests g h first second in
      by_test k (is_actor g (HartId hart)) (is_actor h (HartId hart)) (Shows g hart number text × (k ≡ m)) (Misfits misfit.NoActor m text k)
      (λ (l : Machine). Shows h hart number text × (l ≡ n)) (λ (l : Machine). Misfits misfit.NoActor n text l) (actor_same g h guests (HartId hart))
      (λ shown. led twins k n (λ (l : Machine). Shows h hart number text × (l ≡ n)) (shows_too g h guests hart number text shown.0, refl)
      (moved twins k m n shown.1 alike)) (misfits_alike misfit.NoActor text k) x

  memory_alike : (at len : ℕ) (text : List ℕ) (k : Machine) (o p : Option Guest) → o ≡ Some alike.g → p ≡ Some alike.h
      → MemoryLine o at len m text k → Led twins k (λ (l : Machine). MemoryLine p at len n text l)
  memory_alike at len text k None p first second x = absurd cc
  memory_alike at len text k (Some g) None first second x = absurd cc
  memory_alike at len text k (Some g) (Some h) first second x =
      let guests = named_alike alike.g alike.h alike.guests g h first second in
      let same : g.memory ≡ h.memory = memory_same g h guests in
      by_test k (is_ram (length g.memory.bytes) at len) (is_ram (length h.memory.bytes) at len)
      ((text ≡ memory_line (read_from g.memory at len)) × (k ≡ m)) (Misfits misfit.OutsideMemory m text k)
      (λ (l : Machine). (text ≡ memory_line (read_from h.memory at len)) × (l ≡ n)) (λ (l : Machine). Misfits misfit.OutsideMemory n text l)
      (ap (λ (x : memory.Memory). is_ram (length x.bytes) at len) same)
      (λ shown. led twins k n (λ (l : Machine). (text ≡ memory_line (read_from h.memory at len)) × (l ≡ n))
      (shown.0 ∙ ap (λ (x : memory.Memory). memory_line (read_from x at len)) same, refl) (moved twins k m n shown.1 alike))
      (misfits_alike misfit.OutsideMemory text k) x

  -- ---- the console

  pub console_same : console_of m ≡ console_of n
  console_same =
      ap console_by alike.first ∙ ap (λ (b : Board). b.console) (board_same alike.g alike.h alike.guests) ∙ sym (ap console_by alike.second)

  pub drains_alike : Alike twins (drained m) (drained n)
  drains_alike =
      with_guest twins m n alike (drained_guest m.guest) (drained_guest n.guest)
      (record alike.g { board = record alike.g.board { console = [] } }) (record alike.h { board = record alike.h.board { console = [] } })
      (ap drained_guest alike.first) (ap drained_guest alike.second) (drained_alike alike.g alike.h alike.guests)

  -- ---- an item

  abbrev Item_of : Item → List Outcome → List ℕ → Machine → Type 0
  Item_of it outcomes text k = Led twins k (λ (l : Machine). ItemStep it outcomes n text l)

  -- one that brings no request
  plain : (it : Item) (outcomes : List Outcome) (text : List ℕ) (k q l : Machine) → ItemStep it outcomes n text l → k ≡ q → Alike twins q l
      → Item_of it outcomes text k
  plain it outcomes text k q l step is stays = led twins k l (λ (x : Machine). ItemStep it outcomes n text x) step (moved twins k q l is stays)

  -- with none of its outcomes
  none_of : (it : Item) (outcomes : List Outcome) (text : List ℕ) (k : Machine) (P : Machine → Type 0) → outcomes ≡ []
      → ((l : Machine) → P l → ItemStep it outcomes n text l) → Led twins k P → Item_of it outcomes text k
  none_of it outcomes text k P none so on = record { l = on.l; front = on.front; is = so on.l on.is; stays = on.stays }

  pub item_alike : (it : Item) (outcomes : List Outcome) (text : List ℕ) (k : Machine) → ItemStep it outcomes m text k → Item_of it outcomes text k
  item_alike (item.Bytes bytes) outcomes text k x = lines_alike bytes outcomes text k x
  item_alike (item.Api method path body) outcomes text k x = lines_alike (sent method path body) outcomes text k x
  item_alike item.Nothing outcomes text k (none, (said, is)) = plain item.Nothing outcomes text k m n (none, (said, refl)) is alike
  item_alike (item.File name content) outcomes text k (none, (said, is)) =
      plain (item.File name content) outcomes text k _ _ (none, (said, refl)) is (with_file twins m n alike name content)
  item_alike (item.Lineage lineage) outcomes text k (none, (said, is)) =
      plain (item.Lineage lineage) outcomes text k _ _ (none, (said, refl)) is (with_lineage twins m n alike lineage)
  item_alike item.Connect outcomes text k (none, (said, is)) =
      plain item.Connect outcomes text k _ _ (none, (said, refl)) is (with_connection twins m n alike new_connection)
  item_alike (item.Step actor count) outcomes text k (none, x) =
      let on = steps_alike actor count text k m.paused m.guest n.guest alike.first alike.second x in
      none_of (item.Step actor count) outcomes text k (λ (l : Machine). StepsLine (running_by n.guest n.paused) actor count n text l) none (λ l so. (none, so))
      (subst (λ (b : Bool). Led twins k (λ (l : Machine). StepsLine (running_by n.guest b) actor count n text l)) alike.paused on)
  item_alike (item.Reply actor reply) outcomes text k (none, x) =
      let on = replies_alike actor (reply_given reply) text k m.paused m.guest n.guest alike.first alike.second x in
      none_of (item.Reply actor reply) outcomes text k (λ (l : Machine). RepliesLine (running_by n.guest n.paused) actor (reply_given reply) n text l) none
      (λ l so. (none, so))
      (subst (λ (b : Bool). Led twins k (λ (l : Machine). RepliesLine (running_by n.guest b) actor (reply_given reply) n text l)) alike.paused on)
  item_alike item.Console outcomes text k (none, (said, is)) =
      plain item.Console outcomes text k (drained m) (drained n) (none, (said ∙ ap console_line console_same, refl)) is drains_alike
  item_alike (item.Register hart number) outcomes text k (none, x) =
      none_of (item.Register hart number) outcomes text k (λ (l : Machine). RegisterLine n.guest hart number n text l) none (λ l so. (none, so))
      (register_alike hart number text k m.guest n.guest alike.first alike.second x)
  item_alike (item.Memory at len) outcomes text k (none, x) =
      none_of (item.Memory at len) outcomes text k (λ (l : Machine). MemoryLine n.guest at len n text l) none (λ l so. (none, so))
      (memory_alike at len text k m.guest n.guest alike.first alike.second x)

-- ---- acts

pub run_alike : (acts : List Act) (twins : List Twins) (m n k : Machine) (text : List ℕ) → Alike twins m n → Run acts m text k
    → Led twins k (λ (l : Machine). Run acts n text l)
run_alike [] twins m n k text alike (none, same) =
    led twins k n (λ (l : Machine). Run [] n text l) (none, refl) (subst (λ (x : Machine). Alike twins x n) same alike)
run_alike (act ∷ acts) twins m n k text alike (first, mid, rest, step, more, joined) =
    let now = item_alike twins m n alike act.item act.outcomes first mid step in
    let later = run_alike acts (now.front ++ twins) mid now.l k rest now.stays more in
    led_on now.front twins k (λ (l : Machine). Run acts now.l rest l) (λ (l : Machine). Run (act ∷ acts) n text l)
    (λ l so. (first, now.l, rest, now.is, so, joined)) later
