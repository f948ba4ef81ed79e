-- Where a reply leads a device whose next act is one of a walk, or of the giving back of a chain.
use Rattle.std.proofs.Common.{◌≡◌, ℕ, ◌==◌, ◌&&◌, refl, sym, ap, subst, ◌∙◌, Bool, true, false, if◌then◌else◌, List, Option, Some, None, IfSome}
use Rattle.std.proofs.lemmas.Bool.{and_parts}
use Rattle.vm_types.specs.declared.op.Op.{Op}
use Rattle.vm_types.specs.declared.reply.Reply.{Reply}
use Rattle.vm_types.specs.Fits.{fits}
use Rattle.device_trace.specs.Doing.{Doing, Gives, and_then, asked, led}
use Rattle.device_trace.specs.Script.{Script, Ends, perform}
use Rattle.device_trace.specs.States.{stepped, wants}
use Rattle.device_trace.specs.Traces.{Changing}
use Rattle.device_trace.proofs.Performs.{perform_stepped, perform_wants}
use Rattle.vq_split.specs.declared.queue.Part.{Part}
use Rattle.vq_split.specs.declared.queue.Queue.{Queue}
use Rattle.vq_split.specs.declared.walk.Stage.{Stage}
use Rattle.vq_split.specs.declared.walk.Stage.TheVariants.{AvailEvent, Entry, EntryRest, Index, IndexAgain, Link, Ring}
use Rattle.vq_split.specs.declared.walk.Walk.{Walk}
use Rattle.vq_split.specs.Chain.{event_written, index_again, index_in, indexed_by}
use Rattle.vq_split.specs.Walking as walking
use Rattle.vq_split.specs.Walking.{Walking, look_led, look_left, look_open, walk_left}
use Rattle.dev_core.specs.declared.returning.ReturnStage.{ReturnStage}
use Rattle.dev_core.specs.declared.returning.UsedChain.{UsedChain}
use Rattle.dev_core.specs.Returning.{return_left}
use Rattle.queue_device.specs.declared.lanes.Which.{Which}
use Rattle.queue_device.specs.declared.phase.InHand.{InHand}
use Rattle.queue_device.specs.declared.phase.Phase.{Phase}
use Rattle.queue_device.specs.declared.phase.Phase.TheVariants as phase
use Rattle.queue_device.specs.Left.{Hand, left_at, used_chain, walk_led, walk_on, walk_shown}
use Rattle.queue_device.specs.Rounds.{at_own, given_back, index_read, index_shown, queue_rules, walk_from, walked}
use Rattle.queue_device.specs.Service.{Queued, Service}
use Rattle.queue_device.proofs.GoesOn.{return_asks}
use Rattle.queue_device.proofs.Steps.{FirstAsks, walk_first}

-- ---- a walk

module _ {E C : Type 0} (s : Service E) (changing : Changing E C) (k : Which) (walk : Walking) (op : Op) where
  on_wants : (o : Option (Doing ℕ)) (d : Queued E) → FirstAsks op (walk_left walk) o → wants (queue_rules s changing) (walk_on s k walk o d) ≡ op
  on_wants (Some look) d is = perform_wants (queue_rules s changing) look d (index_read s k walk.next walk.queue) op is
  on_wants None d is = perform_wants (queue_rules s changing) (walk_left walk) d (walked s k walk.queue) op is

  on_stepped : (o : Option (Doing ℕ)) (d : Queued E) (reply : Reply) → FirstAsks op (walk_left walk) o
      → stepped (queue_rules s changing) (walk_on s k walk o d) reply ≡ walk_led s k walk reply o d
  on_stepped (Some look) d reply is = perform_stepped (queue_rules s changing) look d (index_read s k walk.next walk.queue) op reply is
  on_stepped None d reply is = perform_stepped (queue_rules s changing) (walk_left walk) d (walked s k walk.queue) op reply is

module _ {E C : Type 0} (s : Service E) (changing : Changing E C) (h : Hand E) (d : Queued E) (p : Phase) (k : Which) (walk : Walking)
    (is : p ≡ phase.Walk k walk) (op : Op) (asks : asked (walk_left walk) ≡ Some op) where
  pub walk_wanted : wants (queue_rules s changing) (left_at s p h d) ≡ op
  walk_wanted =
      subst (λ (x : Phase). wants (queue_rules s changing) (left_at s x h d) ≡ op) (sym is)
      (on_wants s changing k walk op (look_left walk.stage walk.queue walk.next) d (walk_first walk op asks))

  pub walk_stepped : (reply : Reply) (x : Script (Queued E)) → x ≡ walk_led s k walk reply (look_left walk.stage walk.queue walk.next) d
      → x ≡ stepped (queue_rules s changing) (left_at s p h d) reply
  walk_stepped reply x made =
      subst (λ (y : Phase). x ≡ stepped (queue_rules s changing) (left_at s y h d) reply) (sym is)
      (made ∙ sym (on_stepped s changing k walk op (look_left walk.stage walk.queue walk.next) d reply (walk_first walk op asks)))

module _ {E : Type 0} (s : Service E) (k : Which) where
  -- past the look it goes on, or comes to something
  past_more : (new : Walking) (t : Doing Walk) (q : Queue) (d e : Queued E) → e ≡ d → walk_left new ≡ t
      → look_left new.stage new.queue new.next ≡ None → new.queue ≡ q
      → walk_on s k new (look_left new.stage new.queue new.next) e ≡ perform t d (walked s k q)
  past_more new t q d e same left look queue =
      ap (λ (o : Option (Doing ℕ)). walk_on s k new o e) look ∙ (λ i. perform (left i) (same i) (walked s k (queue i)))

  past_came : (came : Walk) (t : Doing Walk) (q : Queue) (d e : Queued E) → e ≡ d → t ≡ Gives came
      → walked s k q e came ≡ perform t d (walked s k q)
  past_came came t q d e same gives = λ i. perform (sym gives i) (same i) (walked s k q)

  -- a look goes on
  look_more : (new : Walking) (look : Doing ℕ) (q : Queue) (next : ℕ) (d e : Queued E) → e ≡ d
      → look_left new.stage new.queue new.next ≡ Some look → new.queue ≡ q → new.next ≡ next
      → walk_on s k new (look_left new.stage new.queue new.next) e ≡ walk_from s k next q look d
  look_more new look q next d e same looks queue number =
      ap (λ (o : Option (Doing ℕ)). walk_on s k new o e) looks ∙ (λ i. walk_from s k (number i) (queue i) look (same i))

  -- an index came to the first one
  index_more : (test : Bool) (q : Queue) (next index : ℕ) (new : Walking) (d e : Queued E)
      → ((index == next) && q.accepted.event_index) ≡ test → e ≡ index_shown s k next index d
      → walk_left new ≡ and_then (if test then event_written q next else Gives index) (indexed_by q next)
      → look_left new.stage new.queue new.next ≡ look_open (if test then event_written q next else Gives index)
      → new.queue ≡ q → new.next ≡ next
      → walk_on s k new (look_left new.stage new.queue new.next) e
      ≡ walk_from s k next q (if test then event_written q next else Gives index) d
  index_more true q next index new d e is shown left look queue number =
      let old : (index == next) ≡ true = (and_parts (index == next) q.accepted.event_index is).0 in
      look_more new (event_written q next) q next d e
      (shown ∙ ap (λ (b : Bool). if b then d else at_own (s.begun k) d) old) look queue number
  index_more false q next index new d e is shown left look queue number =
      past_more new (indexed_by q next index) q (index_shown s k next index d) e shown left look queue

  index_came : (test : Bool) (q : Queue) (next index : ℕ) (came : Walk) (d e : Queued E) → e ≡ index_shown s k next index d
      → and_then (if test then event_written q next else Gives index) (indexed_by q next) ≡ Gives came
      → walked s k q e came ≡ walk_from s k next q (if test then event_written q next else Gives index) d
  index_came true q next index came d e shown gives = absurd (cc)
  index_came false q next index came d e shown gives =
      past_came came (indexed_by q next index) q (index_shown s k next index d) e shown gives

  -- the walk at this stage
  abbrev At : Stage → Queue → ℕ → List Part → Walking
  At stage q next parts = record { queue = q; next = next; stage = stage; parts = parts }

  more_at : (stage : Stage) (q : Queue) (next : ℕ) (parts : List Part) (reply : Reply) (new : Walking) (d e : Queued E)
      → e ≡ walk_shown s k (At stage q next parts) reply d → walk_left new ≡ led (walking.left_at stage q next parts) reply
      → look_left new.stage new.queue new.next ≡ look_led (look_left stage q next) reply → new.queue ≡ q → new.next ≡ next
      → walk_on s k new (look_left new.stage new.queue new.next) e
      ≡ walk_led s k (At stage q next parts) reply (look_left stage q next) d
  more_at Index q next parts reply new d e shown left look queue number =
      index_more ((index_in reply == next) && q.accepted.event_index) q next (index_in reply) new d e refl shown left look queue number
  more_at AvailEvent q next parts reply new d e shown left look queue number =
      look_more new (index_again q) q next d e shown look queue number
  more_at IndexAgain q next parts reply new d e shown left look queue number =
      past_more new (indexed_by q next (index_in reply)) q (index_shown s k next (index_in reply) d) e shown left look queue
  more_at Ring q next parts reply new d e shown left look queue number =
      past_more new (led (walking.left_at Ring q next parts) reply) q d e shown left look queue
  more_at (Link head at) q next parts reply new d e shown left look queue number =
      past_more new (led (walking.left_at (Link head at) q next parts) reply) q d e shown left look queue
  more_at (Entry head table at) q next parts reply new d e shown left look queue number =
      past_more new (led (walking.left_at (Entry head table at) q next parts) reply) q d e shown left look queue
  more_at (EntryRest head table at front) q next parts reply new d e shown left look queue number =
      past_more new (led (walking.left_at (EntryRest head table at front) q next parts) reply) q d e shown left look queue

  came_at : (stage : Stage) (q : Queue) (next : ℕ) (parts : List Part) (reply : Reply) (came : Walk) (d e : Queued E)
      → e ≡ walk_shown s k (At stage q next parts) reply d → led (walking.left_at stage q next parts) reply ≡ Gives came
      → walked s k q e came ≡ walk_led s k (At stage q next parts) reply (look_left stage q next) d
  came_at Index q next parts reply came d e shown gives =
      index_came ((index_in reply == next) && q.accepted.event_index) q next (index_in reply) came d e shown gives
  came_at AvailEvent q next parts reply came d e shown gives = absurd (cc)
  came_at IndexAgain q next parts reply came d e shown gives =
      past_came came (indexed_by q next (index_in reply)) q (index_shown s k next (index_in reply) d) e shown gives
  came_at Ring q next parts reply came d e shown gives =
      past_came came (led (walking.left_at Ring q next parts) reply) q d e shown gives
  came_at (Link head at) q next parts reply came d e shown gives =
      past_came came (led (walking.left_at (Link head at) q next parts) reply) q d e shown gives
  came_at (Entry head table at) q next parts reply came d e shown gives =
      past_came came (led (walking.left_at (Entry head table at) q next parts) reply) q d e shown gives
  came_at (EntryRest head table at front) q next parts reply came d e shown gives =
      past_came came (led (walking.left_at (EntryRest head table at front) q next parts) reply) q d e shown gives

  -- one that goes on
  pub walk_more : (old new : Walking) (reply : Reply) (d e : Queued E) → e ≡ walk_shown s k old reply d
      → walk_left new ≡ led (walk_left old) reply
      → look_left new.stage new.queue new.next ≡ look_led (look_left old.stage old.queue old.next) reply
      → new.queue ≡ old.queue → new.next ≡ old.next
      → walk_on s k new (look_left new.stage new.queue new.next) e
      ≡ walk_led s k old reply (look_left old.stage old.queue old.next) d
  walk_more old new reply d e shown left look queue number =
      more_at old.stage old.queue old.next old.parts reply new d e shown left look queue number

  -- one that came to something
  pub walk_came : (old : Walking) (reply : Reply) (came : Walk) (d e : Queued E) → e ≡ walk_shown s k old reply d
      → led (walk_left old) reply ≡ Gives came
      → walked s k old.queue e came ≡ walk_led s k old reply (look_left old.stage old.queue old.next) d
  walk_came old reply came d e shown gives =
      came_at old.stage old.queue old.next old.parts reply came d e shown gives

-- ---- a chain that is given back

module _ {E : Type 0} (s : Service E) (d : Queued E) (c : InHand) (len : ℕ) (stage : ReturnStage) (reply : Reply) where
  pub return_stepped : {C : Type 0} (changing : Changing E C) (h : Hand E) (p : Phase) (x : Script (Queued E)) → p ≡ phase.Return c len stage
      → x ≡ perform (led (return_left stage (used_chain c len d.rounds)) reply) d (λ e done. Ends (given_back s c.which e))
      → x ≡ stepped (queue_rules s changing) (left_at s p h d) reply
  return_stepped changing h p x is made =
      let asks = return_asks stage (used_chain c len d.rounds) in
      subst (λ (y : Phase). x ≡ stepped (queue_rules s changing) (left_at s y h d) reply) (sym is)
      (made ∙ sym (perform_stepped (queue_rules s changing) (return_left stage (used_chain c len d.rounds)) d
      (λ (e : Queued E) done. Ends (given_back s c.which e)) asks.0 reply asks.1))

  -- by a reply that fits
  pub return_fit : {C : Type 0} (changing : Changing E C) (h : Hand E) (p : Phase) (used : UsedChain) → p ≡ phase.Return c len stage
      → used ≡ used_chain c len d.rounds → fits (wants (queue_rules s changing) (left_at s p h d)) reply ≡ true
      → IfSome (asked (return_left stage used)) (λ op. fits op reply ≡ true)
  return_fit changing h p used is same fit =
      let asks = return_asks stage (used_chain c len d.rounds) in
      let wanted = perform_wants (queue_rules s changing) (return_left stage (used_chain c len d.rounds)) d
      (λ (e : Queued E) done. Ends (given_back s c.which e)) asks.0 asks.1 in
      let there = subst (λ (y : Phase). fits (wants (queue_rules s changing) (left_at s y h d)) reply ≡ true) is fit in
      subst (λ (u : UsedChain). IfSome (asked (return_left stage u)) (λ op. fits op reply ≡ true)) (sym same)
      (subst (λ (o : Option Op). IfSome o (λ op. fits op reply ≡ true)) (sym asks.1)
      (subst (λ (op : Op). fits op reply ≡ true) wanted there))

  -- something is still to be told of it
  pub return_more : (told : InHand) (rest : ℕ) (new : ReturnStage) (used : UsedChain) → used ≡ used_chain c len d.rounds
      → return_left new used ≡ led (return_left stage used) reply
      → return_left new (used_chain told rest d.rounds) ≡ return_left new (used_chain c len d.rounds) → told.which ≡ c.which
      → perform (return_left new (used_chain told rest d.rounds)) d (λ e done. Ends (given_back s told.which e))
      ≡ perform (led (return_left stage (used_chain c len d.rounds)) reply) d (λ e done. Ends (given_back s c.which e))
  return_more told rest new used is gives same which =
      let on : return_left new (used_chain told rest d.rounds) ≡ led (return_left stage (used_chain c len d.rounds)) reply =
      same ∙ subst (λ (u : UsedChain). return_left new u ≡ led (return_left stage u) reply) is gives in
      λ i. perform (on i) d (λ (e : Queued E) done. Ends (given_back s (which i) e))

  -- all was told
  pub return_done : (used : UsedChain) (v : Unit {0}) (x : Script (Queued E)) → used ≡ used_chain c len d.rounds
      → led (return_left stage used) reply ≡ Gives v → x ≡ Ends (given_back s c.which d)
      → x ≡ perform (led (return_left stage (used_chain c len d.rounds)) reply) d (λ e done. Ends (given_back s c.which e))
  return_done used v x is gives over =
      over
      ∙ sym (ap (λ (t : Doing (Unit {0})). perform t d (λ (e : Queued E) done. Ends (given_back s c.which e)))
      (subst (λ (u : UsedChain). led (return_left stage u) reply ≡ Gives v) is gives))
