-- What a device with queues writes are bytes, where each reply was small.
use Rattle.std.proofs.Common.{◌≡◌, ℕ, ◌%◌, ◌==◌, ◌≤◌, ◌<◌, ◌^◌, ◌++◌, refl, sym, subst, Bool, true, false, if◌then◌else◌, Option, Some, None, is_some, arith}
use Rattle.std.proofs.lemmas.Bool.{and_parts, eqb-true}
use Rattle.std.proofs.lemmas.List.Elements.{All-append}
use Rattle.vm_types.specs.declared.op.Op.{Op}
use Rattle.vm_types.specs.declared.op.OutOp.{OutOp}
use Rattle.vm_types.specs.declared.reply.Reply.{Reply}
use Rattle.device_trace.specs.Doing.{Doing, Gives, Wants, asked}
use Rattle.device_trace.specs.Script.{Script, Ends, perform}
use Rattle.device_trace.specs.States.{wants}
use Rattle.device_trace.specs.Traces.{Changing, root_op}
use Rattle.le_fields.specs.Fields.{IsByte, bytes_of}
use Rattle.le_fields.proofs.Values.{all_bytes}
use Rattle.vq_split.specs.declared.queue.Queue.{Queue}
use Rattle.vq_split.specs.declared.queue.Why.{Why}
use Rattle.vq_split.specs.declared.walk.Stage.{Stage}
use Rattle.vq_split.specs.declared.walk.Stage.TheVariants.{AvailEvent, Entry, EntryRest, Index, IndexAgain, Link, Ring}
use Rattle.vq_split.specs.Chain.{queue_flaw}
use Rattle.vq_split.specs.Walking.{look_left, op_at, walk_wants}
use Rattle.dev_core.specs.declared.breaking.BreakStage.{BreakStage}
use Rattle.dev_core.specs.declared.breaking.BreakStage.TheVariants as breaking
use Rattle.dev_core.specs.declared.returning.ReturnStage.{ReturnStage}
use Rattle.dev_core.specs.declared.returning.ReturnStage.TheVariants as returning
use Rattle.dev_core.specs.declared.returning.UsedChain.{UsedChain}
use Rattle.dev_core.specs.Returning.{break_left, return_left}
use Rattle.dev_core.specs.Returns.{pair_place}
use Rattle.queue_device.specs.declared.lanes.Due.{Due}
use Rattle.queue_device.specs.declared.lanes.Due.TheVariants as due
use Rattle.queue_device.specs.declared.lanes.Rounds.{Rounds}
use Rattle.queue_device.specs.declared.lanes.Which.{Which}
use Rattle.queue_device.specs.declared.phase.Phase.{Phase}
use Rattle.queue_device.specs.declared.phase.Phase.TheVariants as phase
use Rattle.queue_device.specs.declared.phase.Work.{Work}
use Rattle.queue_device.specs.declared.phase.Work.TheVariants as work
use Rattle.queue_device.specs.Chains.{Chain}
use Rattle.queue_device.specs.Confined.{Confines, is_queue, is_waiting}
use Rattle.queue_device.specs.Kept.{is_at_lane, is_walked}
use Rattle.queue_device.specs.Lanes.{in_lane, lane_freed, lane_of}
use Rattle.queue_device.specs.Left.{Hand, is_between, left_at, queued, used_chain}
use Rattle.queue_device.specs.Resuming.{IsShortChain, Resumes}
use Rattle.queue_device.specs.Rounds.{at_rounds, begins_at, broken_off, due_from, given_back, lane_begins, next_begins, over_begins, queue_rules, serving, time_asked, walk_begun}
use Rattle.queue_device.specs.Service.{Queued, Service}
use Rattle.queue_device.specs.Sizes.{IsSmallWrite}
use Rattle.queue_device.proofs.GoesOn.{Kept, Next, Parts, Round, Working, break_asks, freed_on, holds_of, own_waits, parts_of, return_asks}
use Rattle.queue_device.proofs.Keeping.{chain_of, lane_is}
use Rattle.queue_device.proofs.KeptRounds.{own_lane, short_of}
use Rattle.queue_device.proofs.Places.{walking_is}
use Rattle.queue_device.proofs.Steps.{on_op, walk_first}
use Rattle.queue_device.proofs.Walks.{walk_asks}

-- ---- what is wanted first

root_of : {A D : Type 0} (t : Doing A) (d : D) (more : D → A → Script D) (op : Op) → asked t ≡ Some op → root_op (perform t d more) ≡ op
root_of (Gives a) d more op is = cc
root_of (Wants own on) d more op is = cc

same_small : (a op : Op) → IsSmallWrite a → ◌≡◌ {A = Option Op} (Some a) (Some op) → IsSmallWrite op
same_small a op small is =
    let same : a ≡ op = cc in
    subst IsSmallWrite same small

either_small : {A : Type 0} (test : Bool) (a b op : Op) (x y : Reply → Doing A) → IsSmallWrite a → IsSmallWrite b
    → asked (if test then Wants a x else Wants b y) ≡ Some op → IsSmallWrite op
either_small true a b op x y first second is = same_small a op first is
either_small false a b op x y first second is = same_small b op second is

return_small : (stage : ReturnStage) (c : UsedChain) (op : Op) → asked (return_left stage c) ≡ Some op → IsSmallWrite op
return_small returning.Pair c op is =
    either_small (pair_place c.queue c.used % 4096 == 4092) _ _ op _ _ (all_bytes 4 c.head)
    (All-append IsByte (bytes_of 4 c.head) (bytes_of 4 c.len) (all_bytes 4 c.head) (all_bytes 4 c.len)) is
return_small returning.Half c op is = same_small _ op (all_bytes 4 c.len) is
return_small returning.Index c op is = same_small _ op (all_bytes 2 _) is
return_small returning.Event c op is = same_small _ op tt is
return_small returning.Interrupt c op is = same_small _ op tt is
return_small returning.Line c op is = same_small _ op tt is

break_small : (stage : BreakStage) (port : ℕ) (op : Op) → asked (break_left stage port) ≡ Some op → IsSmallWrite op
break_small breaking.Port port op is = same_small _ op tt is
break_small breaking.Line port op is = same_small _ op tt is

walk_small : (stage : Stage) (q : Queue) (next : ℕ) → IsSmallWrite (op_at stage q next)
walk_small Index q next = tt
walk_small AvailEvent q next = all_bytes 2 next
walk_small IndexAgain q next = tt
walk_small Ring q next = tt
walk_small (Link head at) q next = tt
walk_small (Entry head table at) q next = tt
walk_small (EntryRest head table at front) q next = tt

module _ {E G C : Type 0} (s : Service E) (changing : Changing E C) (hand : G → Hand E) (is_work : Work → ℕ → G → Bool)
    (IsFine : E → Type 0) (sized times : Bool) (calls : OutOp → Bool) (port pages : ℕ) (small : pages ≤ 2 ^ 20)
    (kind : Confines s changing times calls) (owes : Resumes s hand is_work IsFine sized changing times calls)
    (asks : (e : E) → IsSmallWrite (s.question e)) (acts : (w : Work) (g : G) → is_work w pages g ≡ true → IsSmallWrite (hand g).op) where
  abbrev IsKept : Script (Queued E) → Type 0
  IsKept t = Kept s changing hand is_work IsFine sized times calls port pages small kind owes t

  abbrev Has : Phase → Rounds → G → Type 0
  Has p r g = Parts s changing hand is_work IsFine sized times calls port pages small kind owes p r g

  abbrev IsRound : Rounds → Type 0
  IsRound r = Round s changing hand is_work IsFine sized times calls port pages small kind owes r

  abbrev IsNext : Rounds → Type 0
  IsNext r = Next s changing hand is_work IsFine sized times calls port pages small kind owes r

  abbrev Works : Rounds → Type 0
  Works r = Working s changing hand is_work IsFine sized times calls port pages small kind owes r

  few : pages < 2 ^ 32
  few = omega (arith, small)

  -- inside a group
  place_small : (p : Phase) (r : Rounds) (e : E) (g : G) → Has p r g → IsSmallWrite (root_op (left_at s p (hand g) (queued r e)))
  place_small phase.Between r e g v = tt
  place_small phase.Question r e g v = acts work.Answer g v.works
  place_small (phase.Take c) r e g v = acts (work.Take c.which) g v.works
  place_small (phase.Serve c) r e g v = acts (work.Serve c.which) g v.works
  place_small (phase.Walk k w) r e g v =
      let at = and_parts (is_at_lane r.due) (is_walked (lane_of k r) w) v.place in
      let sure = walking_is s times port pages few k w r v.it.0 at.1 in
      subst IsSmallWrite
      (sym (on_op s k w (walk_wants w) (look_left w.stage w.queue w.next) (queued r e) (walk_first w (walk_wants w) (walk_asks w sure.0))))
      (walk_small w.stage w.queue w.next)
  place_small (phase.Return c len stage) r e g v =
      let is = return_asks stage (used_chain c len r) in
      subst IsSmallWrite
      (sym (root_of (return_left stage (used_chain c len r)) (queued r e) (λ f done. Ends (given_back s c.which f)) is.0 is.1))
      (return_small stage (used_chain c len r) is.0 is.1)
  place_small (phase.Break k stage) r e g v =
      let is = break_asks stage r.port in
      subst IsSmallWrite
      (sym (root_of (break_left stage r.port) (queued r e) (λ f done. Ends (broken_off s k f)) is.0 is.1))
      (break_small stage r.port is.0 is.1)

  root_small : (t : Script (Queued E)) → IsKept t → IsSmallWrite (root_op t)
  root_small t k =
      subst (λ (x : Script (Queued E)). IsSmallWrite (root_op x)) k.left
      (place_small k.phase k.rounds k.own k.stage
      (parts_of s changing hand is_work IsFine sized times calls port pages small kind owes k.phase k.rounds k.stage k.is k.short
      k.narrow k.at_port k.of_pages))

  -- and where one begins
  flaw_small : (flaw : Option Why) (k : Which) (q : Queue) (d : Queued E) → IsSmallWrite (root_op (walk_begun s k q flaw d))
  flaw_small (Some why) k q d = tt
  flaw_small None k q d = tt

  goes_small : (test : Bool) (k : Which) (c : Chain) (r : Rounds) (e : E)
      → IsKept (serving s k c (queued (in_lane k lane_freed r) e))
      → IsSmallWrite (root_op (if test then time_asked s k c (queued r e)
      else serving s k c (at_rounds (in_lane k lane_freed) (queued r e))))
  goes_small true k c r e kept = tt
  goes_small false k c r e kept = root_small _ kept

  lane_small : (shown : Option Queue) (waiting : Option Chain) (k : Which) (r : Rounds) (e : E)
      → (lane_of k r).queue ≡ shown → (lane_of k r).waiting ≡ waiting → Works r → IsFine e
      → IsSmallWrite (root_op (lane_begins s k shown waiting (queued r e)))
  lane_small None waiting k r e shown is w fine = tt
  lane_small (Some q) None k r e shown is w fine = flaw_small (queue_flaw q) k q (queued r e)
  lane_small (Some q) (Some c) k r e shown is w fine =
      let some = subst (λ (o : Option Queue). is_some o ≡ true) (sym shown) refl in
      let l = lane_of k r in
      let parts = and_parts (is_queue s pages l.queue) (is_waiting s pages k l.waiting) (lane_is s port pages k r w.0.0) in
      let chain = chain_of s pages few k c (subst (λ (o : Option Chain). is_waiting s pages k o ≡ true) is parts.1) in
      let short = subst (IsShortChain sized) is (short_of sized k r w.0.2).0 in
      let may =
      own_waits s changing hand is_work IsFine sized times calls port pages small kind owes _ l c (own_lane s times k r w.0.1) is in
      goes_small (s.is_timed k c e) k c r e
      (freed_on s changing hand is_work IsFine sized times calls port pages small kind owes k c r w some may chain short e fine)

  over_small : (busy : Bool) (d : Queued E) → IsSmallWrite (root_op (over_begins s busy d))
  over_small true d = tt
  over_small false d = tt

  next_small : (o : Option Which) (r : Rounds) (e : E) → Works r → IsFine e → IsSmallWrite (root_op (next_begins s o (queued r e)))
  next_small (Some k) r e w fine = lane_small (lane_of k r).queue (lane_of k r).waiting k r e refl refl w fine
  next_small None r e w fine = over_small r.is_busy _

  begins_small : (o : Due) (r : Rounds) (e : E) → r.due ≡ o → IsRound r → IsNext r → IsFine e
      → IsSmallWrite (root_op (begins_at s o (queued r e)))
  begins_small due.Look r e is it next fine = tt
  begins_small due.Question r e is it next fine = asks e
  begins_small due.Wait r e is it next fine = tt
  begins_small (due.Lane k) r e is it next fine =
      next_small (due_from s k (queued r e)) r e (it, next, subst (λ (o : Due). is_at_lane o ≡ true) (sym is) refl) fine

  in_small : (p : Phase) (r : Rounds) (e : E) (g : G) → is_between p ≡ false → Has p r g
      → IsSmallWrite (wants (queue_rules s changing) (left_at s p (hand g) (queued r e)))
  in_small p r e g inside v =
      let h = holds_of s changing hand is_work IsFine sized times calls port pages small kind owes p r g inside v in
      let same : wants (queue_rules s changing) (left_at s p (hand g) (queued r e)) ≡ root_op (left_at s p (hand g) (queued r e)) =
      subst (λ (t : Script (Queued E)). wants (queue_rules s changing) t ≡ root_op t) (sym (h.1.1 e)) refl in
      subst IsSmallWrite (sym same) (place_small p r e g v)

  state_small : (p : Phase) (r : Rounds) (e : E) (g : G) → Has p r g → IsFine e
      → IsSmallWrite (wants (queue_rules s changing) (left_at s p (hand g) (queued r e)))
  state_small phase.Between r e g v fine = begins_small r.due r e refl v.it v.next fine
  state_small phase.Question r e g v fine = in_small phase.Question r e g refl v
  state_small (phase.Walk k w) r e g v fine = in_small (phase.Walk k w) r e g refl v
  state_small (phase.Take c) r e g v fine = in_small (phase.Take c) r e g refl v
  state_small (phase.Serve c) r e g v fine = in_small (phase.Serve c) r e g refl v
  state_small (phase.Return c len stage) r e g v fine = in_small (phase.Return c len stage) r e g refl v
  state_small (phase.Break k stage) r e g v fine = in_small (phase.Break k stage) r e g refl v

  pub wants_small : (t : Script (Queued E)) → IsKept t → IsSmallWrite (wants (queue_rules s changing) t)
  wants_small t k =
      subst (λ (x : Script (Queued E)). IsSmallWrite (wants (queue_rules s changing) x)) k.left
      (state_small k.phase k.rounds k.own k.stage
      (parts_of s changing hand is_work IsFine sized times calls port pages small kind owes k.phase k.rounds k.stage k.is k.short
      k.narrow k.at_port k.of_pages) k.fine)
