-- What is wanted inside a group, and where a reply leads.
use Rattle.std.proofs.Common.{◌≡◌, ℕ, ◌+◌, refl, sym, subst, ◌∙◌, true, false, List, length, Option, Some, None, IfSome}
use Rattle.vm_types.specs.declared.op.Op.{Op}
use Rattle.vm_types.specs.declared.reply.Reply.{Reply}
use Rattle.vm_types.specs.Fits.{fits}
use Rattle.device_trace.specs.Doing.{Doing, Gives, Wants, asked, led}
use Rattle.device_trace.specs.Script.{Script, Ends, Asks, perform}
use Rattle.device_trace.specs.Traces.{root_next, root_op}
use Rattle.vq_split.specs.declared.queue.Part.{Part}
use Rattle.vq_split.specs.declared.queue.Queue.{Queue}
use Rattle.vq_split.specs.declared.walk.Stage.{Stage}
use Rattle.vq_split.specs.declared.walk.Stage.TheVariants.{AvailEvent, Entry, EntryRest, Index, IndexAgain, Link, Ring}
use Rattle.vq_split.specs.declared.walk.Walk.{Walk}
use Rattle.vq_split.specs.Chain.{read_bytes}
use Rattle.vq_split.specs.Walking as walking
use Rattle.vq_split.specs.Walking.{Walking, is_looking, look_left, op_at, walk_left}
use Rattle.vq_split.proofs.Steps.{bytes_fit}
use Rattle.dev_core.specs.declared.breaking.BreakStage.{BreakStage}
use Rattle.dev_core.specs.declared.returning.ReturnStage.{ReturnStage}
use Rattle.dev_core.specs.declared.returning.UsedChain.{UsedChain}
use Rattle.dev_core.specs.Returning.{break_left, return_left}
use Rattle.queue_device.specs.declared.lanes.Rounds.{Rounds}
use Rattle.queue_device.specs.declared.lanes.Which.{Which}
use Rattle.queue_device.specs.declared.phase.InHand.{InHand}
use Rattle.queue_device.specs.declared.phase.Phase.{Phase}
use Rattle.queue_device.specs.declared.phase.Phase.TheVariants as phase
use Rattle.queue_device.specs.Chains.{Chain}
use Rattle.queue_device.specs.Lanes.{in_lane, lane_freed}
use Rattle.queue_device.specs.Left.{Hand, Holds, left_at, queued, used_chain, walk_led, walk_on}
use Rattle.queue_device.specs.Rounds.{answered, at_rounds, broken_off, during, given_back, goes_on, index_read, served, serving, took, walked}
use Rattle.queue_device.specs.Service.{Queued, Service}

module _ {D : Type 0} where
  pub perform_op : {A : Type 0} (t : Doing A) (d : D) (more : D → A → Script D) (op : Op) → asked t ≡ Some op
      → root_op (perform t d more) ≡ op
  perform_op (Gives a) d more op is = cc
  perform_op (Wants o on) d more op is = cc

  pub perform_next : {A : Type 0} (t : Doing A) (d : D) (more : D → A → Script D) (op : Op) (reply : Reply)
      → asked t ≡ Some op → root_next (perform t d more) reply ≡ perform (led t reply) d more
  perform_next (Gives a) d more op reply is = cc
  perform_next (Wants o on) d more op reply is = refl

  -- one tree of acts is wanted over whatever data
  pub perform_holds : {A : Type 0} (t : Doing A) (more : D → A → Script D) (op : Op) → asked t ≡ Some op
      → (on : D → Reply → Script D) × ((d : D) → perform t d more ≡ Asks d op on)
  perform_holds (Gives a) more op is = absurd (cc)
  perform_holds (Wants o on) more op is = (λ e reply. perform (on reply) e more, λ d. cc)

-- ---- a walk, which looks at the ring or is past that

-- the act that it wants
abbrev pub FirstAsks : Op → Doing Walk → Option (Doing ℕ) → Type 0
FirstAsks op t (Some look) = asked look ≡ Some op
FirstAsks op t None = asked t ≡ Some op

first_at : (stage : Stage) (q : Queue) (next : ℕ) (parts : List Part) (op : Op) → asked (walking.left_at stage q next parts) ≡ Some op
    → FirstAsks op (walking.left_at stage q next parts) (look_left stage q next)
first_at Index q next parts op is = is
first_at AvailEvent q next parts op is = is
first_at IndexAgain q next parts op is = is
first_at Ring q next parts op is = is
first_at (Link head at) q next parts op is = is
first_at (Entry head table at) q next parts op is = is
first_at (EntryRest head table at front) q next parts op is = is

pub walk_first : (walk : Walking) (op : Op) → asked (walk_left walk) ≡ Some op
    → FirstAsks op (walk_left walk) (look_left walk.stage walk.queue walk.next)
walk_first walk op is = first_at walk.stage walk.queue walk.next walk.parts op is

module _ {E : Type 0} (s : Service E) (k : Which) (walk : Walking) (op : Op) where
  pub on_op : (o : Option (Doing ℕ)) (d : Queued E) → FirstAsks op (walk_left walk) o → root_op (walk_on s k walk o d) ≡ op
  on_op (Some look) d is = perform_op look d (index_read s k walk.next walk.queue) op is
  on_op None d is = perform_op (walk_left walk) d (walked s k walk.queue) op is

  pub on_next : (o : Option (Doing ℕ)) (d : Queued E) (reply : Reply) → FirstAsks op (walk_left walk) o
      → root_next (walk_on s k walk o d) reply ≡ walk_led s k walk reply o d
  on_next (Some look) d reply is = perform_next look d (index_read s k walk.next walk.queue) op reply is
  on_next None d reply is = perform_next (walk_left walk) d (walked s k walk.queue) op reply is

  pub on_holds : (o : Option (Doing ℕ)) → FirstAsks op (walk_left walk) o
      → (on : Queued E → Reply → Script (Queued E)) × ((d : Queued E) → walk_on s k walk o d ≡ Asks d op on)
  on_holds (Some look) is = perform_holds look (index_read s k walk.next walk.queue) op is
  on_holds None is = perform_holds (walk_left walk) (walked s k walk.queue) op is

-- where the look counts the reply brings two bytes
pub looking_length : (stage : Stage) (q : Queue) (next : ℕ) (reply : Reply) → is_looking stage ≡ true → fits (op_at stage q next) reply ≡ true
    → length (read_bytes 2 reply) ≡ 2
looking_length Index q next reply is fit = bytes_fit (q.available + 2) 2 reply fit
looking_length IndexAgain q next reply is fit = bytes_fit (q.available + 2) 2 reply fit
looking_length AvailEvent q next reply is fit = absurd (cc)
looking_length Ring q next reply is fit = absurd (cc)
looking_length (Link head at) q next reply is fit = absurd (cc)
looking_length (Entry head table at) q next reply is fit = absurd (cc)
looking_length (EntryRest head table at front) q next reply is fit = absurd (cc)

-- ---- by what the device is at

module _ {E : Type 0} (s : Service E) (h : Hand E) (r : Rounds) (p : Phase) (op : Op) where
  pub holds_walk : (k : Which) (walk : Walking) → p ≡ phase.Walk k walk → asked (walk_left walk) ≡ Some op → Holds s p h r op
  holds_walk k walk is asks =
      let made = on_holds s k walk op (look_left walk.stage walk.queue walk.next) (walk_first walk op asks) in
      subst (λ (x : Phase). Holds s x h r op) (sym is) (made.0, λ e. made.1 (queued r e))

  pub holds_return : (c : InHand) (len : ℕ) (stage : ReturnStage) (used : UsedChain) → p ≡ phase.Return c len stage
      → used ≡ used_chain c len r → asked (return_left stage used) ≡ Some op → Holds s p h r op
  holds_return c len stage used is same asks =
      let told = subst (λ (u : UsedChain). asked (return_left stage u) ≡ Some op) same asks in
      let made = perform_holds (return_left stage (used_chain c len r)) (λ (e : Queued E) done. Ends (given_back s c.which e)) op told in
      subst (λ (x : Phase). Holds s x h r op) (sym is) (made.0, λ e. made.1 (queued r e))

  pub holds_break : (k : Which) (stage : BreakStage) → p ≡ phase.Break k stage → asked (break_left stage r.port) ≡ Some op
      → Holds s p h r op
  holds_break k stage is asks =
      let made = perform_holds (break_left stage r.port) (λ (e : Queued E) done. Ends (broken_off s k e)) op asks in
      subst (λ (x : Phase). Holds s x h r op) (sym is) (made.0, λ e. made.1 (queued r e))

  pub holds_question : p ≡ phase.Question → op ≡ h.op → Holds s p h r op
  holds_question is same =
      subst (λ (x : Phase). Holds s x h r op) (sym is)
      (subst (λ (o : Op). Holds s phase.Question h r o) (sym same)
      (λ e reply. during (h.answering e.own reply) e.rounds (answered s), λ e. refl))

  pub holds_take : (c : InHand) → p ≡ phase.Take c → op ≡ h.op → Holds s p h r op
  holds_take c is same =
      subst (λ (x : Phase). Holds s x h r op) (sym is)
      (subst (λ (o : Op). Holds s (phase.Take c) h r o) (sym same)
      (λ e reply. during (h.taking e.own reply) e.rounds (took s c.which c.queue c.head), λ e. refl))

  pub holds_serve : (c : InHand) → p ≡ phase.Serve c → op ≡ h.op → Holds s p h r op
  holds_serve c is same =
      subst (λ (x : Phase). Holds s x h r op) (sym is)
      (subst (λ (o : Op). Holds s (phase.Serve c) h r o) (sym same)
      (λ e reply. during (h.serving e.own reply) e.rounds (served s c.which c.queue c.head), λ e. refl))

-- a walk's act
pub walk_op : {E : Type 0} (s : Service E) (h : Hand E) (d : Queued E) (p : Phase) (op : Op) (k : Which) (walk : Walking)
    → p ≡ phase.Walk k walk → asked (walk_left walk) ≡ Some op → op ≡ root_op (left_at s p h d)
walk_op s h d p op k walk is asks =
    subst (λ (y : Phase). op ≡ root_op (left_at s y h d)) (sym is)
    (sym (on_op s k walk op (look_left walk.stage walk.queue walk.next) d (walk_first walk op asks)))

-- a reply to the giving back of a chain
pub return_next : {E : Type 0} (s : Service E) (h : Hand E) (d : Queued E) (p : Phase) (op : Op) (c : InHand) (len : ℕ)
    (stage : ReturnStage) (used : UsedChain) (reply : Reply) (x : Script (Queued E)) → p ≡ phase.Return c len stage
    → used ≡ used_chain c len d.rounds → asked (return_left stage used) ≡ Some op
    → x ≡ perform (led (return_left stage (used_chain c len d.rounds)) reply) d (λ e done. Ends (given_back s c.which e))
    → x ≡ root_next (left_at s p h d) reply
return_next s h d p op c len stage used reply x is same asks made =
    let told = subst (λ (u : UsedChain). asked (return_left stage u) ≡ Some op) same asks in
    let on = perform_next (return_left stage (used_chain c len d.rounds)) d
    (λ (e : Queued _) done. Ends (given_back s c.which e)) op reply told in
    subst (λ (y : Phase). x ≡ root_next (left_at s y h d) reply) (sym is) (made ∙ sym on)

-- which fits it
pub root_fits : {D A : Type 0} (t : Doing A) (d : D) (more : D → A → Script D) (reply : Reply)
    → fits (root_op (perform t d more)) reply ≡ true → IfSome (asked t) (λ op. fits op reply ≡ true)
root_fits (Gives a) d more reply fit = tt
root_fits (Wants op on) d more reply fit = fit

pub return_fits : {E : Type 0} (s : Service E) (h : Hand E) (d : Queued E) (p : Phase) (c : InHand) (len : ℕ) (stage : ReturnStage)
    (reply : Reply) → p ≡ phase.Return c len stage → fits (root_op (left_at s p h d)) reply ≡ true
    → IfSome (asked (return_left stage (used_chain c len d.rounds))) (λ op. fits op reply ≡ true)
return_fits s h d p c len stage reply is fit =
    root_fits (return_left stage (used_chain c len d.rounds)) d (λ (e : Queued _) done. Ends (given_back s c.which e)) reply
    (subst (λ (y : Phase). fits (root_op (left_at s y h d)) reply ≡ true) is fit)

-- one to a walk, and to what is told of a broken queue
pub walk_next : {E : Type 0} (s : Service E) (h : Hand E) (d : Queued E) (p : Phase) (op : Op) (k : Which) (walk : Walking)
    (reply : Reply) (x : Script (Queued E)) → p ≡ phase.Walk k walk → asked (walk_left walk) ≡ Some op
    → x ≡ walk_led s k walk reply (look_left walk.stage walk.queue walk.next) d → x ≡ root_next (left_at s p h d) reply
walk_next s h d p op k walk reply x is asks made =
    let on = on_next s k walk op (look_left walk.stage walk.queue walk.next) d reply (walk_first walk op asks) in
    subst (λ (y : Phase). x ≡ root_next (left_at s y h d) reply) (sym is) (made ∙ sym on)

pub break_next : {E : Type 0} (s : Service E) (h : Hand E) (d : Queued E) (p : Phase) (op : Op) (k : Which)
    (stage : BreakStage) (reply : Reply) (x : Script (Queued E)) → p ≡ phase.Break k stage
    → asked (break_left stage d.rounds.port) ≡ Some op
    → x ≡ perform (led (break_left stage d.rounds.port) reply) d (λ e done. Ends (broken_off s k e))
    → x ≡ root_next (left_at s p h d) reply
break_next s h d p op k stage reply x is asks made =
    let on = perform_next (break_left stage d.rounds.port) d (λ (e : Queued _) done. Ends (broken_off s k e)) op reply asks in
    subst (λ (y : Phase). x ≡ root_next (left_at s y h d) reply) (sym is) (made ∙ sym on)

-- a chain that waited and asks no guest time is served at once
pub goes_untimed : {E : Type 0} (s : Service E) (k : Which) (c : Chain) (d : Queued E) (reply : Reply)
    (left : Script (Queued E)) → s.is_timed k c d.own ≡ false → fits (root_op (goes_on s k c d)) reply ≡ true
    → left ≡ serving s k c (at_rounds (in_lane k lane_freed) d) → fits (root_op left) reply ≡ true
goes_untimed s k c d reply left free fit is =
    let same : goes_on s k c d ≡ serving s k c (at_rounds (in_lane k lane_freed) d) = rw free refl in
    subst (λ (t : Script (Queued _)). fits (root_op t) reply ≡ true) (same ∙ sym is) fit
