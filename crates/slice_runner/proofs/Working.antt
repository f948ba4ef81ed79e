-- An actor at work goes on by one entry, or stops.
use Rattle.std.proofs.Common.{◌≡◌, ℕ, ◌+◌, ◌<◌, ◌≤◌, ◌^◌, max, Bool, true, false, refl, sym, ap, ◌∙◌, subst, arith}
use Rattle.std.proofs.Common.{List, [], ◌∷◌, ◌++◌, length, length-append}
use Rattle.std.specs.List.{AllByRecursion}
use Rattle.vm_types.specs.declared.entry.Entry.{Entry}
use Rattle.vm_types.specs.declared.ids.ActorId.{ActorId}
use Rattle.vm_types.specs.declared.op.Op.{Op}
use Rattle.vm_types.specs.declared.reply.Reply.{Reply}
use Rattle.vm_types.specs.Histories.{last_stamp}
use Rattle.vm_types.specs.Serial.{Follows, IsPlaced, OutFits}
use Rattle.hart_trace.specs.Traces.{is_full}
use Rattle.hart_trace.specs.Asks.{is_host_op}
use Rattle.flat_guest.specs.Given.{Given}
use Rattle.flat_guest.specs.Given.Given.{Nothing}
use Rattle.flat_guest.specs.Steps.{is_given}
use Rattle.pause_gate.specs.Tally.{Tally}
use Rattle.stamp_merge.specs.declared.layout.Layout.{Layout}
use Rattle.stamp_merge.specs.Stamps.{OutIsZero}
use Rattle.turn_work.specs.declared.worker.Worker.{Worker}
use Rattle.machine_places.specs.declared.place.MachinePlace.{MachinePlace}
use Rattle.slice_runner.specs.declared.stop.Stop.{Stop}
use Rattle.slice_runner.specs.declared.worker.Track.{Track}
use Rattle.slice_runner.specs.Runs.{GoesOn, HasEnded, HasRun, IsActOf, IsSameBut, IsUnderWay, StopsFor, WritesDown}
use Rattle.slice_runner.specs.Blanks.{was_made}
use Rattle.slice_runner.specs.Stops.{IsUnfull, closings, is_last_full, may_lack}
use Rattle.slice_runner.specs.Values.{route_among}
use Rattle.stamp_merge.proofs.Stamps.{Stamped-more}

follows_more : {S : Type 0} (want : S → Op) (next : S → Reply → S) (s : S) (es : List Entry) (t u : S) (e : Entry)
    → Follows want next s es t → e.op ≡ want t → u ≡ next t e.reply → Follows want next s (es ++ e ∷ []) u
follows_more want next s [] t u e h op is = (op ∙ ap want (sym h), ap (λ x. next x e.reply) h ∙ sym is)
follows_more want next s (d ∷ es) t u e h op is = (h.0, follows_more want next (next s d.reply) es t u e h.1 op is)

last_more : (b : ℕ) (es : List Entry) (e : Entry) → last_stamp b (es ++ e ∷ []) ≡ e.stamp
last_more b [] e = refl
last_more b (d ∷ es) e = last_more d.stamp es e

pub all_more : (P : Entry → Type 0) (es : List Entry) (e : Entry) → AllByRecursion P es → P e → AllByRecursion P (es ++ e ∷ [])
all_more P [] e h p = (p, tt)
all_more P (d ∷ es) e h p = (h.0, all_more P es e h.1 p)

full_more : (b : Bool) (es : List Entry) (e : Entry) → is_last_full b (es ++ e ∷ []) ≡ is_full e.reply
full_more b [] e = refl
full_more b (d ∷ es) e = full_more (is_full d.reply) es e

unfull_more : (b : Bool) (es : List Entry) (e : Entry) → IsUnfull b es → is_last_full b es ≡ false → IsUnfull b (es ++ e ∷ [])
unfull_more b [] e h last = (last, tt)
unfull_more b (d ∷ es) e h last = (h.0, unfull_more (is_full d.reply) es e h.1 last)

module _ {S Q : Type 0} (want : S → Op) (next : S → Reply → S) (tally : Q → Tally) (layout : Layout) (made : List Bool) (id : ActorId) (s : S)
    (c : Tally) (blanks : ℕ) (t : S) (old mid : Track Q) (op : Op) (way : IsUnderWay want next tally layout id s c blanks t old)
    (same : IsSameBut old mid) (is_want : op ≡ want t) where
  mid_actor : mid.work.actor ≡ id
  mid_actor = ap (λ (w : Worker MachinePlace). w.actor) same.work ∙ way.same

  mid_items : mid.work.journal.items ≡ old.work.journal.items
  mid_items = ap (λ (w : Worker MachinePlace). w.journal.items) same.work

  mid_clock : mid.work.clock ≡ old.work.clock
  mid_clock = ap (λ (w : Worker MachinePlace). w.clock) same.work

  mid_long : length mid.work.journal.items ≡ length old.work.journal.items
  mid_long = ap (λ (xs : List Entry). length xs) mid_items

  mid_pool : length mid.pool.items ≡ length old.pool.items
  mid_pool = λ i. length (same.pool i).items

  mid_unfull : IsUnfull false mid.work.journal.items
  mid_unfull = rw mid_items way.unfull

  mid_run : HasRun want next layout id s mid.work.journal.items t mid.work.clock
  mid_run = rw (mid_items, mid_clock) way.ran

  -- one more entry
  pub went : (new : Track Q) (e : Entry) (given : Given) (u : S) → GoesOn tally layout made op old mid
      → IsActOf e mid.work.actor op given layout mid.work.clock → WritesDown e mid new → u ≡ next t e.reply
      → IsUnderWay want next tally layout id s c blanks u new
  went new e given u on act down is =
      let run = mid_run in
      let more : length new.work.journal.items ≡ length mid.work.journal.items + 1 =
      ap (λ (xs : List Entry). length xs) down.items ∙ length-append mid.work.journal.items (e ∷ []) in
      let stamp : e.stamp ≡ 1 + max (last_stamp 0 mid.work.journal.items) e.before =
      act.stamp_is ∙ ap (λ (n : ℕ). 1 + max n e.before) run.last in
      record {
        same = down.actor ∙ mid_actor;
        ran = rw down.items (record {
          follows = follows_more want next s mid.work.journal.items t u e run.follows (act.op_is ∙ is_want) is;
          stamped = Stamped-more 0 mid.work.journal.items e run.stamped stamp;
          last = down.clock ∙ sym (last_more 0 mid.work.journal.items e);
          own = all_more (λ (x : Entry). x.actor ≡ id) mid.work.journal.items e run.own (act.actor_is ∙ mid_actor);
          placed = all_more (IsPlaced (route_among layout) OutFits) mid.work.journal.items e run.placed act.placed;
          out = all_more OutIsZero mid.work.journal.items e run.out act.out;
        });
        full_is = down.full ∙ sym (full_more false mid.work.journal.items e) ∙ ap (is_last_full false) (sym down.items);
        unfull = rw down.items (unfull_more false mid.work.journal.items e mid_unfull
            (ap (is_last_full false) mid_items ∙ sym way.full_is ∙ on.unfull));
        asked = ap (λ (q : Q). (tally q).asks) down.pass ∙ on.asked ∙ ap (λ (k : ℕ). k + 1) way.asked
            ∙ omega (arith, more, ap (λ (xs : List Entry). length xs) mid_items);
        unclosed = ap (λ (q : Q). (tally q).closed) down.pass ∙ on.unclosed ∙ way.unclosed;
        pool = omega (arith, way.pool, mid_pool, mid_long, down.pool, more);
      }

  -- a stop
  pub ended : (n : ℕ) (stop : Stop) → StopsFor tally layout made op old mid stop → length old.work.journal.items < n
      → HasEnded want next tally layout made id s c n blanks t mid stop
  ended n stop why less =
      let few : length mid.work.journal.items < n = subst (λ (xs : List Entry). length xs < n) (sym mid_items) less in
      record {
        same = mid_actor;
        ran = mid_run;
        cause = record {
          most = omega (arith, few);
          steps = (λ is. absurd (why.not_steps is), λ is. absurd (omega (arith, few, is)));
          asked = why.asked ∙ ap (λ (k : ℕ). k + closings stop) way.asked
              ∙ omega (arith, ap (λ (xs : List Entry). length xs) mid_items);
          gate = why.gate ∙ ap (λ (k : ℕ). k + closings stop) way.unclosed;
          idle = (
            λ is. (
              subst (λ (xs : List Entry). 1 ≤ length xs) (sym mid_items) (why.idle.0 is).0,
              few,
              sym is_want ∙ (why.idle.0 is).1,
            ),
            λ waits. why.idle.1
                (subst (λ (xs : List Entry). 1 ≤ length xs) mid_items waits.0, is_want ∙ waits.2),
          );
          full = λ is. ap (is_last_full false) mid_items ∙ sym way.full_is ∙ why.full is;
          unfull = mid_unfull;
          stamp = λ is. subst (λ (k : ℕ). 2 ^ 63 ≤ k) (sym mid_clock ∙ mid_run.last) (why.stamp is);
          lacks = λ is.
              let none = (why.lacks is).0 in (
                omega (arith, way.pool, none, mid_long),
                ap (λ (o : Op). was_made made layout o) (sym is_want) ∙ (why.lacks is).1,
              );
          unanswered = λ is. ap (may_lack layout) (sym is_want) ∙ why.unanswered is;
        };
      }

-- what asks no host object is given nothing
pub none_given : (op want : Op) → op ≡ want → is_host_op want ≡ false → is_given op Nothing ≡ true
none_given op want is not = ap (λ (o : Op). is_given o Nothing) is ∙ by_op want not
  where
    by_op : (o : Op) → is_host_op o ≡ false → is_given o Nothing ≡ true
    by_op (Op.Out act) none = cc
    by_op o none = refl
