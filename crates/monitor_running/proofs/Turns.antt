-- Parts of a turn one after another.
use Rattle.std.proofs.Common.{◌≡◌, ◌<◌, ◌∙◌, sym, subst, refl, List, Option, Some, None, All, length}
use Rattle.std.specs.Prelude.{Result, Ok, Err, MatchResult}
use Rattle.pause_gate.specs.Tally.{Tally}
use Rattle.vm_outside.specs.Known.{SinkKnown}
use Rattle.vm_outside.specs.Known as objects
use Rattle.vm_host.specs.Telling.{Lasts}
use Rattle.serve_host.specs.Tracing.{TraceKnown}
use Rattle.script_text.specs.declared.item.Item.{Item}
use Rattle.vm_world.specs.Worlds.{IsSameButSpare, WorldValue}
use Rattle.monitor_running.specs.declared.ran.Ran.{Ran}
use Rattle.monitor_running.specs.declared.ran.Ran.TheVariants as ran
use Rattle.monitor_running.specs.declared.telling.Untold.{Untold}
use Rattle.monitor_running.specs.declared.telling.Untold.TheVariants as untold
use Rattle.monitor_running.specs.Happened.{HasHappened}
use Rattle.monitor_running.specs.Items.{TellsItems}
use Rattle.monitor_running.specs.Lasting.{TellingLasts}
use Rattle.monitor_running.specs.Objects.{TurnKnown, known_with, with_clock, with_trace}
use Rattle.monitor_running.specs.Passes.{ArePassed}
use Rattle.monitor_running.specs.Ran.{IsRunning, Went, end_by}
use Rattle.monitor_running.specs.Reached.{Known, known}
use Rattle.monitor_running.specs.Staying.{MayBeDrained, StaysReady}
use Rattle.monitor_running.specs.Turned.{IsTurn, IsTurnPart}
use Rattle.monitor_running.proofs.Joins.{host_same}
use Rattle.monitor_running.proofs.Lent.{clock_rested}
use Rattle.monitor_running.proofs.Lifts.{went_nowhere, went_on}
use Rattle.monitor_running.proofs.Passing.{passed_by, passed_none, passed_on}
use Rattle.monitor_running.proofs.Staying.{stays_drained, stays_led, stays_made, stays_same, stays_then}
use Rattle.monitor_running.proofs.Told.{went_items_told, went_items_untold, went_unmade}

-- nothing was done
pub part_nowhere : (k : Known) (w : WorldValue) → IsTurnPart None k w k w
part_nowhere k w = record { went = went_nowhere IsRunning k w; ready = stays_same w w refl; unclosed = λ is. cc }

-- nothing but that the clock rested
pub rested_part : (first now : TurnKnown) (sink : SinkKnown) (w : WorldValue) → now ≡ with_clock first now.host.clock
    → Lasts first.host.clock now.host.clock → IsTurnPart None (known_with first sink) w (known_with now sink) w
rested_part first now sink w set rests = record {
  went = clock_rested IsRunning first now sink w w set rests refl;
  ready = stays_same w w refl;
  unclosed = λ is. cc;
}

-- one part behind another
pub part_on : (end : Option Ran) (a b c : Known) (u v w : WorldValue) → IsTurnPart None a u b v → IsTurnPart end b v c w
    → IsTurnPart end a u c w
part_on end a b c u v w first last = record {
  went = went_on IsRunning end a b c u v w first.went last.went;
  ready = stays_then u v w first.ready last.ready;
  unclosed = last.unclosed;
}

-- a part alone, in which no pass was asked
pub turn_by : {Q : Type 0} (serves : Q → Type 0) (tally : Q → Tally) (end : Option Ran) (a b : Known) (u v : WorldValue) (passes : List Q)
    → All serves passes → IsTurnPart end a u b v → IsTurn serves tally end a u passes b v passes
turn_by serves tally end a b u v passes serve part = record {
  part = part;
  passes = passed_by serves tally end passes passes part.unclosed (passed_none serves tally passes serve);
}

-- and one that was asked as in a turn that goes on
pub turn_with : {Q : Type 0} (serves : Q → Type 0) (tally : Q → Tally) (end : Option Ran) (a b : Known) (u v : WorldValue)
    (before after : List Q) → ArePassed serves tally None before after → IsTurnPart end a u b v
    → IsTurn serves tally end a u before b v after
turn_with serves tally end a b u v before after passes part =
    record { part = part; passes = passed_by serves tally end before after part.unclosed passes }

-- a part, and a turn behind it
pub turn_behind : {Q : Type 0} (serves : Q → Type 0) (tally : Q → Tally) (end : Option Ran) (a b c : Known) (u v w : WorldValue)
    (before after : List Q) → IsTurnPart None a u b v → IsTurn serves tally end b v before c w after
    → IsTurn serves tally end a u before c w after
turn_behind serves tally end a b c u v w before after first last =
    record { part = part_on end a b c u v w first last.part; passes = last.passes }

-- a turn, and a part behind it
pub turn_before : {Q : Type 0} (serves : Q → Type 0) (tally : Q → Tally) (end : Option Ran) (a b c : Known) (u v w : WorldValue)
    (before after : List Q) → IsTurn serves tally None a u before b v after → IsTurnPart end b v c w
    → IsTurn serves tally end a u before c w after
turn_before serves tally end a b c u v w before after first last =
    turn_with serves tally end a c u w before after first.passes (part_on end a b c u v w first.part last)

-- and one turn more
pub turn_on : {Q : Type 0} (serves : Q → Type 0) (tally : Q → Tally) (end : Option Ran) (a b c : Known) (u v w : WorldValue)
    (before mid after : List Q) → 0 < length before → IsTurn serves tally None a u before b v mid
    → IsTurn serves tally end b v mid c w after → IsTurn serves tally end a u before c w after
turn_on serves tally end a b c u v w before mid after some first last = record {
  part = part_on end a b c u v w first.part last.part;
  passes = passed_on serves tally end before mid after some first.passes last.passes;
}

-- ---- what happened is told

-- that something was not told is no closed gate
untold_unclosed : (why : Untold) → Some (end_by why) ≡ Some ran.Closed → ⊥
untold_unclosed untold.Trace closed = cc
untold_unclosed untold.Sink closed = cc

module _ (its : List Item) (first was now : TurnKnown) (trace traced : TraceKnown) (sink sunk : SinkKnown) (w v u : WorldValue)
    (happened : HasHappened its first w was v) (from : trace ≡ was.trace) (set : now ≡ with_trace was traced) where
  -- the trace that was told is the one that turns are given
  told_by : (end : Option Ran) → Went IsRunning end (known trace sink first.host) w (known traced sunk was.host) u
      → Went IsRunning end (known_with first sink) w (known_with now sunk) u
  told_by end went =
      subst (λ (k : TurnKnown). Went IsRunning end (known_with first sink) w (known_with k sunk) u) (sym set)
      (subst (λ (t : TraceKnown). Went IsRunning end (known t sink first.host) w (known traced sunk was.host) u)
      (from ∙ happened.trace) went)

  told_ready : MayBeDrained v u → StaysReady w u
  told_ready drained =
      stays_then w v u
      (stays_led w v (λ g is. let one = happened.gone g is in (one.0, one.2.0.0, one.2.0.1, one.2.0.2)))
      (stays_drained v u drained)

  pub told_part : (result : Result (Unit {0}) Untold) (end : Option Ran)
      → MatchResult result (λ done. end ≡ None) (λ why. end ≡ Some (end_by why))
      → (objects.Tells trace.health → objects.Tells sink.health
      → TellsItems result its v trace.took sink.taken u traced.took sunk.taken)
      → TellingLasts result v trace sink u traced sunk
      → IsTurnPart end (known_with first sink) w (known_with now sunk) u
  told_part (Ok done) end is told lasts =
      subst (λ (e : Option Ran). IsTurnPart e (known_with first sink) w (known_with now sunk) u) (sym is) (record {
        went =
            told_by None
            (went_items_told trace traced sink sunk first.host was.host was.host w v u its happened.gone told lasts.trace_lasts
            lasts.trace_stays lasts.sink_lasts (host_same was.host));
        ready = told_ready lasts.world;
        unclosed = λ closed. cc;
      })
  told_part (Err why) end is told lasts =
      subst (λ (e : Option Ran). IsTurnPart e (known_with first sink) w (known_with now sunk) u) (sym is) (record {
        went =
            told_by (Some (end_by why))
            (went_items_untold why trace traced sink sunk first.host was.host w v u its happened.gone told lasts.trace_cause
            lasts.sink_cause lasts.trace_lasts lasts.trace_stays lasts.sink_lasts);
        ready = told_ready lasts.world;
        unclosed = untold_unclosed why;
      })

-- there was no memory for it, and nothing happened but that pages may have been made spare
pub unmade_part : (first now : TurnKnown) (sink : SinkKnown) (w v : WorldValue) → now ≡ first → IsSameButSpare w v
    → IsTurnPart (Some ran.OutOfMemory) (known_with first sink) w (known_with now sink) v
unmade_part first now sink w v same made =
    subst (λ (k : TurnKnown). IsTurnPart (Some ran.OutOfMemory) (known_with first sink) w (known_with k sink) v) (sym same)
    (record { went = went_unmade (known_with first sink) w v made; ready = stays_made w v made; unclosed = λ closed. cc })

-- and not even that
pub wanting_part : (first now : TurnKnown) (sink : SinkKnown) (w v : WorldValue) → now ≡ first → v ≡ w
    → IsTurnPart (Some ran.OutOfMemory) (known_with first sink) w (known_with now sink) v
wanting_part first now sink w v same unmade =
    unmade_part first now sink w v same
    (subst (λ (x : WorldValue). IsSameButSpare w x) (sym unmade) refl)
