-- Which turns of several harts are slices, by what slices and rotations cost, and how long a turn in which all harts wait may rest.
use Rattle.std.specs.Prelude.{ℕ, ◌+◌, ◌-◌, ◌*◌, ◌/◌, ◌^◌, min, max, nat_eq, nat_lt, Bool, true, false, if◌then◌else◌, List, Option, Some, None}
use Rattle.std.specs.List.{list_any}
use Rattle.vm_types.specs.declared.entry.Entry.{Entry}
use Rattle.vm_types.specs.declared.op.Op.{Op}
use Rattle.vm_types.specs.declared.op.BoardOp.TheVariants.{Time}
use Rattle.monitor_running.specs.declared.pacing.Made.{Made}
use Rattle.monitor_running.specs.declared.pacing.Pace.{Pace}

-- nothing was made so far, so that the first turn of several harts is a slice
abbrev pub new_pace : ℕ → Pace
new_pace steps = record {
  steps = steps;
  left = 0;
  is_timed = false;
  slices = 0;
  slice = None;
  rotation = None;
  made = None;
  ended = None;
}

-- a device asks guest time
abbrev pub is_time_asked : Op → Bool
is_time_asked (Op.Board Time) = true
is_time_asked op = false

-- one of these events asks it
abbrev pub ask_time : List Entry → Bool
ask_time events = list_any (λ (event : Entry). is_time_asked event.op) events

-- what a thousand events cost in nanoseconds, some eighteen minutes at most for all of them
abbrev pub cost : Made → ℕ → ℕ
cost made ended = (min (ended - made.began) (2 ^ 40) * 1000) / max made.events 1

-- guest time is still that of the last turn's end
abbrev pub is_at : Option ℕ → ℕ → Bool
is_at None moment = false
is_at (Some ended) moment = nat_eq ended moment

-- the slice that was made last, if guest time is still that at which the turn before it ended
abbrev pub made_from : Pace → ℕ → ℕ → Option Made
made_from pace events began =
    if is_at pace.ended began then Some (record { events = events; began = began }) else None

-- what that cost, if it is known, and else what one cost before it
abbrev pub cost_or : Option Made → Option ℕ → ℕ → Option ℕ
cost_or None slice ended = slice
cost_or (Some made) slice ended = Some (cost made ended)

-- it is over when the events of the next turn begin, if no other turn was made since
abbrev pub slice_until : Pace → ℕ → ℕ → Option ℕ
slice_until pace before ended =
    if is_at pace.ended before then cost_or pace.made pace.slice ended else pace.slice

-- so many rotations take eight times as long as a slice of as many events: 99 at least, and 10,000 at most
abbrev pub many : ℕ → ℕ → ℕ
many slice rotation = max (min (slice / max rotation 1) 1250 * 8) 99

-- how many rotations may follow so many slices in a row, by what a slice and a rotation cost
abbrev pub rotations_by : ℕ → ℕ → ℕ → ℕ
rotations_by slices slice rotation =
    if nat_lt rotation slice then many slice rotation else (if nat_lt slices 99 then 0 else 2)

-- and two where one of them isn't known
abbrev pub rotations : ℕ → Option ℕ → Option ℕ → ℕ
rotations slices (Some slice) (Some rotation) = rotations_by slices slice rotation
rotations slices slice rotation = 2

-- a slice of so many events was made, and guest time was read at these moments
abbrev pub after_slice : ℕ → ℕ → ℕ → Pace → Pace
after_slice events began ended pace =
    let slices : ℕ = min (pace.slices + 1) (2 ^ 32 - 1) in
    record pace {
      left = rotations slices pace.slice pace.rotation;
      slices = slices;
      made = made_from pace events began;
      ended = Some ended;
    }

-- a rotation of so many events was made: guest time was read before its turn, before its events, and behind them
abbrev pub after_rotation : ℕ → ℕ → ℕ → ℕ → Pace → Pace
after_rotation events before began ended pace = record pace {
  slices = 0;
  slice = slice_until pace before began;
  rotation = Some (cost (record { events = events; began = began }) ended);
  made = None;
  ended = Some ended;
}
