-- The walks that there are, as a fact and as a test.
use Rattle.std.specs.Prelude.{ℕ, ◌*◌, ◌==◌, nat_le, nat_lt, Bool, ◌&&◌, if◌then◌else◌, List, length, Option, Some, None}
use Rattle.std.specs.List.{list_all}
use Rattle.vq_split.specs.declared.queue.Queue.{Queue}
use Rattle.vq_split.specs.declared.queue.Part.{Part}
use Rattle.vq_split.specs.declared.queue.Table.{Table}
use Rattle.vq_split.specs.declared.walk.Stage.{Stage}
use Rattle.vq_split.specs.declared.walk.Stage.TheVariants.{AvailEvent, Entry, EntryRest, Index, IndexAgain, Link, Ring}
use Rattle.vq_split.specs.Chain.{are_tables, entry_place, front_length, is_inside, most_parts}
use Rattle.vq_split.specs.Inside.{AreInside}
use Rattle.vq_split.specs.Walking.{IsSound, IsStage, Walking}

-- a walk of a sound queue, whose parts fit its stage and lie inside RAM
pub record IsWalking (w : Walking) : Type 0 where
  pub sound : IsSound w.queue
  pub stage : IsStage w.stage w.queue w.parts
  pub inside : AreInside w.queue.pages w.parts

-- the same, as a test
abbrev pub is_sound : Queue → Bool
is_sound q = nat_le 1 q.size && nat_le q.size 256 && are_tables q

abbrev pub is_entry : Queue → Table → ℕ → List Part → Bool
is_entry q table at parts =
    q.accepted.indirect && nat_lt at table.count && nat_le table.count 256 && is_inside q.pages table.at (16 * table.count)
    && nat_lt (length parts) most_parts

abbrev pub is_stage : Stage → Queue → List Part → Bool
is_stage Index q parts = length parts == 0
is_stage AvailEvent q parts = (length parts == 0) && q.accepted.event_index
is_stage IndexAgain q parts = (length parts == 0) && q.accepted.event_index
is_stage Ring q parts = length parts == 0
is_stage (Link head at) q parts = nat_lt at q.size && nat_lt (length parts) q.size
is_stage (Entry head table at) q parts = is_entry q table at parts
is_stage (EntryRest head table at front) q parts =
    is_entry q table at parts && nat_lt (front_length (entry_place table at)) 16
    && (length front == front_length (entry_place table at))

abbrev pub is_part : ℕ → Part → Bool
is_part pages part = nat_le 1 part.len && is_inside pages part.at part.len

abbrev pub are_inside : ℕ → List Part → Bool
are_inside pages parts = list_all (is_part pages) parts

abbrev pub is_walking : Walking → Bool
is_walking w = is_sound w.queue && is_stage w.stage w.queue w.parts && are_inside w.queue.pages w.parts

-- the walk that has these, if there is such a one
abbrev pub walking_from : Queue → ℕ → Stage → List Part → Option Walking
walking_from q next stage parts =
    let w : Walking = record { queue = q; next = next; stage = stage; parts = parts } in
    if is_walking w then Some w else None
