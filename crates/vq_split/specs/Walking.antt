-- A walk that is begun, and what is left of it.
use Rattle.std.specs.Prelude.{◌≡◌, ℕ, ◌+◌, ◌-◌, ◌*◌, ◌%◌, ◌^◌, ◌<◌, ◌≤◌, Bool, true, false, Option, Some, None, List, [], length}
use Rattle.vq_split.specs.declared.queue.Queue.{Queue}
use Rattle.vq_split.specs.declared.queue.Part.{Part}
use Rattle.vq_split.specs.declared.queue.Table.{Table}
use Rattle.vm_types.specs.declared.op.Op.{Op}
use Rattle.vm_types.specs.declared.op.Op.TheVariants.{Read, Write}
use Rattle.vm_types.specs.declared.reply.Reply.{Reply}
use Rattle.device_trace.specs.Doing.{Doing, Gives, Wants, and_then, led}
use Rattle.le_fields.specs.Fields.{bytes_of}
use Rattle.vq_split.specs.declared.walk.Walk.{Walk}
use Rattle.vq_split.specs.declared.walk.Walk.TheVariants.{More}
use Rattle.vq_split.specs.declared.walk.Stage.{Stage}
use Rattle.vq_split.specs.declared.walk.Stage.TheVariants.{AvailEvent, Entry, EntryRest, Index, IndexAgain, Link, Ring}
use Rattle.guest_memory.specs.Ram.{ram_start, page_size}
use Rattle.vq_split.specs.Chain.{avail_event, chain_walk, descriptors, entries, entry_linked, entry_place, entry_rest, event_bytes, event_written}
use Rattle.vq_split.specs.Chain.{front_length, index_again, indexed_by, is_inside, most_parts, queue_look, ring_entry}

-- a walk: its queue, the number of its chain, the act that is wanted, and the parts that it has
pub record Walking : Type 0 where
  pub queue : Queue
  pub next : ℕ
  pub stage : Stage
  pub parts : List Part

abbrev pub left_at : Stage → Queue → ℕ → List Part → Doing Walk
left_at Index q next parts = chain_walk q next
left_at AvailEvent q next parts = and_then (event_written q next) (indexed_by q next)
left_at IndexAgain q next parts = and_then (index_again q) (indexed_by q next)
left_at Ring q next parts = ring_entry q next
left_at (Link head at) q next parts = descriptors q head (q.size - length parts) at parts
left_at (Entry head table at) q next parts = entries q head table (most_parts - length parts) at parts
left_at (EntryRest head table at front) q next parts =
    entry_rest (entry_place table at) front (λ d.
    entry_linked q head table parts d (entries q head table (most_parts - length parts - 1)))

-- what is left of a walk
abbrev pub walk_left : Walking → Doing Walk
walk_left w = left_at w.stage w.queue w.next w.parts

abbrev pub walk_of : Queue → ℕ → Walking
walk_of q next = record { queue = q; next = next; stage = Index; parts = [] }

-- what is left of the look at the ring, as long as it hasn't shown a chain
abbrev pub look_left : Stage → Queue → ℕ → Option (Doing ℕ)
look_left Index q next = Some (queue_look q next)
look_left AvailEvent q next = Some (event_written q next)
look_left IndexAgain q next = Some (index_again q)
look_left stage q next = None

-- the same behind a reply: an index that counts ends it
abbrev pub look_open : Doing ℕ → Option (Doing ℕ)
look_open (Gives index) = None
look_open (Wants op on) = Some (Wants op on)

abbrev pub look_led : Option (Doing ℕ) → Reply → Option (Doing ℕ)
look_led (Some look) reply = look_open (led look reply)
look_led None reply = None

-- its reply is an index of the ring
abbrev pub is_looking : Stage → Bool
is_looking Index = true
is_looking IndexAgain = true
is_looking stage = false

-- the act that a walk wants
abbrev pub op_at : Stage → Queue → ℕ → Op
op_at Index q next = Read (q.available + 2) 2
op_at AvailEvent q next = Write (avail_event q) (bytes_of 2 next)
op_at IndexAgain q next = Read (q.available + 2) 2
op_at Ring q next = Read (q.available + (4 + 2 * (next % q.size))) 2
op_at (Link head at) q next = Read (q.descriptors + 16 * at) 16
op_at (Entry head table at) q next = Read (entry_place table at) (front_length (entry_place table at))
op_at (EntryRest head table at front) q next =
    Read (entry_place table at + front_length (entry_place table at)) (16 - front_length (entry_place table at))

abbrev pub walk_wants : Walking → Op
walk_wants w = op_at w.stage w.queue w.next

-- what a call tells of where a reply led: that it goes on with what is left, or what the walk came to
abbrev pub Told : Doing Walk → Walk → Doing Walk → Type 0
Told t More left = left ≡ t
Told t walk left = t ≡ Gives walk

-- where the tables are
pub record AreTables (q : Queue) : Type 0 where
  pub pages : q.pages < 2 ^ 32
  pub descriptors_in : (ram_start ≤ q.descriptors) × (q.descriptors + 16 * q.size ≤ ram_start + page_size * q.pages)
  pub available_in : (ram_start ≤ q.available) × (q.available + (4 + 2 * q.size + event_bytes q) ≤ ram_start + page_size * q.pages)
  pub used_in : (ram_start ≤ q.used) × (q.used + (4 + 8 * q.size + event_bytes q) ≤ ram_start + page_size * q.pages)
  pub aligned : (q.descriptors % 16 ≡ 0) × (q.available % 2 ≡ 0) × (q.used % 4 ≡ 0)

-- a queue that a walk may stand on
pub record IsSound (q : Queue) : Type 0 where
  pub some : 0 < q.size
  pub most : q.size ≤ 256
  pub tables : AreTables q

-- an entry of a table inside RAM that a descriptor may name, behind fewer parts than a chain has at most
pub record IsEntry (q : Queue) (table : Table) (at : ℕ) (parts : List Part) : Type 0 where
  pub accepted : q.accepted.indirect ≡ true
  pub there : at < table.count
  pub most : table.count ≤ 256
  pub inside : is_inside q.pages table.at (16 * table.count) ≡ true
  pub few : length parts < most_parts

-- the stage fits the parts
abbrev pub IsStage : Stage → Queue → List Part → Type 0
IsStage Index q parts = parts ≡ []
IsStage Ring q parts = parts ≡ []
IsStage AvailEvent q parts = (parts ≡ []) × (q.accepted.event_index ≡ true)
IsStage IndexAgain q parts = (parts ≡ []) × (q.accepted.event_index ≡ true)
IsStage (Link head at) q parts = (at < q.size) × (length parts < q.size)
IsStage (Entry head table at) q parts = IsEntry q table at parts
IsStage (EntryRest head table at front) q parts =
    IsEntry q table at parts × (front_length (entry_place table at) < 16) × (length front ≡ front_length (entry_place table at))
