-- The walk of one chain of a split queue (VIRTIO 1.2, 2.7): what is read, and what comes of it.
use Rattle.std.specs.Prelude.{ℕ, zero, suc, ◌+◌, ◌-◌, ◌*◌, ◌/◌, ◌%◌, ◌^◌, ◌==◌, min, nat_le, nat_lt, Bool, ◌&&◌, ◌||◌, not, if◌then◌else◌, Option, Some, None, List, [], ◌∷◌, ◌++◌, length, replicate}
use Rattle.std.specs.List.{list_any}
use Rattle.vm_types.specs.declared.op.Op.TheVariants.{Read, Write}
use Rattle.vm_types.specs.declared.reply.Reply.{Reply}
use Rattle.vm_types.specs.declared.reply.Reply.TheVariants.{Bytes}
use Rattle.vq_split.specs.declared.queue.Queue.{Queue}
use Rattle.vq_split.specs.declared.queue.Part.{Part}
use Rattle.vq_split.specs.declared.queue.Table.{Table}
use Rattle.vq_split.specs.declared.queue.Why.{Why}
use Rattle.vq_split.specs.declared.queue.Why.TheVariants as why
use Rattle.device_trace.specs.Doing.{Doing, Gives, Wants, and_then}
use Rattle.le_fields.specs.Fields.{bytes_of, field_at}
use Rattle.guest_memory.specs.Ram.{is_ram, page_size}
use Rattle.vq_split.specs.declared.walk.Walk.{Walk}
use Rattle.vq_split.specs.declared.walk.Walk.TheVariants.{Chain, Empty, Broken}
use Rattle.vq_split.specs.declared.descriptor.Descriptor.{Descriptor}

-- these bytes are RAM, each of them, in a guest of this many pages, and their number has 32 bits, as that of each descriptor
abbrev pub is_inside : ℕ → ℕ → ℕ → Bool
is_inside pages at len = is_ram (page_size * pages) at len && nat_lt len 0x1_0000_0000

-- the bytes that a read brings; zeros where it failed, which no read inside RAM does
abbrev pub read_bytes : ℕ → Reply → List ℕ
read_bytes len (Bytes piece) = piece
read_bytes len reply = replicate len 0

-- a power of two up to 256
abbrev pub is_size : ℕ → Bool
is_size n =
    (n == 1) || (n == 2) || (n == 4) || (n == 8) || (n == 16) || (n == 32) || (n == 64) || (n == 128) || (n == 256)

-- ---- the event index: where the driver accepted it, two bytes more stand behind each ring (2.7.10)

-- at which used index the driver wants an interrupt, and at which available index the device wants a kick
abbrev pub used_event : Queue → ℕ
used_event q = q.available + (4 + 2 * q.size)

abbrev pub avail_event : Queue → ℕ
avail_event q = q.used + (4 + 8 * q.size)

abbrev pub event_bytes : Queue → ℕ
event_bytes q = if q.accepted.event_index then 2 else 0

-- ---- the queue's own fields

-- the three tables, each aligned and inside RAM: descriptors of 16 bytes; flags, index and ring entries of
-- 2 bytes; flags and index of 2 bytes and used pairs of 8; and behind either ring its event
abbrev pub are_tables : Queue → Bool
are_tables q =
    (q.descriptors % 16 == 0) && is_inside q.pages q.descriptors (16 * q.size)
    && (q.available % 2 == 0) && is_inside q.pages q.available (4 + 2 * q.size + event_bytes q)
    && (q.used % 4 == 0) && is_inside q.pages q.used (4 + 8 * q.size + event_bytes q)

-- what the queue's own fields have wrong
abbrev pub queue_flaw : Queue → Option Why
queue_flaw q = if is_size q.size then (if are_tables q then None else Some why.Table) else Some why.Size

-- flags of a descriptor
abbrev pub has_next : Descriptor → Bool
has_next d = d.flags % 2 == 1

abbrev pub is_writable : Descriptor → Bool
is_writable d = d.flags / 2 % 2 == 1

abbrev pub is_indirect : Descriptor → Bool
is_indirect d = d.flags / 4 % 2 == 1

abbrev pub descriptor_of : List ℕ → Descriptor
descriptor_of bytes =
    record {
      at = field_at bytes 0 8;
      len = field_at bytes 8 4;
      flags = field_at bytes 12 2;
      next = field_at bytes 14
          2;
    }

-- ---- what a descriptor has wrong: the first that fits

-- as a part behind these, in a chain of so many at most
abbrev pub part_flaw : Queue → ℕ → List Part → Descriptor → Option Why
part_flaw q most parts d =
    if d.len == 0 then Some why.Length
    else if not (is_inside q.pages d.at d.len) then Some why.Outside
    else if not (is_writable d) && list_any (λ (part : Part). part.writable) parts then Some why.Order
    else if has_next d && nat_le most (length parts + 1) then Some why.Long
    else None

-- as one that names a table of descriptors (2.7.5.3)
abbrev pub table_flaw : Queue → Descriptor → Option Why
table_flaw q d =
    if not q.accepted.indirect || has_next d then Some why.Indirect
    else if (d.len == 0) || not (d.len % 16 == 0) || nat_lt 4096 d.len then Some why.TableLength
    else if not (is_inside q.pages d.at d.len) then Some why.TableOutside
    else None

-- in the queue's own table
abbrev pub descriptor_flaw : Queue → List Part → Descriptor → Option Why
descriptor_flaw q parts d =
    if has_next d && nat_le q.size d.next then Some why.Index
    else if is_indirect d then table_flaw q d
    else part_flaw q q.size parts d

-- in a table that a descriptor names: the chain has at most 256 parts, whatever the queue's size
abbrev pub most_parts : ℕ
most_parts = 256

abbrev pub entry_flaw : Queue → Table → List Part → Descriptor → Option Why
entry_flaw q table parts d =
    if is_indirect d then Some why.Indirect
    else if has_next d && nat_le table.count d.next then Some why.Entry
    else part_flaw q most_parts parts d

-- ---- where it leads

-- the parts with the one that a descriptor is
abbrev pub with_part : List Part → Descriptor → List Part
with_part parts d = parts ++ record { at = d.at; len = d.len; writable = is_writable d } ∷ []

abbrev pub unless_flawed : Option Why → Doing Walk → Doing Walk
unless_flawed (Some flaw) more = Gives (Broken flaw)
unless_flawed None more = more

-- a part is followed by the next one, or is the last
abbrev pub followed : ℕ → List Part → Descriptor → (ℕ → List Part → Doing Walk) → Doing Walk
followed head parts d on = if has_next d then on d.next (with_part parts d) else Gives (Chain head (with_part parts d))

-- ---- the entries of a table that a descriptor names; that the device writes it says nothing of it

abbrev pub table_of : Descriptor → Table
table_of d = record { at = d.at; count = d.len / 16 }

abbrev pub entry_place : Table → ℕ → ℕ
entry_place table at = table.at + 16 * at

-- so many of its bytes are in the page in which an entry begins
abbrev pub front_length : ℕ → ℕ
front_length place = min 16 (page_size - place % page_size)

abbrev pub entry_rest : ℕ → List ℕ → (Descriptor → Doing Walk) → Doing Walk
entry_rest place front on = Wants (Read (place + front_length place) (16 - front_length place)) (λ reply.
    on (descriptor_of (front ++ read_bytes (16 - front_length place) reply)))

-- it is read at once, or in two where a page ends inside it
abbrev pub entry_begun : ℕ → List ℕ → (Descriptor → Doing Walk) → Doing Walk
entry_begun place front on =
    if nat_lt (front_length place) 16 then entry_rest place front on else on (descriptor_of front)

abbrev pub entry_read : ℕ → (Descriptor → Doing Walk) → Doing Walk
entry_read place on = Wants (Read place (front_length place)) (λ reply. entry_begun place (read_bytes (front_length place) reply) on)

abbrev pub entry_linked : Queue → ℕ → Table → List Part → Descriptor → (ℕ → List Part → Doing Walk) → Doing Walk
entry_linked q head table parts d on = unless_flawed (entry_flaw q table parts d) (followed head parts d on)

-- from the entry number `at` on, with these parts before it, at most `most` entries
abbrev pub entries : Queue → ℕ → Table → ℕ → ℕ → List Part → Doing Walk
entries q head table zero at parts = Gives (Broken why.Long)
entries q head table (suc most) at parts =
    entry_read (entry_place table at) (λ d. entry_linked q head table parts d (entries q head table most))

-- ---- the descriptors of the queue's own table

-- what a descriptor behind these parts leads to: its flaw, the table that it names, the walk of the next one, or the chain
abbrev pub linked : Queue → ℕ → List Part → Descriptor → (ℕ → List Part → Doing Walk) → Doing Walk
linked q head parts d on =
    unless_flawed (descriptor_flaw q parts d)
    (if is_indirect d then entries q head (table_of d) (most_parts - length parts) 0 parts else followed head parts d on)

-- from the descriptor number `at` on, with these parts before it, at most `most` descriptors
abbrev pub descriptors : Queue → ℕ → ℕ → ℕ → List Part → Doing Walk
descriptors q head zero at parts = Gives (Broken why.Long)
descriptors q head (suc most) at parts = Wants (Read (q.descriptors + 16 * at) 16) (λ reply.
    linked q head parts (descriptor_of (read_bytes 16 reply)) (descriptors q head most))

abbrev pub described_by : Queue → ℕ → ℕ → List Part → Descriptor → Doing Walk
described_by q head most parts d = linked q head parts d (descriptors q head most)

-- the head that the ring's entry names
abbrev pub headed_by : Queue → ℕ → Doing Walk
headed_by q head = if nat_le q.size head then Gives (Broken why.Index) else descriptors q head q.size head []

abbrev pub ring_entry : Queue → ℕ → Doing Walk
ring_entry q next = Wants (Read (q.available + (4 + 2 * (next % q.size))) 2)
    (λ reply. headed_by q (field_at (read_bytes 2 reply) 0 2))

-- what the available index says: nothing new, more than the ring holds, or a chain
abbrev pub indexed_by : Queue → ℕ → ℕ → Doing Walk
indexed_by q next index =
    if index == next then Gives Empty
    else if nat_lt q.size ((index + 2 ^ 16 - next) % 2 ^ 16) then Gives (Broken why.Ahead)
    else ring_entry q next

-- ---- the look at the available ring

abbrev pub index_in : Reply → ℕ
index_in reply = field_at (read_bytes 2 reply) 0 2

abbrev pub index_again : Queue → Doing ℕ
index_again q = Wants (Read (q.available + 2) 2) (λ reply. Gives (index_in reply))

-- the device asks for a kick at this chain, and looks once more
abbrev pub event_written : Queue → ℕ → Doing ℕ
event_written q next = Wants (Write (avail_event q) (bytes_of 2 next)) (λ reply. index_again q)

-- where nothing new is shown, and the event index was accepted, the second look counts
abbrev pub index_seen : Queue → ℕ → ℕ → Doing ℕ
index_seen q next index = if (index == next) && q.accepted.event_index then event_written q next else Gives index

abbrev pub queue_look : Queue → ℕ → Doing ℕ
queue_look q next = Wants (Read (q.available + 2) 2) (λ reply. index_seen q next (index_in reply))

-- the walk of the chain number `next`
abbrev pub chain_walk : Queue → ℕ → Doing Walk
chain_walk q next = and_then (queue_look q next) (indexed_by q next)
