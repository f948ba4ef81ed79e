-- Which acts the walk of a chain, the pieces of its parts and giving it back ask for, and what is left of them: what holds
-- of reads, of writes and of the port's and the line's acts holds of all of them.
use Rattle.std.proofs.Common.{ℕ, zero, suc, ◌+◌, ◌-◌, ◌*◌, ◌%◌, ◌^◌, ◌==◌, ◌&&◌, ◌||◌, nat_le, nat_lt, refl, List, [], ◌++◌, length, take, drop, Option, Some, None, IfSome}
use Rattle.vm_types.specs.declared.op.Op.{Op}
use Rattle.vm_types.specs.declared.op.Op.TheVariants.{Read, Write, Board, Port}
use Rattle.vm_types.specs.declared.op.BoardOp.TheVariants.{RaiseLine}
use Rattle.vm_types.specs.declared.op.PortOp.TheVariants.{Interrupt, Break}
use Rattle.vm_types.specs.declared.reply.Reply.{Reply}
use Rattle.vm_types.specs.declared.reply.Reply.TheVariants.{Word}
use Rattle.device_trace.specs.Doing.{Doing}
use Rattle.device_trace.specs.Keeps.{Keeps}
use Rattle.device_trace.proofs.Keeping.{keeps_if, keeps_then}
use Rattle.le_fields.specs.Fields.{bytes_of, field_at}
use Rattle.vq_split.specs.declared.queue.Queue.{Queue}
use Rattle.vq_split.specs.declared.queue.Part.{Part}
use Rattle.vq_split.specs.declared.queue.Table.{Table}
use Rattle.vq_split.specs.declared.queue.Why.{Why}
use Rattle.vq_split.specs.declared.descriptor.Descriptor.{Descriptor}
use Rattle.vq_split.specs.declared.walk.Walk.{Walk}
use Rattle.vq_split.specs.declared.walk.Stage.{Stage}
use Rattle.vq_split.specs.declared.walk.Stage.TheVariants.{AvailEvent, Entry, EntryRest, Index, IndexAgain, Link, Ring}
use Rattle.vq_split.specs.Walking.{Walking, left_at, look_left, walk_left}
use Rattle.vq_split.specs.Chain.{avail_event, chain_walk, descriptor_flaw, descriptor_of, descriptors, entries, entry_flaw, entry_place, entry_read, entry_rest}
use Rattle.vq_split.specs.Chain.{event_written, followed, front_length, has_next, headed_by, index_again, index_in, indexed_by, is_indirect, most_parts}
use Rattle.vq_split.specs.Chain.{queue_look, read_bytes, ring_entry, table_of, unless_flawed, with_part}
use Rattle.dev_core.specs.declared.breaking.BreakStage.{BreakStage}
use Rattle.dev_core.specs.declared.breaking.BreakStage.TheVariants as breaking
use Rattle.dev_core.specs.declared.returning.ReturnStage.{ReturnStage}
use Rattle.dev_core.specs.declared.returning.ReturnStage.TheVariants as returning
use Rattle.dev_core.specs.declared.returning.UsedChain.{UsedChain}
use Rattle.dev_core.specs.Inside.{Any}
use Rattle.dev_core.specs.Pieces.{Got, room, place, past, share, collect, collect_all, put, put_all}
use Rattle.dev_core.specs.Returns.{broke, broken, event_read, index_written, interrupted, length_written, line_raised, pair_place, returned}
use Rattle.dev_core.specs.Returning.{return_left, break_left}

module _ (P : Op → Type 0) where
  module _ (reads : (at len : ℕ) → P (Read at len)) where
    flawed_asks : (flaw : Option Why) (more : Doing Walk) → Keeps P (Any {A = Walk}) more
        → Keeps P (Any {A = Walk}) (unless_flawed flaw more)
    flawed_asks (Some why) more on = tt
    flawed_asks None more on = on

    entry_on_asks : (place : ℕ) (front : List ℕ) (on : Descriptor → Doing Walk) → ((d : Descriptor) → Keeps P (Any {A = Walk}) (on d))
        → Keeps P (Any {A = Walk}) (entry_rest place front on)
    entry_on_asks place front on keeps = (
      reads (place + front_length place) (16 - front_length place),
      λ reply fit. keeps (descriptor_of (front ++ read_bytes (16 - front_length place) reply)),
    )

    entry_asks : (place : ℕ) (on : Descriptor → Doing Walk) → ((d : Descriptor) → Keeps P (Any {A = Walk}) (on d))
        → Keeps P (Any {A = Walk}) (entry_read place on)
    entry_asks place on keeps = (
      reads place (front_length place),
      λ reply fit. keeps_if P (Any {A = Walk}) (nat_lt (front_length place) 16) _ _ _ refl
          (λ cut. entry_on_asks place (read_bytes (front_length place) reply) on keeps)
          (λ whole. keeps (descriptor_of (read_bytes (front_length place) reply))),
    )

    followed_asks : (head : ℕ) (parts : List Part) (d : Descriptor) (on : ℕ → List Part → Doing Walk)
        → ((at : ℕ) (more : List Part) → Keeps P (Any {A = Walk}) (on at more)) → Keeps P (Any {A = Walk}) (followed head parts d on)
    followed_asks head parts d on keeps =
        keeps_if P (Any {A = Walk}) (has_next d) _ _ _ refl (λ more. keeps d.next (with_part parts d)) (λ last. tt)

    entries_ask : (q : Queue) (head : ℕ) (table : Table) (most at : ℕ) (parts : List Part)
        → Keeps P (Any {A = Walk}) (entries q head table most at parts)
    entries_ask q head table zero at parts = tt
    entries_ask q head table (suc most) at parts =
        entry_asks (entry_place table at) _ (λ d.
        flawed_asks (entry_flaw q table parts d) _
        (followed_asks head parts d (entries q head table most) (λ n more. entries_ask q head table most n more)))

    descriptors_ask : (q : Queue) (head most at : ℕ) (parts : List Part)
        → Keeps P (Any {A = Walk}) (descriptors q head most at parts)
    descriptors_ask q head zero at parts = tt
    descriptors_ask q head (suc most) at parts = (
      reads (q.descriptors + 16 * at) 16,
      λ reply fit.
          let d = descriptor_of (read_bytes 16 reply) in
          flawed_asks (descriptor_flaw q parts d) _
          (keeps_if P (Any {A = Walk}) (is_indirect d) _ _ _ refl
          (λ names. entries_ask q head (table_of d) (most_parts - length parts) 0 parts)
          (λ plain. followed_asks head parts d (descriptors q head most) (λ n more. descriptors_ask q head most n more))),
    )

    headed_asks : (q : Queue) (head : ℕ) → Keeps P (Any {A = Walk}) (headed_by q head)
    headed_asks q head =
        keeps_if P (Any {A = Walk}) (nat_le q.size head) _ _ _ refl (λ past_end. tt)
        (λ below. descriptors_ask q head q.size head [])

    ring_asks : (q : Queue) (next : ℕ) → Keeps P (Any {A = Walk}) (ring_entry q next)
    ring_asks q next = (
      reads (q.available + (4 + 2 * (next % q.size))) 2,
      λ reply fit. headed_asks q (field_at (read_bytes 2 reply) 0 2),
    )

    -- behind the look at the ring
    pub indexed_asks : (q : Queue) (next index : ℕ) → Keeps P (Any {A = Walk}) (indexed_by q next index)
    indexed_asks q next index =
        keeps_if P (Any {A = Walk}) (index == next) _ _ _ refl (λ none. tt)
        (λ some. keeps_if P (Any {A = Walk}) (nat_lt q.size ((index + 2 ^ 16 - next) % 2 ^ 16)) _ _ _ refl (λ ahead. tt)
        (λ near. ring_asks q next))

    module _ (writes : (at : ℕ) (piece : List ℕ) → P (Write at piece)) where
      again_asks : (q : Queue) → Keeps P (Any {A = ℕ}) (index_again q)
      again_asks q = (reads (q.available + 2) 2, λ reply fit. tt)

      event_written_asks : (q : Queue) (next : ℕ) → Keeps P (Any {A = ℕ}) (event_written q next)
      event_written_asks q next = (writes (avail_event q) (bytes_of 2 next), λ reply fit. again_asks q)

      -- a look reads, and may write the event
      pub look_asks : (q : Queue) (next : ℕ) → Keeps P (Any {A = ℕ}) (queue_look q next)
      look_asks q next = (
        reads (q.available + 2) 2,
        λ reply fit. keeps_if P (Any {A = ℕ}) ((index_in reply == next) && q.accepted.event_index) _ _ _ refl
            (λ none. event_written_asks q next) (λ some. tt),
      )

      -- a walk is that and what is behind it
      pub walk_asks : (q : Queue) (next : ℕ) → Keeps P (Any {A = Walk}) (chain_walk q next)
      walk_asks q next =
          keeps_then P (Any {A = ℕ}) (Any {A = Walk}) (queue_look q next) (indexed_by q next) (look_asks q next)
          (λ index any. indexed_asks q next index)

      -- and so does what is left of a look
      pub look_left_asks : (stage : Stage) (q : Queue) (next : ℕ) → IfSome (look_left stage q next) (Keeps P (Any {A = ℕ}))
      look_left_asks Index q next = look_asks q next
      look_left_asks AvailEvent q next = event_written_asks q next
      look_left_asks IndexAgain q next = again_asks q
      look_left_asks stage q next = tt

      left_asks : (stage : Stage) (q : Queue) (next : ℕ) (parts : List Part)
          → Keeps P (Any {A = Walk}) (left_at stage q next parts)
      left_asks Index q next parts = walk_asks q next
      left_asks AvailEvent q next parts =
          keeps_then P (Any {A = ℕ}) (Any {A = Walk}) (event_written q next) (indexed_by q next) (event_written_asks q next)
          (λ index any. indexed_asks q next index)
      left_asks IndexAgain q next parts =
          keeps_then P (Any {A = ℕ}) (Any {A = Walk}) (index_again q) (indexed_by q next) (again_asks q)
          (λ index any. indexed_asks q next index)
      left_asks Ring q next parts = ring_asks q next
      left_asks (Link head at) q next parts = descriptors_ask q head (q.size - length parts) at parts
      left_asks (Entry head table at) q next parts = entries_ask q head table (most_parts - length parts) at parts
      left_asks (EntryRest head table at front) q next parts =
          let more = most_parts - length parts - 1 in
          entry_on_asks (entry_place table at) front _ (λ d.
          flawed_asks (entry_flaw q table parts d) _
          (followed_asks head parts d (entries q head table more) (λ n longer. entries_ask q head table more n longer)))

      -- and so does what is left of one
      pub walk_left_asks : (w : Walking) → Keeps P (Any {A = Walk}) (walk_left w)
      walk_left_asks w = left_asks w.stage w.queue w.next w.parts

    collect_asks : (most missing : ℕ) (bytes : List ℕ) (parts : List Part)
        → Keeps P (Any {A = Got}) (collect most missing bytes parts)
    collect_asks zero missing bytes parts = tt
    collect_asks (suc most) missing bytes parts =
        keeps_if P (Any {A = Got}) ((missing == 0) || (room parts == 0)) _ _ _ refl (λ done. tt)
        (λ more. (
          reads (place parts) (room parts),
          λ reply fit. collect_asks most (missing - room parts) (bytes
              ++ read_bytes (room parts) reply) (past (room parts) parts),
        ))

    -- collecting bytes reads
    pub collect_all_asks : (missing : ℕ) (bytes : List ℕ) (parts : List Part)
        → Keeps P (Any {A = Got}) (collect_all missing bytes parts)
    collect_all_asks missing bytes parts = collect_asks missing missing bytes parts

  module _ (writes : (at : ℕ) (piece : List ℕ) → P (Write at piece)) where
    put_asks : (most : ℕ) (bytes : List ℕ) (parts : List Part) → Keeps P (Any {A = List Part}) (put most bytes parts)
    put_asks zero bytes parts = tt
    put_asks (suc most) bytes parts =
        keeps_if P (Any {A = List Part}) (share bytes parts == 0) _ _ _ refl (λ done. tt)
        (λ more. (
          writes (place parts) (take (share bytes parts) bytes),
          λ reply fit. put_asks most (drop (share bytes parts) bytes) (past (share bytes parts) parts),
        ))

    -- putting bytes writes
    pub put_all_asks : (bytes : List ℕ) (parts : List Part) → Keeps P (Any {A = List Part}) (put_all bytes parts)
    put_all_asks bytes parts = put_asks (length bytes) bytes parts

  module _ (line : P (Board RaiseLine)) where
    line_asks : Keeps P (Any {A = Unit {0}}) line_raised
    line_asks = (line, λ reply fit. tt)

    module _ (reads : (at len : ℕ) → P (Read at len)) (writes : (at : ℕ) (piece : List ℕ) → P (Write at piece)) (port : ℕ)
        (told : P (Port port (Interrupt 1))) where
      interrupt_asks : Keeps P (Any {A = Unit {0}}) (interrupted port)
      interrupt_asks = (told, λ reply fit. line_asks)

      event_asks : (q : Queue) (used : ℕ) → Keeps P (Any {A = Unit {0}}) (event_read port q used)
      event_asks q used = (
        reads _ _,
        λ reply fit. keeps_if P (Any {A = Unit {0}}) (used == index_in reply) _ _ _ refl (λ is. interrupt_asks) (λ isnt. tt),
      )

      index_asks : (q : Queue) (used : ℕ) → Keeps P (Any {A = Unit {0}}) (index_written port q used)
      index_asks q used = (
        writes _ _,
        λ reply fit. keeps_if P (Any {A = Unit {0}}) q.accepted.event_index _ _ _ refl (λ has. event_asks q used)
            (λ hasnt. interrupt_asks),
      )

      length_asks : (q : Queue) (used len : ℕ) → Keeps P (Any {A = Unit {0}}) (length_written port q used len)
      length_asks q used len = (writes _ _, λ reply fit. index_asks q used)

      -- giving a chain back writes, may read the driver's event, interrupts at the port and raises the line
      pub returned_asks : (q : Queue) (used head len : ℕ) → Keeps P (Any {A = Unit {0}}) (returned port q used head len)
      returned_asks q used head len =
          keeps_if P (Any {A = Unit {0}}) (pair_place q used % 4096 == 4092) _ _ _ refl
          (λ cut. (writes _ _, λ reply fit. length_asks q used len))
          (λ whole. (writes _ _, λ reply fit. index_asks q used))

    pub return_left_asks : (reads : (at len : ℕ) → P (Read at len)) (writes : (at : ℕ) (piece : List ℕ) → P (Write at piece))
        (stage : ReturnStage) (c : UsedChain) → P (Port c.port (Interrupt 1)) → Keeps P (Any {A = Unit {0}}) (return_left stage c)
    return_left_asks reads writes returning.Pair c told = returned_asks reads writes c.port told c.queue c.used c.head c.len
    return_left_asks reads writes returning.Half c told = length_asks reads writes c.port told c.queue c.used c.len
    return_left_asks reads writes returning.Index c told = index_asks reads writes c.port told c.queue c.used
    return_left_asks reads writes returning.Event c told = event_asks reads writes c.port told c.queue c.used
    return_left_asks reads writes returning.Interrupt c told = interrupt_asks reads writes c.port told
    return_left_asks reads writes returning.Line c told = line_asks

    broke_asks : (reply : Reply) → Keeps P (Any {A = Unit {0}}) (broke reply)
    broke_asks (Word raised) =
        keeps_if P (Any {A = Unit {0}}) (raised == 1) _ _ _ refl (λ a. line_asks) (λ a. tt)
    broke_asks reply = tt

    -- a broken queue is told to the port, and the line may follow
    pub broken_asks : (port : ℕ) → P (Port port Break) → Keeps P (Any {A = Unit {0}}) (broken port)
    broken_asks port told = (told, λ reply fit. broke_asks reply)

    pub break_left_asks : (stage : BreakStage) (port : ℕ) → P (Port port Break)
        → Keeps P (Any {A = Unit {0}}) (break_left stage port)
    break_left_asks breaking.Port port told = broken_asks port told
    break_left_asks breaking.Line port told = line_asks
