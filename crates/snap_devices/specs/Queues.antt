-- A queue, the parts of a chain, and the walk of one, as bytes.
use Rattle.std.specs.Prelude.{◌≡◌, ℕ, zero, suc, nat_le, List, [], length, Bool, Option, refl}
use Rattle.std.proofs.Common.{sym, ap}
use Rattle.file_format.specs.Format.{Format}
use Rattle.file_format.specs.Kinds.{byte, number16, number32, number64, flag, byte_list, list_of, just, nothing}
use Rattle.file_format.specs.Kinds.{variant, chosen_by, passing, ◌&◌, made_of}
use Rattle.vm_types.specs.declared.port_look.Accepted.{Accepted}
use Rattle.vq_split.specs.declared.queue.Queue.{Queue}
use Rattle.vq_split.specs.declared.queue.Part.{Part}
use Rattle.vq_split.specs.declared.queue.Table.{Table}
use Rattle.vq_split.specs.declared.walk.Stage.{Stage}
use Rattle.vq_split.specs.declared.walk.Stage.TheVariants.{AvailEvent, Entry, EntryRest, Index, IndexAgain, Link, Ring}
use Rattle.vq_split.specs.Walking.{Walking, walk_of}
use Rattle.vq_split.specs.Kept.{is_walking}
use Rattle.dev_core.specs.declared.collect.Collect.{Collect}
use Rattle.dev_core.specs.Looks.{no_queue}
use Rattle.snap_devices.specs.Marks.{maybe}

-- its registers and the pages of its guest: 30 bytes
abbrev pub Registers : Type 0
Registers = ℕ × (ℕ × (ℕ × (ℕ × ℕ)))

unfoldable pub registers : Format Registers
registers = number64 & number64 & number64 & number16 & number32

abbrev pub queue_with : Accepted → Registers → Queue
queue_with a (descriptors, (available, (used, (size, pages)))) = record {
  descriptors = descriptors;
  available = available;
  used = used;
  size = size;
  pages = pages;
  accepted = a;
}

abbrev pub registers_of : Queue → Registers
registers_of q = (q.descriptors, (q.available, (q.used, (q.size, q.pages))))

-- a queue of which these features were accepted, which stand before it (`Marks`)
unfoldable pub queue : Accepted → Format Queue
queue a = variant (queue_with a) registers_of (λ _. refl) registers

pub queue_marks : (a : Accepted) (q : Queue) → (queue a).Fits q → a ≡ q.accepted
unfolding queue
queue_marks a q fits = sym (ap (λ (x : Queue). x.accepted) fits.0)

-- the queue, if there is one
unfoldable pub maybe_queue : Format (Option Queue)
maybe_queue = maybe queue (λ q. q.accepted) (no_queue 0) queue_marks

-- where a part is, how many bytes it has, and whether the device writes it
unfoldable pub part : Format Part
part =
    made_of (λ p. (p.at, (p.len, p.writable)))
    (λ (at, (len, writable)). record { at = at; len = len; writable = writable })
    (λ _. refl) (λ _. refl)
    (number64 & number32 & flag)

-- at most 256 parts
abbrev pub are_few : List Part → Bool
are_few parts = nat_le (length parts) 256

unfoldable pub parts : Format (List Part)
parts = passing are_few (list_of part)

-- at most 128 bytes that are held
abbrev pub is_short : List ℕ → Bool
is_short bytes = nat_le (length bytes) 128

unfoldable pub held : Format (List ℕ)
held = passing is_short byte_list

-- the bytes of one act: at most 64
abbrev pub is_piece : List ℕ → Bool
is_piece bytes = nat_le (length bytes) 64

unfoldable pub piece : Format (List ℕ)
piece = passing is_piece byte_list

-- the parts that are still read, and the bytes that are held
unfoldable pub collect : Format Collect
collect =
    made_of (λ c. (c.from, c.held)) (λ (from, held). record { from = from; held = held }) (λ _. refl) (λ _. refl)
    (parts & held)

-- ---- the walk of a chain

-- the act that it is at: a byte, and behind it what it has of that
abbrev pub stage_code : Stage → ℕ
stage_code Index = 0
stage_code Ring = 1
stage_code (Link head at) = 2
stage_code AvailEvent = 3
stage_code IndexAgain = 4
stage_code (Entry head table at) = 5
stage_code (EntryRest head table at front) = 6

-- the chain's head and the number of the descriptor
abbrev pub link_of : Stage → ℕ × ℕ
link_of (Link head at) = (head, at)
link_of _ = (0, 0)

-- where a table is that a descriptor names, and how many entries it has
unfoldable pub table : Format Table
table =
    made_of (λ t. (t.at, t.count)) (λ (at, count). record { at = at; count = count }) (λ _. refl) (λ _. refl) (number64 & number16)

abbrev pub no_table : Table
no_table = record { at = 0; count = 0 }

-- the head, the table, and the number of the entry
abbrev pub entry_of : Stage → ℕ × (Table × ℕ)
entry_of (Entry head table at) = (head, (table, at))
entry_of _ = (0, (no_table, 0))

-- and the bytes of the entry that were read
abbrev pub rest_of : Stage → ℕ × (Table × (ℕ × List ℕ))
rest_of (EntryRest head table at front) = (head, (table, (at, front)))
rest_of _ = (0, (no_table, (0, [])))

abbrev pub stages : ℕ → Format Stage
stages zero = just Index
stages (suc zero) = just Ring
stages (suc (suc zero)) = variant (λ l. Link l.0 l.1) link_of (λ _. refl) (number16 & number16)
stages (suc (suc (suc zero))) = just AvailEvent
stages (suc (suc (suc (suc zero)))) = just IndexAgain
stages (suc (suc (suc (suc (suc zero))))) =
    variant (λ e. Entry e.0 e.1.0 e.1.1) entry_of (λ _. refl) (number16 & table & number16)
stages (suc (suc (suc (suc (suc (suc zero)))))) =
    variant (λ e. EntryRest e.0 e.1.0 e.1.1.0 e.1.1.1) rest_of (λ _. refl) (number16 & table & number16 & piece)
stages (suc (suc (suc (suc (suc (suc (suc n))))))) = nothing

pub stage_code-is : (code : ℕ) (s : Stage) → (stages code).Fits s → code ≡ stage_code s
stage_code-is zero s fits = sym (ap stage_code fits)
stage_code-is (suc zero) s fits = sym (ap stage_code fits)
stage_code-is (suc (suc zero)) s fits = sym (ap stage_code fits.0)
stage_code-is (suc (suc (suc zero))) s fits = sym (ap stage_code fits)
stage_code-is (suc (suc (suc (suc zero)))) s fits = sym (ap stage_code fits)
stage_code-is (suc (suc (suc (suc (suc zero))))) s fits = sym (ap stage_code fits.0)
stage_code-is (suc (suc (suc (suc (suc (suc zero)))))) s fits = sym (ap stage_code fits.0)
stage_code-is (suc (suc (suc (suc (suc (suc (suc n))))))) s fits = absurd fits

unfoldable pub walk_stage : Format Stage
walk_stage = chosen_by byte stages stage_code stage_code-is

-- its queue, the number of its chain, the act, and the parts that it has
unfoldable pub walk_fields : Accepted → Format Walking
walk_fields a =
    made_of (λ w. (w.queue, (w.next, (w.stage, w.parts))))
    (λ (queue, (next, (stage, parts))). record { queue = queue; next = next; stage = stage; parts = parts })
    (λ _. refl) (λ _. refl)
    (queue a & number16 & walk_stage & parts)

-- of a walk that there is
unfoldable pub walk : Accepted → Format Walking
walk a = passing is_walking (walk_fields a)

pub walk_marks : (a : Accepted) (w : Walking) → (walk a).Fits w → a ≡ w.queue.accepted
unfolding walk walk_fields
walk_marks a w fits = queue_marks a w.queue fits.0.0

-- the walk, if one is begun
unfoldable pub maybe_walk : Format (Option Walking)
maybe_walk = maybe walk (λ w. w.queue.accepted) (walk_of (no_queue 0) 0) walk_marks
