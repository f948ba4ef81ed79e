-- The memories that a state file can have, and what they reply.
use Rattle.std.specs.Prelude.{ℕ, suc, ◌≡◌, ◌<◌, ◌≤◌, ◌*◌, ◌%◌, true, List, [], ◌∷◌, length, Option, Some, None, IfSome}
use Rattle.std.specs.List.{All}
use Rattle.vm_types.specs.declared.ids.ActorId.{ActorId}
use Rattle.vm_types.specs.declared.ids.ActorId.TheVariants.{Hart}
use Rattle.vm_types.specs.declared.op.Op.{Op}
use Rattle.vm_types.specs.declared.op.Op.TheVariants.{Write, Lr, Sc}
use Rattle.vm_types.specs.declared.reply.Reply.{Reply}
use Rattle.vm_types.specs.declared.reply.Reply.TheVariants.{Bytes, Word}
use Rattle.guest_memory.specs.Boot.{Loads}
use Rattle.guest_memory.specs.Memory.{Memory}
use Rattle.guest_memory.specs.Ram.{is_ram, page_size}
use Rattle.guest_memory.specs.Reserved.{hart_limit}
use Rattle.guest_memory.specs.Words.{width_of}

abbrev pub IsByte : ℕ → Type 0
IsByte b = b < 256

-- what a hart has reserved is a granule of the page, and the hart is one of so many
abbrev pub IsSlot : ℕ → ℕ → Option ℕ → Type 0
IsSlot harts slot None = Unit {0}
IsSlot harts slot (Some offset) = (slot % hart_limit < harts) × (offset < page_size) × (offset % 8 ≡ 0)

-- in the slots from this number on
abbrev pub AreSlots : ℕ → ℕ → List (Option ℕ) → Type 0
AreSlots harts slot [] = Unit {0}
AreSlots harts slot (held ∷ slots) = IsSlot harts slot held × AreSlots harts (suc slot) slots

-- bytes in whole pages, and what so many harts have reserved in each
pub record IsKept (pages harts : ℕ) (m : Memory) : Type 0 where
  pub many_bytes : length m.bytes ≡ page_size * pages
  pub bytes : All IsByte m.bytes
  pub many_slots : length m.reserved ≡ hart_limit * pages
  pub slots : AreSlots harts 0 m.reserved

-- an actor that is a hart is one of so many
abbrev pub IsOneOf : ℕ → ActorId → Type 0
IsOneOf harts (Hart k) = k < harts
IsOneOf harts actor = Unit {0}

-- what it writes are bytes
abbrev pub IsSmallOp : Op → Type 0
IsSmallOp (Write at piece) = All IsByte piece
IsSmallOp op = Unit {0}

-- bytes are read, and to a load-reserved no word but of RAM is replied
abbrev pub IsSmallReply : ℕ → Op → Reply → Type 0
IsSmallReply size (Lr at wide) (Word old) = is_ram size at (width_of wide) ≡ true
IsSmallReply size (Sc at value wide) (Word failed) = failed ≤ 1
IsSmallReply size op (Bytes piece) = All IsByte piece
IsSmallReply size op reply = Unit {0}

-- what a start loads are bytes
abbrev pub AreLoads : Loads → Type 0
AreLoads loads = All IsByte loads.image × IfSome loads.initrd (All IsByte) × All IsByte loads.tree

-- the same but for what its bytes are
pub record IsWhole (pages harts : ℕ) (m : Memory) : Type 0 where
  pub many_bytes : length m.bytes ≡ page_size * pages
  pub many_slots : length m.reserved ≡ hart_limit * pages
  pub slots : AreSlots harts 0 m.reserved

-- to a load-reserved no word is replied but of RAM
abbrev pub IsRamReply : ℕ → Op → Reply → Type 0
IsRamReply size (Lr at wide) (Word old) = is_ram size at (width_of wide) ≡ true
IsRamReply size op reply = Unit {0}
