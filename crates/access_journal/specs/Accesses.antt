-- Accesses of harts to pages, and their entries.
use Rattle.std.specs.Prelude.{ℕ, ◌==◌, nat_le, Bool, true, false, ◌&&◌, List, length}
use Rattle.vm_types.specs.declared.ids.ActorId.{ActorId}
use Rattle.vm_types.specs.declared.ids.PlaceId.{PlaceId}
use Rattle.vm_types.specs.declared.op.Op.{Op}
use Rattle.vm_types.specs.declared.reply.Reply.{Reply}
use Rattle.vm_types.specs.declared.entry.Entry.{Entry}
use Rattle.access_journal.specs.declared.access_entry.Access.{Access}

abbrev pub op_of : Access → ℕ → List ℕ → Op
op_of Access.Read at bytes = Op.Read at (length bytes)
op_of Access.Write at bytes = Op.Write at bytes

abbrev pub reply_of : Access → List ℕ → Reply
reply_of Access.Read bytes = Reply.Bytes bytes
reply_of Access.Write bytes = Reply.Done

-- the entry of an access of this hart to this page
abbrev pub entry_of : ℕ → ℕ → ℕ → ℕ → Access → ℕ → List ℕ → Entry
entry_of stamp before hart page access at bytes = record {
  stamp = stamp;
  before = before;
  actor = ActorId.Hart hart;
  place = PlaceId.Page page;
  op = op_of access at bytes;
  reply = reply_of access bytes;
}

-- the op is an access of eight bytes at most, and by this reply it was made
abbrev pub is_made : Op → Reply → Bool
is_made (Op.Read at len) (Reply.Bytes bytes) = nat_le len 8 && (len == length bytes)
is_made (Op.Write at piece) Reply.Done = nat_le (length piece) 8
is_made op reply = false

abbrev pub is_hart : ActorId → Bool
is_hart (ActorId.Hart k) = true
is_hart actor = false

abbrev pub is_page : PlaceId → Bool
is_page (PlaceId.Page i) = true
is_page place = false

-- a hart made an access to a page, of eight bytes at most
abbrev pub is_access : Entry → Bool
is_access e = is_hart e.actor && is_page e.place && is_made e.op e.reply
