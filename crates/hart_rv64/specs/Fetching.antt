-- A hart that is to fetch its next instruction.
use Rattle.std.specs.Prelude.{ℕ, ◌≡◌, None}
use Rattle.vm_types.specs.declared.reply.Reply.{Reply}
use Rattle.le_fields.specs.Fields.{bytes_of}
use Rattle.rv_supervisor.specs.declared.regs.Turn.{Turn}
use Rattle.hart_trace.specs.States.{Hart}

pub record IsFetching (h : Hart) : Type 0 where
  pub between : h.begun ≡ None
  pub turn : h.regs.turn ≡ Turn.Fetch

-- the reply to its fetch, which has the low bytes of this word
abbrev pub fetch_reply : ℕ → Reply
fetch_reply word = Reply.Bytes (bytes_of 4 word)
