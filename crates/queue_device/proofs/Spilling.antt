-- Where the write of a piece leads.
use Rattle.std.proofs.Common.{◌≡◌, ℕ, ◌<◌, List, drop, refl}
use Rattle.vm_types.specs.declared.reply.Reply.{Reply}
use Rattle.device_trace.specs.Doing.{led}
use Rattle.vq_split.specs.declared.queue.Part.{Part}
use Rattle.dev_core.specs.Pieces.{past, put_all, share}
use Rattle.dev_core.proofs.Fuel.{put_more}

pub spill_on : (held rest : List ℕ) (to left : List Part) (n : ℕ) (reply : Reply) → 0 < share held to → n ≡ share held to
    → rest ≡ drop n held → left ≡ past n to → put_all rest left ≡ led (put_all held to) reply
spill_on held rest to left n reply some is a b = rw (put_more held to some, a, b, is) refl
