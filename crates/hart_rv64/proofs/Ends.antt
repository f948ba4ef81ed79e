-- An instruction that asks for nothing ends without a reply, and the word of a fetch.
use Rattle.std.proofs.Common.{◌≡◌, ℕ, refl, true, None, arith}
use Rattle.vm_types.specs.declared.op.Op.TheVariants.{Read}
use Rattle.vm_types.specs.declared.reply.Reply.TheVariants.{Bytes}
use Rattle.vm_types.specs.Fits.{fits}
use Rattle.le_fields.specs.Fields.{little_endian, bytes_of}
use Rattle.rv_rows.specs.declared.memory.Width.{Width}
use Rattle.rv_rows.specs.Loads.{width_bytes}
use Rattle.rv_rows.specs.Numbers.{low_word}
use Rattle.vm_types.specs.declared.reply.Reply.{Reply}
use Rattle.rv_doing.specs.Doing.{Doing, Ends, Asks, asked, ended}

pub ends_alike : (d : Doing) (a b : Reply) → asked d ≡ None → ended d a ≡ ended d b
ends_alike (Ends after) a b none = refl
ends_alike (Asks op ends) a b none = cc

pub fetched_word : (pc word : ℕ) (width : Width)
    → fits (Read pc 4) (Bytes (bytes_of (width_bytes width) word)) ≡ true
    → low_word word ≡ little_endian (bytes_of (width_bytes width) word)
fetched_word pc word Width.Byte fit = cc
fetched_word pc word Width.Half fit = cc
fetched_word pc word Width.Word fit = omega arith
fetched_word pc word Width.Double fit = cc
