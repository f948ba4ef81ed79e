-- Words of random bits on their way into a chain (VIRTIO 1.2, 5.4.6).
use Rattle.std.specs.Prelude.{ℕ, zero, suc, ◌+◌, ◌-◌, ◌*◌, ◌/◌, min, Option, Some, None, List, take}
use Rattle.vm_types.specs.declared.op.Op.TheVariants.{Out}
use Rattle.vm_types.specs.declared.op.OutOp.TheVariants.{DrawWord}
use Rattle.vm_types.specs.declared.reply.Reply.{Reply}
use Rattle.vm_types.specs.declared.reply.Reply.TheVariants.{Drawn}
use Rattle.device_trace.specs.Doing.{Doing, Gives, Wants, and_then}
use Rattle.le_fields.specs.Fields.{bytes_of}
use Rattle.vq_split.specs.declared.queue.Part.{Part}
use Rattle.dev_core.specs.Pieces.{put_all, total}

-- how many bytes of a chain are filled, whose parts can all be written: no more than 4,096
abbrev pub filled_length : List Part → ℕ
filled_length parts = min 4096 (total parts)

-- how many words so many bytes take, of 8 bytes each, the last one cut
abbrev pub word_count : ℕ → ℕ
word_count length = (length + 7) / 8

-- how many bytes stand before the word of this number
abbrev pub before : ℕ → ℕ
before index = 8 * index

-- the bytes of the word of this number, its lowest first, cut to what is left
abbrev pub word_bytes : ℕ → ℕ → ℕ → List ℕ
word_bytes length index word = take (min 8 (length - before index)) (bytes_of 8 word)

abbrev pub word_of : Reply → Option ℕ
word_of (Drawn word) = Some word
word_of reply = None

-- a word that failed ends it; so many bytes were written then
abbrev pub with_word : Option ℕ → ℕ → (ℕ → Doing ℕ) → Doing ℕ
with_word None done more = Gives done
with_word (Some word) done more = more word

-- So many words are left of so many bytes, from this number on. Each is written before the next is asked for.
abbrev pub filling : ℕ → ℕ → ℕ → List Part → Doing ℕ
filling zero length index parts = Gives length
filling (suc left) length index parts =
    Wants (Out DrawWord) (λ reply. with_word (word_of reply) (before index) (λ word.
    and_then (put_all (word_bytes length index word) parts) (λ rest. filling left length (suc index) rest)))

-- the words from this number on
abbrev pub filling_from : ℕ → ℕ → List Part → Doing ℕ
filling_from length index parts = filling (word_count length - index) length index parts

-- the bytes of a word are written, and then the words behind it
abbrev pub writing : ℕ → ℕ → List ℕ → List Part → Doing ℕ
writing length index bytes parts = and_then (put_all bytes parts) (λ rest. filling_from length (suc index) rest)
