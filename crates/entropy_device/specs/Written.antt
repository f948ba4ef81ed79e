-- What a chain is filled with: the words that were given, in their order, cut at its length.
use Rattle.std.specs.Prelude.{ℕ, ◌≡◌, List, [], ◌∷◌, ◌++◌, length, flat_map}
use Rattle.vm_types.specs.declared.entry.Step.{Step}
use Rattle.vm_types.specs.declared.op.Op.{Op}
use Rattle.vm_types.specs.declared.reply.Reply.{Reply}
use Rattle.vm_types.specs.Fits.{Fits}
use Rattle.device_trace.specs.Doing.{Doing, Gives, Wants}
use Rattle.le_fields.specs.Fields.{bytes_of}
use Rattle.dev_core.specs.Bytes.{addresses_from}

-- acts with fitting replies that lead through all of it, to this result
abbrev pub Runs : {A : Type 0} → Doing A → List Step → A → Type 0
Runs (Gives a) [] b = a ≡ b
Runs (Gives a) (s ∷ steps) b = ⊥
Runs (Wants op on) [] b = ⊥
Runs (Wants op on) (s ∷ steps) b = (s.op ≡ op) × Fits op s.reply × Runs (on s.reply) steps b

-- the words that were given, in their order
abbrev pub given_by : Reply → List ℕ
given_by (Reply.Drawn word) = word ∷ []
given_by reply = []

abbrev pub words_in : List Step → List ℕ
words_in [] = []
words_in (s ∷ steps) = given_by s.reply ++ words_in steps

-- the bytes of these words, the lowest of each first
abbrev pub bytes_in : List ℕ → List ℕ
bytes_in words = flat_map (bytes_of 8) words

-- the bytes that were written, in their order
abbrev pub put_by : Op → List ℕ
put_by (Op.Write at piece) = piece
put_by op = []

abbrev pub written_in : List Step → List ℕ
written_in [] = []
written_in (s ∷ steps) = put_by s.op ++ written_in steps

-- and the addresses that they were written to
abbrev pub places_by : Op → List ℕ
places_by (Op.Write at piece) = addresses_from at (length piece)
places_by op = []

abbrev pub places_in : List Step → List ℕ
places_in [] = []
places_in (s ∷ steps) = places_by s.op ++ places_in steps
