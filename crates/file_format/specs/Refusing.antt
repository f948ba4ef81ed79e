-- The refusals that tell why a file wasn't read.
use Rattle.refusals.specs.declared.refusal.Refusal.{Refusal}
use Rattle.refusals.specs.declared.refusal.Refusal.TheVariants as refusal
use Rattle.file_format.specs.declared.error.DecodeError.{DecodeError}
use Rattle.file_format.specs.declared.error.DecodeError.TheVariants as error

abbrev pub refusal_of : DecodeError → Refusal
refusal_of error.GateClosed = refusal.GateClosed
refusal_of error.WrongMagic = refusal.WrongMagic
refusal_of error.BadField = refusal.BadField
refusal_of error.OutOfMemory = refusal.OutOfMemory
