-- What an identity of a file says of a lineage.
use Rattle.std.proofs.Common.{◌≡◌, ◌<◌, ◌^◌, arith}
use Rattle.vm_types.specs.declared.identity.Identity.{Identity}
use Rattle.file_format.specs.Kinds.{number64}
use Rattle.file_format.specs.Identities.{identity}

pub lineage_small : (own : Identity) → identity.Fits own → own.lineage < 2 ^ 64
unfolding identity number64
lineage_small own fits = omega (arith, fits.0)

-- and so does another of that number
pub other_fits : (own other : Identity) → identity.Fits own → other.lineage < 2 ^ 64 → other.number ≡ own.number → identity.Fits other
unfolding identity number64
other_fits own other fits small number = (omega (arith, small), omega (arith, number, fits.1))
