-- Where a copy fits a state file, so does the header of its memory file.
use Rattle.std.proofs.Common.{◌<◌, ◌^◌, ℕ, zero, suc, refl, replicate, arith}
use Rattle.std.specs.List.{AllByRecursion}
use Rattle.std.proofs.lemmas.List.{length-replicate}
use Rattle.vm_types.specs.declared.identity.Identity.{Identity}
use Rattle.file_format.specs.Kinds.{byte, fixed, number32, number64, times, zeros}
use Rattle.file_format.specs.Identities.{identity}
use Rattle.file_format.specs.Versions.{current_version}
use Rattle.snap_memory.specs.declared.slot.Slot.{Slot}
use Rattle.snap_memory.specs.Headers.{header, new_header}
use Rattle.snap_memory.specs.Slots.{slot}
use Rattle.snap_state.specs.declared.copy.StateCopy.{StateCopy}
use Rattle.snap_state.specs.Files.{IsSaved}
use Rattle.snap_state.proofs.Rules.{few_pages, rules_of}

all_replicate : {A : Type 0} (P : A → Type 0) (n : ℕ) (x : A) → P x → AllByRecursion P (replicate n x)
all_replicate P zero x is = tt
all_replicate P (suc n) x is = (is, all_replicate P n x is)

abbrev closed : Slot
closed = record { identity = record { lineage = 0; number = 0 }; gate = 0 }

closed_fits : slot.Fits closed
unfolding slot identity number64 byte zeros
closed_fits = ((omega arith, omega arith), (omega arith, tt))

header_fits : (pages : ℕ) (own : Identity) → identity.Fits own → pages < 2 ^ 32 → header.Fits (new_header pages own)
unfolding header fixed number32 byte zeros times
header_fits pages own of small =
    (refl, (refl, (omega (arith, small), (of, (omega arith, (tt, ((length-replicate {A = Slot} 100 closed, all_replicate slot.Fits 100 closed closed_fits), tt)))))))

-- one into which nothing was merged
pub new_fits : (own : Identity) (copy : StateCopy) → IsSaved current_version (record { identity = own; copy = copy }) → header.Fits (new_header copy.pages own)
new_fits own copy saved =
    let few = few_pages copy (rules_of copy saved.valid) in
    header_fits copy.pages own saved.fits.1.0 (omega (arith, few))
