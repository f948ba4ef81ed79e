-- What a process knows of its snapshots, once there is another one.
use Rattle.std.specs.Prelude.{ℕ, Some}
use Rattle.vm_types.specs.declared.identity.Identity.{Identity}
use Rattle.api_rules.specs.declared.ids.Ids.{Ids}

-- its number is spent: the next snapshot has this one
abbrev pub spent : ℕ → Ids → Ids
spent next ids = record ids { next = next }

-- and it is the base from now on
abbrev pub based : Identity → ℕ → Ids → Ids
based identity next ids = record (spent next ids) { base = Some identity }
