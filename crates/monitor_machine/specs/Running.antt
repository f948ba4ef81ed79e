-- The world of a machine that is taken out for a slice.
use Rattle.std.specs.Prelude.{Bool, true, false, Option, None}
use Rattle.vm_world.specs.Worlds.{WorldValue}

-- the world that runs: one that stands still is none; and what stays where it is taken out
abbrev pub running_world : Option WorldValue → Bool → Option WorldValue
running_world guest true = None
running_world guest false = guest

abbrev pub resting_world : Option WorldValue → Bool → Option WorldValue
resting_world guest true = guest
resting_world guest false = None
