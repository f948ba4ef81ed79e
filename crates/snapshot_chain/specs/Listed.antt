-- The creates of a chain as a list with which files agree.
use Rattle.std.specs.Prelude.{List, [], ◌∷◌, Option, Some, None}
use Rattle.vm_types.specs.declared.identity.Identity.{Identity}
use Rattle.flat_guest.specs.Guest.{numbers_written}
use Rattle.create_lists.specs.Listed.{Create}
use Rattle.snapshot_chain.specs.Chains.{Saving, identity_of}

-- one of them: the snapshot since which it has the pages that were written, if it is a diff
abbrev pub create_of : Option Identity → Saving → Create
create_of base s = record {
  identity = identity_of s;
  base = base;
  copy = s.copy;
  bytes = s.guest.memory.bytes;
  numbers = numbers_written s.guest.written 0 s.copy.pages;
}

-- diffs, each since the one before
abbrev pub diffs_from : Saving → List Saving → List Create
diffs_from first [] = []
diffs_from first (s ∷ savings) = create_of (Some (identity_of first)) s ∷ diffs_from s savings

-- a full create, and diffs
abbrev pub creates_of : Saving → List Saving → List Create
creates_of first savings = create_of None first ∷ diffs_from first savings
