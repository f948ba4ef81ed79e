use Rattle.std.proofs.Common.{rules}
use Rattle.guest_memory.proofs.ram.is_ram.Goals as goal

pub returns-then-at-ge-RAM_START : goal.returns-then-at-ge-RAM_START
returns-then-at-ge-RAM_START c = search rules
