use Rattle.std.proofs.Common.{rules}
use Rattle.vq_split.proofs.fields.is_inside.Goals as goal

pub overflow_mul-pages : goal.overflow_mul-pages
overflow_mul-pages c = search rules
