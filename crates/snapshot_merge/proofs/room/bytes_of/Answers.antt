use Rattle.std.proofs.Common.{◌∙◌, ap, []}
use Rattle.file_format.specs.Identities.{identity}
use Rattle.snapshot_merge.proofs.room.bytes_of.Goals as goal

pub returns : goal.returns
returns c = c.in_ok-write.ensures.bytes ∙ ap (identity.puts c.args.name) c.new-bytes.ensures.items ∙ identity.same c.args.name []
