-- Where the look counts the reply brings an index.
use Rattle.std.proofs.Common.{◌≡◌, sym, subst, ◌∙◌, Bool, true, false, if◌then◌else◌}
use Rattle.vq_split.specs.Chain.{index_in}
use Rattle.queue_device.specs.Left.{queued}
use Rattle.queue_device.specs.Rounds.{index_shown}
use Rattle.queue_device.proofs.Steps.{looking_length}
use Rattle.queue_device.proofs.going.show.Goals as goal

pub index_in-requires : goal.index_in-requires
index_in-requires g c =
    looking_length c.args.walk.now.stage c.args.walk.now.queue c.args.walk.now.next c.args.reply.now
    (sym c.is_looking.ensures ∙ c.if-is_looking.true) c.requires
