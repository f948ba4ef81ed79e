use Rattle.world_copy.proofs.Ready.{item_of}
use Rattle.world_copy.proofs.copying.hart_copies.Goals as goal

pub hart_copy-requires : goal.hart_copy-requires
hart_copy-requires c =
    c.requires c.loop-hart.hart-index c.hart-item.result
    (item_of c.args.harts.now c.loop-hart.hart-index c.hart-item.result c.loop-hart-test.true c.hart-item.is)
