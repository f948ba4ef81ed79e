use Rattle.vm_types.specs.declared.ids.PlaceId.{PlaceId}
use Rattle.guest_pages.proofs.Making.{room_ready}
use Rattle.vm_world.proofs.hart_run.act.Goals as goal

pub act-requires-clause-ready : goal.act-requires-clause-ready
act-requires-clause-ready c = room_ready c.args.pages.now (PlaceId.Page c.in-Page.number) c.requires.room
