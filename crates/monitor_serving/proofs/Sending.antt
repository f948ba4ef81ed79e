-- A machine may be lent to another thread: a search for all of it at once comes to its limit, so it goes by the parts.
use denote.Param.Send.{IsSend, sendable}
use Rattle.std.proofs.Crossing.{crosses}
use Rattle.std.proofs.MapsCrossing as maps
use Rattle.serde_json.proofs.value.Value.TheLaws.TheKnot as json
use Rattle.vm_types.proofs.text_list.TextList.TheSendSync as text
use Rattle.metadata_store.specs.contracts.store.Store as Store
use Rattle.vm_world.proofs.world.World.TheSendSync as world
use Rattle.monitor_plans.proofs.taken_config.TakenConfig.TheSendSync as config
use Rattle.monitor_machine.specs.contracts.machine.LiveMachine as LiveMachine

store_send : IsSend Store.the_row
store_send = search (json.send-Value, sendable, crosses, maps.crosses) depth 30 fits 3000

pub machine_send : IsSend LiveMachine.the_row
machine_send = search (store_send, world.the_send, config.the_send, text.the_send, sendable, crosses) depth 40 fits 10000
