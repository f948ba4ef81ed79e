-- The items that tell a slice's events.
use Rattle.std.specs.Prelude.{ℕ, nat_le, Bool, true, false, if◌then◌else◌, List, map}
use Rattle.vm_types.specs.declared.ids.ActorId.{ActorId}
use Rattle.vm_types.specs.declared.entry.Entry.{Entry}
use Rattle.vm_types.specs.declared.op.Op.{Op}
use Rattle.vm_types.specs.declared.reply.Reply.{Reply}
use Rattle.script_text.specs.declared.item.HostReply.{HostReply}
use Rattle.script_text.specs.declared.item.HostReply.TheVariants as given
use Rattle.script_text.specs.declared.item.Item.{Item}
use Rattle.script_text.specs.declared.item.Item.TheVariants as item

-- no link gives a longer frame
abbrev pub frame_reply : ℕ → HostReply
frame_reply length = if nat_le length 1514 then given.Frame length else given.Failed

-- what a host object answered, as a line says it; the other replies are of none
abbrev pub host_reply : Reply → HostReply
host_reply Reply.Done = given.Done
host_reply (Reply.Bytes piece) = given.Part piece
host_reply (Reply.Word nanoseconds) = given.Now nanoseconds
host_reply Reply.Nothing = given.Nothing
host_reply (Reply.Frame length) = frame_reply length
host_reply (Reply.Opened connection) = given.Opened connection
host_reply (Reply.Received piece connection) = given.Received connection piece
host_reply (Reply.Ended connection) = given.Ended connection
host_reply (Reply.Dialled connection) = given.Dialled connection
host_reply (Reply.Drawn word) = given.Word word
host_reply reply = given.Failed

-- an act on a host object is told with its reply, and another event by its actor
abbrev pub item_by : Op → ActorId → Reply → Item
item_by (Op.Out act) actor reply = item.Reply actor (host_reply reply)
item_by op actor reply = item.Step actor 1

abbrev pub item_of : Entry → Item
item_of e = item_by e.op e.actor e.reply

abbrev pub event_items : List Entry → List Item
event_items es = map item_of es

-- bytes of a connection, which an item has on the heap
abbrev pub is_received : Reply → Bool
is_received (Reply.Received piece connection) = true
is_received reply = false

abbrev pub needs_room_by : Op → Reply → Bool
needs_room_by (Op.Out act) reply = is_received reply
needs_room_by op reply = false

abbrev pub needs_room : Entry → Bool
needs_room e = needs_room_by e.op e.reply
