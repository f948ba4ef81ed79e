-- An act on a place of a machine is one on the page, the port or the board that it is.
use Rattle.std.specs.Prelude.{◌≡◌, true}
use Rattle.vm_types.specs.declared.ids.ActorId.{ActorId}
use Rattle.vm_types.specs.declared.op.Op.{Op}
use Rattle.vm_types.specs.declared.reply.Reply.{Reply}
use Rattle.board_table.specs.Acts as board
use Rattle.board_table.specs.Board.{Board as BoardValue}
use Rattle.guest_pages.specs.Pages.{PageValue, page_touch}
use Rattle.port_table.specs.Acts as port
use Rattle.port_table.specs.declared.state.PortState.{PortState}
use Rattle.machine_places.specs.declared.place.MachinePlace.{MachinePlace}
use Rattle.machine_places.specs.declared.place.MachinePlace.TheVariants.{Page, Port, Board}

abbrev pub on_page : Reply × PageValue → Reply × MachinePlace
on_page answer = (answer.0, Page answer.1)

abbrev pub on_port : Reply × PortState → Reply × MachinePlace
on_port answer = (answer.0, Port answer.1)

abbrev pub on_board : Reply × BoardValue → Reply × MachinePlace
on_board answer = (answer.0, Board answer.1)

abbrev pub touch : MachinePlace → ActorId → Op → Reply × MachinePlace
touch (Page p) actor op = on_page (page_touch p actor op)
touch (Port p) actor op = on_port (port.touch p actor op)
touch (Board b) actor op = on_board (board.touch b actor op)

-- a page may not be made yet; a port and the board are
abbrev pub IsMade : MachinePlace → Type 0
IsMade (Page p) = p.made ≡ true
IsMade (Port p) = Unit {0}
IsMade (Board b) = Unit {0}
