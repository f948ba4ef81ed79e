-- What is taken out of a list of a machine's places.
use Rattle.std.proofs.Common.{◌≡◌, ◌++◌, List, [], ◌∷◌, map, Option, Some, None, refl, ap, ◌∙◌}
use Rattle.board_table.specs.Board.{Board as BoardValue}
use Rattle.guest_pages.specs.Pages.{PageValue}
use Rattle.port_table.specs.declared.state.PortState.{PortState}
use Rattle.machine_places.specs.declared.place.MachinePlace.{MachinePlace}
use Rattle.machine_places.specs.declared.place.MachinePlace.TheVariants.{Page, Port, Board}
use Rattle.machine_places.specs.Laid.{board_in, pages_in, ports_in}

pages_past : (ms : List PortState) (b : BoardValue) → pages_in (map Port ms ++ Board b ∷ []) ≡ []
pages_past [] b = refl
pages_past (m ∷ ms) b = pages_past ms b

pages_all : (ps : List PageValue) (ms : List PortState) (b : BoardValue) → pages_in (map Page ps ++ (map Port ms ++ Board b ∷ [])) ≡ ps
pages_all [] ms b = pages_past ms b
pages_all (p ∷ ps) ms b = ap (λ l. p ∷ l) (pages_all ps ms b)

ports_past : (ms : List PortState) (b : BoardValue) → ports_in (map Port ms ++ Board b ∷ []) ≡ ms
ports_past [] b = refl
ports_past (m ∷ ms) b = ap (λ l. m ∷ l) (ports_past ms b)

ports_all : (ps : List PageValue) (ms : List PortState) (b : BoardValue) → ports_in (map Page ps ++ (map Port ms ++ Board b ∷ [])) ≡ ms
ports_all [] ms b = ports_past ms b
ports_all (p ∷ ps) ms b = ports_all ps ms b

board_past : (last : Option BoardValue) (ms : List PortState) (b : BoardValue) → board_in last (map Port ms ++ Board b ∷ []) ≡ Some b
board_past last [] b = refl
board_past last (m ∷ ms) b = board_past last ms b

board_all : (last : Option BoardValue) (ps : List PageValue) (ms : List PortState) (b : BoardValue) → board_in last (map Page ps ++ (map Port ms ++ Board b ∷ [])) ≡ Some b
board_all last [] ms b = board_past last ms b
board_all last (p ∷ ps) ms b = board_all last ps ms b

module _ (list : List MachinePlace) (ps : List PageValue) (ms : List PortState) (b : BoardValue) (are : list ≡ map Page ps ++ (map Port ms ++ Board b ∷ [])) where
  pub pages_there : pages_in list ≡ ps
  pages_there = ap pages_in are ∙ pages_all ps ms b

  pub ports_there : ports_in list ≡ ms
  ports_there = ap ports_in are ∙ ports_all ps ms b

  pub board_there : board_in None list ≡ Some b
  board_there = ap (board_in None) are ∙ board_all None ps ms b
