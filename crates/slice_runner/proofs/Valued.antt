-- What a list with all places says of each of them, and that an act leaves a place of its kind.
use Rattle.std.proofs.Common.{◌≡◌, ℕ, zero, suc, ◌+◌, ◌<◌, ◌≤◌, nat_lt, Bool, true, false, cond, List, [], ◌∷◌, ◌++◌, map, length, get_or, refl, sym, ap, ◌∙◌, subst, arith, length-append}
use Rattle.std.proofs.lemmas.Bool.{ltb-true, ltb-false}
use mathlib.Core.Option.{some, some-ne-none}
use lib.ListN.{get_elem?}
use Rattle.vm_types.specs.declared.entry.Entry.{Entry}
use Rattle.vm_types.specs.declared.ids.PlaceId.{PlaceId}
use Rattle.vm_types.specs.Histories.{Replays}
use Rattle.board_table.specs.Acts as board
use Rattle.board_table.specs.Board.{Board}
use Rattle.guest_pages.specs.Pages.{PageValue, new_page, page_touch}
use Rattle.port_table.specs.Acts as port
use Rattle.port_table.specs.declared.state.PortState.{PortState}
use Rattle.stamp_merge.specs.declared.layout.Layout.{Layout}
use Rattle.turn_table.specs.declared.held.Held.{Held}
use Rattle.turn_table.specs.declared.view.View.{View}
use Rattle.turn_table.specs.Steps.{Told}
use Rattle.turn_law.specs.Rounds.{AreValues}
use Rattle.machine_places.specs.declared.place.MachinePlace.{MachinePlace}
use Rattle.machine_places.specs.declared.place.MachinePlace.TheVariants as holds
use Rattle.machine_places.specs.Acts.{IsMade, touch}
use Rattle.machine_places.specs.Laid.{ArePlaces, index_among, place_of}
use Rattle.machine_places.proofs.Named.{get_map}
use Rattle.slice_runner.specs.Values.{no_port, page_or_none, place_among, port_or_none}

abbrev pub all_places : List PageValue → List PortState → Board → List MachinePlace
all_places ps ms b = map holds.Page ps ++ (map holds.Port ms ++ holds.Board b ∷ [])

inside_of : {A : Type 0} (xs : List A) (i : ℕ) (x : A) → get_elem? xs i ≡ some x → i < length xs
inside_of [] i x at = absurd (some-ne-none x (sym at))
inside_of (y ∷ xs) zero x at = omega arith
inside_of (y ∷ xs) (suc i) x at = let h = inside_of xs i x at in omega (arith, h)

there : {A B : Type 0} (f : A → B) (xs : List A) (rest : List B) (i : ℕ) (d : A) → i < length xs → get_elem? (map f xs ++ rest) i ≡ some (f (get_or xs i d))
there f [] rest i d lt = absurd (omega (arith, lt))
there f (x ∷ xs) rest zero d lt = refl
there f (x ∷ xs) rest (suc i) d lt = there f xs rest i d (omega (arith, lt))

behind : {A B : Type 0} (f : A → B) (xs : List A) (rest : List B) (k : ℕ) → get_elem? (map f xs ++ rest) (length xs + k) ≡ get_elem? rest k
behind f [] rest k = let e : 0 + k ≡ k = omega arith in ap (λ i. get_elem? rest i) e
behind f (x ∷ xs) rest k =
    let e : length (x ∷ xs) + k ≡ suc (length xs + k) = omega arith in
    ap (λ i. get_elem? (f x ∷ (map f xs ++ rest)) i) e ∙ behind f xs rest k

map_long : {A B : Type 0} (f : A → B) (xs : List A) → length (map f xs) ≡ length xs
map_long f [] = refl
map_long f (x ∷ xs) = ap suc (map_long f xs)

past_end : {A : Type 0} (xs : List A) (k : ℕ) (d : A) → length xs ≤ k → get_or xs k d ≡ d
past_end [] k d far = refl
past_end (x ∷ xs) zero d far = absurd (omega (arith, far))
past_end (x ∷ xs) (suc k) d far = past_end xs k d (omega (arith, far))

all_long : (ps : List PageValue) (ms : List PortState) (b : Board) → length (all_places ps ms b) ≡ length ps + (length ms + 1)
all_long ps ms b =
    omega (arith, length-append (map holds.Page ps) (map holds.Port ms ++ holds.Board b ∷ []), length-append (map holds.Port ms) (holds.Board b ∷ []), map_long holds.Page ps, map_long holds.Port ms)

module _ (ps : List PageValue) (ms : List PortState) (b : Board) where
  abbrev layout : Layout
  layout = record { pages = length ps; ports = length ms }

  same_at : (i : ℕ) (x y : MachinePlace) → get_elem? (all_places ps ms b) i ≡ some x → get_elem? (all_places ps ms b) i ≡ some y → y ≡ x
  same_at i x y at also = cc

  past : (i : ℕ) (x : MachinePlace) → get_elem? (all_places ps ms b) i ≡ some x → i < length ps + (length ms + 1)
  past i x at = subst (λ (n : ℕ). i < n) (all_long ps ms b) (inside_of (all_places ps ms b) i x at)

  page_value : (i : ℕ) (x : MachinePlace) (t : Bool) → nat_lt i (length ps) ≡ t → get_elem? (all_places ps ms b) (cond t i (i + (length ms + 1))) ≡ some x
      → holds.Page (page_or_none ps i) ≡ x
  page_value i x true lt at =
      same_at i x (holds.Page (page_or_none ps i)) at (there holds.Page ps (map holds.Port ms ++ holds.Board b ∷ []) i (new_page 0) (ltb-true i (length ps) lt))
  page_value i x false ge at =
      let far = ltb-false i (length ps) ge in
      let lt = past (i + (length ms + 1)) x at in
      absurd (omega (arith, far, lt))

  port_value : (k : ℕ) (x : MachinePlace) (t : Bool) → nat_lt k (length ms) ≡ t
      → get_elem? (all_places ps ms b) (cond t (length ps + k) (length ps + (k + 1))) ≡ some x → holds.Port (port_or_none ms k) ≡ x
  port_value k x true lt at =
      same_at (length ps + k) x (holds.Port (port_or_none ms k)) at
      (behind holds.Page ps (map holds.Port ms ++ holds.Board b ∷ []) k ∙ there holds.Port ms (holds.Board b ∷ []) k no_port (ltb-true k (length ms) lt))
  port_value k x false ge at =
      let far = ltb-false k (length ms) ge in
      let lt = past (length ps + (k + 1)) x at in
      absurd (omega (arith, far, lt))

  board_value : (x : MachinePlace) → get_elem? (all_places ps ms b) (length ps + length ms) ≡ some x → holds.Board b ≡ x
  board_value x at =
      let e : length ms ≡ length ms + 0 = omega arith in
      same_at (length ps + length ms) x (holds.Board b) at
      (behind holds.Page ps (map holds.Port ms ++ holds.Board b ∷ []) (length ms)
      ∙ ap (λ i. get_elem? (map holds.Port ms ++ holds.Board b ∷ []) i) e ∙ behind holds.Port ms (holds.Board b ∷ []) 0)

  value_in : (p : PlaceId) (x : MachinePlace) → get_elem? (all_places ps ms b) (index_among layout p) ≡ some x → place_among ps ms b p ≡ x
  value_in (PlaceId.Page i) x at = page_value i x (nat_lt i (length ps)) refl at
  value_in (PlaceId.Port k) x at = port_value k x (nat_lt k (length ms)) refl at
  value_in PlaceId.Board x at = board_value x at
  value_in PlaceId.Out x at =
      let lt = past (length ps + (length ms + 1)) x at in absurd (omega (arith, lt))

  -- how the place at this index stands
  pub value_at : (list : List (Held MachinePlace)) → ArePlaces ps ms b list → (p : PlaceId) (held : Held MachinePlace)
      → get_elem? list (index_among layout p) ≡ some held → place_among ps ms b p ≡ held.place
  value_at list are p held at =
      value_in p held.place (ap (λ l. get_elem? l (index_among layout p)) (sym are) ∙ get_map place_of list (index_among layout p) held at)

  pub as_many : (list : List (Held MachinePlace)) → ArePlaces ps ms b list → length list ≡ length ps + (length ms + 1)
  as_many list are = sym (map_long place_of list) ∙ ap length are ∙ all_long ps ms b

-- a place that there isn't has one value in all worlds with so many places
module _ (ps qs : List PageValue) (ms ns : List PortState) (b c : Board) (pages : length qs ≡ length ps) (ports : length ns ≡ length ms) where
  page_none : (i : ℕ) (t : Bool) → nat_lt i (length ps) ≡ t → length ps + (length ms + 1) ≤ cond t i (i + (length ms + 1))
      → holds.Page (page_or_none ps i) ≡ holds.Page (page_or_none qs i)
  page_none i true lt far = let less = ltb-true i (length ps) lt in absurd (omega (arith, less, far))
  page_none i false ge far =
      let end = ltb-false i (length ps) ge in
      ap holds.Page (past_end ps i (new_page 0) (omega (arith, end)) ∙ sym (past_end qs i (new_page 0) (omega (arith, end, pages))))

  port_none : (k : ℕ) (t : Bool) → nat_lt k (length ms) ≡ t → length ps + (length ms + 1) ≤ cond t (length ps + k) (length ps + (k + 1))
      → holds.Port (port_or_none ms k) ≡ holds.Port (port_or_none ns k)
  port_none k true lt far = let less = ltb-true k (length ms) lt in absurd (omega (arith, less, far))
  port_none k false ge far =
      let end = ltb-false k (length ms) ge in
      ap holds.Port (past_end ms k no_port (omega (arith, end)) ∙ sym (past_end ns k no_port (omega (arith, end, ports))))

  none_there : (p : PlaceId) → length ps + (length ms + 1) ≤ index_among (record { pages = length ps; ports = length ms }) p
      → place_among ps ms b p ≡ place_among qs ns c p
  none_there (PlaceId.Page i) far = page_none i (nat_lt i (length ps)) refl far
  none_there (PlaceId.Port k) far = port_none k (nat_lt k (length ms)) refl far
  none_there PlaceId.Board far = absurd (omega (arith, far))
  none_there PlaceId.Out far = refl

  -- the places of both lists, as they stand
  pub are_values : (opens now : List (Held MachinePlace)) → ArePlaces ps ms b opens → ArePlaces qs ns c now
      → AreValues (λ (p : MachinePlace). p) (index_among (record { pages = length ps; ports = length ms })) opens now (place_among ps ms b) (place_among qs ns c)
  are_values opens now were are =
      let size : record { pages = length qs; ports = length ns } ≡ record { pages = length ps; ports = length ms } = λ i. record { pages = pages i; ports = ports i } in
      record {
        first = λ p held at. value_at ps ms b opens were p held at;
        last = λ p held at. value_at qs ns c now are p held (ap (λ (l : Layout). get_elem? now (index_among l p)) size ∙ at);
        none = λ p far. none_there p (subst (λ (n : ℕ). n ≤ index_among (record { pages = length ps; ports = length ms }) p) (as_many ps ms b opens were) far);
      }

abbrev kind_of : MachinePlace → ℕ
kind_of (holds.Page p) = 0
kind_of (holds.Port p) = 1
kind_of (holds.Board b) = 2

-- acts leave a place of its kind
kind_stays : (v : MachinePlace) (es : List Entry) (w : MachinePlace) → Replays touch v es w → kind_of w ≡ kind_of v
kind_stays v [] w h = ap kind_of (sym h)
kind_stays (holds.Page p) (e ∷ es) w h = kind_stays (holds.Page (page_touch p e.actor e.op).1) es w h.1
kind_stays (holds.Port p) (e ∷ es) w h = kind_stays (holds.Port (port.touch p e.actor e.op).1) es w h.1
kind_stays (holds.Board b) (e ∷ es) w h = kind_stays (holds.Board (board.touch b e.actor e.op).1) es w h.1

abbrev SameKinds : List MachinePlace → List MachinePlace → Type 0
SameKinds [] [] = Unit {0}
SameKinds (x ∷ xs) (y ∷ ys) = (kind_of y ≡ kind_of x) × SameKinds xs ys
SameKinds xs ys = ⊥

kinds_of : (xs ys : List (Held MachinePlace)) → length ys ≡ length xs
    → ((i : ℕ) (a b : Held MachinePlace) → get_elem? xs i ≡ some a → get_elem? ys i ≡ some b → kind_of b.place ≡ kind_of a.place)
    → SameKinds (map place_of xs) (map place_of ys)
kinds_of [] [] long same = tt
kinds_of [] (y ∷ ys) long same = absurd (omega (arith, long))
kinds_of (x ∷ xs) [] long same = absurd (omega (arith, long))
kinds_of (x ∷ xs) (y ∷ ys) long same = (
  same 0 x y refl refl,
  kinds_of xs ys (omega (arith, long)) (λ i a b at also. same (suc i) a b at also),
)

told_kinds : (v : View MachinePlace) (now : List (Held MachinePlace)) → Told touch (λ (p : MachinePlace). p) IsMade v now
    → (i : ℕ) (a b : Held MachinePlace) → get_elem? v.round.opens i ≡ some a → get_elem? now i ≡ some b → kind_of b.place ≡ kind_of a.place
told_kinds v now told i a b at also =
    let t = told i (inside_of v.round.opens i a at) in
    let first : t.0 ≡ a = let one = t.3 in cc in
    let last : t.1 ≡ b = let one = t.4 in cc in
    ap (λ (h : Held MachinePlace). kind_of h.place) (sym last) ∙ kind_stays t.0.place t.2 t.1.place t.6.history.replays
    ∙ ap (λ (h : Held MachinePlace). kind_of h.place) first

-- a list of places of the same kinds has as many pages and ports, and a board
pub record IsAgain (pages ports : ℕ) (list : List MachinePlace) : Type 0 where
  pub of_pages : List PageValue
  pub of_ports : List PortState
  pub of_board : Board
  pub are : list ≡ all_places of_pages of_ports of_board
  pub pages_many : length of_pages ≡ pages
  pub ports_many : length of_ports ≡ ports

again_ports : (ms : List PortState) (b : Board) (now : List MachinePlace) → SameKinds (map holds.Port ms ++ holds.Board b ∷ []) now
    → (ns : List PortState) × (c : Board) × (now ≡ map holds.Port ns ++ holds.Board c ∷ []) × (length ns ≡ length ms)
again_ports [] b [] same = absurd same
again_ports [] b (holds.Board c ∷ []) same = ([], c, refl, refl)
again_ports [] b (holds.Board c ∷ x ∷ xs) same = absurd same.1
again_ports [] b (holds.Page p ∷ xs) same = absurd (omega (arith, same.0))
again_ports [] b (holds.Port p ∷ xs) same = absurd (omega (arith, same.0))
again_ports (m ∷ ms) b [] same = absurd same
again_ports (m ∷ ms) b (holds.Port n ∷ xs) same =
    let r = again_ports ms b xs same.1 in (n ∷ r.0, r.1, ap (λ l. holds.Port n ∷ l) r.2, ap suc r.3)
again_ports (m ∷ ms) b (holds.Page p ∷ xs) same = absurd (omega (arith, same.0))
again_ports (m ∷ ms) b (holds.Board c ∷ xs) same = absurd (omega (arith, same.0))

again : (ps : List PageValue) (ms : List PortState) (b : Board) (now : List MachinePlace) → SameKinds (all_places ps ms b) now → IsAgain (length ps) (length ms) now
again [] ms b now same =
    let r = again_ports ms b now same in
    record { of_pages = []; of_ports = r.0; of_board = r.1; are = r.2; pages_many = refl; ports_many = r.3 }
again (p ∷ ps) ms b [] same = absurd same
again (p ∷ ps) ms b (holds.Page q ∷ xs) same =
    let r = again ps ms b xs same.1 in
    record { of_pages = q ∷ r.of_pages; of_ports = r.of_ports; of_board = r.of_board; are = ap (λ l. holds.Page q ∷ l) r.are; pages_many = ap suc r.pages_many; ports_many = r.ports_many }
again (p ∷ ps) ms b (holds.Port q ∷ xs) same = absurd (omega (arith, same.0))
again (p ∷ ps) ms b (holds.Board c ∷ xs) same = absurd (omega (arith, same.0))

-- so has the list of places that the seat with all parts is told of
pub told_again : (ps : List PageValue) (ms : List PortState) (b : Board) (v : View MachinePlace) (now : List (Held MachinePlace)) → ArePlaces ps ms b v.round.opens
    → length now ≡ length v.round.opens → Told touch (λ (p : MachinePlace). p) IsMade v now
    → IsAgain (length ps) (length ms) (map place_of now)
told_again ps ms b v now were long told =
    again ps ms b (map place_of now)
    (subst (λ l. SameKinds l (map place_of now)) were (kinds_of v.round.opens now long (told_kinds v now told)))
