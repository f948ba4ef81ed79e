-- The rule: what is so whenever no step is on its way.
use Rattle.std.specs.Prelude.{ℕ, ◌≡◌, ◌+◌, ◌*◌, ◌^◌, ◌<◌, ◌≤◌, ◌==◌, cond, List, length, All, Contains, Option, Some, None}
use Rattle.std.specs.List.Sorted.{IsPermutation}
use mathlib.Core.Option as maybe
use lib.ListN.{get_elem?}
use Rattle.atomic_table.specs.Table.{State}
use Rattle.vm_types.specs.declared.ids.ActorId.{ActorId}
use Rattle.vm_types.specs.declared.op.Op.{Op}
use Rattle.vm_types.specs.declared.reply.Reply.{Reply}
use Rattle.vm_types.specs.declared.entry.Entry.{Entry}
use Rattle.place_locks.specs.Held.{IsHistory, IsLast}
use Rattle.turn_table.specs.declared.held.Held.{Held}
use Rattle.turn_table.specs.declared.view.View.{View}
use Rattle.turn_table.specs.declared.view.Round.{Round}
use Rattle.turn_table.specs.declared.view.Turn.{Turn}
use Rattle.turn_table.specs.declared.view.Noted.{Noted}
use Rattle.turn_table.specs.Views.{parts_of, all_at}

-- the stamp of the place's last act in this round, 0 where there was none
abbrev pub before_of : {P : Type 0} → ℕ → Held P → ℕ
before_of n held = cond (held.round == n) held.last 0

-- how the act left its place is among the lefts of the place
abbrev pub IsAmong : {P : Type 0} → (ℕ → List P) → Noted P → Type 0
IsAmong lefts x = Contains (lefts x.place) x.left

-- nothing was done in a round
abbrev pub IsNew : {P : Type 0} → Held P → Type 0
IsNew held = (held.round ≡ 0) × (held.last ≡ 0)

module _ {P V : Type 0} (touch : V → ActorId → Op → Reply × V) (value : P → V) (made : P → Type 0) where
  -- in the round n these entries lead from how the place stood at first to how it stands now
  pub record Leads (n : ℕ) (first : Held P) (es : List Entry) (now : Held P) : Type 0 where
    pub history : IsHistory touch first.id (value first.place) es (value now.place)
    pub last : IsLast (before_of n now) es
    pub id : now.id ≡ first.id
    pub old : now.round ≤ n
    pub stays : made first.place → made now.place

  -- as much of the place i, which is made if an act left it so
  abbrev pub IsAt : Round P → List Entry → List P → ℕ → Held P → Type 0
  IsAt r es lefts i now =
      (first : Held P) × (get_elem? r.opens i ≡ maybe.some first) × Leads r.number first es now
      × All (λ (left : P). made left → made now.place) lefts

  -- nobody has the place i, and it is at home; or this seat has it. There were so many acts before the round
  abbrev pub Stands : Round P → State (Held P) (View P) → ℕ → List Entry → List P → ℕ → maybe.Option ℕ → Type 0
  Stands r s base es lefts i maybe.none =
      (get_elem? s.words i ≡ maybe.some (2 * (base + length es)))
      × ((now : Held P) × (get_elem? s.homes i ≡ maybe.some (maybe.some now)) × IsAt r es lefts i now)
  Stands r s base es lefts i (maybe.some id) =
      (get_elem? s.words i ≡ maybe.some (2 * (base + length es) + 1))
      × ((v : View P) × (t : Turn P) × (get_elem? s.views id ≡ maybe.some v) × (v.turn ≡ Some t) × (t.place ≡ i))

  -- a turn is its seat's, who knows the count and what was found
  abbrev pub Fits : Round P → (ℕ → ℕ) → (ℕ → List Entry) → (ℕ → List P) → (ℕ → maybe.Option ℕ) → ℕ → View P → Option (Turn P)
      → Type 0
  Fits r base history lefts who id v None = Unit {0}
  Fits r base history lefts who id v (Some t) =
      (0 < v.parts) × (who t.place ≡ maybe.some id) × (t.index ≡ base t.place + length (history t.place))
      × IsAt r (history t.place) (lefts t.place) t.place t.held

  -- Who has parts knows the round. For each place there are a history, which the seats have noted between them, how its acts left it,
  -- and who has it
  pub record IsKept (parts : ℕ) (s : State (Held P) (View P)) : Type 0 where
    pub round : Round P
    pub base : ℕ → ℕ
    pub history : ℕ → List Entry
    pub lefts : ℕ → List P
    pub who : ℕ → maybe.Option ℕ
    pub words : length s.words ≡ length round.opens
    pub homes : length s.homes ≡ length round.opens
    pub places : (i : ℕ) → i < length round.opens → Stands round s (base i) (history i) (lefts i) i (who i)
    pub turns : (id : ℕ) (v : View P) → get_elem? s.views id ≡ maybe.some v → Fits round base history lefts who id v v.turn
    pub left : (id : ℕ) (v : View P) → get_elem? s.views id ≡ maybe.some v → All (IsAmong lefts) v.entries
    pub room : (id : ℕ) (v : View P) → get_elem? s.views id ≡ maybe.some v → length v.entries ≤ 2 ^ 32 * v.parts
    pub knows : (id : ℕ) (v : View P) → get_elem? s.views id ≡ maybe.some v → 0 < v.parts → v.round ≡ round
    pub all : parts_of s.views ≡ parts
    pub few : parts < 2 ^ 16
    pub noted : (i : ℕ) → IsPermutation (all_at i s.views) (history i)
