-- What an act in a turn does to what lies in the slot.
use Rattle.std.specs.Prelude.{ℕ, ◌≡◌}
use mathlib.Core.Option.{some}
use lib.ListN.{get_elem?}
use Rattle.vm_types.specs.declared.ids.ActorId.{ActorId}
use Rattle.vm_types.specs.declared.op.Op.{Op}
use Rattle.vm_types.specs.declared.reply.Reply.{Reply}
use Rattle.vm_types.specs.declared.entry.Entry.{Entry}
use Rattle.place_locks.specs.Held.{IsEntryOf}
use Rattle.turn_table.specs.declared.held.Held.{Held}
use Rattle.turn_table.specs.declared.view.View.{View}
use Rattle.turn_table.specs.Rule.{before_of}

-- the entry of an act on the place at this index has the id that was given there
abbrev pub IsEntryAt : {P : Type 0} → View P → ℕ → Entry → ActorId → Op → ℕ → Type 0
IsEntryAt {P} v i e actor op clock =
    (first : Held P) × (get_elem? v.round.opens i ≡ some first) × IsEntryOf e actor first.id op clock

-- in the round n the slot's place was acted on, and this is the entry
pub record IsActed {P V : Type 0} (touch : V → ActorId → Op → Reply × V) (value : P → V) (made : P → Type 0)
    (n : ℕ) (e : Entry) (found left : Held P) : Type 0 where
  pub replied : e.reply ≡ (touch (value found.place) e.actor e.op).0
  pub became : value left.place ≡ (touch (value found.place) e.actor e.op).1
  pub earlier : e.before ≡ before_of n found
  pub stamp : left.last ≡ e.stamp
  pub round : left.round ≡ n
  pub place : e.place ≡ found.id
  pub id : left.id ≡ found.id
  pub noted : left.noted.value ≡ e
  pub stays : made found.place → made left.place
