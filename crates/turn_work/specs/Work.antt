-- What an actor at work has noted and written down.
use Rattle.std.specs.Prelude.{ℕ, ◌≡◌, ◌+◌, ◌<◌, ◌≤◌, false, List, [], ◌∷◌, ◌++◌, map, length, vec_capacity}
use Rattle.std.specs.List.{AllByRecursion}
use mathlib.Core.Option.{some}
use lib.ListN.{get_elem?}
use Rattle.atomic_table.specs.Seated.{TableId}
use Rattle.vm_types.specs.declared.entry.Entry.{Entry}
use Rattle.vm_types.specs.declared.ids.ActorId.{ActorId}
use Rattle.vm_types.specs.declared.ids.PlaceId.{PlaceId}
use Rattle.vm_types.specs.declared.op.Op.{Op}
use Rattle.vm_types.specs.declared.reply.Reply.{Reply}
use Rattle.vm_types.specs.Ids.{is_out}
use Rattle.turn_table.specs.declared.held.Held.{Held}
use Rattle.turn_table.specs.declared.view.Noted.{Noted}
use Rattle.turn_table.specs.declared.view.Round.{Round}
use Rattle.turn_table.specs.declared.view.View.{View}
use Rattle.turn_table.specs.Steps.{IsReady}
use Rattle.turn_law.specs.Rounds.{AreIndexed, entry_of, placed}
use Rattle.turn_work.specs.declared.worker.Worker.{Worker}

-- the places of the round are at their indices, and each of them is one
abbrev pub AreNamed : {P : Type 0} → (PlaceId → ℕ) → Round P → Type 0
AreNamed {P} index round =
    (i : ℕ) (held : Held P) → get_elem? round.opens i ≡ some held → (index held.id ≡ i) × (is_out held.id ≡ false)

-- in this round, of these entries just those that have a place were noted, each at the index of its place
pub record HasNoted {P : Type 0} (round : Round P) (index : PlaceId → ℕ) (v : View P) (es : List Entry) : Type 0 where
  pub round_is : v.round ≡ round
  pub same : map entry_of v.entries ≡ placed es
  pub indexed : AreIndexed index v.entries
  pub inside : AllByRecursion (λ (x : Noted P). x.place < length round.opens) v.entries

-- its seat may act, and has one part and no more entries than the journal
pub record IsAtWork {P : Type 0} (table : TableId) (n : ℕ) (w : Worker P) : Type 0 where
  pub ready : IsReady table n w.seat
  pub one : w.seat.me.0.parts ≡ 1
  pub few : length w.seat.me.0.entries ≤ length w.journal.items

-- the entry is written down, and is its last
pub record HasWritten {P : Type 0} (e : Entry) (before after : Worker P) : Type 0 where
  pub actor : after.actor ≡ before.actor
  pub clock : after.clock ≡ e.stamp
  pub journal : after.journal.items ≡ before.journal.items ++ e ∷ []
  pub room : vec_capacity after.journal ≡ vec_capacity before.journal

-- the entry of an act with no place, behind this last stamp
pub record IsOutEntry (e : Entry) (actor : ActorId) (op : Op) (reply : Reply) (clock : ℕ) : Type 0 where
  pub actor_is : e.actor ≡ actor
  pub place_is : e.place ≡ PlaceId.Out
  pub op_is : e.op ≡ op
  pub reply_is : e.reply ≡ reply
  pub stamp_is : e.stamp ≡ clock + 1
  pub before_is : e.before ≡ 0
