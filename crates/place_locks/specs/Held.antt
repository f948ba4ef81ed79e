-- What an act under a lock is written down as, and what the lock keeps.
use Rattle.std.specs.Prelude.{ℕ, ◌≡◌, ◌+◌, ◌≤◌, ◌^◌, max, List, length}
use Rattle.std.specs.List.{AllByRecursion}
use Rattle.vm_types.specs.declared.ids.ActorId.{ActorId}
use Rattle.vm_types.specs.declared.ids.PlaceId.{PlaceId}
use Rattle.vm_types.specs.declared.op.Op.{Op}
use Rattle.vm_types.specs.declared.reply.Reply.{Reply}
use Rattle.vm_types.specs.declared.entry.Entry.{Entry}
use Rattle.vm_types.specs.Histories.{Replays, Rises, last_stamp}

-- the entry is of this actor, place and op, and has the next stamp after the actor's clock and the place's last
pub record IsEntryOf (e : Entry) (actor : ActorId) (place : PlaceId) (op : Op) (clock : ℕ) : Type 0 where
  pub actor_is : e.actor ≡ actor
  pub place_is : e.place ≡ place
  pub op_is : e.op ≡ op
  pub stamp_is : e.stamp ≡ 1 + max clock e.before

-- the history is of this place alone, its stamps rise, and with its replies it leads from the value v to the value w
pub record IsHistory {V : Type 0} (touch : V → ActorId → Op → Reply × V)
    (place : PlaceId) (v : V) (history : List Entry) (w : V) : Type 0 where
  pub replays : Replays touch v history w
  pub rises : Rises 0 history
  pub own : AllByRecursion (λ (e : Entry). e.place ≡ place) history

-- this is the last stamp of the history, and leaves room for more stamps
pub record IsLast (last : ℕ) (history : List Entry) : Type 0 where
  pub is : last ≡ last_stamp 0 history
  pub low : last ≤ 2 ^ 63 + length history
