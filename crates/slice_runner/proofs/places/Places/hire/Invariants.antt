use Rattle.std.proofs.Common.{ℕ, ◌≡◌, ◌+◌, ◌≤◌, ◌++◌, [], length, vec_len, vec_capacity, All}
use Rattle.std.specs.Vec.Iter.{into_iter_items, into_iter_len}
use Rattle.slice_runner.specs.Runs.{Begins}
use Rattle.slice_runner.specs.Seats.{IsBare, IsSeatedIn}
use Rattle.slice_runner.specs.Staff.{AreNumbered, passes_of}
use Rattle.slice_runner.proofs.places.Places.hire.Given as goal

abbrev pub invariant-loop-number : goal.invariant-loop-number
invariant-loop-number g l = record {
  seat : IsBare l.self l.seat;
  parts : l.seat.me.0.parts + l.number ≡ l.fn.seat.me.0.parts;
  round : l.seat.me.0.round ≡ l.fn.seat.me.0.round;
  sit : All (λ t. IsSeatedIn l.self l.fn.seat.me.0.round t.work) l.tracks.items;
  passes : passes_of l.tracks.items ++ into_iter_items l.rest ≡ l.fn.passes.items;
  numbered : AreNumbered l.harts 0 l.tracks.items;
  begin : (n blanks : ℕ) → All (λ journal. n ≤ vec_capacity journal) l.fn.room.blank.items
      → All (λ pool. length pool.items ≡ blanks) l.fn.room.pools.items → All (λ t. Begins n blanks t) l.tracks.items;
  number : l.number ≡ length l.tracks.items;
  passes_left : l.actors ≤ l.number + length (into_iter_items l.rest);
  fewer : length (into_iter_items l.rest) ≤ length l.fn.passes.items;
  journals : length l.journals.items + l.number ≡ l.actors;
  blank : All (λ journal. journal.items ≡ []) l.journals.items;
  hold : (n : ℕ) → All (λ journal. n ≤ vec_capacity journal) l.fn.room.blank.items → All (λ journal. n ≤ vec_capacity journal) l.journals.items;
  pools : length l.pools.items + l.number ≡ l.actors;
  filled : (blanks : ℕ) → All (λ pool. length pool.items ≡ blanks) l.fn.room.pools.items → All (λ pool. length pool.items ≡ blanks) l.pools.items;
  room : l.actors ≤ vec_capacity l.tracks;
}

abbrev pub invariant-loop-pass : goal.invariant-loop-pass
invariant-loop-pass g l = record {
  passes : passes_of l.tracks.items ++ (l.left.items ++ into_iter_items l.rest) ≡ l.fn.passes.items;
  room : vec_len l.left + length (into_iter_items l.rest) ≤ vec_capacity l.left;
}

abbrev pub decreases-loop-pass : goal.decreases-loop-pass
decreases-loop-pass g l = into_iter_len l.rest
