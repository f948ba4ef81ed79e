use Rattle.std.proofs.Common.{◌≡◌, ◌≤◌, [], vec_len, vec_capacity, All}
use Rattle.slice_runner.proofs.room.blank_journals.Given as goal

abbrev pub invariant-loop-journal : goal.invariant-loop-journal
invariant-loop-journal l = record {
  made : vec_len l.blank ≡ l._journal;
  room : l.count ≤ vec_capacity l.blank;
  blank : All (λ journal. journal.items ≡ []) l.blank.items;
  entries : All (λ journal. l.n ≤ vec_capacity journal) l.blank.items;
}
