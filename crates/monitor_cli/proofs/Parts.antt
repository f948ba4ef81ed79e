-- A sink that takes a front of a text.
use Rattle.std.proofs.Common.{◌≡◌, ◌≢◌, ◌≤◌, ◌<◌, ◌+◌, ◌⊎◌, inl, inr, ℕ, List, [], ◌++◌, length, take, drop, Result, Ok, Err, take-append-drop, length-drop, refl, sym, ap, subst, ◌∙◌, append_assoc, arith}
use Rattle.std.proofs.lemmas.List.{append-nil}
use Rattle.vm_types.specs.Causes.{Rose}
use Rattle.vm_types.specs.declared.exit.Exit.{Exit}
use Rattle.vm_types.specs.declared.exit.Object.TheVariants as object
use Rattle.vm_outside.specs.Known.{Called, SinkKnown}
use Rattle.vm_outside.specs.Passing.{TakesAll, TakesPart}
use Rattle.vm_outside.proofs.Parts.{all_behind}
use Rattle.responses.specs.Output.{last_line}
use Rattle.monitor_cli.specs.Known.{SinkCause}
use Rattle.monitor_cli.specs.Taking.{IsQuiet, TookFront, TookText}

not_empty : (l : List ℕ) → 0 < length l → l ≢ []
not_empty l some is = absurd (omega (arith, some, ap length is))

-- fewer bytes than there are
pub took_front : (bytes text before taken : List ℕ) → bytes ≡ text → TakesPart before taken bytes → TookFront text before taken
took_front bytes text before taken is took = record {
  front = take took.0 bytes;
  rest = drop took.0 bytes;
  took = took.2;
  parts = take-append-drop took.0 bytes ∙ is;
  lacks = not_empty (drop took.0 bytes) (omega (arith, took.1, length-drop took.0 bytes));
}

-- a last line behind the answers, where the sink's count had not risen before
record LastTook (line text : List ℕ) (before now : SinkKnown) : Type 0 where
  part : List ℕ
  rest : List ℕ
  took : now.taken ≡ before.taken ++ part
  parts : part ++ rest ≡ text
  short : length rest ≤ length line
  cause : ((rest ≡ []) × (now.health.faults ≡ before.health.faults)) ⊎ ((rest ≢ []) × Rose before.health.faults now.health.faults)

last_took : (line : List ℕ) (before mid now : SinkKnown) (answers : List ℕ) {E : Type 0} (result : Result (Unit {0}) E) → mid.taken ≡ before.taken ++ answers → mid.health.faults ≡ before.health.faults
    → TakesAll mid.taken now.taken result line → Called mid.health now.health result → LastTook line (answers ++ line) before now
last_took line before mid now answers (Ok u) took same all called = record {
  part = answers ++ line;
  rest = [];
  took = all_behind before.taken mid.taken now.taken answers line took all;
  parts = append-nil (answers ++ line);
  short = omega arith;
  cause = inl (refl, called.kept ∙ same);
}
last_took line before mid now answers (Err e) took same part called = record {
  part = answers ++ take part.0 line;
  rest = drop part.0 line;
  took = all_behind before.taken mid.taken now.taken answers (take part.0 line) took part.2;
  parts = append_assoc answers (take part.0 line) (drop part.0 line) ∙ ap (λ (l : List ℕ). answers ++ l) (take-append-drop part.0 line);
  short = omega (arith, length-drop {A = ℕ});
  cause = inr (not_empty (drop part.0 line) (omega (arith, part.1, length-drop part.0 line)), omega (arith, same, called.failed));
}

module _ (before mid now : SinkKnown) (answers : List ℕ) {E : Type 0} (result : Result (Unit {0}) E) (took : mid.taken ≡ before.taken ++ answers) where
  by_last : (exit : Exit) → mid.health.faults ≡ before.health.faults → TakesAll mid.taken now.taken result (last_line exit) → Called mid.health now.health result → LastTook (last_line exit) (answers ++ last_line exit) before now
  by_last exit same takes called = last_took (last_line exit) before mid now answers result took same takes called

  pub told_text : (exit : Exit) → SinkCause exit before.health.faults mid.health.faults → (IsQuiet exit → now ≡ mid) → TakesAll mid.taken now.taken result (last_line exit) → Called mid.health now.health result → TookText exit (answers ++ last_line exit) before now
  told_text (Exit.Fault object.Sink) cause quiet takes called =
      let same = quiet tt in
      record {
        part = answers;
        rest = [];
        took = ap (λ (s : SinkKnown). s.taken) same ∙ took;
        parts = refl;
        short = omega arith;
        cause = (refl, subst (λ (s : SinkKnown). Rose before.health.faults s.health.faults) (sym same) cause);
      }
  told_text (Exit.Fault object.Source) same quiet takes called =
      let t = by_last (Exit.Fault object.Source) same takes called in
      record { part = t.part; rest = t.rest; took = t.took; parts = t.parts; short = t.short; cause = t.cause }
  told_text (Exit.Fault object.Files) same quiet takes called =
      let t = by_last (Exit.Fault object.Files) same takes called in
      record { part = t.part; rest = t.rest; took = t.took; parts = t.parts; short = t.short; cause = t.cause }
  told_text (Exit.Fault object.Trace) same quiet takes called =
      let t = by_last (Exit.Fault object.Trace) same takes called in
      record { part = t.part; rest = t.rest; took = t.took; parts = t.parts; short = t.short; cause = t.cause }
  told_text (Exit.Fault object.Listener) same quiet takes called =
      let t = by_last (Exit.Fault object.Listener) same takes called in
      record { part = t.part; rest = t.rest; took = t.took; parts = t.parts; short = t.short; cause = t.cause }
  told_text (Exit.Fault object.Words) same quiet takes called =
      let t = by_last (Exit.Fault object.Words) same takes called in
      record { part = t.part; rest = t.rest; took = t.took; parts = t.parts; short = t.short; cause = t.cause }
  told_text Exit.Done same quiet takes called =
      let t = by_last Exit.Done same takes called in
      record { part = t.part; rest = t.rest; took = t.took; parts = t.parts; short = t.short; cause = t.cause }
  told_text Exit.Usage same quiet takes called =
      let t = by_last Exit.Usage same takes called in
      record { part = t.part; rest = t.rest; took = t.took; parts = t.parts; short = t.short; cause = t.cause }
  told_text (Exit.Script line) same quiet takes called =
      let t = by_last (Exit.Script line) same takes called in
      record { part = t.part; rest = t.rest; took = t.took; parts = t.parts; short = t.short; cause = t.cause }
  told_text Exit.OutOfMemory same quiet takes called =
      let t = by_last Exit.OutOfMemory same takes called in
      record { part = t.part; rest = t.rest; took = t.took; parts = t.parts; short = t.short; cause = t.cause }
