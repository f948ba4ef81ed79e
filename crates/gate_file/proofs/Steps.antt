-- One call more in a run of calls on one file.
use Rattle.std.proofs.Common.{◌-◌, take, drop, replicate, subst, ◌≡◌, ◌≢◌, ℕ, ◌+◌, ◌==◌, Bool, false, cond, List, [], ◌∷◌, ◌++◌, length, Option, Some, Result, Ok, Err, inl, inr, refl, sym, ◌∙◌, ap, arith, append_assoc}
use Rattle.std.proofs.lemmas.List.{append-nil, drop_all, take_at}
use Rattle.std.proofs.lemmas.Bool.{ne_eqb}
use Rattle.std.specs.Prelude.{OnErr}
use Rattle.std.specs.FinMap.{get, insert}
use Rattle.vm_types.specs.Saved.{Saved, SameOthers, overwritten, written}
use Rattle.vm_outside.specs.Calls.{FileCall, MakesFront, MayBegin}
use Rattle.vm_outside.specs.Calls.FileCall.{Making, Made, Writing, Synced}
use Rattle.vm_outside.specs.Filing.{MakesFile, MayChange, SameFiles, Syncs, WritesAt}
use Rattle.vm_outside.specs.Known.{FilesKnown}
use Rattle.gate_file.specs.Runs.{RunsAll, RunsPart}
use Rattle.gate_file.proofs.Inserts.{got_there, insert_twice, insert_same, inserted_others}

same_some : (x y : List ℕ) → ◌≡◌ {A = Option (List ℕ)} (Some x) (Some y) → x ≡ y
same_some x y same = cc

-- what holds anyhow holds of an `Err`
pub on_err : {T E : Type 0} (r : Result T E) (P : Type 0) → P → OnErr r P
on_err (Ok value) P holds = tt
on_err (Err why) P holds = holds

-- ---- fronts of a script

pub not_empty : (call : FileCall) (calls : List FileCall) → call ∷ calls ≢ []
not_empty call calls is = cc

pub some_end : (calls : List FileCall) (last : FileCall) → calls ++ last ∷ [] ≢ []
some_end [] last is = cc
some_end (call ∷ calls) last is = cc

more_left : (rest after : List FileCall) → rest ≢ [] → rest ++ after ≢ []
more_left [] after lacks is = lacks refl
more_left (call ∷ rest) after lacks is = cc

pub front_then : (a b c0 c1 c2 : List FileCall) → c1 ≡ c0 ++ a → MakesFront b c1 c2 → MakesFront (a ++ b) c0 c2
front_then a b c0 c1 c2 all front = record {
  done = a ++ front.done;
  rest = front.rest;
  parts = append_assoc a front.done front.rest ∙ ap (λ (l : List FileCall). a ++ l) front.parts;
  lacks = front.lacks;
  calls = front.calls ∙ ap (λ (l : List FileCall). l ++ front.done) all ∙ append_assoc c0 a front.done;
}

pub front_more : (a b c0 c1 : List FileCall) → MakesFront a c0 c1 → MakesFront (a ++ b) c0 c1
front_more a b c0 c1 front = record {
  done = front.done;
  rest = front.rest ++ b;
  parts = sym (append_assoc front.done front.rest b) ∙ ap (λ (l : List FileCall). l ++ b) front.parts;
  lacks = more_left front.rest b front.lacks;
  calls = front.calls;
}

front_none : (call : FileCall) (calls c0 c1 : List FileCall) → c1 ≡ c0 → MakesFront (call ∷ calls) c0 c1
front_none call calls c0 c1 is = record {
  done = [];
  rest = call ∷ calls;
  parts = refl;
  lacks = not_empty call calls;
  calls = is ∙ sym (append-nil c0);
}

front_begun : (call : FileCall) (rest c0 c1 : List FileCall) → rest ≢ [] → MayBegin c0 call c1 → MakesFront (call ∷ rest) c0 c1
front_begun call rest c0 c1 more (inl none) = front_none call rest c0 c1 none
front_begun call rest c0 c1 more (inr one) = record { done = call ∷ []; rest = rest; parts = refl; lacks = more; calls = one }

-- ---- bytes that are written

none_over : (t : List ℕ) → take (length t) (t ++ replicate (length t - length t) 0) ≡ t
none_over t =
    let none : length t - length t ≡ 0 = omega arith in
    ap (λ (k : ℕ). take (length t) (t ++ replicate k 0)) none ∙ take_at t [] (length t) refl

-- bytes that are written at the end
pub written_end : (t bytes : List ℕ) → written t (length t) bytes ≡ t ++ bytes
written_end t [] = sym (append-nil t)
written_end t (b ∷ bs) =
    let some : (length (b ∷ bs) == 0) ≡ false = ne_eqb (length (b ∷ bs)) 0 (λ none. omega arith) in
    ap (λ (k : Bool). cond k t (overwritten t (length t) (b ∷ bs))) some
    ∙ ap (λ (l : List ℕ). l ++ (b ∷ bs) ++ drop (length t + length (b ∷ bs)) t) (none_over t)
    ∙ ap (λ (l : List ℕ). t ++ (b ∷ bs) ++ l) (drop_all (length t + length (b ∷ bs)) t (omega arith))
    ∙ append-nil (t ++ (b ∷ bs))

-- ---- runs

module _ (name : List ℕ) where
  pub there_after : (script : List FileCall) (text : List ℕ) (old new : FilesKnown) → RunsAll name script text old new → get new.saved name ≡ Some text
  there_after script text old new runs = ap (λ (m : Saved). get m name) runs.saved ∙ got_there old.saved name text

  others_after : (script : List FileCall) (text : List ℕ) (old mid new : FilesKnown) → RunsAll name script text old mid → SameOthers mid.saved name new.saved → SameOthers old.saved name new.saved
  others_after script text old mid new runs others other differs = others other differs ∙ inserted_others old.saved mid.saved name text runs.saved other differs

  pub runs_none : (text : List ℕ) (old : FilesKnown) → get old.saved name ≡ Some text → RunsAll name [] text old old
  runs_none text old there = record { saved = sym (insert_same old.saved name text there); calls = sym (append-nil old.calls) }

  pub runs_then : (a b : List FileCall) (t u : List ℕ) (old mid new : FilesKnown) → RunsAll name a t old mid → RunsAll name b u mid new → RunsAll name (a ++ b) u old new
  runs_then a b t u old mid new first second = record {
    saved = second.saved ∙ ap (λ (m : Saved). insert m name u) first.saved ∙ insert_twice old.saved name t u;
    calls = second.calls ∙ ap (λ (l : List FileCall). l ++ b) first.calls ∙ append_assoc old.calls a b;
  }

  pub part_then : (a b : List FileCall) (t : List ℕ) (old mid new : FilesKnown) → RunsAll name a t old mid → RunsPart name b mid new → RunsPart name (a ++ b) old new
  part_then a b t old mid new first second = record {
    others = others_after a t old mid new first second.others;
    calls = front_then a b old.calls mid.calls new.calls first.calls second.calls;
  }

  pub part_more : (a b : List FileCall) (old new : FilesKnown) → RunsPart name a old new → RunsPart name (a ++ b) old new
  part_more a b old new part = record { others = part.others; calls = front_more a b old.calls new.calls part.calls }

  pub make_runs : (old new : FilesKnown) → MakesFile old name new → RunsAll name (Making name ∷ Made name ∷ []) [] old new
  make_runs old new made = record { saved = made.saved; calls = made.calls }

  pub write_runs : (text : List ℕ) (at : ℕ) (bytes : List ℕ) (old new : FilesKnown) → get old.saved name ≡ Some text → WritesAt old name at bytes new
      → RunsAll name (Writing name at bytes ∷ []) (written text at bytes) old new
  write_runs text at bytes old new there wrote =
      let same : wrote.content ≡ text = same_some wrote.content text (sym wrote.there ∙ there) in record {
        saved = wrote.saved ∙ ap (λ (l : List ℕ). insert old.saved name (written l at bytes)) same;
        calls = wrote.calls;
      }

  pub sync_runs : (text : List ℕ) (old new : FilesKnown) → get old.saved name ≡ Some text → Syncs old name new → RunsAll name (Synced name (Some text) ∷ []) text old new
  sync_runs text old new there synced = record {
    saved = synced.saved ∙ sym (insert_same old.saved name text there);
    calls = synced.calls ∙ ap (λ (o : Option (List ℕ)). old.calls ++ Synced name o ∷ []) there;
  }

  -- a make or a write that failed, with calls after it in the script
  pub call_part : (call : FileCall) (rest : List FileCall) (old new : FilesKnown) → rest ≢ [] → MayChange old name call new → RunsPart name (call ∷ rest) old new
  call_part call rest old new more change = record {
    others = change.others;
    calls = front_begun call rest old.calls new.calls more change.calls;
  }

  pub sync_part : (call : FileCall) (rest : List FileCall) (old new : FilesKnown) → SameFiles old new → RunsPart name (call ∷ rest) old new
  sync_part call rest old new same = record {
    others = λ other differs. ap (λ (m : Saved). get m other) same.saved;
    calls = front_none call rest old.calls new.calls same.calls;
  }

  pub same_runs : (a b : List FileCall) (t u : List ℕ) (old new : FilesKnown) → a ≡ b → t ≡ u → RunsAll name a t old new → RunsAll name b u old new
  same_runs a b t u old new calls text runs = record {
    saved = runs.saved ∙ ap (insert old.saved name) text;
    calls = runs.calls ∙ ap (λ (l : List FileCall). old.calls ++ l) calls;
  }

  pub same_part : (a b : List FileCall) (old new : FilesKnown) → a ≡ b → RunsPart name a old new → RunsPart name b old new
  same_part a b old new calls part = subst (λ (l : List FileCall). RunsPart name l old new) calls part
