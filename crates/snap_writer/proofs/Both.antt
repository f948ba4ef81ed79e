-- The runs of a create, one after another.
use Rattle.std.proofs.Common.{◌≡◌, ◌≢◌, ℕ, List, [], ◌∷◌, ◌++◌, Some, refl, sym, ap, ◌∙◌, append_assoc}
use Rattle.std.specs.FinMap.{get, insert}
use Rattle.vm_types.specs.Saved.{Saved, SameOthers}
use Rattle.vm_outside.specs.Calls.{FileCall, MakesFront}
use Rattle.vm_outside.specs.Known.{FilesKnown}
use Rattle.gate_file.specs.Gate.{fill_calls, open_calls}
use Rattle.gate_file.specs.Runs.{RunsAll, RunsPart}
use Rattle.gate_file.proofs.Inserts.{insert_twice, insert_swap, inserted_others}
use Rattle.gate_file.proofs.Steps.{front_then, front_more, there_after}
use Rattle.snap_writer.specs.Create.{memory_writes, create_calls, Creates, CreatesPart}

-- every name but two holds what it held
abbrev SameBut : List ℕ → List ℕ → FilesKnown → FilesKnown → Type 0
SameBut a b old new = (name : List ℕ) → name ≢ a → name ≢ b → get new.saved name ≡ get old.saved name

but_then : (a b : List ℕ) (old mid new : FilesKnown) → SameBut a b old mid → SameBut a b mid new → SameBut a b old new
but_then a b old mid new first second name na nb = second name na nb ∙ first name na nb

all_but : (name : List ℕ) (script : List FileCall) (text : List ℕ) (old new : FilesKnown) → RunsAll name script text old new → SameOthers old.saved name new.saved
all_but name script text old new runs = inserted_others old.saved new.saved name text runs.saved

joined : (o a b c d : List FileCall) → (((o ++ a) ++ b) ++ c) ++ d ≡ o ++ (a ++ (b ++ (c ++ d)))
joined o a b c d = append_assoc ((o ++ a) ++ b) c d ∙ append_assoc (o ++ a) b (c ++ d) ∙ append_assoc o a (b ++ (c ++ d))

module _ (memory head bytes state body : List ℕ) (differ : memory ≢ state) where
  abbrev rest : List ℕ
  rest = head ++ bytes

  abbrev fill_m : List FileCall
  fill_m = fill_calls memory (memory_writes head bytes) rest

  abbrev fill_s : List FileCall
  fill_s = fill_calls state ((1, body) ∷ []) body

  abbrev open_m : List FileCall
  open_m = open_calls memory rest

  abbrev open_s : List FileCall
  open_s = open_calls state body

  other : state ≢ memory
  other same = differ (sym same)

  script_is : create_calls memory head bytes state body ≡ fill_m ++ (fill_s ++ (open_m ++ open_s))
  unfolding create_calls
  script_is = refl

  parted : (old new : FilesKnown) → SameBut memory state old new → MakesFront (fill_m ++ (fill_s ++ (open_m ++ open_s))) old.calls new.calls → CreatesPart memory head bytes state body old new
  unfolding create_calls
  parted old new others calls = record { others = others; calls = calls }

  pub memory_fails : (old new : FilesKnown) → RunsPart memory fill_m old new → CreatesPart memory head bytes state body old new
  memory_fails old new part = parted old new (λ name nm ns. part.others name nm) (front_more fill_m (fill_s ++ (open_m ++ open_s)) old.calls new.calls part.calls)

  module _ (old one : FilesKnown) (first : RunsAll memory fill_m (0 ∷ rest) old one) where
    but_one : SameBut memory state old one
    but_one name nm ns = all_but memory fill_m (0 ∷ rest) old one first name nm

    pub state_fails : (new : FilesKnown) → RunsPart state fill_s one new → CreatesPart memory head bytes state body old new
    state_fails new part = parted old new (but_then memory state old one new but_one (λ name nm ns. part.others name ns))
        (front_then fill_m (fill_s ++ (open_m ++ open_s)) old.calls one.calls new.calls first.calls (front_more fill_s (open_m ++ open_s) one.calls new.calls part.calls))

    module _ (two : FilesKnown) (second : RunsAll state fill_s (0 ∷ body) one two) where
      but_two : SameBut memory state old two
      but_two = but_then memory state old one two but_one (λ name nm ns. all_but state fill_s (0 ∷ body) one two second name ns)

      pub memory_closed : get two.saved memory ≡ Some (0 ∷ rest)
      memory_closed = all_but state fill_s (0 ∷ body) one two second memory differ ∙ there_after memory fill_m (0 ∷ rest) old one first

      pub memory_stays_closed : (new : FilesKnown) → RunsPart memory open_m two new → CreatesPart memory head bytes state body old new
      memory_stays_closed new part = parted old new (but_then memory state old two new but_two (λ name nm ns. part.others name nm))
          (front_then fill_m (fill_s ++ (open_m ++ open_s)) old.calls one.calls new.calls first.calls
          (front_then fill_s (open_m ++ open_s) one.calls two.calls new.calls second.calls (front_more open_m open_s two.calls new.calls part.calls)))

      module _ (three : FilesKnown) (third : RunsAll memory open_m (1 ∷ rest) two three) where
        but_three : SameBut memory state old three
        but_three = but_then memory state old two three but_two (λ name nm ns. all_but memory open_m (1 ∷ rest) two three third name nm)

        pub state_closed : get three.saved state ≡ Some (0 ∷ body)
        state_closed = all_but memory open_m (1 ∷ rest) two three third state other ∙ there_after state fill_s (0 ∷ body) one two second

        pub state_stays_closed : (new : FilesKnown) → RunsPart state open_s three new → CreatesPart memory head bytes state body old new
        state_stays_closed new part = parted old new (but_then memory state old three new but_three (λ name nm ns. part.others name ns))
            (front_then fill_m (fill_s ++ (open_m ++ open_s)) old.calls one.calls new.calls first.calls
            (front_then fill_s (open_m ++ open_s) one.calls two.calls new.calls second.calls
            (front_then open_m open_s two.calls three.calls new.calls third.calls part.calls)))

        pub created : (new : FilesKnown) → RunsAll state open_s (1 ∷ body) three new → Creates memory head bytes state body old new
        created new fourth =
            let closed_memory : Saved = insert old.saved memory (0 ∷ rest) in
            let both : two.saved ≡ insert closed_memory state (0 ∷ body) = second.saved ∙ ap (λ (m : Saved). insert m state (0 ∷ body)) first.saved in
            let open_memory : three.saved ≡ insert (insert old.saved memory (1 ∷ rest)) state (0 ∷ body) =
            third.saved ∙ ap (λ (m : Saved). insert m memory (1 ∷ rest)) (both ∙ insert_swap old.saved memory (0 ∷ rest) state (0 ∷ body) differ)
            ∙ insert_twice (insert old.saved state (0 ∷ body)) memory (0 ∷ rest) (1 ∷ rest)
            ∙ sym (insert_swap old.saved memory (1 ∷ rest) state (0 ∷ body) differ) in
            record {
              saved = fourth.saved ∙ ap (λ (m : Saved). insert m state (1 ∷ body)) open_memory ∙ insert_twice (insert old.saved memory (1 ∷ rest)) state (0 ∷ body) (1 ∷ body);
              calls = fourth.calls ∙ ap (λ (l : List FileCall). l ++ open_s) (third.calls ∙ ap (λ (l : List FileCall). l ++ open_m) (second.calls ∙ ap (λ (l : List FileCall). l ++ fill_s) first.calls))
                  ∙ joined old.calls fill_m fill_s open_m open_s
                  ∙ ap (λ (l : List FileCall). old.calls ++ l) (sym script_is);
            }
