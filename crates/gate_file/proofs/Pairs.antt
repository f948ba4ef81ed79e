-- Both files, behind a front of a create's calls.
use Rattle.std.proofs.Common.{◌≡◌, ◌≢◌, ◌⊎◌, ℕ, List, ◌∷◌, ◌++◌, Some, inl, inr, ⊎_elim, refl, sym, ◌∙◌, ap, subst, arith, append_assoc}
use Rattle.vm_outside.specs.Calls.{FileCall}
use Rattle.vm_outside.specs.Crashes.{Disk, Images, Left, NoFile}
use Rattle.gate_file.specs.Stages.{Moment}
use Rattle.gate_file.proofs.Staging.{AreOn, in_other, left_then, on_front}
use Rattle.gate_file.specs.Moments.{AreBehind}
use Rattle.gate_file.specs.Gate.{fill_calls, open_calls}
use Rattle.gate_file.specs.Pairs.{PairLeaves, Target, both_filled, pair_calls, text_of}
use Rattle.gate_file.proofs.Fronts.{fill_front, filled, front_of, on_fill, on_open, open_front, opened, shut_closed}

module _ (before : List FileCall) (memory state : Target) (differ : memory.name ≢ state.name) where
  abbrev A : List FileCall
  A = fill_calls memory.name memory.writes memory.rest

  abbrev B : List FileCall
  B = fill_calls state.name state.writes state.rest

  abbrev C : List FileCall
  C = open_calls memory.name memory.rest

  abbrev D : List FileCall
  D = open_calls state.name state.rest

  abbrev P : Disk → Type 0
  P = Images before

  on_memory : (done more : List FileCall) → done ++ more ≡ A → AreOn memory.name done
  on_memory done more is = on_front memory.name done more (subst (AreOn memory.name) (sym is) (on_fill memory.name memory.writes memory.rest))

  on_state : (done more : List FileCall) → done ++ more ≡ B → AreOn state.name done
  on_state done more is = on_front state.name done more (subst (AreOn state.name) (sym is) (on_fill state.name state.writes state.rest))

  on_C : (done more : List FileCall) → done ++ more ≡ C → AreOn memory.name done
  on_C done more is = on_front memory.name done more (subst (AreOn memory.name) (sym is) (on_open memory.name memory.rest))

  on_D : (done more : List FileCall) → done ++ more ≡ D → AreOn state.name done
  on_D done more is = on_front state.name done more (subst (AreOn state.name) (sym is) (on_open state.name state.rest))

  -- a name that a run doesn't touch
  away : (Q : Disk → Type 0) (name other : List ℕ) → other ≢ name → (done : List FileCall) → AreOn name done → (d : Disk) → Left Q done d → (old : Disk) × Q old × (d other ≡ old other)
  away Q name other differs done on d left = in_other name Q other differs done on d left

  -- after all of A the memory file is closed, after B the state file too
  closed_memory : (d : Disk) → Left P A d → d memory.name ≡ Some (0 ∷ memory.rest)
  closed_memory d left = filled memory.name P memory.writes memory.rest d left

  closed_both : (d : Disk) → Left (Left P A) B d → (d memory.name ≡ Some (0 ∷ memory.rest)) × (d state.name ≡ Some (0 ∷ state.rest))
  closed_both d left =
      let back = away (Left P A) state.name memory.name differ B (on_fill state.name state.writes state.rest) d left in
      (back.2 ∙ closed_memory back.0 back.1, filled state.name (Left P A) state.writes state.rest d left)

  whole_memory : (d : Disk) → Left (Left (Left P A) B) C d → (d memory.name ≡ Some (1 ∷ memory.rest)) × (d state.name ≡ Some (0 ∷ state.rest))
  whole_memory d left =
      let back = away (Left (Left P A) B) memory.name state.name (λ same. differ (sym same)) C (on_open memory.name memory.rest) d left in
      (opened memory.name (Left (Left P A) B) memory.rest d left, back.2 ∙ (closed_both back.0 back.1).1)

  -- ---- other names

  other_of : (name : List ℕ) → (name ≡ memory.name → ⊥) → (name ≡ state.name → ⊥) → (done : List FileCall)
      → (Q : Disk → Type 0) (on : List ℕ) → (on ≡ memory.name) ⊎ (on ≡ state.name) → AreOn on done → (d : Disk) → Left Q done d → (old : Disk) × Q old × (d name ≡ old name)
  other_of name first second done Q on (inl is) calls d left = in_other on Q name (λ same. first (same ∙ is)) done calls d left
  other_of name first second done Q on (inr is) calls d left = in_other on Q name (λ same. second (same ∙ is)) done calls d left

  back_to : (name : List ℕ) (Q R : Disk → Type 0) (d : Disk) → (old : Disk) × Q old × (d name ≡ old name) → ((e : Disk) → Q e → (old : Disk) × R old × (e name ≡ old name)) → (old : Disk) × R old × (d name ≡ old name)
  back_to name Q R d found more = let next = more found.0 found.1 in (next.0, next.1, found.2 ∙ next.2)

  -- ---- the four runs

  in_A : (done more : List FileCall) → AreBehind memory.writes → done ++ more ≡ A → (d : Disk) → Left P done d → PairLeaves before memory state done d
  in_A done more behind is d left = record {
    memory_file = ⊎_elim (λ old. inl old) (λ shut. inr (inl shut)) (fill_front memory.name P 2 memory.writes memory.rest (omega arith) behind done more is d left);
    state_file = inl (away P memory.name state.name (λ same. differ (sym same)) done (on_memory done more is) d left);
    others = λ name first second. other_of name first second done P memory.name (inl refl) (on_memory done more is) d left;
  }

  in_B : (done front more : List FileCall) → AreBehind state.writes → done ≡ A ++ front → front ++ more ≡ B → (d : Disk) → Left (Left P A) front d → PairLeaves before memory state done d
  in_B done front more behind whole is d left =
      let back = away (Left P A) state.name memory.name differ front (on_state front more is) d left in
      record {
        memory_file = inr (inl (shut_closed memory.name 2 (d memory.name) memory.rest (back.2 ∙ closed_memory back.0 back.1)));
        state_file = ⊎_elim
            (λ old. inl (back_to state.name (Left P A) P d old (λ e was. away P memory.name state.name (λ same. differ (sym same)) A (on_fill memory.name memory.writes memory.rest) e was)))
            (λ shut. inr (inl shut))
            (fill_front state.name (Left P A) 2 state.writes state.rest (omega arith) behind front more is d left);
        others = λ name first second.
            back_to name (Left P A) P d (other_of name first second front (Left P A) state.name (inr refl) (on_state front more is) d left)
            (λ e was. other_of name first second A P memory.name (inl refl) (on_fill memory.name memory.writes memory.rest) e was);
      }

  other_both : (name : List ℕ) → (name ≡ memory.name → ⊥) → (name ≡ state.name → ⊥) → (d : Disk) → Left (Left P A) B d → (old : Disk) × P old × (d name ≡ old name)
  other_both name first second d left =
      back_to name (Left P A) P d (other_of name first second B (Left P A) state.name (inr refl) (on_fill state.name state.writes state.rest) d left)
      (λ e was. other_of name first second A P memory.name (inl refl) (on_fill memory.name memory.writes memory.rest) e was)

  in_C : (done front more : List FileCall) → done ≡ both_filled memory state ++ front → front ++ more ≡ C → (d : Disk) → Left (Left (Left P A) B) front d → PairLeaves before memory state done d
  in_C done front more whole is d left =
      let back = away (Left (Left P A) B) memory.name state.name (λ same. differ (sym same)) front (on_C front more is) d left in
      record {
        memory_file = ⊎_elim (λ shut. inr (inl shut)) (λ is_whole. inr (inr (is_whole, (front, whole))))
            (open_front memory.name (Left (Left P A) B) 2 memory.rest (λ old was. (closed_both old was).0) front more is d left);
        state_file = inr (inl (shut_closed state.name 2 (d state.name) state.rest (back.2 ∙ (closed_both back.0 back.1).1)));
        others = λ name first second.
            back_to name (Left (Left P A) B) P d (other_of name first second front (Left (Left P A) B) memory.name (inl refl) (on_C front more is) d left)
            (λ e was. other_both name first second e was);
      }

  in_D : (done front more : List FileCall) → done ≡ both_filled memory state ++ (C ++ front) → front ++ more ≡ D → (d : Disk) → Left (Left (Left (Left P A) B) C) front d → PairLeaves before memory state done d
  in_D done front more whole is d left =
      let back = away (Left (Left (Left P A) B) C) state.name memory.name differ front (on_D front more is) d left in
      let there : d memory.name ≡ Some (text_of memory) = back.2 ∙ (whole_memory back.0 back.1).0 in
      record {
        memory_file = inr (inr (there, (C ++ front, whole)));
        state_file = ⊎_elim (λ shut. inr (inl shut)) (λ is_whole. inr (inr (is_whole, there, (C ++ front, whole))))
            (open_front state.name (Left (Left (Left P A) B) C) 2 state.rest (λ old was. (whole_memory old was).1) front more is d left);
        others = λ name first second.
            back_to name (Left (Left (Left P A) B) C) P d (other_of name first second front (Left (Left (Left P A) B) C) state.name (inr refl) (on_D front more is) d left)
            (λ e was. back_to name (Left (Left P A) B) P e (other_of name first second C (Left (Left P A) B) memory.name (inl refl) (on_open memory.name memory.rest) e was)
            (λ f was. other_both name first second f was));
      }

  to_both : (front : List FileCall) (d : Disk) → Left P (both_filled memory state ++ front) d → Left (Left (Left P A) B) front d
  to_both front d left = left_then (Left P A) B front d (left_then P A (B ++ front) d (subst (λ (l : List FileCall). Left P l d) (append_assoc A B front) left))

  pub moments : AreBehind memory.writes → AreBehind state.writes → (disk : Disk) (moment : Moment before (pair_calls memory state) disk) → PairLeaves before memory state moment.done disk
  moments behind also disk moment =
      let left : Left P moment.done disk = left_then NoFile before moment.done disk moment.left in
      ⊎_elim
      (λ filling. ⊎_elim
      (λ one. in_A moment.done one.0 behind one.1 disk left)
      (λ two. in_B moment.done two.0 filling.0 also two.1 two.2 disk (left_then P A two.0 disk (subst (λ (l : List FileCall). Left P l disk) two.1 left)))
      (front_of A B moment.done filling.0 filling.1))
      (λ opening.
      let now = to_both opening.0 disk (subst (λ (l : List FileCall). Left P l disk) opening.1 left) in
      ⊎_elim
      (λ three. in_C moment.done opening.0 three.0 opening.1 three.1 disk now)
      (λ four. in_D moment.done four.0 moment.rest (opening.1 ∙ ap (λ (l : List FileCall). both_filled memory state ++ l) four.1) four.2 disk
      (left_then (Left (Left P A) B) C four.0 disk (subst (λ (l : List FileCall). Left (Left (Left P A) B) l disk) four.1 now)))
      (front_of C D opening.0 moment.rest opening.2))
      (front_of (both_filled memory state) (C ++ D) moment.done moment.rest moment.parts)

  pub at_end : (disk : Disk) → Images (before ++ pair_calls memory state) disk → (disk memory.name ≡ Some (text_of memory)) × (disk state.name ≡ Some (text_of state))
  at_end disk image =
      let all = to_both (C ++ D) disk (left_then NoFile before (pair_calls memory state) disk image) in
      let last = left_then (Left (Left P A) B) C D disk all in
      let back = away (Left (Left (Left P A) B) C) state.name memory.name differ D (on_open state.name state.rest) disk last in
      (back.2 ∙ (whole_memory back.0 back.1).0, opened state.name (Left (Left (Left P A) B) C) state.rest disk last)
