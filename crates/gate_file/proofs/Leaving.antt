-- What a crash leaves of one file, call by call.
use Rattle.std.proofs.Common.{◌≡◌, ◌≢◌, ◌<◌, ◌≤◌, ◌⊎◌, ℕ, suc, max, List, [], ◌∷◌, ◌++◌, length, get_or, Option, Some, None, inl, inr, ⊎_elim, refl, sym, ◌∙◌, ap, subst, arith}
use Rattle.std.proofs.lemmas.List.{ext_get_or}
use Rattle.std.proofs.lemmas.Bool.{cases_eq}
use Rattle.vm_outside.specs.Calls.{FileCall}
use Rattle.vm_outside.specs.Crashes.{Disk, TornFile, LeftBy, Left, LeftSince, Images}
use Rattle.gate_file.specs.Gate.{open_calls, write_calls, fill_calls}
use Rattle.gate_file.specs.Moments.{IsShut, AreBehind, LeftInside}

abbrev Step : FileCall → (Disk → Type 0) → Disk → Type 0
Step call before d = (old : Disk) × before old × LeftBy call old d

-- the moments of a front are moments of the whole
pub longer : (before : Disk → Type 0) (a b : List FileCall) (d : Disk) → LeftSince before a d → LeftSince before (a ++ b) d
longer before [] [] d left = left
longer before [] (c ∷ b) d left = inl left
longer before (c ∷ a) b d (inl now) = inl now
longer before (c ∷ a) b d (inr then) = inr (longer (Step c before) a b d then)

-- a moment of two runs is one of the first or one of the second
pub split : (before : Disk → Type 0) (a b : List FileCall) (d : Disk) → LeftSince before (a ++ b) d → LeftSince before a d ⊎ LeftSince (Left before a) b d
split before [] b d left = inr left
split before (c ∷ a) b d (inl now) = inl (inl now)
split before (c ∷ a) b d (inr then) = ⊎_elim (λ h. inl (inr h)) (λ h. inr h) (split (Step c before) a b d then)

-- after a run that ends with a call, that call was the last
pub last : (before : Disk → Type 0) (a : List FileCall) (c : FileCall) (d : Disk) → Left before (a ++ c ∷ []) d → (old : Disk) × LeftBy c old d
last before [] c d left = (left.0, left.2)
last before (b ∷ a) c d left = last (Step b before) a c d left

-- what is left after a run is left at a moment of it
pub at_end : (before : Disk → Type 0) (a : List FileCall) (d : Disk) → Left before a d → LeftSince before a d
at_end before [] d left = left
at_end before (c ∷ a) d left = inr (at_end (Step c before) a d left)

pub left_then : (before : Disk → Type 0) (a b : List FileCall) (d : Disk) → Left before (a ++ b) d → Left (Left before a) b d
left_then before [] b d left = left
left_then before (c ∷ a) b d left = left_then (Step c before) a b d left

pub of_front : (before script : List FileCall) (d : Disk) → LeftInside before script d → LeftSince (Images before) script d
of_front before script d (done, rest, whole, left) = subst (λ (l : List FileCall). LeftSince (Images before) l d) whole (longer (Images before) done rest d left)

module _ (name : List ℕ) where
  -- the file is there, and its gate is closed
  abbrev Closed : Disk → Type 0
  Closed d = (text : List ℕ) × (d name ≡ Some text) × (1 ≤ length text) × (get_or text 0 0 ≡ 0)

  shut_text : (header : ℕ) (o : Option (List ℕ)) (text : List ℕ) → o ≡ Some text → (length text < header) ⊎ (get_or text 0 0 ≢ 1) → IsShut header o
  shut_text header o text is shut = subst (IsShut header) (sym is) shut

  shut_none : (header : ℕ) (o : Option (List ℕ)) → o ≡ None → IsShut header o
  shut_none header o is = subst (IsShut header) (sym is) tt

  zero_gate : (g : ℕ) → g ≡ 0 → g ≢ 1
  zero_gate g e one = omega arith

  closed_shut : (header : ℕ) (d : Disk) → Closed d → IsShut header (d name)
  closed_shut header d (text, is, some, gate) = shut_text header (d name) text is (inr (zero_gate (get_or text 0 0) gate))

  -- a write behind the gate leaves it closed
  torn_closed : (at : ℕ) (bytes : List ℕ) (old new : Option (List ℕ)) (text : List ℕ) → 1 ≤ at → old ≡ Some text → 1 ≤ length text → get_or text 0 0 ≡ 0 → TornFile at bytes old new → (next : List ℕ) × (new ≡ Some next) × (1 ≤ length next) × (get_or next 0 0 ≡ 0)
  torn_closed at bytes None new text behind is some gate torn = cc
  torn_closed at bytes (Some old) None text behind is some gate torn = absurd torn
  torn_closed at bytes (Some old) (Some next) text behind is some gate torn =
      let same : old ≡ text = cc in
      let long : length old ≡ length text = ap length same in
      let more = torn.no_shorter in
      let first : get_or next 0 0 ≡ get_or old 0 0 = torn.stays 0 (omega arith) (inl (omega arith)) in
      (next, refl, omega arith, first ∙ ap (λ (l : List ℕ). get_or l 0 0) same ∙ gate)

  write_closed : (at : ℕ) (bytes : List ℕ) (old new : Disk) → 1 ≤ at → Closed old → LeftBy (FileCall.Writing name at bytes) old new → Closed new
  write_closed at bytes old new behind (text, is, some, gate) left = torn_closed at bytes (old name) (new name) text behind is some gate left.file

  -- from a closed gate on, writes behind it and a sync of what is closed
  closed_since : (before : Disk → Type 0) (ws : List (ℕ × List ℕ)) (rest : List ℕ) → AreBehind ws → ((d : Disk) → before d → Closed d) → (d : Disk) → LeftSince before (write_calls name ws ++ FileCall.Synced name (Some (0 ∷ rest)) ∷ []) d → Closed d
  closed_since before [] rest behind from d (inl now) = from d now
  closed_since before [] rest behind from d (inr (old, was, left)) = (0 ∷ rest, left.file, omega arith, refl)
  closed_since before (w ∷ ws) rest behind from d (inl now) = from d now
  closed_since before (w ∷ ws) rest behind from d (inr then) =
      closed_since (Step (FileCall.Writing name w.0 w.1) before) ws rest behind.1 (λ new step. write_closed w.0 w.1 step.0 new behind.0 (from step.0 step.1) step.2) d then

  made_shut : (header : ℕ) (o : Option (List ℕ)) → 2 ≤ header → o ≡ Some [] → IsShut header o
  made_shut header o most is = shut_text header o [] is (inl (omega arith))

  -- one byte over an empty file
  first_shut : (header : ℕ) (old new : Option (List ℕ)) → 2 ≤ header → old ≡ Some [] → TornFile 0 (0 ∷ []) old new → IsShut header new
  first_shut header None new most is torn = cc
  first_shut header (Some old) None most is torn = absurd torn
  first_shut header (Some old) (Some next) most is torn =
      let same : old ≡ [] = cc in
      let none : length old ≡ 0 = ap length same in
      let short : length next ≤ max (length old) 1 = torn.no_longer in
      inl (omega arith)

  -- while the file is made and filled it is as before or shut
  pub fill_moments : (before : Disk → Type 0) (header : ℕ) (ws : List (ℕ × List ℕ)) (rest : List ℕ) → 2 ≤ header → AreBehind ws → (d : Disk) → LeftSince before (fill_calls name ws rest) d → ((old : Disk) × before old × (d name ≡ old name)) ⊎ IsShut header (d name)
  fill_moments before header ws rest most behind d (inl now) = inl (d, now, refl)
  fill_moments before header ws rest most behind d (inr (inl (old, was, left))) =
      ⊎_elim (λ same. inl (old, was, same)) (λ gone. inr (⊎_elim (shut_none header (d name)) (made_shut header (d name) most) gone)) left.file
  fill_moments before header ws rest most behind d (inr (inr (inl (old, was, left)))) = inr (made_shut header (d name) most left.file)
  fill_moments before header ws rest most behind d (inr (inr (inr (inl (old, (older, was, made), left))))) = inr (first_shut header (old name) (d name) most made.file left.file)
  fill_moments before header ws rest most behind d (inr (inr (inr (inr then)))) =
      inr (closed_shut header d (closed_since _ ws rest behind (λ new step. (0 ∷ [], step.2.file, omega arith, refl)) d then))

  -- and then it is closed, on the disk
  pub filled : (before : Disk → Type 0) (ws : List (ℕ × List ℕ)) (rest : List ℕ) (d : Disk) → Left before (fill_calls name ws rest) d → d name ≡ Some (0 ∷ rest)
  filled before ws rest d left = (last _ (write_calls name ws) (FileCall.Synced name (Some (0 ∷ rest))) d left).1.file

  same_behind : (rest bs : List ℕ) → length bs ≡ length rest → ((k : ℕ) → k < length rest → get_or bs k 0 ≡ get_or rest k 0) → bs ≡ rest
  same_behind rest bs long each = ext_get_or 0 bs rest long (λ k lt. each k (omega arith))

  -- one byte over the gate
  gate_torn : (header : ℕ) (rest : List ℕ) (old new : Option (List ℕ)) → old ≡ Some (0 ∷ rest) → TornFile 0 (1 ∷ []) old new → IsShut header new ⊎ (new ≡ Some (1 ∷ rest))
  gate_torn header rest None new is torn = cc
  gate_torn header rest (Some old) None is torn = absurd torn
  gate_torn header rest (Some old) (Some []) is torn = inl (inr (zero_gate 0 refl))
  gate_torn header rest (Some old) (Some (b ∷ bs)) is torn =
      let same : old ≡ 0 ∷ rest = cc in
      let size : length old ≡ suc (length rest) = ap length same in
      let low = torn.no_shorter in
      let high : length (b ∷ bs) ≤ max (length old) 1 = torn.no_longer in
      let behind : bs ≡ rest = same_behind rest bs (omega arith) (λ k lt. torn.stays (suc k) (omega arith) (inr (omega arith)) ∙ ap (λ (l : List ℕ). get_or l (suc k) 0) same) in
      ⊎_elim (λ one. inr (ap (λ (g : ℕ). Some (g ∷ bs)) one ∙ ap (λ (l : List ℕ). Some (1 ∷ l)) behind)) (λ other. inl (inr other)) (cases_eq b 1)

  -- while the gate is opened the file is shut or whole
  pub open_moments : (before : Disk → Type 0) (header : ℕ) (rest : List ℕ) → ((d : Disk) → before d → d name ≡ Some (0 ∷ rest)) → (d : Disk) → LeftSince before (open_calls name rest) d → IsShut header (d name) ⊎ (d name ≡ Some (1 ∷ rest))
  open_moments before header rest closed d (inl now) = inl (shut_text header (d name) (0 ∷ rest) (closed d now) (inr (zero_gate 0 refl)))
  open_moments before header rest closed d (inr (inl (old, was, left))) = gate_torn header rest (old name) (d name) (closed old was) left.file
  open_moments before header rest closed d (inr (inr (old, was, left))) = inr left.file

  pub opened : (before : Disk → Type 0) (rest : List ℕ) (d : Disk) → Left before (open_calls name rest) d → d name ≡ Some (1 ∷ rest)
  opened before rest d left = left.2.file
