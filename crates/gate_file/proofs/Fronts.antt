-- What a crash leaves of one file behind a gate, behind a front of its calls.
use Rattle.std.proofs.Common.{◌≡◌, ◌≢◌, ◌<◌, ◌≤◌, ◌⊎◌, ℕ, suc, List, [], ◌∷◌, ◌++◌, length, max, get_or, Option, Some, None, inl, inr, ⊎_elim, refl, sym, ◌∙◌, ap, subst, arith}
use Rattle.std.proofs.lemmas.List.{ext_get_or}
use Rattle.std.proofs.lemmas.Bool.{cases_eq}
use Rattle.vm_outside.specs.Calls.{FileCall}
use Rattle.vm_outside.specs.Calls.FileCall.{Making, Made, Writing, Synced}
use Rattle.vm_outside.specs.Crashes.{Disk, Left, LeftBy, TornFile}
use Rattle.gate_file.proofs.Tearing.{Write}
use Rattle.gate_file.proofs.Staging.{AreOn, Step, on_both, on_writes}
use Rattle.gate_file.specs.Moments.{AreBehind, IsShut}
use Rattle.gate_file.specs.Gate.{write_calls, close_calls, fill_calls, open_calls}

-- a front of two runs is one of the first, or all of it and one of the second
pub front_of : (a b done rest : List FileCall) → done ++ rest ≡ a ++ b
    → ((more : List FileCall) × (done ++ more ≡ a)) ⊎ ((front : List FileCall) × (done ≡ a ++ front) × (front ++ rest ≡ b))
front_of [] b done rest is = inr (done, refl, is)
front_of (c ∷ a) b [] rest is = inl (c ∷ a, refl)
front_of (c ∷ a) b (call ∷ done) rest is =
    let first : call ≡ c = cc in
    let others : done ++ rest ≡ a ++ b = cc in
    ⊎_elim
    (λ found. inl (found.0, λ i. first i ∷ found.1 i))
    (λ found. inr (found.0, (λ i. first i ∷ found.1 i), found.2))
    (front_of a b done rest others)

module _ (name : List ℕ) where
  pub on_fill : (writes : List Write) (rest : List ℕ) → AreOn name (fill_calls name writes rest)
  on_fill writes rest =
      (refl, (refl, (refl, (refl, on_both name (write_calls name writes) (Synced name (Some (0 ∷ rest)) ∷ []) (on_writes name writes) (refl, tt)))))

  pub on_open : (rest : List ℕ) → AreOn name (open_calls name rest)
  on_open rest = (refl, (refl, tt))

  abbrev Closed : Disk → Type 0
  Closed d = (text : List ℕ) × (d name ≡ Some text) × (1 ≤ length text) × (get_or text 0 0 ≡ 0)

  zero_gate : (g : ℕ) → g ≡ 0 → g ≢ 1
  zero_gate g e one = omega (arith, e, one)

  pub shut_text : (header : ℕ) (o : Option (List ℕ)) (text : List ℕ) → o ≡ Some text → (length text < header) ⊎ (get_or text 0 0 ≢ 1) → IsShut header o
  shut_text header o text is shut = subst (IsShut header) (sym is) shut

  pub shut_closed : (header : ℕ) (o : Option (List ℕ)) (rest : List ℕ) → o ≡ Some (0 ∷ rest) → IsShut header o
  shut_closed header o rest is = shut_text header o (0 ∷ rest) is (inr (zero_gate 0 refl))

  closed_shut : (header : ℕ) (d : Disk) → Closed d → IsShut header (d name)
  closed_shut header d (text, is, some, gate) = shut_text header (d name) text is (inr (zero_gate (get_or text 0 0) gate))

  torn_closed : (at : ℕ) (bytes : List ℕ) (old new : Option (List ℕ)) (text : List ℕ) → 1 ≤ at → old ≡ Some text → 1 ≤ length text → get_or text 0 0 ≡ 0 → TornFile at bytes old new → (next : List ℕ) × (new ≡ Some next) × (1 ≤ length next) × (get_or next 0 0 ≡ 0)
  torn_closed at bytes None new text behind is some gate torn = cc
  torn_closed at bytes (Some old) None text behind is some gate torn = absurd torn
  torn_closed at bytes (Some old) (Some next) text behind is some gate torn =
      let same : old ≡ text = cc in
      let long : length old ≡ length text = ap length same in
      let more = torn.no_shorter in
      let first : get_or next 0 0 ≡ get_or old 0 0 = torn.stays 0 (omega (arith, long, some)) (inl (omega (arith, behind))) in
      (next, refl, omega (arith, more, long, some), first ∙ ap (λ (l : List ℕ). get_or l 0 0) same ∙ gate)

  -- from a closed gate on, writes behind it and a sync of what is closed
  closed_front : (before : Disk → Type 0) (ws : List Write) (rest : List ℕ) → AreBehind ws → ((d : Disk) → before d → Closed d)
      → (done more : List FileCall) → done ++ more ≡ write_calls name ws ++ Synced name (Some (0 ∷ rest)) ∷ [] → (d : Disk) → Left before done d → Closed d
  closed_front before ws rest behind from [] more is d left = from d left
  closed_front before [] rest behind from (call ∷ []) more is d (old, was, left) =
      let first : call ≡ Synced name (Some (0 ∷ rest)) = cc in
      (0 ∷ rest, (subst (λ (c : FileCall). LeftBy c old d) first left).file, omega arith, refl)
  closed_front before [] rest behind from (call ∷ other ∷ done) more is d left = absurd cc
  closed_front before (w ∷ ws) rest behind from (call ∷ done) more is d left =
      let first : call ≡ Writing name w.0 w.1 = cc in
      let others : done ++ more ≡ write_calls name ws ++ Synced name (Some (0 ∷ rest)) ∷ [] = cc in
      closed_front (Step (Writing name w.0 w.1) before) ws rest behind.1
      (λ new step. let found = from step.0 step.1 in torn_closed w.0 w.1 (step.0 name) (new name) found.0 behind.0 found.1 found.2 found.3 step.2.file)
      done more others d (subst (λ (c : FileCall). Left (Step c before) done d) first left)

  made_shut : (header : ℕ) (o : Option (List ℕ)) → 2 ≤ header → o ≡ Some [] → IsShut header o
  made_shut header o most is = shut_text header o [] is (inl (omega (arith, most)))

  first_shut : (header : ℕ) (old new : Option (List ℕ)) → 2 ≤ header → old ≡ Some [] → TornFile 0 (0 ∷ []) old new → IsShut header new
  first_shut header None new most is torn = cc
  first_shut header (Some old) None most is torn = absurd torn
  first_shut header (Some old) (Some next) most is torn =
      let same : old ≡ [] = cc in
      let none : length old ≡ 0 = ap length same in
      let short : length next ≤ max (length old) 1 = torn.no_longer in
      inl (omega (arith, none, short, most))

  shut_none : (header : ℕ) (o : Option (List ℕ)) → o ≡ None → IsShut header o
  shut_none header o is = subst (IsShut header) (sym is) tt

  -- while the file is made and filled it is as before or shut
  in_close : (before : Disk → Type 0) (header : ℕ) → 2 ≤ header → (done more : List FileCall) → done ++ more ≡ close_calls name → (d : Disk) → Left before done d
      → ((old : Disk) × before old × (d name ≡ old name)) ⊎ IsShut header (d name)
  in_close before header most [] more is d left = inl (d, left, refl)
  in_close before header most (a ∷ []) more is d (old, was, left) =
      let first : a ≡ Making name = cc in
      ⊎_elim (λ same. inl (old, was, same)) (λ gone. inr (⊎_elim (shut_none header (d name)) (made_shut header (d name) most) gone)) (subst (λ (c : FileCall). LeftBy c old d) first left).file
  in_close before header most (a ∷ b ∷ []) more is d (old, was, left) =
      let second : b ≡ Made name = cc in
      inr (made_shut header (d name) most (subst (λ (c : FileCall). LeftBy c old d) second left).file)
  in_close before header most (a ∷ b ∷ c ∷ []) more is d (old, (older, was, made), left) =
      let second : b ≡ Made name = cc in
      let third : c ≡ Writing name 0 (0 ∷ []) = cc in
      inr (first_shut header (old name) (d name) most (subst (λ (c : FileCall). LeftBy c older old) second made).file (subst (λ (c : FileCall). LeftBy c old d) third left).file)
  in_close before header most (a ∷ b ∷ c ∷ e ∷ []) more is d (old, was, left) =
      let fourth : e ≡ Synced name (Some (0 ∷ [])) = cc in
      inr (shut_closed header (d name) [] (subst (λ (c : FileCall). LeftBy c old d) fourth left).file)
  in_close before header most (a ∷ b ∷ c ∷ e ∷ f ∷ done) more is d left = absurd cc

  left_split : (before : Disk → Type 0) (a b : List FileCall) (d : Disk) → Left before (a ++ b) d → Left (Left before a) b d
  left_split before [] b d left = left
  left_split before (c ∷ a) b d left = left_split (Step c before) a b d left

  pub fill_front : (before : Disk → Type 0) (header : ℕ) (ws : List Write) (rest : List ℕ) → 2 ≤ header → AreBehind ws
      → (done more : List FileCall) → done ++ more ≡ fill_calls name ws rest → (d : Disk) → Left before done d
      → ((old : Disk) × before old × (d name ≡ old name)) ⊎ IsShut header (d name)
  fill_front before header ws rest most behind done more is d left =
      ⊎_elim
      (λ closing. in_close before header most done closing.0 closing.1 d left)
      (λ filling.
      let now = subst (λ (l : List FileCall). Left before l d) filling.1 left in
      inr (closed_shut header d (closed_front (Left before (close_calls name)) ws rest behind (λ new step. (0 ∷ [], step.2.file, omega arith, refl)) filling.0 more filling.2 d
      (left_split before (close_calls name) filling.0 d now))))
      (front_of (close_calls name) (write_calls name ws ++ Synced name (Some (0 ∷ rest)) ∷ []) done more is)

  last : (before : Disk → Type 0) (a : List FileCall) (c : FileCall) (d : Disk) → Left before (a ++ c ∷ []) d → (old : Disk) × LeftBy c old d
  last before [] c d left = (left.0, left.2)
  last before (b ∷ a) c d left = last (Step b before) a c d left

  pub filled : (before : Disk → Type 0) (ws : List Write) (rest : List ℕ) (d : Disk) → Left before (fill_calls name ws rest) d → d name ≡ Some (0 ∷ rest)
  filled before ws rest d left = (last _ (write_calls name ws) (Synced name (Some (0 ∷ rest))) d left).1.file

  -- one cell over the gate
  gate_torn : (header : ℕ) (rest : List ℕ) (old new : Option (List ℕ)) → old ≡ Some (0 ∷ rest) → TornFile 0 (1 ∷ []) old new → IsShut header new ⊎ (new ≡ Some (1 ∷ rest))
  gate_torn header rest None new is torn = cc
  gate_torn header rest (Some old) None is torn = absurd torn
  gate_torn header rest (Some old) (Some []) is torn = inl (inr (zero_gate 0 refl))
  gate_torn header rest (Some old) (Some (b ∷ bs)) is torn =
      let same : old ≡ 0 ∷ rest = cc in
      let size : length old ≡ suc (length rest) = ap length same in
      let low = torn.no_shorter in
      let high : length (b ∷ bs) ≤ max (length old) 1 = torn.no_longer in
      let long : length bs ≡ length rest = omega (arith, size, low, high) in
      let behind : bs ≡ rest = ext_get_or 0 bs rest long (λ k lt. torn.stays (suc k) (omega (arith, lt, size, long)) (inr (omega arith)) ∙ ap (λ (l : List ℕ). get_or l (suc k) 0) same) in
      ⊎_elim (λ one. inr (ap (λ (g : ℕ). Some (g ∷ bs)) one ∙ ap (λ (l : List ℕ). Some (1 ∷ l)) behind)) (λ other. inl (inr other)) (cases_eq b 1)

  pub open_front : (before : Disk → Type 0) (header : ℕ) (rest : List ℕ) → ((d : Disk) → before d → d name ≡ Some (0 ∷ rest))
      → (done more : List FileCall) → done ++ more ≡ open_calls name rest → (d : Disk) → Left before done d → IsShut header (d name) ⊎ (d name ≡ Some (1 ∷ rest))
  open_front before header rest closed [] more is d left = inl (shut_closed header (d name) rest (closed d left))
  open_front before header rest closed (a ∷ []) more is d (old, was, left) =
      let first : a ≡ Writing name 0 (1 ∷ []) = cc in
      gate_torn header rest (old name) (d name) (closed old was) (subst (λ (c : FileCall). LeftBy c old d) first left).file
  open_front before header rest closed (a ∷ b ∷ []) more is d (old, was, left) =
      let second : b ≡ Synced name (Some (1 ∷ rest)) = cc in
      inr (subst (λ (c : FileCall). LeftBy c old d) second left).file
  open_front before header rest closed (a ∷ b ∷ c ∷ done) more is d left = absurd cc

  pub opened : (before : Disk → Type 0) (rest : List ℕ) (d : Disk) → Left before (open_calls name rest) d → d name ≡ Some (1 ∷ rest)
  opened before rest d left = left.2.file
