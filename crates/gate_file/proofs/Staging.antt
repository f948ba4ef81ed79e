-- What a crash leaves of a file that is written in stages, call by call.
use Rattle.std.proofs.Common.{ap, ◌≡◌, ◌≢◌, ◌<◌, ◌≤◌, ◌⊎◌, ℕ, ◌+◌, List, [], ◌∷◌, ◌++◌, length, Option, Some, None, inl, inr, ⊎_elim, refl, sym, ◌∙◌, subst, append_assoc}
use Rattle.vm_outside.specs.Calls.{FileCall}
use Rattle.vm_outside.specs.Calls.FileCall.{Writing, Synced}
use Rattle.vm_outside.specs.Crashes.{Disk, Images, IsBytes, Left, LeftBy, NoFile, TornFile, file_of}
use Rattle.vm_types.specs.Saved.{written}
use Rattle.gate_file.specs.Gate.{write_calls}
use Rattle.gate_file.specs.Stages.{AllInside, AreInside, AreOfBytes, IsLeft, calls_of, stage_calls, text_after, written_all, Moment}
pub use Rattle.vm_outside.proofs.Imaging.{left_both}
use Rattle.gate_file.proofs.Tearing.{Keeps, Misses, kept_is_torn, length-put, torn_more, Write, written_put}

abbrev pub Step : FileCall → (Disk → Type 0) → Disk → Type 0
Step call before d = (old : Disk) × before old × LeftBy call old d

pub left_then : (before : Disk → Type 0) (a b : List FileCall) (d : Disk) → Left before (a ++ b) d → Left (Left before a) b d
left_then before [] b d left = left
left_then before (c ∷ a) b d left = left_then (Step c before) a b d left

length-written : (writes : List Write) (text : List ℕ) → AreInside (length text) writes → length (written_all writes text) ≡ length text
length-written [] text inside = refl
length-written (w ∷ writes) text inside =
    let one = ap length (written_put text w.1 w.0 inside.0) ∙ length-put text w.1 w.0 inside.0 in
    length-written writes (written text w.0 w.1) (subst (λ (n : ℕ). AreInside n writes) (sym one) inside.1) ∙ one

module _ (name : List ℕ) where
  -- the file is there, and is this but for these writes; of bytes, where all are
  abbrev Kept : List Write → List ℕ → Option (List ℕ) → Type 0
  Kept writes text o = (left : List ℕ) × (o ≡ Some left) × Keeps writes text left × (AreOfBytes writes → IsBytes text → IsBytes left)

  torn_kept : (writes : List Write) (text : List ℕ) (w : Write) (old new : Option (List ℕ)) → w.0 + length w.1 ≤ length text
      → ((k : ℕ) → Misses writes k → (k < w.0) ⊎ (w.0 + length w.1 ≤ k)) → (AreOfBytes writes → IsBytes w.1) → Kept writes text old → TornFile w.0 w.1 old new → Kept writes text new
  torn_kept writes text w None new inside one of (left, is, keeps, bytes) torn = cc
  torn_kept writes text w (Some old) None inside one of (left, is, keeps, bytes) torn = absurd torn
  torn_kept writes text w (Some old) (Some new) inside one of (left, is, keeps, bytes) torn =
      let same : old ≡ left = cc in (
        new,
        refl,
        torn_more writes text old new w inside one (subst (Keeps writes text) (sym same) keeps) torn,
        (λ all first. torn.are_bytes (of all) (subst IsBytes (sym same) (bytes all first))),
      )

  -- inside the writes of a stage, or behind them
  in_writes : (before : Disk → Type 0) (text : List ℕ) (all writes : List Write) (tail : List FileCall) (G : Disk → Type 0)
      → AreInside (length text) writes → ((k : ℕ) → Misses all k → Misses writes k) → (AreOfBytes all → AreOfBytes writes) → ((d : Disk) → before d → Kept all text (d name))
      → ((mid : Disk → Type 0) → ((d : Disk) → mid d → Kept all text (d name)) → (done rest : List FileCall) → done ++ rest ≡ tail → (d : Disk) → Left mid done d → Kept all text (d name) ⊎ G d)
      → (done rest : List FileCall) → done ++ rest ≡ write_calls name writes ++ tail → (d : Disk) → Left before done d → Kept all text (d name) ⊎ G d
  in_writes before text all [] tail G inside covers of from behind done rest is d left = behind before from done rest is d left
  in_writes before text all (w ∷ writes) tail G inside covers of from behind [] rest is d left = inl (from d left)
  in_writes before text all (w ∷ writes) tail G inside covers of from behind (call ∷ done) rest is d left =
      let first : call ≡ Writing name w.0 w.1 = cc in
      let others : done ++ rest ≡ write_calls name writes ++ tail = cc in
      in_writes (Step (Writing name w.0 w.1) before) text all writes tail G inside.1 (λ k misses. (covers k misses).1) (λ bytes. (of bytes).1)
      (λ new step. torn_kept all text w (step.0 name) (new name) inside.0 (λ k misses. (covers k misses).0) (λ bytes. (of bytes).0) (from step.0 step.1) step.2.file)
      behind done rest others d (subst (λ (c : FileCall). Left (Step c before) done d) first left)

  abbrev Found : List (List Write) → List ℕ → Disk → Type 0
  Found stages text d = (left : List ℕ) × (d name ≡ Some left) × IsLeft stages text left

  pub in_stages : (before : Disk → Type 0) (stages : List (List Write)) (text : List ℕ) → AllInside (length text) stages → ((d : Disk) → before d → d name ≡ Some text)
      → (done rest : List FileCall) → done ++ rest ≡ calls_of name stages text → (d : Disk) → Left before done d → Found stages text d
  in_stages before [] text inside from [] rest is d left = (text, from d left, refl)
  in_stages before [] text inside from (call ∷ done) rest is d left = absurd cc
  in_stages before (writes ∷ stages) text inside from done rest is d left =
      let next : List ℕ = written_all writes text in
      let long = length-written writes text inside.0 in
      let later : AllInside (length next) stages = subst (λ (n : ℕ). AllInside n stages) (sym long) inside.1 in
      ⊎_elim
      (λ kept. (kept.0, kept.1, inl (kept_is_torn writes text kept.0 inside.0 kept.2 kept.3)))
      (λ found. (found.0, found.1, inr found.2))
      (in_writes before text writes writes (Synced name (Some next) ∷ calls_of name stages next) (Found stages next) inside.0 (λ k misses. misses) (λ bytes. bytes)
      (λ old was. (text, from old was, record { size = refl; stays = λ k lt misses. refl }, (λ all first. first)))
      (λ mid kept front end same new now. elim front as (λ front. front ++ end ≡ Synced name (Some next) ∷ calls_of name stages next → Left mid front new → Kept writes text (new name) ⊎ Found stages next new) [
        | [] ↦ λ same now. inl (kept new now)
        | call ∷ more ↦ λ same now.
            let first : call ≡ Synced name (Some next) = cc in
            let others : more ++ end ≡ calls_of name stages next = cc in
            inr (in_stages (Step (Synced name (Some next)) mid) stages next later (λ disk step. step.2.file) more end others new (subst (λ (c : FileCall). Left (Step c mid) more new) first now))
      ] same now)
      done rest (is ∙ append_assoc (write_calls name writes) (Synced name (Some next) ∷ []) (calls_of name stages next)) d left)

  -- ---- behind them all

  after_writes : (before : Disk → Type 0) (writes : List Write) (now : Option (List ℕ)) (tail : List FileCall) (d : Disk) → Left before (write_calls name writes ++ Synced name now ∷ tail) d
      → Left (λ new. new name ≡ now) tail d
  after_writes before [] now tail d left = weaker (Step (Synced name now) before) (λ new. new name ≡ now) (λ new step. step.2.file) tail d left
    where
      weaker : (before after : Disk → Type 0) → ((d : Disk) → before d → after d) → (calls : List FileCall) (d : Disk) → Left before calls d → Left after calls d
      weaker before after to [] d left = to d left
      weaker before after to (c ∷ calls) d left = weaker (Step c before) (Step c after) (λ new step. (step.0, to step.0 step.1, step.2)) calls d left
  after_writes before (w ∷ writes) now tail d left = after_writes (Step (Writing name w.0 w.1) before) writes now tail d left

  pub behind : (before : Disk → Type 0) (stages : List (List Write)) (text : List ℕ) → ((d : Disk) → before d → d name ≡ Some text) → (d : Disk) → Left before (calls_of name stages text) d → d name ≡ Some (text_after stages text)
  behind before [] text from d left = from d left
  behind before (writes ∷ stages) text from d left =
      let next : List ℕ = written_all writes text in
      behind (λ new. new name ≡ Some next) stages next (λ new is. is) d
      (after_writes before writes (Some next) (calls_of name stages next) d
      (subst (λ (l : List FileCall). Left before l d) (append_assoc (write_calls name writes) (Synced name (Some next) ∷ []) (calls_of name stages next)) left))

  -- ---- other files

  abbrev pub AreOn : List FileCall → Type 0
  AreOn [] = Unit {0}
  AreOn (call ∷ calls) = (file_of call ≡ name) × AreOn calls

  pub on_both : (a b : List FileCall) → AreOn a → AreOn b → AreOn (a ++ b)
  on_both [] b first second = second
  on_both (call ∷ a) b first second = (first.0, on_both a b first.1 second)

  pub on_front : (a b : List FileCall) → AreOn (a ++ b) → AreOn a
  on_front [] b all = tt
  on_front (call ∷ a) b all = (all.0, on_front a b all.1)

  pub on_writes : (writes : List Write) → AreOn (write_calls name writes)
  on_writes [] = tt
  on_writes (w ∷ writes) = (refl, on_writes writes)

  on_stages : (stages : List (List Write)) (text : List ℕ) → AreOn (calls_of name stages text)
  on_stages [] text = tt
  on_stages (writes ∷ stages) text =
      on_both (stage_calls name writes text) (calls_of name stages (written_all writes text))
      (on_both (write_calls name writes) (Synced name (Some (written_all writes text)) ∷ []) (on_writes writes) (refl, tt))
      (on_stages stages (written_all writes text))

  pub in_other : (before : Disk → Type 0) (other : List ℕ) → other ≢ name → (calls : List FileCall) → AreOn calls → (d : Disk) → Left before calls d → (old : Disk) × before old × (d other ≡ old other)
  in_other before other differs [] on d left = (d, left, refl)
  in_other before other differs (call ∷ calls) on d left =
      let found = in_other (Step call before) other differs calls on.1 d left in
      let step = found.1 in
      (step.0, step.1, found.2 ∙ step.2.others other (λ same. differs (same ∙ on.0)))

  pub of_other : (before : List FileCall) (other : List ℕ) → other ≢ name → (stages : List (List Write)) (text : List ℕ) (d : Disk) → Moment before (calls_of name stages text) d → (old : Disk) × Images before old × (d other ≡ old other)
  of_other before other differs stages text d moment =
      in_other (Images before) other differs moment.done
      (on_front moment.done moment.rest (subst AreOn (sym moment.parts) (on_stages stages text)))
      d (left_then NoFile before moment.done d moment.left)
