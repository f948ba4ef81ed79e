-- Marks go with the events.
use Rattle.std.proofs.Common.{◌≡◌, ℕ, zero, suc, ◌+◌, ◌<◌, ◌≤◌, nat_le, Bool, true, false, cond, ◌&&◌, ◌||◌, List, [], ◌∷◌, ◌++◌, Option, Some, None, length, drop, replicate, get_or, set, refl, sym, ap, subst, ◌∙◌, arith}
use Rattle.std.proofs.lemmas.List.{append-nil, append_assoc, length-map}
use Rattle.vm_types.specs.declared.ids.ActorId.{ActorId}
use Rattle.vm_types.specs.declared.ids.PlaceId.{PlaceId}
use Rattle.vm_types.specs.declared.op.Op.{Op}
use Rattle.vm_types.specs.declared.op.Op.TheVariants.{Read, Write, Amo, Lr, Sc}
use Rattle.vm_types.specs.declared.reply.Reply.{Reply}
use Rattle.vm_types.specs.declared.reply.Reply.TheVariants.{Done, Bytes, Word, AccessFault}
use Rattle.guest_memory.specs.Amo.{amo_value}
use Rattle.guest_memory.specs.Reserved.{granule_of, held_by, is_granule}
use Rattle.guest_memory.specs.Words.{width_of, word_bytes}
use Rattle.guest_pages.specs.Pages.{PageValue, is_within, page_read, page_word, page_written, page_reserving, page_made, page_touch, page_holding, cleared, flat_of, marks_of}
use Rattle.guest_pages.specs.Marks.{is_written, page_after, is_written_by, marked_from, marks_after}

or_right : (a : Bool) → a ≡ (a || false)
or_right true = refl
or_right false = refl

or_true : (a : Bool) → true ≡ (a || true)
or_true true = refl
or_true false = refl

-- an act marks its page exactly where it wrote
pub marked_by : (p : PageValue) (actor : ActorId) (op : Op) → (page_touch p actor op).1.marked ≡ (p.marked || is_written op (page_touch p actor op).0)
marked_by p actor (Read at len) = read_case (nat_le len 64 && is_within p.number (length p.bytes) at len)
  where
    read_case : (b : Bool) → (let answer : Reply × PageValue = cond b (Bytes (page_read p at len), p) (AccessFault, p) in answer.1.marked ≡ (p.marked || is_written (Read at len) answer.0))
    read_case true = or_right p.marked
    read_case false = or_right p.marked
marked_by p actor (Write at piece) = write_case (is_within p.number (length p.bytes) at (length piece))
  where
    write_case : (b : Bool) → (let answer : Reply × PageValue = cond b (Done, page_written p actor at piece) (AccessFault, p) in answer.1.marked ≡ (p.marked || is_written (Write at piece) answer.0))
    write_case true = or_true p.marked
    write_case false = or_right p.marked
marked_by p actor (Amo at value kind wide) = amo_case (is_within p.number (length p.bytes) at (width_of wide))
  where
    amo_case : (b : Bool) → (let answer : Reply × PageValue = cond b (Word (page_word p at wide), page_written p actor at (word_bytes wide (amo_value kind wide (page_word p at wide) value))) (AccessFault, p) in answer.1.marked ≡ (p.marked || is_written (Amo at value kind wide) answer.0))
    amo_case true = or_true p.marked
    amo_case false = or_right p.marked
marked_by p actor (Lr at wide) = lr_case (is_within p.number (length p.bytes) at (width_of wide))
  where
    lr_case : (b : Bool) → (let answer : Reply × PageValue = cond b (Word (page_word p at wide), page_made (page_reserving p actor (Some (granule_of at)))) (AccessFault, p) in answer.1.marked ≡ (p.marked || is_written (Lr at wide) answer.0))
    lr_case true = or_right p.marked
    lr_case false = or_right p.marked
marked_by p actor (Sc at value wide) = sc_case (is_within p.number (length p.bytes) at (width_of wide)) (is_granule (granule_of at) (held_by p.reserved 0 actor))
  where
    sc_case : (b c : Bool) → (let answer : Reply × PageValue = cond b (cond c (Word 0, page_reserving (page_written p actor at (word_bytes wide value)) actor None) (Word 1, page_reserving p actor None)) (AccessFault, p) in answer.1.marked ≡ (p.marked || is_written (Sc at value wide) answer.0))
    sc_case true true = or_true p.marked
    sc_case true false = or_right p.marked
    sc_case false c = or_right p.marked
marked_by p actor op = or_right p.marked

or_assoc : (a b c : Bool) → ((a || b) || c) ≡ (a || (b || c))
or_assoc true b c = refl
or_assoc false b c = refl

-- and so do acts one after another
pub marked_by_all : (p : PageValue) (acts : List (ActorId × Op)) → (page_after p acts).marked ≡ (p.marked || is_written_by p acts)
marked_by_all p [] = or_right p.marked
marked_by_all p (act ∷ acts) =
    let next : PageValue = (page_touch p act.0 act.1).1 in
    marked_by_all next acts
    ∙ ap (λ (b : Bool). b || is_written_by next acts) (marked_by p act.0 act.1)
    ∙ or_assoc p.marked (is_written act.1 (page_touch p act.0 act.1).0) (is_written_by next acts)

-- the marks of pages of which one was acted on
none_set : (wrote : Bool) (k : ℕ) → [] ≡ cond wrote (set [] k true) []
none_set true k = refl
none_set false k = refl

first_set : (marked wrote : Bool) (marks : List Bool) → (marked || wrote) ∷ marks ≡ cond wrote (true ∷ marks) (marked ∷ marks)
first_set true true marks = refl
first_set false true marks = refl
first_set true false marks = refl
first_set false false marks = refl

behind : (marked wrote : Bool) (some none : List Bool) → marked ∷ cond wrote some none ≡ cond wrote (marked ∷ some) (marked ∷ none)
behind marked true some none = refl
behind marked false some none = refl

pub marks_touched : (pages : List PageValue) (k : ℕ) (d : PageValue) (actor : ActorId) (op : Op)
    → marks_of (set pages k (page_touch (get_or pages k d) actor op).1)
    ≡ marks_after (PlaceId.Page k) (marks_of pages) op (page_touch (get_or pages k d) actor op).0
marks_touched [] k d actor op = none_set (is_written op (page_touch d actor op).0) k
marks_touched (p ∷ ps) zero d actor op =
    ap (λ (b : Bool). b ∷ marks_of ps) (marked_by p actor op)
    ∙ first_set p.marked (is_written op (page_touch p actor op).0) (marks_of ps)
marks_touched (p ∷ ps) (suc k) d actor op =
    let wrote : Bool = is_written op (page_touch (get_or ps k d) actor op).0 in
    ap (λ (l : List Bool). p.marked ∷ l) (marks_touched ps k d actor op)
    ∙ behind p.marked wrote (set (marks_of ps) k true) (marks_of ps)

-- and of pages of which none was
pub marks_nowhere : (place : PlaceId) (marks : List Bool) (op : Op) (reply : Reply) → place ≡ PlaceId.Out → marks ≡ marks_after place marks op reply
marks_nowhere place marks op reply out = rw out refl

-- no mark is set
pub marks_cleared : (pages : List PageValue) → marks_of (cleared pages) ≡ replicate (length pages) false
marks_cleared [] = refl
marks_cleared (p ∷ ps) = ap (λ (l : List Bool). false ∷ l) (marks_cleared ps)

-- which changes nothing else
pub flat_cleared : (pages : List PageValue) → flat_of (cleared pages) ≡ flat_of pages
flat_cleared pages = λ i. record { bytes = bytes pages i; reserved = reserved pages i }
  where
    bytes : (pages : List PageValue) → (flat_of (cleared pages)).bytes ≡ (flat_of pages).bytes
    bytes [] = refl
    bytes (p ∷ ps) = ap (λ (l : List ℕ). p.bytes ++ l) (bytes ps)

    reserved : (pages : List PageValue) → (flat_of (cleared pages)).reserved ≡ (flat_of pages).reserved
    reserved [] = refl
    reserved (p ∷ ps) = ap (λ (l : List (Option ℕ)). p.reserved ++ l) (reserved ps)

-- another reservation of one of them marks none
pub marks_holding : (pages : List PageValue) (k : ℕ) (d : PageValue) (hart offset : ℕ)
    → marks_of (set pages k (page_holding hart offset (get_or pages k d))) ≡ marks_of pages
marks_holding [] k d hart offset = refl
marks_holding (p ∷ ps) zero d hart offset = refl
marks_holding (p ∷ ps) (suc k) d hart offset = ap (λ (l : List Bool). p.marked ∷ l) (marks_holding ps k d hart offset)

-- as a set of pages has them
pub acted_marks : (value pages : List PageValue) (k : ℕ) (actor : ActorId) (op : Op) (old new : PageValue) (reply : Reply)
    → value ≡ pages → old ≡ get_or pages k old → new ≡ (page_touch old actor op).1 → reply ≡ (page_touch old actor op).0
    → marks_of (set pages k new) ≡ marks_after (PlaceId.Page k) (marks_of value) op reply
acted_marks value pages k actor op old new reply view was now is =
    let touched : Reply × PageValue = page_touch (get_or pages k old) actor op in
    ap (λ (p : PageValue). marks_of (set pages k p)) (now ∙ ap (λ (p : PageValue). (page_touch p actor op).1) was)
    ∙ marks_touched pages k old actor op
    ∙ ap (λ (l : List PageValue). marks_after (PlaceId.Page k) (marks_of l) op touched.0) (sym view)
    ∙ ap (λ (r : Reply). marks_after (PlaceId.Page k) (marks_of value) op r)
    (sym (is ∙ ap (λ (p : PageValue). (page_touch p actor op).0) was))

pub held_marks : (value pages : List PageValue) (k hart offset : ℕ) (old new : PageValue) → value ≡ pages
    → old ≡ get_or pages k old → new ≡ page_holding hart offset old → marks_of (set pages k new) ≡ marks_of value
held_marks value pages k hart offset old new view was now =
    ap (λ (p : PageValue). marks_of (set pages k p)) (now ∙ ap (page_holding hart offset) was)
    ∙ marks_holding pages k old hart offset
    ∙ ap marks_of (sym view)

-- numbers of marked pages, as many as were looked at
behind_here : (pages : List PageValue) (k : ℕ) (d : PageValue) → k < length pages
    → drop k (marks_of pages) ≡ (get_or pages k d).marked ∷ drop (suc k) (marks_of pages)
behind_here [] k d lt = absurd (omega arith)
behind_here (p ∷ ps) zero d lt = refl
behind_here (p ∷ ps) (suc k) d lt = behind_here ps k d (omega (arith, lt))

all_behind : (marks : List Bool) (k : ℕ) → length marks ≤ k → drop k marks ≡ []
all_behind [] zero long = refl
all_behind [] (suc k) long = refl
all_behind (b ∷ marks) zero long = absurd (omega arith)
all_behind (b ∷ marks) (suc k) long = all_behind marks k (omega arith)

next_number : (k : ℕ) → suc k ≡ k + 1
next_number k = omega arith

module _ (pages : List PageValue) (k : ℕ) (d : PageValue) (numbers all : List ℕ) (lt : k < length pages)
    (so_far : numbers ++ marked_from k (drop k (marks_of pages)) ≡ all) where
  abbrev Ends : List ℕ → ℕ → Type 0
  Ends found n = found ++ marked_from n (drop n (marks_of pages)) ≡ all

  here : numbers ++ marked_from k ((get_or pages k d).marked ∷ drop (suc k) (marks_of pages)) ≡ all
  here = ap (λ (l : List Bool). numbers ++ marked_from k l) (sym (behind_here pages k d lt)) ∙ so_far

  pub one_marked : (get_or pages k d).marked ≡ true → Ends (numbers ++ k ∷ []) (k + 1)
  one_marked is =
      subst (Ends (numbers ++ k ∷ [])) (next_number k)
      (append_assoc numbers (k ∷ []) (marked_from (suc k) (drop (suc k) (marks_of pages)))
      ∙ ap (λ (b : Bool). numbers ++ marked_from k (b ∷ drop (suc k) (marks_of pages))) (sym is) ∙ here)

  pub none_marked : (get_or pages k d).marked ≡ false → Ends numbers (k + 1)
  none_marked is =
      subst (Ends numbers) (next_number k)
      (ap (λ (b : Bool). numbers ++ marked_from k (b ∷ drop (suc k) (marks_of pages))) (sym is) ∙ here)

pub all_marked : (pages : List PageValue) (k : ℕ) (numbers all : List ℕ) → length pages ≤ k
    → numbers ++ marked_from k (drop k (marks_of pages)) ≡ all → numbers ≡ all
all_marked pages k numbers all long so_far =
    let none = all_behind (marks_of pages) k (omega (arith, long, length-map pages (λ (p : PageValue). p.marked))) in
    sym (append-nil numbers) ∙ ap (λ (l : List Bool). numbers ++ marked_from k l) (sym none) ∙ so_far
