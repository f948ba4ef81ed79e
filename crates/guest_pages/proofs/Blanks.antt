-- A page that isn't made reads as zeros, and what an act does with one.
use Rattle.std.proofs.Common.{◌≡◌, ℕ, zero, suc, ◌+◌, ◌-◌, ◌≤◌, ◌==◌, nat_le, nat_lt, Bool, true, false, cond, not, ◌&&◌, List, [], ◌∷◌, ◌++◌, Option, Some, None, length, take, drop, set, replicate, refl, sym, ap, ◌∙◌, arith}
use Rattle.std.proofs.lemmas.Bool.{and_parts, eqb-true, leb-true}
use Rattle.std.proofs.lemmas.List.{take-replicate, drop-replicate, replicate-append-replicate}
use Rattle.vm_types.specs.declared.ids.ActorId.{ActorId}
use Rattle.vm_types.specs.declared.ids.ActorId.TheVariants.{Hart}
use Rattle.vm_types.specs.declared.op.Op.{Op}
use Rattle.vm_types.specs.declared.op.Op.TheVariants.{Read, Write, Amo, Lr, Sc}
use Rattle.vm_types.specs.declared.reply.Reply.{Reply}
use Rattle.vm_types.specs.declared.reply.Reply.TheVariants.{Done, Bytes, Word, AccessFault}
use Rattle.guest_memory.specs.Amo.{amo_value}
use Rattle.le_fields.specs.Fields.{bytes_of}
use Rattle.guest_memory.specs.Memory.{put_at}
use Rattle.guest_memory.specs.Reserved.{granule_of, held_by, hart_limit, holding, is_granule, unreserved}
use Rattle.guest_memory.specs.Words.{width_of, word_bytes}
use Rattle.guest_pages.specs.Made.{Takes, are_zeros}
use Rattle.guest_pages.specs.Marks.{leaves}
use Rattle.guest_pages.specs.Pages.{PageValue, is_within, page_start, page_read, page_word, page_written, page_made, page_reserving, page_touch, new_page, made_page, patched}
use Rattle.guest_pages.proofs.Here.{and_left}

-- what is read of zeros is zeros
pub zeros_read : (number at len : ℕ) → is_within number 4096 at len ≡ true → page_read (new_page number) at len ≡ replicate len 0
zeros_read number at len within =
    let o : ℕ = at - page_start number in
    let room : o + len ≤ 4096 = leb-true (o + len) 4096 (and_parts (nat_le 1 len && nat_le (page_start number) at) (nat_le (o + len) 4096) within).1 in
    ap (take len) (drop-replicate {X = ℕ} o 4096 0) ∙ take-replicate {X = ℕ} len (4096 - o) 0 (omega (arith, room))

pub no_bytes : (width : ℕ) → bytes_of width 0 ≡ replicate width 0
no_bytes zero = refl
no_bytes (suc width) = ap (λ (l : List ℕ). 0 ∷ l) (no_bytes width)

-- zeros that are put among zeros
all_zeros : (piece : List ℕ) → are_zeros piece ≡ true → piece ≡ replicate (length piece) 0
all_zeros [] are = refl
all_zeros (b ∷ piece) are =
    let first : b ≡ 0 = eqb-true b 0 (and_left (b == 0) (are_zeros piece) are) in
    let rest = all_zeros piece (and_parts (b == 0) (are_zeros piece) are).1 in
    λ i. first i ∷ rest i

pub zeros_put : (piece : List ℕ) (o : ℕ) → are_zeros piece ≡ true → o + length piece ≤ 4096
    → put_at (replicate 4096 0) o piece ≡ replicate 4096 0
zeros_put piece o are room =
    let n : ℕ = length piece in
    let sum : o + n + (4096 - (o + n)) ≡ 4096 = omega (arith, room) in
    ap (λ (l : List ℕ). l ++ piece ++ drop (o + n) (replicate 4096 0)) (take-replicate {X = ℕ} o 4096 0 (omega (arith, room)))
    ∙ ap (λ (l : List ℕ). replicate o 0 ++ l ++ drop (o + n) (replicate 4096 0)) (all_zeros piece are)
    ∙ ap (λ (l : List ℕ). replicate o 0 ++ replicate n 0 ++ l) (drop-replicate {X = ℕ} (o + n) 4096 0)
    ∙ ap (λ (l : List ℕ). l ++ replicate (4096 - (o + n)) 0) (replicate-append-replicate o n 0)
    ∙ replicate-append-replicate (o + n) (4096 - (o + n)) 0
    ∙ ap (λ (k : ℕ). replicate k 0) sum

-- an act on a page that is made now is answered as one on zeros
same_first : {A B : Type 0} (b : Bool) (x y : A) (u v w z : B)
    → (let one : A × B = cond b (x, u) (y, v) in one.0) ≡ (let other : A × B = cond b (x, w) (y, z) in other.0)
same_first true x y u v w z = refl
same_first false x y u v w z = refl

pub touch_reply : (p : PageValue) (actor : ActorId) (op : Op) → (page_touch (page_made p) actor op).0 ≡ (page_touch p actor op).0
touch_reply p actor (Read at len) =
    same_first (nat_le len 64 && is_within p.number (length p.bytes) at len) (Bytes (page_read p at len)) AccessFault (page_made p) (page_made p) p p
touch_reply p actor (Write at piece) =
    same_first (is_within p.number (length p.bytes) at (length piece)) Done AccessFault (page_written p actor at piece) (page_made p) (page_written p actor at piece) p
touch_reply p actor (Amo at value kind wide) =
    let q : PageValue = page_written p actor at (word_bytes wide (amo_value kind wide (page_word p at wide) value)) in
    same_first (is_within p.number (length p.bytes) at (width_of wide)) (Word (page_word p at wide)) AccessFault q (page_made p) q p
touch_reply p actor (Lr at wide) =
    let q : PageValue = page_made (page_reserving p actor (Some (granule_of at))) in
    same_first (is_within p.number (length p.bytes) at (width_of wide)) (Word (page_word p at wide)) AccessFault q (page_made p) q p
touch_reply p actor (Sc at value wide) = by_test (is_within p.number (length p.bytes) at (width_of wide)) (is_granule (granule_of at) (held_by p.reserved 0 actor))
  where
    by_test : (b c : Bool)
        → (let one : Reply × PageValue = cond b (cond c (Word 0, page_reserving (page_written p actor at (word_bytes wide value)) actor None) (Word 1, page_made (page_reserving p actor None))) (AccessFault, page_made p) in one.0)
        ≡ (let other : Reply × PageValue = cond b (cond c (Word 0, page_reserving (page_written p actor at (word_bytes wide value)) actor None) (Word 1, page_reserving p actor None)) (AccessFault, p) in other.0)
    by_test true true = refl
    by_test true false = refl
    by_test false c = refl
touch_reply p actor op = refl

-- and leaves the same, where it leaves something
pub touch_left : (p : PageValue) (actor : ActorId) (op : Op) → leaves op (page_touch p actor op).0 ≡ true
    → (page_touch (page_made p) actor op).1 ≡ (page_touch p actor op).1
touch_left p actor (Read at len) is = cc
touch_left p actor (Write at piece) is = by_test (is_within p.number (length p.bytes) at (length piece)) is
  where
    by_test : (b : Bool) → leaves (Write at piece) (let one : Reply × PageValue = cond b (Done, page_written p actor at piece) (AccessFault, p) in one.0) ≡ true
        → (let one : Reply × PageValue = cond b (Done, page_written p actor at piece) (AccessFault, page_made p) in one.1)
        ≡ (let other : Reply × PageValue = cond b (Done, page_written p actor at piece) (AccessFault, p) in other.1)
    by_test true is = refl
    by_test false is = cc
touch_left p actor (Amo at value kind wide) is = by_test (page_written p actor at (word_bytes wide (amo_value kind wide (page_word p at wide) value))) (is_within p.number (length p.bytes) at (width_of wide)) is
  where
    by_test : (q : PageValue) (b : Bool) → leaves (Amo at value kind wide) (let one : Reply × PageValue = cond b (Word (page_word p at wide), q) (AccessFault, p) in one.0) ≡ true
        → (let one : Reply × PageValue = cond b (Word (page_word p at wide), q) (AccessFault, page_made p) in one.1)
        ≡ (let other : Reply × PageValue = cond b (Word (page_word p at wide), q) (AccessFault, p) in other.1)
    by_test q true is = refl
    by_test q false is = cc
touch_left p actor (Lr at wide) is = by_test (page_made (page_reserving p actor (Some (granule_of at)))) (is_within p.number (length p.bytes) at (width_of wide)) is
  where
    by_test : (q : PageValue) (b : Bool) → leaves (Lr at wide) (let one : Reply × PageValue = cond b (Word (page_word p at wide), q) (AccessFault, p) in one.0) ≡ true
        → (let one : Reply × PageValue = cond b (Word (page_word p at wide), q) (AccessFault, page_made p) in one.1)
        ≡ (let other : Reply × PageValue = cond b (Word (page_word p at wide), q) (AccessFault, p) in other.1)
    by_test q true is = refl
    by_test q false is = cc
touch_left p actor (Sc at value wide) is = by_test (page_reserving (page_written p actor at (word_bytes wide value)) actor None) (is_within p.number (length p.bytes) at (width_of wide)) (is_granule (granule_of at) (held_by p.reserved 0 actor)) is
  where
    by_test : (q : PageValue) (b c : Bool)
        → leaves (Sc at value wide) (let one : Reply × PageValue = cond b (cond c (Word 0, q) (Word 1, page_reserving p actor None)) (AccessFault, p) in one.0) ≡ true
        → (let one : Reply × PageValue = cond b (cond c (Word 0, q) (Word 1, page_made (page_reserving p actor None))) (AccessFault, page_made p) in one.1)
        ≡ (let other : Reply × PageValue = cond b (cond c (Word 0, q) (Word 1, page_reserving p actor None)) (AccessFault, p) in other.1)
    by_test q true true is = refl
    by_test q true false is = cc
    by_test q false c is = cc
touch_left p actor op is = cc

-- else it leaves a page as it was in which nothing is reserved
none_set : (n k : ℕ) → set (replicate n None) k None ≡ replicate {A = Option ℕ} n None
none_set zero k = refl
none_set (suc n) zero = refl
none_set (suc n) (suc k) = ap (λ (l : List (Option ℕ)). None ∷ l) (none_set n k)

none_held : (slots : List (Option ℕ)) (actor : ActorId) → slots ≡ unreserved 1 → holding slots 0 actor None ≡ slots
unfolding unreserved
none_held slots (Hart k) none = by_test (nat_lt k hart_limit)
  where
    by_test : (b : Bool) → cond b (set slots (0 + k) None) slots ≡ slots
    by_test true = ap (λ (l : List (Option ℕ)). set l (0 + k) None) none ∙ none_set 32 (0 + k) ∙ sym none
    by_test false = refl
none_held slots actor none = refl

pub touch_nothing : (p : PageValue) (actor : ActorId) (op : Op) → p.reserved ≡ unreserved 1 → leaves op (page_touch p actor op).0 ≡ false
    → (page_touch p actor op).1 ≡ p
touch_nothing p actor (Read at len) none is = by_test (nat_le len 64 && is_within p.number (length p.bytes) at len)
  where
    by_test : (b : Bool) → (let one : Reply × PageValue = cond b (Bytes (page_read p at len), p) (AccessFault, p) in one.1) ≡ p
    by_test true = refl
    by_test false = refl
touch_nothing p actor (Write at piece) none is = by_test (is_within p.number (length p.bytes) at (length piece)) is
  where
    by_test : (b : Bool) → leaves (Write at piece) (let one : Reply × PageValue = cond b (Done, page_written p actor at piece) (AccessFault, p) in one.0) ≡ false
        → (let one : Reply × PageValue = cond b (Done, page_written p actor at piece) (AccessFault, p) in one.1) ≡ p
    by_test true is = cc
    by_test false is = refl
touch_nothing p actor (Amo at value kind wide) none is = by_test (page_written p actor at (word_bytes wide (amo_value kind wide (page_word p at wide) value))) (is_within p.number (length p.bytes) at (width_of wide)) is
  where
    by_test : (q : PageValue) (b : Bool) → leaves (Amo at value kind wide) (let one : Reply × PageValue = cond b (Word (page_word p at wide), q) (AccessFault, p) in one.0) ≡ false
        → (let one : Reply × PageValue = cond b (Word (page_word p at wide), q) (AccessFault, p) in one.1) ≡ p
    by_test q true is = cc
    by_test q false is = refl
touch_nothing p actor (Lr at wide) none is = by_test (page_made (page_reserving p actor (Some (granule_of at)))) (is_within p.number (length p.bytes) at (width_of wide)) is
  where
    by_test : (q : PageValue) (b : Bool) → leaves (Lr at wide) (let one : Reply × PageValue = cond b (Word (page_word p at wide), q) (AccessFault, p) in one.0) ≡ false
        → (let one : Reply × PageValue = cond b (Word (page_word p at wide), q) (AccessFault, p) in one.1) ≡ p
    by_test q true is = cc
    by_test q false is = refl
touch_nothing p actor (Sc at value wide) none is = by_test (page_reserving (page_written p actor at (word_bytes wide value)) actor None) (is_within p.number (length p.bytes) at (width_of wide)) (is_granule (granule_of at) (held_by p.reserved 0 actor)) is
  where
    by_test : (q : PageValue) (b c : Bool)
        → leaves (Sc at value wide) (let one : Reply × PageValue = cond b (cond c (Word 0, q) (Word 1, page_reserving p actor None)) (AccessFault, p) in one.0) ≡ false
        → (let one : Reply × PageValue = cond b (cond c (Word 0, q) (Word 1, page_reserving p actor None)) (AccessFault, p) in one.1) ≡ p
    by_test q true true is = cc
    by_test q true false is = ap (λ (slots : List (Option ℕ)). record p { reserved = slots }) (none_held p.reserved actor none)
    by_test q false c is = refl
touch_nothing p actor op none is = refl

-- an act on a page that was a blank, and what becomes of it
module _ (n : ℕ) (page new : PageValue) (actor : ActorId) (op : Op) (reply : Reply) (left : Bool) (is : page ≡ made_page n)
    (value : new ≡ (page_touch page actor op).1) (said : reply ≡ (page_touch page actor op).0) (told : left ≡ leaves op reply) where
  pub replied : reply ≡ (page_touch (new_page n) actor op).0
  replied = said ∙ ap (λ (q : PageValue). (page_touch q actor op).0) is ∙ touch_reply (new_page n) actor op

  pub put_in : left ≡ true → new ≡ (page_touch (new_page n) actor op).1
  put_in leaving =
      value ∙ ap (λ (q : PageValue). (page_touch q actor op).1) is
      ∙ touch_left (new_page n) actor op (ap (leaves op) (sym replied) ∙ sym told ∙ leaving)

  pub unchanged : left ≡ false → new_page n ≡ (page_touch (new_page n) actor op).1
  unchanged none = sym (touch_nothing (new_page n) actor op refl (ap (leaves op) (sym replied) ∙ sym told ∙ none))

  pub back : left ≡ false → new ≡ made_page new.number
  back none =
      let still : new ≡ made_page n =
      value ∙ ap (λ (q : PageValue). (page_touch q actor op).1) is
      ∙ touch_nothing (made_page n) actor op refl
      (ap (leaves op) (sym (said ∙ ap (λ (q : PageValue). (page_touch q actor op).0) is)) ∙ sym told ∙ none) in
      still ∙ ap made_page (sym (ap (λ (q : PageValue). q.number) still))

-- nothing is reserved in it
pub none_reserved : (number : ℕ) → (new_page number).reserved ≡ replicate 32 None
unfolding unreserved
none_reserved number = refl

-- zeros that are put into it leave it
pub zeros_patched : (number offset : ℕ) (piece : List ℕ) → are_zeros piece ≡ true → offset + length piece ≤ 4096
    → new_page number ≡ patched offset piece (new_page number)
zeros_patched number offset piece are room = ap (λ (bytes : List ℕ). record (new_page number) { bytes = bytes }) (sym (zeros_put piece offset are room))

-- a page that was made takes none
pub takes_none : (old new : PageValue) (n : ℕ) → old.made ≡ true → new.made ≡ true → Takes old new n n
takes_none old new n was is = record { blank = by_test old.made was; stays = λ _. is }
  where
    by_test : (b : Bool) → b ≡ true → n ≡ cond (not b && new.made) (n + 1) n
    by_test true was = refl
    by_test false was = cc
