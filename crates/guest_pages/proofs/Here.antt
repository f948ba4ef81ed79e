-- Bytes in a page of a set, and the pages of a set.
use Rattle.std.proofs.Common.{◌≡◌, ℕ, zero, suc, ◌+◌, ◌*◌, ◌-◌, ◌/◌, ◌%◌, ◌<◌, ◌≤◌, nat_le, Bool, true, false, cond, ◌&&◌, List, [], ◌∷◌, length, get_or, set, refl, ap, ◌∙◌, subst, arith, length-append}
use Rattle.std.specs.List.{flat_map}
use Rattle.std.proofs.lemmas.Bool.{leb-true, le-leb, and_parts}
use Rattle.vm_types.specs.declared.ids.PlaceId.{PlaceId}
use Rattle.guest_memory.specs.Ram.{ram_start, page_size, is_ram}
use Rattle.guest_memory.specs.Route.{page_of}
use Rattle.guest_pages.specs.Pages.{PageValue, page_start, is_within, flat_of}
use Rattle.guest_pages.specs.Flat.{IsPage, ArePages}

pub and_left : (a b : Bool) → (a && b) ≡ true → a ≡ true
and_left true b h = refl
and_left false b h = cc

-- the bytes, one at least, are in page i and in RAM
pub record IsHere (size i at len : ℕ) : Type 0 where
  pub some : 1 ≤ len
  pub from : page_start i ≤ at
  pub to : at + len ≤ page_start i + 4096
  pub ram : is_ram size at len ≡ true
  pub below : at - ram_start + len ≤ size

chosen : (b : Bool) (x i : ℕ) → cond b (PlaceId.Page x) PlaceId.Out ≡ PlaceId.Page i → (b ≡ true) × (x ≡ i)
chosen true x i e = (refl, cc)
chosen false x i e = cc

pub here : (size at len i : ℕ) → page_of size at len ≡ PlaceId.Page i → IsHere size i at len
here size at len i e =
    let o = at - ram_start in
    let picked = chosen (nat_le 1 len && is_ram size at len && nat_le (o % page_size + len) page_size) (o / page_size) i e in
    let both = and_left (nat_le 1 len && is_ram size at len) (nat_le (o % page_size + len) page_size) picked.0 in
    let ram = (and_parts (nat_le 1 len) (is_ram size at len) both).1 in
    let some : 1 ≤ len = leb-true 1 len (and_left (nat_le 1 len) (is_ram size at len) both) in
    let start : ram_start ≤ at = leb-true ram_start at (and_left (nat_le ram_start at) (nat_le (o + len) size) ram) in
    let below : o + len ≤ size = leb-true (o + len) size (and_parts (nat_le ram_start at) (nat_le (o + len) size) ram).1 in
    let inside : o % page_size + len ≤ page_size = leb-true (o % page_size + len) page_size (and_parts (nat_le 1 len && is_ram size at len) (nat_le (o % page_size + len) page_size) picked.0).1 in
    let number : o / page_size ≡ i = picked.1 in
    record { some = some; from = omega arith; to = omega arith; ram = ram; below = below }

pub within : (size i at len n : ℕ) → n ≡ 4096 → IsHere size i at len → is_within i n at len ≡ true
within size i at len n whole h =
    let a : nat_le 1 len ≡ true = le-leb 1 len h.some in
    let b : nat_le (page_start i) at ≡ true = le-leb (page_start i) at h.from in
    let from = h.from in
    let to = h.to in
    let c : nat_le (at - page_start i + len) n ≡ true = le-leb (at - page_start i + len) n (omega arith) in
    ap (λ (t : Bool). (t && nat_le (page_start i) at) && nat_le (at - page_start i + len) n) a ∙ ap (λ (t : Bool). t && nat_le (at - page_start i + len) n) b ∙ c

size_of : (n : ℕ) (pages : List PageValue) → ArePages n pages → length (flat_map (λ p. p.bytes) pages) ≡ 4096 * length pages
size_of n [] are = refl
size_of n (p ∷ ps) are = length-append p.bytes (flat_map (λ p. p.bytes) ps) ∙ omega (arith, are.0.whole, size_of (suc n) ps are.1)

pub size_of_pages : (pages : List PageValue) → ArePages 0 pages → length (flat_of pages).bytes ≡ 4096 * length pages
size_of_pages pages are = size_of 0 pages are

pub page_at : (n : ℕ) (pages : List PageValue) (i : ℕ) (d : PageValue) → ArePages n pages → i < length pages → IsPage (n + i) (get_or pages i d)
page_at n [] i d are lt = absurd (omega arith)
page_at n (p ∷ ps) zero d are lt = let e : n ≡ n + 0 = omega arith in subst (λ (k : ℕ). IsPage k p) e are.0
page_at n (p ∷ ps) (suc i) d are lt = let e : suc n + i ≡ n + suc i = omega arith in subst (λ (k : ℕ). IsPage k (get_or ps i d)) e (page_at (suc n) ps i d are.1 (omega arith))

pub pages_set : (n : ℕ) (pages : List PageValue) (i : ℕ) (q : PageValue) → ArePages n pages → IsPage (n + i) q → ArePages n (set pages i q)
pages_set n [] i q are is = are
pages_set n (p ∷ ps) zero q are is = let e : n + 0 ≡ n = omega arith in (subst (λ (k : ℕ). IsPage k q) e is, are.1)
pages_set n (p ∷ ps) (suc i) q are is = let e : n + suc i ≡ suc n + i = omega arith in (are.0, pages_set (suc n) ps i q are.1 (subst (λ (k : ℕ). IsPage k q) e is))
