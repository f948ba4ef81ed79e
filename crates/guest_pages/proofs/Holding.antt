-- A granule reserved in one page, and what is reserved in the slots of one.
use Rattle.std.proofs.Common.{◌≡◌, ℕ, suc, ◌+◌, ◌*◌, ◌<◌, List, [], ◌∷◌, Some, length, take, drop, get_or, set, refl, sym, ap, ◌∙◌, arith, length-append}
use Rattle.std.specs.List.{flat_map}
use Rattle.guest_pages.specs.Flat.{ArePages}
use Rattle.guest_pages.specs.Pages.{PageValue, flat_of, held_at, page_holding}
use Rattle.guest_pages.proofs.Loading.{same_joined}
use Rattle.guest_pages.proofs.Slotted.{set_joined, slots_joined}

pub held_memory : (value pages : List PageValue) (i hart offset : ℕ) (old new : PageValue) → value ≡ pages → ArePages 0 pages
    → i < length value → hart < 32 → old ≡ get_or pages i old → new ≡ page_holding hart offset old
    → flat_of (set pages i new) ≡ held_at (32 * i + hart) offset (flat_of value)
held_memory value pages i hart offset old new view are lt few was now =
    let long = ap length view in
    let below : i < length pages = omega (arith, long, lt) in
    let slots = set_joined 0 pages i hart (Some offset) old new are below few
    (ap (λ (p : PageValue). p.reserved) now ∙ ap (λ (p : PageValue). set p.reserved hart (Some offset)) was) in
    let bytes = same_joined (λ p. p.bytes) pages i old new below
    (ap (λ (p : PageValue). p.bytes) now ∙ ap (λ (p : PageValue). p.bytes) was) in
    let here : flat_of (set pages i new) ≡ held_at (32 * i + hart) offset (flat_of pages) =
    λ k. record { bytes = bytes k; reserved = sym slots k } in
    here ∙ ap (λ (l : List PageValue). held_at (32 * i + hart) offset (flat_of l)) (sym view)

slots_count : (n : ℕ) (pages : List PageValue) → ArePages n pages → length (flat_map (λ p. p.reserved) pages) ≡ 32 * length pages
slots_count n [] are = refl
slots_count n (p ∷ ps) are =
    length-append p.reserved (flat_map (λ p. p.reserved) ps) ∙ omega (arith, are.0.slotted, slots_count (suc n) ps are.1)

pub slots_of_value : (value pages : List PageValue) (n : ℕ) → value ≡ pages → ArePages 0 pages → n ≡ length pages
    → length (flat_of value).reserved ≡ 32 * n
slots_of_value value pages n view are long =
    ap (λ (l : List PageValue). length (flat_of l).reserved) view ∙ slots_count 0 pages are ∙ ap (λ (k : ℕ). 32 * k) (sym long)

pub slots_there : (value pages : List PageValue) (i : ℕ) (d : PageValue) → value ≡ pages → ArePages 0 pages → i < length pages
    → (get_or pages i d).reserved ≡ take 32 (drop (32 * i) (flat_of value).reserved)
slots_there value pages i d view are lt =
    sym (slots_joined 0 pages i d are lt) ∙ ap (λ (l : List PageValue). take 32 (drop (32 * i) (flat_of l).reserved)) (sym view)
