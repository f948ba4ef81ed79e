-- What a torn write of a merge leaves in its place: bytes, that are a name, a byte or pages.
use Rattle.std.proofs.Common.{◌≡◌, ◌<◌, ◌≤◌, ℕ, zero, suc, ◌+◌, ◌*◌, ◌-◌, ◌%◌, true, List, [], ◌∷◌, ◌++◌, length, take, drop, get_or, inl, inr, refl, sym, ◌∙◌, ap, subst, arith, length-append, length-drop}
use Rattle.std.specs.Int.{w64, from_le_bytes, to_le_bytes}
use Rattle.std.proofs.lemmas.Bool.{cases_lt}
use Rattle.std.proofs.lemmas.List.{drop_at, get_or_past, length-take-le, take-append-drop, take_at}
use Rattle.vm_types.specs.Saved.{written}
use Rattle.vm_types.specs.declared.identity.Identity.{Identity}
use Rattle.gate_file.specs.Stages.{AreInside, AreLike, AreOfBytes, IsTorn, written_all}
use Rattle.gate_file.proofs.Tearing.{length-put, put_inside, put_outside, written_put}
use Rattle.file_format.specs.Format.{IsBytes}
use Rattle.file_format.specs.Identities.{identity}
use Rattle.file_format.specs.Kinds.{number64}
use Rattle.file_format.specs.Laws.{wide64}
use Rattle.snap_diff.specs.Copies.{rises}
use Rattle.snap_diff.proofs.Laying.{below, others_rise}
use Rattle.snap_diff.proofs.Tables.{bytes_behind, bytes_front}
use Rattle.snapshot_merge.specs.Calls.{page_writes}
use Rattle.vm_outside.proofs.Imaging.{both_bytes}

-- ---- what are bytes

pub byte_is : (v : ℕ) → v < 256 → IsBytes (v ∷ [])
byte_is v small zero = small
byte_is v small (suc i) = omega arith

abbrev AreSmall : List ℕ → Type 0
AreSmall [] = Unit {0}
AreSmall (b ∷ bs) = (b < 256) × AreSmall bs

small_bytes : (bs : List ℕ) → AreSmall bs → IsBytes bs
small_bytes [] small i = omega arith
small_bytes (b ∷ bs) small zero = small.0
small_bytes (b ∷ bs) small (suc i) = small_bytes bs small.1 i

rest_small : (n : ℕ) → n % 256 < 256
rest_small n = omega arith

number_bytes : (n : ℕ) → IsBytes (to_le_bytes w64 n)
number_bytes n =
    small_bytes (to_le_bytes w64 n)
    (rest_small _, (rest_small _, (rest_small _, (rest_small _, (rest_small _, (rest_small _, (rest_small _, (rest_small _, tt))))))))

pub name_bytes : (i : Identity) → IsBytes (identity.bytes i)
unfolding identity number64
name_bytes i = both_bytes (to_le_bytes w64 i.lineage) (to_le_bytes w64 i.number) (number_bytes i.lineage) (number_bytes i.number)

-- ---- what is written of bytes

pub bytes_put : (text piece : List ℕ) (at : ℕ) → at + length piece ≤ length text → IsBytes piece → IsBytes text → IsBytes (written text at piece)
bytes_put text piece at inside first old k =
    subst (λ (l : List ℕ). get_or l k 0 < 256) (sym (written_put text piece at inside)) (elim (cases_lt k at) [
      | inl lt ↦ subst (λ (b : ℕ). b < 256) (sym (put_outside text piece at k inside (inl lt))) (old k)
      | inr ge ↦ elim (cases_lt k (at + length piece)) [
        | inl lt ↦ subst (λ (b : ℕ). b < 256) (sym (put_inside text piece at k inside ge lt)) (first (k - at))
        | inr past ↦ subst (λ (b : ℕ). b < 256) (sym (put_outside text piece at k inside (inr past))) (old k)
      ]
    ])

pub all_bytes : (writes : List (ℕ × List ℕ)) (text : List ℕ) → AreInside (length text) writes → AreOfBytes writes → IsBytes text → IsBytes (written_all writes text)
all_bytes [] text inside of bytes = bytes
all_bytes (w ∷ writes) text inside of bytes =
    let long : length (written text w.0 w.1) ≡ length text = ap length (written_put text w.1 w.0 inside.0) ∙ length-put text w.1 w.0 inside.0 in
    all_bytes writes (written text w.0 w.1) (subst (λ (n : ℕ). AreInside n writes) (sym long) inside.1) of.1 (bytes_put text w.1 w.0 inside.0 of.0 bytes)

-- ---- one write that is torn

pub record OneTorn (at : ℕ) (piece text left : List ℕ) : Type 0 where
  pub cells : List ℕ
  pub size : length cells ≡ length piece
  pub made : left ≡ written text at cells
  pub of_cells : IsBytes cells
  pub of_made : IsBytes (written text at cells)

cells_are : (text cells : List ℕ) (at : ℕ) → at + length cells ≤ length text → IsBytes (written text at cells) → IsBytes cells
cells_are text cells at inside bytes i = elim (cases_lt i (length cells)) [
  | inl lt ↦
      let place : at + i - at ≡ i = omega arith in
      let there : get_or (written text at cells) (at + i) 0 ≡ get_or cells i 0 =
      ap (λ (l : List ℕ). get_or l (at + i) 0) (written_put text cells at inside)
      ∙ put_inside text cells at (at + i) inside (omega arith) (omega (arith, lt)) ∙ ap (λ (k : ℕ). get_or cells k 0) place in
      subst (λ (b : ℕ). b < 256) there (bytes (at + i))
  | inr le ↦ subst (λ (b : ℕ). b < 256) (sym (get_or_past cells i 0 le)) (omega arith)
]

module _ (at : ℕ) (piece text left : List ℕ) (inside : at + length piece ≤ length text) (of : IsBytes piece) (of_text : IsBytes text) where
  by_others : (others : List (ℕ × List ℕ)) → AreLike ((at, piece) ∷ []) others → left ≡ written_all others text → IsBytes left → OneTorn at piece text left
  by_others [] like made of_left = absurd like
  by_others (v ∷ []) like made of_left =
      let is : left ≡ written text at v.1 = made ∙ ap (λ (a : ℕ). written text a v.1) like.0 in
      let long : length v.1 ≡ length piece = like.1 in
      record {
        cells = v.1;
        size = long;
        made = is;
        of_cells = cells_are text v.1 at (omega (arith, inside, long)) (subst IsBytes is of_left);
        of_made = subst IsBytes is of_left;
      }
  by_others (v ∷ w ∷ others) like made of_left = absurd like.2

  pub one_torn : IsTorn ((at, piece) ∷ []) text left → OneTorn at piece text left
  one_torn torn = by_others torn.others torn.like torn.made (torn.are_bytes (of, tt) of_text)

pub one_cell : (cells : List ℕ) → length cells ≡ 1 → IsBytes cells → (v : ℕ) × ((v < 256) × (cells ≡ v ∷ []))
one_cell [] size bytes = absurd (omega (arith, size))
one_cell (v ∷ []) size bytes = (v, (bytes 0, refl))
one_cell (v ∷ w ∷ cells) size bytes = absurd (omega (arith, size))

-- any 16 bytes are a name
pub some_name : (cells : List ℕ) → length cells ≡ 16 → IsBytes cells → (i : Identity) × (identity.Fits i × (cells ≡ identity.bytes i))
unfolding identity number64
some_name cells size bytes =
    let first : List ℕ = take 8 cells in
    let second : List ℕ = drop 8 cells in
    let front : length first ≡ 8 = length-take-le 8 cells (omega (arith, size)) in
    let back : length second ≡ 8 = omega (arith, size, length-drop 8 cells) in (
      record { lineage = from_le_bytes w64 first; number = from_le_bytes w64 second },
      (
        (wide64.below first (bytes_front 8 cells bytes), wide64.below second (bytes_behind 8 cells bytes)),
        sym (take-append-drop 8 cells)
            ∙ (λ i. sym (wide64.back first front (bytes_front 8 cells bytes)) i ++ sym (wide64.back second back (bytes_behind 8 cells bytes)) i),
      ),
    )

-- ---- the writes of pages

-- those of the same places and sizes are those of other pages
pub other_pages : (numbers pages : List ℕ) (writes : List (ℕ × List ℕ)) → 4096 * length numbers ≤ length pages → AreLike (page_writes numbers pages) writes
    → (others : List ℕ) × ((length others ≡ 4096 * length numbers) × (writes ≡ page_writes numbers others))
other_pages [] pages [] size like = ([], (omega arith, refl))
other_pages [] pages (w ∷ writes) size like = absurd like
other_pages (n ∷ ns) pages [] size like = absurd like
other_pages (n ∷ ns) pages (w ∷ writes) size (at, long, like) =
    let rest = other_pages ns (drop 4096 pages) writes (omega (arith, size, length-drop 4096 pages)) like in
    let one : length w.1 ≡ 4096 = long ∙ length-take-le 4096 pages (omega (arith, size)) in
    let later : writes ≡ page_writes ns (drop 4096 (w.1 ++ rest.0)) = rest.1.1 ∙ ap (page_writes ns) (sym (drop_at w.1 rest.0 4096 one)) in
    let this : w.1 ≡ take 4096 (w.1 ++ rest.0) = sym (take_at w.1 rest.0 4096 one) in
    (w.1 ++ rest.0, (omega (arith, length-append w.1 rest.0, one, rest.1.0), λ i. (at i, this i) ∷ later i))

pub pages_of_bytes : (numbers pages : List ℕ) → IsBytes pages → AreOfBytes (page_writes numbers pages)
pages_of_bytes [] pages bytes = tt
pages_of_bytes (n ∷ ns) pages bytes = (bytes_front 4096 pages bytes, pages_of_bytes ns (drop 4096 pages) (bytes_behind 4096 pages bytes))

pub pages_inside : (numbers pages : List ℕ) (count low : ℕ) → rises count low numbers ≡ true → 4096 * length numbers ≤ length pages
    → AreInside (4096 + 4096 * count) (page_writes numbers pages)
pages_inside [] pages count low rise size = tt
pages_inside (n ∷ ns) pages count low rise size =
    let lt = below count low n ns rise in
    let one = length-take-le 4096 pages (omega (arith, size)) in (
      omega (arith, lt, one),
      pages_inside ns (drop 4096 pages) count (suc n) (others_rise count low n ns rise) (omega (arith, size, length-drop 4096 pages)),
    )
