-- Stored pages that are looked at one by one.
use Rattle.std.proofs.Common.{◌≡◌, ℕ, Result, Ok, Err, subst, ◌+◌, ◌*◌, ◌-◌, ◌<◌, ◌≤◌, ◌&&◌, Bool, true, false, not, List, length, drop, take, Option, Some, None, sym, ap, ◌∙◌, arith}
use Rattle.std.specs.Prelude.{IfOk}
use Rattle.vm_outside.specs.Filing.{IsReadAt}
use Rattle.file_format.specs.Readers.{are_zeros}
use Rattle.snap_diff.specs.declared.header.DiffHeader.{DiffHeader}
use Rattle.snap_diff.specs.declared.run.Run.{Run}
use Rattle.snap_diff.specs.Runs.{kinds_of}
use Rattle.snap_diff.proofs.Filled.{all_of, kinds_from}
use Rattle.snapshot_merge.specs.declared.error.RebaseError.{RebaseError}
use Rattle.snapshot_merge.specs.declared.finding.DiffStart.{DiffStart}
use Rattle.snapshot_merge.specs.Answering.{AreRunsOf, IsHeader, IsWhole}

page_read : (content : Option (List ℕ)) (given page : List ℕ) (at place i : ℕ) → content ≡ Some given → IsReadAt content place page
    → place ≡ at + 4096 * i → length page ≡ 4096 → page ≡ take 4096 (drop (at + 4096 * i) given)
page_read None given page at place i is read here size = absurd cc
page_read (Some found) given page at place i is read here size =
    let same : found ≡ given = cc in
    read.1
    ∙ ap (λ (n : ℕ). take n (drop place found)) size
    ∙ ap (λ (l : List ℕ). take 4096 (drop place l)) same
    ∙ ap (λ (n : ℕ). take 4096 (drop n given)) here

module _ (content : Option (List ℕ)) (given page : List ℕ) (at place count i : ℕ) (b : Bool) (there : content ≡ Some given) (read : IsReadAt content place page)
    (here : place ≡ at + 4096 * i) (size : length page ≡ 4096) (lt : i < count) (judged : b ≡ not (are_zeros page)) where
  kind_is : (c : Bool) → b ≡ c → not (are_zeros (take 4096 (drop (at + 4096 * i) given))) ≡ c
  kind_is c is = ap (λ (l : List ℕ). not (are_zeros l)) (sym (page_read content given page at place i there read here size)) ∙ sym judged ∙ is

  all_from : (c : Bool) → b ≡ c → all_of (kinds_of (count - i) (drop (at + 4096 * i) given)) ≡ (c && all_of (kinds_of (count - (i + 1)) (drop (at + 4096 * (i + 1)) given)))
  all_from c is = ap all_of (kinds_from given at count i lt) ∙ ap (λ (k : Bool). k && all_of (kinds_of (count - (i + 1)) (drop (at + 4096 * (i + 1)) given))) (kind_is c is)

  pub next_filled : b ≡ true → all_of (kinds_of (count - (i + 1)) (drop (at + 4096 * (i + 1)) given)) ≡ all_of (kinds_of (count - i) (drop (at + 4096 * i) given))
  next_filled is = sym (all_from true is)

  pub not_filled : b ≡ false → false ≡ all_of (kinds_of (count - i) (drop (at + 4096 * i) given))
  not_filled is = sym (all_from false is)

pub end_filled : (given : List ℕ) (at count i : ℕ) → count ≤ i → true ≡ all_of (kinds_of (count - i) (drop (at + 4096 * i) given))
end_filled given at count i all =
    let none : 0 ≡ count - i = omega (arith, all) in
    ap (λ (k : ℕ). all_of (kinds_of k (drop (at + 4096 * i) given))) none

pub first_kinds : (given : List ℕ) (at count : ℕ) → all_of (kinds_of (count - 0) (drop (at + 4096 * 0) given)) ≡ all_of (kinds_of count (drop at given))
first_kinds given at count =
    let all : count - 0 ≡ count = omega arith in
    let here : at + 4096 * 0 ≡ at = omega arith in
    ap (λ (k : ℕ). all_of (kinds_of k (drop (at + 4096 * 0) given))) all ∙ ap (λ (k : ℕ). all_of (kinds_of count (drop k given))) here

-- what passed is as it was read
pub whole_by : (r : Result DiffStart RebaseError) (h : DiffHeader) (runs : List Run) → IsHeader h → AreRunsOf h runs
    → IfOk r (λ found. (found.header ≡ h) × (found.runs ≡ runs)) → IfOk r (λ found. IsWhole found.header found.runs)
whole_by (Ok found) h runs head are kept =
    subst (λ (k : DiffHeader). IsWhole k found.runs) (sym kept.0)
    (subst (λ (l : List Run). IsWhole h l) (sym kept.1) (record { head = head; runs_are = are }))
whole_by (Err why) h runs head are kept = tt
