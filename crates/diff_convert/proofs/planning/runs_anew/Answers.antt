use Rattle.std.proofs.Common.{◌≡◌, ◌*◌, ◌∙◌, Bool, ℕ, ap, length, List, sym, arith}
use Rattle.std.specs.Prelude.{◌/◌, map}
use Rattle.file_format.specs.declared.version.Version.{Version}
use Rattle.guest_pages.specs.Pages.{flat_of}
use Rattle.snap_diff.specs.declared.run.Run.{Run}
use Rattle.snap_diff.specs.Diffs.{are_stored}
use Rattle.snap_diff.specs.Runs.{chosen, kinds_of, runs_of}
use Rattle.diff_convert.proofs.Planned.{as_many, as_many_places, as_stored}
use Rattle.diff_convert.proofs.planning.runs_anew.Goals as goal

pub runs_of-requires-clause-kinds : goal.runs_of-requires-clause-kinds
runs_of-requires-clause-kinds c =
    let h = c.args.start.now.header in
    let runs = c.args.start.now.runs in
    let bytes = (flat_of c.args.pages.now.pages).bytes in
    let size = c.len-size.ensures.bytes ∙ ap (λ (n : ℕ). 4096 * n) (c.len-size.ensures.pages ∙ c.requires.pages) in
    let full = ap (λ (v : Version). are_stored v h.stored bytes) c.requires.version in
    let kinds_is : c.in_ok-kinds.kinds.items ≡ kinds_of (length bytes / 4096) bytes =
    c.in_ok-kinds.ensures ∙ ap (λ (l : List ℕ). kinds_of (length l / 4096) l) c.all.ensures in
    let firsts : c.in_ok-numbers.numbers.items ≡ map (λ (r : Run). r.first) runs =
    c.in_ok-numbers.ensures ∙ ap (λ (l : List Run). map (λ (r : Run). r.first) l) c.as_slice.ensures in
    ap (λ (l : List Bool). length l) c.deref-2.ensures.value
    ∙ as_many h runs bytes c.requires.whole size full c.requires.version c.in_ok-numbers.numbers.items c.in_ok-kinds.kinds.items firsts kinds_is
    ∙ ap (λ (l : List ℕ). length l) (sym c.deref.ensures.value)

pub runs_of-requires-clause-few : goal.runs_of-requires-clause-few
runs_of-requires-clause-few c =
    let h = c.args.start.now.header in
    let runs = c.args.start.now.runs in
    let bytes = (flat_of c.args.pages.now.pages).bytes in
    let size = c.len-size.ensures.bytes ∙ ap (λ (n : ℕ). 4096 * n) (c.len-size.ensures.pages ∙ c.requires.pages) in
    let full = ap (λ (v : Version). are_stored v h.stored bytes) c.requires.version in
    let firsts : c.in_ok-numbers.numbers.items ≡ map (λ (r : Run). r.first) runs =
    c.in_ok-numbers.ensures ∙ ap (λ (l : List Run). map (λ (r : Run). r.first) l) c.as_slice.ensures in
    let many = as_stored h runs bytes c.requires.whole size full c.requires.version c.in_ok-numbers.numbers.items firsts in
    omega (arith, ap (λ (l : List ℕ). length l) c.deref.ensures.value, many, c.requires.pages, c.requires.few)

pub chosen-requires : goal.chosen-requires
chosen-requires c =
    let h = c.args.start.now.header in
    let runs = c.args.start.now.runs in
    let bytes = (flat_of c.args.pages.now.pages).bytes in
    let size = c.len-size.ensures.bytes ∙ ap (λ (n : ℕ). 4096 * n) (c.len-size.ensures.pages ∙ c.requires.pages) in
    let full = ap (λ (v : Version). are_stored v h.stored bytes) c.requires.version in
    let kinds_is : c.in_ok-kinds.kinds.items ≡ kinds_of (length bytes / 4096) bytes =
    c.in_ok-kinds.ensures ∙ ap (λ (l : List ℕ). kinds_of (length l / 4096) l) c.all.ensures in
    let firsts : c.in_ok-numbers.numbers.items ≡ map (λ (r : Run). r.first) runs =
    c.in_ok-numbers.ensures ∙ ap (λ (l : List Run). map (λ (r : Run). r.first) l) c.as_slice.ensures in
    ap (λ (l : List Bool). length l) c.deref-4.ensures.value
    ∙ as_many_places h runs bytes c.requires.whole size full c.requires.version c.in_ok-numbers.numbers.items c.in_ok-kinds.kinds.items firsts kinds_is
    ∙ ap (λ (l : List ℕ). length l) (sym (c.deref-3.ensures.value ∙ c.in_ok-places.ensures))

pub returns-clause-runs : goal.returns-clause-runs
returns-clause-runs c =
    let runs = c.args.start.now.runs in
    let bytes = (flat_of c.args.pages.now.pages).bytes in
    let kinds_is : c.in_ok-kinds.kinds.items ≡ kinds_of (length bytes / 4096) bytes =
    c.in_ok-kinds.ensures ∙ ap (λ (l : List ℕ). kinds_of (length l / 4096) l) c.all.ensures in
    let firsts : c.in_ok-numbers.numbers.items ≡ map (λ (r : Run). r.first) runs =
    c.in_ok-numbers.ensures ∙ ap (λ (l : List Run). map (λ (r : Run). r.first) l) c.as_slice.ensures in
    c.in_ok-runs.ensures
    ∙ ap (λ (l : List ℕ). runs_of l c.deref-2.result.now) (c.deref.ensures.value ∙ firsts)
    ∙ ap (runs_of (map (λ (r : Run). r.first) runs)) (c.deref-2.ensures.value ∙ kinds_is)

pub returns-clause-stored : goal.returns-clause-stored
returns-clause-stored c =
    let bytes = (flat_of c.args.pages.now.pages).bytes in
    let kinds_is : c.in_ok-kinds.kinds.items ≡ kinds_of (length bytes / 4096) bytes =
    c.in_ok-kinds.ensures ∙ ap (λ (l : List ℕ). kinds_of (length l / 4096) l) c.all.ensures in
    c.in_ok-stored.ensures
    ∙ ap (λ (l : List ℕ). chosen l c.deref-4.result.now) (c.deref-3.ensures.value ∙ c.in_ok-places.ensures)
    ∙ ap (chosen _) (c.deref-4.ensures.value ∙ kinds_is)
