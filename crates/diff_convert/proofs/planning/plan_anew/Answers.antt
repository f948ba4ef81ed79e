use Rattle.std.proofs.Common.{◌≡◌, ◌*◌, ◌∙◌, ℕ, ap, length, List, refl, arith}
use Rattle.file_format.specs.declared.version.Version.{Version}
use Rattle.guest_pages.specs.Pages.{flat_of}
use Rattle.snap_diff.specs.declared.run.Run.{Run}
use Rattle.snap_diff.specs.Diffs.{are_stored}
use Rattle.snap_diff.specs.Headers.{header}
use Rattle.snap_writer.specs.Selected.{are_there}
use Rattle.diff_convert.proofs.Planned.{few_made, few_some, head_now, pages_now, table_now, there_now}
use Rattle.diff_convert.proofs.planning.plan_anew.Goals as goal

pub overflow_cast-count : goal.overflow_cast-count
overflow_cast-count c =
    let h = c.args.start.now.header in
    let runs = c.args.start.now.runs in
    let bytes = (flat_of c.args.pages.now.pages).bytes in
    let size = c.len-size.ensures.bytes ∙ ap (λ (n : ℕ). 4096 * n) (c.len-size.ensures.pages ∙ c.requires.pages) in
    let full = ap (λ (v : Version). are_stored v h.stored bytes) c.requires.version in
    let few =
    few_made h runs bytes c.requires.whole size full c.requires.version _ _ refl refl c.in_ok-runs.stored.items c.in_ok-runs.runs
    c.in_ok-runs.ensures.runs c.in_ok-runs.ensures.stored in
    omega (arith, few, c.requires.pages, c.requires.few, ap (λ (l : List Run). length l) c.as_slice-table.ensures)

pub overflow_cast-filled : goal.overflow_cast-filled
overflow_cast-filled c =
    let h = c.args.start.now.header in
    let runs = c.args.start.now.runs in
    let bytes = (flat_of c.args.pages.now.pages).bytes in
    let size = c.len-size.ensures.bytes ∙ ap (λ (n : ℕ). 4096 * n) (c.len-size.ensures.pages ∙ c.requires.pages) in
    let full = ap (λ (v : Version). are_stored v h.stored bytes) c.requires.version in
    let few =
    few_some h runs bytes c.requires.whole size full c.requires.version _ _ refl refl c.in_ok-runs.stored.items c.in_ok-runs.runs
    c.in_ok-runs.ensures.runs c.in_ok-runs.ensures.stored in
    omega (arith, few, c.requires.pages, c.requires.few, c.len-filled.ensures, c.in_ok-runs.stored.ok.0)

pub encode_behind_gate-requires-clause-names : goal.encode_behind_gate-requires-clause-names
encode_behind_gate-requires-clause-names c = c.requires.whole.head.names

pub encode_behind_gate-requires-clause-table : goal.encode_behind_gate-requires-clause-table
encode_behind_gate-requires-clause-table c =
    let h = c.args.start.now.header in
    let runs = c.args.start.now.runs in
    let bytes = (flat_of c.args.pages.now.pages).bytes in
    let size = c.len-size.ensures.bytes ∙ ap (λ (n : ℕ). 4096 * n) (c.len-size.ensures.pages ∙ c.requires.pages) in
    let full = ap (λ (v : Version). are_stored v h.stored bytes) c.requires.version in
    let many : c.len-filled.result ≡ length c.in_ok-runs.stored.items = c.len-filled.ensures ∙ c.in_ok-runs.stored.ok.0 in
    table_now h runs bytes c.requires.whole size full c.requires.version _ _ refl refl c.in_ok-runs.stored.items c.in_ok-runs.runs
    c.in_ok-runs.ensures.runs c.in_ok-runs.ensures.stored c.as_slice-table.result.now (length c.as_slice-table.result.now) c.len-filled.result
    c.as_slice-table.ensures many

pub returns-clause-plans : goal.returns-clause-plans
returns-clause-plans c = λ full.
    let h = c.args.start.now.header in
    let runs = c.args.start.now.runs in
    let bytes = (flat_of c.args.pages.now.pages).bytes in
    let size = c.len-size.ensures.bytes ∙ ap (λ (n : ℕ). 4096 * n) (c.len-size.ensures.pages ∙ c.requires.pages) in
    let many : c.len-filled.result ≡ length c.in_ok-runs.stored.items = c.len-filled.ensures ∙ c.in_ok-runs.stored.ok.0 in
    record {
      head_is = head_now h runs bytes c.requires.whole size full c.requires.version _ _ refl refl c.in_ok-runs.stored.items c.in_ok-runs.runs
          c.in_ok-runs.ensures.runs c.in_ok-runs.ensures.stored c.as_slice-table.result.now _ c.len-filled.result c.in_ok-head.head.items
          c.as_slice-table.ensures refl many c.in_ok-head.ensures.bytes;
      pages_are = pages_now h runs bytes c.requires.whole size full c.requires.version _ _ refl refl c.in_ok-runs.stored.items c.in_ok-runs.runs
          c.in_ok-runs.ensures.runs c.in_ok-runs.ensures.stored;
    }

pub returns-clause-there : goal.returns-clause-there
returns-clause-there c =
    let h = c.args.start.now.header in
    let runs = c.args.start.now.runs in
    let bytes = (flat_of c.args.pages.now.pages).bytes in
    let size = c.len-size.ensures.bytes ∙ ap (λ (n : ℕ). 4096 * n) (c.len-size.ensures.pages ∙ c.requires.pages) in
    let full = ap (λ (v : Version). are_stored v h.stored bytes) c.requires.version in
    ap (are_there c.in_ok-runs.stored.items) c.requires.pages
    ∙ there_now h runs bytes c.requires.whole size full c.requires.version _ _ refl refl c.in_ok-runs.stored.items c.in_ok-runs.runs
    c.in_ok-runs.ensures.runs c.in_ok-runs.ensures.stored
