use Rattle.std.proofs.Common.{◌*◌, ◌∙◌, ◌++◌, ℕ, ap, length, List}
use Rattle.file_format.specs.declared.version.Version.TheVariants.{Two}
use Rattle.guest_pages.specs.Pages.{flat_of}
use Rattle.snap_diff.specs.declared.run.Run.{Run}
use Rattle.snap_diff.specs.Diffs.{table_bytes}
use Rattle.snap_diff.specs.Headers.{header}
use Rattle.diff_convert.proofs.Planned.{head_again, pages_again}
use Rattle.diff_convert.proofs.planning.plan_again.Goals as goal

pub encode_behind_gate-requires-clause-count : goal.encode_behind_gate-requires-clause-count
encode_behind_gate-requires-clause-count c = ap (λ (l : List Run). length l) c.as_slice-table.ensures ∙ c.requires.whole.runs_are.count

pub encode_behind_gate-requires-clause-names : goal.encode_behind_gate-requires-clause-names
encode_behind_gate-requires-clause-names c = c.requires.whole.head.names

pub encode_behind_gate-requires-clause-table : goal.encode_behind_gate-requires-clause-table
encode_behind_gate-requires-clause-table c = rw c.as_slice-table.ensures c.requires.whole.runs_are.table

pub returns-clause-plans : goal.returns-clause-plans
returns-clause-plans c = λ full.
    let h = c.args.start.now.header in
    let runs = c.args.start.now.runs in
    let bytes = (flat_of c.args.pages.now.pages).bytes in
    let size = c.len-size.ensures.bytes ∙ ap (λ (n : ℕ). 4096 * n) (c.len-size.ensures.pages ∙ c.requires.pages) in
    record {
      head_is = head_again h runs bytes c.requires.whole size full c.requires.version c.in_ok-head.head.items
          (c.in_ok-head.ensures.bytes ∙ ap (λ (l : List Run). header.bytes h ++ table_bytes Two l) c.as_slice-table.ensures);
      pages_are = pages_again h runs bytes c.requires.whole size full c.requires.version;
    }
