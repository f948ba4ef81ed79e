use Rattle.std.proofs.Common.{◌≡◌, List, ℕ, length, ap, refl, sym, ◌∙◌, arith}
use Rattle.guest_pages.specs.Marks.{marked_from}
use Rattle.guest_pages.specs.Pages.{PageValue, marks_of}
use Rattle.snap_diff.specs.Copies.{pages_at}
use Rattle.snap_diff.specs.Runs.{chosen, runs_of, stored_in}
use Rattle.snap_diff.specs.declared.run.Run.{Run}
use Rattle.snap_diff.proofs.Written.{stored_chosen}
use Rattle.snap_writer.specs.Selected.{are_there}
use Rattle.monitor_plans.specs.Headings.{kinds_in}
use Rattle.snap_writer.proofs.ByKind.{are_chosen}
use Rattle.monitor_plans.proofs.Headings.{are_pages, as_many_in, diff_head_is, few_numbers, few_of, is_diff, kinds_there, memory_whole, numbers_are, numbers_rise, saved_are, table_is}
use Rattle.monitor_plans.proofs.heading.diff_heading.Goals as goal

pub runs_in-requires-clause-there : goal.runs_in-requires-clause-there
runs_in-requires-clause-there c =
    let marked : c.in-Ok.numbers.items ≡ marked_from 0 (marks_of c.pages-memory.result.now.pages) = c.in-Ok.ensures in
    ap (λ (ns : List ℕ). are_there ns (length c.pages-memory.result.now.pages)) c.deref.ensures.value
    ∙ are_pages c.pages-memory.result.now.pages c.in-Ok.numbers.items marked

pub overflow_cast-count : goal.overflow_cast-count
overflow_cast-count c =
    let ns = c.in-Ok.numbers.items in
    let few = few_numbers c.pages-memory.result.now.pages ns c.in-Ok.ensures in
    let runs : c.in-Ok-runs_in.runs ≡ runs_of ns (kinds_in c.pages-memory.result.now.pages ns) =
    c.in-Ok-runs_in.ensures.runs ∙ ap (λ (l : List ℕ). runs_of l (kinds_in c.pages-memory.result.now.pages l)) c.deref.ensures.value in
    let some : c.in-Ok-runs_in.stored.items ≡ chosen ns (kinds_in c.pages-memory.result.now.pages ns) =
    c.in-Ok-runs_in.ensures.stored ∙ ap (λ (l : List ℕ). chosen l (kinds_in c.pages-memory.result.now.pages l)) c.deref.ensures.value in
    let both = few_of (length c.pages-memory.result.now.pages) ns c.in-Ok-runs_in.stored.items (kinds_in c.pages-memory.result.now.pages ns) c.in-Ok-runs_in.runs runs some few in
    omega (arith, both.0, c.pages-memory.ensures.few, ap (λ (l : List Run). length l) c.as_slice-table.ensures)

pub overflow_cast-filled : goal.overflow_cast-filled
overflow_cast-filled c =
    let ns = c.in-Ok.numbers.items in
    let few = few_numbers c.pages-memory.result.now.pages ns c.in-Ok.ensures in
    let runs : c.in-Ok-runs_in.runs ≡ runs_of ns (kinds_in c.pages-memory.result.now.pages ns) =
    c.in-Ok-runs_in.ensures.runs ∙ ap (λ (l : List ℕ). runs_of l (kinds_in c.pages-memory.result.now.pages l)) c.deref.ensures.value in
    let some : c.in-Ok-runs_in.stored.items ≡ chosen ns (kinds_in c.pages-memory.result.now.pages ns) =
    c.in-Ok-runs_in.ensures.stored ∙ ap (λ (l : List ℕ). chosen l (kinds_in c.pages-memory.result.now.pages l)) c.deref.ensures.value in
    let both = few_of (length c.pages-memory.result.now.pages) ns c.in-Ok-runs_in.stored.items (kinds_in c.pages-memory.result.now.pages ns) c.in-Ok-runs_in.runs runs some few in
    omega (arith, both.1, c.pages-memory.ensures.few, c.len-filled.ensures)

pub encode_behind_gate-requires-clause-names : goal.encode_behind_gate-requires-clause-names
encode_behind_gate-requires-clause-names c = is_diff c.args.parent c.args.identity c.requires.numbered c.requires.parent

pub encode_behind_gate-requires-clause-table : goal.encode_behind_gate-requires-clause-table
encode_behind_gate-requires-clause-table c =
    let ns = c.in-Ok.numbers.items in
    let memory : List PageValue = c.pages-memory.result.now.pages in
    let long : length memory ≡ c.args.pages = ap (λ (ps : List PageValue). length ps) c.pages-memory.ensures.pages ∙ sym c.requires.pages in
    let many : c.len-filled.result ≡ length c.in-Ok-runs_in.stored.items = omega (arith, c.len-filled.ensures, c.in-Ok-runs_in.stored.ok.0) in
    table_is c.args.parent c.args.identity c.args.pages (length c.as_slice-table.result.now) c.len-filled.result ns c.in-Ok-runs_in.stored.items (kinds_in memory ns) c.as_slice-table.result.now
    (c.as_slice-table.ensures ∙ c.in-Ok-runs_in.ensures.runs ∙ ap (λ (l : List ℕ). runs_of l (kinds_in memory l)) c.deref.ensures.value)
    (c.in-Ok-runs_in.ensures.stored ∙ ap (λ (l : List ℕ). chosen l (kinds_in memory l)) c.deref.ensures.value)
    many (as_many_in memory ns) (numbers_rise memory c.args.pages ns long c.in-Ok.ensures)

pub returns : goal.returns
returns c =
    let w = c.args.guest.now in
    let ns = c.in-Ok.numbers.items in
    let memory : List PageValue = c.pages-memory.result.now.pages in
    let here = c.pages-memory.ensures.pages in
    let long = sym c.requires.pages in
    let runs_is : c.as_slice-table.result.now ≡ runs_of ns (kinds_in memory ns) =
    c.as_slice-table.ensures ∙ c.in-Ok-runs_in.ensures.runs ∙ ap (λ (l : List ℕ). runs_of l (kinds_in memory l)) c.deref.ensures.value in
    let some_is : c.in-Ok-runs_in.stored.items ≡ chosen ns (kinds_in memory ns) =
    c.in-Ok-runs_in.ensures.stored ∙ ap (λ (l : List ℕ). chosen l (kinds_in memory l)) c.deref.ensures.value in
    let many : c.len-filled.result ≡ length c.in-Ok-runs_in.stored.items = omega (arith, c.len-filled.ensures, c.in-Ok-runs_in.stored.ok.0) in
    let marked : ns ≡ marked_from 0 (marks_of w.pages) = c.in-Ok.ensures ∙ ap (λ (ps : List PageValue). marked_from 0 (marks_of ps)) here in
    record {
      there = ap (λ (l : List ℕ). are_there l (length w.pages)) some_is ∙ are_chosen (length w.pages) ns (kinds_in memory ns) (are_pages w.pages ns marked);
      head_is = λ g is.
          diff_head_is c.args.parent c.args.identity c.args.pages _ c.len-filled.result ns c.in-Ok-encode_behind_gate.start.items c.from_vec.result
          (kinds_in memory ns) c.as_slice-table.result.now g (numbers_are w g c.args.pages ns is long marked) (kinds_there w g memory ns is here) runs_is refl
          (many ∙ ap (λ (l : List ℕ). length l) some_is ∙ sym (stored_chosen ns (kinds_in memory ns) (as_many_in memory ns)) ∙ ap stored_in (sym runs_is))
          c.in-Ok-encode_behind_gate.ensures.bytes c.from_vec.ensures;
      pages_are = λ g is.
          ap (λ (l : List ℕ). pages_at l g.memory.bytes) some_is
          ∙ saved_are c.args.parent c.args.pages ns (kinds_in memory ns) g (numbers_are w g c.args.pages ns is long marked) (kinds_there w g memory ns is here)
          (numbers_rise w.pages c.args.pages ns long marked)
          (memory_whole w g memory _ c.args.pages is here c.len-size.ensures.bytes c.len-size.ensures.pages c.requires.pages);
    }
