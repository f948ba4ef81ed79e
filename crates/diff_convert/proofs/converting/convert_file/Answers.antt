use Rattle.std.proofs.Common.{◌∙◌, ℕ, ◌+◌, ◌*◌, take, drop, ap, inl, refl, sym}
use Rattle.std.specs.FinMap.{get}
use Rattle.vm_types.specs.Saved.{Saved}
use Rattle.vm_outside.proofs.Passing.{same_more}
use Rattle.diff_convert.specs.Converting.{found_in}
use Rattle.diff_convert.proofs.Leaving.{diff_here, equal_names, found_other, full_here, leaves_on, not_found, start_of}
use Rattle.diff_convert.proofs.converting.convert_file.Goals as goal

pub returns-then-are_same-clause-leaves : goal.returns-then-are_same-clause-leaves
returns-then-are_same-clause-leaves g c = λ told.
    record {
      found = equal_names (g.F.Files.known c.args.files.now).saved c.args.from.now c.args.to.now (sym c.are_same.ensures ∙ c.if-are_same.true);
      same = record { saved = refl; calls = refl };
    }

pub returns-in-Err-clause-leaves : goal.returns-in-Err-clause-leaves
returns-in-Err-clause-leaves g c = λ told.
    not_found c.args.from.now c.args.to.now c.in-Err.why _ _ (sym c.are_same.ensures ∙ c.if-are_same.false) (c.in-Err.ensures.finds told) (c.in-Err.ensures.same told)

pub returns-in-Ok-pages_of-clause-leaves : goal.returns-in-Ok-pages_of-clause-leaves
returns-in-Ok-pages_of-clause-leaves g c = λ told.
    let known = g.F.Files.known in
    let from = c.args.from.now in
    let to = c.args.to.now in
    let other = sym c.are_same.ensures ∙ c.if-are_same.false in
    let found = c.in-Ok.ensures.finds told in
    let there = start_of (get (known c.args.files.now).saved from) c.in-Ok.start found.0 found.1.1 in
    let told2 = c.in-Ok.ensures.lasts.still told in
    let told3 = c.in-Ok-pages_of.ensures.lasts.still told2 in
    let same = c.in-Ok.ensures.same told in
    let both = same_more _ _ _ same (c.in-Ok-pages_of.ensures.same told2) in
    let read = c.in-Ok-pages_of.ensures.bytes told2 there.0 (ap (λ (m : Saved). get m from) same.saved ∙ there.1)
    ∙ ap (λ (n : ℕ). take (4096 * c.in-Ok.start.header.stored) (drop (64 + n) there.0)) c.table_size.ensures.size in
    leaves_on from to c.write_found.result _ _ _ both
    (c.write_found.ensures.leaves told3 from found.0
    (ap (λ (m : Saved). found_in m from to) both.saved ∙ found_other (known c.args.files.now).saved from to other ∙ found.1.0)
    (full_here there.0 c.in-Ok.start found.0 there.2 _ read) (diff_here there.0 c.in-Ok.start found.0 there.2 _ read))

pub returns-in-Err-Fault-clause-leaves : goal.returns-in-Err-Fault-clause-leaves
returns-in-Err-Fault-clause-leaves g c = λ told.
    inl (same_more _ _ _ (c.in-Ok.ensures.same told) (c.pages_of.ensures.same (c.in-Ok.ensures.lasts.still told)))

pub returns-clause-leaves : goal.returns-clause-leaves
returns-clause-leaves g c = λ told.
    same_more _ _ _ (c.in-Ok.ensures.same told) (c.pages_of.ensures.same (c.in-Ok.ensures.lasts.still told))
