use Rattle.std.proofs.Common.{drop, subst}
use Rattle.http_front.specs.declared.found.Finding.{Finding}
use Rattle.http_front.specs.Told.{Tells}
use Rattle.http_front.proofs.Held.{bad_not_quiet, bad_taken, few_taken, known_after, live_at, size_fits, whole_not_quiet, whole_taken}
use Rattle.http_front.proofs.front.Front.skip.Goals as goal

pub invariant_of-self : goal.invariant_of-self
invariant_of-self c =
    let b = c.self.inside.bytes.items in
    let lies = subst (λ (f : Finding). Tells (drop c.self.inside.taken b) c.self.inside.spans.items f) c.in-Whole.is c.self.invariant.2 in
    known_after b c.deref.result.now _ c.self.inside.spans.items c.deref_mut.result.now c.look-self-inside.new.spans _ c.look-self-inside.result
    c.deref.ensures.value (size_fits b c.self.inside.taken c.self.inside.spans.items c.in-Whole.place c.self.invariant.0 lies) c.self.invariant.1
    c.look-self-inside.auto.spans c.deref_mut.ensures.value c.deref_mut.ensures.len c.look-self-inside.ensures

pub returns-in-TooFew-clause-taken : goal.returns-in-TooFew-clause-taken
returns-in-TooFew-clause-taken c = λ g d takes.
    let b = c.self.inside.bytes.items in
    let told = subst (λ (f : Finding). Tells (drop c.self.inside.taken b) c.self.inside.spans.items f) c.in-TooFew.is c.self.invariant.2 in
    absurd (few_taken c.args.self.now (drop c.self.inside.taken b) c.self.inside.spans.items c.in-TooFew.field-0 g d
    (live_at c.args.self.now b c.self.inside.taken c.self.inside.failed c.self.view_is c.if-self.false) told takes)

pub returns-in-Whole-clause-taken : goal.returns-in-Whole-clause-taken
returns-in-Whole-clause-taken c = λ g d takes.
    let b = c.self.inside.bytes.items in
    let lies = subst (λ (f : Finding). Tells (drop c.self.inside.taken b) c.self.inside.spans.items f) c.in-Whole.is c.self.invariant.2 in
    whole_taken c.args.self.now b c.self.inside.taken c.self.inside.failed c.self.inside.spans.items c.in-Whole.place g d
    (live_at c.args.self.now b c.self.inside.taken c.self.inside.failed c.self.view_is c.if-self.false) c.if-self.false lies takes

pub returns-in-Whole-clause-quiet : goal.returns-in-Whole-clause-quiet
returns-in-Whole-clause-quiet c = λ quiet.
    let b = c.self.inside.bytes.items in
    let lies = subst (λ (f : Finding). Tells (drop c.self.inside.taken b) c.self.inside.spans.items f) c.in-Whole.is c.self.invariant.2 in
    absurd (whole_not_quiet c.args.self.now (drop c.self.inside.taken b) c.self.inside.spans.items c.in-Whole.place
    (live_at c.args.self.now b c.self.inside.taken c.self.inside.failed c.self.view_is c.if-self.false) lies quiet)

pub returns-in-Bad-clause-taken : goal.returns-in-Bad-clause-taken
returns-in-Bad-clause-taken c = λ g d takes.
    let b = c.self.inside.bytes.items in
    let bad = subst (λ (f : Finding). Tells (drop c.self.inside.taken b) c.self.inside.spans.items f) c.in-Bad.is c.self.invariant.2 in
    bad_taken c.args.self.now (drop c.self.inside.taken b) _ c.in-Bad.field-0 g d
    (live_at c.args.self.now b c.self.inside.taken c.self.inside.failed c.self.view_is c.if-self.false) bad c.clear.ensures.items takes

pub returns-in-Bad-clause-quiet : goal.returns-in-Bad-clause-quiet
returns-in-Bad-clause-quiet c = λ quiet.
    let b = c.self.inside.bytes.items in
    let bad = subst (λ (f : Finding). Tells (drop c.self.inside.taken b) c.self.inside.spans.items f) c.in-Bad.is c.self.invariant.2 in
    absurd (bad_not_quiet c.args.self.now (drop c.self.inside.taken b) c.in-Bad.field-0
    (live_at c.args.self.now b c.self.inside.taken c.self.inside.failed c.self.view_is c.if-self.false) bad quiet)
