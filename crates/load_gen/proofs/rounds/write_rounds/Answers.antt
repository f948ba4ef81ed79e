use Rattle.std.proofs.Common.{subst, ap, ◌∙◌, ◌≡◌, ◌+◌, ◌<◌, ◌++◌, arith, ℕ, suc, List}
use Rattle.vm_outside.specs.Passing.{TakesPart}
use Rattle.load_gen.specs.Load.{rounds, text_of}
use Rattle.load_gen.proofs.Texts.{both_turns, round_cut, round_is, round_taken}
use Rattle.load_gen.proofs.rounds.write_rounds.Goals as goal

pub returns-in_default-clause-takes : goal.returns-in_default-clause-takes
returns-in_default-clause-takes g c = λ told.
    let so_far = c.loop-before.invariant in
    let within : c.loop-before.before < c.rounds_of-count.result = omega (arith, c.loop-before-test.true) in
    subst (λ (n : ℕ). TakesPart (g.K.Sink.known c.args.sink.now).taken (g.K.Sink.known c.write_round.new.sink).taken (text_of (rounds c.args.number n)))
    c.rounds_of-count.ensures.is
    (round_cut c.args.number c.loop-before.before c.rounds_of-count.result _ _ _ within (so_far.taken told)
    (subst (λ (t : List ℕ). TakesPart (g.K.Sink.known c.loop-before.sink).taken (g.K.Sink.known c.write_round.new.sink).taken t)
    (round_is c.args.number c.loop-before.before c.loop-before.drawn _ _ _ _ so_far.drawn c.turn-first.ensures c.turn-second.ensures
    c.steps_by.ensures c.steps_by-in-loop-before.ensures)
    (c.in_default.ensures.takes (so_far.still told))))

pub loop-before-preserved : goal.loop-before-preserved
loop-before-preserved g c =
    let so_far = c.loop-before.invariant in
    let next : suc c.loop-before.before ≡ c.loop-before.before + 1 = omega arith in
    record {
      within = omega (arith, c.loop-before-test.true);
      few = so_far.few;
      drawn = both_turns c.args.number c.loop-before.before _ _ _ so_far.drawn c.turn-first.ensures c.turn-second.ensures;
      still = λ told. c.write_round.ensures.called.lasts.still (so_far.still told);
      kept = c.in-Ok.ensures.called.kept ∙ so_far.kept;
      taken = λ told.
          round_taken c.args.number c.loop-before.before _ _ _ (so_far.taken told)
          (c.in-Ok.ensures.takes (so_far.still told)
          ∙ ap (λ (t : List ℕ). (g.K.Sink.known c.loop-before.sink).taken ++ t)
          (round_is c.args.number c.loop-before.before c.loop-before.drawn _ _ _ _ so_far.drawn c.turn-first.ensures c.turn-second.ensures
          c.steps_by.ensures c.steps_by-in-loop-before.ensures))
          ∙ ap (λ (n : ℕ). (g.K.Sink.known c.args.sink.now).taken ++ text_of (rounds c.args.number n)) next;
    }
