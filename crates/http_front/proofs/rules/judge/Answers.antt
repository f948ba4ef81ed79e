use Rattle.std.proofs.Common.{arith, subst, sym}
use Rattle.httparse.specs.Grammar.{HasNoRequest, NeverHasRequest, MayBecomeRequest}
use Rattle.http_front.proofs.Judging.{window_short, len_fits, judged_unfinished, judged_hopeless}
use Rattle.http_front.proofs.TooFew.{too_few_here}
use Rattle.http_front.proofs.rules.judge.Goals as goal

pub find_head-requires-clause-short : goal.find_head-requires-clause-short
find_head-requires-clause-short c = rw c.window-front.ensures (window_short c.args.stream.now)

pub by_head-requires-clause-fits : goal.by_head-requires-clause-fits
by_head-requires-clause-fits c =
    len_fits c.args.stream.now c.window-front.result.now _ c.window-front.ensures c.in-Found.ensures.0.section.len_fits

pub returns-then-stream-le-HEAD_LIMIT : goal.returns-then-stream-le-HEAD_LIMIT
returns-then-stream-le-HEAD_LIMIT c = (
  omega arith,
  too_few_here c.args.stream.now (judged_unfinished c.args.stream.now (sym c.if-is_early.ensures) c.if-stream-le-HEAD_LIMIT.true
      (subst HasNoRequest c.window-front.ensures c.in-Unfinished.ensures.0)
      (subst MayBecomeRequest c.window-front.ensures c.in-Unfinished.ensures.1)),
)

pub returns-in-Hopeless : goal.returns-in-Hopeless
returns-in-Hopeless c = judged_hopeless c.args.stream.now (sym c.if-is_early.ensures)
    (subst NeverHasRequest c.window-front.ensures c.in-Hopeless.ensures)
