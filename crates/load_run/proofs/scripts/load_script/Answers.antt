use Rattle.std.proofs.Common.{ap, ◌∙◌, arith}
use Rattle.script_text.specs.Lines.{judged}
use Rattle.load_gen.specs.Load.{load_items}
use Rattle.load_run.proofs.Ends.{taken_all}
use Rattle.load_run.proofs.scripts.load_script.Goals as goal

pub returns-clause-is : goal.returns-clause-is
returns-clause-is c =
    c.in_ok-script.ensures ∙ c.taken.ensures ∙ taken_all _ _ _ _ c.new-sink.ensures c.in-Ok.ensures.takes

pub returns-clause-lines : goal.returns-clause-lines
returns-clause-lines c = (
  load_items c.args.number,
  ap judged (c.in_ok-script.ensures ∙ c.taken.ensures ∙ taken_all _ _ _ _ c.new-sink.ensures c.in-Ok.ensures.takes)
      ∙ c.load_is_read.ensures c.args.number (omega (arith, c.ranges.number.fits)),
)
