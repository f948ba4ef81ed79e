use Rattle.std.proofs.Common.{sym, ap, ◌∙◌}
use Rattle.responses.specs.Output.{console_line}
use Rattle.monitor_cli.proofs.EndTexts.{closes_off, closes_on}
use Rattle.monitor_cli.proofs.closing.closing_text.Goals as goal

pub returns-then-is_off : goal.returns-then-is_off
returns-then-is_off c = λ known m is.
    closes_off m c.in_ok-text.text c.append.new.self (c.in_ok-text.ensures ∙ ap console_line (c.console.ensures known m is))
    (sym (c.is_off.ensures known m is) ∙ c.if-is_off.true) c.in_ok-append.ensures.ok

pub returns : goal.returns
returns c = λ known m is.
    closes_on m c.in_ok-text.text (c.in_ok-text.ensures ∙ ap console_line (c.console.ensures known m is))
    (sym (c.is_off.ensures known m is) ∙ c.if-is_off.false)
