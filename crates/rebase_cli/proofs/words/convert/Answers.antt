use Rattle.std.proofs.Common.{◌≡◌, ◌∙◌, ap, ap₂, rules, codes, true}
use Rattle.std.proofs.lemmas.Result.{IfOk-weaker}
use Rattle.clap.specs.Words.{App, app_of, new_app, rule_of, with_rule}
use Rattle.command_line.specs.Programs.{option_rule}
use Rattle.rebase_cli.proofs.words.convert.Goals as goal

pub returns : goal.returns
returns c =
    let named : app_of c.new.result ≡ new_app (codes "convert") = search rules in
    let from : rule_of c.value_option.result ≡ option_rule (codes "diff-path") true = search rules in
    let to : rule_of c.value_option-2.result ≡ option_rule (codes "out-path") true = search rules in
    let one = c.in_ok-arg.ensures.shape c.value_option.ensures.local ∙ ap₂ with_rule named from in
    IfOk-weaker c.arg-2.result _ _
    (λ r added. ap (λ (a : App). a.top) (added.shape c.value_option-2.ensures.local ∙ ap₂ with_rule one to)) c.arg-2.ensures
