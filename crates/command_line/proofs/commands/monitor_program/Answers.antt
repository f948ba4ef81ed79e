use Rattle.std.proofs.Common.{◌≡◌, ◌∙◌, ap, ap₂, rules, codes}
use Rattle.std.proofs.lemmas.Result.{IfOk-weaker}
use Rattle.clap.specs.Words.{Shape, app_of, shape_of, with_subcommand}
use Rattle.clap.proofs.SimpleLemmas.{plain_fields}
use Rattle.command_line.specs.Programs.{number_app, program_app}
use Rattle.command_line.proofs.commands.monitor_program.Goals as goal

pub returns : goal.returns
returns c =
    let named : app_of c.program.result ≡ program_app (codes "firecracker") = search rules in
    let generate : shape_of c.in_ok-with_number.field-0 ≡ (number_app (codes "generate")).top = search rules in
    let run : shape_of c.in_ok-with_number-2.field-0 ≡ (number_app (codes "run")).top = search rules in
    let one = c.in_ok-subcommand.ensures.shape (plain_fields c.in_ok-replay.field-0 (ap (λ (s : Shape). s.is_plain) c.in_ok-replay.ensures)).globals
    ∙ ap₂ with_subcommand named c.in_ok-replay.ensures in
    let two = c.in_ok-subcommand-2.ensures.shape (plain_fields c.in_ok-serve.field-0 (ap (λ (s : Shape). s.is_plain) c.in_ok-serve.ensures)).globals
    ∙ ap₂ with_subcommand one c.in_ok-serve.ensures in
    let three = c.in_ok-subcommand-3.ensures.shape (plain_fields c.in_ok-with_number.field-0 (ap (λ (s : Shape). s.is_plain) generate)).globals
    ∙ ap₂ with_subcommand two generate in
    IfOk-weaker c.subcommand-4.result _ _
    (λ r added. added.shape (plain_fields c.in_ok-with_number-2.field-0 (ap (λ (s : Shape). s.is_plain) run)).globals ∙ ap₂ with_subcommand three run)
    c.subcommand-4.ensures
