use Rattle.std.proofs.Common.{◌≡◌, ◌∙◌, ap, ap₂, rules, codes}
use Rattle.std.proofs.lemmas.Result.{IfOk-weaker}
use Rattle.clap.specs.Words.{Shape, app_of, with_subcommand}
use Rattle.clap.proofs.SimpleLemmas.{plain_fields}
use Rattle.command_line.specs.Programs.{program_app}
use Rattle.rebase_cli.proofs.words.edit_memory.Goals as goal

pub returns : goal.returns
returns c =
    let named : app_of c.program.result ≡ program_app (codes "edit-memory") = search rules in
    let one = c.in_ok-subcommand.ensures.shape (plain_fields c.in_ok-rebase.field-0 (ap (λ (s : Shape). s.is_plain) c.in_ok-rebase.ensures)).globals
    ∙ ap₂ with_subcommand named c.in_ok-rebase.ensures in
    IfOk-weaker c.subcommand-2.result _ _
    (λ r added. added.shape (plain_fields c.in_ok-convert.field-0 (ap (λ (s : Shape). s.is_plain) c.in_ok-convert.ensures)).globals
    ∙ ap₂ with_subcommand one c.in_ok-convert.ensures)
    c.subcommand-2.ensures
