use Rattle.std.proofs.Common.{◌∙◌, ap, sym, subst, map, string_bytes, List}
use Rattle.std.proofs.lemmas.Result.{err_from_is_err_and}
use Rattle.clap.specs.Words.{App, Text, is_simple_and_free}
use Rattle.command_line.specs.Programs.{IsRead, IsUsage}
use Rattle.rebase_cli.proofs.Reading.{is_plain, read_means, usage_means}
use Rattle.rebase_cli.proofs.words.edit_of.Goals as goal

pub returns-in_err-matches-clause-usage : goal.returns-in_err-matches-clause-usage
returns-in_err-matches-clause-usage c =
    let words : List Text = map string_bytes c.args.words.now in
    let p = err_from_is_err_and c.from_residual.result c.from_residual.ensures.1 in
    rw p.1 (λ is. usage_means words (subst (λ (a : App). IsUsage a words) c.in-Ok.ensures
    (c.in_err-matches.ensures.usage (ap is_simple_and_free c.in-Ok.ensures ∙ is_plain) (sym p.2 ∙ is))))

pub returns-in-Some-clause-said : goal.returns-in-Some-clause-said
returns-in-Some-clause-said c =
    let words : List Text = map string_bytes c.args.words.now in
    sym (read_means words c.in_ok-matches.matches (subst (λ (a : App). IsRead a words c.in_ok-matches.matches) c.in-Ok.ensures
    (c.in_ok-matches.ensures.read (ap is_simple_and_free c.in-Ok.ensures ∙ is_plain)))) ∙ sym c.in-Some.ensures

pub returns-clause-usage : goal.returns-clause-usage
returns-clause-usage c = λ is.
    let words : List Text = map string_bytes c.args.words.now in
    sym (read_means words c.in_ok-matches.matches (subst (λ (a : App). IsRead a words c.in_ok-matches.matches) c.in-Ok.ensures
    (c.in_ok-matches.ensures.read (ap is_simple_and_free c.in-Ok.ensures ∙ is_plain)))) ∙ sym c.in-None.ensures
