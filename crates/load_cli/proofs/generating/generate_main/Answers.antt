use Rattle.std.proofs.Common.{◌≡◌, ◌∙◌, ℕ, ap, sym, map, string_bytes, List, None, option_copied}
use Rattle.std.proofs.lemmas.Result.{IfErr-at_err}
use Rattle.command_line.specs.Commands.{generate_number}
use Rattle.command_line.specs.declared.parsing.NoCommand.{NoCommand}
use Rattle.load_cli.proofs.Refusing.{none_first, refused_load}
use Rattle.load_cli.proofs.generating.generate_main.Goals as goal
use Rattle.load_cli.proofs.generating.generate_main.Goals.{in-Some, in-None}

pub returns-in-Err-clause-generated : goal.returns-in-Err-clause-generated
returns-in-Err-clause-generated g c =
    let words : List (List ℕ) = map string_bytes c.args.words.now in
    let usage : c.in-Err.why ≡ NoCommand.Usage → generate_number words ≡ None =
    elim c.match-first.branch [
      | in-Some w ↦ IfErr-at_err (λ (why : NoCommand). why ≡ NoCommand.Usage → generate_number words ≡ None) (sym w.number-is ∙ c.in-Err.is)
          w.generate_number-number.ensures.usage
      | in-None w ↦ λ is. none_first c.args.words.now (sym c.first.ensures.value ∙ ap (λ o. option_copied o) w.in-None.is)
    ] in
    refused_load words c.in-Err.why c.refuse_words.result _ _ c.refuse_words.ensures.ends usage c.refuse_words.ensures.unbegun c.refuse_words.ensures.lasts
