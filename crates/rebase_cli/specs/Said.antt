-- A command that was read, with its words as texts.
use Rattle.rebase_cli.specs.Words as words
use Rattle.rebase_cli.specs.declared.words.Edit.{Edit}
use Rattle.rebase_cli.specs.declared.words.Edit.TheVariants as edit
use Rattle.rebase_cli.specs.declared.words.Paths.{Paths}
use Rattle.rebase_cli.specs.declared.words.Conversion.{Conversion}

abbrev pub names_said : Paths → words.Names
names_said it = record { base = it.base.now; diff = it.diff.now }

abbrev pub conversion_said : Conversion → words.Conversion
conversion_said it = record { from = it.from.now; to = it.to.now }

abbrev pub said : Edit → words.Edit
said (edit.Rebase it) = words.Rebase (names_said it)
said (edit.Convert it) = words.Convert (conversion_said it)
