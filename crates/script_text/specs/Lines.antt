-- The lines of a script, and what each asks for.
use Rattle.std.specs.Prelude.{ℕ, List, Option, map}
use Rattle.script_text.specs.declared.item.Item.{Item}
use Rattle.script_text.specs.Items.{item_of}
use Rattle.script_words.specs.Lines.{lines_of}

-- each line's item, and None for what is no line of a script
abbrev pub judged : List ℕ → List (Option Item)
judged script = map item_of (lines_of script)
