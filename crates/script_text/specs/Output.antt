-- The lines that are shown, and those of a line that doesn't apply.
use Rattle.std.specs.Prelude.{ℕ, List, ◌++◌, codes}
use Rattle.std.specs.Fmt.{decimal}
use Rattle.script_text.specs.declared.output.Misfit.{Misfit}
use Rattle.script_text.specs.declared.output.Misfit.TheVariants as misfit
use Rattle.script_words.specs.Numbers.{hex_of, word_text}

-- a register: sixteen digits, its most significant first
abbrev pub register_line : ℕ → List ℕ
register_line word = codes "= " ++ word_text word ++ codes "\n"

-- bytes of memory in their order
abbrev pub memory_line : List ℕ → List ℕ
memory_line bytes = codes "= " ++ hex_of bytes ++ codes "\n"

-- an actor wants an act on a host object, after so many of the events that were asked for
abbrev pub waits_line : ℕ → List ℕ
waits_line count = codes "? waits " ++ decimal count ++ codes "\n"

abbrev pub misfit_line : Misfit → List ℕ
misfit_line misfit.NotRunning = codes "? not running\n"
misfit_line misfit.NoMachine = codes "? no machine\n"
misfit_line misfit.NoActor = codes "? no actor\n"
misfit_line misfit.OutsideMemory = codes "? outside memory\n"
misfit_line misfit.NotWaiting = codes "? not waiting\n"
misfit_line misfit.Unfit = codes "? unfit\n"
