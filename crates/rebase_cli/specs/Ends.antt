-- How a command ends: its status and its last line.
use Rattle.std.specs.Prelude.{ℕ, List, [], ◌++◌, codes}
use Rattle.std.specs.Fmt.{decimal}
use Rattle.refusals.specs.Refusals.{number_of}
use Rattle.rebase_cli.specs.declared.end.End.{End}
use Rattle.rebase_cli.specs.declared.end.End.TheVariants.{Done, Usage, Refused, FilesFailed, OutOfMemory}

abbrev pub status_of : End → ℕ
status_of Done = 0
status_of (Refused why) = 1
status_of Usage = 2
status_of FilesFailed = 4
status_of OutOfMemory = 6

abbrev pub last_line : End → List ℕ
last_line Done = []
last_line (Refused why) = codes ". refused " ++ decimal (number_of why) ++ codes "\n"
last_line Usage = codes ". usage\n"
last_line FilesFailed = codes ". fault Files\n"
last_line OutOfMemory = codes ". memory\n"
