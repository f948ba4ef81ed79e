-- Why a file was not read or written, and how one begins that was read.
use Rattle.std.specs.Prelude.{◌≡◌, ℕ, List, length, take, Result, Ok, Err}
use Rattle.vm_types.specs.Causes.{Rose}
use Rattle.gate_file.specs.declared.file_error.FileError.{FileError}
use Rattle.gate_file.specs.declared.file_error.FileError.TheVariants.{Fault, OutOfMemory}

-- a fault was counted where there is one, and only there
abbrev pub FileCause : {T : Type 0} → Result T FileError → ℕ → ℕ → Type 0
FileCause (Ok value) before now = now ≡ before
FileCause (Err Fault) before now = Rose before now
FileCause (Err OutOfMemory) before now = now ≡ before

-- its size, and its first bytes, so many or all that it has
abbrev pub start_of : ℕ → List ℕ → ℕ × List ℕ
start_of most content = (length content, take most content)
