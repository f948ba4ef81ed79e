-- What the program owes for its words.
use Rattle.std.specs.Prelude.{◌≡◌, ◌⊎◌, ℕ, true, false, List, map, Some}
use Rattle.vm_types.specs.declared.exit.Exit.{Exit}
use Rattle.script_text.specs.declared.item.Item.{Item}
use Rattle.vm_outside.specs.Known.{Tells}
use Rattle.responses.specs.Output.{last_line}
use Rattle.command_line.specs.Commands.{is_replay, replay_id}
use Rattle.command_line.specs.declared.parsing.NoCommand.{NoCommand}
use Rattle.flat_machine.specs.Machine.{new_machine}
use Rattle.flat_machine.specs.Replay.{judged_script}
use Rattle.monitor_cli.specs.Known.{AllLast, AllTell, Known, NoneRose, Caused}
use Rattle.monitor_cli.specs.Replay.{Replayed}
use Rattle.monitor_cli.specs.Taking.{TookText}
use Rattle.monitor_cli.specs.declared.no_words.NoWords.{NoWords}

-- each line of the script is an item, and it is no longer than a script may be
abbrev pub IsWellFormed : List ℕ → Type 0
IsWellFormed script = (items : List Item) × (judged_script script ≡ map Some items)

-- before a command is begun: its last line alone is written, and nothing else is touched
pub record Unbegun (exit : Exit) (before now : Known) : Type 0 where
  pub writes : Tells before.sink.health → TookText exit (last_line exit) before.sink now.sink
  pub source : now.source ≡ before.source
  pub files : now.files ≡ before.files

-- how the program ends where its words are no command, or can't be read for want of memory
abbrev pub refusal_of : NoCommand → Exit
refusal_of NoCommand.Usage = Exit.Usage
refusal_of NoCommand.OutOfMemory = Exit.OutOfMemory

abbrev pub IsRefusal : Exit → Type 0
IsRefusal Exit.Usage = Unit {0}
IsRefusal Exit.OutOfMemory = Unit {0}
IsRefusal exit = ⊥

-- What the call of a command answers, from what was known of the host objects to what is known now.
-- usage: Usage only where the words are no replay.
-- refused: there it is Usage, or want of memory, and its last line is all that is done.
-- replayed: else the replay equals the flat machine of the id that the words give, where the objects tell their content.
-- told: a fault is named only where that object's count rose in this call; those of source and sink are all named, but
-- for a sink that failed at the last line. No other object is named, and no slice.
-- complete: a command, a script of items and no failure come to the script's end, or to want of memory.
-- lasts: what told its content still does, and no count has fallen.
pub record Commanded (words : List (List ℕ)) (exit : Exit) (before now : Known) : Type 0 where
  pub usage : exit ≡ Exit.Usage → is_replay words ≡ false
  pub refused : is_replay words ≡ false → IsRefusal exit × Unbegun exit before now
  pub replayed : AllTell before → (id : List ℕ) → replay_id words ≡ Some id
      → Replayed exit (new_machine id before.files.saved before.files.calls) before now
  pub told : Caused exit before now
  pub complete : AllTell before → is_replay words ≡ true → IsWellFormed before.source.left → NoneRose before now
      → (exit ≡ Exit.Done) ⊎ (exit ≡ Exit.OutOfMemory)
  pub lasts : AllLast before now

-- how the program ends where its words can't be had: a word that is no text is none of a command's
abbrev pub exit_of : NoWords → Exit
exit_of NoWords.NotText = Exit.Usage
exit_of NoWords.OutOfMemory = Exit.OutOfMemory

-- and then that is all it does
pub record Wordless (why : NoWords) (exit : Exit) (before now : Known) : Type 0 where
  pub ends : exit ≡ exit_of why
  pub unbegun : Unbegun (exit_of why) before now
  pub lasts : AllLast before now
