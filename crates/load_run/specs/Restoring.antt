-- The script that loads the last round's snapshot with the memory file, and the end of a replay.
use Rattle.std.specs.Prelude.{◌≡◌, ℕ, List, [], ◌∷◌, ◌++◌, codes}
use Rattle.std.specs.Fmt.{decimal}
use Rattle.vm_types.specs.declared.exit.Exit.{Exit}
use Rattle.script_text.specs.declared.item.Item.{Item}
use Rattle.flat_machine.specs.Machine.{Machine}
use Rattle.flat_machine.specs.Replay.{IsReplay}
use Rattle.flat_machine.specs.Run.{Act, AllAnswered}
use Rattle.load_gen.specs.Load.{put, text_of}

abbrev pub load_last : ℕ → Item
load_last rounds =
    put (codes "/snapshot/load") (codes "{\"snapshot_path\":\"s" ++ decimal rounds ++ codes "\",\"mem_file_path\":\"m0\"}")

abbrev pub restore_script : ℕ → List ℕ
restore_script rounds = text_of (load_last rounds ∷ [])

-- A replay of the script from the machine at the start is done: each request was answered by the machine, and this is the
-- machine then, before its console is drained. By `one_replay` it is determined, by what each snapshot kept of devices.
pub record IsDone (script : List ℕ) (start m : Machine) : Type 0 where
  pub acts : List Act
  pub text : List ℕ
  pub end : Machine
  pub replay : IsReplay script start acts Exit.Done text end
  pub answered : AllAnswered acts
  pub last : m ≡ replay.last
