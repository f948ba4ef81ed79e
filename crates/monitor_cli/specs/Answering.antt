-- An item whose text goes to a sink, and a script's closing text.
use Rattle.std.specs.Prelude.{◌≡◌, ℕ, List, ◌++◌}
use Rattle.vm_types.specs.declared.exit.Exit.{Exit}
use Rattle.vm_types.specs.declared.exit.Object.TheVariants as object
use Rattle.script_text.specs.declared.item.Item.{Item}
use Rattle.vm_outside.specs.Known.{FilesKnown, SinkKnown, Tells}
use Rattle.monitor_core.specs.declared.item_error.ItemError.TheVariants.{FilesFailed, OutOfMemory}
use Rattle.monitor_core.specs.declared.monitor.Monitor.{Monitor}
use Rattle.monitor_core.specs.Going.{ItemGoes, ItemStops}
use Rattle.monitor_cli.specs.Taking.{TookFront}

-- an item that was done, with its text in the sink
pub record ItemDone (item : Item) (monitor after : Monitor) (files left : FilesKnown)
    (sink now : SinkKnown) : Type 0 where
  pub text : List ℕ
  pub goes : ItemGoes item text monitor after files left
  pub takes : Tells sink.health → now.taken ≡ sink.taken ++ text

-- one of whose text the sink took a front, and not all
pub record ItemCut (item : Item) (monitor after : Monitor) (files left : FilesKnown)
    (sink now : SinkKnown) : Type 0 where
  pub text : List ℕ
  pub goes : ItemGoes item text monitor after files left
  pub takes : Tells sink.health → TookFront text sink.taken now.taken

-- why an item was not done: the files failed at a file line, the sink failed, or there was no memory
abbrev pub ItemEnds : Exit → Item → Monitor → Monitor → FilesKnown → FilesKnown → SinkKnown → SinkKnown → Type 0
ItemEnds (Exit.Fault object.Files) item monitor after files left sink now =
    ItemStops FilesFailed item monitor after files left × (now ≡ sink)
ItemEnds (Exit.Fault object.Sink) item monitor after files left sink now = ItemCut item monitor after files left sink
    now
ItemEnds Exit.OutOfMemory item monitor after files left sink now =
    ItemStops OutOfMemory item monitor after files left × (now ≡ sink)
ItemEnds exit item monitor after files left sink now = ⊥

-- the closing text: all of it is taken; a front of it and not all, where the sink failed; or nothing, for want of memory
abbrev pub ClosesBy : Exit → List ℕ → List ℕ → List ℕ → Type 0
ClosesBy Exit.Done text before taken = taken ≡ before ++ text
ClosesBy (Exit.Fault object.Sink) text before taken = TookFront text before taken
ClosesBy Exit.OutOfMemory text before taken = taken ≡ before
ClosesBy exit text before taken = ⊥

abbrev pub IsClosing : Exit → Type 0
IsClosing Exit.Done = Unit {0}
IsClosing (Exit.Fault object.Sink) = Unit {0}
IsClosing Exit.OutOfMemory = Unit {0}
IsClosing exit = ⊥
