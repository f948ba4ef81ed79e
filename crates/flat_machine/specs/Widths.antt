-- A machine of which each number has its width, and the lines of a script that leave it so.
use Rattle.std.specs.Prelude.{◌*◌, ◌<◌, ◌^◌, Option, Some, None}
use Rattle.vm_types.specs.Saved.{Saved}
use Rattle.vm_config.specs.declared.config.Config.{Config}
use Rattle.file_format.specs.Format.{IsBytes}
use Rattle.flat_guest.specs.Guest.{Guest}
use Rattle.flat_guest.specs.Narrow as guest
use Rattle.flat_snapshot.specs.Bytes.{AreBytes}
use Rattle.script_text.specs.declared.item.Item.{Item}
use Rattle.script_text.specs.declared.item.Item.TheVariants as item
use Rattle.flat_machine.specs.Given.{reply_given}
use Rattle.flat_machine.specs.Machine.{Machine}

-- before there is a guest, the files that it may come of hold bytes; and then it has its widths
abbrev pub WidthsBy : Saved → Config → Option Guest → Type 0
WidthsBy saved config None = AreBytes saved
WidthsBy saved config (Some g) = guest.HasWidths (256 * config.machine.mem_size_mib) config.machine.vcpu_count g

pub record HasWidths (m : Machine) : Type 0 where
  pub lineage : m.ids.lineage < 2 ^ 64
  pub guest : WidthsBy m.saved m.config m.guest

-- a file is given bytes, and so is what a host object answers; a lineage has 64 bits
abbrev pub IsSmallItem : Item → Type 0
IsSmallItem (item.File name content) = IsBytes content
IsSmallItem (item.Lineage lineage) = lineage < 2 ^ 64
IsSmallItem (item.Reply actor reply) = guest.IsSmallGiven (reply_given reply)
IsSmallItem it = Unit {0}
