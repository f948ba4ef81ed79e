use Rattle.std.proofs.Common.{◌∙◌, ap, sym}
use Rattle.device_trace.specs.Script.{Ends}
use Rattle.rate_gate.specs.Gate.{Buckets}
use Rattle.block_device.specs.Block as of_block
use Rattle.guest_devices.specs.Devices.{left_of, new_left}
use Rattle.guest_devices.specs.Kinds.{Block}
use Rattle.guest_devices.proofs.block.new_block.Goals as goal

pub returns : goal.returns
returns c = λ what same.
    let drive = c.args.drive.now in
    ap (left_of Block) c.new_block_device.ensures
    ∙ ap (λ (limits : Buckets). left_of Block (Ends (of_block.new_block c.args.port c.args.pages (record {
      sectors = drive.sectors;
      drive_id = drive.drive_id;
      is_read_only = drive.is_read_only;
      limits = limits;
    })))) c.again.ensures
    ∙ ap (new_left c.args.port c.args.pages) (sym same)
