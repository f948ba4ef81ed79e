use Rattle.std.proofs.lemmas.Result.{err_from_is_err_and}
use Rattle.file_format.specs.Ends.{listed}
use Rattle.snap_devices.specs.Devices.{device}
use Rattle.snap_state.specs.Copies.{devices}
use Rattle.snap_state.proofs.Counts.{some_few, stuck, too_many, uncounted}
use Rattle.snap_state.proofs.devices.read_devices.Goals as goal

pub returns-in_err-count : goal.returns-in_err-count
unfolding devices
returns-in_err-count c =
    let p = err_from_is_err_and c.from_residual.result c.from_residual.ensures.1 in
    rw (p.1, p.2) (uncounted (listed device) 16 c.args.input.now c.in_err-count.field-0.0 c.read.new.input c.in_err-count.ensures)

pub returns-then-count-gt-MOST_DEVICES : goal.returns-then-count-gt-MOST_DEVICES
unfolding devices
returns-then-count-gt-MOST_DEVICES c =
    too_many (listed device) 16 c.in_ok-count.count c.args.input.now c.read.new.input c.in_ok-count.ensures
    c.if-count-gt-MOST_DEVICES.true

pub returns-in_err-list : goal.returns-in_err-list
unfolding devices
returns-in_err-list c =
    let p = err_from_is_err_and c.from_residual-in_err-list.result c.from_residual-in_err-list.ensures.1 in
    rw (p.1, p.2) (stuck (listed device) 16 c.in_ok-count.count c.args.input.now c.read.new.input c.in_ok-count.ensures
    c.in_err-list.field-0.0 c.read_items.new.input c.in_err-list.ensures)

pub returns : goal.returns
unfolding devices
returns c =
    some_few (listed device) 16 c.in_ok-count.count c.args.input.now c.read.new.input c.in_ok-count.ensures
    c.if-count-gt-MOST_DEVICES.false (c.in_ok-list.list, c.read_items.new.input) c.in_ok-list.ensures
