use Rattle.std.proofs.Common.{sym, arith, ◌∙◌}
use Rattle.snap_state.proofs.HasDevices.{balloon_due, drive_due, entropy_due, interface_due, none_due, vsock_due}
use Rattle.snap_state.proofs.kinds.kind_due.Goals as goal

pub returns-then-number-drives : goal.returns-then-number-drives
returns-then-number-drives c =
    let own = c.args.configuration.now in
    sym (drive_due own.drives own.interfaces own.vsock own.balloon c.args.entropy.now c.args.number
    (omega (arith, c.if-number-drives.true, c.count-drives.ensures)))

pub returns-then-behind-interfaces : goal.returns-then-behind-interfaces
returns-then-behind-interfaces c =
    let own = c.args.configuration.now in
    sym (interface_due own.drives own.interfaces own.vsock own.balloon c.args.entropy.now c.args.number
    (omega (arith, c.if-number-drives.false, c.count-drives.ensures))
    (omega (
      arith,
      c.if-number-drives.false,
      c.if-behind-interfaces.true,
      c.count-drives.ensures,
      c.count-interfaces.ensures,
    )))

pub returns-then-last-sockets : goal.returns-then-last-sockets
returns-then-last-sockets c =
    let own = c.args.configuration.now in
    c.vsock_kind.ensures
    ∙ sym (vsock_due own.drives own.interfaces own.vsock own.balloon c.args.entropy.now c.args.number
    (omega (
      arith,
      c.if-number-drives.false,
      c.if-behind-interfaces.false,
      c.count-drives.ensures,
      c.count-interfaces.ensures,
    ))
    (omega (
      arith,
      c.if-number-drives.false,
      c.if-behind-interfaces.false,
      c.if-last-sockets.true,
      c.count-drives.ensures,
      c.count-interfaces.ensures,
      c.vsock_count-sockets.ensures,
    )))

pub returns-then-rest-balloons : goal.returns-then-rest-balloons
returns-then-rest-balloons c =
    let own = c.args.configuration.now in
    c.balloon_kind.ensures
    ∙ sym (balloon_due own.drives own.interfaces own.vsock own.balloon c.args.entropy.now c.args.number
    (omega (
      arith,
      c.if-number-drives.false,
      c.if-behind-interfaces.false,
      c.if-last-sockets.false,
      c.count-drives.ensures,
      c.count-interfaces.ensures,
      c.vsock_count-sockets.ensures,
    ))
    (omega (
      arith,
      c.if-number-drives.false,
      c.if-behind-interfaces.false,
      c.if-last-sockets.false,
      c.if-rest-balloons.true,
      c.count-drives.ensures,
      c.count-interfaces.ensures,
      c.vsock_count-sockets.ensures,
      c.balloon_count-balloons.ensures,
    )))

pub returns-then-rest-balloons-2 : goal.returns-then-rest-balloons-2
returns-then-rest-balloons-2 c =
    let own = c.args.configuration.now in
    c.entropy_kind.ensures
    ∙ sym (entropy_due own.drives own.interfaces own.vsock own.balloon c.args.entropy.now c.args.number
    (omega (
      arith,
      c.if-number-drives.false,
      c.if-behind-interfaces.false,
      c.if-last-sockets.false,
      c.if-rest-balloons-2.true,
      c.count-drives.ensures,
      c.count-interfaces.ensures,
      c.vsock_count-sockets.ensures,
      c.balloon_count-balloons.ensures,
    )))

pub returns : goal.returns
returns c =
    let own = c.args.configuration.now in
    sym (none_due own.drives own.interfaces own.vsock own.balloon c.args.entropy.now c.args.number
    (omega (
      arith,
      c.if-number-drives.false,
      c.if-behind-interfaces.false,
      c.if-last-sockets.false,
      c.if-rest-balloons.false,
      c.if-rest-balloons-2.false,
      c.count-drives.ensures,
      c.count-interfaces.ensures,
      c.vsock_count-sockets.ensures,
      c.balloon_count-balloons.ensures,
    )))
