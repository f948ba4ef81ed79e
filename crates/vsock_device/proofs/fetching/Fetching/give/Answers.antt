use Rattle.std.proofs.Common.{◌≡◌, ◌-◌, ◌++◌, List, ℕ, ap, arith, length, length-append, sym, subst}
use Rattle.vq_split.specs.declared.queue.Part.{Part}
use Rattle.device_trace.specs.Doing.{led}
use Rattle.dev_core.specs.declared.collect.Collect.{Collect}
use Rattle.dev_core.specs.Collecting.{collect_left}
use Rattle.dev_core.specs.Pieces.{collect_all}
use Rattle.dev_core.proofs.Bytes as bytes
use Rattle.dev_core.proofs.Fuel.{collect_led}
use Rattle.vsock_device.proofs.fetching.Fetching.give.Goals as goal

pub returns-clause-left : goal.returns-clause-left
returns-clause-left c =
    let b = c.give-piece.ensures in
    let old = c.self.inside.inner in
    let made = collect_led 44 old.held c.give-piece.result old.from c.args.reply.now
    c.self.invariant.0 c.self.invariant.1 b.bytes b.length in
    let seen = subst (λ (parts : List Part). collect_all (44 - length (old.held ++ c.give-piece.result)) (old.held ++ c.give-piece.result) parts
    ≡ led (collect_all (44 - length old.held) old.held old.from) c.args.reply.now) (sym b.left) made in
    let kept = subst (λ (held : List ℕ). collect_all (44 - length held) held c.give-piece.new.self
    ≡ led (collect_all (44 - length old.held) old.held old.from) c.args.reply.now) (sym c.append.ensures) seen in
    subst (λ (was : Collect). collect_all (44 - length c.append.new.self) c.append.new.self c.give-piece.new.self
    ≡ led (collect_left 44 was) c.args.reply.now) c.self.view_is kept

pub returns-clause-most : goal.returns-clause-most
returns-clause-most c =
    omega (
      arith,
      ap length c.append.ensures,
      length-append c.self.inside.inner.held c.give-piece.result,
      c.give-piece.ensures.length,
      bytes.most c.self.inside.inner.from,
      c.self.invariant.0,
    )
