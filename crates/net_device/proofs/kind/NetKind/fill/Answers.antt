use Rattle.std.proofs.Common.{◌≡◌, ℕ, ◌==◌, length, drop, sym, ap, subst, ◌∙◌}
use Rattle.std.proofs.lemmas.Bool.{eqb-true, false_from_ne_true}
use Rattle.dev_core.specs.Pieces.{put_all}
use Rattle.queue_device.specs.Acting.{Acts, performing}
use Rattle.net_device.specs.declared.kind.Stage.TheVariants as stage
use Rattle.net_device.specs.Work.{Kept, op_of, own_of, serving_of, written}
use Rattle.net_device.proofs.Working.{fills}
use Rattle.net_device.proofs.kind.NetKind.fill.Goals as goal

pub returns-clause-works : goal.returns-clause-works
returns-clause-works c =
    let n = c.self.inside in
    let kept : Kept = record {
      own = record { text = n.text; rx = n.rx; tx = n.tx };
      doing = record { stage = n.stage; bytes = n.frame };
    } in
    let at = stage.Receive c.args.at c.args.to in
    subst
    (λ (k : Kept). performing (put_all (drop c.args.at k.doing.bytes) c.args.to) (own_of k) (λ e left. written (length k.doing.bytes) e)
    ≡ Acts (own_of kept) (op_of at kept.doing.bytes) (serving_of at kept.doing.bytes))
    c.self.view_is
    (fills kept.doing.bytes c.args.at c.len-len.result c.room.result (length kept.doing.bytes) c.args.to (own_of kept)
    c.len-len.ensures.len c.room.ensures.room
    (ap (λ (m : ℕ). m == 0) (sym c.min.ensures)
    ∙ false_from_ne_true (c.min.result == 0) (λ e. c.if-min-eq0.false (eqb-true c.min.result 0 e))))
