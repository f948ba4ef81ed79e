use Rattle.std.proofs.Common.{◌≡◌, ℕ, ap, sym, subst, ◌∙◌, true}
use Rattle.vq_split.specs.Inside.{WalkInside}
use Rattle.vq_split.specs.Walking.{walk_left}
use Rattle.vq_split.specs.declared.queue.Queue.{Queue}
use Rattle.queue_device.specs.Kept.{is_holding}
use Rattle.queue_device.specs.Lanes.{lane_of}
use Rattle.queue_device.specs.Left.{queued}
use Rattle.queue_device.specs.Rounds.{walked}
use Rattle.queue_device.proofs.CodeGoes.{told_gives, walked_holds, walked_on}
use Rattle.queue_device.proofs.CodeKept.{walk_kept}
use Rattle.queue_device.proofs.Stepping.{walk_came, walk_more}
use Rattle.queue_device.proofs.going.walk_given.Goals as goal

pub returns-in-More-clause-left : goal.returns-in-More-clause-left
returns-in-More-clause-left g c =
    let r = c.args.rounds.now in
    walk_more g.K.Kind.service c.args.which c.args.walk c.give.new.self c.args.reply (queued r (g.K.Kind.own c.args.kind.now))
    (queued r (g.K.Kind.own c.show.new.kind)) (c.show.ensures.shown r) c.in-More.ensures.told (c.give.ensures.look c.in-More.is)
    c.give.ensures.queue c.give.ensures.number

pub returns-in-More-clause-kept : goal.returns-in-More-clause-kept
returns-in-More-clause-kept g c = λ working walks works.
    let r = c.args.rounds.now in
    walk_kept g.K.Kind.service g.K.Kind.times g.K.Kind.is_work r (g.K.Kind.stage c.show.new.kind) c.args.which c.give.new.self working
    (walked_on g.K.Kind.service g.K.Kind.times g.K.Kind.is_work (lane_of c.args.which r) c.args.walk c.give.new.self walks c.wanting.ensures.test
    c.give.ensures.queue c.give.ensures.number) (c.show.ensures.rests r.pages works)

pub returns-in_default : goal.returns-in_default
returns-in_default g c =
    let r = c.args.rounds.now in
    let d = queued r (g.K.Kind.own c.args.kind.now) in
    let e = queued r (g.K.Kind.own c.show.new.kind) in
    let gives = told_gives g.K.Kind.service g.K.Kind.times g.K.Kind.is_work _ (walk_left c.give.new.self) c.give.result c.give.ensures.told c.in_default.not-More in
    record {
      left =
          c.walked.ensures.left
          ∙ ap (λ (q : Queue). walked g.K.Kind.service c.args.which q e c.give.result) c.of-queue.ensures
          ∙ walk_came g.K.Kind.service c.args.which c.args.walk c.args.reply c.give.result d e (c.show.ensures.shown r) gives;
      kept = λ working walks works.
          let held = walked_holds g.K.Kind.service g.K.Kind.times g.K.Kind.is_work c.args.which c.args.walk 0 r c.few_pages.ensures working walks in
          c.walked.ensures.kept 0
          (subst (λ (q : Queue). is_holding g.K.Kind.service g.K.Kind.times
          (record { which = c.args.which; queue = q; head = 0 }) r ≡ true) (sym c.of-queue.ensures) held.0)
          (subst (λ (n : ℕ). WalkInside n c.give.result) held.1 c.give.ensures.inside) (c.show.ensures.rests r.pages works);
    }
