use Rattle.std.proofs.Common.{Bool, subst}
use Rattle.monitor_core.specs.Replying.{Replied, RepliedOrRests, Rests}
use Rattle.monitor_core.proofs.Items.{on_err}
use Rattle.monitor_core.proofs.Talks.{answers_more, answers_rest, answers_stop, nothing_yet, takes_falls}
use Rattle.monitor_core.proofs.monitor.Monitor.talk.Goals as goal

pub replies-init : goal.replies-init
replies-init g c = record { so_far = nothing_yet c.args.form c.args.self.now c.new-text.result (g.F.Files.known c.args.files.now) c.new-text.ensures }

pub returns-in_err-reply_next-clause-err : goal.returns-in_err-reply_next-clause-err
returns-in_err-reply_next-clause-err g c =
    let e = c.in_err-reply_next.ensures in
    on_err _ _ (answers_stop c.args.form c.args.self.now c.replies.self c.reply_next.new.self c.replies.text (g.F.Files.known c.args.files.now) (g.F.Files.known c.replies.files) (g.F.Files.known c.reply_next.new.files)
    c.replies.invariant.so_far e.err e.due e.uncalled e.same e.lasts)

pub replies-smaller : goal.replies-smaller
replies-smaller g c =
    let known = g.F.Files.known in
    let r : Replied c.args.form c.replies.self c.reply_next.new.self c.replies.text c.reply_next.new.text (known c.replies.files) (known c.reply_next.new.files)
    = subst (λ (b : Bool). RepliedOrRests c.args.form b c.replies.self c.reply_next.new.self c.replies.text c.reply_next.new.text (known c.replies.files) (known c.reply_next.new.files)) c.if-branch.true c.in_ok-reply_next.ensures.ok in
    takes_falls c.replies.self.front r.given c.reply_next.new.self.front r.takes

pub replies-preserved : goal.replies-preserved
replies-preserved g c =
    let known = g.F.Files.known in
    let r : Replied c.args.form c.replies.self c.reply_next.new.self c.replies.text c.reply_next.new.text (known c.replies.files) (known c.reply_next.new.files)
    = subst (λ (b : Bool). RepliedOrRests c.args.form b c.replies.self c.reply_next.new.self c.replies.text c.reply_next.new.text (known c.replies.files) (known c.reply_next.new.files)) c.if-branch.true c.in_ok-reply_next.ensures.ok in
    record {
      so_far = answers_more c.args.form c.args.self.now c.replies.self c.reply_next.new.self c.replies.text c.reply_next.new.text (known c.args.files.now) (known c.replies.files) (known c.reply_next.new.files)
          c.replies.invariant.so_far r c.in_ok-reply_next.ensures.lasts;
    }

pub returns-clause-ok : goal.returns-clause-ok
returns-clause-ok g c =
    let known = g.F.Files.known in
    let r : Rests c.replies.self c.reply_next.new.self c.replies.text c.reply_next.new.text (known c.replies.files) (known c.reply_next.new.files)
    = subst (λ (b : Bool). RepliedOrRests c.args.form b c.replies.self c.reply_next.new.self c.replies.text c.reply_next.new.text (known c.replies.files) (known c.reply_next.new.files)) c.if-branch.false c.in_ok-reply_next.ensures.ok in
    answers_rest c.args.form c.args.self.now c.replies.self c.reply_next.new.self c.replies.text c.reply_next.new.text (known c.args.files.now) (known c.replies.files) (known c.reply_next.new.files)
    c.replies.invariant.so_far r
