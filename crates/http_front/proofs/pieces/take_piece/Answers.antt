use Rattle.std.proofs.Common.{sym}
use Rattle.std.proofs.lemmas.Result.{on_ok_weaker}
use Rattle.http_front.proofs.LoopLemmas.{piece_failed, piece_taken}
use Rattle.http_front.proofs.pieces.take_piece.Goals as goal

pub returns-then-is_failed : goal.returns-then-is_failed
returns-then-is_failed c = λ s x.
    piece_failed s c.args.piece.now c.args.out.now.items c.args.front.now (sym c.if-is_failed.ensures) x

pub returns : goal.returns
returns c = on_ok_weaker c.drain_all.result
    (λ drains. λ s x. piece_taken s c.args.piece.now c.args.out.now.items c.drain_all.new.out.items c.args.front.now c.feed.new.self
    c.drain_all.new.front (sym c.if-is_failed.ensures) c.in_ok-feed.ensures.ok drains x)
    c.drain_all.ensures
