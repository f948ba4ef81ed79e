use Rattle.http_stream.specs.declared.request.Next.TheVariants as next
use Rattle.http_stream.specs.Stream.{Judged}
use Rattle.http_stream.proofs.CutLemmas.{made, request_falls, request_lives}
use Rattle.http_front.proofs.LoopLemmas.{continues_more, drains_none, drains_bad}
use Rattle.http_front.proofs.pieces.drain_all.Goals as goal

pub requests-smaller : goal.requests-smaller
requests-smaller c =
    request_falls _ c.in-Request.request c.next.new.self
    (rw c.in-Request.is at (c.in_ok-request.ensures.judged c.requests.invariant.live))

pub requests-preserved : goal.requests-preserved
requests-preserved c =
    let j : Judged c.requests.front.pending (made (next.Request c.in-Request.request) c.next.new.self)
    = rw c.in-Request.is at (c.in_ok-request.ensures.judged c.requests.invariant.live) in
    record {
      live = request_lives c.requests.front.pending c.in-Request.request c.next.new.self j;
      so_far = continues_more _ _ c.requests.out.items c.push.new.self.items c.requests.front c.next.new.self c.in-Request.request
          c.requests.invariant.so_far j c.in_ok-push-in-Request.ensures.items;
    }

pub returns-in-None : goal.returns-in-None
returns-in-None c =
    drains_none _ _ c.requests.out.items c.requests.front c.next.new.self c.requests.invariant.so_far
    (rw c.in-None.is at (c.in_ok-request.ensures.judged c.requests.invariant.live))

pub returns-in-Bad : goal.returns-in-Bad
returns-in-Bad c =
    drains_bad _ _ c.requests.out.items c.requests.front c.next.new.self c.in-Bad.field-0 c.requests.invariant.so_far
    (rw c.in-Bad.is at (c.in_ok-request.ensures.judged c.requests.invariant.live))
