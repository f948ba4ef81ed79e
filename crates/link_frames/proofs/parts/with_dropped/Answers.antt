use Rattle.std.proofs.Common.{◌≡◌, ◌++◌, length, sym, ap, arith, length-append}
use Rattle.std.specs.Int.{w32, to_be_bytes}
use Rattle.link_frames.proofs.parts.with_dropped.Goals as goal

pub returns-clause-feeds : goal.returns-clause-feeds
returns-clause-feeds c = λ skipped long.
    let frame = skipped ++ c.args.bytes.now in
    let whole : length frame ≡ c.args.count =
    omega (arith, length-append skipped c.args.bytes.now, long, c.requires.fits, c.if-len-left.false) in (
      record {
        frame = frame;
        bytes = ap (λ n. to_be_bytes w32 n ++ frame) (sym whole);
        length = λ is. c.requires.dropped.0 (omega (arith, is.0, whole), omega (arith, is.1, whole));
      },
      c.nothing.ensures.stands,
    )
