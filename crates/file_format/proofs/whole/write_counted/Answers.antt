use Rattle.std.proofs.Common.{arith}
use Rattle.file_format.proofs.Wholes.{count_put}
use Rattle.file_format.proofs.whole.write_counted.Goals as goal

pub returns : goal.returns
returns g c =
    let p = count_put g.T.Stored.format c.args.value.now c.args.out.now.items _ _ _ _ _ _ _
    c.in_ok-write.ensures.fits c.size-at.ensures c.in_ok-extend_from_slice.ensures.items
    c.in_ok-write.ensures.bytes c.size-start.ensures
    (omega (arith, c.size.ensures, c.in-Some.ensures.0, c.in-Some.ensures.1)) c.in-Ok.ensures c.put_count.ensures in
    record { fits = p.0; bytes = p.1 }
