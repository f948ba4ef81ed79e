use Rattle.std.proofs.Common.{arith}
use Rattle.file_format.proofs.Wholes.{list_put}
use Rattle.file_format.proofs.listed.write_listed.Goals as goal

pub returns : goal.returns
returns g c =
    let p = list_put g.T.Whole.listing c.args.value.now c.args.out.now.items _ _ _ _ _ _ _
    c.in_ok-write_all.ensures.fits c.size-at.ensures c.in_ok-extend_from_slice.ensures.items
    c.in_ok-write_all.ensures.bytes c.size-start.ensures
    (omega (arith, c.size.ensures, c.in-Some.ensures.0, c.in-Some.ensures.1)) c.in-Ok.ensures c.put_count.ensures in
    record { fits = p.0; bytes = p.1 }
