use Rattle.std.proofs.Common.{length, inl, inr, arith}
use Rattle.guest_pages.specs.Pages.{flat_of}
use Rattle.guest_pages.proofs.Serving.{found, missed}
use Rattle.guest_pages.proofs.page_set.PageSet.find.Goals.{else-number-len-via-then-number-len+else-offset-len-le4096, else-number-len-via-else-number-len}
use Rattle.guest_pages.proofs.page_set.PageSet.find.Goals as goal

pub returns-then-offset-len-le4096 : goal.returns-then-offset-len-le4096
returns-then-offset-len-le4096 c =
    found (length (flat_of c.args.self.now.pages).bytes) c.len.result c.args.at c.args.len c.len.ensures.bytes (omega arith) c.requires.some (omega arith) (omega arith)

pub returns-else-number-len : goal.returns-else-number-len
returns-else-number-len c =
    missed (length (flat_of c.args.self.now.pages).bytes) c.len.result c.args.at c.args.len c.len.ensures.bytes c.requires.some
    (elim c.else-number-len.branch [
      | else-number-len-via-then-number-len+else-offset-len-le4096 w ↦ inr (omega arith)
      | else-number-len-via-else-number-len w ↦ inl (omega arith)
    ])
