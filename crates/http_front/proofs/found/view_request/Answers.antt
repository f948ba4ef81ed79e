use Rattle.std.proofs.Common.{subst, sym}
use Rattle.std.specs.Prelude.{IsUtf8}
use Rattle.http_front.proofs.Taking.{method_is_text}
use Rattle.http_front.proofs.found.view_request.Goals as goal

pub text_in-requires : goal.text_in-requires
text_in-requires c = subst IsUtf8 (sym c.of.ensures)
    (method_is_text c.args.stream.now c.window-front.result.now c.args.spans.now c.args.place c.window-front.ensures c.requires)
