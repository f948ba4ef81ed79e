use Rattle.std.proofs.Common.{subst, sym}
use Rattle.std.specs.Prelude.{IsUtf8}
use Rattle.http_front.proofs.Taking.{method_is_text}
use Rattle.http_front.proofs.found.copy_request.Goals as goal

pub text_of-requires : goal.text_of-requires
text_of-requires c = subst IsUtf8 (sym c.of.ensures)
    (method_is_text c.args.stream.now c.args.front.now c.args.spans.now c.args.place c.requires.front c.requires.lies)
