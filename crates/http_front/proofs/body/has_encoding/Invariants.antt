use Rattle.std.proofs.Common.{◌≡◌, take, false}
use Rattle.std.specs.Prelude.{codes}
use Rattle.std.specs.List.{list_any}
use Rattle.http_front.specs.Told.{is_named_at}
use Rattle.http_front.proofs.body.has_encoding.Given as goal

abbrev pub invariant-loop-span : goal.invariant-loop-span
invariant-loop-span l = list_any (is_named_at (codes "transfer-encoding") l.front) (take l.span-index l.spans) ≡ false
