use Rattle.std.proofs.Common.{◌≡◌, map, take}
use Rattle.std.specs.Prelude.{codes}
use Rattle.std.specs.List.{filter}
use Rattle.std.specs.Option.{option_to_list, option_copied}
use Rattle.http_front.specs.Told.{is_named_at, value_at}
use Rattle.http_front.proofs.body.content_length.Given as goal

abbrev pub invariant-loop-span : goal.invariant-loop-span
invariant-loop-span l =
    map (value_at l.front) (filter (is_named_at (codes "content-length") l.front) (take l.span-index l.spans))
    ≡ option_to_list (option_copied l.found)
