use Rattle.std.proofs.Common.{take}
use Rattle.std.specs.List.{flat_map}
use Rattle.http_stream.specs.Cuts.{Reads}
use Rattle.http_front.proofs.pieces.requests.Given as goal

abbrev pub invariant-loop-piece : goal.invariant-loop-piece
invariant-loop-piece l = Reads (flat_map (λ piece. piece) (take l.piece-index l.pieces)) l.out.items l.front
