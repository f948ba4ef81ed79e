use Rattle.std.proofs.Common.{Ok, refl, sym, ap}
use Rattle.api_calls.specs.Routes as routes
use Rattle.api_json.specs.Tables.{route_of}
use Rattle.api_json.proofs.FormLemmas.{list_any_map}
use Rattle.api_json.proofs.CallLemmas.{find_map}
use Rattle.api_json.proofs.routes.target_in.Goals as goal

pub returns-in-Some : goal.returns-in-Some
returns-in-Some c =
    rw (find_map (routes.is_route c.args.path.now c.args.method.now) route_of c.args.table.now, ← c.in-Some.ensures) (ap (λ (t : routes.Target). Ok t) (sym c.target_by.ensures))

pub returns-then-has_path : goal.returns-then-has_path
returns-then-has_path c =
    rw (
      find_map (routes.is_route c.args.path.now c.args.method.now) route_of c.args.table.now,
      ← c.in-None.ensures,
      list_any_map (routes.is_at c.args.path.now) route_of c.args.table.now,
      ← c.if-has_path.ensures,
    ) refl

pub returns-else-has_path : goal.returns-else-has_path
returns-else-has_path c =
    rw (
      find_map (routes.is_route c.args.path.now c.args.method.now) route_of c.args.table.now,
      ← c.in-None.ensures,
      list_any_map (routes.is_at c.args.path.now) route_of c.args.table.now,
      ← c.if-has_path.ensures,
    ) refl
