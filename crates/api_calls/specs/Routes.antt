-- The paths and their methods, in the order of the API's table.
use Rattle.std.specs.Prelude.{ℕ, ◌&&◌, Bool, List, [], ◌∷◌, length, take, drop, if◌then◌else◌, Option, Some, None, is_some, unwrap_or, Result, Ok, Err, codes}
use Rattle.std.specs.List.{list_any, find}
use Rattle.std.specs.Str.{bytes_eq}
use Rattle.refusals.specs.declared.refusal.Refusal.{Refusal}
use Rattle.refusals.specs.declared.refusal.Refusal.TheVariants as refusal
use Rattle.api_calls.specs.Form.{is_id}
use Rattle.api_calls.specs.declared.call.Part.TheVariants as part
use Rattle.api_calls.specs.declared.endpoint.Endpoint.{Endpoint}
use Rattle.api_calls.specs.declared.endpoint.Endpoint.TheVariants as endpoint
use Rattle.api_calls.specs.declared.endpoint.Body.TheVariants as body

-- Where a route is: at this path, or at each id in this folder.
pub data Pattern : Type 0 where
  fixed : List ℕ → Pattern
  folder : List ℕ → Pattern

pub record Route : Type 0 where
  pub pattern : Pattern
  pub method : List ℕ
  pub endpoint : Endpoint

abbrev route : List ℕ → List ℕ → Endpoint → Route
route method path endpoint = record { pattern = fixed path; method = method; endpoint = endpoint }

abbrev route_in : List ℕ → List ℕ → Endpoint → Route
route_in method place endpoint = record { pattern = folder place; method = method; endpoint = endpoint }

abbrev pub routes : List Route
routes =
    route (codes "PUT") (codes "/boot-source") (endpoint.Send body.BootSource)
    ∷ route_in (codes "PUT") (codes "/drives/") (endpoint.Send body.Drive)
    ∷ route_in (codes "PATCH") (codes "/drives/") (endpoint.Send body.DrivePatch)
    ∷ route_in (codes "PUT") (codes "/network-interfaces/") (endpoint.Send body.Interface)
    ∷ route_in (codes "PATCH") (codes "/network-interfaces/") (endpoint.Send body.InterfacePatch)
    ∷ route (codes "PUT") (codes "/vsock") (endpoint.Send body.Vsock)
    ∷ route (codes "PUT") (codes "/machine-config") (endpoint.Send body.MachineConfig)
    ∷ route (codes "PATCH") (codes "/machine-config") (endpoint.Send body.MachinePatch)
    ∷ route (codes "PUT") (codes "/balloon") (endpoint.Send body.Balloon)
    ∷ route (codes "PATCH") (codes "/balloon") (endpoint.Send body.BalloonPatch)
    ∷ route (codes "PATCH") (codes "/balloon/statistics") (endpoint.Send body.StatisticsPatch)
    ∷ route (codes "PUT") (codes "/entropy") (endpoint.Send body.Entropy)
    ∷ route (codes "PUT") (codes "/mmds/config") (endpoint.Send body.MmdsConfig)
    ∷ route (codes "PUT") (codes "/mmds") (endpoint.Send body.Metadata)
    ∷ route (codes "PATCH") (codes "/mmds") (endpoint.Send body.MetadataPatch)
    ∷ route (codes "PUT") (codes "/actions") (endpoint.Send body.Action)
    ∷ route (codes "PATCH") (codes "/vm") (endpoint.Send body.VmState)
    ∷ route (codes "PUT") (codes "/snapshot/create") (endpoint.Send body.SnapshotCreate)
    ∷ route (codes "PUT") (codes "/snapshot/load") (endpoint.Send body.SnapshotLoad)
    ∷ route (codes "GET") (codes "/") (endpoint.Get part.Instance)
    ∷ route (codes "GET") (codes "/version") (endpoint.Get part.Version)
    ∷ route (codes "GET") (codes "/machine-config") (endpoint.Get part.MachineConfig)
    ∷ route (codes "GET") (codes "/mmds") (endpoint.Get part.Metadata)
    ∷ route (codes "GET") (codes "/vm/config") (endpoint.Get part.VmConfig)
    ∷ route (codes "GET") (codes "/balloon") (endpoint.Get part.Balloon)
    ∷ route (codes "GET") (codes "/balloon/statistics") (endpoint.Get part.Statistics)
    ∷ []

-- The id that a path has where it fits a pattern, byte by byte; an empty one, where the pattern is a fixed path.
abbrev pub id_by : Pattern → List ℕ → Option (List ℕ)
id_by (fixed place) path = if bytes_eq place path then Some [] else None
id_by (folder place) path =
    if bytes_eq (take (length place) path) place && is_id (drop (length place) path) then Some (drop (length place) path) else None

abbrev pub is_at : List ℕ → Route → Bool
is_at path route = is_some (id_by route.pattern path)

abbrev pub is_route : List ℕ → List ℕ → Route → Bool
is_route path method route = is_at path route && bytes_eq route.method method

-- a route's endpoint, and the id that the path has by its pattern
pub record Target : Type 0 where
  pub endpoint : Endpoint
  pub id : List ℕ

abbrev pub target_by : List ℕ → Route → Target
target_by path route = record { endpoint = route.endpoint; id = unwrap_or (id_by route.pattern path) [] }

abbrev pub target_or : List ℕ → Option Route → Bool → Result Target Refusal
target_or path (Some route) is_path = Ok (target_by path route)
target_or path None is_path = Err (if is_path then refusal.NoSuchMethod else refusal.NoSuchPath)

-- where a method on a path leads, or which of the two there isn't
unfoldable pub target_of : List ℕ → List ℕ → Result Target Refusal
target_of path method = target_or path (find (is_route path method) routes) (list_any (is_at path) routes)
