-- The drives of a machine, in the order of their first PUT, and their order as devices.
use Rattle.std.specs.Prelude.{ℕ, Bool, not, List, ◌++◌, Option, unwrap_or}
use Rattle.std.specs.List.{filter, position}
use Rattle.api_calls.specs.declared.call.Drive.{Drive}
use Rattle.api_calls.specs.declared.call.DrivePatch.{DrivePatch}
use Rattle.vm_config.specs.Limits.{limited}
use Rattle.vm_config.specs.Named.{has_named, changed_in, put_in}
pub use Rattle.api_calls.specs.Drives.{is_named, is_root}

abbrev pub id_of_drive : Drive → List ℕ
id_of_drive d = d.drive_id

-- there is a drive of this id
abbrev pub has_drive : List Drive → List ℕ → Bool
has_drive drives id = has_named id_of_drive drives id

-- the drive of this id is changed, in its place
abbrev pub with_changed : List ℕ → (Drive → Drive) → List Drive → List Drive
with_changed id f drives = changed_in id_of_drive id f drives

-- a PUT: it takes the place of the drive of its id, or stands last
abbrev pub put_drive : List Drive → Drive → List Drive
put_drive drives drive = put_in id_of_drive drives drive

-- a PATCH: what isn't given stays
abbrev pub patched_drive : DrivePatch → Drive → Drive
patched_drive patch d = record d {
  path_on_host = unwrap_or patch.path_on_host d.path_on_host;
  rate_limiter = limited patch.rate_limiter d.rate_limiter;
}

abbrev pub patch_drive : List Drive → DrivePatch → List Drive
patch_drive drives patch = with_changed patch.drive_id (patched_drive patch) drives

-- the order of devices at a start: the root drive, and then the others
abbrev pub in_order : List Drive → List Drive
in_order drives = filter is_root drives ++ filter (λ d. not (is_root d)) drives

-- the number of the device that the drive of this id is
abbrev pub device_of : List Drive → List ℕ → Option ℕ
device_of drives id = position (is_named id) (in_order drives)
