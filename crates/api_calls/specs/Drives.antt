-- A drive by its id, and how its cache is told.
use Rattle.std.specs.Prelude.{ℕ, Bool, List, codes}
use Rattle.std.specs.Str.{bytes_eq}
use Rattle.api_calls.specs.declared.call.CacheType.{CacheType}
use Rattle.api_calls.specs.declared.call.CacheType.TheVariants as cache
use Rattle.api_calls.specs.declared.call.Drive.{Drive}

-- the drive has this id
abbrev pub is_named : List ℕ → Drive → Bool
is_named id drive = bytes_eq drive.drive_id id

abbrev pub is_root : Drive → Bool
is_root drive = drive.is_root_device

abbrev pub cache_text : CacheType → List ℕ
cache_text cache.Unsafe = codes "Unsafe"
cache_text cache.Writeback = codes "Writeback"
