-- A drive in a state file.
use Rattle.std.specs.Prelude.{◌≡◌, ℕ, if◌then◌else◌, List, Option, Some, None, codes, refl}
use Rattle.std.specs.Str.{bytes_eq}
use Rattle.std.proofs.Common.{Bool, true, false, sym, ap, ◌∙◌}
use Rattle.std.proofs.lemmas.Slice.Eq.{bytes_eq-Decides}
use Rattle.file_format.specs.Format.{Format}
use Rattle.file_format.specs.Kinds.{flag, text, optional, just, nothing, chosen_by, ◌&◌, made_of}
use Rattle.api_calls.specs.declared.call.CacheType.{CacheType}
use Rattle.api_calls.specs.declared.call.CacheType.TheVariants.{Unsafe, Writeback}
use Rattle.api_calls.specs.declared.call.Drive.{Drive}
use Rattle.api_calls.specs.Drives.{cache_text}
use Rattle.snap_state.specs.Limits.{limiter}

-- ---- how it is cached: a text, "Unsafe" or "Writeback"

abbrev pub cache_named : List ℕ → Option CacheType
cache_named name =
    if bytes_eq name (codes "Unsafe") then Some Unsafe
    else (if bytes_eq name (codes "Writeback") then Some Writeback else None)

abbrev pub only : Option CacheType → Format CacheType
only None = nothing
only (Some it) = just it

named_text : (name : List ℕ) (first second : Bool) (it : CacheType)
    → bytes_eq name (codes "Unsafe") ≡ first → bytes_eq name (codes "Writeback") ≡ second
    → (only (if first then Some Unsafe else (if second then Some Writeback else None))).Fits it → name ≡ cache_text it
named_text name true second it is other fits = (bytes_eq-Decides name (codes "Unsafe")).0 is ∙ sym (ap cache_text fits)
named_text name false true it other is fits = (bytes_eq-Decides name (codes "Writeback")).0 is ∙ sym (ap cache_text fits)
named_text name false false it other another fits = absurd fits

pub cache_text-is : (name : List ℕ) (it : CacheType) → (only (cache_named name)).Fits it → name ≡ cache_text it
cache_text-is name it fits = named_text name _ _ it refl refl fits

unfoldable pub cache : Format CacheType
cache = chosen_by text (λ name. only (cache_named name)) cache_text cache_text-is

-- ---- the drive: its id and its path, two flags, how it is cached, and its limits, if it has some

unfoldable pub drive : Format Drive
drive =
    made_of
    (λ d. (d.drive_id, (d.path_on_host, (d.is_root_device, (d.is_read_only, (d.cache_type, d.rate_limiter))))))
    (λ (drive_id, (path_on_host, (is_root_device, (is_read_only, (cache_type, rate_limiter))))).
    record {
      drive_id = drive_id;
      path_on_host = path_on_host;
      is_root_device = is_root_device;
      is_read_only = is_read_only;
      cache_type = cache_type;
      rate_limiter = rate_limiter;
    })
    (λ _. refl) (λ _. refl)
    (text & text & flag & flag & cache & optional limiter)
