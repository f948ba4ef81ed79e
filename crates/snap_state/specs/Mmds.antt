-- How a guest is given metadata, in a state file.
use Rattle.std.specs.Prelude.{◌≡◌, ℕ, if◌then◌else◌, List, Option, Some, None, codes, refl}
use Rattle.std.specs.Str.{bytes_eq}
use Rattle.std.proofs.Common.{Bool, true, false, sym, ap, ◌∙◌}
use Rattle.std.proofs.lemmas.Slice.Eq.{bytes_eq-Decides}
use Rattle.file_format.specs.Format.{Format}
use Rattle.file_format.specs.Kinds.{text, list_of, just, nothing, chosen_by, ◌&◌, made_of}
use Rattle.metadata_store.specs.declared.version.MetadataVersion.{MetadataVersion}
use Rattle.metadata_store.specs.declared.version.MetadataVersion.TheVariants.{V1, V2}
use Rattle.api_calls.specs.declared.mmds.MmdsConfig.{MmdsConfig}
use Rattle.vm_config.specs.Texts.{version_text}

-- ---- the version: a text, "V1" or "V2"

abbrev pub version_named : List ℕ → Option MetadataVersion
version_named name =
    if bytes_eq name (codes "V1") then Some V1
    else (if bytes_eq name (codes "V2") then Some V2 else None)

abbrev pub only : Option MetadataVersion → Format MetadataVersion
only None = nothing
only (Some it) = just it

named_text : (name : List ℕ) (first second : Bool) (it : MetadataVersion)
    → bytes_eq name (codes "V1") ≡ first → bytes_eq name (codes "V2") ≡ second
    → (only (if first then Some V1 else (if second then Some V2 else None))).Fits it → name ≡ version_text it
named_text name true second it is other fits = (bytes_eq-Decides name (codes "V1")).0 is ∙ sym (ap version_text fits)
named_text name false true it other is fits = (bytes_eq-Decides name (codes "V2")).0 is ∙ sym (ap version_text fits)
named_text name false false it other another fits = absurd fits

pub version_text-is : (name : List ℕ) (it : MetadataVersion) → (only (version_named name)).Fits it → name ≡ version_text it
version_text-is name it fits = named_text name _ _ it refl refl fits

unfoldable pub version : Format MetadataVersion
version = chosen_by text (λ name. only (version_named name)) version_text version_text-is

-- ---- the ids of its interfaces, the version of the service, and the address at which the guest asks

unfoldable pub mmds : Format MmdsConfig
mmds =
    made_of (λ m. (m.network_interfaces, (m.version, m.ipv4_address)))
    (λ (network_interfaces, (version, ipv4_address)).
    record { network_interfaces = network_interfaces; version = version; ipv4_address = ipv4_address })
    (λ _. refl) (λ _. refl)
    (list_of text & version & text)
