-- What stands behind the gates of the two files.
use Rattle.std.proofs.Common.{◌≡◌, ℕ, List, ◌∷◌, ◌++◌, drop, ap, subst, ◌∙◌}
use Rattle.vm_types.specs.declared.identity.Identity.{Identity}
use Rattle.file_format.specs.Versions.{current_version, version_of}
use Rattle.file_format.specs.declared.version.Version.{Version}
use Rattle.snap_memory.specs.Headers.{header, new_header}
use Rattle.snap_memory.specs.declared.header.MemHeader.{MemHeader}
use Rattle.snap_state.specs.declared.copy.StateCopy.{StateCopy}
use Rattle.snap_state.specs.declared.file.Saved.{Saved}
use Rattle.snap_state.specs.Files.{Encodes, IsSaved, contents, contents_of, magic}
use Rattle.flat_snapshot.specs.Files.{memory_head, state_body}

pub head_is : (identity : Identity) (pages : ℕ) (h : MemHeader) (behind head : List ℕ) → h ≡ new_header pages identity
    → 1 ∷ behind ≡ header.bytes h → head ≡ behind → head ≡ memory_head identity pages
unfolding memory_head
head_is identity pages h behind head new written same = same ∙ ap (drop 1) (written ∙ ap header.bytes new)

pub body_is : (identity : Identity) (copy : StateCopy) (behind body : List ℕ)
    → Encodes (1 ∷ behind) (record { identity = identity; copy = copy }) → version_of (1 ∷ behind) ≡ current_version → body ≡ behind
    → body ≡ state_body identity copy
unfolding state_body
body_is identity copy behind body e version same =
    let s : Saved = record { identity = identity; copy = copy } in
    same ∙ ap (drop 1) e.bytes ∙ ap (λ (v : Version). magic v ++ (contents v).bytes (contents_of v s)) version

pub body_saved : (identity : Identity) (copy : StateCopy) (behind : List ℕ) → Encodes (1 ∷ behind) (record { identity = identity; copy = copy })
    → version_of (1 ∷ behind) ≡ current_version → IsSaved current_version (record { identity = identity; copy = copy })
body_saved identity copy behind e version =
    subst (λ (v : Version). IsSaved v (record { identity = identity; copy = copy })) version e.saved
