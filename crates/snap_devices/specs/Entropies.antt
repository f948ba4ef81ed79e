-- An entropy device as bytes.
use Rattle.std.specs.Prelude.{◌≡◌, ℕ, zero, suc, List, [], refl}
use Rattle.std.proofs.Common.{sym, ap}
use Rattle.file_format.specs.Format.{Format}
use Rattle.file_format.specs.Kinds.{byte, number32, just, nothing, variant, chosen_by, passing}
use Rattle.file_format.specs.Kinds.{◌&◌, made_of}
use Rattle.vq_split.specs.declared.queue.Part.{Part}
use Rattle.queue_device.specs.declared.device.QueueRounds.{QueueRounds}
use Rattle.queue_device.specs.declared.spill.Spill.{Spill}
use Rattle.entropy_device.specs.declared.kind.Stage.{Stage}
use Rattle.entropy_device.specs.declared.kind.Stage.TheVariants as at
use Rattle.entropy_device.specs.States.{is_state}
use Rattle.entropy_device.specs.Work.{Kept, has_stage}
use Rattle.snap_devices.specs.Limits.{limits}
use Rattle.snap_devices.specs.Places.{place}
use Rattle.snap_devices.specs.Queues.{held, parts}
use Rattle.snap_devices.specs.Rounds.{rounds}

-- ---- what it is at in a chain: a byte, and behind it what it has of that

abbrev pub stage_code : Stage → ℕ
stage_code at.Rest = 0
stage_code (at.Draw len index to) = 1
stage_code (at.Write len index spill) = 2

-- with how many bytes the chain is filled, the number of the word that is asked for, and the parts that are left
abbrev pub drawing_of : Stage → ℕ × (ℕ × List Part)
drawing_of (at.Draw len index to) = (len, (index, to))
drawing_of _ = (0, (0, []))

-- the same of a word that is written, and its bytes that are left
abbrev pub writing_of : Stage → ℕ × (ℕ × (List Part × List ℕ))
writing_of (at.Write len index spill) = (len, (index, (spill.to, spill.held)))
writing_of _ = (0, (0, ([], [])))

abbrev pub stages : ℕ → Format Stage
stages zero = just at.Rest
stages (suc zero) = variant (λ d. at.Draw d.0 d.1.0 d.1.1) drawing_of (λ _. refl) (number32 & number32 & parts)
stages (suc (suc zero)) =
    variant (λ w. at.Write w.0 w.1.0 (record { held = w.1.1.1; to = w.1.1.0 })) writing_of (λ _. refl) (number32 & number32 & parts & held)
stages (suc (suc (suc n))) = nothing

pub stage_code-is : (code : ℕ) (s : Stage) → (stages code).Fits s → code ≡ stage_code s
stage_code-is zero s fits = sym (ap stage_code fits)
stage_code-is (suc zero) s fits = sym (ap stage_code fits.0)
stage_code-is (suc (suc zero)) s fits = sym (ap stage_code fits.0)
stage_code-is (suc (suc (suc n))) s fits = absurd fits

unfoldable pub stage : Format Stage
stage = chosen_by byte stages stage_code stage_code-is

-- ---- the device

-- its limits, and what it is at
unfoldable pub kind_fields : Format Kept
kind_fields =
    made_of (λ k. (k.own.limits, k.stage)) (λ (limits, stage). record { own = record { limits = limits }; stage = stage })
    (λ _. refl) (λ _. refl)
    (limits & stage)

unfoldable pub kind : Format Kept
kind = passing has_stage kind_fields

unfoldable pub entropy_fields : Format (QueueRounds Kept)
entropy_fields =
    made_of (λ e. (e.rounds, (e.phase, e.kind)))
    (λ (rounds, (phase, kind)). record { rounds = rounds; kind = kind; phase = phase })
    (λ _. refl) (λ _. refl)
    (rounds & place & kind)

-- of a state that it may be in
unfoldable pub entropy : Format (QueueRounds Kept)
entropy = passing is_state entropy_fields
