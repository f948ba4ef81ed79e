-- A balloon as bytes.
use Rattle.std.specs.Prelude.{◌≡◌, ℕ, zero, suc, refl}
use Rattle.std.proofs.Common.{sym, ap}
use Rattle.file_format.specs.Format.{Format}
use Rattle.file_format.specs.Kinds.{byte, number16, number32, number64, optional, times, just, nothing, variant, chosen_by, passing}
use Rattle.file_format.specs.Kinds.{◌&◌, made_of}
use Rattle.dev_core.specs.declared.collect.Collect.{Collect}
use Rattle.dev_core.specs.Collecting as collecting
use Rattle.queue_device.specs.declared.device.QueueRounds.{QueueRounds}
use Rattle.balloon_device.specs.declared.kind.Stage.{Stage}
use Rattle.balloon_device.specs.declared.kind.Stage.TheVariants as at
use Rattle.balloon_device.specs.declared.statistics.Statistics.{Statistics}
use Rattle.balloon_device.specs.States.{is_state}
use Rattle.balloon_device.specs.Statistics.{known_tags, no_statistics}
use Rattle.balloon_device.specs.Work.{Kept, has_stage}
use Rattle.snap_devices.specs.Places.{place}
use Rattle.snap_devices.specs.Queues.{collect}
use Rattle.snap_devices.specs.Rounds.{rounds}

-- the value of each tag, by its number
unfoldable pub statistics : Format Statistics
statistics =
    made_of (λ s. s.values) (λ values. record { values = values }) (λ _. refl) (λ _. refl)
    (times known_tags (optional number64))

-- ---- what it is at in a chain: a byte, and behind it what it has of that

abbrev pub stage_code : Stage → ℕ
stage_code at.Rest = 0
stage_code (at.List list pages) = 1
stage_code (at.Zeros list pages left address) = 2
stage_code (at.Tags from so_far) = 3

-- the pages of the guest, and what is read of a list of pages
abbrev pub listing_of : Stage → ℕ × Collect
listing_of (at.List list pages) = (pages, list)
listing_of _ = (0, collecting.nothing)

-- how many writes of a page are left, and where; and what is read behind them
abbrev pub zeroing_of : Stage → ℕ × (ℕ × (ℕ × Collect))
zeroing_of (at.Zeros list pages left address) = (pages, (left, (address, list)))
zeroing_of _ = (0, (0, (0, collecting.nothing)))

-- what a chain of statistics told so far, and what is read of it
abbrev pub telling_of : Stage → Statistics × Collect
telling_of (at.Tags from so_far) = (so_far, from)
telling_of _ = (no_statistics, collecting.nothing)

abbrev pub stages : ℕ → Format Stage
stages zero = just at.Rest
stages (suc zero) = variant (λ l. at.List l.1 l.0) listing_of (λ _. refl) (number32 & collect)
stages (suc (suc zero)) =
    variant (λ z. at.Zeros z.1.1.1 z.0 z.1.0 z.1.1.0) zeroing_of (λ _. refl) (number32 & number32 & number64 & collect)
stages (suc (suc (suc zero))) = variant (λ t. at.Tags t.1 t.0) telling_of (λ _. refl) (statistics & collect)
stages (suc (suc (suc (suc n)))) = nothing

pub stage_code-is : (code : ℕ) (s : Stage) → (stages code).Fits s → code ≡ stage_code s
stage_code-is zero s fits = sym (ap stage_code fits)
stage_code-is (suc zero) s fits = sym (ap stage_code fits.0)
stage_code-is (suc (suc zero)) s fits = sym (ap stage_code fits.0)
stage_code-is (suc (suc (suc zero))) s fits = sym (ap stage_code fits.0)
stage_code-is (suc (suc (suc (suc n)))) s fits = absurd fits

unfoldable pub stage : Format Stage
stage = chosen_by byte stages stage_code stage_code-is

-- ---- the balloon

-- its interval of statistics, the guest time at which one was let go on last, what that told, and what it is at
unfoldable pub kind_fields : Format Kept
kind_fields =
    made_of (λ k. (k.own.interval, (k.own.last, (k.own.statistics, k.stage))))
    (λ (interval, (last, (statistics, stage))).
    record { own = record { interval = interval; last = last; statistics = statistics }; stage = stage })
    (λ _. refl) (λ _. refl)
    (number16 & number64 & statistics & stage)

unfoldable pub kind : Format Kept
kind = passing has_stage kind_fields

unfoldable pub balloon_fields : Format (QueueRounds Kept)
balloon_fields =
    made_of (λ b. (b.rounds, (b.phase, b.kind)))
    (λ (rounds, (phase, kind)). record { rounds = rounds; kind = kind; phase = phase })
    (λ _. refl) (λ _. refl)
    (rounds & place & kind)

-- of a state that it may be in
unfoldable pub balloon : Format (QueueRounds Kept)
balloon = passing is_state balloon_fields
