-- A network device as bytes.
use Rattle.std.specs.Prelude.{◌≡◌, ℕ, zero, suc, List, [], refl}
use Rattle.std.proofs.Common.{sym, ap}
use Rattle.file_format.specs.Format.{Format}
use Rattle.file_format.specs.Kinds.{byte, number64, byte_list, just, nothing, variant, chosen_by, passing}
use Rattle.file_format.specs.Kinds.{◌&◌, made_of}
use Rattle.vq_split.specs.declared.queue.Part.{Part}
use Rattle.queue_device.specs.declared.device.QueueRounds.{QueueRounds}
use Rattle.net_device.specs.declared.kind.Stage.{Stage}
use Rattle.net_device.specs.declared.kind.Stage.TheVariants as at
use Rattle.net_device.specs.Frames.{is_text}
use Rattle.net_device.specs.States.{is_state}
use Rattle.net_device.specs.Work.{Kept, has_stage}
use Rattle.snap_devices.specs.Limits.{limits}
use Rattle.snap_devices.specs.Places.{place}
use Rattle.snap_devices.specs.Queues.{parts, piece}
use Rattle.snap_devices.specs.Rounds.{rounds}

-- ---- bytes

-- no byte, or the header and a frame, as far as it came
unfoldable pub text : Format (List ℕ)
text = passing is_text byte_list

-- ---- what it is at: a byte, and behind it what it has of that

abbrev pub stage_code : Stage → ℕ
stage_code at.Rest = 0
stage_code (at.Take size index) = 1
stage_code (at.Receive from to) = 2
stage_code (at.Read skip from) = 3
stage_code (at.Send bytes skip from) = 4
stage_code at.End = 5

-- the length of the frame that is taken from the link, and the number of its next piece
abbrev pub taking_of : Stage → ℕ × ℕ
taking_of (at.Take size index) = (size, index)
taking_of _ = (0, 0)

-- where the next byte of the frame is that is written, and the parts that are left
abbrev pub receiving_of : Stage → ℕ × List Part
receiving_of (at.Receive from to) = (from, to)
receiving_of _ = (0, [])

-- how many bytes are passed over, and the parts that are left to read
abbrev pub reading_of : Stage → ℕ × List Part
reading_of (at.Read skip from) = (skip, from)
reading_of _ = (0, [])

-- the bytes that are sent, and the same behind them
abbrev pub sending_of : Stage → List ℕ × (ℕ × List Part)
sending_of (at.Send bytes skip from) = (bytes, (skip, from))
sending_of _ = ([], (0, []))

abbrev pub stages : ℕ → Format Stage
stages zero = just at.Rest
stages (suc zero) = variant (λ t. at.Take t.0 t.1) taking_of (λ _. refl) (number64 & number64)
stages (suc (suc zero)) = variant (λ r. at.Receive r.0 r.1) receiving_of (λ _. refl) (number64 & parts)
stages (suc (suc (suc zero))) = variant (λ r. at.Read r.0 r.1) reading_of (λ _. refl) (number64 & parts)
stages (suc (suc (suc (suc zero)))) =
    variant (λ s. at.Send s.0 s.1.0 s.1.1) sending_of (λ _. refl) (piece & number64 & parts)
stages (suc (suc (suc (suc (suc zero))))) = just at.End
stages (suc (suc (suc (suc (suc (suc n)))))) = nothing

pub stage_code-is : (code : ℕ) (s : Stage) → (stages code).Fits s → code ≡ stage_code s
stage_code-is zero s fits = sym (ap stage_code fits)
stage_code-is (suc zero) s fits = sym (ap stage_code fits.0)
stage_code-is (suc (suc zero)) s fits = sym (ap stage_code fits.0)
stage_code-is (suc (suc (suc zero))) s fits = sym (ap stage_code fits.0)
stage_code-is (suc (suc (suc (suc zero)))) s fits = sym (ap stage_code fits.0)
stage_code-is (suc (suc (suc (suc (suc zero))))) s fits = sym (ap stage_code fits)
stage_code-is (suc (suc (suc (suc (suc (suc n)))))) s fits = absurd fits

unfoldable pub stage : Format Stage
stage = chosen_by byte stages stage_code stage_code-is

-- ---- the device

-- what waits for the driver, the limits of what is received and of what is transmitted, what it is at, and the frame that is on its
-- way between the link and the driver
unfoldable pub kind_fields : Format Kept
kind_fields =
    made_of (λ k. (k.own.text, (k.own.rx, (k.own.tx, (k.doing.stage, k.doing.bytes)))))
    (λ (text, (rx, (tx, (stage, frame)))).
    record { own = record { text = text; rx = rx; tx = tx }; doing = record { stage = stage; bytes = frame } })
    (λ _. refl) (λ _. refl)
    (text & limits & limits & stage & text)

unfoldable pub kind : Format Kept
kind = passing has_stage kind_fields

unfoldable pub net_fields : Format (QueueRounds Kept)
net_fields =
    made_of (λ n. (n.rounds, (n.phase, n.kind)))
    (λ (rounds, (phase, kind)). record { rounds = rounds; kind = kind; phase = phase })
    (λ _. refl) (λ _. refl)
    (rounds & place & kind)

-- of a state that it may be in
unfoldable pub net : Format (QueueRounds Kept)
net = passing is_state net_fields
