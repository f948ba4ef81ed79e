-- A block device as bytes.
use Rattle.std.specs.Prelude.{◌≡◌, ℕ, zero, suc, Bool, true, false, Option, Some, None, refl}
use Rattle.std.proofs.Common.{sym, ap}
use Rattle.vm_types.specs.declared.port_look.Accepted.{Accepted}
use Rattle.file_format.specs.Ends.{Listing, ended, passing_list, standing_list}
use Rattle.file_format.specs.Format.{Format}
use Rattle.file_format.specs.Kinds.{byte, number16, number64, flag, times, just}
use Rattle.file_format.specs.Kinds.{◌&◌, made_of}
use Rattle.queue_device.specs.declared.device.QueueRounds.{QueueRounds}
use Rattle.block_device.specs.declared.kind.BlockKind.{BlockKind}
use Rattle.snap_devices.specs.declared.file.FileBlock.{FileBlock}
use Rattle.snap_devices.specs.declared.file.FileData.{FileData}
use Rattle.snap_devices.specs.declared.file.FileDue.{FileDue}
use Rattle.snap_devices.specs.declared.file.FileDue.TheVariants.{Look, Walk, Idle}
use Rattle.snap_devices.specs.Forms.{file_of, form_back, is_form, kept_of}
use Rattle.snap_devices.specs.Limits.{end_of_device}
use Rattle.snap_devices.specs.Phases.{phase}
use Rattle.snap_devices.specs.Marks.{accepted, mark_at, mark_code, marked}
use Rattle.snap_devices.specs.Queues.{collect, maybe_walk, parts, queue_with, registers, registers_of}

-- ---- its data: what is due, as a byte, stands last, with what was accepted of the queue that is worked on

abbrev pub due_code : FileDue → ℕ
due_code Look = 0
due_code Walk = 1
due_code Idle = 2

abbrev pub due_at : ℕ → Option FileDue
due_at zero = Some Look
due_at (suc zero) = Some Walk
due_at (suc (suc zero)) = Some Idle
due_at (suc (suc (suc n))) = None

abbrev due_in : Option FileDue → ℕ
due_in None = 0
due_in (Some d) = due_code d

pub due_at-is : (code : ℕ) (d : FileDue) → due_at code ≡ Some d → code ≡ due_code d
due_at-is zero d is = ap due_in is
due_at-is (suc zero) d is = ap due_in is
due_at-is (suc (suc zero)) d is = ap due_in is
due_at-is (suc (suc (suc n))) d is = absurd (cc)

abbrev pub due_by : FileDue → Accepted → Format (FileDue × Accepted)
due_by d a = just (d, a)

pub due_marks : (d : FileDue) (a : Accepted) (x : FileDue × Accepted) → (due_by d a).Fits x → (d ≡ x.0) × (a ≡ x.1)
due_marks d a x fits = (sym (ap (λ (p : FileDue × Accepted). p.0) fits), sym (ap (λ (p : FileDue × Accepted). p.1) fits))

abbrev pub due_mark : FileDue → Accepted → ℕ
due_mark d a = mark_code due_code due_at due_at-is d a

abbrev pub due_mark_at : ℕ → Option (FileDue × Accepted)
due_mark_at n = mark_at due_code due_at due_at-is n

pub at_due : (d : FileDue) (a : Accepted) → due_mark_at (due_mark d a) ≡ Some (d, a)
at_due d a = by d a.indirect a.event_index
  where
    by : (o : FileDue) (indirect event_index : Bool)
        → due_mark_at (due_mark o (accepted indirect event_index)) ≡ Some (o, accepted indirect event_index)
    by Look false false = refl
    by Look true false = refl
    by Look false true = refl
    by Look true true = refl
    by Walk false false = refl
    by Walk true false = refl
    by Walk false true = refl
    by Walk true true = refl
    by Idle false false = refl
    by Idle true false = refl
    by Idle false true = refl
    by Idle true true = refl

unfoldable pub due : Format (FileDue × Accepted)
due = marked due_code due_at due_at-is due_by (λ x. x.0) (λ x. x.1) due_marks

unfoldable pub block_data : Format FileData
block_data =
    made_of
    (λ d. (
      (d.sectors, (registers_of d.queue, (d.drive_id, (d.next, d.used)))),
      (d.port, (d.is_read_only, (d.is_kicked, (d.has_finished, (d.due, d.queue.accepted))))),
    ))
    (λ ((sectors, (registers, (drive_id, (next, used)))), (port, (is_read_only, (is_kicked, (has_finished, (due, accepted)))))).
    record {
      sectors = sectors;
      queue = queue_with accepted registers;
      drive_id = drive_id;
      next = next;
      used = used;
      port = port;
      is_read_only = is_read_only;
      is_kicked = is_kicked;
      has_finished = has_finished;
      due = due;
    })
    (λ _. refl) (λ _. refl)
    ((number64 & registers & times 20 byte & number16 & number16) & (byte & flag & flag & flag & due))

-- ---- the device: its data, where it is, the walk that is begun, what is read, and the parts that are still written

unfoldable pub block_fields : Format FileBlock
block_fields =
    made_of (λ b. (b.facts, (b.phase, (b.walk, (b.from, b.to)))))
    (λ (facts, (phase, (walk, (from, to)))).
    record { facts = facts; phase = phase; walk = walk; from = from; to = to })
    (λ _. refl) (λ _. refl)
    (block_data & phase & maybe_walk & collect & parts)

-- of a state that it may be in, with what it has of a limit behind it, which ends the list
unfoldable pub block : Listing (QueueRounds BlockKind)
block =
    standing_list kept_of file_of (passing_list is_form (ended block_fields end_of_device)) (λ f fits. form_back f fits.1)
