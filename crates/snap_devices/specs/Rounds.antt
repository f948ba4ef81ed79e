-- The rounds of a device with queues as bytes.
use Rattle.std.specs.Prelude.{◌≡◌, ℕ, zero, suc, refl}
use Rattle.std.proofs.Common.{sym, ap}
use Rattle.file_format.specs.Format.{Format}
use Rattle.file_format.specs.Kinds.{byte, number16, number32, flag, just, nothing, variant, chosen_by}
use Rattle.file_format.specs.Kinds.{◌&◌, made_of}
use Rattle.queue_device.specs.declared.lanes.Due.{Due}
use Rattle.queue_device.specs.declared.lanes.Due.TheVariants as due
use Rattle.queue_device.specs.declared.lanes.Lane.{Lane}
use Rattle.queue_device.specs.declared.lanes.Rounds.{Rounds}
use Rattle.queue_device.specs.declared.lanes.Which.{Which}
use Rattle.queue_device.specs.declared.lanes.Which.TheVariants.{First, Second, Third}
use Rattle.snap_devices.specs.Limits.{maybe_chain}
use Rattle.snap_devices.specs.Marks.{which_code}
use Rattle.snap_devices.specs.Queues.{maybe_queue}

-- ---- one of its queues: its number

abbrev pub which_queues : ℕ → Format Which
which_queues zero = just First
which_queues (suc zero) = just Second
which_queues (suc (suc zero)) = just Third
which_queues (suc (suc (suc n))) = nothing

pub which_code-is : (code : ℕ) (k : Which) → (which_queues code).Fits k → code ≡ which_code k
which_code-is zero k fits = sym (ap which_code fits)
which_code-is (suc zero) k fits = sym (ap which_code fits)
which_code-is (suc (suc zero)) k fits = sym (ap which_code fits)
which_code-is (suc (suc (suc n))) k fits = absurd fits

unfoldable pub which : Format Which
which = chosen_by byte which_queues which_code which_code-is

-- ---- what is due next: a byte, and behind 2 the queue

abbrev pub next_code : Due → ℕ
next_code due.Look = 0
next_code due.Question = 1
next_code (due.Lane k) = 2
next_code due.Wait = 3

abbrev pub lane_due : Due → Which
lane_due (due.Lane k) = k
lane_due _ = First

abbrev pub nexts : ℕ → Format Due
nexts zero = just due.Look
nexts (suc zero) = just due.Question
nexts (suc (suc zero)) = variant due.Lane lane_due (λ _. refl) which
nexts (suc (suc (suc zero))) = just due.Wait
nexts (suc (suc (suc (suc n)))) = nothing

pub next_code-is : (code : ℕ) (d : Due) → (nexts code).Fits d → code ≡ next_code d
next_code-is zero d fits = sym (ap next_code fits)
next_code-is (suc zero) d fits = sym (ap next_code fits)
next_code-is (suc (suc zero)) d fits = sym (ap next_code fits.0)
next_code-is (suc (suc (suc zero))) d fits = sym (ap next_code fits)
next_code-is (suc (suc (suc (suc n)))) d fits = absurd fits

unfoldable pub next_due : Format Due
next_due = chosen_by byte nexts next_code next_code-is

-- ---- the rounds

-- The number of a queue's next chain, how many were given back, and whether it was kicked; its registers, where the round works on
-- it; and the chain that waits.
unfoldable pub lane : Format Lane
lane =
    made_of (λ l. ((l.next, (l.used, l.is_kicked)), (l.queue, l.waiting)))
    (λ ((next, (used, is_kicked)), (queue, waiting)).
    record { queue = queue; waiting = waiting; next = next; used = used; is_kicked = is_kicked })
    (λ _. refl) (λ _. refl)
    ((number16 & number16 & flag) & (maybe_queue & maybe_chain))

-- the pages of its guest, the number of its port, what is due, and whether the round gave a chain back or received something; and its
-- three queues
unfoldable pub rounds : Format Rounds
rounds =
    made_of (λ r. ((r.pages, (r.port, (r.due, r.is_busy))), (r.first, (r.second, r.third))))
    (λ ((pages, (port, (due, is_busy))), (first, (second, third))).
    record {
      first = first;
      second = second;
      third = third;
      pages = pages;
      port = port;
      due = due;
      is_busy = is_busy;
    })
    (λ _. refl) (λ _. refl)
    ((number32 & byte & next_due & flag) & (lane & lane & lane))
