-- The queues of a device, each with where the device stands in it, and the round in hand.
use Rattle.std.specs.Prelude.{ℕ, ◌+◌, ◌/◌, ◌%◌, ◌^◌, ◌==◌, Bool, true, false, ◌||◌, if◌then◌else◌, Option, Some, None}
use Rattle.vm_types.specs.declared.port_look.Accepted.{Accepted}
use Rattle.vm_types.specs.declared.port_look.PortLook.{PortLook}
use Rattle.vm_types.specs.declared.port_look.QueueShown.{QueueShown}
use Rattle.dev_core.specs.Looks.{queue_shown, is_workable}
use Rattle.queue_device.specs.declared.lanes.Due.{Due}
use Rattle.queue_device.specs.declared.lanes.Due.TheVariants as due
use Rattle.queue_device.specs.declared.lanes.Lane.{Lane}
use Rattle.queue_device.specs.declared.lanes.Rounds.{Rounds}
use Rattle.queue_device.specs.declared.lanes.Which.{Which}
use Rattle.queue_device.specs.declared.lanes.Which.TheVariants.{First, Second, Third}
use Rattle.queue_device.specs.Chains.{Chain}

abbrev pub new_lane : Lane
new_lane = record { queue = None; waiting = None; next = 0; used = 0; is_kicked = false }

-- those of a device that has done nothing
abbrev pub new_rounds : ℕ → ℕ → Rounds
new_rounds port pages = record {
  first = new_lane;
  second = new_lane;
  third = new_lane;
  pages = pages;
  port = port;
  due = due.Look;
  is_busy = false;
}

-- of the queues up to the last one
abbrev pub is_up_to : Which → Which → Bool
is_up_to Third k = true
is_up_to Second First = true
is_up_to Second Second = true
is_up_to Second Third = false
is_up_to First First = true
is_up_to First Second = false
is_up_to First Third = false

abbrev pub lane_of : Which → Rounds → Lane
lane_of First r = r.first
lane_of Second r = r.second
lane_of Third r = r.third

-- the lane of this number becomes another
abbrev pub with_lane : Which → Lane → Rounds → Rounds
with_lane First lane r = record r { first = lane }
with_lane Second lane r = record r { second = lane }
with_lane Third lane r = record r { third = lane }

abbrev pub with_due : Due → Rounds → Rounds
with_due due r = record r { due = due }

abbrev pub busy : Rounds → Rounds
busy r = record r { is_busy = true }

-- ---- what becomes of a lane

-- a chain was begun
abbrev pub lane_counted : Lane → Lane
lane_counted lane = record lane { next = (lane.next + 1) % 2 ^ 16 }

-- a chain was given back
abbrev pub lane_given : Lane → Lane
lane_given lane = record lane { used = (lane.used + 1) % 2 ^ 16 }

-- it was found empty
abbrev pub lane_emptied : Lane → Lane
lane_emptied lane = record lane { is_kicked = false }

-- a chain waits for guest time
abbrev pub lane_waiting : Chain → Lane → Lane
lane_waiting c lane = record lane { waiting = Some c }

-- it waits no longer
abbrev pub lane_freed : Lane → Lane
lane_freed lane = record lane { waiting = None }

abbrev pub in_lane : Which → (Lane → Lane) → Rounds → Rounds
in_lane k change r = with_lane k (change (lane_of k r)) r

-- ---- what a look shows (VIRTIO 1.2, 2.1, 4.2.2)

-- DRIVER_OK
abbrev pub is_running : ℕ → Bool
is_running status = status / 4 % 2 == 1

-- a reset leaves a new lane
abbrev pub lane_reset : Bool → Lane → Lane
lane_reset was_reset lane = if was_reset then new_lane else lane

-- the round works on a queue that is workable; a kick is remembered in any case
abbrev pub lane_looked : ℕ → Accepted → ℕ → QueueShown → Lane → Lane
lane_looked pages accepted status shown lane = record lane {
  queue = if is_workable status shown then Some (queue_shown pages accepted shown) else None;
  is_kicked = lane.is_kicked || shown.is_kicked;
}

-- between two rounds the device works on no queue
abbrev pub lane_closed : Lane → Lane
lane_closed lane = record lane { queue = None }

-- where the device has the queue
abbrev pub lane_seen : Bool → ℕ → PortLook → QueueShown → Lane → Lane
lane_seen has pages look shown lane =
    if has then lane_looked pages look.accepted look.status shown (lane_reset look.was_reset lane) else lane

-- a look begins a round over the queues up to the last one
abbrev pub round_begun : Which → PortLook → Rounds → Rounds
round_begun last look r = record r {
  first = lane_seen (is_up_to last First) r.pages look look.first r.first;
  second = lane_seen (is_up_to last Second) r.pages look look.second r.second;
  third = lane_seen (is_up_to last Third) r.pages look look.third r.third;
  is_busy = false;
}

-- a round that gave a chain back or received something is followed by a look, any other one by a wait
abbrev pub after_round : Bool → Due
after_round true = due.Look
after_round false = due.Wait

abbrev pub round_over : Rounds → Rounds
round_over r = record r {
  first = lane_closed r.first;
  second = lane_closed r.second;
  third = lane_closed r.third;
  due = after_round r.is_busy;
  is_busy = false;
}

-- the round goes on with a queue, or is over
abbrev pub next_rounds : Option Which → Rounds → Rounds
next_rounds (Some k) r = with_due (due.Lane k) r
next_rounds None r = round_over r
