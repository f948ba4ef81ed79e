-- What a look at the port shows of a queue (VIRTIO 1.2, 4.2.2).
use Rattle.std.specs.Prelude.{ℕ, ◌/◌, ◌%◌, ◌==◌, Bool, false, ◌&&◌}
use Rattle.vm_types.specs.declared.port_look.Accepted.{Accepted}
use Rattle.vm_types.specs.declared.port_look.QueueShown.{QueueShown}
use Rattle.vq_split.specs.declared.queue.Queue.{Queue}

abbrev pub queue_shown : ℕ → Accepted → QueueShown → Queue
queue_shown pages accepted shown = record {
  descriptors = shown.descriptors;
  available = shown.available;
  used = shown.used;
  size = shown.size;
  pages = pages;
  accepted = accepted;
}

-- no queue, in a guest of this many pages
abbrev pub no_queue : ℕ → Queue
no_queue pages = record {
  descriptors = 0;
  available = 0;
  used = 0;
  size = 0;
  pages = pages;
  accepted = record { indirect = false; event_index = false };
}

-- a device works on a queue that is ready, under DRIVER_OK (4) and not under DEVICE_NEEDS_RESET (64) (2.1)
abbrev pub is_workable : ℕ → QueueShown → Bool
is_workable status shown = (status / 4 % 2 == 1) && (status / 64 % 2 == 0) && shown.is_ready
