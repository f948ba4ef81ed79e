-- What serving asks of a monitor.
use Rattle.std.proofs.Common.{◌≡◌, List, ℕ}
use Rattle.vm_outside.specs.Known.{FilesKnown}
use Rattle.http_stream.specs.Conversation.{new_connection}
use Rattle.http_stream.specs.Stream.{Connection}
use Rattle.flat_machine.specs.Machine.{Machine}
use Rattle.responses.specs.declared.form.ResponseForm.TheVariants.{Http}
use Rattle.monitor_core.specs.declared.monitor.Monitor.{Monitor}
use Rattle.monitor_core.specs.Hearing.{HearGoes}
use Rattle.monitor_core.specs.State.{IsMonitor}
use Rattle.monitor_core.specs.Talking.{HasTalked}
use Rattle.monitor_core.proofs.Items.{bytes_went, gave, on}

-- bytes that came
pub hears : (bytes text : List ℕ) (monitor after : Monitor) (known left : FilesKnown)
    → HasTalked Http (on monitor bytes) after text known left → HearGoes bytes text monitor after known left
hears bytes text monitor after known left talked = record {
  outcomes = talked.answered.outcomes;
  responses = talked.answered.responses;
  writes = talked.answered.writes;
  given = gave Http monitor after known left bytes text talked;
  counted = talked.answered.counted;
  uncalled = talked.answered.uncalled;
  went = λ told m here. bytes_went Http monitor after known left bytes text m talked told here;
}

-- a connection that begins
pub connected : (monitor : Monitor) (known : FilesKnown) (m : Machine) (d : Connection) → d ≡ new_connection
    → IsMonitor monitor known m
    → IsMonitor (record monitor { front = d }) known (record m { connection = new_connection })
connected monitor known m d new is =
    let live = is.own.live in record {
      own = record {
        live = record {
          id_is = live.id_is;
          ids_is = live.ids_is;
          config_is = live.config_is;
          metadata_is = live.metadata_is;
          guest_is = live.guest_is;
          paused_is = live.paused_is;
        };
        connection_is = new;
      };
      files = record { saved_is = is.files.saved_is; calls_is = is.files.calls_is };
    }
