-- What the command owes, from serving before its last line.
use Rattle.std.proofs.Common.{◌≡◌, Result}
use Rattle.vm_types.specs.declared.exit.Exit.{Exit}
use Rattle.vm_outside.specs.Known.{Called, SinkKnown, Tells}
use Rattle.vm_outside.specs.Passing.{TakesAll}
use Rattle.vm_outside.proofs.Passing.{lasts_more, lasts_same}
use Rattle.command_line.specs.Commands.{ServeWords}
use Rattle.serve_host.specs.Drawing.{WordsKnown}
use Rattle.serve_host.specs.Listening.{ListenerKnown}
use Rattle.responses.specs.Output.{last_line}
use Rattle.monitor_cli.specs.Taking.{IsQuiet}
use Rattle.monitor_running.specs.Reached.{known}
use Rattle.monitor_serving.specs.Views.{Hosts, hosts}
use Rattle.firecracker_cli.specs.Serving.{ServeCause, ServeKnown, Serves, ServersLast, ServersTell, serve_known}
use Rattle.firecracker_cli.specs.SoFar.{ServedSoFar}
use Rattle.firecracker_cli.proofs.Causes.{ends_well, still_told}
use Rattle.firecracker_cli.proofs.Endings.{ended_by}

pub serves : {E : Type 0} (exit : Exit) (given : ServeWords) (before : ServeKnown) (mid : Hosts) (words : WordsKnown)
    (listener : ListenerKnown) (sink : SinkKnown) (result : Result (Unit {0}) E)
    → (ServersTell before → ServedSoFar exit given before (serve_known mid words listener))
    → ServeCause exit before (serve_known mid words listener) → ServersLast before (serve_known mid words listener)
    → (Tells mid.slices.sink.health → TakesAll mid.slices.sink.taken sink.taken result (last_line exit))
    → (IsQuiet exit → sink ≡ mid.slices.sink) → Called mid.slices.sink.health sink.health result
    → Serves exit given before (serve_known (hosts (known mid.slices.trace sink mid.slices.host) mid.files) words listener)
serves exit given before mid words listener sink result so_far told lasts takes quiet called =
    let last : ServersLast (serve_known mid words listener) (serve_known (hosts (known mid.slices.trace sink mid.slices.host) mid.files) words listener) =
    record {
      hosts = record { trace = lasts_same mid.slices.trace.health; sink = called.lasts; files = lasts_same mid.files.health };
      words = lasts_same words.health;
      listener = lasts_same listener.health;
    } in
    let still = still_told exit before _ _ last told in record {
      served = λ tells.
          ended_by given before mid words listener sink lasts.hosts.sink.later exit result (so_far tells) quiet
          (takes (lasts.hosts.sink.still tells.hosts.sink)) called;
      told = still;
      complete = λ none. ends_well exit before _ still none;
      lasts = record {
        hosts = record {
          trace = lasts.hosts.trace;
          sink = lasts_more before.hosts.slices.sink.health mid.slices.sink.health sink.health lasts.hosts.sink called.lasts;
          files = lasts.hosts.files;
        };
        words = lasts.words;
        listener = lasts.listener;
      };
    }
