-- Serving since its lineage was drawn, as serving since its beginning.
use Rattle.std.proofs.Common.{◌≡◌, ℕ, refl, ◌∙◌, List, [], ◌∷◌, ◌++◌, append_assoc}
use Rattle.vm_outside.specs.Known.{Tells}
use Rattle.serve_host.specs.Drawing.{WordsKnown}
use Rattle.vm_host.specs.Giving.{IsDrawn}
use Rattle.script_text.specs.declared.item.Item.{Item}
use Rattle.script_text.specs.declared.item.Item.TheVariants as item
use Rattle.command_line.specs.Commands.{ServeWords}
use Rattle.flat_machine.specs.Machine.{Machine, new_machine}
use Rattle.flat_machine.specs.Run.{Act}
use Rattle.flat_trace.specs.Events.{quiet_act}
use Rattle.flat_trace.specs.Showing.{Out, items_of}
use Rattle.flat_trace.specs.Showing.Out.{Quiet}
use Rattle.monitor_running.specs.Asked.{HostKnown}
use Rattle.monitor_running.specs.Reached.{Reached}
use Rattle.monitor_running.proofs.Events.{rests_same, rests_uncalled}
use Rattle.firecracker_cli.specs.Serving.{HasLineage, ServeKnown, TraceRan, took_before}
use Rattle.firecracker_cli.specs.SoFar.{start_at, with_lineage}

module _ (given : ServeWords) (before : ServeKnown) (lineage : ℕ) (words : WordsKnown) (took : List Item) (host : HostKnown)
    (taken : List ℕ) (m : Machine) (talk : List Out)
    (r : Reached (start_at given before lineage) (record { took = took; taken = taken; host = host }) m talk) where
  abbrev pub all_acts : List Act
  all_acts = quiet_act (item.Lineage lineage) ∷ r.acts

  abbrev pub all_outs : List Out
  all_outs = Quiet ∷ r.outs

  pub all_took : took ≡ took_before given.trace before.hosts.slices.trace.took ++ items_of all_acts
  all_took =
      r.added
      ∙ append_assoc (took_before given.trace before.hosts.slices.trace.took) (item.Lineage lineage ∷ []) (items_of r.acts)

  pub all_ran : TraceRan given.id before host all_acts all_outs m
  all_ran =
      let devices = before.hosts.slices.host.devices in
      let start = with_lineage lineage (new_machine given.id before.hosts.files.saved before.hosts.files.calls) in record {
        run = (Quiet, start, r.outs, refl, (refl, (refl, (refl, refl))), r.run);
        asked = record { clock = r.asked.clock; devices = (devices, rests_uncalled devices devices (rests_same devices), r.asked.devices) };
      }

  pub all_begun : (Tells before.words.health → IsDrawn before.words.left lineage words.left) → HasLineage before.words words all_acts
  all_begun drawn = record { lineage = lineage; others = r.acts; first = refl; no_more = r.no_lineage; drawn = drawn }
