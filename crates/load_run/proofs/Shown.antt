-- What a machine shows, and that showing it changes nothing.
use Rattle.std.proofs.Common.{◌≡◌, ℕ, subst, List, ◌++◌, codes, Option, Some, None, length}
use Rattle.vm_types.specs.declared.ids.ActorId.TheVariants.{Hart}
use Rattle.guest_memory.specs.Ram.{is_ram}
use Rattle.script_text.specs.declared.item.Item.TheVariants as item
use Rattle.vm_outside.specs.Known.{FilesKnown, Tells}
use Rattle.flat_guest.specs.Guest.{Guest, is_actor}
use Rattle.flat_machine.specs.Items.{MemoryLine, RegisterLine}
use Rattle.flat_machine.specs.Machine.{Machine}
use Rattle.monitor_core.specs.declared.monitor.Monitor.{Monitor}
use Rattle.monitor_core.specs.Going.{ItemGoes}
use Rattle.monitor_core.specs.State.{IsMonitor}
use Rattle.load_run.specs.Line.{Shows, number_said, said, word_address}
use Rattle.flat_machine.proofs.Between.{by_either}

register_same : (guest : Option Guest) (hart number : ℕ) (m n : Machine) (text : List ℕ) → RegisterLine guest hart number m text n → n ≡ m
register_same None hart number m n text x = x.1
register_same (Some g) hart number m n text x = by_either (is_actor g (Hart hart)) (λ there. there.1) (λ none. none.1) x

memory_same : (guest : Option Guest) (at len : ℕ) (m n : Machine) (text : List ℕ) → MemoryLine guest at len m text n → n ≡ m
memory_same None at len m n text x = x.1
memory_same (Some g) at len m n text x = by_either (is_ram (length g.memory.bytes) at len) (λ there. there.1) (λ none. none.1) x

pub shows_by : (register memory words : List ℕ) (first mid last : Monitor) (a b d : FilesKnown) → Tells a.health → Tells b.health → ItemGoes (item.Register 0 7) register first mid a b
    → ItemGoes (item.Memory word_address 8) memory mid last b d → words ≡ said register ++ codes " " ++ number_said memory → (m : Machine) → IsMonitor first a m
    → Shows m words × IsMonitor last d m
shows_by register memory words first mid last a b d told still one two are m is =
    let asked = one.went told m is in
    let same = register_same m.guest 0 7 m asked.0 register asked.1.1 in
    let looked = two.went still m (subst (λ (q : Machine). IsMonitor mid b q) same asked.2) in
    let stays = memory_same m.guest word_address 8 m looked.0 memory looked.1.1 in (
      record {
        register = register;
        asks = subst (λ (q : Machine). RegisterLine m.guest 0 7 m register q) same asked.1.1;
        memory = memory;
        looks = subst (λ (q : Machine). MemoryLine m.guest word_address 8 m memory q) stays looked.1.1;
        are = are;
      },
      subst (λ (q : Machine). IsMonitor last d q) stays looked.2,
    )
