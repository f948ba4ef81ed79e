-- Objects of a kind are attached one after another.
use Rattle.std.proofs.Common.{◌≡◌, ◌≢◌, ℕ, ◌<◌, ◌+◌, nat_lt, Bool, true, false, refl, sym, ◌∙◌, subst, arith, Option, Some, None}
use Rattle.std.proofs.lemmas.Bool.{ltb-true, ltb-false}
use Rattle.vm_outside.specs.Known.{Health, Tells}
use Rattle.vm_host.specs.declared.attached.Attached.{Attached}
use Rattle.vm_host.specs.Devices.{IsOf}
use Rattle.port_table.specs.Window.{most_ports}
use Rattle.vm_config.specs.declared.config.Config.{Config}
use Rattle.flat_guest.specs.Guest.{Guest}
use Rattle.flat_machine.specs.Machine.{Machine}
use Rattle.monitor_machine.specs.declared.machine.LiveMachine.{LiveMachine}
use Rattle.monitor_machine.specs.Kinds.{disks, links, vsocks, words}
use Rattle.monitor_machine.specs.Objects.{AreNamed, AreNamedBy, Named, ObjectKind, Uncalled}
use Rattle.monitor_machine.specs.State.{IsLive}

-- what all that is beside the names has: it is as it was where nothing was done, and where it was so twice
pub record BesideLaw {K : Type 0} (kind : ObjectKind K) : Type 0 where
  pub none : (a : K) → kind.Beside a a
  pub more : (a b c : K) → kind.Beside a b → kind.Beside b c → kind.Beside a c

pub disks_beside : BesideLaw disks
disks_beside = record {
  none = λ a. record { held = refl; calls = refl };
  more = λ a b c first behind. record { held = behind.held ∙ first.held; calls = behind.calls ∙ first.calls };
}

pub links_beside : BesideLaw links
links_beside = record {
  none = λ a. record { wires = refl };
  more = λ a b c first behind. record { wires = behind.wires ∙ first.wires };
}

pub vsocks_beside : BesideLaw vsocks
vsocks_beside = record {
  none = λ a. record { coming = refl; answers = refl; done = refl };
  more = λ a b c first behind. record {
    coming = behind.coming ∙ first.coming;
    answers = behind.answers ∙ first.answers;
    done = behind.done ∙ first.done;
  };
}

pub words_beside : BesideLaw words
words_beside = record {
  none = λ a. record { left = refl };
  more = λ a b c first behind. record { left = behind.left ∙ first.left };
}

module _ {K : Type 0} (kind : ObjectKind K) (law : BesideLaw kind) where
  pub uncalled_none : (a : K) → Uncalled kind a a
  uncalled_none a = record {
    lasts = record { still = λ tells. tells; later = omega arith };
    kept = refl;
    beside = λ tells. law.none a;
  }

  pub uncalled_more : (a b c : K) → Uncalled kind a b → Uncalled kind b c → Uncalled kind a c
  uncalled_more a b c first behind = record {
    lasts = record {
      still = λ tells. behind.lasts.still (first.lasts.still tells);
      later = omega (arith, first.lasts.later, behind.lasts.later);
    };
    kept = behind.kept ∙ first.kept;
    beside = λ tells. law.more a b c (first.beside tells) (behind.beside (first.lasts.still tells));
  }

module _ {K : Type 0} (kind : ObjectKind K) (config : Config) (device : ℕ) (start mid now : K) (uncalled : Uncalled kind start mid)
    (before : (k : ℕ) → k < device → Named kind (kind.health start) config k mid)
    (here : Named kind (kind.health mid) config device now)
    (others : Tells (kind.health mid) → (other : ℕ) → other ≢ device → kind.names now other ≡ kind.names mid other) where
  still_named : (k : ℕ) → k < device → Named kind (kind.health start) config k now
  still_named k there tells name is =
      let other : k ≢ device = λ same. omega (arith, same, there) in
      subst (λ (a : Attached). IsOf name a) (sym (others (uncalled.lasts.still tells) k other)) (before k there tells name is)

  either : (k : ℕ) → k < device + 1 → (below : Bool) → nat_lt k device ≡ below → Named kind (kind.health start) config k now
  either k less true is = still_named k (ltb-true k device is)
  either k less false is =
      let above = ltb-false k device is in
      let same : k ≡ device = omega (arith, less, above) in
      subst (λ (n : ℕ). Named kind (kind.health start) config n now) (sym same) (λ tells. here (uncalled.lasts.still tells))

  -- one device more
  pub named_more : (k : ℕ) → k < device + 1 → Named kind (kind.health start) config k now
  named_more k less = either k less (nat_lt k device) refl

module _ {K : Type 0} (kind : ObjectKind K) (start : Health) (config : Config) (now : K)
    (all : (k : ℕ) → k < most_ports → Named kind start config k now) where
  by_guest : (guest : Option Guest) → AreNamedBy kind start guest config now
  by_guest None = tt
  by_guest (Some g) = all

pub all_attached : {K : Type 0} (kind : ObjectKind K) (live : LiveMachine) (start : Health) (now : K)
    → ((k : ℕ) → k < most_ports → Named kind start live.config k now) → (m : Machine) → IsLive live m → AreNamed kind start m now
all_attached kind live start now all m is =
    subst (λ (c : Config). AreNamedBy kind start m.guest c now) is.config_is (by_guest kind start live.config now all m.guest)
