-- What a network device writes are bytes where each reply was small, and other limits leave its data so.
use Rattle.std.proofs.Common.{◌≡◌, ℕ, true, List, Option, drop}
use Rattle.std.proofs.lemmas.List.Elements.{All-drop, All-take}
use Rattle.le_fields.specs.Fields.{IsByte}
use Rattle.dev_core.specs.Pieces.{share}
use Rattle.token_bucket.specs.Kept.{Kept}
use Rattle.rate_gate.specs.Small.{AreSmallOthers}
use Rattle.rate_gate.proofs.SmallLimits.{others_small}
use Rattle.queue_device.specs.Sizes.{IsSmallWrite}
use Rattle.net_device.specs.declared.kind.NetChange.TheVariants.{Receives, Transmits}
use Rattle.net_device.specs.declared.kind.Stage.{Stage}
use Rattle.net_device.specs.declared.kind.Stage.TheVariants as stage
use Rattle.net_device.specs.Net.{Net, limited}
use Rattle.net_device.specs.Work.{IsSizedData, IsSmallText, op_of}

pub acts_small : (s : Stage) (bytes : List ℕ) → IsSmallText bytes → IsSmallWrite (op_of s bytes)
acts_small stage.Rest bytes text = tt
acts_small (stage.Take size index) bytes text = tt
acts_small (stage.Receive at to) bytes text =
    All-take IsByte (share (drop at bytes) to) (drop at bytes) (All-drop IsByte at bytes text.1)
acts_small (stage.Read skip from) bytes text = tt
acts_small (stage.Send piece skip from) bytes text = tt
acts_small stage.End bytes text = tt

pub receives_small : (bandwidth ops : Option (Option Kept)) (e : Net) → AreSmallOthers bandwidth → AreSmallOthers ops → IsSizedData true e
    → IsSizedData true (limited (Receives bandwidth ops) e)
receives_small bandwidth ops e first second was = λ yes. record {
  text = (was yes).text;
  rx = others_small e.rx bandwidth ops first second (was yes).rx;
  tx = (was yes).tx;
}

pub transmits_small : (bandwidth ops : Option (Option Kept)) (e : Net) → AreSmallOthers bandwidth → AreSmallOthers ops → IsSizedData true e
    → IsSizedData true (limited (Transmits bandwidth ops) e)
transmits_small bandwidth ops e first second was = λ yes. record {
  text = (was yes).text;
  rx = (was yes).rx;
  tx = others_small e.tx bandwidth ops first second (was yes).tx;
}
