-- The port of a balloon: what it offers (VIRTIO 1.2, 5.5.3), and its configuration (5.5.4).
use Rattle.std.specs.Prelude.{ℕ, ◌==◌, Bool, not, if◌then◌else◌, List, ◌++◌, bit_or, drop}
use Rattle.le_fields.specs.Fields.{bytes_of}
use Rattle.port_table.specs.declared.kind.DeviceKind.TheVariants.{Balloon}
use Rattle.port_table.specs.declared.kind.Feature.{Feature}
use Rattle.port_table.specs.declared.kind.Feature.TheVariants.{BalloonDeflateOnOom, BalloonStatistics}
use Rattle.port_table.specs.declared.state.PortState.{PortState}
use Rattle.port_table.specs.Kinds.{feature_mask}
use Rattle.port_table.specs.Ports.{new_port}
use Rattle.balloon_device.specs.declared.new_balloon.NewBalloon.{NewBalloon}

abbrev pub feature_if : Bool → Feature → ℕ
feature_if has f = if has then feature_mask f else 0

-- statistics where they have an interval, and that the driver may take pages back when it is short of memory
abbrev pub offered : NewBalloon → ℕ
offered b = bit_or (feature_if (not (b.interval == 0)) BalloonStatistics) (feature_if b.deflates_on_oom BalloonDeflateOnOom)

-- how many pages the host wants, and how many the driver gave
abbrev pub config_of : ℕ → ℕ → List ℕ
config_of target actual = bytes_of 4 target ++ bytes_of 4 actual

-- the port at a start: the driver has given none
abbrev pub balloon_port : NewBalloon → PortState
balloon_port b = new_port Balloon (offered b) (config_of b.target 0)

-- what it shows once the host wants so many; how many the driver gave stays
abbrev pub target_shown : ℕ → PortState → List ℕ
target_shown target p = bytes_of 4 target ++ drop 4 p.config
