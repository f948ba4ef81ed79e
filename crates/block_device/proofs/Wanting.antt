-- What the service of a request wants.
use Rattle.std.proofs.Common.{◌≡◌, ℕ, ◌+◌, ◌-◌, ◌<◌, refl, ap, List, length, take, arith, Some}
use Rattle.vm_types.specs.declared.op.Op.TheVariants.{Write}
use Rattle.device_trace.specs.Doing.{Doing, asked, and_then}
use Rattle.vq_split.specs.declared.queue.Part.{Part}
use Rattle.dev_core.specs.declared.collect.Collect.{Collect}
use Rattle.dev_core.specs.Pieces.{place, share, put_all}
use Rattle.dev_core.proofs.Fuel.{collect_more, put_more}
use Rattle.block_device.specs.declared.stage.ServiceStage.{ServiceStage}
use Rattle.block_device.specs.declared.stage.ServiceStage.TheVariants as stage
use Rattle.block_device.specs.Service.{units_in, units_out, unit_written, status_written, ok}
use Rattle.block_device.specs.Serving.{IsStage, serving_left, serving_op}

put_asks : (held : List ℕ) (to : List Part) (more : List Part → Doing ℕ) → 0 < share held to
    → asked (and_then (put_all held to) more) ≡ Some (Write (place to) (take (share held to) held))
put_asks held to more some = ap (λ t. asked (and_then t more)) (put_more held to some)

pub serving_asks : (s : ServiceStage) (from : Collect) (to : List Part) (at : ℕ) → IsStage s from to
    → asked (serving_left s from to at) ≡ Some (serving_op s from to at)
serving_asks (stage.Read sector unit more) from to at is = refl
serving_asks (stage.Put sector unit more) from to at is =
    put_asks from.held to (λ left. units_in more (unit + 1) sector left at) is.2
serving_asks stage.PutId from to at is = put_asks from.held to (λ left. status_written at ok 21) is.1
serving_asks (stage.Gather sector unit more) from to at is =
    let missing : 0 < 64 - length from.held = omega (arith, is.2) in
    ap (λ t. asked (and_then t (unit_written unit sector at (units_out more (unit + 1) sector at))))
    (collect_more (64 - length from.held) from.held from.from missing is.3)
serving_asks (stage.Disk sector unit more) from to at is = refl
serving_asks stage.Flush from to at is = refl
serving_asks (stage.Status status used) from to at is = refl
