-- Why an event isn't made.
use Rattle.std.specs.Prelude.{◌≡◌, false, if◌then◌else◌, Option, Some, None}
use Rattle.vm_types.specs.declared.ids.ActorId.{ActorId}
use Rattle.vm_types.specs.declared.op.Op.{Op}
use Rattle.vm_types.specs.declared.reply.Reply.{Reply}
use Rattle.vm_types.specs.Fits.{out_fits}
use Rattle.flat_guest.specs.Guest.{Guest, Wants, is_actor}
use Rattle.vm_world.specs.declared.step_error.StepError.{StepError}
use Rattle.vm_world.specs.declared.step_error.StepError.TheVariants.{NoActor, NoSpare, NotWaiting, Waits, Unfit}

-- a host object's reply is to be there, and to fit, exactly where the op is an act on one
abbrev pub refusal_of : Op → Option Reply → Option StepError
refusal_of (Op.Out act) None = Some Waits
refusal_of (Op.Out act) (Some reply) = if out_fits act reply then None else Some Unfit
refusal_of op None = None
refusal_of op (Some reply) = Some NotWaiting

-- no event of this actor with what is given: it isn't there, or its want isn't done so, or it would be, and lacks a spare page
abbrev pub IsRefused : Guest → ActorId → Option Reply → StepError → Type 0
IsRefused g actor given NoActor = is_actor g actor ≡ false
IsRefused g actor given NoSpare = (op : Op) × Wants g actor op × (refusal_of op given ≡ None)
IsRefused g actor given why = (op : Op) × Wants g actor op × (refusal_of op given ≡ Some why)
