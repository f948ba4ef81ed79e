-- What a plan answers, and why it is one.
use Rattle.std.specs.Prelude.{◌≡◌, ◌≤◌, ℕ, ◌+◌, Bool, Option, None, true, false}
use Rattle.vm_types.specs.Causes.{Rose}
use Rattle.refusals.specs.declared.refusal.Refusal.TheVariants as refusal
use Rattle.vm_config.specs.declared.config.Config.{Config}
use Rattle.api_calls.specs.declared.call.ApiCall.{ApiCall}
use Rattle.api_calls.specs.declared.call.ApiCall.TheVariants as call
use Rattle.api_rules.specs.declared.answer.Answer.{Answer}
use Rattle.api_rules.specs.Answers.{accepted, no_content, refused}
use Rattle.flat_guest.specs.Guest.{Guest}
use Rattle.flat_machine.specs.Ready.{AreFitting, AreLinked, IsFitting, IsReadyGuest}
use Rattle.api_rules.specs.Table.{changed, when_allowed}
use Rattle.api_rules.specs.declared.deciding.When.{When}
use Rattle.api_rules.specs.declared.deciding.When.TheVariants.{BeforeBoot}
use Rattle.vm_config.specs.Texts.{Told}
use Rattle.vm_world.specs.Worlds.{IsWorld, WorldValue}
use Rattle.monitor_plans.specs.declared.plan.Plan.{Plan}
use Rattle.monitor_plans.specs.declared.plan.Plan.TheVariants as plan
use Rattle.monitor_plans.specs.declared.plan.Task.{Task}
use Rattle.monitor_plans.specs.declared.plan.Task.TheVariants as task

-- what it answers
abbrev pub plan_answer : Plan → Told → Answer
plan_answer (plan.Refused why) told = refused why
plan_answer (plan.Changes it) told = accepted it told
plan_answer (plan.Drives drives) told = no_content
plan_answer (plan.Interfaces interfaces) told = no_content
plan_answer (plan.Resizes r) told = no_content
plan_answer (plan.Stores kept) told = no_content
plan_answer (plan.Starts w) told = no_content
plan_answer (plan.Restores r) told = no_content
plan_answer plan.FilesFailed told = refused refusal.OutsideFailed
plan_answer plan.NoMemory told = refused refusal.OutOfMemory

-- what it makes of this configuration is as the API takes it
abbrev pub IsFittingPlan : Plan → Config → Type 0
IsFittingPlan (plan.Changes it) config = IsFitting config it
IsFittingPlan (plan.Drives drives) config = AreFitting drives config.interfaces config.vsock config.balloon config.entropy
IsFittingPlan (plan.Interfaces interfaces) config =
    AreLinked config.drives interfaces config.vsock config.balloon config.entropy config.mmds
IsFittingPlan (plan.Resizes r) config = IsFitting config (call.PatchDrive r.patch)
IsFittingPlan it config = Unit {0}

-- the world is a ready guest of a machine that is configured so, which runs or stands still
abbrev pub HasReadyGuest : Config → Bool → WorldValue → Type 0
HasReadyGuest config paused w = (g : Guest) × IsWorld w g × IsReadyGuest config paused g

-- a guest that it makes is ready, and a snapshot that it goes on from has a number, behind which the next one is
abbrev pub IsReadyPlan : Plan → Config → Type 0
IsReadyPlan (plan.Starts w) config = HasReadyGuest (changed config call.InstanceStart) false w
IsReadyPlan (plan.Restores r) config =
    HasReadyGuest r.config true r.guest × (1 ≤ r.identity.number) × (r.next ≡ r.identity.number + 1)
IsReadyPlan it config = Unit {0}

-- what is allowed only before a start comes before it
abbrev pub IsEarlyBy : When → Option WorldValue → Type 0
IsEarlyBy BeforeBoot world = world ≡ None
IsEarlyBy it world = Unit {0}

abbrev pub IsEarly : ApiCall → Option WorldValue → Type 0
IsEarly it world = IsEarlyBy (when_allowed it) world

abbrev pub IsEarlyPlan : Plan → Option WorldValue → Type 0
IsEarlyPlan (plan.Changes it) world = IsEarly it world
IsEarlyPlan (plan.Drives drives) world = world ≡ None
IsEarlyPlan (plan.Interfaces interfaces) world = world ≡ None
IsEarlyPlan it world = Unit {0}

-- a machine that is configured so, with this world, and is ready stays so by the plan
abbrev pub KeepsReady : Plan → Config → Option WorldValue → Type 0
KeepsReady it config world = IsFittingPlan it config × IsEarlyPlan it world × IsReadyPlan it config

-- a failure has a fault, and what did not come to one has none
abbrev pub PlanCause : Plan → ℕ → ℕ → Type 0
PlanCause plan.FilesFailed before now = Rose before now
PlanCause it before now = now ≡ before

-- a create that is to be written has called no file yet
abbrev pub TaskCause : Task → ℕ → ℕ → Type 0
TaskCause (task.Plan it) before now = PlanCause it before now
TaskCause (task.Create c) before now = now ≡ before
