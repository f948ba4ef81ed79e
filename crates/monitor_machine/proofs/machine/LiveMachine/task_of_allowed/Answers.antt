use Rattle.std.proofs.Common.{◌≡◌, None, ap, sym, subst, ◌∙◌, [], Ok}
use Rattle.api_calls.specs.declared.call.ApiCall.{ApiCall}
use Rattle.api_calls.specs.declared.call.ApiCall.TheVariants as call
use Rattle.flat_machine.specs.Ready.{IsFitting}
use Rattle.monitor_machine.specs.Live.{Live}
use Rattle.monitor_machine.specs.Plans.{IsDue}
use Rattle.monitor_plans.specs.Plans.{IsEarly}
use Rattle.monitor_machine.proofs.Planning.{changes_plan, drives_plan, interfaces_plan, patch_plan, plain_left, put_plan, refile_plan, restore_plan, start_plan}
use Rattle.monitor_machine.specs.Seen.{live_of}
use Rattle.monitor_machine.proofs.machine.LiveMachine.task_of_allowed.Goals as goal

pub returns-in-InstanceStart-clause-task : goal.returns-in-InstanceStart-clause-task
returns-in-InstanceStart-clause-task g c =
    rw (← c.self.view_is) (
      [],
      λ told m is given asks.
          start_plan c.start.result (live_of c.self.inside) (g.F.Files.known c.args.files.now) m given is (asks ∙ ap Ok c.in-InstanceStart.is)
          (c.start.ensures.gives told),
    )

pub returns-in-LoadSnapshot-clause-task : goal.returns-in-LoadSnapshot-clause-task
returns-in-LoadSnapshot-clause-task g c =
    rw (← c.self.view_is) (
      [],
      λ told m is given asks.
          restore_plan c.restore.result c.in-LoadSnapshot.load (live_of c.self.inside) (g.F.Files.known c.args.files.now) m given is
          (asks ∙ ap Ok c.in-LoadSnapshot.is) (c.restore.ensures.gives told),
    )

pub returns-in-CreateSnapshot-clause-task : goal.returns-in-CreateSnapshot-clause-task
returns-in-CreateSnapshot-clause-task g c =
    let task = c.task_of_create.ensures.task in
    (task.0, λ told m is given asks. task.1 (g.F.Files.known c.args.files.now) m is given (asks ∙ ap Ok c.in-CreateSnapshot.is))

pub returns-in-PutDrive-clause-task : goal.returns-in-PutDrive-clause-task
returns-in-PutDrive-clause-task g c =
    rw (← c.self.view_is) (
      [],
      λ told m is given asks.
          drives_plan c.put_drive.result c.in-PutDrive.drive (live_of c.self.inside) m given is.own.config_is (asks ∙ ap Ok c.in-PutDrive.is)
          c.put_drive.ensures.gives,
    )

pub returns-in-PutInterface-clause-task : goal.returns-in-PutInterface-clause-task
returns-in-PutInterface-clause-task g c =
    rw (← c.self.view_is) (
      [],
      λ told m is given asks.
          interfaces_plan c.put_interface.result c.in-PutInterface.interface (live_of c.self.inside) m given is.own.config_is
          (asks ∙ ap Ok c.in-PutInterface.is) c.put_interface.ensures.gives,
    )

pub returns-in-PatchDrive-clause-task : goal.returns-in-PatchDrive-clause-task
returns-in-PatchDrive-clause-task g c =
    rw (← c.self.view_is) (
      [],
      λ told m is given asks.
          refile_plan c.patch_drive.result c.in-PatchDrive.patch (live_of c.self.inside) (g.F.Files.known c.args.files.now) m given is
          (asks ∙ ap Ok c.in-PatchDrive.is) (c.patch_drive.ensures.gives told),
    )

pub returns-in-PutMetadata-clause-task : goal.returns-in-PutMetadata-clause-task
returns-in-PutMetadata-clause-task g c = (
  [],
  λ told m is given asks.
      put_plan c.put_metadata.result c.in-PutMetadata.body m given (asks ∙ ap Ok c.in-PutMetadata.is) c.put_metadata.ensures.gives,
)

pub returns-in-PatchMetadata-clause-task : goal.returns-in-PatchMetadata-clause-task
returns-in-PatchMetadata-clause-task g c =
    rw (← c.self.view_is) (
      [],
      λ told m is given asks.
          patch_plan c.patch_metadata.result (live_of c.self.inside).metadata c.in-PatchMetadata.patch m given is.own.metadata_is
          (asks ∙ ap Ok c.in-PatchMetadata.is) c.patch_metadata.ensures.gives,
    )

pub returns-in_default-clause-task : goal.returns-in_default-clause-task
returns-in_default-clause-task g c = (
  [],
  λ told m is given asks.
      changes_plan m given c.args.call asks
      (plain_left c.args.call c.in_default.not-PutDrive c.in_default.not-PatchDrive c.in_default.not-PutInterface c.in_default.not-PutMetadata
      c.in_default.not-PatchMetadata c.in_default.not-InstanceStart c.in_default.not-CreateSnapshot c.in_default.not-LoadSnapshot),
)

pub put_drive-requires : goal.put_drive-requires
put_drive-requires g c =
    subst (λ (l : Live). IsFitting l.config (call.PutDrive c.in-PutDrive.drive)) (sym c.self.view_is)
    (subst (λ (x : ApiCall). IsFitting c.args.self.now.config x) c.in-PutDrive.is c.requires.fits)

pub put_interface-requires : goal.put_interface-requires
put_interface-requires g c =
    subst (λ (l : Live). IsFitting l.config (call.PutInterface c.in-PutInterface.interface)) (sym c.self.view_is)
    (subst (λ (x : ApiCall). IsFitting c.args.self.now.config x) c.in-PutInterface.is c.requires.fits)

pub patch_drive-requires : goal.patch_drive-requires
patch_drive-requires g c =
    subst (λ (l : Live). IsFitting l.config (call.PatchDrive c.in-PatchDrive.patch)) (sym c.self.view_is)
    (subst (λ (x : ApiCall). IsFitting c.args.self.now.config x) c.in-PatchDrive.is c.requires.fits)

pub task_of_create-requires : goal.task_of_create-requires
task_of_create-requires g c = subst (λ (x : ApiCall). IsDue c.args.self.now x) c.in-CreateSnapshot.is c.requires

pub returns-in-InstanceStart-clause-keeps : goal.returns-in-InstanceStart-clause-keeps
returns-in-InstanceStart-clause-keeps g c = rw (← c.self.view_is) (c.start.ensures.keeps (live_of c.self.inside).guest)

pub returns-in-LoadSnapshot-clause-keeps : goal.returns-in-LoadSnapshot-clause-keeps
returns-in-LoadSnapshot-clause-keeps g c =
    rw (← c.self.view_is) (c.restore.ensures.keeps (live_of c.self.inside).config (live_of c.self.inside).guest)

pub returns-in-PutDrive-clause-keeps : goal.returns-in-PutDrive-clause-keeps
returns-in-PutDrive-clause-keeps g c =
    let early = subst (λ (x : ApiCall). IsEarly x c.args.self.now.guest) c.in-PutDrive.is c.requires.early in
    rw (← c.self.view_is)
    (c.put_drive.ensures.keeps (live_of c.self.inside).guest (subst (λ (l : Live). l.guest ≡ None) (sym c.self.view_is) early))

pub returns-in-PutInterface-clause-keeps : goal.returns-in-PutInterface-clause-keeps
returns-in-PutInterface-clause-keeps g c =
    let early = subst (λ (x : ApiCall). IsEarly x c.args.self.now.guest) c.in-PutInterface.is c.requires.early in
    rw (← c.self.view_is)
    (c.put_interface.ensures.keeps (live_of c.self.inside).guest (subst (λ (l : Live). l.guest ≡ None) (sym c.self.view_is) early))

pub returns-in-PatchDrive-clause-keeps : goal.returns-in-PatchDrive-clause-keeps
returns-in-PatchDrive-clause-keeps g c = rw (← c.self.view_is) (c.patch_drive.ensures.keeps (live_of c.self.inside).guest)

pub returns-in-PutMetadata-clause-keeps : goal.returns-in-PutMetadata-clause-keeps
returns-in-PutMetadata-clause-keeps g c =
    rw (← c.self.view_is) (c.put_metadata.ensures.keeps (live_of c.self.inside).config (live_of c.self.inside).guest)

pub returns-in-PatchMetadata-clause-keeps : goal.returns-in-PatchMetadata-clause-keeps
returns-in-PatchMetadata-clause-keeps g c =
    rw (← c.self.view_is) (c.patch_metadata.ensures.keeps (live_of c.self.inside).config (live_of c.self.inside).guest)
