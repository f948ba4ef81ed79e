use Rattle.std.proofs.Common.{◌∙◌, refl}
use Rattle.flat_machine.proofs.Taken.{carried_taken}
use Rattle.flat_snapshot.specs.Carried.{carried_config}
use Rattle.snap_restore.specs.Finding.{snapshot_of}
use Rattle.monitor_plans.proofs.Standing.{load_ready, some_number}
use Rattle.monitor_plans.proofs.restoring.restore.Goals as goal

pub of-requires : goal.of-requires
of-requires g c =
    let tracking = c.args.load.now.track_dirty_pages in
    rw (c.config_of-config.ensures ∙ (λ i. carried_config tracking (c.in-Ok-world_of.ensures.configuration i) (c.in-Ok-world_of.ensures.entropy i)))
    (carried_taken tracking c.in-Ok.found.copy c.in-Ok.ensures.saved.valid)

pub returns-in-Ok-world_of-clause-gives : goal.returns-in-Ok-world_of-clause-gives
returns-in-Ok-world_of-clause-gives g c = λ told.
    let tracking = c.args.load.now.track_dirty_pages in (
      snapshot_of c.in-Ok.found,
      c.in-Ok.ensures.finds told,
      record {
        identity_is = refl;
        next_is = refl;
        config_is = c.of.ensures ∙ c.config_of-config.ensures ∙ (λ i. carried_config tracking (c.in-Ok-world_of.ensures.configuration i) (c.in-Ok-world_of.ensures.entropy i));
        guest_is = c.in-Ok-world_of.ensures.world;
      },
      refl,
    )

pub returns-in-Ok-world_of-clause-keeps : goal.returns-in-Ok-world_of-clause-keeps
returns-in-Ok-world_of-clause-keeps g c = λ config world. (
  tt,
  tt,
  (
    load_ready c.in-Ok.found.copy c.in-Ok.found.pages.pages c.args.load.now.track_dirty_pages c.of.result c.in-Ok-world_of.carried.world
        c.in-Ok.ensures.saved.valid c.in-Ok-world_of.ensures.whole
        (c.of.ensures ∙ c.config_of-config.ensures ∙ (λ i. carried_config c.args.load.now.track_dirty_pages (c.in-Ok-world_of.ensures.configuration i) (c.in-Ok-world_of.ensures.entropy i)))
        c.in-Ok-world_of.ensures.world,
    some_number c.in-Ok.found.identity c.in-Ok.ensures.saved.numbered,
    refl,
  ),
)
