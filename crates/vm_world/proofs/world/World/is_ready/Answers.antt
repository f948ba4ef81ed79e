use Rattle.std.proofs.Common.{ap, sym, ◌∙◌}
use Rattle.guest_pages.specs.Made.{PagesValue, is_ready}
use Rattle.vm_types.specs.declared.ids.PlaceId.{PlaceId}
use Rattle.vm_world.specs.Worlds.{pages_of}
use Rattle.vm_world.proofs.world.World.is_ready.Goals as goal

pub returns-in-Page : goal.returns-in-Page
returns-in-Page c =
    c.is_ready.ensures
    ∙ ap (λ (v : PagesValue). is_ready v (PlaceId.Page c.in-Page.number)) (ap pages_of c.self.view_is)
    ∙ ap (is_ready (pages_of c.args.self.now)) (sym c.in-Page.is ∙ c.route.ensures)
