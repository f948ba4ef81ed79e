use Rattle.std.proofs.Common.{ap, sym, ◌∙◌}
use Rattle.guest_pages.specs.Made.{PagesValue, is_ready}
use Rattle.guest_pages.proofs.Making.{no_spends, spends_same}
use Rattle.vm_types.specs.declared.ids.PlaceId.{PlaceId}
use Rattle.vm_world.specs.Worlds.{WorldValue, pages_of}
use Rattle.vm_world.proofs.world.World.answer.Goals as goal

pub act-requires-clause-ready : goal.act-requires-clause-ready
act-requires-clause-ready c =
    ap (λ (v : PagesValue). is_ready v (PlaceId.Page c.in-Page.number)) (ap pages_of c.self.view_is)
    ∙ ap (is_ready (pages_of c.args.self.now)) (sym c.in-Page.is) ∙ c.requires.ready

pub returns-in-Board-clause-spends : goal.returns-in-Board-clause-spends
returns-in-Board-clause-spends c =
    spends_same 1 (pages_of c.args.self.now) (pages_of c.args.self.now) c.self.inside.pages
    (ap (λ (w : WorldValue). w.pages) c.self.view_is) (ap (λ (w : WorldValue). w.spare) c.self.view_is)
    (no_spends 1 (pages_of c.args.self.now))

pub returns-in-Port-clause-spends : goal.returns-in-Port-clause-spends
returns-in-Port-clause-spends c =
    spends_same 1 (pages_of c.args.self.now) (pages_of c.args.self.now) c.self.inside.pages
    (ap (λ (w : WorldValue). w.pages) c.self.view_is) (ap (λ (w : WorldValue). w.spare) c.self.view_is)
    (no_spends 1 (pages_of c.args.self.now))

pub returns-in-Out-clause-spends : goal.returns-in-Out-clause-spends
returns-in-Out-clause-spends c = no_spends 1 _
