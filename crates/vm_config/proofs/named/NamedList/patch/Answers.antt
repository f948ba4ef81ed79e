use Rattle.std.proofs.Common.{refl, ◌∙◌}
use Rattle.vm_config.proofs.NamedLemmas.{changes_known, changes_none}
use Rattle.vm_config.proofs.named.NamedList.patch.Goals as goal

pub returns-in-Some : goal.returns-in-Some
returns-in-Some g c =
    changes_known g.T.Named.id_of (g.T.Named.named_by c.args.patch) (g.T.Named.patched c.args.patch) c.self.inside.things.items c.deref.result.now
    c.args.self.now c.named_by.result.now c.in-Some.place c.index_mut.result.now c.patch.new.self c.self.view_is c.in-Some.ensures c.named_by.ensures
    (c.deref.ensures.value ∙ c.self.view_is) c.index_mut.ensures.value c.patch.ensures

pub returns-in_default : goal.returns-in_default
returns-in_default g c =
    changes_none g.T.Named.id_of (g.T.Named.named_by c.args.patch) (g.T.Named.patched c.args.patch) c.args.self.now c.deref.result.now
    c.args.self.now c.named_by.result.now refl c.in_default.ensures c.named_by.ensures (c.deref.ensures.value ∙ c.self.view_is)
