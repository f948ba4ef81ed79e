use Rattle.std.proofs.Common.{◌≡◌, sym, subst}
use Rattle.std.specs.Prelude.{Result, Ok, Err, OnOk, OnErr}
use Rattle.std.specs.declared.alloc.AllocError.{AllocError}
use Rattle.vm_config.specs.declared.config.Config.{Config}
use Rattle.api_calls.specs.declared.call.ApiCall.{ApiCall}
use Rattle.api_rules.specs.Table.{changed}
use Rattle.flat_machine.specs.Ready.{IsFitting, IsTaken}
use Rattle.flat_machine.proofs.Taken.{changed_taken}
use Rattle.monitor_plans.proofs.taken_config.TakenConfig.apply.Goals as goal

stays_taken : (r : Result (Unit {0}) AllocError) (old new : Config) (it : ApiCall) → OnOk r (new ≡ changed old it) → OnErr r (new ≡ old)
    → IsTaken old → IsFitting old it → IsTaken new
stays_taken (Ok done) old new it ok err taken fits = subst IsTaken (sym ok) (changed_taken old it taken fits)
stays_taken (Err short) old new it ok err taken fits = subst IsTaken (sym err) taken

pub invariant_of-self : goal.invariant_of-self
invariant_of-self c =
    stays_taken c.apply.result c.self.inside.config c.apply.new.config c.args.call c.apply.ensures.ok c.apply.ensures.err c.self.invariant
    (subst (λ (k : Config). IsFitting k c.args.call) (sym c.self.view_is) c.requires)
