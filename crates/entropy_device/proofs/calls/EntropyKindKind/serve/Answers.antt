-- All parts of a chain are filled, which lie in the guest.
use Rattle.std.proofs.Common.{◌≡◌, ◌∙◌, List, subst, sym, true}
use Rattle.vq_split.specs.declared.queue.Part.{Part}
use Rattle.vq_split.specs.Kept.{are_inside}
use Rattle.entropy_device.proofs.Staying.{chain_parts}
use Rattle.entropy_device.proofs.calls.EntropyKindKind.serve.Goals as goal

pub returns-clause-work : goal.returns-clause-work
returns-clause-work c = λ pages few works chain.
    let to : c.new.result ≡ c.args.chain.now.parts =
    c.new.ensures ∙ c.parts_again-parts.ensures ∙ c.as_slice.ensures.parts ∙ c.parts.ensures in
    c.draw.ensures.work pages c.args.which
    (subst (λ (l : List Part). are_inside pages l ≡ true) (sym to) (chain_parts pages c.args.which c.args.chain.now chain))
