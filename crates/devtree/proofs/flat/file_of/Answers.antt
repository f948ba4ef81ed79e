use Rattle.std.proofs.Common.{ap}
use Rattle.devtree.specs.Coding.{all_of, now_of}
use Rattle.devtree.proofs.Passes.{file_is}
use Rattle.devtree.proofs.flat.file_of.Goals as goal

pub returns : goal.returns
returns c =
    file_is (all_of c.args.tokens.now) (now_of c.in_ok-names.names.items) (now_of c.deref.result.now) (now_of c.deref-2.result.now)
    c.in_ok-strings.strings.items c.in_ok-structure.structure.items c.deref-4.result.now c.deref-3.result.now c.in_ok-file.file.items
    c.in_ok-names.ensures (ap now_of c.deref.ensures.value) (ap now_of c.deref-2.ensures.value) c.in_ok-strings.ensures c.in_ok-structure.ensures
    c.deref-4.ensures.value c.deref-3.ensures.value c.in_ok-file.ensures
