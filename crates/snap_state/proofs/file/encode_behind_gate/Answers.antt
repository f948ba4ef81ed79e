use Rattle.std.proofs.Common.{ap, ◌∙◌}
use Rattle.file_format.specs.Versions.{current_version}
use Rattle.snap_state.specs.Copies.{state_copy}
use Rattle.snap_state.proofs.Copies.{encoded, says_current}
use Rattle.snap_state.proofs.file.encode_behind_gate.Goals as goal

pub returns-clause-encodes : goal.returns-clause-encodes
returns-clause-encodes c =
    encoded c.args.identity c.args.copy.now c.deref.result.now c.in_ok-behind.behind.items
    (c.deref.ensures.value ∙ c.in_ok-write.ensures.bytes ∙ ap ((state_copy current_version).puts c.args.copy.now) c.new-body.ensures.items)
    c.in_ok-write.ensures.fits c.in_ok-behind.ensures.len c.in_ok-behind.ensures.identity
    c.requires.valid c.requires.numbered c.in_ok-behind.ensures.bytes

pub returns-clause-version : goal.returns-clause-version
returns-clause-version c = says_current c.args.identity c.deref.result.now c.in_ok-behind.behind.items c.in_ok-behind.ensures.bytes
