use Rattle.std.proofs.Common.{rules, ◌∙◌, ap}
use Rattle.std.proofs.lemmas.List.Elements.{All-from_get_or}
use Rattle.le_fields.specs.Fields.{IsByte}
use Rattle.vsock_packet.specs.Header.{header_bytes}
use Rattle.vsock_packet.proofs.Bytes.{whole}
use Rattle.vsock_packet.proofs.header.Header.read.Goals as goal

pub returns-clause-fields : goal.returns-clause-fields
returns-clause-fields c = search rules

pub returns-clause-bytes : goal.returns-clause-bytes
returns-clause-bytes c =
    let small = All-from_get_or IsByte c.args.bytes.now 0 (λ i short. c.fits-bytes i) in
    ap header_bytes (returns-clause-fields c) ∙ whole c.args.bytes.now small c.told-bytes
