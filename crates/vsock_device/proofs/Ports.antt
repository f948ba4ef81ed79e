-- The search for a port that none has.
use Rattle.std.proofs.Common.{◌≡◌, ℕ, suc, ◌+◌, ◌-◌, ◌<◌, true, List, ap, sym, ◌∙◌, refl, arith}
use Rattle.vsock_device.specs.declared.connection.Connection.{Connection}
use Rattle.vsock_device.specs.Connections.{free_port, has_port, port_after}

past_one : (most : ℕ) (cs : List Connection) (port : ℕ) → has_port port cs ≡ true
    → free_port (suc most) cs port ≡ free_port most cs (port_after port)
past_one most cs port has = rw has refl

pub past_port : (most counter : ℕ) (cs : List Connection) (port next : ℕ) → counter < most → has_port port cs ≡ true
    → next ≡ port_after port → free_port (most - counter) cs port ≡ free_port (most - (counter + 1)) cs next
past_port most counter cs port next less has is =
    let n : most - counter ≡ suc (most - (counter + 1)) = omega (arith, less) in
    ap (λ (m : ℕ). free_port m cs port) n ∙ past_one (most - (counter + 1)) cs port has
    ∙ ap (λ (p : ℕ). free_port (most - (counter + 1)) cs p) (sym is)
