-- What a word that loads or stores asks for, and how that ends it.
use Rattle.std.specs.Prelude.{ℕ, ◌≡◌, ◌<◌, ◌%◌, ◌^◌, Bool, true, false}
use Rattle.vm_types.specs.declared.op.Op.TheVariants as op
use Rattle.vm_types.specs.declared.reply.Reply.{Reply}
use Rattle.vm_types.specs.declared.reply.Reply.TheVariants.{AccessFault, Done}
use Rattle.le_fields.specs.Fields.{bytes_of}
use Rattle.rv_rows.specs.declared.memory.LoadKind.{LoadKind}
use Rattle.rv_rows.specs.declared.memory.Width.{Width}
use Rattle.rv_rows.specs.Effects.{address_sum}
use Rattle.rv_rows.specs.Fields.{i_immediate, rd_field, rs1_field, rs2_field, s_immediate}
use Rattle.rv_rows.specs.Loads.{load_bytes, width_bytes}
use Rattle.rv_supervisor.specs.Registers.{reg}
use Rattle.rv_supervisor.specs.declared.regs.Regs.{Regs}
use Rattle.rv_doing.specs.Doing.{Asks}
use Rattle.rv_doing.specs.Does.{does}
use Rattle.rv_doing.specs.Replies.{after_load, after_store}

-- where rs1 has the value a, and the address is a multiple of what it takes, the word is a load of this kind
abbrev pub LoadsAs : LoadKind → ℕ → Type 0
LoadsAs kind word =
    (r : Regs) (a : ℕ) → a ≡ reg r (rs1_field word)
    → (let at : ℕ = address_sum a (i_immediate word) in
    at % load_bytes kind ≡ 0
    → does word r ≡ Asks (op.Read at (load_bytes kind)) (λ reply. after_load kind (rd_field word) at reply r))

-- and where rs2 has the value b, a store of this width
abbrev pub StoresAs : Width → ℕ → Type 0
StoresAs width word =
    (r : Regs) (a b : ℕ) → a ≡ reg r (rs1_field word) → b ≡ reg r (rs2_field word) → b < 2 ^ 64
    → (let at : ℕ = address_sum a (s_immediate word) in
    at % width_bytes width ≡ 0
    → does word r ≡ Asks (op.Write at (bytes_of (width_bytes width) b)) (λ reply. after_store at reply r))

-- the reply to a store, by whether it is made
abbrev pub made_reply : Bool → Reply
made_reply false = AccessFault
made_reply true = Done
