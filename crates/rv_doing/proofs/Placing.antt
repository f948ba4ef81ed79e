-- Registers of a hart whose pc and count are held beside them.
use Rattle.std.proofs.Common.{◌≡◌, ℕ, ◌+◌, ◌-◌, ◌%◌, ◌^◌, ◌==◌, Bool, true, false, if◌then◌else◌, slice_set, refl, ap}
use Rattle.rv_rows.specs.declared.register.Register.{Register}
use Rattle.rv_rows.specs.Registers.{number}
use Rattle.rv_supervisor.specs.declared.regs.Regs.{Regs}
use Rattle.rv_supervisor.specs.declared.regs.Turn.{Turn}
use Rattle.rv_supervisor.specs.Ends.{after_instruction, after_jump}
use Rattle.rv_supervisor.specs.Registers.{with_reg}
use Rattle.rv_doing.specs.Plain.{placed}
use Rattle.rv_doing.specs.Replies.{with_result}

put_by : (dropped : Bool) (n value pc count : ℕ) (turn : Turn) (r : Regs)
    → (if dropped then placed pc count turn r else record (placed pc count turn r) { x = slice_set r.x n value })
    ≡ placed pc count turn (if dropped then r else record r { x = slice_set r.x n value })
put_by true n value pc count turn r = refl
put_by false n value pc count turn r = refl

-- a register that is written is written beside them
pub placed_put : (rd : Register) (value pc count : ℕ) (turn : Turn) (r : Regs)
    → with_reg (placed pc count turn r) rd value ≡ placed pc count turn (with_reg r rd value)
placed_put rd value pc count turn r = put_by (number rd == 0) (number rd - 1) value pc count turn r

-- and the instruction ends at the next one
pub placed_result : (rd : Register) (value pc count : ℕ) (turn : Turn) (r : Regs)
    → with_result rd value (placed pc count turn r) ≡ after_jump ((pc + 4) % 2 ^ 64) (placed pc count turn (with_reg r rd value))
placed_result rd value pc count turn r = ap after_instruction (placed_put rd value pc count turn r)

kept_by : (dropped : Bool) (n value : ℕ) (r : Regs)
    → (if dropped then r else record r { x = slice_set r.x n value })
    ≡ record r { x = (if dropped then r else record r { x = slice_set r.x n value }).x }
kept_by true n value r = refl
kept_by false n value r = refl

-- nothing else is written
pub put_keeps : (rd : Register) (value : ℕ) (r : Regs) → with_reg r rd value ≡ record r { x = (with_reg r rd value).x }
put_keeps rd value r = kept_by (number rd == 0) (number rd - 1) value r
