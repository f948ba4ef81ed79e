-- A word that is decoded.
use Rattle.std.specs.Prelude.{ℕ, ◌≡◌, ◌<◌}
use Rattle.rv_doing.specs.Does.{does}
use Rattle.rv_doing.specs.Doing.{Ends}
use Rattle.rv_doing.specs.Plain.{placed}
use Rattle.rv_doing.specs.Replies.{with_result}
use Rattle.rv_rows.specs.Registers.{number}
use Rattle.rv_supervisor.specs.declared.regs.Regs.{Regs}
use Rattle.rv_supervisor.specs.declared.regs.Turn.{Turn}
use Rattle.decoded_words.specs.Operations.{IsThat, instr_named}
use Rattle.decoded_words.specs.declared.decoding.Decoded.{Decoded}

-- it names what its word is, if anything, and neither rd nor rs1 is x0
pub record IsDecoded (d : Decoded) : Type 0 where
  pub is : IsThat (instr_named d.operation d.rd d.rs1 d.other d.value) d.word
  pub rd : 0 < number d.rd
  pub rs1 : 0 < number d.rs1

-- at this pc, whatever the count is and whatever comes next, the word puts this value into rd
abbrev pub Puts : Decoded → ℕ → ℕ → Regs → Type 0
Puts d pc value r =
    (count : ℕ) (turn : Turn)
    → does d.word (placed pc count turn r) ≡ Ends (with_result d.rd value (placed pc count turn r))
