-- Whether a hart runs: a byte, and two words that are 0 unless its start is pending.
use Rattle.std.specs.Prelude.{◌≡◌, ℕ, zero, suc, replicate, refl}
use Rattle.std.proofs.Common.{sym, ap}
use Rattle.board_table.specs.declared.hart_state.HartState.{HartState}
use Rattle.board_table.specs.declared.hart_state.HartState.TheVariants.{Started, Stopped, StartPending}
use Rattle.file_format.specs.Format.{Format}
use Rattle.file_format.specs.Kinds.{byte, number64, constant, nothing, variant, chosen_by, ◌&◌}

abbrev pub state_code : HartState → ℕ
state_code Started = 0
state_code Stopped = 1
state_code (StartPending pc word) = 2

-- the pc and the word of a start
abbrev pub start_of : HartState → ℕ × ℕ
start_of Started = (0, 0)
start_of Stopped = (0, 0)
start_of (StartPending pc word) = (pc, word)

abbrev pub states : ℕ → Format HartState
states zero = constant (replicate 16 0) Started
states (suc zero) = constant (replicate 16 0) Stopped
states (suc (suc zero)) = variant (λ s. StartPending s.0 s.1) start_of (λ _. refl) (number64 & number64)
states (suc (suc (suc n))) = nothing

pub state_code-is : (code : ℕ) (s : HartState) → (states code).Fits s → code ≡ state_code s
state_code-is zero s fits = sym (ap state_code fits)
state_code-is (suc zero) s fits = sym (ap state_code fits)
state_code-is (suc (suc zero)) s fits = sym (ap state_code fits.0)
state_code-is (suc (suc (suc n))) s fits = absurd fits

unfoldable pub hart_state : Format HartState
hart_state = chosen_by byte states state_code state_code-is
