-- How data move with acts, by how a tree is made.
use Rattle.device_trace.specs.Doing.{Doing, Gives, Wants}
use Rattle.device_trace.specs.Keeps.{Moves}
use Rattle.device_trace.specs.Script.{Script, Ends, Asks, data_of, perform}

module _ {D : Type 0} (T : D → D → Type 0) (same : (d : D) → T d d) (again : (d e f : D) → T d e → T e f → T d f) where
  -- what is performed, and then what its result leads to
  pub moves_perform : {A : Type 0} (t : Doing A) (d : D) (more : D → A → Script D)
      → ((e : D) (a : A) → Moves T e (more e a)) → Moves T d (perform t d more)
  moves_perform (Gives a) d more on = on d a
  moves_perform (Wants op next) d more on = (same d, λ e reply fit. moves_perform (next reply) e more on)

  -- from other data on
  pub moves_from : (c d : D) (t : Script D) → T c d → Moves T d t → Moves T c t
  moves_from c d (Ends e) first moves = again c d e first moves
  moves_from c d (Asks e op on) first moves = (again c d e first moves.0, moves.1)

  -- to the data as they are now, and on from there
  pub moves_to : (d : D) (t : Script D) → Moves T d t → T d (data_of t)
  moves_to d (Ends e) moves = moves
  moves_to d (Asks e op on) moves = moves.0

  pub moves_on : (d : D) (t : Script D) → Moves T d t → Moves T (data_of t) t
  moves_on d (Ends e) moves = same e
  moves_on d (Asks e op on) moves = (same e, moves.1)
