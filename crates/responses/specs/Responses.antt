-- What is answered to one thing that is due, and the bytes that it is written as.
use Rattle.std.specs.Prelude.{ℕ, Bool, List, [], ◌∷◌, ◌++◌, Option, Some, None}
use Rattle.api_rules.specs.declared.answer.Answer.{Answer}
use Rattle.http_stream.specs.Reply.{reply}
use Rattle.responses.specs.Output.{reply_line}
use Rattle.responses.specs.declared.form.ResponseForm.{ResponseForm}
use Rattle.responses.specs.declared.form.ResponseForm.TheVariants.{Line, Http}

-- the answer, and whether the connection ends with it
pub record Response : Type 0 where
  pub answer : Answer
  pub closes : Bool

abbrev pub body_of : Option (List ℕ) → List ℕ
body_of None = []
body_of (Some body) = body

-- a line of a replay's output; or the bytes of a reply on the connection
abbrev pub written_as : ResponseForm → Response → List ℕ
written_as Line response = reply_line response.answer
written_as Http response = reply response.answer.status (body_of response.answer.body) response.closes

-- all of them, one after another
abbrev pub all_written : ResponseForm → List Response → List ℕ
all_written form [] = []
all_written form (response ∷ responses) = written_as form response ++ all_written form responses
