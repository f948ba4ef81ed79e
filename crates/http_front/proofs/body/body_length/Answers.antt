use Rattle.std.proofs.Common.{◌∙◌, sym, arith}
use Rattle.http_front.proofs.BodyLemmas.{too_many, encoded, body_is}
use Rattle.http_front.proofs.body.body_length.Goals as goal
use Rattle.http_front.proofs.body.body_length.Goals.{then-spans-gt-MOST_HEADERS-via-then-spans-gt-MOST_HEADERS, then-spans-gt-MOST_HEADERS-via-else-spans-gt-MOST_HEADERS+then-has_encoding}

pub returns-then-spans-gt-MOST_HEADERS-clause-value :
    goal.returns-then-spans-gt-MOST_HEADERS-clause-value
returns-then-spans-gt-MOST_HEADERS-clause-value c = elim c.then-spans-gt-MOST_HEADERS.branch [
  | then-spans-gt-MOST_HEADERS-via-then-spans-gt-MOST_HEADERS w ↦ too_many c.args.front.now c.args.spans.now (omega arith)
  | then-spans-gt-MOST_HEADERS-via-else-spans-gt-MOST_HEADERS+then-has_encoding w ↦ encoded c.args.front.now c.args.spans.now (cc)
]

pub returns-clause-value : goal.returns-clause-value
returns-clause-value c = c.content_length.ensures.value
    ∙ body_is c.args.front.now c.args.spans.now (omega arith) (sym c.if-has_encoding.ensures)
