use Rattle.std.proofs.Common.{◌∙◌, inl, sym, string_bytes, true, false}
use Rattle.std.proofs.lemmas.Bool.{and_parts}
use Rattle.clap.specs.Words.{app_of, is_simple}
use Rattle.clap.proofs.WalkLemmas.{list_any-map}
use Rattle.command_line.specs.Programs.{has_one_dash}
use Rattle.command_line.proofs.parsing.matches_of.Goals as goal

pub returns-then-has_dashed-clause-usage : goal.returns-then-has_dashed-clause-usage
returns-then-has_dashed-clause-usage c = λ simple is.
    inl (sym (list_any-map has_one_dash string_bytes c.args.words.now) ∙ sym c.has_dashed.ensures ∙ c.if-has_dashed.true)

pub returns-in-Ok-clause-read : goal.returns-in-Ok-clause-read
returns-in-Ok-clause-read c = λ simple. record {
  dashes = sym (list_any-map has_one_dash string_bytes c.args.words.now) ∙ sym c.has_dashed.ensures ∙ c.if-has_dashed.false;
  fault = c.in-Ok.ensures.kinds simple;
  rows = (c.in-Ok.ensures.matches (and_parts (is_simple (app_of c.args.program)) _ simple).0).1;
}
