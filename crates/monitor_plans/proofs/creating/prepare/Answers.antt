use Rattle.std.proofs.Common.{refl}
use Rattle.monitor_plans.proofs.creating.prepare.Goals as goal

pub returns : goal.returns
returns c = record {
  names_is = refl;
  identity_is = refl;
  next_is = refl;
  differ = c.requires.names;
  there = c.in-Some.ensures.there;
  copy = c.in-Ok.copy;
  copied = c.in-Ok.ensures.copied;
  saved = c.in-Ok-body_of.ensures.saved;
  head_is = c.in-Some.ensures.head_is;
  pages_are = c.in-Some.ensures.pages_are;
  body_is = c.in-Ok-body_of.ensures.body;
}
