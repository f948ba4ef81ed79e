-- What a script does while it performs something that wants an act.
use Rattle.std.proofs.Common.{◌≡◌, refl, true, Some}
use Rattle.vm_types.specs.declared.op.Op.{Op}
use Rattle.vm_types.specs.declared.reply.Reply.{Reply}
use Rattle.vm_types.specs.Fits.{fits}
use Rattle.device_trace.specs.Doing.{Doing, Gives, Wants, asked, led}
use Rattle.device_trace.specs.Script.{Script, perform}
use Rattle.device_trace.specs.Traces.{Rules, rules_of}
use Rattle.device_trace.specs.States.{wants, stepped, changed_at}

module _ {D C : Type 0} (rules : Rules D C) where
  pub perform_wants : {A : Type 0} (t : Doing A) (d : D) (more : D → A → Script D) (op : Op) → asked t ≡ Some op
      → wants rules (perform t d more) ≡ op
  perform_wants (Gives a) d more op is = cc
  perform_wants (Wants o on) d more op is = cc

  pub perform_fits : {A : Type 0} (t : Doing A) (d : D) (more : D → A → Script D) (op : Op) (reply : Reply)
      → asked t ≡ Some op → fits (wants rules (perform t d more)) reply ≡ true → fits op reply ≡ true
  perform_fits t d more op reply is fit = rw (perform_wants t d more op is) at fit

  pub perform_stepped : {A : Type 0} (t : Doing A) (d : D) (more : D → A → Script D) (op : Op) (reply : Reply)
      → asked t ≡ Some op → stepped rules (perform t d more) reply ≡ perform (led t reply) d more
  perform_stepped (Gives a) d more op reply is = cc
  perform_stepped (Wants o on) d more op reply is = refl

-- a change that sets data alone leaves what is wanted
pub perform_changed : {D C A : Type 0} (begins : D → Script D) (changed : C → D → D) (t : Doing A) (d : D) (more : D
    → A → Script D) (op : Op) (c : C) → asked t ≡ Some op
    → perform t (changed c d) more ≡ changed_at (rules_of begins changed) c (perform t d more)
perform_changed begins changed (Gives a) d more op c is = cc
perform_changed begins changed (Wants o on) d more op c is = refl
