-- What objects answered a device, entry by entry.
use Rattle.std.proofs.Common.{◌≡◌, ℕ, refl, sym, ap, ◌∙◌, subst, true, Bool, List, [], ◌∷◌, ◌++◌, Option}
use Rattle.vm_types.specs.declared.entry.Entry.{Entry}
use Rattle.vm_types.specs.declared.op.Op.{Op}
use Rattle.vm_types.specs.declared.op.OutOp.{OutOp}
use Rattle.vm_types.specs.declared.reply.Reply.{Reply}
use Rattle.vm_types.specs.Ids.{is_out}
use Rattle.flat_guest.specs.Body.{out_reply}
use Rattle.flat_guest.specs.Given.{as_given}
use Rattle.flat_guest.specs.Steps.{is_given}
use Rattle.stamp_merge.specs.declared.layout.Layout.{Layout}
use Rattle.slice_runner.specs.Runs.{AreAnswered, IsAnswered, IsGivenBy, can_be_done, has_port}
use Rattle.slice_runner.specs.Values.{route_among}

module _ {K : Type 0} (Answers : ℕ → OutOp → Reply → K → K → Type 0) (k : ℕ) where
  -- one entry more
  more : (old mid now : K) (es : List Entry) (e : Entry) → AreAnswered Answers k old es mid → IsAnswered Answers k e.op e.reply mid now
      → AreAnswered Answers k old (es ++ e ∷ []) now
  more old mid now [] e are one = (now, subst (λ (x : K). IsAnswered Answers k e.op e.reply x now) are one, refl)
  more old mid now (d ∷ es) e are one = (are.0, are.1, more are.0 mid now es e are.2 one)

  -- what is given is what the entry's reply says
  one_by : (old now : K) (op : Op) (given : Option Reply) (reply : Reply) (layout : Layout) → IsGivenBy Answers k op old given now
      → (is_out (route_among layout op) ≡ true → reply ≡ out_reply op (as_given given)) → IsAnswered Answers k op reply old now
  one_by old now (Op.Out act) given reply layout asked out =
      let same : reply ≡ asked.0 = out refl ∙ ap (λ (o : Option Reply). out_reply (Op.Out act) (as_given o)) asked.1 in
      subst (λ (r : Reply). Answers k act r old now) (sym same) asked.3
  one_by old now (Op.Read at len) given reply layout asked out = asked.1
  one_by old now (Op.Write at piece) given reply layout asked out = asked.1
  one_by old now (Op.Amo at value kind wide) given reply layout asked out = asked.1
  one_by old now (Op.Lr at wide) given reply layout asked out = asked.1
  one_by old now (Op.Sc at value wide) given reply layout asked out = asked.1
  one_by old now (Op.Port port act) given reply layout asked out = asked.1
  one_by old now (Op.Board act) given reply layout asked out = asked.1
  one_by old now Op.Idle given reply layout asked out = asked.1

  pub answered : (start old now : K) (es items : List Entry) (e : Entry) (op : Op) (given : Option Reply) (layout : Layout)
      → AreAnswered Answers k start es old → items ≡ es ++ e ∷ [] → e.op ≡ op → e.place ≡ route_among layout e.op
      → (is_out e.place ≡ true → e.reply ≡ out_reply op (as_given given)) → IsGivenBy Answers k op old given now
      → AreAnswered Answers k start items now
  answered start old now es items e op given layout had items_is op_is place_is out asked =
      let here : e.place ≡ route_among layout op = place_is ∙ ap (route_among layout) op_is in
      let one : IsAnswered Answers k op e.reply old now =
      one_by old now op given e.reply layout asked (λ none. out (ap is_out here ∙ none)) in
      subst (λ (l : List Entry). AreAnswered Answers k start l now) (sym items_is)
      (more start old now es e had (subst (λ (o : Op). IsAnswered Answers k o e.reply old now) (sym op_is) one))

  -- and it is what the act is to be given
  pub given_fits : (op : Op) (old now : K) (given : Option Reply) → IsGivenBy Answers k op old given now → is_given op (as_given given) ≡ true
  given_fits (Op.Out act) old now given asked = ap (λ (o : Option Reply). is_given (Op.Out act) (as_given o)) asked.1 ∙ asked.2
  given_fits (Op.Read at len) old now given asked = ap (λ (o : Option Reply). is_given (Op.Read at len) (as_given o)) asked.0
  given_fits (Op.Write at piece) old now given asked = ap (λ (o : Option Reply). is_given (Op.Write at piece) (as_given o)) asked.0
  given_fits (Op.Amo at value kind wide) old now given asked =
      ap (λ (o : Option Reply). is_given (Op.Amo at value kind wide) (as_given o)) asked.0
  given_fits (Op.Lr at wide) old now given asked = ap (λ (o : Option Reply). is_given (Op.Lr at wide) (as_given o)) asked.0
  given_fits (Op.Sc at value wide) old now given asked = ap (λ (o : Option Reply). is_given (Op.Sc at value wide) (as_given o)) asked.0
  given_fits (Op.Port port act) old now given asked = ap (λ (o : Option Reply). is_given (Op.Port port act) (as_given o)) asked.0
  given_fits (Op.Board act) old now given asked = ap (λ (o : Option Reply). is_given (Op.Board act) (as_given o)) asked.0
  given_fits Op.Idle old now given asked = ap (λ (o : Option Reply). is_given Op.Idle (as_given o)) asked.0

-- what can be done has its port
pub done_at_port : (calls : OutOp → Bool) (layout : Layout) (op : Op) → can_be_done calls layout op ≡ true → has_port layout op ≡ true
done_at_port calls layout (Op.Port port act) can = can
done_at_port calls layout op can = refl
