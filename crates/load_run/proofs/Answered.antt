-- Where no answer of a run tells of a failure, the machine answered every request.
use Rattle.std.proofs.Common.{◌≡◌, ◌⊎◌, ◌<◌, ℕ, zero, suc, ◌+◌, ◌-◌, Bool, true, false, ◌||◌, Some, inl, inr, refl, sym, ap, subst, ◌∙◌, List, [], ◌∷◌, ◌++◌, codes, length, drop, take, append_assoc, arith}
use Rattle.std.proofs.Math.Seq.{take-length}
use Rattle.std.proofs.lemmas.List.{length-drop}
use Rattle.std.specs.Fmt.{digits}
use Rattle.std.proofs.lemmas.Bool.{or_right}
use Rattle.script_text.specs.declared.item.Item.{Item}
use Rattle.script_text.specs.declared.item.Item.TheVariants as item
use Rattle.http_stream.specs.Stream.{Connection}
use Rattle.http_stream.specs.Conversation.{Conversation}
use Rattle.http_stream.specs.Sent.{sent}
use Rattle.refusals.specs.declared.refusal.Refusal.{Refusal}
use Rattle.refusals.specs.declared.refusal.Refusal.TheVariants as refusal
use Rattle.refusals.specs.Refusals.{fault_text, status_of}
use Rattle.responses.specs.declared.form.ResponseForm.TheVariants.{Line}
use Rattle.responses.specs.Responses.{Response, all_written, written_as}
use Rattle.flat_machine.specs.Items.{ItemStep, TalkLines}
use Rattle.flat_machine.specs.Machine.{Machine}
use Rattle.flat_machine.specs.Outcome.{AreAnswered, Outcome}
use Rattle.flat_machine.specs.Outcome.Outcome.{Answered, Failed, NoMemory}
use Rattle.flat_machine.specs.Requests.{RequestStep, closes}
use Rattle.flat_machine.specs.Run.{Act, AllAnswered, Run}
use Rattle.load_run.specs.Failures.{begins_failure, tells_failure}

-- one of the two fronts stands in the text
record Has (text : List ℕ) : Type 0 where
  front : List ℕ
  failure : List ℕ
  is : begins_failure failure ≡ true
  more : (behind : List ℕ) → begins_failure (failure ++ behind) ≡ true
  parts : text ≡ front ++ failure

-- a text with it is not empty
found_here : (text : List ℕ) → begins_failure text ≡ true → tells_failure text ≡ true
found_here [] is = is
found_here (c ∷ text) is = ap (λ (b : Bool). b || tells_failure text) is

found_at : (front failure : List ℕ) → begins_failure failure ≡ true → tells_failure (front ++ failure) ≡ true
found_at [] failure is = found_here failure is
found_at (c ∷ front) failure is =
    ap (λ (b : Bool). begins_failure (c ∷ front ++ failure) || b) (found_at front failure is) ∙ or_right (begins_failure (c ∷ front ++ failure)) true refl

found : (text : List ℕ) → Has text → tells_failure text ≡ true
found text has = ap tells_failure has.parts ∙ found_at has.front has.failure has.is

in_front : (one two : List ℕ) → Has one → Has (one ++ two)
in_front one two has = record {
  front = has.front;
  failure = has.failure ++ two;
  is = has.more two;
  more = λ behind. ap begins_failure (append_assoc has.failure two behind) ∙ has.more (two ++ behind);
  parts = ap (λ (l : List ℕ). l ++ two) has.parts ∙ append_assoc has.front has.failure two;
}

behind_it : (one two : List ℕ) → Has two → Has (one ++ two)
behind_it one two has = record {
  front = one ++ has.front;
  failure = has.failure;
  is = has.is;
  more = has.more;
  parts = ap (λ (l : List ℕ). one ++ l) has.parts ∙ sym (append_assoc one has.front has.failure);
}

same_text : (one two : List ℕ) → two ≡ one → Has one → Has two
same_text one two is has = subst (λ (l : List ℕ). Has l) (sym is) has

failed_line : (body : List ℕ) → Has (codes "< 500 " ++ body)
failed_line body = record {
  front = [];
  failure = codes "< 500 " ++ body;
  is = refl;
  more = λ behind. refl;
  parts = refl;
}

short_line : (body : List ℕ) → Has (codes "< 503 " ++ body)
short_line body = record {
  front = [];
  failure = codes "< 503 " ++ body;
  is = refl;
  more = λ behind. refl;
  parts = refl;
}

abbrev lines : List Response → List ℕ
lines said = all_written Line said

both_written : (one two : List Response) → lines (one ++ two) ≡ lines one ++ lines two
both_written [] two = refl
both_written (r ∷ one) two =
    ap (λ (l : List ℕ). written_as Line r ++ l) (both_written one two) ∙ sym (append_assoc (written_as Line r) (lines one) (lines two))

-- what a refusal's line says behind the status
abbrev tail_of : Refusal → List ℕ
tail_of why = (fault_text why ++ codes "\n") ++ []

abbrev refusal_line : Refusal → Bool → List ℕ
refusal_line why last = lines (record { answer = record { status = status_of why; body = Some (fault_text why) }; closes = last } ∷ [])

failed_is : (last : Bool) → refusal_line refusal.OutsideFailed last ≡ codes "< 500 " ++ tail_of refusal.OutsideFailed
unfolding digits
failed_is last = refl

short_is : (last : Bool) → refusal_line refusal.OutOfMemory last ≡ codes "< 503 " ++ tail_of refusal.OutOfMemory
unfolding digits
short_is last = refl

-- what was answered tells of a failure, or each was answered by the machine
talk_has : (outcomes : List Outcome) (c d : Connection) (m n : Machine) (said : List Response) → Conversation RequestStep outcomes c m said d n
    → AreAnswered outcomes ⊎ Has (lines said)
talk_has [] c d m n said talk = inl tt
talk_has (Answered kept ∷ outcomes) c d m n said (given, after, first, mid, rest, takes, step, more, is) =
    later first rest said is (talk_has outcomes after d mid n rest more)
  where
    later : (first rest said : List Response) → said ≡ first ++ rest → AreAnswered outcomes ⊎ Has (lines rest) → AreAnswered outcomes ⊎ Has (lines said)
    later first rest said is (inl good) = inl good
    later first rest said is (inr has) =
        inr (same_text (lines first ++ lines rest) (lines said) (ap lines is ∙ both_written first rest) (behind_it (lines first) (lines rest) has))
talk_has (Failed left ∷ outcomes) c d m n said (given, after, first, mid, rest, takes, step, more, is) =
    inr (same_text (lines first ++ lines rest) (lines said) (ap lines is ∙ both_written first rest)
    (in_front (lines first) (lines rest) (same_text (codes "< 500 " ++ tail_of refusal.OutsideFailed) (lines first) (ap lines step.3 ∙ failed_is (closes given)) (failed_line (tail_of refusal.OutsideFailed)))))
talk_has (NoMemory ∷ outcomes) c d m n said (given, after, first, mid, rest, takes, step, more, is) =
    inr (same_text (lines first ++ lines rest) (lines said) (ap lines is ∙ both_written first rest)
    (in_front (lines first) (lines rest) (same_text (codes "< 503 " ++ tail_of refusal.OutOfMemory) (lines first) (ap lines step.0 ∙ short_is (closes given)) (short_line (tail_of refusal.OutOfMemory)))))

lines_has : (bytes : List ℕ) (outcomes : List Outcome) (m n : Machine) (text : List ℕ) → TalkLines bytes outcomes m text n
    → AreAnswered outcomes ⊎ Has text
lines_has bytes outcomes m n text (said, (after, mid, talk, leaves), is) = told (talk_has outcomes _ after m mid said talk)
  where
    told : AreAnswered outcomes ⊎ Has (lines said) → AreAnswered outcomes ⊎ Has text
    told (inl good) = inl good
    told (inr has) = inr (same_text (lines said) text is has)

none_asked : (outcomes : List Outcome) → outcomes ≡ [] → AreAnswered outcomes
none_asked outcomes is = subst (λ (o : List Outcome). AreAnswered o) (sym is) tt

item_has : (it : Item) (outcomes : List Outcome) (m n : Machine) (text : List ℕ) → ItemStep it outcomes m text n
    → AreAnswered outcomes ⊎ Has text
item_has (item.Bytes bytes) outcomes m n text step = lines_has bytes outcomes m n text step
item_has (item.Api method path body) outcomes m n text step = lines_has (sent method path body) outcomes m n text step
item_has item.Nothing outcomes m n text step = inl (none_asked outcomes step.0)
item_has (item.File name content) outcomes m n text step = inl (none_asked outcomes step.0)
item_has (item.Lineage lineage) outcomes m n text step = inl (none_asked outcomes step.0)
item_has item.Connect outcomes m n text step = inl (none_asked outcomes step.0)
item_has (item.Step actor count) outcomes m n text step = inl (none_asked outcomes step.0)
item_has (item.Reply actor reply) outcomes m n text step = inl (none_asked outcomes step.0)
item_has item.Console outcomes m n text step = inl (none_asked outcomes step.0)
item_has (item.Register hart number) outcomes m n text step = inl (none_asked outcomes step.0)
item_has (item.Memory at len) outcomes m n text step = inl (none_asked outcomes step.0)

run_has : (acts : List Act) (m n : Machine) (text : List ℕ) → Run acts m text n → AllAnswered acts ⊎ Has text
run_has [] m n text ran = inl tt
run_has (act ∷ acts) m n text (first, mid, rest, step, more, is) =
    both (item_has act.item act.outcomes m mid first step) (run_has acts mid n rest more)
  where
    both : AreAnswered act.outcomes ⊎ Has first → AllAnswered acts ⊎ Has rest → (AreAnswered act.outcomes × AllAnswered acts) ⊎ Has text
    both (inr has) others = inr (same_text (first ++ rest) text is (in_front first rest has))
    both (inl good) (inr has) = inr (same_text (first ++ rest) text is (behind_it first rest has))
    both (inl good) (inl others) = inl (good, others)

not_both : (b : Bool) → b ≡ true → b ≡ false → ⊥
not_both b is not =
    let both : true ≡ false = sym is ∙ not in
    cc both

pub all_answered : (acts : List Act) (m n : Machine) (text : List ℕ) → Run acts m text n → tells_failure text ≡ false → AllAnswered acts
all_answered acts m n text ran clean = by (run_has acts m n text ran)
  where
    by : AllAnswered acts ⊎ Has text → AllAnswered acts
    by (inl good) = good
    by (inr has) = absurd (not_both (tells_failure text) (found text has) clean)

-- one byte further
one_further : (text : List ℕ) (at : ℕ) → at < length text → tells_failure (drop at text) ≡ (begins_failure (drop at text) || tells_failure (drop (suc at) text))
one_further [] at within = absurd (omega (arith, within))
one_further (c ∷ text) zero within = refl
one_further (c ∷ text) (suc at) within = one_further text at (omega (arith, within))

-- a failure does not begin here
all_behind : (text : List ℕ) (at : ℕ) → take (length text - at) (drop at text) ≡ drop at text
all_behind text at = ap (λ (n : ℕ). take n (drop at text)) (sym (length-drop at text)) ∙ take-length (drop at text)

pub past_it : (text : List ℕ) (at : ℕ) → at < length text → begins_failure (take (length text - at) (drop at text)) ≡ false
    → tells_failure (drop (at + 1) text) ≡ tells_failure (drop at text)
past_it text at within none =
    let next : at + 1 ≡ suc at = omega arith in
    let not : begins_failure (drop at text) ≡ false = ap begins_failure (sym (all_behind text at)) ∙ none in
    ap (λ (n : ℕ). tells_failure (drop n text)) next
    ∙ sym (one_further text at within ∙ ap (λ (b : Bool). b || tells_failure (drop (suc at) text)) not)
