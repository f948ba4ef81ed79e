-- What is answered of what a connection gives, one thing after another.
use Rattle.std.proofs.Common.{◌≡◌, ℕ, suc, ◌+◌, ◌<◌, inl, inr, Bool, true, false, List, [], ◌∷◌, ◌++◌, length, refl, sym, ap, subst, ◌∙◌, append_assoc, arith}
use Rattle.std.proofs.lemmas.List.{append-nil}
use Rattle.vm_types.specs.Causes.{RoseBy}
use Rattle.vm_outside.specs.Filing.{SameFiles}
use Rattle.vm_outside.specs.Known.{FilesKnown, Lasts, Tells}
use Rattle.http_stream.specs.declared.request.Request.{Request}
use Rattle.http_stream.specs.declared.request.Next.{Next}
use Rattle.http_stream.specs.declared.request.Next.TheVariants as next
use Rattle.http_stream.specs.Stream.{Connection, Judged}
use Rattle.http_stream.specs.Conversation.{IsQuiet, Takes, Conversation, ConversationFront}
use Rattle.http_stream.proofs.CutLemmas.{made, bad_failed, request_falls, request_lives}
use Rattle.http_stream.proofs.AnswerLemmas.{some_reading}
use Rattle.flat_machine.specs.Outcome as flat
use Rattle.flat_machine.specs.Requests.{RequestStep}
use Rattle.responses.specs.declared.form.ResponseForm.{ResponseForm}
use Rattle.responses.specs.Responses.{Response, all_written, written_as}
use Rattle.monitor_core.specs.declared.monitor.Monitor.{Monitor}
use Rattle.monitor_machine.specs.declared.outcome.Outcome.{Outcome}
use Rattle.monitor_machine.specs.declared.outcome.Outcome.TheVariants.{Answered, Failed, NoMemory}
use Rattle.monitor_machine.specs.Replying.{AsksFiles, OutcomeCause, WentAs}
use Rattle.monitor_core.specs.Going.{CountsFaults, GivesFiling}
use Rattle.monitor_core.specs.Replying.{Replied, Rests}
use Rattle.monitor_core.specs.Talking.{Begins, HasAnswered, HasStopped, HasTalked, IsStillDue}

-- ---- conversations

begins_more : {W M A : Type 0} (step : W → Next → M → List A → M → Type 0) (hows : List W) (how : W)
    (c d e : Connection) (m n k : M) (s t : List A) (given : Next)
    → Begins step hows c m s d n → Takes d given e → step how given n t k
    → Begins step (hows ++ how ∷ []) c m (s ++ t) e k
begins_more {W} {M} {A} step [] how c d e m n k s t given (dc, se, nm) takes went = (
  given,
  e,
  t,
  k,
  [],
  subst (λ (x : Connection). Takes x given e) dc takes,
  subst (λ (x : M). step how given x t k) nm went,
  (refl, refl, refl),
  ap (λ (x : List A). x ++ t) se ∙ sym (append-nil t),
)
begins_more {W} {M} {A} step (first ∷ hows) how c d e m n k s t given (g, a, f, mid, r, grabs, goes, on, is) takes went = (
  g,
  a,
  f,
  mid,
  r ++ t,
  grabs,
  goes,
  begins_more step hows how a d e mid n k r t given on takes went,
  ap (λ (x : List A). x ++ t) is ∙ append_assoc f r t,
)

pub begins_quiet : {W M A : Type 0} (step : W → Next → M → List A → M → Type 0) (hows : List W)
    (c d : Connection) (m n : M) (s : List A) → Begins step hows c m s d n → IsQuiet d → Conversation step hows c m s d n
begins_quiet step [] c d m n s (dc, se, nm) quiet = (subst IsQuiet dc quiet, dc, se, nm)
begins_quiet step (how ∷ hows) c d m n s (g, a, f, mid, r, takes, went, on, is) quiet =
    (g, a, f, mid, r, takes, went, begins_quiet step hows a d mid n r on quiet, is)

pub begins_due : {W M A : Type 0} (step : W → Next → M → List A → M → Type 0) (hows : List W)
    (c d : Connection) (m n : M) (s : List A) → Begins step hows c m s d n → IsStillDue d → ConversationFront step hows c m s d n
begins_due step [] c d m n s (dc, se, nm) (given, after, takes) =
    (given, after, subst (λ (x : Connection). Takes x given after) dc takes, dc, se, nm)
begins_due step (how ∷ hows) c d m n s (g, a, f, mid, r, takes, went, on, is) due =
    (g, a, f, mid, r, takes, went, begins_due step hows a d mid n r on due, is)

-- ---- what is left on the connection

abbrev pub weight_by : Bool → ℕ → ℕ
weight_by true n = 0
weight_by false n = suc n

abbrev pub weight : Connection → ℕ
weight c = weight_by c.failed (length c.pending)

takes_falls_by : (c : Connection) (given : Next) (d : Connection) → Takes c given d → (b e : Bool) → c.failed ≡ b → d.failed ≡ e
    → weight_by e (length d.pending) < weight_by b (length c.pending)
takes_falls_by c given d takes true e is ends = absurd (let k : true ≡ false = sym is ∙ takes.live in cc)
takes_falls_by c given d takes false true is ends = omega arith
takes_falls_by c (next.Request r) d takes false false is ends =
    let falls = request_falls c.pending r d takes.judged in
    let k : suc (length d.pending) < suc (length c.pending) = omega (arith, falls) in k
takes_falls_by c (next.Bad why) d takes false false is ends =
    absurd (let k : true ≡ false = sym (bad_failed c.pending why d takes.judged) ∙ ends in cc)
takes_falls_by c next.None d takes false false is ends = absurd takes.due

pub takes_falls : (c : Connection) (given : Next) (d : Connection) → Takes c given d → weight d < weight c
takes_falls c given d takes = takes_falls_by c given d takes c.failed d.failed refl refl

-- ---- requests that call the files

filing_behind : (c : Connection) (given : Next) (d : Connection) → Takes c given d → GivesFiling d → GivesFiling c
filing_behind c (next.Request r) d takes (live, rs, e, reads, start) =
    let P : Bool → Type 0 = λ b. Judged c.pending (made (next.Request r) (record { pending = d.pending; failed = b })) in
    (takes.live, r ∷ rs, e, (d.pending, subst P live takes.judged, reads), inr start)
filing_behind c (next.Bad why) d takes (live, rs, e, reads, start) =
    absurd (let k : true ≡ false = sym (bad_failed c.pending why d takes.judged) ∙ live in cc)
filing_behind c next.None d takes starts = absurd takes.due

pub filing_first : (c : Connection) (r : Request) (d : Connection) → Takes c (next.Request r) d → AsksFiles r
    → GivesFiling c
filing_first c r d takes start =
    let P : Bool → Type 0 = λ b. Judged c.pending (made (next.Request r) (record { pending = d.pending; failed = b })) in
    let rest = some_reading d.pending in
    (takes.live, r ∷ rest.0, rest.1, (d.pending, subst P (request_lives c.pending r d takes.judged) takes.judged, rest.2), inl start)

filing_later : (hows : List flat.Outcome) (c d : Connection) (s : List (Unit {0}))
    → Begins {W = flat.Outcome} {M = Unit {0}} {A = Unit {0}} (λ how given m said n. Unit {0}) hows c tt s d tt → GivesFiling d → GivesFiling c
filing_later [] c d s (dc, se, nm) start = subst GivesFiling dc start
filing_later (how ∷ hows) c d s (g, a, f, mid, r, takes, went, on, is) start =
    filing_behind c g a takes (filing_later hows a d r on start)

-- ---- faults

failed_more : (hows : List flat.Outcome) (how : flat.Outcome)
    → flat.failed_in (hows ++ how ∷ []) ≡ flat.failed_in hows + flat.failed_in (how ∷ [])
failed_more [] how = omega arith
failed_more (flat.Outcome.Answered kept ∷ hows) how = failed_more hows how
failed_more (flat.Outcome.Failed left ∷ hows) how = let k = failed_more hows how in omega (arith, k)
failed_more (flat.Outcome.NoMemory ∷ hows) how = failed_more hows how

answered_front : (hows : List flat.Outcome) (how : flat.Outcome)
    → flat.AreAnswered (hows ++ how ∷ []) → flat.AreAnswered hows × flat.AreAnswered (how ∷ [])
answered_front [] how good = (tt, good)
answered_front (flat.Outcome.Answered kept ∷ hows) how good = answered_front hows how good
answered_front (flat.Outcome.Failed left ∷ hows) how good = absurd good
answered_front (flat.Outcome.NoMemory ∷ hows) how good = absurd good

one_rose : (how : Outcome) (outcome : flat.Outcome) (before now : ℕ) → WentAs how outcome → OutcomeCause how before now
    → RoseBy (flat.failed_in (outcome ∷ [])) before now
one_rose Answered outcome before now (kept, is) cause =
    subst (λ (o : flat.Outcome). RoseBy (flat.failed_in (o ∷ [])) before now) (sym is) (omega (arith, cause))
one_rose Failed outcome before now (left, is) cause =
    subst (λ (o : flat.Outcome). RoseBy (flat.failed_in (o ∷ [])) before now) (sym is) cause
one_rose NoMemory outcome before now is cause =
    subst (λ (o : flat.Outcome). RoseBy (flat.failed_in (o ∷ [])) before now) (sym is) (omega (arith, cause))

one_kept : (how : Outcome) (outcome : flat.Outcome) (before now : ℕ) → WentAs how outcome → OutcomeCause how before now
    → flat.AreAnswered (outcome ∷ []) → now ≡ before
one_kept Answered outcome before now went cause good = cause
one_kept Failed outcome before now (left, is) cause good =
    absurd (subst (λ (o : flat.Outcome). flat.AreAnswered (o ∷ [])) is good)
one_kept NoMemory outcome before now is cause good =
    absurd (subst (λ (o : flat.Outcome). flat.AreAnswered (o ∷ [])) is good)

counts_more : (hows : List flat.Outcome) (how : Outcome) (outcome : flat.Outcome) (before mid now : ℕ) → WentAs how outcome
    → CountsFaults hows before mid → OutcomeCause how mid now → CountsFaults (hows ++ outcome ∷ []) before now
counts_more hows how outcome before mid now went counted cause = record {
  rose = let one = one_rose how outcome mid now went cause in let many = counted.rose in
      let sum = failed_more hows outcome in omega (arith, one, many, sum);
  kept = λ good. let both = answered_front hows outcome good in
      one_kept how outcome mid now went cause both.1 ∙ counted.kept both.0;
}

not_empty : (hows : List flat.Outcome) (how : flat.Outcome) → hows ++ how ∷ [] ≡ [] → ⊥
not_empty [] how is = cc
not_empty (first ∷ hows) how is = cc

-- ---- what is written

-- one response more, behind those before it
written_more : (form : ResponseForm) (responses more : List Response)
    → all_written form (responses ++ more) ≡ all_written form responses ++ all_written form more
written_more form [] more = refl
written_more form (response ∷ responses) more =
    ap (λ (l : List ℕ). written_as form response ++ l) (written_more form responses more)
    ∙ sym (append_assoc (written_as form response) (all_written form responses) (all_written form more))

writes_more : (form : ResponseForm) (responses more : List Response) (text written : List ℕ)
    → text ≡ all_written form responses → written ≡ text ++ all_written form more
    → written ≡ all_written form (responses ++ more)
writes_more form responses more text written so_far is =
    is ∙ ap (λ (l : List ℕ). l ++ all_written form more) so_far ∙ sym (written_more form responses more)

-- ---- one more answer

pub answers_more : (form : ResponseForm) (monitor now after : Monitor) (text written : List ℕ) (known mid left : FilesKnown)
    → HasAnswered form monitor now text known mid → Replied form now after text written mid left
    → Lasts mid.health left.health → HasAnswered form monitor after written known left
answers_more form monitor now after text written known mid left a r lasts = record {
  outcomes = a.outcomes ++ r.replies.outcome ∷ [];
  responses = a.responses ++ r.replies.responses;
  writes = writes_more form a.responses r.replies.responses text written a.writes r.replies.writes;
  given = begins_more {W = flat.Outcome} {M = Unit {0}} {A = Unit {0}} (λ how given m said n. Unit {0}) a.outcomes r.replies.outcome
      monitor.front now.front after.front tt tt tt [] [] r.given a.given r.takes tt;
  counted = counts_more a.outcomes r.how r.replies.outcome known.health.faults mid.health.faults left.health.faults r.replies.went_as a.counted r.replies.cause;
  uncalled = λ never. r.uncalled (λ start. never (filing_later a.outcomes monitor.front now.front [] a.given start)) ∙ a.uncalled never;
  same = λ none. absurd (not_empty a.outcomes r.replies.outcome none);
  went = λ told m is.
      let p = a.went told m is in
      let q = r.replies.went (a.lasts.still told) p.0 p.2 in (
        q.0,
        begins_more RequestStep a.outcomes r.replies.outcome monitor.front now.front after.front m p.0 q.0 a.responses r.replies.responses r.given p.1 r.takes q.1,
        q.2,
      );
  lasts = record {
    still = λ told. lasts.still (a.lasts.still told);
    later = let x = a.lasts.later in let y = lasts.later in omega (arith, x, y);
  };
}

pub nothing_yet : (form : ResponseForm) (monitor : Monitor) (text : List ℕ) (known : FilesKnown) → text ≡ []
    → HasAnswered form monitor monitor text known known
nothing_yet form monitor text known quiet = record {
  outcomes = [];
  responses = [];
  writes = quiet;
  given = (refl, refl, refl);
  counted = record { rose = omega arith; kept = λ good. refl };
  uncalled = λ never. refl;
  same = λ none. refl;
  went = λ told m is. (m, (refl, refl, refl), is);
  lasts = record { still = λ told. told; later = omega arith };
}

-- something is still due, and there was no memory to answer it
pub answers_stop : (form : ResponseForm) (monitor now after : Monitor) (text : List ℕ) (known mid left : FilesKnown)
    → HasAnswered form monitor now text known mid → after ≡ now → IsStillDue now.front
    → ((GivesFiling now.front → ⊥) → left.health.faults ≡ mid.health.faults)
    → (Tells mid.health → SameFiles mid left) → Lasts mid.health left.health → HasStopped form monitor after known left
answers_stop form monitor now after text known mid left a same due uncalled files lasts = record {
  text = text;
  before = mid;
  answered = subst (λ (q : Monitor). HasAnswered form monitor q text known mid) (sym same) a;
  due = subst (λ (q : Monitor). IsStillDue q.front) (sym same) due;
  uncalled = λ never. uncalled (λ start. never (filing_later a.outcomes monitor.front now.front [] a.given start)) ∙ a.uncalled never;
  files = files;
  later = lasts.later;
}

-- nothing is due any more
pub answers_rest : (form : ResponseForm) (monitor now after : Monitor) (text written : List ℕ) (known mid left : FilesKnown)
    → HasAnswered form monitor now text known mid → Rests now after text written mid left
    → HasTalked form monitor after written known left
answers_rest form monitor now after text written known mid left a r = record {
  answered = subst (λ (t : List ℕ). HasAnswered form monitor after t known left) (sym r.writes)
      (subst (λ (q : Monitor). HasAnswered form monitor q text known left) (sym r.same)
      (subst (λ (k : FilesKnown). HasAnswered form monitor now text known k) (sym r.kept) a));
  quiet = subst (λ (q : Monitor). IsQuiet q.front) (sym r.same) r.quiet;
}
