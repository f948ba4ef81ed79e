-- What an entropy device owes of what is kept of it.
use Rattle.std.proofs.Common.{◌≡◌, ℕ, zero, suc, ◌-◌, ◌^◌, ◌<◌, ◌≤◌, ◌==◌, nat_le, nat_lt, min, refl, sym, subst, inl, inr, Bool, true, false, if◌then◌else◌, Option, Some, None, IfSome, option_map, List, length, drop, take, arith, length-drop}
use Rattle.std.specs.List.{All}
use Rattle.std.proofs.lemmas.List.{length-take}
use Rattle.std.proofs.lemmas.List.Elements.{All-drop, All-nil, All-take}
use Rattle.std.proofs.lemmas.Bool.{and_from, and_parts, eq-eqb, le-leb, leb-true, lt-ltb, ltb-true}
use Rattle.vm_types.specs.declared.op.Op.TheVariants.{Out}
use Rattle.vm_types.specs.declared.op.OutOp.TheVariants.{DrawWord}
use Rattle.vm_types.specs.declared.reply.Reply.{Reply}
use Rattle.vm_types.specs.declared.reply.Reply.TheVariants.{Drawn}
use Rattle.vm_types.specs.Fits.{Fits}
use Rattle.device_trace.specs.Doing.{Doing, led}
use Rattle.device_trace.specs.Keeps as trees
use Rattle.device_trace.specs.Traces.{setting}
use Rattle.le_fields.specs.Fields.{IsByte, bytes_of}
use Rattle.le_fields.proofs.Values.{all_bytes}
use Rattle.vq_split.specs.declared.queue.Part.{Part}
use Rattle.vq_split.specs.Inside.{AreInside}
use Rattle.vq_split.specs.Kept.{are_inside}
use Rattle.vq_split.proofs.Kept.{are_of, inside_of}
use Rattle.dev_core.specs.Inside.{Any}
use Rattle.dev_core.specs.Pieces.{past, put_all, readable, share, total}
use Rattle.dev_core.proofs.Fuel.{and_then_asked, put_done}
use Rattle.dev_core.proofs.Inside.{past_inside}
use Rattle.rate_gate.specs.Gate.{Buckets, gate_passes}
use Rattle.rate_gate.specs.Small.{AreSmallLimits}
use Rattle.rate_gate.proofs.SmallLimits.{limits_pass}
use Rattle.queue_device.specs.declared.lanes.Which.{Which}
use Rattle.queue_device.specs.declared.phase.Work.{Work}
use Rattle.queue_device.specs.declared.phase.Work.TheVariants as work
use Rattle.queue_device.specs.declared.spill.Spill.{Spill}
use Rattle.queue_device.specs.Acting.{Acting, ActingKeeps, Comes, performing}
use Rattle.queue_device.specs.Chains.{Chain, Taken}
use Rattle.queue_device.specs.Confined.{IsChain, IsDeviceAct}
use Rattle.queue_device.specs.Left.{Hand}
use Rattle.queue_device.specs.Resuming.{Goes, IsShortChain, IsShortTaken, Resumes, answering_of, serving_of, taking_of}
use Rattle.queue_device.specs.Sizes.{IsLength}
use Rattle.queue_device.proofs.Acting.{led_keeps, performing_keeps}
use Rattle.queue_device.proofs.Never.{never}
use Rattle.queue_device.proofs.Pieces.{past_few, put_asks}
use Rattle.queue_device.proofs.Spilling.{spill_on}
use Rattle.entropy_device.specs.declared.kind.Stage.{Stage}
use Rattle.entropy_device.specs.declared.kind.Stage.TheVariants as stage
use Rattle.entropy_device.specs.Entropy.{Entropy, entropy, filled, is_word_call, kept_of, passes_by, served_by, unchanged}
use Rattle.entropy_device.specs.Words.{before, filled_length, filling, filling_from, word_bytes, word_count, writing}
use Rattle.entropy_device.specs.Work as own
use Rattle.entropy_device.specs.Work.{AnyEntropy, IsSizedData, IsSmallStage, IsWord, SizedStage, are_parts, hand_of, is_sized_work, is_stage, is_word, is_work, sized_hand}
use Rattle.entropy_device.proofs.Entropy.{asks, filling_stays, writing_stays}
use Rattle.entropy_device.proofs.Stages.{test_of_word, word_of_test}
use Rattle.entropy_device.proofs.Working.{drawn, draws, fail_led, word_led, write_led, writes, written}

-- ---- the tests

record Draws (pages len index : ℕ) (to : List Part) : Type 0 where
  word : IsWord len index
  inside : AreInside pages to
  few : length to ≤ 256

draws_of : (pages : ℕ) (k : Which) (len index : ℕ) (to : List Part) → is_work (work.Serve k) pages (stage.Draw len index to) ≡ true
    → Draws pages len index to
draws_of pages k len index to is =
    let p0 = and_parts (is_word len index) (are_parts pages to) is in
    let p1 = and_parts (are_inside pages to) (nat_le (length to) 256) p0.1 in
    record { word = word_of_test len index p0.0; inside = inside_of pages to p1.0; few = leb-true _ _ p1.1 }

test_of_draws : (pages : ℕ) (k : Which) (len index : ℕ) (to : List Part) → Draws pages len index to
    → is_work (work.Serve k) pages (stage.Draw len index to) ≡ true
test_of_draws pages k len index to is =
    and_from _ _ (test_of_word len index is.word) (and_from _ _ (are_of pages to is.inside) (le-leb _ _ is.few))

record Writes (pages len index : ℕ) (held : List ℕ) (to : List Part) : Type 0 where
  word : IsWord len index
  some : 0 < share held to
  short : length held ≤ 8
  inside : AreInside pages to
  few : length to ≤ 256

writes_of : (pages : ℕ) (k : Which) (len index : ℕ) (spill : Spill)
    → is_work (work.Serve k) pages (stage.Write len index spill) ≡ true → Writes pages len index spill.held spill.to
writes_of pages k len index spill is =
    let p0 = and_parts (is_stage (stage.Write len index spill)) (are_parts pages spill.to) is in
    let p1 = and_parts (are_inside pages spill.to) (nat_le (length spill.to) 256) p0.1 in
    let p2 = and_parts _ (nat_le (length spill.held) 8) p0.0 in
    let p3 = and_parts (is_word len index) (nat_lt 0 (share spill.held spill.to)) p2.0 in
    record {
      word = word_of_test len index p3.0;
      some = ltb-true _ _ p3.1;
      short = leb-true _ _ p2.1;
      inside = inside_of pages spill.to p1.0;
      few = leb-true _ _ p1.1;
    }

test_of_writes : (pages : ℕ) (k : Which) (len index : ℕ) (spill : Spill) → Writes pages len index spill.held spill.to
    → is_work (work.Serve k) pages (stage.Write len index spill) ≡ true
test_of_writes pages k len index spill is =
    and_from _ _
    (and_from _ _ (and_from _ _ (test_of_word len index is.word) (lt-ltb _ _ is.some)) (le-leb _ _ is.short))
    (and_from _ _ (are_of pages spill.to is.inside) (le-leb _ _ is.few))

no_answer : (pages : ℕ) (g : Stage) → is_work work.Answer pages g ≡ true → ⊥
no_answer pages stage.Rest is = cc
no_answer pages (stage.Draw len index to) is = cc
no_answer pages (stage.Write len index spill) is = cc

no_take : (pages : ℕ) (k : Which) (g : Stage) → is_work (work.Take k) pages g ≡ true → ⊥
no_take pages k stage.Rest is = cc
no_take pages k (stage.Draw len index to) is = cc
no_take pages k (stage.Write len index spill) is = cc

-- ---- what is left keeps to its own

serving_stays : (port pages : ℕ) (k : Which) (g : Stage) → is_work (work.Serve k) pages g ≡ true
    → IsDeviceAct false is_word_call port pages (hand_of g).op
    × ((e : Entropy) (reply : Reply) → Fits (hand_of g).op reply
    → ActingKeeps (IsDeviceAct false is_word_call port pages) Any ((hand_of g).serving e reply))
serving_stays port pages k stage.Rest is = absurd (cc)
serving_stays port pages k (stage.Draw len index to) is =
    let v = draws_of pages k len index to is in
    let keeps = filling_stays port pages (word_count len - index) len index to (λ few. v.inside) in (
      asks port pages,
      λ e reply fit. performing_keeps (IsDeviceAct false is_word_call port pages) (Any {A = ℕ}) Any (led (filling_from len index to) reply) e
          filled (drawn_stays (word_count len - index) (omega (arith, v.word.more)) keeps reply fit) (λ f done any. tt),
    ) where
      drawn_stays : (n : ℕ) → 0 < n → trees.Keeps (IsDeviceAct false is_word_call port pages) (Any {A = ℕ}) (filling n len index to)
          → (reply : Reply) → Fits (Out DrawWord) reply
          → trees.Keeps (IsDeviceAct false is_word_call port pages) (Any {A = ℕ}) (led (filling n len index to) reply)
      drawn_stays zero some keeps reply fit = absurd (omega (arith, some))
      drawn_stays (suc n) some keeps reply fit = keeps.1 reply fit
serving_stays port pages k (stage.Write len index spill) is =
    let v = writes_of pages k len index spill is in
    let on = led_keeps (IsDeviceAct false is_word_call port pages) (Any {A = ℕ}) (writing len index spill.held spill.to) _
    (and_then_asked (put_all spill.held spill.to) (λ rest. filling_from len (suc index) rest) _ (put_asks spill.held spill.to v.some))
    (writing_stays port pages len index spill.held spill.to (λ few. v.inside)) in (
      on.0,
      λ e reply fit. performing_keeps (IsDeviceAct false is_word_call port pages) (Any {A = ℕ}) Any
          (led (writing len index spill.held spill.to) reply) e filled (on.1 reply fit) (λ f done any. tt),
    )

-- ---- what is kept behind an act

word_small : (len index word : ℕ) → All IsByte (word_bytes len index word)
word_small len index word = All-take IsByte (min 8 (len - before index)) (bytes_of 8 word) (all_bytes 8 word)

pub word_short : (len index word : ℕ) → length (word_bytes len index word) ≤ 8
word_short len index word = omega (arith, length-take (min 8 (len - before index)) (bytes_of 8 word))

module _ (sized : Bool) (pages : ℕ) where
  abbrev Fine : Entropy → Type 0
  Fine e = IsSizedData sized e

  abbrev sized_at : (s : Stage) → (sized ≡ true → IsSmallStage s) → SizedStage sized
  sized_at s small = record { stage = s; small = small }

  abbrev Serves : Which → Acting Entropy (Option ℕ) → Type 0
  Serves k t =
      Goes entropy (sized_hand sized) (is_sized_work sized) (IsSizedData sized) sized serving_of (work.Serve k) pages (IsLength sized) t

  abbrev Fills : Which → Doing ℕ → Entropy → Type 0
  Fills k t e = Serves k (performing t e filled)

  draw_on : (n : ℕ) (k : Which) (len index : ℕ) (to : List Part) (e : Entropy) → word_count len - index ≡ n → len ≤ 4096 → Fine e
      → AreInside pages to → length to ≤ 256 → Fills k (filling_from len index to) e
  draw_on zero k len index to e is most fine inside few =
      inr (record {
        own = e;
        result = Some len;
        fine = fine;
        is = λ yes. omega (arith, most);
        left = drawn len index to e (omega (arith, is));
      })
  draw_on (suc n) k len index to e is most fine inside few =
      let more : index < word_count len = omega (arith, is) in
      inl (record {
        own = e;
        stage = sized_at (stage.Draw len index to) (λ yes. tt);
        fine = fine;
        is =
            test_of_draws pages k len index to
            (record { word = record { most = most; more = more }; inside = inside; few = few });
        left = draws len index to e more;
      })

  write_on : (n : ℕ) (k : Which) (len index : ℕ) (held : List ℕ) (to : List Part) (e : Entropy) → share held to ≡ n → IsWord len index
      → length held ≤ 8 → Fine e → (sized ≡ true → All IsByte held) → AreInside pages to → length to ≤ 256
      → Fills k (writing len index held to) e
  write_on zero k len index held to e is word short fine small inside few =
      subst (Serves k) (sym (written len index (suc index) held to e (put_done held to (eq-eqb _ _ is)) (omega arith)))
      (draw_on (word_count len - suc index) k len (suc index) to e refl word.most fine inside few)
  write_on (suc n) k len index held to e is word short fine small inside few =
      let some : 0 < share held to = omega (arith, is) in
      inl (record {
        own = e;
        stage = sized_at (stage.Write len index (record { held = held; to = to })) small;
        fine = fine;
        is =
            test_of_writes pages k len index (record { held = held; to = to })
            (record { word = word; some = some; short = short; inside = inside; few = few });
        left = writes len index held to e some;
      })

  write_next : (k : Which) (len index : ℕ) (held : List ℕ) (to : List Part) (e : Entropy) (reply : Reply) → pages < 2 ^ 32 → Fine e
      → (sized ≡ true → All IsByte held) → Writes pages len index held to → Fills k (led (writing len index held to) reply) e
  write_next k len index held to e reply low fine small v =
      let n : ℕ = share held to in
      subst (λ (t : Doing ℕ). Fills k t e)
      (write_led len index held (drop n held) to (past n to) reply v.some (spill_on held (drop n held) to (past n to) n reply v.some refl refl refl))
      (write_on (share (drop n held) (past n to)) k len index (drop n held) (past n to) e refl v.word
      (omega (arith, length-drop n held, v.short)) fine (λ yes. All-drop IsByte n held (small yes))
      (past_inside pages n to low v.inside (omega arith)) (past_few n 256 to v.few))

  draw_next : (k : Which) (len index : ℕ) (to : List Part) (e : Entropy) (reply : Reply) → Fine e → Draws pages len index to
      → Fills k (led (filling_from len index to) reply) e
  draw_next k len index to e (Drawn word) fine v =
      subst (λ (t : Doing ℕ). Fills k t e) (sym (word_led len index to word v.word.more))
      (write_on (share (word_bytes len index word) to) k len index (word_bytes len index word) to e refl v.word
      (word_short len index word) fine (λ yes. word_small len index word) v.inside v.few)
  draw_next k len index to e reply fine v =
      inr (record {
        own = e;
        result = Some (before index);
        fine = fine;
        is = λ yes. let most = v.word.most in let more = v.word.more in omega (arith, most, more);
        left = fail_led len index to reply e v.word.more refl;
      })

  serving : (k : Which) (s : Stage) (e : Entropy) (reply : Reply) → pages < 2 ^ 32 → Fine e → (sized ≡ true → IsSmallStage s)
      → is_work (work.Serve k) pages s ≡ true → Serves k (own.serving_of s e reply)
  serving k stage.Rest e reply low fine small is = absurd (cc)
  serving k (stage.Draw len index to) e reply low fine small is =
      draw_next k len index to e reply fine (draws_of pages k len index to is)
  serving k (stage.Write len index spill) e reply low fine small is =
      write_next k len index spill.held spill.to e reply low fine small (writes_of pages k len index spill is)

  serve : (k : Which) (c : Chain) (e : Entropy) → Fine e → IsChain entropy pages k c → IsShortChain sized (Some c) → Serves k (served_by c e)
  serve k c e fine chain short =
      draw_on (word_count (filled_length c.parts) - 0) k (filled_length c.parts) 0 c.parts e refl (omega arith) fine chain.parts short.0

  -- ---- a chain is taken

  abbrev Takes : Which → Acting Entropy (Option Taken) → Type 0
  Takes k t =
      Goes entropy (sized_hand sized) (is_sized_work sized) (IsSizedData sized) sized taking_of (work.Take k) pages
      (IsShortTaken entropy sized pages k) t

  take_by : (test : Bool) (k : Which) (parts : List Part) (e : Entropy) → (total (readable parts) == 0) ≡ test → Fine e
      → AreInside pages parts → length parts ≤ 256 → Takes k (if test then Comes e (Some (kept_of parts)) else Comes e None)
  take_by true k parts e none fine inside few =
      inr (record {
        own = e;
        result = Some (kept_of parts);
        fine = fine;
        is = ((inside, tt, none), (few, omega arith, omega arith, λ yes. All-nil IsByte));
        left = refl;
      })
  take_by false k parts e none fine inside few =
      inr (record { own = e; result = None; fine = fine; is = (tt, tt); left = refl })

  -- ---- behind a need that passes

  passed : (e f : Entropy) (o : Option Buckets) → (sized ≡ true → IfSome o AreSmallLimits)
      → ◌≡◌ {A = Option Entropy} (option_map (λ (limits : Buckets). record { limits = limits }) o) (Some f) → Fine f
  passed e f None small is = absurd (cc)
  passed e f (Some limits) small is =
      let it : Entropy = record { limits = limits } in
      let same : it ≡ f = cc in
      subst (λ (d : Entropy). Fine d) same (λ yes. small yes)

  passes : (c : Chain) (now : ℕ) (e f : Entropy) → (sized ≡ true → now < 2 ^ 64) → Fine e → passes_by c now e ≡ Some f → Fine f
  passes c now e f early fine is =
      passed e f (gate_passes e.limits (filled_length c.parts) now)
      (λ yes. limits_pass e.limits (filled_length c.parts) now (omega arith) (early yes) (fine yes)) is

pub resumes_sized : (sized : Bool)
    → Resumes entropy (sized_hand sized) (is_sized_work sized) (IsSizedData sized) sized (setting unchanged) true is_word_call
resumes_sized sized = record {
  rest = record { stage = stage.Rest; small = λ yes. tt };
  rests = λ pages. refl;
  answering_stays = λ port pages g is. absurd (no_answer pages g.stage is);
  taking_stays = λ port pages k g is. absurd (no_take pages k g.stage is);
  serving_stays = λ port pages k g is. serving_stays port pages k g.stage is;
  answer = λ pages before e reply small fine fit. inr (record { own = e; result = false; fine = fine; is = tt; left = refl });
  answering = λ pages g e reply small fine is fit. absurd (no_answer pages g.stage is);
  take = λ pages k parts e small fine inside few. take_by sized pages (total (readable parts) == 0) k parts e refl fine inside few;
  taking = λ pages k g e reply small fine is fit. absurd (no_take pages k g.stage is);
  serve = λ pages k c e small fine chain short. serve sized pages k c e fine chain short;
  serving = λ pages k g e reply small fine is fit.
      serving sized pages k g.stage e reply (omega (arith, small)) fine g.small is;
  begun = λ k e fine. fine;
  passes = λ pages k c now e f small early fine chain short is. passes sized pages c now e f early fine is;
  over = λ k e fine. fine;
  reset = λ e fine. fine;
  cut = λ c e op reply is. absurd (cc);
}

-- where replies needn't be small, by the stage alone
abbrev plain : Stage → SizedStage false
plain g = record { stage = g; small = never }

module _ {A : Type 0} (lead : Hand Entropy → Entropy → Reply → Acting Entropy A) (at : Work) (pages : ℕ) (Q : A → Type 0) where
  plainly : (t : Acting Entropy A) → Goes entropy (sized_hand false) (is_sized_work false) (IsSizedData false) false lead at pages Q t
      → Goes entropy hand_of is_work AnyEntropy false lead at pages Q t
  plainly t (inl g) = inl (record { own = g.own; stage = g.stage.stage; fine = tt; is = g.is; left = g.left })
  plainly t (inr h) = inr (record { own = h.own; result = h.result; fine = tt; is = h.is; left = h.left })

pub resumes : Resumes entropy hand_of is_work AnyEntropy false (setting unchanged) true is_word_call
resumes =
    let sized = resumes_sized false in
    record {
      rest = stage.Rest;
      rests = λ pages. refl;
      answering_stays = λ port pages g is. absurd (no_answer pages g is);
      taking_stays = λ port pages k g is. absurd (no_take pages k g is);
      serving_stays = serving_stays;
      answer = λ pages before e reply small fine fit.
          plainly answering_of work.Answer pages Any _ (sized.answer pages before e reply small never fit);
      answering = λ pages g e reply small fine is fit. absurd (no_answer pages g is);
      take = λ pages k parts e small fine inside few.
          plainly taking_of (work.Take k) pages (IsShortTaken entropy false pages k) _ (sized.take pages k parts e small never inside few);
      taking = λ pages k g e reply small fine is fit. absurd (no_take pages k g is);
      serve = λ pages k c e small fine chain short.
          plainly serving_of (work.Serve k) pages (IsLength false) _ (sized.serve pages k c e small never chain short);
      serving = λ pages k g e reply small fine is fit.
          plainly serving_of (work.Serve k) pages (IsLength false) _ (sized.serving pages k (plain g) e reply small never is fit);
      begun = λ k e fine. tt;
      passes = λ pages k c now e f small early fine chain short is. tt;
      over = λ k e fine. tt;
      reset = λ e fine. tt;
      cut = λ c e op reply is. never;
    }
