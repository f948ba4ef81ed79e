-- After each round of a run's script its creates are a chain, and the files hold what they wrote.
use Rattle.std.proofs.Common.{◌≡◌, ◌≢◌, ◌≤◌, ◌<◌, ◌+◌, ◌*◌, ◌^◌, ◌∙◌, ℕ, zero, suc, false, true, refl, sym, ap, subst, List, [], ◌∷◌, ◌++◌, length, length-append, append_assoc, map, codes, Option, Some, inl, arith}
use Rattle.std.specs.Fmt.{decimal}
use Rattle.std.specs.FinMap.{get}
use Rattle.vm_types.specs.Saved.{Saved}
use Rattle.vm_types.specs.declared.identity.Identity.{Identity}
use Rattle.vm_types.specs.declared.ids.ActorId.TheVariants.{Hart}
use Rattle.http_stream.specs.Conversation.{new_connection}
use Rattle.http_stream.proofs.CutLemmas.{judged_once}
use Rattle.script_text.specs.declared.item.Item.{Item}
use Rattle.script_text.specs.declared.item.Item.TheVariants as item
use Rattle.api_calls.specs.declared.call.ApiCall.{ApiCall}
use Rattle.api_calls.specs.declared.call.ApiCall.TheVariants as call
use Rattle.api_calls.specs.declared.call.SnapshotCreate.{SnapshotCreate}
use Rattle.api_calls.specs.declared.call.SnapshotType.TheVariants as snapshot
use Rattle.api_calls.specs.declared.call.VmState.TheVariants.{Paused, Resumed}
use Rattle.load_gen.specs.Load.{create_diff, pause, resume, round, rounds, steps_by, turned}
use Rattle.flat_machine.specs.Machine.{Machine}
use Rattle.flat_machine.specs.Run.{Act, Run}
use Rattle.snapshot_chain.specs.Chains.{Follows, IsLeft, Saving, identity_of, memory_text, state_text}
use Rattle.restored_chain.specs.Restored.{AnsweredLead, IsAnswered}
use Rattle.run_chain.specs.Asked.{Asks, diff_body, pause_body, resume_body}
use Rattle.run_chain.proofs.Acts.{Does, DoesOne, IsLed, does_first, does_front, does_none, one_led}
use Rattle.run_chain.proofs.Asking.{pauses, resumes}
use Rattle.run_chain.proofs.Heard.{Heard, one_request}
use Rattle.run_chain.proofs.Lines.{IsOn, diff_decided, pauses_on, resumes_guest, resumes_on, steps_on}
use Rattle.run_chain.proofs.Numbered.{diffs}
use Rattle.run_chain.proofs.Savings.{IsMade, leads_on, made_create, on_after, other_letter, other_round, others_stay}

-- ---- lines

pub heard_of : (method path body : List ℕ) (c : ApiCall) (m n : Machine) → Asks method path body c → m.connection ≡ new_connection
    → DoesOne (item.Api method path body) m n → Heard c m n
heard_of method path body c m n asks empty does =
    one_request judged_once method path body c asks m n does.outcomes does.text empty does.answered does.step

-- ---- what the files hold

abbrev memory_name : ℕ → List ℕ
memory_name i = codes "d" ++ decimal i

abbrev state_name : ℕ → List ℕ
state_name i = codes "s" ++ decimal i

-- the diffs of the first so many rounds
abbrev pub texts_in : ℕ → Saved → List (Option (List ℕ))
texts_in zero saved = []
texts_in (suc before) saved = texts_in before saved ++ get saved (memory_name (before + 1)) ∷ []

-- a round leaves those of the rounds before
texts_stay : (count i : ℕ) (old new : Saved) → count < i → i < 2 ^ 64
    → ((name : List ℕ) → name ≢ memory_name i → name ≢ state_name i → get new name ≡ get old name)
    → texts_in count new ≡ texts_in count old
texts_stay zero i old new below small others = refl
texts_stay (suc before) i old new below small others =
    let differ : before + 1 ≢ i = λ same. absurd (omega (arith, below, same)) in
    let own = others (memory_name (before + 1)) (other_round 100 (before + 1) i (omega (arith, below, small)) small differ)
    (other_letter 100 115 (decimal (before + 1)) (decimal i) (λ same. absurd (omega (arith, same)))) in
    ap (λ (l : List (Option (List ℕ))). l ++ get new (memory_name (before + 1)) ∷ [])
    (texts_stay before i old new (omega (arith, below)) small others)
    ∙ ap (λ (o : Option (List ℕ)). texts_in before old ++ o ∷ []) own

-- ---- after so many rounds

pub record AfterRounds (count : ℕ) (m : Machine) : Type 0 where
  pub first : Saving
  pub savings : List Saving
  pub last : Saving
  pub full : IsAnswered snapshot.Full first
  pub leads : AnsweredLead first savings last
  pub many : length savings ≡ count
  pub led : IsLed m
  pub on : IsOn false (count + 2) (Some (identity_of last)) last.after.saved m
  pub guest_is : m.guest ≡ last.after.guest
  pub start : Machine
  pub left : IsLeft last start
  pub acts : List Act
  pub text : List ℕ
  pub ran : Run acts start text m
  pub base_there : get m.saved (codes "m0") ≡ memory_text first
  pub diffs_there : texts_in count m.saved ≡ map (λ s. memory_text s) savings
  pub state_there : get m.saved (state_name count) ≡ state_text last

run_append : (acts others : List Act) (a b c : Machine) (text more : List ℕ) → Run acts a text b → Run others b more c
    → Run (acts ++ others) a (text ++ more) c
run_append [] others a b c text more ran then =
    subst (λ (q : Machine). Run others q (text ++ more) c) (sym ran.1)
    (subst (λ (l : List ℕ). Run others b (l ++ more) c) (sym ran.0) then)
run_append (act ∷ acts) others a b c text more (first, mid, rest, step, ran, is) then = (
  first,
  mid,
  rest ++ more,
  step,
  run_append acts others mid b c rest more ran then,
  ap (λ (l : List ℕ). l ++ more) is ∙ append_assoc first rest more,
)

map_append : (xs ys : List Saving) → map (λ (s : Saving). memory_text s) (xs ++ ys) ≡ map (λ (s : Saving). memory_text s) xs ++ map (λ (s : Saving). memory_text s) ys
map_append [] ys = refl
map_append (x ∷ xs) ys = ap (λ (l : List (Option (List ℕ))). memory_text x ∷ l) (map_append xs ys)

-- ---- one more

module _ (number done : ℕ) (few : done + 1 ≤ 64) (m n : Machine) (was : AfterRounds done m) (does : Does (round number done) m n) where
  abbrev i : ℕ
  i = done + 1

  abbrev steps : List Item
  steps = item.Step (Hart 0) (steps_by (turned number (2 * done + 1))) ∷ item.Step (Hart 1) (steps_by (turned number (2 * done + 2))) ∷ pause ∷ []

  abbrev base : Option Identity
  base = Some (identity_of was.last)

  abbrev saved : Saved
  saved = was.last.after.saved

  -- the lines before the create, and behind
  parts : (mid : Machine) × Does steps m mid × Does (create_diff i ∷ resume ∷ []) mid n
  parts = does_front steps (create_diff i ∷ resume ∷ []) m n does

  abbrev stands : Machine
  stands = parts.0

  abbrev it : SnapshotCreate
  it = record {
    files = record { snapshot_path = state_name i; mem_file_path = memory_name i };
    snapshot_type = snapshot.Diff;
  }

  before : IsOn true (done + 2) base saved stands × IsLed stands
  before =
      let one = does_first _ _ m stands parts.1 in
      let two = does_first _ _ one.0 stands one.2 in
      let three = does_first pause [] two.0 stands two.2 in
      let on_one = steps_on (done + 2) base saved m one.0 _ _ one.1.text was.on one.1.step.1 in
      let on_two = steps_on (done + 2) base saved one.0 two.0 _ _ two.1.text on_one two.1.step.1 in
      let heard = heard_of (codes "PATCH") (codes "/vm") pause_body (call.PatchVm Paused) two.0 three.0 pauses on_two.empty three.1 in
      let same = does_none three.0 stands three.2 in
      subst (λ (q : Machine). IsOn true (done + 2) base saved q × IsLed q) same (
        pauses_on (done + 2) base saved two.0 three.0 on_two heard,
        one_led pause two.0 three.0 three.1 (one_led _ one.0 two.0 two.1 (one_led _ m one.0 one.1 was.led)),
      )

  -- the machine behind the create, and the one that runs again
  created : (mid : Machine) × DoesOne (create_diff i) stands mid × Does (resume ∷ []) mid n
  created = does_first (create_diff i) (resume ∷ []) stands n parts.2

  made : IsMade it stands created.0
  made =
      let heard = heard_of (codes "PUT") (codes "/snapshot/create") (diff_body i) (call.CreateSnapshot it) stands created.0
      (diffs i (omega arith) few) before.0.empty created.1 in
      made_create it (done + 2) base saved stands created.0 before.1 created.1.on before.0 heard
      (diff_decided stands it (done + 2) saved (omega (arith, few)) (identity_of was.last) before.0 refl)

  abbrev s : Saving
  s = made.saving

  found : IsOn true (done + 2) base saved s.before
  found = subst (λ (q : Machine). IsOn true (done + 2) base saved q) (sym made.before_is) before.0

  after : IsOn true (done + 2 + 1) (Some (identity_of s)) s.after.saved created.0
  after =
      subst (λ (q : Machine). IsOn true (done + 2 + 1) (Some (identity_of s)) s.after.saved q) (sym made.leaves)
      (on_after snapshot.Diff s made.is (done + 2) base saved found)

  last_line : DoesOne resume created.0 n
  last_line =
      let one = does_first resume [] created.0 n created.2 in
      subst (λ (q : Machine). DoesOne resume created.0 q) (does_none one.0 n one.2) one.1

  resumed : Heard (call.PatchVm Resumed) created.0 n
  resumed = heard_of (codes "PATCH") (codes "/vm") resume_body (call.PatchVm Resumed) created.0 n resumes after.empty last_line

  on_now : IsOn false (done + 2 + 1) (Some (identity_of s)) s.after.saved n
  on_now = resumes_on (done + 2 + 1) (Some (identity_of s)) s.after.saved created.0 n after resumed

  -- ---- what the files hold

  stays : (name : List ℕ) → name ≢ memory_name i → name ≢ state_name i → get s.after.saved name ≡ get saved name
  stays name one two =
      others_stay snapshot.Diff s made.is name (λ same. one (same ∙ ap (λ (a : SnapshotCreate). a.files.mem_file_path) made.asked_is))
      (λ same. two (same ∙ ap (λ (a : SnapshotCreate). a.files.snapshot_path) made.asked_is))
      ∙ ap (λ (f : Saved). get f name) found.saved_is

  of_old : (name : List ℕ) → name ≢ memory_name i → name ≢ state_name i → get n.saved name ≡ get m.saved name
  of_old name one two =
      ap (λ (f : Saved). get f name) on_now.saved_is ∙ stays name one two ∙ sym (ap (λ (f : Saved). get f name) was.on.saved_is)

  memory_now : get n.saved (memory_name i) ≡ memory_text s
  memory_now =
      ap (λ (f : Saved). get f (memory_name i)) on_now.saved_is
      ∙ ap (λ (a : SnapshotCreate). get s.after.saved a.files.mem_file_path) (sym made.asked_is)

  state_now : get n.saved (state_name i) ≡ state_text s
  state_now =
      ap (λ (f : Saved). get f (state_name i)) on_now.saved_is
      ∙ ap (λ (a : SnapshotCreate). get s.after.saved a.files.snapshot_path) (sym made.asked_is)

  texts_now : texts_in (suc done) n.saved ≡ map (λ (x : Saving). memory_text x) (was.savings ++ s ∷ [])
  texts_now =
      ap (λ (l : List (Option (List ℕ))). l ++ get n.saved (memory_name i) ∷ [])
      (texts_stay done i m.saved n.saved (omega arith) (omega (arith, few)) of_old ∙ was.diffs_there)
      ∙ ap (λ (o : Option (List ℕ)). map (λ (x : Saving). memory_text x) was.savings ++ o ∷ []) memory_now
      ∙ sym (map_append was.savings (s ∷ []))

  follows : Follows was.last s
  follows = record {
    start = was.start;
    from = inl was.left;
    acts = was.acts ++ parts.1.acts;
    text = was.text ++ parts.1.text;
    between = stands;
    ran = run_append was.acts parts.1.acts was.start m stands was.text parts.1.text was.ran parts.1.ran;
    inside = inl made.before_is;
    base = found.base_is;
  }

  pub next_round : AfterRounds (suc done) n
  next_round =
      let count : i ≡ suc done = omega arith in
      let numbers : done + 2 + 1 ≡ suc done + 2 = omega arith in
      let none_base : codes "m0" ≢ memory_name i = other_letter 109 100 (codes "0") (decimal i) (λ same. absurd (omega (arith, same))) in
      let none_state : codes "m0" ≢ state_name i = other_letter 109 115 (codes "0") (decimal i) (λ same. absurd (omega (arith, same))) in
      record {
        first = was.first;
        savings = was.savings ++ s ∷ [];
        last = s;
        full = was.full;
        leads = leads_on was.first was.savings was.last s was.leads made.answered follows;
        many = length-append was.savings (s ∷ []) ∙ ap (λ (k : ℕ). k + 1) was.many ∙ count;
        led = one_led resume created.0 n last_line (one_led (create_diff i) stands created.0 created.1 before.1);
        on = subst (λ (k : ℕ). IsOn false k (Some (identity_of s)) s.after.saved n) numbers on_now;
        guest_is =
            resumes_guest (done + 2 + 1) (Some (identity_of s)) s.after.saved created.0 n after resumed
            ∙ ap (λ (q : Machine). q.guest) made.leaves;
        start = created.0;
        left = (s.after.connection, made.leaves);
        acts = created.2.acts;
        text = created.2.text;
        ran = created.2.ran;
        base_there = of_old (codes "m0") none_base none_state ∙ was.base_there;
        diffs_there = texts_now;
        state_there = ap (λ (k : ℕ). get n.saved (state_name k)) (sym count) ∙ state_now;
      }

-- ---- so many more

pub all_rounds : (number count : ℕ) → count ≤ 64 → (m n : Machine) → AfterRounds 0 m → Does (rounds number count) m n → AfterRounds count n
all_rounds number zero few m n was does = subst (λ (q : Machine). AfterRounds 0 q) (does_none m n does) was
all_rounds number (suc before) few m n was does =
    let parts = does_front (rounds number before) (round number before) m n does in
    next_round number before (omega (arith, few)) parts.0 n
    (all_rounds number before (omega (arith, few)) m parts.0 was parts.1) parts.2
