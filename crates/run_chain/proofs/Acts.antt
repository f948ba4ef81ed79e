-- A run over acts whose lines are known, line by line.
use Rattle.std.proofs.Common.{◌≡◌, ℕ, false, refl, ap, subst, List, [], ◌∷◌, ◌++◌, map, Option, Some, inl}
use Rattle.vm_types.specs.Saved.{Saved}
use Rattle.vm_outside.specs.Calls.{FileCall}
use Rattle.script_text.specs.declared.item.Item.{Item}
use Rattle.flat_machine.specs.Items.{ItemStep}
use Rattle.flat_machine.specs.Machine.{Machine, is_off, new_machine}
use Rattle.flat_machine.specs.Outcome.{AreAnswered, Outcome}
use Rattle.flat_machine.specs.Ready.{Ready}
use Rattle.flat_machine.specs.Run.{Act, AllAnswered, OnBefore, Run, lines_done}
use Rattle.flat_machine.proofs.Pushed.{run_push}
use Rattle.flat_machine.proofs.Ready.{new_ready, run_ready}
use Rattle.restored_chain.specs.Restored.{IsLedTo}

-- all of these lines, which the machine answered
abbrev pub lines_of : List Item → List (Option Item)
lines_of items = map (λ it. Some it) items

-- the guest is on before each act of a run
abbrev pub Ons : (acts : List Act) (m n : Machine) (text : List ℕ) → Run acts m text n → Type 0
Ons [] m n text ran = Unit {0}
Ons (act ∷ acts) m n text ran = (is_off m ≡ false) × Ons acts ran.1 n ran.2 ran.4

pub ons_of : (acts : List Act) (m n : Machine) (text : List ℕ) (ran : Run acts m text n) → OnBefore acts m → Ons acts m n text ran
ons_of [] m n text ran before = tt
ons_of (act ∷ acts) m n text ran before = (before.0, ons_of acts ran.1 n ran.2 ran.4 (before.1 ran.0 ran.1 ran.3))

-- the acts do these lines, each request of them was answered by the machine, and the guest is on before each
pub record Does (items : List Item) (m n : Machine) : Type 0 where
  pub acts : List Act
  pub text : List ℕ
  pub lines : lines_done acts ≡ lines_of items
  pub ran : Run acts m text n
  pub answered : AllAnswered acts
  pub on : Ons acts m n text ran

-- one line of them
pub record DoesOne (it : Item) (m n : Machine) : Type 0 where
  pub outcomes : List Outcome
  pub text : List ℕ
  pub step : ItemStep it outcomes m text n
  pub answered : AreAnswered outcomes
  pub on : is_off m ≡ false

abbrev head_or : Option Item → List (Option Item) → Option Item
head_or other [] = other
head_or other (x ∷ xs) = x

abbrev behind : List (Option Item) → List (Option Item)
behind [] = []
behind (x ∷ xs) = xs

same_item : (a b : Item) → ◌≡◌ {A = Option Item} (Some a) (Some b) → a ≡ b
same_item a b is = cc

-- none is left
pub does_none : (m n : Machine) → Does [] m n → m ≡ n
does_none m n does = by_acts does.acts does.text does.lines does.ran
  where
    by_acts : (acts : List Act) (text : List ℕ) → lines_done acts ≡ lines_of [] → Run acts m text n → m ≡ n
    by_acts [] text lines ran = ran.1
    by_acts (act ∷ acts) text lines ran = absurd cc

-- the first of them, and the others
pub does_first : (it : Item) (items : List Item) (m n : Machine) → Does (it ∷ items) m n
    → (mid : Machine) × DoesOne it m mid × Does items mid n
does_first it items m n does = by_acts does.acts does.text does.lines does.ran does.answered does.on
  where
    by_acts : (acts : List Act) (text : List ℕ) → lines_done acts ≡ lines_of (it ∷ items) → (ran : Run acts m text n) → AllAnswered acts
        → Ons acts m n text ran → (mid : Machine) × DoesOne it m mid × Does items mid n
    by_acts [] text lines ran answered on = absurd cc
    by_acts (act ∷ acts) text lines (first, mid, rest, step, more, is) answered on =
        let own : act.item ≡ it = same_item act.item it (ap (head_or (Some it)) lines) in (
          mid,
          record {
            outcomes = act.outcomes;
            text = first;
            step = subst (λ (x : Item). ItemStep x act.outcomes m first mid) own step;
            answered = answered.0;
            on = on.0;
          },
          record { acts = acts; text = rest; lines = ap behind lines; ran = more; answered = answered.1; on = on.1 },
        )

-- the first so many, and the others
pub does_front : (front items : List Item) (m n : Machine) → Does (front ++ items) m n
    → (mid : Machine) × Does front m mid × Does items mid n
does_front [] items m n does =
    (m, record { acts = []; text = []; lines = refl; ran = (refl, refl); answered = tt; on = tt }, does)
does_front (it ∷ front) items m n does =
    let one = does_first it (front ++ items) m n does in
    let rest = does_front front items one.0 n one.2 in (
      rest.0,
      record {
        acts = record { item = it; outcomes = one.1.outcomes } ∷ rest.1.acts;
        text = one.1.text ++ rest.1.text;
        lines = ap (λ (l : List (Option Item)). Some it ∷ l) rest.1.lines;
        ran = (one.1.text, one.0, rest.1.text, one.1.step, rest.1.ran, refl);
        answered = (one.1.answered, rest.1.answered);
        on = (one.1.on, rest.1.on);
      },
      rest.2,
    )

-- ---- where a run leads

-- to this machine from one that had not started
abbrev pub IsLed : Machine → Type 0
IsLed m =
    (id : List ℕ) × (saved : Saved) × (calls : List FileCall) × (acts : List Act) × (text : List ℕ) × Run acts (new_machine id saved calls) text m

pub new_led : (id : List ℕ) (saved : Saved) (calls : List FileCall) → IsLed (new_machine id saved calls)
new_led id saved calls = (id, saved, calls, [], [], (refl, refl))

pub one_led : (it : Item) (m n : Machine) → DoesOne it m n → IsLed m → IsLed n
one_led it m n does (id, saved, calls, acts, text, ran) =
    let act : Act = record { item = it; outcomes = does.outcomes } in (
      id,
      saved,
      calls,
      acts ++ act ∷ [],
      text ++ does.text,
      run_push acts act (new_machine id saved calls) m n text does.text ran does.step,
    )

pub led_ready : (m : Machine) → IsLed m → Ready m
led_ready m (id, saved, calls, acts, text, ran) = run_ready acts (new_machine id saved calls) m text (new_ready id saved calls) ran

pub led_to : (m : Machine) → IsLed m → IsLedTo m
led_to m (id, saved, calls, acts, text, ran) = (id, saved, calls, acts, inl (text, ran))
