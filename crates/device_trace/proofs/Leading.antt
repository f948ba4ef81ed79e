-- What is kept by each act that may come is kept wherever the items of a trace lead.
use Rattle.std.proofs.Common.{◌≡◌, refl, subst, List, [], ◌∷◌, Option, Some, None}
use Rattle.vm_types.specs.declared.op.Op.{Op}
use Rattle.vm_types.specs.declared.reply.Reply.{Reply}
use Rattle.vm_types.specs.Fits.{Fits}
use Rattle.device_trace.specs.Keeps.{Opens, Stays}
use Rattle.device_trace.specs.Script.{Script, Ends, Asks}
use Rattle.device_trace.specs.States.{wants, stepped, changed_at, Leads}
use Rattle.device_trace.specs.Traces.{Changing, Item, Did, Changed, Rules, root_op, root_next, cut_by, setting}

-- changes that set data alone leave no act out
pub no_cut : {D C : Type 0} (changed : C → D → D) (c : C) (d : D) (op : Op) (reply : Reply)
    → (setting changed).cut c d op ≡ Some reply → Fits op reply
no_cut changed c d op reply is = cc

-- The data between two groups meet R, a change keeps that, and S says what it leaves inside one; what it leaves out is
-- answered as it may be. By the data between two groups the act that begins the next one meets O, and each act inside one P.
module _ {D C : Type 0} (begins : D → Script D) (changing : Changing D C) (O : D → Op → Type 0) (P : Op → Type 0)
    (R : D → Type 0) (S : D → D → Type 0) (same : (d : D) → S d d) (again : (d e f : D) → S d e → S e f → S d f)
    (waits : (d : D) → O d Op.Idle) (opens : (d : D) → R d → Opens (O d) P R S (begins d))
    (still : (c : C) (d : D) → R d → R (changing.between c d)) (leaves : (c : C) (d : D) → S d (changing.inside c d))
    (fit : (c : C) (d : D) (op : Op) (reply : Reply) → changing.cut c d op ≡ Some reply → Fits op reply) where
  abbrev rules : Rules D C
  rules = record { begins = begins; changing = changing }

  root_keeps : (d : D) (t : Script D) → Opens (O d) P R S t → O d (root_op t)
  root_keeps d (Ends e) keeps = waits d
  root_keeps d (Asks e op on) keeps = keeps.0

  root_on : (O : Op → Type 0) (t : Script D) (reply : Reply) → Opens O P R S t → Fits (root_op t) reply
      → Stays P R S (root_next t reply)
  root_on O (Ends d) reply keeps fits = keeps
  root_on O (Asks d op on) reply keeps fits = keeps.1 d reply (same d) fits

  pub wants_between : (d : D) → R d → O d (wants rules (Ends d))
  wants_between d stays = root_keeps d (begins d) (opens d stays)

  pub step_keeps : (t : Script D) (reply : Reply) → Stays P R S t → Fits (wants rules t) reply
      → Stays P R S (stepped rules t reply)
  step_keeps (Ends d) reply stays fits = root_on (O d) (begins d) reply (opens d stays) fits
  step_keeps (Asks d op on) reply stays fits = stays.1 d reply (same d) fits

  cut_keeps : (c : C) (d : D) (op : Op) (on : D → Reply → Script D) (cut : Option Reply)
      → changing.cut c d op ≡ cut → Stays P R S (Asks d op on) → Stays P R S (cut_by cut (changing.inside c d) op on)
  cut_keeps c d op on None is stays =
      (stays.0, λ e reply left fits. stays.1 e reply (again d (changing.inside c d) e (leaves c d) left) fits)
  cut_keeps c d op on (Some reply) is stays = stays.1 (changing.inside c d) reply (leaves c d) (fit c d op reply is)

  -- a change goes on by a branch of what is there
  pub change_keeps : (t : Script D) (c : C) → Stays P R S t → Stays P R S (changed_at rules c t)
  change_keeps (Ends d) c stays = still c d stays
  change_keeps (Asks d op on) c stays = cut_keeps c d op on (changing.cut c d op) refl stays

  pub leads_keep : (t : Script D) (items : List (Item C)) (left : Script D) → Stays P R S t
      → Leads rules t items left → Stays P R S left
  leads_keep t [] left stays leads = subst (λ (x : Script D). Stays P R S x) leads stays
  leads_keep t (Did s ∷ items) left stays leads =
      leads_keep (stepped rules t s.reply) items left
      (step_keeps t s.reply stays (subst (λ op. Fits op s.reply) leads.0 leads.1)) leads.2
  leads_keep t (Changed c ∷ items) left stays leads =
      leads_keep (changed_at rules c t) items left (change_keeps t c stays) leads
