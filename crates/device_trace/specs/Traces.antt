-- A device's trace: groups of acts, each leading from the data before it to those after it.
use Rattle.std.specs.Prelude.{◌≡◌, Option, Some, None, List, [], ◌∷◌, ◌++◌}
use Rattle.vm_types.specs.declared.op.Op.{Op}
use Rattle.vm_types.specs.declared.reply.Reply.{Reply}
use Rattle.vm_types.specs.declared.entry.Step.{Step}
use Rattle.vm_types.specs.Fits.{Fits}
use Rattle.device_trace.specs.Script.{Script, Ends, Asks}

-- What a change from outside makes of a device: of its data between two groups, of its data inside one, and whether the
-- act that is wanted inside one is left out, as if it had been answered so. No change makes acts of its own.
pub record Changing (D C : Type 0) : Type 0 where
  pub between : C → D → D
  pub inside : C → D → D
  pub cut : C → D → Op → Option Reply

-- a kind of device: the group that its data begin, and what changes from outside make of it
pub record Rules (D C : Type 0) : Type 0 where
  pub begins : D → Script D
  pub changing : Changing D C

-- a change that sets data alone: inside a group what is wanted stays wanted, and what follows it is made of the changed data
abbrev pub setting : {D C : Type 0} → (C → D → D) → Changing D C
setting changed = record { between = changed; inside = changed; cut = λ c d op. None }

-- a kind of device whose groups begin so, and whose changes set data alone
abbrev pub rules_of : {D C : Type 0} → (D → Script D) → (C → D → D) → Rules D C
rules_of begins changed = record { begins = begins; changing = setting changed }

-- an act that a change may leave out
abbrev pub cut_by : {D : Type 0} → Option Reply → D → Op → (D → Reply → Script D) → Script D
cut_by None d op on = Asks d op on
cut_by (Some reply) d op on = on d reply

-- what a change makes of what is still to be done inside a group
abbrev pub changed_in : {D C : Type 0} → Changing D C → C → D → Op → (D → Reply → Script D) → Script D
changed_in changing c d op on = cut_by (changing.cut c d op) (changing.inside c d) op on

-- the act that begins a group; one that begins with no act would wait
abbrev pub root_op : {D : Type 0} → Script D → Op
root_op (Ends d) = Op.Idle
root_op (Asks d op on) = op

abbrev pub root_next : {D : Type 0} → Script D → Reply → Script D
root_next (Ends d) reply = Ends d
root_next (Asks d op on) reply = on d reply

-- what stands in a trace: an act with its reply, or a change from outside, which is no act
pub data Item (C : Type 0) : Type 0 where
  Did : Step → Item C
  Changed : C → Item C

module _ {D C : Type 0} (rules : Rules D C) where
  -- the acts of what is begun, up to its end, with changes between them
  abbrev pub Completes : Script D → List (Item C) → D → Type 0
  Completes (Ends d) [] after = d ≡ after
  Completes (Ends d) (item ∷ items) after = ⊥
  Completes (Asks d op on) [] after = ⊥
  Completes (Asks d op on) (Did s ∷ items) after = (s.op ≡ op) × Fits op s.reply
      × Completes (on d s.reply) items after
  Completes (Asks d op on) (Changed c ∷ items) after = Completes (changed_in rules.changing c d op on) items after

  -- a group: its first act and what its reply leads to, or a change between two such groups
  abbrev pub Group : D → List (Item C) → D → Type 0
  Group d [] after = ⊥
  Group d (Did s ∷ items) after =
      (s.op ≡ root_op (rules.begins d)) × Fits s.op s.reply
      × Completes (root_next (rules.begins d) s.reply) items after
  Group d (Changed c ∷ []) after = rules.changing.between c d ≡ after
  Group d (Changed c ∷ (item ∷ items)) after = ⊥

  -- whole groups, each from the data that the one before it left
  abbrev pub Lead : D → List (List (Item C)) → D → Type 0
  Lead d [] end = d ≡ end
  Lead d (group ∷ groups) end = (after : D) × Group d group after × Lead after groups end

abbrev pub joined : {C : Type 0} → List (List (Item C)) → List (Item C)
joined [] = []
joined (group ∷ groups) = group ++ joined groups

module _ {D C : Type 0} (rules : Rules D C) where
  -- a device's trace, from what is still to be done at its start: what is begun is completed, and whole groups follow
  abbrev pub Trace : Script D → List (Item C) → D → Type 0
  Trace start items end =
      (first : List (Item C)) × (groups : List (List (Item C))) × (after : D)
      × Completes rules start first after × Lead rules after groups end × (first ++ joined groups ≡ items)

  -- the items go on to a trace
  abbrev pub IsPrefix : Script D → List (Item C) → Type 0
  IsPrefix start items = (more : List (Item C)) × (end : D) × Trace start (items ++ more) end

  -- the op continues the items to a trace, with some reply and some items behind it
  abbrev pub Continues : Script D → List (Item C) → Op → Type 0
  Continues start items op =
      (reply : Reply) × (more : List (Item C)) × (end : D)
      × Trace start (items ++ Did (record { op = op; reply = reply }) ∷ more) end
