-- What a device has still to do, as an actor's state, and where the items of a trace lead.
use Rattle.std.specs.Prelude.{◌≡◌, List, [], ◌∷◌, Bool, if◌then◌else◌, false}
use Rattle.std.proofs.Common.{ap}
use Rattle.vm_types.specs.declared.op.Op.{Op}
use Rattle.vm_types.specs.declared.reply.Reply.{Reply}
use Rattle.vm_types.specs.Fits.{fits, Fits}
use Rattle.device_trace.specs.Script.{Script, Ends, Asks}
use Rattle.device_trace.specs.Traces.{Rules, Item, Did, Changed, root_op, root_next, changed_in}

module _ {D C : Type 0} (rules : Rules D C) where
  abbrev pub wants : Script D → Op
  wants (Ends d) = root_op (rules.begins d)
  wants (Asks d op on) = op

  abbrev pub stepped : Script D → Reply → Script D
  stepped (Ends d) reply = root_next (rules.begins d) reply
  stepped (Asks d op on) reply = on d reply

  -- a reply that doesn't fit leaves the device
  abbrev pub next : Script D → Reply → Script D
  next t reply = if fits (wants t) reply then stepped t reply else t

  pub leaves : (t : Script D) (reply : Reply) → fits (wants t) reply ≡ false → next t reply ≡ t
  leaves t reply unfit = ap (λ (fit : Bool). if fit then stepped t reply else t) unfit

  -- a change from outside
  abbrev pub changed_at : C → Script D → Script D
  changed_at c (Ends d) = Ends (rules.changing.between c d)
  changed_at c (Asks d op on) = changed_in rules.changing c d op on

  abbrev pub Leads : Script D → List (Item C) → Script D → Type 0
  Leads t [] u = t ≡ u
  Leads t (Did s ∷ items) u = (s.op ≡ wants t) × Fits s.op s.reply × Leads (stepped t s.reply) items u
  Leads t (Changed c ∷ items) u = Leads (changed_at c t) items u

  -- the items lead from the data at the start to what is then still to be done
  abbrev pub LeadsTo : D → List (Item C) → Script D → Type 0
  LeadsTo start items u = Leads (Ends start) items u
