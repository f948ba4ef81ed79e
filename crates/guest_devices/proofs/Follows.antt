-- Where a device's items lead, and what it wants there.
use Rattle.std.proofs.Common.{◌≡◌, refl, sym, ap, subst, ◌∙◌, Bool, if◌then◌else◌, Option, Some, None, List, [], ◌∷◌, ◌++◌}
use Rattle.vm_types.specs.declared.op.Op.{Op}
use Rattle.vm_types.specs.declared.entry.Step.{Step}
use Rattle.vm_types.specs.Fits.{Fits}
use Rattle.device_trace.specs.Script.{Script, Ends}
use Rattle.device_trace.specs.Traces.{Item, Did, Changed, Continues}
use Rattle.device_trace.specs.States.{wants, next, stepped, changed_at, Leads, LeadsTo}
use Rattle.device_trace.proofs.Laws.{leads_one, leads_append}
use Rattle.device_trace.proofs.Traces.{continued, only, wanted}
use Rattle.guest_devices.specs.declared.change.DeviceChange.{DeviceChange}
use Rattle.guest_devices.specs.Devices.{DataOf, DeviceLeads, DeviceLeft, DeviceWants, FlatDevice, device_at, device_changed, device_did}
use Rattle.guest_devices.specs.Devices.{device_next, device_reset, device_rules, device_told, device_wants, left_of, left_reset, left_told}
use Rattle.guest_devices.specs.Devices.{told_of}
use Rattle.guest_devices.specs.Kinds.{ChangeOf, Kind, change_for, reset_for}

pub at_start : (left : DeviceLeft) → DeviceLeads (device_at left) left
at_start left = (left.left, refl, refl)

pub one_left : (d : FlatDevice) (left other : DeviceLeft) → DeviceLeads d left → DeviceLeads d other → left ≡ other
one_left d left other l m =
    l.2 ∙ ap (left_of d.kind) (leads_one (device_rules d.kind) d.start d.items l.0 m.0 l.1 m.1) ∙ sym m.2

-- what is left wants what is wanted where the items lead
wants_there : (d : FlatDevice) (left : DeviceLeft) (l : DeviceLeads d left) → device_wants left ≡ wants (device_rules d.kind) l.0
wants_there d left l = ap device_wants l.2

pub wants_only : (d : FlatDevice) (left : DeviceLeft) (op : Op) → DeviceLeads d left → DeviceWants d op
    → op ≡ device_wants left
wants_only d left op l w = only (device_rules d.kind) d.start d.items l.0 op l.1 w ∙ sym (wants_there d left l)

-- a device wants the act of what is left where its items lead
pub left_wants : (d : FlatDevice) (left : DeviceLeft) (op : Op) → DeviceLeads d left → op ≡ device_wants left
    → DeviceWants d op
left_wants d left op l is =
    subst (λ (o : Op). Continues (device_rules d.kind) d.start d.items o) (sym (is ∙ wants_there d left l))
    (continued (device_rules d.kind) d.start d.items l.0 l.1)

pub wants_left : (d : FlatDevice) (op : Op) → DeviceWants d op
    → (left : DeviceLeft) × DeviceLeads d left × (op ≡ device_wants left)
wants_left d op w =
    let q = wanted (device_rules d.kind) d.start d.items op w in (left_of d.kind q.0, (q.0, q.1, refl), q.2)

-- a fitting reply leads on
fit_leads : (k : Kind) (t : Script (DataOf k)) (s : Step) → s.op ≡ wants (device_rules k) t → Fits s.op s.reply
    → Leads (device_rules k) t (Did s ∷ []) (next (device_rules k) t s.reply)
fit_leads k t s is fit =
    let here : Fits (wants (device_rules k) t) s.reply = subst (λ (op : Op). Fits op s.reply) is fit in
    (is, fit, ap (λ (b : Bool). if b then stepped (device_rules k) t s.reply else t) (sym here))

pub did_leads : (d : FlatDevice) (left : DeviceLeft) (s : Step) → DeviceLeads d left → s.op ≡ device_wants left
    → Fits s.op s.reply → DeviceLeads (device_did d s) (device_next left s.reply)
did_leads d left s l is fit =
    subst (λ (x : DeviceLeft). DeviceLeads (device_did d s) (device_next x s.reply)) (sym l.2) (
      next (device_rules d.kind) l.0 s.reply,
      leads_append (device_rules d.kind) d.start d.items l.0 (Did s ∷ []) _ l.1
          (fit_leads d.kind l.0 s (is ∙ wants_there d left l) fit),
      refl,
    )

-- and a change of the device's own kind, if there is one
of_leads : (d : FlatDevice) (t : Script (DataOf d.kind)) (c : Option (ChangeOf d.kind)) → Leads (device_rules d.kind) d.start d.items t
    → DeviceLeads (told_of d c) (left_told (left_of d.kind t) c)
of_leads d t None l = (t, l, refl)
of_leads d t (Some c) l = (
  changed_at (device_rules d.kind) c t,
  leads_append (device_rules d.kind) d.start d.items t (Changed c ∷ []) (changed_at (device_rules d.kind) c t) l refl,
  refl,
)

pub told_leads : (d : FlatDevice) (left : DeviceLeft) (c : DeviceChange) → DeviceLeads d left
    → DeviceLeads (device_told d c) (device_changed c left)
told_leads d left c l =
    subst (λ (x : DeviceLeft). DeviceLeads (device_told d c) (device_changed c x)) (sym l.2)
    (of_leads d l.0 (change_for c d.kind) l.1)

pub reset_leads : (d : FlatDevice) (left : DeviceLeft) → DeviceLeads d left → DeviceLeads (device_reset d) (left_reset left)
reset_leads d left l =
    subst (λ (x : DeviceLeft). DeviceLeads (device_reset d) (left_reset x)) (sym l.2) (of_leads d l.0 (reset_for d.kind) l.1)

module _ (k : Kind) where
  -- what is behind the items that lead to a place leads on from there
  leads_behind : (t : Script (DataOf k)) (before items : List (Item (ChangeOf k))) (start u : Script (DataOf k))
      → Leads (device_rules k) t before start → Leads (device_rules k) t (before ++ items) u → Leads (device_rules k) start items u
  leads_behind t [] items start u l m = subst (λ (x : Script (DataOf k)). Leads (device_rules k) x items u) l m
  leads_behind t (Did s ∷ before) items start u l m =
      leads_behind (stepped (device_rules k) t s.reply) before items start u l.2 m.2
  leads_behind t (Changed c ∷ before) items start u l m =
      leads_behind (changed_at (device_rules k) c t) before items start u l m

  -- a device that begins where a trace led continues that trace
  module _ (first : DataOf k) (before items : List (Item (ChangeOf k))) (start : Script (DataOf k)) (op : Op)
      (begun : LeadsTo (device_rules k) first before start) where
    pub wants_continues : Continues (device_rules k) start items op → Continues (device_rules k) (Ends first) (before ++ items) op
    wants_continues w =
        let q = wanted (device_rules k) start items op w in
        subst (λ (o : Op). Continues (device_rules k) (Ends first) (before ++ items) o) (sym q.2)
        (continued (device_rules k) (Ends first) (before ++ items) q.0
        (leads_append (device_rules k) (Ends first) before start items q.0 begun q.1))

    pub continues_wanted : Continues (device_rules k) (Ends first) (before ++ items) op → Continues (device_rules k) start items op
    continues_wanted c =
        let q = wanted (device_rules k) (Ends first) (before ++ items) op c in
        subst (λ (o : Op). Continues (device_rules k) start items o) (sym q.2)
        (continued (device_rules k) start items q.0 (leads_behind (Ends first) before items start q.0 begun q.1))
