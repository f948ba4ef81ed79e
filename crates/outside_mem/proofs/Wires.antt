-- A wire is changed among those of a list.
use Rattle.std.proofs.Common.{◌≡◌, ◌≢◌, ◌<◌, ℕ, List, map, length, set, get_or, sym, ◌∙◌, ap, subst, arith, Result, Ok, Err, OnOk, OnErr, Option, Some, None, MatchOption}
use Rattle.std.proofs.lemmas.List.{map-set, get_or-map, get_or-set_same, get_or-set_other, set-get_or, length-map}
use Rattle.vm_host.specs.Devices.{ChangesAt}
use Rattle.vm_host.specs.Framing.{Wire, Takes, TakesFrame}
use Rattle.outside_mem.specs.Devices.{no_wire, wire_in, wire_of}
use Rattle.outside_mem.specs.declared.memory_wire.MemoryWire.{MemoryWire}

-- the wire that is there
wire_there : (ws : List MemoryWire) (i : ℕ) (w : MemoryWire) → i < length ws → w ≡ get_or ws i w → wire_in ws i ≡ wire_of w
wire_there ws i w within is = get_or-map wire_of ws i w no_wire within ∙ ap wire_of (sym is)

wires_set : (ws : List MemoryWire) (i : ℕ) (w : MemoryWire) → map wire_of (set ws i w) ≡ set (map wire_of ws) i (wire_of w)
wires_set ws i w = map-set wire_of ws i w

wire_set : (ws : List MemoryWire) (i : ℕ) (w : MemoryWire) → i < length ws → wire_in (set ws i w) i ≡ wire_of w
wire_set ws i w within =
    ap (λ (l : List Wire). get_or l i no_wire) (wires_set ws i w)
    ∙ get_or-set_same (map wire_of ws) i (wire_of w) no_wire (omega (arith, within, length-map ws wire_of))

wire_other : (ws : List MemoryWire) (i : ℕ) (w : MemoryWire) (j : ℕ) → j ≢ i → wire_in (set ws i w) j ≡ wire_in ws j
wire_other ws i w j other =
    ap (λ (l : List Wire). get_or l j no_wire) (wires_set ws i w) ∙ get_or-set_other (map wire_of ws) i j (wire_of w) no_wire other

pub wires_change : (ws : List MemoryWire) (i : ℕ) (w v : MemoryWire) (Change : Wire → Wire → Type 0) → i < length ws → w ≡ get_or ws i w
    → Change (wire_of w) (wire_of v) → ChangesAt (wire_in ws) i (wire_in (set ws i v)) Change
wires_change ws i w v Change within is changed = record {
  here = subst (λ (a : Wire). Change a (wire_in (set ws i v) i)) (sym (wire_there ws i w within is))
      (subst (λ (b : Wire). Change (wire_of w) b) (sym (wire_set ws i v within)) changed);
  others = wire_other ws i v;
}

pub wires_stay : (ws : List MemoryWire) (i : ℕ) (w v : MemoryWire) → i < length ws → w ≡ get_or ws i w
    → wire_of v ≡ wire_of w → wire_in (set ws i v) ≡ wire_in ws
wires_stay ws i w v within is same =
    ap (λ (l : List Wire). λ (k : ℕ). get_or l k no_wire)
    (wires_set ws i v ∙ ap (λ (a : Wire). set (map wire_of ws) i a) (same ∙ sym (wire_there ws i w within is))
    ∙ set-get_or (map wire_of ws) i no_wire)

pub wires_take : (ws : List MemoryWire) (i : ℕ) (w v : MemoryWire) (taken : Option ℕ) → i < length ws → w ≡ get_or ws i w
    → MatchOption taken (wire_of v ≡ wire_of w) (λ count. TakesFrame count (wire_of w) (wire_of v))
    → Takes (wire_in ws) i (wire_in (set ws i v)) taken
wires_take ws i w v None within is same = wires_stay ws i w v within is same
wires_take ws i w v (Some count) within is takes = wires_change ws i w v (TakesFrame count) within is takes

-- what holds of a call holds of the call around it
pub on_ok : {T E P Q : Type 0} (result : Result T E) → (P → Q) → OnOk result P → OnOk result Q
on_ok (Ok value) f holds = f holds
on_ok (Err error) f holds = tt

pub on_err : {T E P Q : Type 0} (result : Result T E) → (P → Q) → OnErr result P → OnErr result Q
on_err (Ok value) f holds = tt
on_err (Err error) f holds = f holds
