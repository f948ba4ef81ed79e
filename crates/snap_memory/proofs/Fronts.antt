-- When bytes begin with a header.
use Rattle.std.proofs.Common.{◌≡◌, ℕ, ◌+◌, ◌*◌, Bool, true, false, List, [], ◌∷◌, ◌++◌, length, get_or, ltb, Some}
use Rattle.std.proofs.Common.{Err, refl, ap, ◌∙◌, arith, length-append}
use Rattle.std.specs.List.{flat_map}
use Rattle.std.proofs.lemmas.Bool.{le-ltb}
use Rattle.std.proofs.lemmas.List.{length-replicate}
use Rattle.file_format.specs.Format.{IsBytes}
use Rattle.file_format.specs.Kinds.{byte, number32, number64, zeros, fixed, times}
use Rattle.file_format.specs.Identities.{identity}
use Rattle.file_format.specs.Reading.{Takes}
use Rattle.file_format.specs.Starts.{is_closed, is_other}
use Rattle.file_format.specs.declared.error.ReadError.{ReadError}
use Rattle.file_format.specs.declared.error.ReadError.TheVariants.{Bad, Memory}
use Rattle.snap_memory.specs.declared.slot.Slot.{Slot}
use Rattle.snap_memory.specs.declared.header.MemHeader.{MemHeader}
use Rattle.snap_memory.specs.Slots.{slot}
use Rattle.snap_memory.specs.Headers.{magic, header, behind_gate, is_valid, Begins, Found}

begun_reads : (given : List ℕ) (h : MemHeader) (b : Begins given h) → header.reads given ≡ Some (h, b.pages)
begun_reads given h b = ap header.reads b.bytes ∙ header.again h b.pages b.fits

-- a read that was given up
pub stuck : (e : ReadError) (given left : List ℕ) → Takes header given left (Err e) → Found given (Err e)
stuck Bad given left e = λ h b. let f = begun_reads given h b in absurd cc
stuck Memory given left e = tt

pub not_valid : (given : List ℕ) (h : MemHeader) (rest : List ℕ) (b : Bool) → header.reads given ≡ Some (h, rest)
    → b ≡ is_valid h → b ≡ false → (g : MemHeader) → ¬ (Begins given g)
not_valid given h rest b e b-is falls g begins =
    let f = begun_reads given g begins in
    let same : (h, rest) ≡ (g, begins.pages) = cc in
    let one : is_valid h ≡ is_valid g = ap (λ (p : MemHeader × List ℕ). is_valid p.0) same in
    let fails : is_valid g ≡ false = cc in
    let passes : is_valid g ≡ true = begins.valid in
    absurd cc

pub begun : (given : List ℕ) (h : MemHeader) (rest : List ℕ) (b : Bool) → IsBytes given
    → header.reads given ≡ Some (h, rest) → b ≡ is_valid h → b ≡ true → Begins given h
begun given h rest b is e b-is holds =
    let takes = header.only given h rest is e in
    let passes : is_valid h ≡ true = cc in
    record { fits = takes.0; valid = passes; pages = rest; bytes = takes.1 }

-- what was written behind an open gate is the header
gated : (h : MemHeader) → behind_gate.Fits h → header.Fits h
unfolding header behind_gate fixed
gated h fits = (refl, fits)

pub written_is : (h : MemHeader) (behind : List ℕ) → behind ≡ behind_gate.puts h [] → 1 ∷ behind ≡ header.bytes h
unfolding header behind_gate fixed
written_is h behind written = ap (λ (bs : List ℕ). 1 ∷ bs) (written ∙ behind_gate.same h [])

-- a file begins with it, whatever follows it
pub encoded : (h : MemHeader) (behind : List ℕ) → behind_gate.Fits h → is_valid h ≡ true → behind ≡ behind_gate.puts h []
    → (pages : List ℕ) → Begins (1 ∷ behind ++ pages) h
encoded h behind fits valid written pages = record {
  fits = gated h fits;
  valid = valid;
  pages = pages;
  bytes = ap (λ (bs : List ℕ). bs ++ pages) (written_is h behind written);
}

-- ---- the length

length-zeros : (n : ℕ) → length ((zeros n).bytes tt) ≡ n
unfolding zeros
length-zeros n = length-replicate n 0

pub length-slot : (s : Slot) → length (slot.bytes s) ≡ 32
unfolding slot identity number64 byte
length-slot s = omega (arith, length-zeros 15)

pub length-slots : (vs : List Slot) → length (flat_map slot.bytes vs) ≡ 32 * length vs
length-slots [] = refl
length-slots (v ∷ vs) = omega (arith, length-append (slot.bytes v) (flat_map slot.bytes vs), length-slot v, length-slots vs)

length-times : (vs : List Slot) → (times 100 slot).Fits vs → length ((times 100 slot).bytes vs) ≡ 3200
unfolding times
length-times vs fits = omega (arith, length-slots vs, fits.0)

length-joined : (a b c : List ℕ) → length (a ++ (b ++ c)) ≡ length a + (length b + length c)
length-joined a b c = omega (arith, length-append a (b ++ c), length-append b c)

pub length-header : (h : MemHeader) → header.Fits h → length (header.bytes h) ≡ 4096
unfolding header identity number32 number64 byte fixed
length-header h fits =
    let joined = length-joined ((zeros 31).bytes tt) ((times 100 slot).bytes h.slots) ((zeros 832).bytes tt) in
    omega (arith, joined, length-zeros 31, length-zeros 832, length-times h.slots fits.1.1.1.1.1.1.0)

pub length-encoded : (h : MemHeader) (behind : List ℕ) → behind_gate.Fits h → behind ≡ behind_gate.puts h [] → length behind ≡ 4095
length-encoded h behind fits written =
    omega (arith, ap length (written_is h behind written), length-header h (gated h fits))

-- ---- one header

pub one : (given : List ℕ) (g h : MemHeader) → Begins given g → Begins given h → g ≡ h
one given g h b c =
    let first = begun_reads given g b in
    let second = begun_reads given h c in
    let same : (g, b.pages) ≡ (h, c.pages) = cc in
    ap (λ (p : MemHeader × List ℕ). p.0) same

-- the header begins with the gate and the magic
front : (h : MemHeader) → (rest : List ℕ) × (header.bytes h ≡ 1 ∷ magic ++ rest)
unfolding header fixed
front h = (_, refl)

pub opened : (given : List ℕ) (h : MemHeader) → Begins given h → is_closed 4096 given ≡ false
opened given h b =
    let f = front h in
    let size : length given ≡ 4096 + length b.pages = omega (arith, ap length b.bytes, length-header h b.fits, length-append (header.bytes h) b.pages) in
    let long : ltb (length given) 4096 ≡ false = le-ltb _ _ (omega arith) in
    let first : get_or given 0 0 ≡ 1 = ap (λ (bs : List ℕ). get_or bs 0 0) (b.bytes ∙ ap (λ (bs : List ℕ). bs ++ b.pages) f.1) in
    rw (long, first) refl

pub known : (given : List ℕ) (h : MemHeader) → Begins given h → is_other magic given ≡ false
known given h b = let f = front h in ap (is_other magic) (b.bytes ∙ ap (λ (bs : List ℕ). bs ++ b.pages) f.1)
