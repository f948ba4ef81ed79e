-- Which kind a file is of, by its gate and its byte 5.
use Rattle.std.proofs.Common.{◌≡◌, ◌≢◌, ◌<◌, ℕ, List, ◌∷◌, ◌++◌, get_or, Some, inl, inr, refl, sym, ◌∙◌, ap, arith}
use Rattle.std.proofs.lemmas.List.{get_or_past}
use Rattle.file_format.specs.Kinds.{fixed}
use Rattle.gate_file.specs.Moments.{IsShut}
use Rattle.snap_memory.specs.declared.header.MemHeader.{MemHeader}
use Rattle.snap_memory.specs.Headers as memory
use Rattle.snap_diff.specs.Copies.{DiffCopy, MemoryCopy}
use Rattle.snap_diff.specs.Diffs.{IsDiffFile}
use Rattle.snap_diff.proofs.Files.{begins}
use Rattle.snap_diff.proofs.Fronts.{starts}
use Rattle.snap_state.specs.declared.file.Saved.{Saved}
use Rattle.snap_state.specs.Files as state
use Rattle.snapshot_merge.specs.Memories.{Holds}
use Rattle.create_lists.specs.Listed.{AgreesText, Create}

pub record IsKind (kind : ℕ) (text : List ℕ) : Type 0 where
  pub gate : get_or text 0 0 ≡ 1
  pub mark : get_or text 5 0 ≡ kind

memory_opens : (h : MemHeader) → (rest : List ℕ) × (memory.header.bytes h ≡ 1 ∷ memory.magic ++ rest)
unfolding memory.header fixed
memory_opens h = (_, refl)

pub memory_kind : (text : List ℕ) (h : MemHeader) (m : MemoryCopy) → Holds text h m → IsKind 77 text
memory_kind text h m holds =
    let is : text ≡ (1 ∷ memory.magic ++ (memory_opens h).0) ++ m.bytes = holds.bytes ∙ ap (λ (l : List ℕ). l ++ m.bytes) (memory_opens h).1 in
    record { gate = ap (λ (l : List ℕ). get_or l 0 0) is; mark = ap (λ (l : List ℕ). get_or l 5 0) is }

pub diff_kind : (text : List ℕ) (d : DiffCopy) → IsDiffFile text d → IsKind 68 text
diff_kind text d is_d =
    let f = starts text is_d.parts_of.header (begins text d is_d) in
    record { gate = ap (λ (l : List ℕ). get_or l 0 0) f.1; mark = ap (λ (l : List ℕ). get_or l 5 0) f.1 }

pub state_kind : (text : List ℕ) (s : Saved) → state.Encodes text s → IsKind 83 text
state_kind text s e = record { gate = ap (λ (l : List ℕ). get_or l 0 0) e.bytes; mark = ap (λ (l : List ℕ). get_or l 5 0) e.bytes }

pub two_kinds : (text : List ℕ) (a b : ℕ) → a ≢ b → IsKind a text → IsKind b text → ⊥
two_kinds text a b differ first second = differ (sym first.mark ∙ second.mark)

-- a file that is shut is of none
no_kind : (text : List ℕ) (kind : ℕ) → 0 < kind → IsShut 2 (Some text) → IsKind kind text → ⊥
no_kind text kind some (inl short) is =
    let past : get_or text 5 0 ≡ 0 = get_or_past text 5 0 (omega (arith, short)) in
    omega (arith, some, past, is.mark)
no_kind text kind some (inr gate) is = gate is.gate

pub shut_agrees : (creates : List Create) (text : List ℕ) → IsShut 2 (Some text) → AgreesText creates text
shut_agrees creates text shut = record {
  state = λ s e. absurd (no_kind text 83 (omega arith) shut (state_kind text s e));
  memory = λ m is. absurd (no_kind text 77 (omega arith) shut (memory_kind text is.head m is.holds));
  diff = λ d is. absurd (no_kind text 68 (omega arith) shut (diff_kind text d is));
  unfinished = λ head m holds begun. absurd (no_kind text 77 (omega arith) shut (memory_kind text head m holds));
}
