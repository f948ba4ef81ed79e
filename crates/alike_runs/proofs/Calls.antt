-- The calls of creates that are alike have one shape.
use Rattle.std.proofs.Common.{◌≡◌, ℕ, suc, ◌+◌, refl, sym, ap, ◌∙◌, List, [], ◌∷◌, ◌++◌, length, map, take, zero, Some, arith, length-append}
use Rattle.vm_outside.specs.Calls.{FileCall}
use Rattle.vm_outside.specs.Calls.FileCall.{Synced}
use Rattle.gate_file.specs.Gate.{fill_calls, open_calls, write_calls}
use Rattle.snap_writer.specs.Blocks.{writes_at}
use Rattle.snap_writer.specs.Create.{create_calls, memory_calls, state_calls}
use Rattle.alike_runs.specs.Files.{AlikeCalls, Shape, shape_of}
use Rattle.alike_runs.specs.Files.Shape.{IsMade, IsMaking, IsSynced, IsWriting}

pub shapes_append : (a c : List FileCall) → map shape_of (a ++ c) ≡ map shape_of a ++ map shape_of c
shapes_append [] c = refl
shapes_append (call ∷ a) c = ap (λ (l : List Shape). shape_of call ∷ l) (shapes_append a c)

pub calls_both : (a b c d : List FileCall) → AlikeCalls a b → AlikeCalls c d → AlikeCalls (a ++ c) (b ++ d)
calls_both a b c d first second =
    shapes_append a c ∙ (λ i. first i ++ second i) ∙ sym (shapes_append b d)

shapes_many : (a : List FileCall) → length (map shape_of a) ≡ length a
shapes_many [] = refl
shapes_many (call ∷ a) = ap suc (shapes_many a)

pub calls_many : (a b : List FileCall) → AlikeCalls a b → length a ≡ length b
calls_many a b alike = sym (shapes_many a) ∙ ap length alike ∙ shapes_many b

-- a front of the one has the shape of the front of the other
pub shapes_take : (n : ℕ) (a : List FileCall) → map shape_of (take n a) ≡ take n (map shape_of a)
shapes_take zero [] = refl
shapes_take zero (call ∷ a) = refl
shapes_take (suc n) [] = refl
shapes_take (suc n) (call ∷ a) = ap (λ (l : List Shape). shape_of call ∷ l) (shapes_take n a)

pub calls_front : (n : ℕ) (a b : List FileCall) → AlikeCalls a b → AlikeCalls (take n a) (take n b)
calls_front n a b alike = shapes_take n a ∙ ap (take n) alike ∙ sym (shapes_take n b)

-- ---- a create

module _ (name head other rest more : List ℕ) (writes others : List (ℕ × List ℕ)) (same : length head ≡ length other)
    (also : writes ≡ others) (long : length rest ≡ length more) where
  behind : AlikeCalls (write_calls name writes ++ Synced name (Some (0 ∷ rest)) ∷ [])
      (write_calls name others ++ Synced name (Some (0 ∷ more)) ∷ [])
  behind =
      calls_both (write_calls name writes) (write_calls name others) (Synced name (Some (0 ∷ rest)) ∷ [])
      (Synced name (Some (0 ∷ more)) ∷ []) (ap (λ (l : List (ℕ × List ℕ)). map shape_of (write_calls name l)) also)
      (ap (λ (n : ℕ). IsSynced name (Some (suc n)) ∷ []) long)

  fill_alike : AlikeCalls (fill_calls name ((1, head) ∷ writes) rest) (fill_calls name ((1, other) ∷ others) more)
  fill_alike =
      λ i. IsMaking name ∷ IsMade name ∷ IsWriting name 0 1 ∷ IsSynced name (Some 1) ∷ IsWriting name 1 (same i) ∷ behind i

open_alike : (name rest more : List ℕ) → length rest ≡ length more → AlikeCalls (open_calls name rest) (open_calls name more)
open_alike name rest more long = ap (λ (n : ℕ). IsWriting name 0 1 ∷ IsSynced name (Some (suc n)) ∷ []) long

-- of heads and bodies that are as long, and the same pages
pub create_alike : (memory head other bytes state body more : List ℕ) → length head ≡ length other → length body ≡ length more
    → AlikeCalls (create_calls memory head bytes state body) (create_calls memory other bytes state more)
unfolding create_calls
create_alike memory head other bytes state body more heads bodies =
    let long : length (head ++ bytes) ≡ length (other ++ bytes) =
    omega (arith, length-append head bytes, length-append other bytes, heads) in
    calls_both (memory_calls memory head bytes) (memory_calls memory other bytes)
    (state_calls state body ++ (open_calls memory (head ++ bytes) ++ open_calls state body))
    (state_calls state more ++ (open_calls memory (other ++ bytes) ++ open_calls state more))
    (fill_alike memory head other (head ++ bytes) (other ++ bytes) (writes_at (1 + length head) bytes) (writes_at (1 + length other) bytes) heads
    (ap (λ (n : ℕ). writes_at (1 + n) bytes) heads) long)
    (calls_both (state_calls state body) (state_calls state more) (open_calls memory (head ++ bytes) ++ open_calls state body)
    (open_calls memory (other ++ bytes) ++ open_calls state more) (fill_alike state body more body more [] [] bodies refl bodies)
    (calls_both (open_calls memory (head ++ bytes)) (open_calls memory (other ++ bytes)) (open_calls state body) (open_calls state more)
    (open_alike memory (head ++ bytes) (other ++ bytes) long) (open_alike state body more bodies)))
