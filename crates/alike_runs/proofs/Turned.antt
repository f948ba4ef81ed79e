-- To be alike has no order: the second machine is alike with the first, with the twins the other way round.
use Rattle.std.proofs.Common.{◌≡◌, ◌<◌, ℕ, refl, sym, ap, subst, List, [], ◌∷◌, ◌++◌, map, Option, Some, None, inl, inr}
use Rattle.std.specs.FinMap.{get}
use Rattle.vm_types.specs.declared.identity.Identity.{Identity}
use Rattle.flat_machine.specs.Machine.{Machine}
use Rattle.alike_runs.specs.Alike.{Alike}
use Rattle.alike_runs.specs.Files.{AlikeBytes, AlikeFile, AreFiles}
use Rattle.alike_runs.specs.Files.AreFiles.{StateFiles, MemoryFiles, DiffFiles}
use Rattle.alike_runs.specs.Twins.{AlikeBase, AreTwins, IsAmong, IsTwin, Twins}
use Rattle.alike_runs.proofs.Guests.{turned_alike}

abbrev pub turned : Twins → Twins
turned t = record { first = t.second; second = t.first }

abbrev pub all_turned : List Twins → List Twins
all_turned twins = map turned twins

turned_numbers : (next later : ℕ) (twins : List Twins) → next ≡ later → AreTwins next twins → AreTwins later (all_turned twins)
turned_numbers next later [] same are = tt
turned_numbers next later (t ∷ twins) same (below, number, are) = (
  subst (λ (k : ℕ). t.second.number < k) same (subst (λ (k : ℕ). k < next) (sym number) below),
  sym number,
  turned_numbers t.first.number t.second.number twins (sym number) are,
)

turned_among : (twins : List Twins) (t : Twins) → IsAmong t twins → IsAmong (turned t) (all_turned twins)
turned_among [] t among = absurd among
turned_among (other ∷ twins) t (inl same) = inl (ap turned same)
turned_among (other ∷ twins) t (inr among) = inr (turned_among twins t among)

module _ (twins : List Twins) where
  turned_twin : (i j : Identity) → IsTwin twins i j → IsTwin (all_turned twins) j i
  turned_twin i j (inl same) = inl (sym same)
  turned_twin i j (inr among) = inr (turned_among twins (record { first = i; second = j }) among)

  turned_files : (t : Twins) (a b : List ℕ) → AreFiles twins t a b → AreFiles (all_turned twins) (turned t) b a
  turned_files t a b (StateFiles copy first second) = StateFiles copy second first
  turned_files t a b (MemoryFiles pages bytes first second) = MemoryFiles pages bytes second first
  turned_files t a b (DiffFiles i j d twin first second) = DiffFiles j i d (turned_twin i j twin) second first

  turned_bytes : (a b : List ℕ) → AlikeBytes twins a b → AlikeBytes (all_turned twins) b a
  turned_bytes a b (inl same) = inl (sym same)
  turned_bytes a b (inr (t, among, files)) = inr (turned t, turned_among twins t among, turned_files t a b files)

  turned_file : (a b : Option (List ℕ)) → AlikeFile twins a b → AlikeFile (all_turned twins) b a
  turned_file None None alike = tt
  turned_file None (Some b) alike = absurd alike
  turned_file (Some a) None alike = absurd alike
  turned_file (Some a) (Some b) alike = turned_bytes a b alike

  turned_base : (a b : Option Identity) → AlikeBase twins a b → AlikeBase (all_turned twins) b a
  turned_base None None alike = tt
  turned_base None (Some b) alike = absurd alike
  turned_base (Some a) None alike = absurd alike
  turned_base (Some a) (Some b) alike = turned_twin a b alike

  pub turned_machine : (m n : Machine) → Alike twins m n → Alike (all_turned twins) n m
  turned_machine m n alike = record {
    twins_are = turned_numbers m.ids.next n.ids.next twins alike.next alike.twins_are;
    id = sym alike.id;
    lineages = (alike.lineages.1, alike.lineages.0);
    next = sym alike.next;
    base = turned_base m.ids.base n.ids.base alike.base;
    config = sym alike.config;
    metadata = sym alike.metadata;
    connection = sym alike.connection;
    saved = λ name. turned_file (get m.saved name) (get n.saved name) (alike.saved name);
    calls = sym alike.calls;
    g = alike.h;
    h = alike.g;
    first = alike.second;
    second = alike.first;
    guests = turned_alike alike.g alike.h alike.guests;
    paused = sym alike.paused;
  }

-- turned again they are as they were, with as many more before them
pub turned_again : (front twins : List Twins) → all_turned (front ++ all_turned twins) ≡ all_turned front ++ twins
turned_again [] [] = refl
turned_again [] (t ∷ twins) = ap (λ (l : List Twins). t ∷ l) (turned_again [] twins)
turned_again (t ∷ front) twins = ap (λ (l : List Twins). turned t ∷ l) (turned_again front twins)
