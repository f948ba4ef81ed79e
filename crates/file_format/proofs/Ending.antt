-- What ends a list, as it is written and read.
use Rattle.std.proofs.Common.{◌≡◌, ℕ, refl, sym, ap, ◌∙◌, Bool, true, false, if◌then◌else◌, List, [], ◌∷◌, ◌++◌, Option, Some, None}
use Rattle.std.specs.Option.{option_and_then}
use Rattle.std.proofs.lemmas.List.{append-nil}
use Rattle.file_format.specs.Ends.{EndFits, Lacking, end_at, end_bytes, there}
use Rattle.file_format.specs.Whole.{ended_at, whole_at}

module _ {B : Type 0} (last : Lacking B) where
  -- ---- written

  pub record Ended (b : B) (old new : List ℕ) : Type 0 where
    pub fits : EndFits last b
    pub bytes : new ≡ old ++ end_bytes last b

  pub ends_none : (b : B) (old new : List ℕ) → last.is_none b ≡ true → new ≡ old → Ended b old new
  ends_none b old new is same = record {
    fits = λ some. absurd (cc);
    bytes = same ∙ sym (append-nil old) ∙ ap (λ (t : Bool). old ++ (if t then [] else last.item.bytes b)) (sym is);
  }

  pub ends_some : (b : B) (old new : List ℕ) → last.is_none b ≡ false → last.item.Fits b → new ≡ last.item.puts b old
      → Ended b old new
  ends_some b old new is fits put = record {
    fits = λ some. fits;
    bytes = put ∙ last.item.same b old ∙ ap (λ (t : Bool). old ++ (if t then [] else last.item.bytes b)) (sym is);
  }

  -- ---- read

  pub end_none : (given : List ℕ) → given ≡ [] → end_at last given ≡ Some last.none
  end_none given is = ap (end_at last) is

  none_there : (given : List ℕ) → (given ≡ [] → ⊥) → whole_at last.item.reads given ≡ None → end_at last given ≡ None
  none_there [] some is = absurd (some refl)
  none_there (byte ∷ rest) some is = ap (option_and_then (there last)) is

  some_there : (given : List ℕ) (b : B) (o : Option B) → (given ≡ [] → ⊥) → whole_at last.item.reads given ≡ Some b
      → there last b ≡ o → end_at last given ≡ o
  some_there [] b o some is that = absurd (some refl)
  some_there (byte ∷ rest) b o some is that = ap (option_and_then (there last)) is ∙ that

  read_whole : (given : List ℕ) (b : B) (rest : List ℕ) (o : Option B) → last.item.reads given ≡ Some (b, rest)
      → ended_at b rest ≡ o → whole_at last.item.reads given ≡ o
  read_whole given b rest o read is =
      ap (option_and_then (λ (x : B × List ℕ). ended_at x.0 x.1)) read ∙ is

  pub end_bad : (given : List ℕ) → (given ≡ [] → ⊥) → last.item.reads given ≡ None → end_at last given ≡ None
  end_bad given some read =
      none_there given some (ap (option_and_then (λ (x : B × List ℕ). ended_at x.0 x.1)) read)

  more_left : (b : B) (rest : List ℕ) → (rest ≡ [] → ⊥) → ended_at b rest ≡ None
  more_left b [] left = absurd (left refl)
  more_left b (byte ∷ rest) left = refl

  pub end_long : (given : List ℕ) (b : B) (rest : List ℕ) → (given ≡ [] → ⊥) → last.item.reads given ≡ Some (b, rest)
      → (rest ≡ [] → ⊥) → end_at last given ≡ None
  end_long given b rest some read left = none_there given some (read_whole given b rest None read (more_left b rest left))

  all_read : (given : List ℕ) (b : B) (rest : List ℕ) → last.item.reads given ≡ Some (b, rest) → rest ≡ []
      → whole_at last.item.reads given ≡ Some b
  all_read given b rest read is = read_whole given b rest (Some b) read (ap (ended_at b) is)

  pub end_lacks : (given : List ℕ) (b : B) (rest : List ℕ) → (given ≡ [] → ⊥) → last.item.reads given ≡ Some (b, rest)
      → rest ≡ [] → last.is_none b ≡ true → end_at last given ≡ None
  end_lacks given b rest some read is none =
      some_there given b None some (all_read given b rest read is) (ap (λ (t : Bool). if t then None else Some b) none)

  pub end_some : (given : List ℕ) (b : B) (rest : List ℕ) → (given ≡ [] → ⊥) → last.item.reads given ≡ Some (b, rest)
      → rest ≡ [] → last.is_none b ≡ false → end_at last given ≡ Some b
  end_some given b rest some read is has =
      some_there given b (Some b) some (all_read given b rest read is) (ap (λ (t : Bool). if t then None else Some b) has)
