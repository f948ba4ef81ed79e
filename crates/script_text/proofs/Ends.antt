-- Where the first line ends, and lines that are too long.
use Rattle.std.proofs.Common.{◌≡◌, ℕ, suc, ◌+◌, ◌-◌, ◌<◌, ◌≤◌, min, List, [], ◌∷◌, ◌++◌, length, get_or, take, drop, map, Option, None, Some, inl, inr, refl, sym, ◌∙◌, ap, subst, arith, append-nil, append_assoc, length-append, length-drop}
use Rattle.std.proofs.lemmas.Bool.{cases_lt, lt-leb}
use Rattle.std.proofs.lemmas.List.{get_or_append_left, get_or-take, length-take, take-append-drop, take-take, take_all}
use Rattle.script_text.specs.declared.item.Item.{Item}
use Rattle.script_words.specs.Ends.{LacksEnd, StopsAt}
use Rattle.script_text.specs.Items.{item_of, longest}
use Rattle.script_text.specs.Lines.{judged}
use Rattle.script_words.specs.Lines.{lines_of}
use Rattle.script_text.specs.Reader.{Gives, IsFirst, IsNext, Shortens, Takes}
use Rattle.script_text.specs.declared.line_reader.Next.{Next}
use Rattle.script_text.specs.declared.line_reader.Next.TheVariants as next
use Rattle.script_words.proofs.Ends.{Free, first_end, lines_under, no_end, under}

pub judged_first : (text more : List ℕ) (i : ℕ) → i < length text → get_or text i 0 ≡ 10 → LacksEnd text i
    → judged (text ++ more) ≡ item_of (take i text) ∷ judged (drop (i + 1) text ++ more)
judged_first text more i lt is before =
    let next : suc i ≡ i + 1 = omega arith in
    ap (map item_of) (first_end text more i lt is before) ∙ ap (λ (j : ℕ). item_of (take i text) ∷ judged (drop j text ++ more)) next

pub none_judged : (text : List ℕ) → Free text → judged text ≡ []
none_judged text none = ap (map item_of) (no_end text none)

-- ---- a line that is too long

too_long : (line : List ℕ) → longest < length line → item_of line ≡ None
too_long line long = rw (lt-leb (length line) longest long) refl

alike : (front other : List ℕ) (lines : List (List ℕ)) → longest < length front → longest < length other
    → map item_of (under front lines) ≡ map item_of (under other lines)
alike front other [] long also = refl
alike front other (line ∷ lines) long also =
    let first : item_of (front ++ line) ≡ None = too_long (front ++ line) (rw (length-append front line) (omega (arith, long))) in
    let second : item_of (other ++ line) ≡ None = too_long (other ++ line) (rw (length-append other line) (omega (arith, also))) in
    ap (λ (o : Option Item). o ∷ map item_of lines) (first ∙ sym second)

judged_alike : (front other more : List ℕ) → Free front → Free other → longest < length front → longest < length other
    → judged (front ++ more) ≡ judged (other ++ more)
judged_alike front other more free clear long also =
    ap (map item_of) (lines_under front more free)
    ∙ (alike front other (lines_of more) long also ∙ sym (ap (map item_of) (lines_under other more clear)))

free_take : (text : List ℕ) (n : ℕ) → LacksEnd text n → Free (take n text)
free_take text n lacks k lt is =
    let long : length (take n text) ≡ min n (length text) = length-take n text in
    let same : get_or (take n text) k 0 ≡ get_or text k 0 = get_or-take n text k 0 (omega (arith, lt, long)) in
    lacks k (omega (arith, lt, long)) (sym same ∙ is)

-- the first line, kept to one byte over the longest, is judged as it was
kept_alike : (front more : List ℕ) → Free front → judged (take (longest + 1) front ++ more) ≡ judged (front ++ more)
kept_alike front more free = elim (cases_lt (longest + 1) (length front)) [
  | inl long ↦
      let size : length (take (longest + 1) front) ≡ min (longest + 1) (length front) = length-take (longest + 1) front in
      judged_alike (take (longest + 1) front) front more (free_take front (longest + 1) (λ k lt. free k (omega (arith, lt, long)))) free
      (omega (arith, size, long)) (omega (arith, long))
  | inr short ↦ ap (λ (xs : List ℕ). judged (xs ++ more)) (take_all (longest + 1) front short)
]

pub shortened : (old new : List ℕ) (count : ℕ) → Shortens old new count → (more : List ℕ) → judged (new ++ more) ≡ judged (old ++ more)
shortened old new count is more =
    let front : List ℕ = take is.end old in
    let back : List ℕ = drop is.end old in
    let whole : front ++ back ≡ old = take-append-drop is.end old in
    ap (λ (xs : List ℕ). judged (xs ++ more)) is.kept
    ∙ (ap judged (append_assoc (take (longest + 1) front) back more)
    ∙ (kept_alike front (back ++ more) (free_take old is.end is.stops.lacks)
    ∙ (ap judged (sym (append_assoc front back more)) ∙ ap (λ (xs : List ℕ). judged (xs ++ more)) whole)))

pub shortened_length : (old new : List ℕ) (count : ℕ) (is : Shortens old new count) → length new + is.end ≡ count + length old
shortened_length old new count is =
    let front : List ℕ = take is.end old in
    let a : length new ≡ length (take (longest + 1) front) + length (drop is.end old) = ap length is.kept ∙ length-append (take (longest + 1) front) (drop is.end old) in
    let b : length (take (longest + 1) front) ≡ min (longest + 1) (length front) = length-take (longest + 1) front in
    let d : length front ≡ min is.end (length old) = length-take is.end old in
    let e : length (drop is.end old) ≡ length old - is.end = length-drop is.end old in
    omega (arith, a, b, d, e, is.count_is, is.stops.within)

-- where no line was whole, the first end isn't inside what was held
end_behind : (old piece : List ℕ) (end : ℕ) → StopsAt (old ++ piece) end → judged old ≡ [] → length old ≤ end
end_behind old piece end stops none = elim (cases_lt end (length old)) [
  | inl inside ↦
      let same : get_or (old ++ piece) end 0 ≡ get_or old end 0 = get_or_append_left old piece 0 end inside in
      let lf : get_or old end 0 ≡ 10 = sym same ∙ stops.stops (rw (length-append old piece) (omega (arith, inside))) in
      let before : LacksEnd old end = λ k lt is. stops.lacks k lt (get_or_append_left old piece 0 k (omega (arith, lt, inside)) ∙ is) in
      let one : judged (old ++ []) ≡ item_of (take end old) ∷ judged (drop (end + 1) old ++ []) = judged_first old [] end inside lf before in
      let two : judged old ≡ item_of (take end old) ∷ judged (drop (end + 1) old ++ []) = ap judged (sym (append-nil old)) ∙ one in
      absurd (cc)
  | inr behind ↦ behind
]

pub takes : (old piece new : List ℕ) (count : ℕ) → Shortens (old ++ piece) new count → Takes old piece new
takes old piece new count is =
    let size : length new + is.end ≡ count + length (old ++ piece) = shortened_length (old ++ piece) new count is in
    let all : length (old ++ piece) ≡ length old + length piece = length-append old piece in
    record {
      same = λ more. shortened (old ++ piece) new count is more ∙ ap judged (append_assoc old piece more);
      grows = omega (arith, size, all, is.count_is);
      bounded = λ none. let behind : length old ≤ is.end = end_behind old piece is.end is.stops none in
          omega (arith, size, all, is.count_is, behind, is.stops.within);
    }

-- what is known to have no LF still hasn't with a piece behind it
pub lacks_more : (old piece : List ℕ) (n : ℕ) → n ≤ length old → LacksEnd old n → LacksEnd (old ++ piece) n
lacks_more old piece n within lacks k lt is =
    lacks k lt (sym (get_or_append_left old piece 0 k (omega (arith, lt, within))) ∙ is)

pub shortened_lacks : (old new : List ℕ) (count : ℕ) → Shortens old new count → LacksEnd new count
shortened_lacks old new count is k lt here =
    let front : List ℕ = take is.end old in
    let size : length (take (longest + 1) front) ≡ min (longest + 1) (length front) = length-take (longest + 1) front in
    let long : length front ≡ min is.end (length old) = length-take is.end old in
    let a : get_or new k 0 ≡ get_or (take (longest + 1) front ++ drop is.end old) k 0 = ap (λ (xs : List ℕ). get_or xs k 0) is.kept in
    let b : get_or (take (longest + 1) front ++ drop is.end old) k 0 ≡ get_or (take (longest + 1) front) k 0 =
    get_or_append_left (take (longest + 1) front) (drop is.end old) 0 k (omega (arith, lt, size, long, is.count_is, is.stops.within)) in
    let d : get_or (take (longest + 1) front) k 0 ≡ get_or front k 0 = get_or-take (longest + 1) front k 0 (omega (arith, lt, is.count_is)) in
    let e : get_or front k 0 ≡ get_or old k 0 = get_or-take is.end old k 0 (omega (arith, lt, is.count_is)) in
    is.stops.lacks k (omega (arith, lt, is.count_is)) (sym (a ∙ (b ∙ (d ∙ e))) ∙ here)

pub count_within : (old new : List ℕ) (count : ℕ) → Shortens old new count → count ≤ length new
count_within old new count is =
    let size : length new + is.end ≡ count + length old = shortened_length old new count is in omega (arith, size, is.stops.within)

-- ---- the reader's functions

pub kept_whole : (old text : List ℕ) (end : ℕ) → text ≡ old → StopsAt text end → end ≤ longest + 1 → Shortens old old end
kept_whole old text end same stops short =
    let size : length (take end old) ≡ min end (length old) = length-take end old in
    let all : take (longest + 1) (take end old) ≡ take end old = take_all (longest + 1) (take end old) (omega (arith, size, short)) in
    record {
      end = end;
      stops = subst (λ (xs : List ℕ). StopsAt xs end) same stops;
      kept = sym (ap (λ (xs : List ℕ). xs ++ drop end old) all ∙ take-append-drop end old);
      count_is = omega (arith, short);
    }

pub kept_cut : (old text new : List ℕ) (end : ℕ) → text ≡ old → StopsAt text end → longest + 1 < end
    → new ≡ take (longest + 1) old ++ drop end old → Shortens old new (longest + 1)
kept_cut old text new end same stops long is =
    record {
      end = end;
      stops = subst (λ (xs : List ℕ). StopsAt xs end) same stops;
      kept = is ∙ ap (λ (xs : List ℕ). xs ++ drop end old) (sym (take-take (longest + 1) end old (omega (arith, long))));
      count_is = omega (arith, long);
    }

pub fed : (view held piece joined new : List ℕ) (count : ℕ) → joined ≡ held ++ piece → held ≡ view → Shortens joined new count → Takes view piece new
fed view held piece joined new count join same is =
    takes view piece new count (subst (λ (xs : List ℕ). Shortens xs new count) (join ∙ ap (λ (xs : List ℕ). xs ++ piece) same) is)

pub none_first : (held : List ℕ) (end : ℕ) → StopsAt held end → end ≡ length held
    → IsFirst held (record { next = next.Nothing; used = 0; searched = end })
none_first held end stops all = record {
  used = omega arith;
  gives = (none_judged held (λ k lt. stops.lacks k (omega (arith, lt, all))), refl);
  searched = omega (arith, all);
  lacks = stops.lacks;
}

-- the first line is judged so, and what is behind it remains
goes_on : (held : List ℕ) (end : ℕ) (o : Option Item) → StopsAt held end → end < length held → item_of (take end held) ≡ o
    → (length (drop (end + 1) held) < length held) × ((more : List ℕ) → judged (held ++ more) ≡ o ∷ judged (drop (end + 1) held ++ more))
goes_on held end o stops lt is = (
  omega (arith, lt, length-drop (end + 1) held),
  λ more. judged_first held more end lt (stops.stops lt) stops.lacks
      ∙ ap (λ (x : Option Item). x ∷ judged (drop (end + 1) held ++ more)) is,
)

gives_next : (held : List ℕ) (end : ℕ) (n : Next) → StopsAt held end → end < length held → IsNext (take end held) n → Gives held n (drop (end + 1) held)
gives_next held end (next.Line it) stops lt is = goes_on held end (Some it) stops lt is
gives_next held end next.Bad stops lt is = goes_on held end None stops lt is
gives_next held end next.Nothing stops lt is = absurd is

pub some_first : (held : List ℕ) (end : ℕ) (n : Next) → StopsAt held end → (end ≡ length held → ⊥) → IsNext (take end held) n
    → IsFirst held (record { next = n; used = end + 1; searched = 0 })
some_first held end n stops other is =
    let lt : end < length held = omega (arith, stops.within, other) in
    record {
      used = omega (arith, lt);
      gives = gives_next held end n stops lt is;
      searched = omega arith;
      lacks = λ k less. absurd (omega (arith, less));
    }
