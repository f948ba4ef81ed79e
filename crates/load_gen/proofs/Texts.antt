-- Texts of items, and of the first rounds.
use Rattle.std.proofs.Common.{◌≡◌, ◌<◌, ◌+◌, ◌-◌, ◌*◌, zero, suc, ℕ, List, [], ◌∷◌, ◌++◌, codes, Result, refl, sym, ap, subst, ◌∙◌, append_assoc, append-nil, arith}
use Rattle.std.proofs.lemmas.Grind.{flat_map-append}
use Rattle.std.specs.Fmt.{decimal}
use Rattle.vm_types.specs.declared.ids.ActorId.TheVariants.{Hart}
use Rattle.script_text.specs.declared.item.Item.{Item}
use Rattle.script_text.specs.declared.item.Item.TheVariants as item
use Rattle.script_text.specs.Written.{line_of}
use Rattle.script_words.specs.Numbers.{word_text}
use Rattle.vm_outside.specs.Passing.{TakesAll, TakesPart}
use Rattle.load_gen.specs.Load.{boot, configure, create_diff, create_full, image, opening, pause, resume, start, round, rounds, steps_by, text_of, turn, turned}
use Rattle.vm_outside.proofs.Parts.{all_behind, part_behind, part_more, takes_behind}

-- the lines behind the lineage
abbrev pub behind_lineage : List Item
behind_lineage =
    item.File (codes "k") image ∷ boot ∷ configure ∷ start ∷ item.Step (Hart 0) 7 ∷ pause ∷ create_full ∷ resume ∷ []

pub joined : (one two : List Item) → text_of (one ++ two) ≡ text_of one ++ text_of two
joined one two = flat_map-append (λ (it : Item). line_of it ++ 10 ∷ []) one two

-- what the opening is written in
pub opening_text : (number : ℕ) (digits_written rest : List ℕ) → digits_written ≡ word_text number → rest ≡ 10 ∷ text_of behind_lineage
    → (codes "lineage " ++ digits_written) ++ rest ≡ text_of (opening number)
opening_text number digits_written rest is same =
    ap (λ (d : List ℕ). (codes "lineage " ++ d) ++ rest) is
    ∙ ap (λ (r : List ℕ). (codes "lineage " ++ word_text number) ++ r) same
    ∙ sym (append_assoc (codes "lineage " ++ word_text number) (10 ∷ []) (text_of behind_lineage))

-- a line of steps
pub step_text : (hart count : ℕ) (front : List ℕ) → front ≡ codes "step h" ++ decimal hart ++ codes " "
    → (front ++ decimal count) ++ 10 ∷ [] ≡ text_of (item.Step (Hart hart) count ∷ [])
step_text hart count front is =
    ap (λ (l : List ℕ). (l ++ decimal count) ++ 10 ∷ []) is
    ∙ sym (append-nil (((codes "step h" ++ decimal hart ++ codes " ") ++ decimal count) ++ 10 ∷ []))

diff_parts : (d pause state memory end lf rest : List ℕ)
    → (((pause ++ state) ++ d) ++ memory) ++ (([] ++ d) ++ ((end ++ lf) ++ rest))
    ≡ pause ++ ((((((state ++ d) ++ memory) ++ d) ++ end) ++ lf) ++ rest)
diff_parts d pause state memory end lf rest = simp append_assoc refl

-- the lines of a diff
pub diff_text : (i : ℕ) (front middle end : List ℕ)
    → front ≡ text_of (pause ∷ []) ++ codes "api PUT /snapshot/create {\"snapshot_type\":\"Diff\",\"snapshot_path\":\"s"
    → middle ≡ codes "\",\"mem_file_path\":\"d" → end ≡ codes "\"}\n" ++ text_of (resume ∷ [])
    → ((front ++ decimal i) ++ middle) ++ (([] ++ decimal i) ++ end) ≡ text_of (pause ∷ create_diff i ∷ resume ∷ [])
diff_text i front middle end f m e =
    ap (λ (l : List ℕ). ((l ++ decimal i) ++ middle) ++ (([] ++ decimal i) ++ end)) f
    ∙ ap (λ (l : List ℕ). (((text_of (pause ∷ []) ++ codes "api PUT /snapshot/create {\"snapshot_type\":\"Diff\",\"snapshot_path\":\"s") ++ decimal i) ++ l) ++ (([] ++ decimal i) ++ end)) m
    ∙ ap (λ (l : List ℕ). (((text_of (pause ∷ []) ++ codes "api PUT /snapshot/create {\"snapshot_type\":\"Diff\",\"snapshot_path\":\"s") ++ decimal i) ++ codes "\",\"mem_file_path\":\"d") ++ (([] ++ decimal i) ++ l)) e
    ∙ diff_parts (decimal i) (text_of (pause ∷ [])) (codes "api PUT /snapshot/create {\"snapshot_type\":\"Diff\",\"snapshot_path\":\"s")
    (codes "\",\"mem_file_path\":\"d") (codes "\"}") (10 ∷ []) (text_of (resume ∷ []))

-- the first rounds, and those behind them
record Behind (number before count : ℕ) : Type 0 where
  more : List Item
  parts : rounds number count ≡ rounds number before ++ more

one_behind : (number before count : ℕ) → Behind number before count → Behind number before (suc count)
one_behind number before count r = record {
  more = r.more ++ round number count;
  parts = ap (λ (l : List Item). l ++ round number count) r.parts ∙ append_assoc (rounds number before) r.more (round number count);
}

rounds_behind : (number before more count : ℕ) → before + more ≡ count → Behind number before count
rounds_behind number before zero count is =
    let same : before ≡ count = omega (arith, is) in
    subst (λ (n : ℕ). Behind number before n) same (record { more = []; parts = sym (append-nil (rounds number before)) })
rounds_behind number before (suc more) count is =
    let same : suc (before + more) ≡ count = omega (arith, is) in
    subst (λ (n : ℕ). Behind number before n) same
    (one_behind number before (before + more) (rounds_behind number before more (before + more) refl))

-- one round more
pub round_taken : (number before : ℕ) (old mid now : List ℕ) → mid ≡ old ++ text_of (rounds number before)
    → now ≡ mid ++ text_of (round number before) → now ≡ old ++ text_of (rounds number (suc before))
round_taken number before old mid now first second =
    all_behind old mid now (text_of (rounds number before)) (text_of (round number before)) first second
    ∙ ap (λ (l : List ℕ). old ++ l) (sym (joined (rounds number before) (round number before)))

-- a front of a round is one of all rounds
pub round_cut : (number before count : ℕ) (old mid now : List ℕ) → before < count → mid ≡ old ++ text_of (rounds number before)
    → TakesPart mid now (text_of (round number before)) → TakesPart old now (text_of (rounds number count))
round_cut number before count old mid now within first part =
    let r = rounds_behind number (suc before) (count - suc before) count (omega (arith, within)) in
    let cut = part_behind old mid now (text_of (rounds number before)) (text_of (round number before)) first part in
    let more = part_more old now (text_of (rounds number before) ++ text_of (round number before)) (text_of r.more) cut in
    subst (λ (l : List Item). TakesPart old now (text_of l)) (sym r.parts)
    (subst (λ (l : List ℕ). TakesPart old now l)
    (ap (λ (l : List ℕ). l ++ text_of r.more) (sym (joined (rounds number before) (round number before)))
    ∙ sym (joined (rounds number before ++ round number before) r.more)) more)

-- items behind items
pub items_cut : (one two : List Item) (old now : List ℕ) → TakesPart old now (text_of one) → TakesPart old now (text_of (one ++ two))
items_cut one two old now part =
    subst (λ (l : List ℕ). TakesPart old now l) (sym (joined one two)) (part_more old now (text_of one) (text_of two) part)

pub items_behind : {T E : Type 0} (one two : List Item) (old mid now : List ℕ) (result : Result T E) → mid ≡ old ++ text_of one
    → TakesAll mid now result (text_of two) → TakesAll old now result (text_of (one ++ two))
items_behind one two old mid now result first second =
    subst (λ (l : List ℕ). TakesAll old now result l) (sym (joined one two))
    (takes_behind old mid now (text_of one) (text_of two) result first second)

-- a turn more, and one more behind it
pub one_turn : (number turns drawn first : ℕ) → drawn ≡ turned number turns → first ≡ turn drawn → first ≡ turned number (turns + 1)
one_turn number turns drawn first was is =
    let next : suc turns ≡ turns + 1 = omega arith in
    is ∙ ap (λ (x : ℕ). turn x) was ∙ ap (λ (n : ℕ). turned number n) next

pub two_turns : (number turns drawn first second : ℕ) → drawn ≡ turned number turns → first ≡ turn drawn → second ≡ turn first
    → second ≡ turned number (turns + 2)
two_turns number turns drawn first second was is then =
    let next : (turns + 1) + 1 ≡ turns + 2 = omega arith in
    one_turn number (turns + 1) first second (one_turn number turns drawn first was is) then
    ∙ ap (λ (n : ℕ). turned number n) next

pub both_turns : (number before drawn first second : ℕ) → drawn ≡ turned number (2 * before) → first ≡ turn drawn → second ≡ turn first
    → second ≡ turned number (2 * (before + 1))
both_turns number before drawn first second was is then =
    let next : 2 * before + 2 ≡ 2 * (before + 1) = omega arith in
    two_turns number (2 * before) drawn first second was is then ∙ ap (λ (n : ℕ). turned number n) next

-- the round that two turns give
pub round_is : (number before drawn first second a b : ℕ) → drawn ≡ turned number (2 * before) → first ≡ turn drawn → second ≡ turn first
    → a ≡ steps_by first → b ≡ steps_by second
    → text_of (item.Step (Hart 0) a ∷ item.Step (Hart 1) b ∷ pause ∷ create_diff (before + 1) ∷ resume ∷ []) ≡ text_of (round number before)
round_is number before drawn first second a b was is then a_is b_is =
    ap (λ (n : ℕ). text_of (item.Step (Hart 0) n ∷ item.Step (Hart 1) b ∷ pause ∷ create_diff (before + 1) ∷ resume ∷ []))
    (a_is ∙ ap (λ (x : ℕ). steps_by x) (one_turn number (2 * before) drawn first was is))
    ∙ ap (λ (n : ℕ). text_of (item.Step (Hart 0) (steps_by (turned number (2 * before + 1))) ∷ item.Step (Hart 1) n ∷ pause ∷ create_diff (before + 1) ∷ resume ∷ []))
    (b_is ∙ ap (λ (x : ℕ). steps_by x) (two_turns number (2 * before) drawn first second was is then))
