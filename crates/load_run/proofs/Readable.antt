-- The line that loads the last snapshot has an item.
use Rattle.std.proofs.Common.{◌≡◌, ◌<◌, ◌≤◌, ◌^◌, ℕ, Bool, true, nat_lt, List, [], ◌∷◌, ◌++◌, codes, length, length-append, refl, ap, ◌∙◌, append_assoc, append-nil, arith}
use Rattle.std.proofs.lemmas.Fmt.{length-decimal-le}
use Rattle.std.proofs.lemmas.List.Elements.{All-cons, All-nil}
use Rattle.std.specs.Fmt.{decimal}
use Rattle.std.specs.List.{All, list_all}
use Rattle.script_text.specs.declared.item.Item.{Item}
use Rattle.script_text.specs.Written.{IsWord, IsWritable}
use Rattle.script_text.proofs.Scripts.{decimal_lacks, join}
use Rattle.script_words.specs.Words.{Lacks}
use Rattle.script_words.proofs.Lacking.{lacks_failing}
use Rattle.load_gen.proofs.Readable.{put_word, request}
use Rattle.load_run.specs.Restoring.{load_last, restore_script}

abbrev load_body : ℕ → List ℕ
load_body i = codes "{\"snapshot_path\":\"s" ++ decimal i ++ codes "\",\"mem_file_path\":\"m0\"}"

-- bytes above a space
abbrev are_seen : List ℕ → Bool
are_seen text = list_all (λ c. nat_lt 32 c) text

one_line : (text : List ℕ) → are_seen text ≡ true → Lacks 10 text
one_line text all = lacks_failing (λ c. nat_lt 32 c) 10 text refl all

load_word : IsWord (codes "/snapshot/load")
load_word = record {
  some = omega arith;
  spaceless = lacks_failing (λ c. nat_lt 32 c) 32 (codes "/snapshot/load") refl refl;
  one_line = one_line (codes "/snapshot/load") refl;
}

body_lacks : (i : ℕ) → i < 2 ^ 64 → Lacks 10 (load_body i)
body_lacks i small =
    join (codes "{\"snapshot_path\":\"s" ++ decimal i) (codes "\",\"mem_file_path\":\"m0\"}")
    (join (codes "{\"snapshot_path\":\"s") (decimal i) (one_line (codes "{\"snapshot_path\":\"s") refl) (decimal_lacks i small))
    (one_line (codes "\",\"mem_file_path\":\"m0\"}") refl)

load_length : (d : List ℕ) → length d ≤ 10
    → length (codes "api PUT /snapshot/load {\"snapshot_path\":\"s" ++ d ++ codes "\",\"mem_file_path\":\"m0\"}") ≤ 1048576
load_length d few = simp length-append (omega (arith, few))

load_writable : (i : ℕ) → i < 2 ^ 31 → IsWritable (load_last i)
load_writable i small =
    let ten : length (decimal i) ≤ 10 = length-decimal-le 10 i (omega arith) (omega (arith, small)) (omega (arith, small)) in
    request (codes "PUT") (codes "/snapshot/load") (load_body i) put_word load_word
    (body_lacks i (omega (arith, small))) (load_length (decimal i) ten)

pub all_writable : (i : ℕ) → i < 2 ^ 31 → All (λ it. IsWritable it) (load_last i ∷ [])
all_writable i small =
    All-cons (λ (it : Item). IsWritable it) (load_last i) [] (load_writable i small) (All-nil (λ (it : Item). IsWritable it))

parts : (front d end lf : List ℕ) → (front ++ d) ++ (end ++ lf) ≡ ((((front ++ d) ++ end) ++ lf) ++ [])
parts front d end lf = simp (append_assoc, append-nil) refl

pub script_is : (i : ℕ) (front end : List ℕ) → front ≡ codes "api PUT /snapshot/load {\"snapshot_path\":\"s" → end ≡ codes "\",\"mem_file_path\":\"m0\"}\n"
    → (front ++ decimal i) ++ end ≡ restore_script i
script_is i front end f e =
    ap (λ (l : List ℕ). (l ++ decimal i) ++ end) f
    ∙ ap (λ (l : List ℕ). (codes "api PUT /snapshot/load {\"snapshot_path\":\"s" ++ decimal i) ++ l) e
    ∙ parts (codes "api PUT /snapshot/load {\"snapshot_path\":\"s") (decimal i) (codes "\",\"mem_file_path\":\"m0\"}") (10 ∷ [])
