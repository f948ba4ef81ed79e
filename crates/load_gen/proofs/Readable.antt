-- Each item of the script of a number has a line.
use Rattle.std.proofs.Common.{◌≡◌, ◌<◌, ◌≤◌, ◌+◌, ◌*◌, ◌/◌, ◌%◌, ◌^◌, ℕ, zero, suc, Bool, true, nat_lt, List, [], ◌∷◌, ◌++◌, codes, length, length-append, refl, arith}
use Rattle.std.proofs.lemmas.Bool.{and_parts}
use Rattle.std.proofs.lemmas.Bool.Decides.{nat_tests}
use Rattle.std.proofs.lemmas.Fmt.{length-decimal-le}
use Rattle.std.proofs.lemmas.List.Elements.{All-append, All-cons, All-nil}
use Rattle.std.specs.Fmt.{decimal}
use Rattle.std.specs.List.{All, list_all}
use Rattle.std.specs.Str.{chars, is_utf8}
use Rattle.std.specs.Str.Lossy.{utf8_valid_len}
use lib.Utf8.{encode}
use Rattle.vm_types.specs.declared.ids.ActorId.TheVariants.{Hart}
use Rattle.script_text.specs.declared.item.Item.{Item}
use Rattle.script_text.specs.declared.item.Item.TheVariants as item
use Rattle.script_text.specs.Written.{AreBytes, IsWord, IsWritable, line_of}
use Rattle.script_text.proofs.Scripts.{decimal_lacks, join}
use Rattle.script_words.specs.Words.{Lacks}
use Rattle.script_words.proofs.Lacking.{lacks_failing}
use Rattle.load_gen.specs.Load.{boot, configure, create_diff, create_full, image, load_items, opening, pause, put, resume, round, rounds, rounds_of, start, steps_by, turned}

visible : ℕ → Bool
visible c = nat_lt 32 c

-- a word as it stands in the definitions
word : (text : List ℕ) → 0 < length text → list_all visible text ≡ true → IsWord text
unfolding visible
word text some all = record {
  some = some;
  spaceless = lacks_failing visible 32 text refl all;
  one_line = lacks_failing visible 10 text refl all;
}

pub request : (method path body : List ℕ) → IsWord method → IsWord path → Lacks 10 body → length (line_of (item.Api method path body)) ≤ 1048576
    → IsWritable (item.Api method path body)
request method path body m p b short = record { form = (m, p, b); short = short }

small_byte : (b : ℕ) → nat_lt b 256 ≡ true → b < 256
small_byte b is = grind (arith, nat_tests)

are_bytes : (bytes : List ℕ) → list_all (λ b. nat_lt b 256) bytes ≡ true → AreBytes bytes
are_bytes [] all = All-nil (λ (b : ℕ). b < 256)
are_bytes (b ∷ bytes) all =
    let parts = and_parts (nat_lt b 256) (list_all (λ (d : ℕ). nat_lt d 256) bytes) all in
    All-cons (λ (d : ℕ). d < 256) b bytes (small_byte b parts.0) (are_bytes bytes parts.1)

file_writable : IsWritable (item.File (codes "k") image)
unfolding visible utf8_valid_len is_utf8 chars encode
file_writable = record { form = (word (codes "k") (omega arith) refl, refl, are_bytes image refl); short = omega arith }

pub put_word : IsWord (codes "PUT")
unfolding visible
put_word = word (codes "PUT") (omega arith) refl

lineage_writable : (number : ℕ) → number < 2 ^ 32 → IsWritable (item.Lineage number)
lineage_writable number small = record { form = omega (arith, small); short = omega arith }

step_writable : (hart count : ℕ) → hart ≤ 1 → 1 ≤ count → count ≤ 1000000000 → IsWritable (item.Step (Hart hart) count)
step_writable hart count few some most =
    let one : length (decimal hart) ≤ 1 = length-decimal-le 1 hart (omega arith) (omega (arith, few)) (omega (arith, few)) in
    let ten : length (decimal count) ≤ 10 = length-decimal-le 10 count (omega arith) (omega (arith, most)) (omega (arith, most)) in
    let a : length ((codes "step h" ++ decimal hart ++ codes " ") ++ decimal count) ≡ length (codes "step h" ++ decimal hart ++ codes " ") + length (decimal count) = length-append (codes "step h" ++ decimal hart ++ codes " ") (decimal count) in
    let b : length ((codes "step h" ++ decimal hart) ++ codes " ") ≡ length (codes "step h" ++ decimal hart) + 1 = length-append (codes "step h" ++ decimal hart) (codes " ") in
    let d : length (codes "step h" ++ decimal hart) ≡ 6 + length (decimal hart) = length-append (codes "step h") (decimal hart) in
    record { form = (omega (arith, few), some, most); short = omega (arith, a, b, d, one, ten) }

closed_request : (method path body : List ℕ) → IsWord method → IsWord path → list_all visible body ≡ true
    → length (line_of (item.Api method path body)) ≤ 1048576 → IsWritable (item.Api method path body)
unfolding visible
closed_request method path body m p b short = request method path body m p (lacks_failing visible 10 body refl b) short

pause_writable : IsWritable pause
unfolding visible
pause_writable =
    closed_request (codes "PATCH") (codes "/vm") (codes "{\"state\":\"Paused\"}") (word (codes "PATCH") (omega arith) refl)
    (word (codes "/vm") (omega arith) refl) refl (omega arith)

resume_writable : IsWritable resume
unfolding visible
resume_writable =
    closed_request (codes "PATCH") (codes "/vm") (codes "{\"state\":\"Resumed\"}") (word (codes "PATCH") (omega arith) refl)
    (word (codes "/vm") (omega arith) refl) refl (omega arith)

put_writable : (path body : List ℕ) → 0 < length path → list_all visible path ≡ true → list_all visible body ≡ true
    → length (line_of (put path body)) ≤ 1048576 → IsWritable (put path body)
put_writable path body some p b short = closed_request (codes "PUT") path body put_word (word path some p) b short

one_more : (it : Item) (more : List Item) → IsWritable it → All (λ it. IsWritable it) more → All (λ it. IsWritable it) (it ∷ more)
one_more it more first rest = All-cons (λ (it : Item). IsWritable it) it more first rest

opening_writable : (number : ℕ) → number < 2 ^ 32 → All (λ it. IsWritable it) (opening number)
unfolding visible
opening_writable number small =
    one_more (item.Lineage number) (item.File (codes "k") image ∷ boot ∷ configure ∷ start ∷ item.Step (Hart 0) 7 ∷ pause ∷ create_full ∷ resume ∷ []) (lineage_writable number small)
    (one_more (item.File (codes "k") image) (boot ∷ configure ∷ start ∷ item.Step (Hart 0) 7 ∷ pause ∷ create_full ∷ resume ∷ []) file_writable
    (one_more boot (configure ∷ start ∷ item.Step (Hart 0) 7 ∷ pause ∷ create_full ∷ resume ∷ []) (put_writable (codes "/boot-source") (codes "{\"kernel_image_path\":\"k\"}") (omega arith) refl refl (omega arith))
    (one_more configure (start ∷ item.Step (Hart 0) 7 ∷ pause ∷ create_full ∷ resume ∷ []) (put_writable (codes "/machine-config") (codes "{\"vcpu_count\":2,\"mem_size_mib\":4,\"track_dirty_pages\":true}") (omega arith) refl refl (omega arith))
    (one_more start (item.Step (Hart 0) 7 ∷ pause ∷ create_full ∷ resume ∷ []) (put_writable (codes "/actions") (codes "{\"action_type\":\"InstanceStart\"}") (omega arith) refl refl (omega arith))
    (one_more (item.Step (Hart 0) 7) (pause ∷ create_full ∷ resume ∷ []) (step_writable 0 7 (omega arith) (omega arith) (omega arith))
    (one_more pause (create_full ∷ resume ∷ []) pause_writable
    (one_more create_full (resume ∷ []) (put_writable (codes "/snapshot/create") (codes "{\"snapshot_path\":\"s0\",\"mem_file_path\":\"m0\"}") (omega arith) refl refl (omega arith))
    (one_more resume [] resume_writable (All-nil (λ (it : Item). IsWritable it))))))))))

diff_body : ℕ → List ℕ
diff_body i =
    codes "{\"snapshot_type\":\"Diff\",\"snapshot_path\":\"s" ++ decimal i ++ codes "\",\"mem_file_path\":\"d" ++ decimal i
    ++ codes "\"}"

plain : (text : List ℕ) → list_all visible text ≡ true → Lacks 10 text
unfolding visible
plain text all = lacks_failing visible 10 text refl all

five_lack : (a b d e : List ℕ) → Lacks 10 a → Lacks 10 b → Lacks 10 d → Lacks 10 e → Lacks 10 (a ++ b ++ d ++ b ++ e)
five_lack a b d e la lb ld le =
    join (a ++ b ++ d ++ b) e (join (a ++ b ++ d) b (join (a ++ b) d (join a b la lb) ld) lb) le

body_lacks : (i : ℕ) → i < 2 ^ 64 → Lacks 10 (diff_body i)
unfolding visible diff_body
body_lacks i small =
    five_lack (codes "{\"snapshot_type\":\"Diff\",\"snapshot_path\":\"s") (decimal i) (codes "\",\"mem_file_path\":\"d") (codes "\"}")
    (plain (codes "{\"snapshot_type\":\"Diff\",\"snapshot_path\":\"s") refl) (decimal_lacks i small)
    (plain (codes "\",\"mem_file_path\":\"d") refl) (plain (codes "\"}") refl)

diff_length : (d : List ℕ) → length d ≤ 10
    → length (codes "api PUT /snapshot/create {\"snapshot_type\":\"Diff\",\"snapshot_path\":\"s" ++ d ++ codes "\",\"mem_file_path\":\"d" ++ d ++ codes "\"}") ≤ 1048576
diff_length d few = simp length-append (omega (arith, few))

diff_writable : (i : ℕ) → i < 2 ^ 31 → IsWritable (create_diff i)
unfolding visible diff_body
diff_writable i small =
    let ten : length (decimal i) ≤ 10 = length-decimal-le 10 i (omega arith) (omega (arith, small)) (omega (arith, small)) in
    request (codes "PUT") (codes "/snapshot/create") (diff_body i) put_word (word (codes "/snapshot/create") (omega arith) refl)
    (body_lacks i (omega (arith, small))) (diff_length (decimal i) ten)

steps_some : (x : ℕ) → 1 ≤ steps_by x
steps_some x = omega arith

steps_most : (x : ℕ) → steps_by x ≤ 1000000000
steps_most x = let less : (x / 2 ^ 33) % 4096 < 4096 = omega arith in omega (arith, less)

round_writable : (number before : ℕ) → before < 64 → All (λ it. IsWritable it) (round number before)
round_writable number before few =
    let a = turned number (2 * before + 1) in
    let b = turned number (2 * before + 2) in
    one_more (item.Step (Hart 0) (steps_by a)) (item.Step (Hart 1) (steps_by b) ∷ pause ∷ create_diff (before + 1) ∷ resume ∷ []) (step_writable 0 (steps_by a) (omega arith) (steps_some a) (steps_most a))
    (one_more (item.Step (Hart 1) (steps_by b)) (pause ∷ create_diff (before + 1) ∷ resume ∷ []) (step_writable 1 (steps_by b) (omega arith) (steps_some b) (steps_most b))
    (one_more pause (create_diff (before + 1) ∷ resume ∷ []) pause_writable
    (one_more (create_diff (before + 1)) (resume ∷ []) (diff_writable (before + 1) (omega (arith, few)))
    (one_more resume [] resume_writable (All-nil (λ (it : Item). IsWritable it))))))

rounds_writable : (number count : ℕ) → count ≤ 64 → All (λ it. IsWritable it) (rounds number count)
rounds_writable number zero few = All-nil (λ (it : Item). IsWritable it)
rounds_writable number (suc before) few =
    All-append (λ (it : Item). IsWritable it) (rounds number before) (round number before)
    (rounds_writable number before (omega (arith, few))) (round_writable number before (omega (arith, few)))

pub load_writable : (number : ℕ) → number < 2 ^ 32 → All (λ it. IsWritable it) (load_items number)
load_writable number small =
    let few : rounds_of number ≤ 64 = omega arith in
    All-append (λ (it : Item). IsWritable it) (opening number) (rounds number (rounds_of number)) (opening_writable number small)
    (rounds_writable number (rounds_of number) few)
