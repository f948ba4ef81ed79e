-- What a chain is filled with, and where that is put.
use Rattle.std.proofs.Common.{◌≡◌, ℕ, zero, suc, ◌+◌, ◌-◌, ◌<◌, ◌≤◌, ◌==◌, min, refl, sym, ap, ◌∙◌, subst, Bool, true, false, if◌then◌else◌, Option, Some, None, List, [], ◌∷◌, ◌++◌, length, take, drop, arith, append_assoc, length-append, length-drop}
use Rattle.std.proofs.lemmas.Bool.{eqb-true}
use Rattle.std.proofs.lemmas.List.{length-take-le, take-append-drop, take_at}
use Rattle.vm_types.specs.declared.entry.Step.{Step}
use Rattle.vm_types.specs.declared.op.Op.{Op}
use Rattle.vm_types.specs.declared.op.Op.TheVariants.{Out, Write}
use Rattle.vm_types.specs.declared.op.OutOp.TheVariants.{DrawWord}
use Rattle.vm_types.specs.declared.reply.Reply.{Reply}
use Rattle.vm_types.specs.declared.reply.Reply.TheVariants.{Drawn}
use Rattle.vm_types.specs.Fits.{Fits}
use Rattle.device_trace.specs.Doing.{Doing, Gives, Wants, and_then}
use Rattle.le_fields.specs.Fields.{bytes_of}
use Rattle.le_fields.proofs.Values as values
use Rattle.vq_split.specs.declared.queue.Part.{Part}
use Rattle.dev_core.specs.Bytes.{AreParts, addresses, addresses_from}
use Rattle.dev_core.specs.Pieces.{past, place, put, put_all, room, share, total}
use Rattle.dev_core.proofs.Bytes as pieces
use Rattle.dev_core.proofs.Fuel.{some_of}
use Rattle.dev_core.proofs.Totals.{total_past}
use Rattle.entropy_device.specs.Words.{before, filled_length, filling, filling_from, with_word, word_bytes, word_count, word_of}
use Rattle.entropy_device.specs.Written.{Runs, bytes_in, given_by, places_by, places_in, put_by, words_in, written_in}

-- ---- bytes of a list

take_none : (n : ℕ) → ◌≡◌ {A = List ℕ} (take n []) []
take_none zero = refl
take_none (suc n) = refl

-- the first of two lists
take_over : (n : ℕ) (xs ys : List ℕ) → take n (xs ++ ys) ≡ take n xs ++ take (n - length xs) ys
take_over n [] ys =
    let all : n - 0 ≡ n = omega arith in
    sym (ap (λ (l : List ℕ). l ++ take (n - 0) ys) (take_none n) ∙ ap (λ (m : ℕ). take m ys) all)
take_over zero (x ∷ xs) ys =
    let none : 0 - length (x ∷ xs) ≡ 0 = omega arith in sym (ap (λ (m : ℕ). take m ys) none)
take_over (suc n) (x ∷ xs) ys =
    let less : suc n - length (x ∷ xs) ≡ n - length xs = omega arith in
    ap (λ (l : List ℕ). x ∷ l) (take_over n xs ys) ∙ sym (ap (λ (m : ℕ). x ∷ take n xs ++ take m ys) less)

-- as many as there are
take_least : (n m : ℕ) (xs : List ℕ) → m ≡ min (length xs) n → take m xs ≡ take n xs
take_least n m [] is = take_none m ∙ sym (take_none n)
take_least zero m (x ∷ xs) is =
    let none : m ≡ 0 = omega (arith, is) in ap (λ (k : ℕ). take k (x ∷ xs)) none
take_least (suc n) zero (x ∷ xs) is = absurd (omega (arith, is))
take_least (suc n) (suc m) (x ∷ xs) is = ap (λ (l : List ℕ). x ∷ l) (take_least n m xs (omega (arith, is)))

-- ---- what is said of several acts

words_both : (xs ys : List Step) → words_in (xs ++ ys) ≡ words_in xs ++ words_in ys
words_both [] ys = refl
words_both (s ∷ xs) ys =
    ap (λ (l : List ℕ). given_by s.reply ++ l) (words_both xs ys) ∙ sym (append_assoc (given_by s.reply) (words_in xs) (words_in ys))

written_both : (xs ys : List Step) → written_in (xs ++ ys) ≡ written_in xs ++ written_in ys
written_both [] ys = refl
written_both (s ∷ xs) ys =
    ap (λ (l : List ℕ). put_by s.op ++ l) (written_both xs ys) ∙ sym (append_assoc (put_by s.op) (written_in xs) (written_in ys))

places_both : (xs ys : List Step) → places_in (xs ++ ys) ≡ places_in xs ++ places_in ys
places_both [] ys = refl
places_both (s ∷ xs) ys =
    ap (λ (l : List ℕ). places_by s.op ++ l) (places_both xs ys) ∙ sym (append_assoc (places_by s.op) (places_in xs) (places_in ys))

long_from : (at n : ℕ) → length (addresses_from at n) ≡ n
long_from at zero = refl
long_from at (suc n) = ap suc (long_from (suc at) n)

long_by : (op : Op) → length (places_by op) ≡ length (put_by op)
long_by (Op.Write at piece) = long_from at (length piece)
long_by (Op.Read at len) = refl
long_by (Op.Amo at value kind wide) = refl
long_by (Op.Lr at wide) = refl
long_by (Op.Sc at value wide) = refl
long_by (Op.Port port act) = refl
long_by (Op.Board act) = refl
long_by (Op.Out act) = refl
long_by Op.Idle = refl

-- a place for each byte
long_in : (steps : List Step) → length (places_in steps) ≡ length (written_in steps)
long_in [] = refl
long_in (s ∷ steps) =
    omega (
      arith,
      length-append (places_by s.op) (places_in steps),
      length-append (put_by s.op) (written_in steps),
      long_by s.op,
      long_in steps,
    )

-- first one, and then what it leads to
record Split {A B : Type 0} (t : Doing A) (more : A → Doing B) (steps : List Step) (b : B) : Type 0 where
  first : List Step
  second : List Step
  result : A
  runs : Runs t first result
  rest : Runs (more result) second b
  both : steps ≡ first ++ second

split : {A B : Type 0} (t : Doing A) (more : A → Doing B) (steps : List Step) (b : B) → Runs (and_then t more) steps b → Split t more steps b
split (Gives a) more steps b runs = record { first = []; second = steps; result = a; runs = refl; rest = runs; both = refl }
split (Wants op on) more [] b runs = absurd runs
split (Wants op on) more (s ∷ steps) b runs =
    let behind = split (on s.reply) more steps b runs.2 in
    record {
      first = s ∷ behind.first;
      second = behind.second;
      result = behind.result;
      runs = (runs.0, runs.1, behind.runs);
      rest = behind.rest;
      both = ap (λ (l : List Step). s ∷ l) behind.both;
    }

-- ---- bytes are put into parts

record IsPut (bytes : List ℕ) (parts : List Part) (steps : List Step) (left : List Part) : Type 0 where
  words : words_in steps ≡ []
  written : written_in steps ≡ bytes
  places : places_in steps ++ addresses left ≡ addresses parts
  are : AreParts left
  many : total left + length bytes ≡ total parts

-- no write is answered by a word
no_word : (at : ℕ) (piece : List ℕ) (reply : Reply) → Fits (Write at piece) reply → given_by reply ≡ []
no_word at piece (Drawn word) fit = absurd (cc)
no_word at piece reply fit = refl

-- what is left of so many steps of putting
abbrev Puts : ℕ → List Part → Type 0
Puts n left =
    (bytes : List ℕ) (parts : List Part) (steps : List Step) → length bytes ≤ n → AreParts parts → length bytes ≤ total parts
    → Runs (put n bytes parts) steps left → IsPut bytes parts steps left

-- a piece is written, and then the others
put_on : (n : ℕ) (left : List Part) → Puts n left → (bytes : List ℕ) (parts : List Part) (steps : List Step) → length bytes ≤ suc n
    → AreParts parts → length bytes ≤ total parts → 0 < share bytes parts
    → Runs (Wants (Write (place parts) (take (share bytes parts) bytes)) (λ reply. put n (drop (share bytes parts) bytes) (past (share bytes parts) parts)))
    steps left → IsPut bytes parts steps left
put_on n left more bytes parts [] most are fits some runs = absurd runs
put_on n left more bytes parts (s ∷ steps) most are fits some runs =
    let piece : List ℕ = take (share bytes parts) bytes in
    let shorter = length-drop (share bytes parts) bytes in
    let less = total_past (share bytes parts) parts (omega arith) in
    let rest = more (drop (share bytes parts) bytes) (past (share bytes parts) parts) steps (omega (arith, shorter, most, some))
    (pieces.rest parts (share bytes parts) are (omega arith)) (omega (arith, shorter, less, fits)) runs.2 in
    let long : length piece ≡ share bytes parts = length-take-le (share bytes parts) bytes (omega arith) in
    record {
      words = ap (λ (l : List ℕ). l ++ words_in steps) (no_word (place parts) piece s.reply runs.1) ∙ rest.words;
      written =
          ap (λ (op : Op). put_by op ++ written_in steps) runs.0 ∙ ap (λ (l : List ℕ). piece ++ l) rest.written
          ∙ take-append-drop (share bytes parts) bytes;
      places =
          ap (λ (op : Op). (places_by op ++ places_in steps) ++ addresses left) runs.0
          ∙ append_assoc (addresses_from (place parts) (length piece)) (places_in steps) (addresses left)
          ∙ ap (λ (l : List ℕ). addresses_from (place parts) (length piece) ++ l) rest.places
          ∙ ap (λ (k : ℕ). addresses_from (place parts) k ++ addresses (past (share bytes parts) parts)) long
          ∙ sym (pieces.piece parts (share bytes parts) are (omega arith));
      are = rest.are;
      many = let all = rest.many in omega (arith, all, shorter, less);
    }

by_bytes : (xs : List ℕ) → length xs ≤ 0 → xs ≡ []
by_bytes [] is = refl
by_bytes (x ∷ xs) is = absurd (omega (arith, is))

by_room : (space : ℕ) (bytes : List ℕ) (parts : List Part) → AreParts parts → length bytes ≤ total parts → room parts ≡ space
    → share bytes parts ≡ 0 → bytes ≡ []
by_room zero bytes parts are fits end is =
    let gone : parts ≡ [] = pieces.end parts are end in
    let few : total parts ≡ 0 = ap total gone in
    by_bytes bytes (omega (arith, fits, few))
by_room (suc space) bytes parts are fits more is = by_bytes bytes (omega (arith, is, more))

put_by_share : (n : ℕ) (left : List Part) → Puts n left → (bytes : List ℕ) (parts : List Part) (steps : List Step)
    → length bytes ≤ suc n → AreParts parts → length bytes ≤ total parts → (test : Bool) → (share bytes parts == 0) ≡ test
    → Runs (if test then Gives parts else Wants (Write (place parts) (take (share bytes parts) bytes))
    (λ reply. put n (drop (share bytes parts) bytes) (past (share bytes parts) parts))) steps left
    → IsPut bytes parts steps left
put_by_share n left more bytes parts [] most are fits true none runs =
    let no_bytes : bytes ≡ [] = by_room (room parts) bytes parts are fits refl (eqb-true (share bytes parts) 0 none) in
    record {
      words = refl;
      written = sym no_bytes;
      places = ap addresses (sym runs);
      are = subst AreParts runs are;
      many = omega (arith, ap total runs, ap length no_bytes);
    }
put_by_share n left more bytes parts (s ∷ steps) most are fits true none runs = absurd runs
put_by_share n left more bytes parts steps most are fits false some runs =
    put_on n left more bytes parts steps most are fits (some_of (share bytes parts) some) runs

put_run : (n : ℕ) (bytes : List ℕ) (parts : List Part) (steps : List Step) (left : List Part) → length bytes ≤ n → AreParts parts
    → length bytes ≤ total parts → Runs (put n bytes parts) steps left → IsPut bytes parts steps left
put_run zero [] parts [] left most are fits runs =
    record {
      words = refl;
      written = refl;
      places = ap addresses (sym runs);
      are = subst AreParts runs are;
      many = omega (arith, ap total runs);
    }
put_run zero (b ∷ bytes) parts steps left most are fits runs = absurd (omega (arith, most))
put_run zero [] parts (s ∷ steps) left most are fits runs = absurd runs
put_run (suc n) bytes parts steps left most are fits runs =
    put_by_share n left (λ more rest acts. put_run n more rest acts left) bytes parts steps most are fits (share bytes parts == 0) refl runs

-- ---- a chain is filled

record IsFilled (len index : ℕ) (parts : List Part) (steps : List Step) (used : ℕ) : Type 0 where
  bytes : written_in steps ≡ take (len - before index) (bytes_in (words_in steps))
  behind : List ℕ
  places : places_in steps ++ behind ≡ addresses parts
  used_is : used ≡ min len (before index) + length (written_in steps)

-- only a word is given
no_other : (reply : Reply) → word_of reply ≡ None → given_by reply ≡ []
no_other (Drawn word) none = absurd (cc)
no_other reply none = refl

given_is : (reply : Reply) (word : ℕ) → word_of reply ≡ Some word → given_by reply ≡ word ∷ []
given_is (Drawn it) word is = let same : it ≡ word = cc in ap (λ (w : ℕ). w ∷ []) same
given_is reply word is = absurd (cc)

-- what is filled with so many words, from this one on
abbrev Fills : ℕ → ℕ → ℕ → ℕ → Type 0
Fills n len index used =
    (parts : List Part) (steps : List Step) → AreParts parts → len - before index ≤ total parts
    → Runs (filling n len index parts) steps used → IsFilled len index parts steps used

-- a word failed
fill_ended : (len index : ℕ) (parts : List Part) (s : Step) (steps : List Step) (used : ℕ) → index < word_count len
    → s.op ≡ Out DrawWord → word_of s.reply ≡ None → Runs (Gives (before index)) steps used → IsFilled len index parts (s ∷ steps) used
fill_ended len index parts s [] used more asked none runs =
    let no_bytes : put_by s.op ≡ [] = ap put_by asked in
    let no_places : places_by s.op ≡ [] = ap places_by asked in
    let nothing : written_in (s ∷ []) ≡ [] = ap (λ (l : List ℕ). l ++ []) no_bytes in
    record {
      bytes =
          nothing ∙ sym (take_none (len - before index))
          ∙ sym (ap (λ (l : List ℕ). take (len - before index) (bytes_in (l ++ []))) (no_other s.reply none));
      behind = addresses parts;
      places = ap (λ (l : List ℕ). (l ++ []) ++ addresses parts) no_places;
      used_is = let short : length (written_in (s ∷ [])) ≡ 0 = ap length nothing in omega (arith, runs, more, short);
    }
fill_ended len index parts s (t ∷ steps) used more asked none runs = absurd runs

-- a word is written, and then the others
fill_word : (n len index : ℕ) (parts : List Part) (s : Step) (steps : List Step) (used word : ℕ) → word_count len - index ≡ suc n
    → AreParts parts → len - before index ≤ total parts → Fills n len (suc index) used → s.op ≡ Out DrawWord → word_of s.reply ≡ Some word
    → Runs (and_then (put_all (word_bytes len index word) parts) (λ rest. filling n len (suc index) rest)) steps used
    → IsFilled len index parts (s ∷ steps) used
fill_word n len index parts s steps used word is are fits each asked is_word runs =
    let more : index < word_count len = omega (arith, is) in
    let no_bytes : put_by s.op ≡ [] = ap put_by asked in
    let no_places : places_by s.op ≡ [] = ap places_by asked in
    let own : List ℕ = word_bytes len index word in
    let long : length own ≡ min 8 (len - before index) =
    length-take-le (min 8 (len - before index)) (bytes_of 8 word) (omega (arith, values.long 8 word)) in
    let parted = split (put_all own parts) (λ rest. filling n len (suc index) rest) steps used runs in
    let done = put_run (length own) own parts parted.first parted.result (omega arith) are (omega (arith, long, fits)) parted.runs in
    let rest = each parted.result parted.second done.are (let many = done.many in omega (arith, many, long, fits)) parted.rest in
    let wrote : written_in (s ∷ steps) ≡ own ++ written_in parted.second =
    ap (λ (l : List ℕ). l ++ written_in steps) no_bytes ∙ ap written_in parted.both ∙ written_both parted.first parted.second
    ∙ ap (λ (l : List ℕ). l ++ written_in parted.second) done.written in
    let words : words_in (s ∷ steps) ≡ word ∷ words_in parted.second =
    ap (λ (l : List ℕ). l ++ words_in steps) (given_is s.reply word is_word)
    ∙ ap (λ (l : List Step). word ∷ words_in l) parted.both
    ∙ ap (λ (l : List ℕ). word ∷ l) (words_both parted.first parted.second ∙ ap (λ (l : List ℕ). l ++ words_in parted.second) done.words) in
    let less : len - before index - length (bytes_of 8 word) ≡ len - before (suc index) = omega (arith, values.long 8 word) in
    record {
      bytes =
          wrote ∙ ap (λ (l : List ℕ). own ++ l) rest.bytes
          ∙ ap (λ (l : List ℕ). l ++ take (len - before (suc index)) (bytes_in (words_in parted.second)))
          (take_least (len - before index) (min 8 (len - before index)) (bytes_of 8 word) (omega (arith, values.long 8 word)))
          ∙ ap (λ (k : ℕ). take (len - before index) (bytes_of 8 word) ++ take k (bytes_in (words_in parted.second))) (sym less)
          ∙ sym (take_over (len - before index) (bytes_of 8 word) (bytes_in (words_in parted.second)))
          ∙ sym (ap (λ (l : List ℕ). take (len - before index) (bytes_in l)) words);
      behind = rest.behind;
      places =
          ap (λ (l : List ℕ). (l ++ places_in steps) ++ rest.behind) no_places
          ∙ ap (λ (l : List Step). places_in l ++ rest.behind) parted.both
          ∙ ap (λ (l : List ℕ). l ++ rest.behind) (places_both parted.first parted.second)
          ∙ append_assoc (places_in parted.first) (places_in parted.second) rest.behind
          ∙ ap (λ (l : List ℕ). places_in parted.first ++ l) rest.places ∙ done.places;
      used_is =
          let many : length (written_in (s ∷ steps)) ≡ length own + length (written_in parted.second) =
          ap length wrote ∙ length-append own (written_in parted.second) in
          let so_far = rest.used_is in omega (arith, many, so_far, long, more);
    }

fill_by : (n len index : ℕ) (parts : List Part) (s : Step) (steps : List Step) (used : ℕ) → word_count len - index ≡ suc n → AreParts parts
    → len - before index ≤ total parts → Fills n len (suc index) used → s.op ≡ Out DrawWord → (o : Option ℕ) → word_of s.reply ≡ o
    → Runs (with_word o (before index) (λ word. and_then (put_all (word_bytes len index word) parts) (λ rest. filling n len (suc index) rest))) steps used
    → IsFilled len index parts (s ∷ steps) used
fill_by n len index parts s steps used is are fits each asked None none runs =
    fill_ended len index parts s steps used (omega (arith, is)) asked none runs
fill_by n len index parts s steps used is are fits each asked (Some word) is_word runs =
    fill_word n len index parts s steps used word is are fits each asked is_word runs

fill_run : (n len index : ℕ) (parts : List Part) (steps : List Step) (used : ℕ) → word_count len - index ≡ n → AreParts parts
    → len - before index ≤ total parts → Runs (filling n len index parts) steps used → IsFilled len index parts steps used
fill_run zero len index parts [] used is are fits runs =
    record {
      bytes = sym (take_none (len - before index));
      behind = addresses parts;
      places = refl;
      used_is = omega (arith, is, runs);
    }
fill_run zero len index parts (s ∷ steps) used is are fits runs = absurd runs
fill_run (suc n) len index parts [] used is are fits runs = absurd runs
fill_run (suc n) len index parts (s ∷ steps) used is are fits runs =
    fill_by n len index parts s steps used is are fits
    (λ left acts. fill_run n len (suc index) left acts used (omega (arith, is))) runs.0 (word_of s.reply) refl runs.2

filled : (parts : List Part) (steps : List Step) (used : ℕ) → AreParts parts → Runs (filling_from (filled_length parts) 0 parts) steps used
    → IsFilled (filled_length parts) 0 parts steps used
filled parts steps used are runs =
    fill_run (word_count (filled_length parts) - 0) (filled_length parts) 0 parts steps used refl are (omega arith) runs

pub bytes_are : (parts : List Part) (steps : List Step) (used : ℕ) → AreParts parts
    → Runs (filling_from (filled_length parts) 0 parts) steps used → written_in steps ≡ take (filled_length parts) (bytes_in (words_in steps))
bytes_are parts steps used are runs =
    let all : filled_length parts - before 0 ≡ filled_length parts = omega arith in
    (filled parts steps used are runs).bytes ∙ ap (λ (k : ℕ). take k (bytes_in (words_in steps))) all

pub used_is : (parts : List Part) (steps : List Step) (used : ℕ) → AreParts parts
    → Runs (filling_from (filled_length parts) 0 parts) steps used → used ≡ length (written_in steps)
used_is parts steps used are runs =
    let so_far = (filled parts steps used are runs).used_is in omega (arith, so_far)

pub places_are : (parts : List Part) (steps : List Step) (used : ℕ) → AreParts parts
    → Runs (filling_from (filled_length parts) 0 parts) steps used → places_in steps ≡ take used (addresses parts)
places_are parts steps used are runs =
    let it = filled parts steps used are runs in
    let long : length (places_in steps) ≡ used = long_in steps ∙ sym (used_is parts steps used are runs) in
    sym (take_at (places_in steps) it.behind used long) ∙ ap (take used) it.places
