-- The kinds of formats that files are made of. Each gives `Fits` and `bytes`, which say what is in a file; the rest is
-- how it is read, and why that is right (`Laws.antt`).
use Rattle.std.specs.Prelude.{◌≡◌, ℕ, ◌<◌, Bool, IsTrue, List, [], ◌∷◌, ◌++◌, length, replicate, Option, Some, IfSome}
use Rattle.std.specs.Prelude.{refl}
use Rattle.std.specs.List.{flat_map, AllByRecursion}
use Rattle.std.specs.Int.{Width, w16, w32, w64, to_le_bytes}
use Rattle.std.specs.Str.{is_utf8}
use Rattle.std.proofs.Common.{subst, sym, append_assoc}
use Rattle.std.proofs.lemmas.List.{append-nil}
use Rattle.file_format.specs.Format.{Format}
use Rattle.file_format.specs.Readers.{byte_at, front_at, number_at, then_at, pair_at, put_all, times_at, passing_at}
use Rattle.file_format.specs.Readers.{made_at, constant_at, nothing_at, nothing_else, zeros_at, flag_bytes, flag_at}
use Rattle.file_format.specs.Readers.{optional_bytes, optional_puts, optional_at}
use Rattle.file_format.specs.Laws.{byte_only, front_again, front_only, IsWide, wide16, wide32, wide64, number_again}
use Rattle.file_format.specs.Laws.{number_only, then_again, then_only, both_same, pair_again, pair_only, all_same}
use Rattle.file_format.specs.Laws.{list_same, times_again, times_only, passing_again, passing_only, made_again}
use Rattle.file_format.specs.Laws.{made_only, constant_again, constant_only, variant_again, variant_only, nothing_only}
use Rattle.file_format.specs.Laws.{zeros_again, zeros_only, flag_again, flag_only, optional_same, optional_again}
use Rattle.file_format.specs.Laws.{optional_only}

-- a number of 8 bits
unfoldable pub byte : Format ℕ
byte = record {
  Fits = λ n. n < 256;
  bytes = λ n. n ∷ [];
  puts = λ n out. out ++ n ∷ [];
  reads = byte_at;
  same = λ n out. refl;
  again = λ n rest fits. refl;
  only = byte_only;
}

-- a number of several bytes, the lowest first
abbrev pub number : (w : Width) (limit : ℕ) → IsWide w limit → Format ℕ
number w limit wide = record {
  Fits = λ n. n < limit;
  bytes = to_le_bytes w;
  puts = λ n out. out ++ to_le_bytes w n;
  reads = number_at w;
  same = λ n out. refl;
  again = number_again w limit wide;
  only = number_only w limit wide;
}

unfoldable pub number16 : Format ℕ
number16 = number w16 0x1_0000 wide16

unfoldable pub number32 : Format ℕ
number32 = number w32 0x1_0000_0000 wide32

unfoldable pub number64 : Format ℕ
number64 = number w64 0x1_0000_0000_0000_0000 wide64

-- so many bytes as they are
unfoldable pub raw : ℕ → Format (List ℕ)
raw n = record {
  Fits = λ v. length v ≡ n;
  bytes = λ v. v;
  puts = λ v out. out ++ v;
  reads = front_at n;
  same = λ v out. refl;
  again = λ v rest fits. front_again n v rest fits;
  only = λ given v rest is e. front_only n given v rest e;
}

-- one value and then another
infixr 6 ◌&◌
abbrev pub ◌&◌ : {A B : Type 0} → Format A → Format B → Format (A × B)
first & second = record {
  Fits = λ v. first.Fits v.0 × second.Fits v.1;
  bytes = λ v. first.bytes v.0 ++ second.bytes v.1;
  puts = λ v out. second.puts v.1 (first.puts v.0 out);
  reads = pair_at first.reads second.reads;
  same = λ v out. both_same first second v.0 v.1 out;
  again = λ v rest fits. pair_again first second v.0 v.1 rest fits.0 fits.1;
  only = pair_only first second;
}

-- so many values
unfoldable pub times : {A : Type 0} → ℕ → Format A → Format (List A)
times n item = record {
  Fits = λ vs. (length vs ≡ n) × AllByRecursion item.Fits vs;
  bytes = flat_map item.bytes;
  puts = put_all item.puts;
  reads = times_at item.reads n;
  same = all_same item;
  again = λ vs rest fits. subst (λ k. times_at item.reads k (flat_map item.bytes vs ++ rest) ≡ Some (vs, rest)) fits.0
      (times_again item vs rest fits.1);
  only = times_only item n;
}

-- A value, and then one whose format it chooses. The second gives the first back.
abbrev pub chosen_by : {A B : Type 0} (first : Format A) (second : A → Format B) (key : B → A)
    → ((a : A) (v : B) → (second a).Fits v → a ≡ key v) → Format B
chosen_by first second key law = record {
  Fits = λ v. first.Fits (key v) × (second (key v)).Fits v;
  bytes = λ v. first.bytes (key v) ++ (second (key v)).bytes v;
  puts = λ v out. (second (key v)).puts v (first.puts (key v) out);
  reads = then_at first.reads (λ a. (second a).reads);
  same = λ v out. both_same first (second (key v)) (key v) v out;
  again = λ v rest fits. then_again first second (key v) v rest fits.0 fits.1;
  only = λ given v rest is e.
      let r = then_only first second given v rest is e in
      subst (λ k. (first.Fits k × (second k).Fits v)
      × (given ≡ (first.bytes k ++ (second k).bytes v) ++ rest)) (law r.key v r.value_fits)
      ((r.key_fits, r.value_fits), r.parts);
}

-- a count of 32 bits, and so many values
unfoldable pub list_of : {A : Type 0} → Format A → Format (List A)
unfolding number32 times
list_of item =
    let whole = chosen_by number32 (λ n. times n item) length (λ n vs fits. sym fits.0) in
    record {
      Fits = λ vs. (length vs < 0x1_0000_0000) × AllByRecursion item.Fits vs;
      bytes = λ vs. to_le_bytes w32 (length vs) ++ flat_map item.bytes vs;
      puts = λ vs out. put_all item.puts vs (out ++ to_le_bytes w32 (length vs));
      reads = whole.reads;
      same = λ vs out. list_same item (to_le_bytes w32 (length vs)) vs out;
      again = λ vs rest fits. whole.again vs rest (fits.0, (refl, fits.1));
      only = λ given vs rest is e. let r = whole.only given vs rest is e in ((r.0.0, r.0.1.1), r.1);
    }

-- the same, of bytes
unfoldable pub byte_list : Format (List ℕ)
unfolding number32 raw
byte_list =
    let whole = chosen_by number32 raw length (λ n v fits. sym fits) in
    record {
      Fits = λ v. length v < 0x1_0000_0000;
      bytes = λ v. to_le_bytes w32 (length v) ++ v;
      puts = λ v out. (out ++ to_le_bytes w32 (length v)) ++ v;
      reads = whole.reads;
      same = λ v out. append_assoc out (to_le_bytes w32 (length v)) v;
      again = λ v rest fits. whole.again v rest (fits, refl);
      only = λ given v rest is e. let r = whole.only given v rest is e in (r.0.0, r.1);
    }

-- those values that pass a test
abbrev pub passing : {A : Type 0} → (A → Bool) → Format A → Format A
passing test inner = record {
  Fits = λ v. inner.Fits v × IsTrue (test v);
  bytes = inner.bytes;
  puts = inner.puts;
  reads = passing_at test inner.reads;
  same = inner.same;
  again = λ v rest fits. passing_again test inner v rest fits.0 fits.1;
  only = passing_only test inner;
}

-- text in UTF-8
unfoldable pub text : Format (List ℕ)
text = passing is_utf8 byte_list

-- a record, from its fields in order
abbrev pub made_of : {A B : Type 0} (to : B → A) (back : A → B) → ((b : B) → back (to b) ≡ b)
    → ((a : A) → a ≡ to (back a)) → Format A → Format B
made_of to back there here inner = record {
  Fits = λ v. inner.Fits (to v);
  bytes = λ v. inner.bytes (to v);
  puts = λ v. inner.puts (to v);
  reads = made_at back inner.reads;
  same = λ v. inner.same (to v);
  again = λ v rest fits. made_again to back inner v rest (there v) fits;
  only = made_only to back inner here;
}

-- a byte 0 or 1
unfoldable pub flag : Format Bool
flag = record {
  Fits = λ v. Unit {0};
  bytes = flag_bytes;
  puts = λ v out. out ++ flag_bytes v;
  reads = flag_at;
  same = λ v out. refl;
  again = λ v rest fits. flag_again v rest;
  only = λ given v rest is e. (tt, flag_only given v rest e);
}

-- a flag, and behind a 1 the value
unfoldable pub optional : {A : Type 0} → Format A → Format (Option A)
optional item = record {
  Fits = λ v. IfSome v item.Fits;
  bytes = optional_bytes item.bytes;
  puts = optional_puts item.puts;
  reads = optional_at item.reads;
  same = optional_same item;
  again = optional_again item;
  only = optional_only item;
}

-- one value, as these bytes
abbrev pub constant : {A : Type 0} → List ℕ → A → Format A
constant expected it = record {
  Fits = λ v. v ≡ it;
  bytes = λ v. expected;
  puts = λ v out. out ++ expected;
  reads = constant_at expected it;
  same = λ v out. refl;
  again = λ v rest fits. constant_again expected it v rest fits;
  only = λ given v rest is e. constant_only expected it given v rest e;
}

-- one value, as no byte
abbrev pub just : {A : Type 0} → A → Format A
just it = constant [] it

-- no value
abbrev pub nothing : {A : Type 0} → Format A
nothing = record {
  Fits = λ v. ⊥;
  bytes = λ v. [];
  puts = λ v out. out;
  reads = nothing_at;
  same = λ v out. sym (append-nil out);
  again = λ v rest fits. absurd fits;
  only = λ given v rest is e. nothing_only given v rest e;
}

-- the values of one variant, by its part
abbrev pub variant : {A B : Type 0} (make : A → B) (part : B → A) → ((a : A) → a ≡ part (make a)) → Format A → Format B
variant make part law inner = record {
  Fits = λ v. (v ≡ make (part v)) × inner.Fits (part v);
  bytes = λ v. inner.bytes (part v);
  puts = λ v. inner.puts (part v);
  reads = made_at make inner.reads;
  same = λ v. inner.same (part v);
  again = λ v rest fits. variant_again make part inner v rest fits.0 fits.1;
  only = variant_only make part inner law;
}

-- fixed bytes, which say nothing
unfoldable pub fixed : List ℕ → Format (Unit {0})
fixed expected = constant expected nothing_else

-- so many zeros
unfoldable pub zeros : ℕ → Format (Unit {0})
zeros n = record {
  Fits = λ v. Unit {0};
  bytes = λ v. replicate n 0;
  puts = λ v out. out ++ replicate n 0;
  reads = zeros_at n;
  same = λ v out. λ i. out ++ replicate n 0;
  again = λ v rest fits. zeros_again n v rest;
  only = λ given v rest is e. (tt, zeros_only n given v rest e);
}
