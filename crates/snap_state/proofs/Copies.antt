-- When bytes hold a copy.
use Rattle.std.proofs.Common.{◌≡◌, ℕ, ◌+◌, Bool, true, false, ◌&&◌, get_or, eqb, ltb, List, [], ◌∷◌, ◌++◌, length, drop, Some, None, Err, refl, sym, ap, subst, ◌∙◌, append_assoc, arith}
use Rattle.std.specs.Prelude.{IsTrue}
use Rattle.std.proofs.lemmas.Bool.{eqb-true, eq-eqb, le-ltb, and_parts}
use Rattle.std.proofs.lemmas.List.{append-nil, nil_from_length}
use Rattle.vm_types.specs.declared.identity.Identity.{Identity}
use Rattle.file_format.specs.Format.{IsBytes}
use Rattle.file_format.specs.Kinds.{number32, number64}
use Rattle.file_format.specs.Identities.{identity, is_numbered}
use Rattle.file_format.specs.Reading.{Takes}
use Rattle.file_format.specs.Starts.{is_closed, is_other}
use Rattle.file_format.specs.Versions.{current_version, version_of}
use Rattle.file_format.specs.declared.version.Version.{Version}
use Rattle.file_format.specs.declared.version.Version.TheVariants.{One, Two}
use Rattle.file_format.specs.declared.error.ReadError.{ReadError}
use Rattle.file_format.specs.declared.error.ReadError.TheVariants.{Bad, Memory}
use Rattle.snap_state.specs.declared.copy.StateCopy.{StateCopy}
use Rattle.snap_state.specs.declared.file.Saved.{Saved}
use Rattle.snap_state.specs.Copies.{state_copy}
use Rattle.snap_state.specs.Valid.{is_valid}
use Rattle.snap_state.specs.Files.{magic, contents, contents_of, Encodes, Holds, Found, is_accepted}

-- what is held is read, to its end
held_reads : (v : Version) (rest : List ℕ) (s : Saved) → Holds v rest s → (contents v).reads rest ≡ Some (contents_of v s, [])
held_reads v rest s h =
    ap (contents v).reads (h.bytes ∙ sym (append-nil ((contents v).bytes (contents_of v s))))
    ∙ (contents v).again (contents_of v s) [] h.saved.fits

pub not_held : (v : Version) (rest : List ℕ) → (contents v).reads rest ≡ None → (s : Saved) → ¬ (Holds v rest s)
not_held v rest e s h = let f = held_reads v rest s h in absurd cc

-- the length of what stands behind gate and magic
pub length-contents : (v : Version) (len : ℕ) (i : Identity) (c : StateCopy)
    → length ((contents v).bytes (len, (i, c))) ≡ 20 + length ((state_copy v).bytes c)
unfolding number32 number64 identity
length-contents v len i c = omega arith

all_true : (a b c : Bool) → a ≡ true → b ≡ true → c ≡ true → (a && b && c) ≡ true
all_true a b c p q r = rw (p, q, r) refl

held_accepted : (v : Version) (rest : List ℕ) (s : Saved) → Holds v rest s
    → is_accepted (length rest) 0 (length ((state_copy v).bytes s.copy)) s.identity s.copy ≡ true
held_accepted v rest s h =
    let size : length rest ≡ 20 + length ((state_copy v).bytes s.copy) =
    ap length h.bytes ∙ length-contents v (length ((state_copy v).bytes s.copy)) s.identity s.copy in
    all_true (eqb (length ((state_copy v).bytes s.copy) + 20) (length rest)) (is_numbered s.identity) (is_valid s.copy)
    (eq-eqb _ _ (omega arith)) h.saved.numbered h.saved.valid

pub not_accepted : (v : Version) (rest : List ℕ) (len : ℕ) (i : Identity) (c : StateCopy) (left : List ℕ)
    → (contents v).reads rest ≡ Some ((len, (i, c)), left)
    → (n : ℕ) (b : Bool) → n ≡ length left → b ≡ is_accepted (length rest) n len i c → b ≡ false → (s : Saved) → ¬ (Holds v rest s)
not_accepted v rest len i c left e n b n-is b-is falls s h =
    let fails : is_accepted (length rest) (length left) len i c ≡ false = ap (λ k. is_accepted (length rest) k len i c) (sym n-is) ∙ sym b-is ∙ falls in
    let found = held_reads v rest s h in
    let same : ((len, (i, c)), left) ≡ (contents_of v s, []) = cc in
    let test : (ℕ × (Identity × StateCopy)) × List ℕ → Bool = λ p. is_accepted (length rest) (length p.1) p.0.0 p.0.1.0 p.0.1.1 in
    let accepts : is_accepted (length rest) (length left) len i c ≡ true = ap test same ∙ held_accepted v rest s h in
    absurd cc

pub accepted : (v : Version) (rest : List ℕ) (len : ℕ) (i : Identity) (c : StateCopy) (left : List ℕ) → IsBytes rest
    → (contents v).reads rest ≡ Some ((len, (i, c)), left)
    → (n : ℕ) (b : Bool) → n ≡ length left → b ≡ is_accepted (length rest) n len i c → b ≡ true
    → Holds v rest (record { identity = i; copy = c })
accepted v rest len i c left is e n b n-is b-is holds =
    let passes : is_accepted (length rest) (length left) len i c ≡ true = ap (λ k. is_accepted (length rest) k len i c) (sym n-is) ∙ sym b-is ∙ holds in
    let p3 = and_parts _ (is_valid c) passes in
    let p2 = and_parts _ (is_numbered i) p3.0 in
    let p1 = and_parts (eqb (length left) 0) (eqb (len + 20) (length rest)) p2.0 in
    let none : left ≡ [] = nil_from_length left (eqb-true _ _ p1.0) in
    let takes = (contents v).only rest (len, (i, c)) left is e in
    let whole : rest ≡ (contents v).bytes (len, (i, c)) =
    takes.1 ∙ ap (λ (x : List ℕ). (contents v).bytes (len, (i, c)) ++ x) none ∙ append-nil ((contents v).bytes (len, (i, c))) in
    let size : length rest ≡ 20 + length ((state_copy v).bytes c) = ap length whole ∙ length-contents v len i c in
    let counted : len + 20 ≡ length rest = eqb-true _ _ p1.1 in
    let len-is : len ≡ length ((state_copy v).bytes c) = omega arith in
    subst (λ (n : ℕ). (contents v).Fits (n, (i, c)) → rest ≡ (contents v).bytes (n, (i, c)) → Holds v rest (record { identity = i; copy = c })) (sym len-is)
    (λ fits bytes. record { saved = record { fits = fits; valid = p3.1; numbered = p2.1 }; bytes = bytes }) takes.0 whole

-- a read that was given up
pub stuck : (v : Version) (e : ReadError) (rest left : List ℕ) → Takes (contents v) rest left (Err e) → Found v rest (Err e)
stuck v Bad rest left e = not_held v rest e
stuck v Memory rest left e = tt

-- ---- gate and magic

pub behind_magic : (v : Version) (rest : List ℕ) → drop 12 (1 ∷ magic v ++ rest) ≡ rest
behind_magic One rest = refl
behind_magic Two rest = refl

long_magic : (v : Version) (rest : List ℕ) → length (1 ∷ magic v ++ rest) ≡ 12 + length rest
long_magic One rest = omega arith
long_magic Two rest = omega arith

same_magic : (v : Version) (rest : List ℕ) → is_other (magic v) (1 ∷ magic v ++ rest) ≡ false
same_magic One rest = refl
same_magic Two rest = refl

-- ---- the whole file

regroup : (a b c d : List ℕ) → ((a ++ b) ++ c) ++ d ≡ a ++ (b ++ (c ++ d))
regroup a b c d = simp append_assoc

-- what was written is the encoding
pub encoded : (i : Identity) (c : StateCopy) (body behind : List ℕ) → body ≡ (state_copy current_version).puts c []
    → (state_copy current_version).Fits c → number32.Fits (length body) → identity.Fits i
    → IsTrue (is_valid c) → IsTrue (is_numbered i)
    → behind ≡ identity.puts i (number32.puts (length body) (magic current_version)) ++ body
    → Encodes (1 ∷ behind) (record { identity = i; copy = c })
encoded i c body behind written fits fits_len fits_identity valid numbered behind-is =
    let start : List ℕ = magic current_version in
    let body-is : body ≡ (state_copy current_version).bytes c = written ∙ (state_copy current_version).same c [] in
    let puts : identity.puts i (number32.puts (length body) start) ≡ (start ++ number32.bytes (length body)) ++ identity.bytes i =
    identity.same i (number32.puts (length body) start)
    ∙ ap (λ (x : List ℕ). x ++ identity.bytes i) (number32.same (length body) start) in
    let whole : behind ≡ start ++ (number32.bytes (length body) ++ (identity.bytes i ++ body)) =
    behind-is ∙ ap (λ (x : List ℕ). x ++ body) puts ∙ regroup start (number32.bytes (length body)) (identity.bytes i) body in
    subst (λ (b : List ℕ). number32.Fits (length b) → behind ≡ start ++ (number32.bytes (length b) ++ (identity.bytes i ++ b)) → Encodes (1 ∷ behind) (record { identity = i; copy = c })) (sym body-is)
    (λ fits_len' whole'. subst (λ (l : List ℕ). Encodes (1 ∷ l) (record { identity = i; copy = c })) (sym whole')
    (record { saved = record { fits = (fits_len', (fits_identity, fits)); valid = valid; numbered = numbered }; bytes = refl })) fits_len whole

-- and they say the version that is written
pub says_current : (i : Identity) (body behind : List ℕ) → behind ≡ identity.puts i (number32.puts (length body) (magic current_version)) ++ body
    → version_of (1 ∷ behind) ≡ current_version
says_current i body behind is =
    let start : List ℕ = magic current_version in
    let puts : identity.puts i (number32.puts (length body) start) ≡ (start ++ number32.bytes (length body)) ++ identity.bytes i =
    identity.same i (number32.puts (length body) start)
    ∙ ap (λ (x : List ℕ). x ++ identity.bytes i) (number32.same (length body) start) in
    let whole : behind ≡ start ++ (number32.bytes (length body) ++ (identity.bytes i ++ body)) =
    is ∙ ap (λ (x : List ℕ). x ++ body) puts ∙ regroup start (number32.bytes (length body)) (identity.bytes i) body in
    ap (λ (l : List ℕ). version_of (1 ∷ l)) whole

-- ---- one copy

held : (given : List ℕ) (s : Saved) → Encodes given s → Holds (version_of given) (drop 12 given) s
held given s e = record {
  saved = e.saved;
  bytes = ap (drop 12) e.bytes ∙ behind_magic (version_of given) ((contents (version_of given)).bytes (contents_of (version_of given) s));
}

pub one : (given : List ℕ) (s t : Saved) → Encodes given s → Encodes given t → s ≡ t
one given s t e f =
    let v = version_of given in
    let first = held_reads v (drop 12 given) s (held given s e) in
    let second = held_reads v (drop 12 given) t (held given t f) in
    let same : (contents_of v s, []) ≡ (contents_of v t, []) = cc in
    let back : (ℕ × (Identity × StateCopy)) × List ℕ → Saved = λ p. record { identity = p.0.1.0; copy = p.0.1.1 } in
    ap back same

pub one_file : (first second : List ℕ) (s : Saved) → Encodes first s → Encodes second s → version_of first ≡ version_of second
    → first ≡ second
one_file first second s e f same =
    e.bytes ∙ ap (λ (v : Version). 1 ∷ magic v ++ (contents v).bytes (contents_of v s)) same ∙ sym f.bytes

pub opened : (given : List ℕ) (s : Saved) → Encodes given s → is_closed 32 given ≡ false
opened given s e =
    let v = version_of given in
    let size : length given ≡ 32 + length ((state_copy v).bytes s.copy) =
    omega (arith, ap length e.bytes, long_magic v ((contents v).bytes (contents_of v s)), length-contents v (length ((state_copy v).bytes s.copy)) s.identity s.copy) in
    let long : ltb (length given) 32 ≡ false = le-ltb _ _ (omega arith) in
    let first : get_or given 0 0 ≡ 1 = ap (λ (bs : List ℕ). get_or bs 0 0) e.bytes in
    rw (long, first) refl

pub known : (given : List ℕ) (s : Saved) → Encodes given s → is_other (magic (version_of given)) given ≡ false
known given s e =
    ap (is_other (magic (version_of given))) e.bytes ∙ same_magic (version_of given) ((contents (version_of given)).bytes (contents_of (version_of given) s))
