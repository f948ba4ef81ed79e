-- When bytes begin with a header.
use Rattle.std.proofs.Common.{◌≡◌, ℕ, ◌+◌, Bool, true, false, cond, List, ◌∷◌, ◌++◌, length, get_or, ltb, Option, Some, None}
use Rattle.std.proofs.Common.{Err, refl, sym, ap, ◌∙◌, arith, append_assoc, length-append}
use Rattle.std.proofs.lemmas.Bool.{le-ltb}
use Rattle.std.proofs.lemmas.List.{length-replicate}
use Rattle.file_format.specs.Format.{IsBytes}
use Rattle.file_format.specs.Kinds.{number32, number64, zeros, fixed}
use Rattle.file_format.specs.Identities.{identity}
use Rattle.file_format.specs.Reading.{Takes}
use Rattle.file_format.specs.Starts.{is_closed, is_other}
use Rattle.file_format.specs.Versions.{version, version_bytes, version_of}
use Rattle.file_format.specs.declared.version.Version.{Version}
use Rattle.file_format.specs.declared.version.Version.TheVariants.{One, Two}
use Rattle.file_format.specs.declared.error.ReadError.{ReadError}
use Rattle.file_format.specs.declared.error.ReadError.TheVariants.{Bad, Memory}
use Rattle.snap_diff.specs.declared.header.DiffHeader.{DiffHeader}
use Rattle.snap_diff.specs.declared.header.DiffNames.{DiffNames}
use Rattle.snap_diff.specs.Headers.{are_names, behind_gate, counts, header, kind, magic, names}
use Rattle.snap_diff.specs.Diffs.{Begins, Found}
use Rattle.snap_diff.specs.Found.{diff_front, header_read, rest_read}
use Rattle.refusals.specs.declared.refusal.Refusal.TheVariants as refusal

pub begun_reads : (given : List ℕ) (h : DiffHeader) (b : Begins given h) → header.reads given ≡ Some (h, b.behind)
begun_reads given h b = ap header.reads b.bytes ∙ header.again h b.behind b.fits

-- a read that was given up
pub stuck : (e : ReadError) (given left : List ℕ) → Takes header given left (Err e) → Found given (Err e)
stuck Bad given left e = λ h b. let f = begun_reads given h b in absurd cc
stuck Memory given left e = tt

pub not_valid : (given : List ℕ) (h : DiffHeader) (rest : List ℕ) (b : Bool) → header.reads given ≡ Some (h, rest)
    → b ≡ are_names h.names → b ≡ false → (g : DiffHeader) → ¬ (Begins given g)
not_valid given h rest b e b-is falls g begins =
    let f = begun_reads given g begins in
    let same : ◌≡◌ {A = DiffHeader × List ℕ} (h, rest) (g, begins.behind) = cc in
    let one : are_names h.names ≡ are_names g.names = ap (λ (p : DiffHeader × List ℕ). are_names p.0.names) same in
    let fails : are_names g.names ≡ false = sym one ∙ sym b-is ∙ falls in
    let passes : are_names g.names ≡ true = begins.valid in
    absurd cc

pub begun : (given : List ℕ) (h : DiffHeader) (rest : List ℕ) (b : Bool) → IsBytes given
    → header.reads given ≡ Some (h, rest) → b ≡ are_names h.names → b ≡ true → Begins given h
begun given h rest b is e b-is holds =
    let takes = header.only given h rest is e in
    record { fits = takes.0; valid = sym b-is ∙ holds; behind = rest; bytes = takes.1 }

-- ---- the length

length_version : (v : Version) → length (version.bytes v) ≡ 4
unfolding version number32
length_version One = refl
length_version Two = refl

length_counts : (v : Version) (c : ℕ × ℕ) → length ((counts v).bytes c) ≡ 16
unfolding counts number32 zeros
length_counts One c = let nothing : ℕ = 0 in omega (arith, length-replicate 12 nothing)
length_counts Two c = let nothing : ℕ = 0 in omega (arith, length-replicate 8 nothing)

length_names : (n : DiffNames) → length (names.bytes n) ≡ 36
unfolding names identity number32 number64
length_names n = refl

parted : (h : DiffHeader) → header.bytes h ≡ 1 ∷ kind ++ ((version.bytes h.version ++ names.bytes h.names) ++ (counts h.version).bytes (h.count, h.stored))
unfolding header behind_gate fixed
parted h = refl

pub length-header : (h : DiffHeader) → length (header.bytes h) ≡ 64
length-header h =
    let v : Version = h.version in
    omega (
      arith,
      ap length (parted h),
      length-append (version.bytes v ++ names.bytes h.names) ((counts v).bytes (h.count, h.stored)),
      length-append (version.bytes v) (names.bytes h.names),
      length_version v,
      length_names h.names,
      length_counts v (h.count, h.stored),
    )

-- ---- one header

pub one_header : (given : List ℕ) (g h : DiffHeader) → Begins given g → Begins given h → g ≡ h
one_header given g h b c =
    let first = begun_reads given g b in
    let second = begun_reads given h c in
    let same : (g, b.behind) ≡ (h, c.behind) = cc in
    ap (λ (p : DiffHeader × List ℕ). p.0) same

-- the header begins with the gate and the magic
version_is : (v : Version) → version.bytes v ≡ version_bytes v
unfolding version number32
version_is One = refl
version_is Two = refl

pub begins_so : (h : DiffHeader) → (rest : List ℕ) × (header.bytes h ≡ 1 ∷ magic h.version ++ rest)
begins_so h =
    let v : Version = h.version in
    let last : List ℕ = (counts v).bytes (h.count, h.stored) in (
      names.bytes h.names ++ last,
      parted h
          ∙ ap (λ (b : List ℕ). 1 ∷ kind ++ ((b ++ names.bytes h.names) ++ last)) (version_is v)
          ∙ ap (λ (b : List ℕ). 1 ∷ kind ++ b) (append_assoc (version_bytes v) (names.bytes h.names) last),
    )

pub starts : (given : List ℕ) (h : DiffHeader) → Begins given h → (rest : List ℕ) × (given ≡ 1 ∷ magic h.version ++ rest)
starts given h b =
    let f = begins_so h in (
      f.0 ++ b.behind,
      b.bytes
          ∙ ap (λ (bs : List ℕ). bs ++ b.behind) f.1
          ∙ ap (λ (bs : List ℕ). 1 ∷ kind ++ bs) (append_assoc (version_bytes h.version) f.0 b.behind),
    )

pub opened : (given : List ℕ) (h : DiffHeader) → Begins given h → is_closed 64 given ≡ false
opened given h b =
    let f = starts given h b in
    let size : length given ≡ 64 + length b.behind = omega (arith, ap length b.bytes, length-header h, length-append (header.bytes h) b.behind) in
    let long : ltb (length given) 64 ≡ false = le-ltb _ _ (omega arith) in
    let first : get_or given 0 0 ≡ 1 = ap (λ (bs : List ℕ). get_or bs 0 0) f.1 in
    rw (long, first) refl

-- the version is the header's
of_version : (v : Version) (more : List ℕ) → version_of (1 ∷ magic v ++ more) ≡ v
of_version One more = refl
of_version Two more = refl

same_magic : (v : Version) (more : List ℕ) → is_other (magic v) (1 ∷ magic v ++ more) ≡ false
same_magic One more = refl
same_magic Two more = refl

pub its_version : (given : List ℕ) (h : DiffHeader) → Begins given h → version_of given ≡ h.version
its_version given h b = let f = starts given h b in ap version_of f.1 ∙ of_version h.version f.0

pub known : (given : List ℕ) (h : DiffHeader) → Begins given h → is_other (magic (version_of given)) given ≡ false
known given h b =
    let f = starts given h b in
    ap (λ (v : Version). is_other (magic v) given) (its_version given h b)
    ∙ ap (is_other (magic h.version)) f.1
    ∙ same_magic h.version f.0

-- ---- what is found by a front

-- a front with a header: the rest decides
pub front_read : (front rest : List ℕ) (h : DiffHeader) → Begins front h → diff_front front rest ≡ rest_read h rest
front_read front rest h b =
    ap (λ (c : Bool). cond c (Err refusal.GateClosed) (cond (is_other (magic (version_of front)) front) (Err refusal.WrongMagic) (header_read rest (header.reads front)))) (opened front h b)
    ∙ ap (λ (c : Bool). cond c (Err refusal.WrongMagic) (header_read rest (header.reads front))) (known front h b)
    ∙ ap (header_read rest) (begun_reads front h b)
    ∙ ap (λ (c : Bool). cond c (rest_read h rest) (Err refusal.BadField)) b.valid

pub front_closed : (front rest : List ℕ) → is_closed 64 front ≡ true → diff_front front rest ≡ Err refusal.GateClosed
front_closed front rest closed =
    ap (λ (c : Bool). cond c (Err refusal.GateClosed) (cond (is_other (magic (version_of front)) front) (Err refusal.WrongMagic) (header_read rest (header.reads front)))) closed

pub front_other : (front rest : List ℕ) → is_closed 64 front ≡ false → is_other (magic (version_of front)) front ≡ true → diff_front front rest ≡ Err refusal.WrongMagic
front_other front rest opens other =
    ap (λ (c : Bool). cond c (Err refusal.GateClosed) (cond (is_other (magic (version_of front)) front) (Err refusal.WrongMagic) (header_read rest (header.reads front)))) opens
    ∙ ap (λ (c : Bool). cond c (Err refusal.WrongMagic) (header_read rest (header.reads front))) other

module _ (front rest : List ℕ) (bytes : IsBytes front) (none : (h : DiffHeader) → ¬ (Begins front h)) where
  by_rules : (h : DiffHeader) (left : List ℕ) → header.reads front ≡ Some (h, left) → (c : Bool) → are_names h.names ≡ c → header_read rest (Some (h, left)) ≡ Err refusal.BadField
  by_rules h left is true valid = absurd (none h (begun front h left true bytes is (sym valid) refl))
  by_rules h left is false broken = ap (λ (c : Bool). cond c (rest_read h rest) (Err refusal.BadField)) broken

  by_read : (o : Option (DiffHeader × List ℕ)) → header.reads front ≡ o → header_read rest o ≡ Err refusal.BadField
  by_read None is = refl
  by_read (Some (h, left)) is = by_rules h left is (are_names h.names) refl

  pub front_bad : is_closed 64 front ≡ false → is_other (magic (version_of front)) front ≡ false → diff_front front rest ≡ Err refusal.BadField
  front_bad opens same =
      ap (λ (c : Bool). cond c (Err refusal.GateClosed) (cond (is_other (magic (version_of front)) front) (Err refusal.WrongMagic) (header_read rest (header.reads front)))) opens
      ∙ ap (λ (c : Bool). cond c (Err refusal.WrongMagic) (header_read rest (header.reads front))) same
      ∙ by_read (header.reads front) refl
