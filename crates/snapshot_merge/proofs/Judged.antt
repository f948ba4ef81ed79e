-- What bytes are judged as is what they are found as.
use Rattle.std.proofs.Common.{◌≡◌, ℕ, ◌+◌, ◌==◌, ◌≤◌, Bool, true, false, cond, List, ◌++◌, length, drop, take, Option, Some, None}
use Rattle.std.proofs.Common.{Ok, Err, refl, sym, ap, subst, ◌∙◌, arith, length-append}
use Rattle.std.specs.Prelude.{IsTrue}
use Rattle.std.proofs.lemmas.Bool.{eq-eqb, ne_eqb}
use Rattle.std.proofs.lemmas.List.{drop-drop, drop-take, length-drop, length-take, length-take-le, take-append-drop}
use Rattle.refusals.specs.declared.refusal.Refusal.TheVariants as refusal
use Rattle.file_format.specs.Format.{IsBytes}
use Rattle.file_format.specs.Kinds.{times}
use Rattle.file_format.specs.Starts.{Decodes, is_closed, is_other}
use Rattle.file_format.specs.Versions.{version_of}
use Rattle.file_format.specs.declared.version.Version.{Version}
use Rattle.file_format.specs.declared.version.Version.TheVariants.{Two}
use Rattle.file_format.specs.declared.error.DecodeError.{DecodeError}
use Rattle.snap_memory.specs.declared.header.MemHeader.{MemHeader}
use Rattle.snap_memory.specs.Headers as memory
use Rattle.snap_memory.proofs.Fronts as memory_fronts
use Rattle.snap_diff.specs.declared.header.DiffHeader.{DiffHeader}
use Rattle.snap_diff.specs.declared.run.Run.{Run}
use Rattle.snap_diff.specs.Headers.{header, magic}
use Rattle.snap_diff.specs.Diffs.{Begins, DiffParts, IsDiffFile, IsTable, are_stored, copy_of, entry, is_table, size_behind, table_bytes, table_size}
use Rattle.snap_diff.specs.Found.{diff_found, pages_read, table_read}
use Rattle.snap_diff.specs.Runs.{kinds_of}
use Rattle.snap_diff.proofs.Files.{Fit, all_valid, bytes_of_parts, fits_of, made, whole_front, whole_table}
use Rattle.snap_diff.proofs.Filled.{all_of}
use Rattle.snap_diff.proofs.Fronts as fronts
use Rattle.snap_diff.proofs.Tables.{bytes_behind, table_only, table_reads}
use Rattle.snapshot_merge.specs.declared.finding.DiffStart.{DiffStart}
use Rattle.snapshot_merge.specs.Answering.{Answers, HasTable, IsStartOf, Same, StartJudged, refused_by}
use Rattle.snapshot_merge.specs.Bases.{base_front, base_read, base_sized}
use Rattle.snapshot_merge.specs.Rebasing.{RebaseCause}

-- the refusal of bytes is no fault
pub refused_cause : (T : Type 0) (why : DecodeError) (n : ℕ) → RebaseCause {T = T} (Err (refused_by why)) n n
refused_cause T DecodeError.GateClosed n = refl
refused_cause T DecodeError.WrongMagic n = refl
refused_cause T DecodeError.BadField n = refl
refused_cause T DecodeError.OutOfMemory n = refl

-- ---- a base

pub base_good : (size : ℕ) (front : List ℕ) (h : MemHeader) → memory.Begins front h → base_front size front ≡ base_sized size h
base_good size front h b =
    ap (λ (c : Bool). cond c (Err refusal.GateClosed) (cond (is_other memory.magic front) (Err refusal.WrongMagic) (base_read size (memory.header.reads front)))) (memory_fronts.opened front h b)
    ∙ ap (λ (c : Bool). cond c (Err refusal.WrongMagic) (base_read size (memory.header.reads front))) (memory_fronts.known front h b)
    ∙ ap (base_read size) (ap memory.header.reads b.bytes ∙ memory.header.again h b.pages b.fits)
    ∙ ap (λ (c : Bool). cond c (base_sized size h) (Err refusal.BadField)) b.valid

module _ (size : ℕ) (front : List ℕ) (bytes : IsBytes front) (none : (h : MemHeader) → memory.Begins front h → ⊥) where
  by_rules : (h : MemHeader) (left : List ℕ) → memory.header.reads front ≡ Some (h, left) → (c : Bool) → memory.is_valid h ≡ c → base_read size (Some (h, left)) ≡ Err refusal.BadField
  by_rules h left is true valid = absurd (none h (memory_fronts.begun front h left true bytes is (sym valid) refl))
  by_rules h left is false broken = ap (λ (c : Bool). cond c (base_sized size h) (Err refusal.BadField)) broken

  base_bad : (o : Option (MemHeader × List ℕ)) → memory.header.reads front ≡ o → base_read size o ≡ Err refusal.BadField
  base_bad None is = refl
  base_bad (Some (h, left)) is = by_rules h left is (memory.is_valid h) refl

pub base_refused : (size : ℕ) (front : List ℕ) (why : DecodeError) → IsBytes front → Decodes 4096 memory.magic memory.Begins front (Err why)
    → Answers {A = MemHeader} Same (Err (refused_by why)) (base_front size front)
base_refused size front DecodeError.GateClosed bytes closed =
    ap (λ (c : Bool). cond c (Err refusal.GateClosed) (cond (is_other memory.magic front) (Err refusal.WrongMagic) (base_read size (memory.header.reads front)))) closed
base_refused size front DecodeError.WrongMagic bytes (opens, other) =
    ap (λ (c : Bool). cond c (Err refusal.GateClosed) (cond (is_other memory.magic front) (Err refusal.WrongMagic) (base_read size (memory.header.reads front)))) opens
    ∙ ap (λ (c : Bool). cond c (Err refusal.WrongMagic) (base_read size (memory.header.reads front))) other
base_refused size front DecodeError.BadField bytes (opens, known, none) =
    ap (λ (c : Bool). cond c (Err refusal.GateClosed) (cond (is_other memory.magic front) (Err refusal.WrongMagic) (base_read size (memory.header.reads front)))) opens
    ∙ ap (λ (c : Bool). cond c (Err refusal.WrongMagic) (base_read size (memory.header.reads front))) known
    ∙ base_bad size front bytes none (memory.header.reads front) refl
base_refused size front DecodeError.OutOfMemory bytes free = tt

-- ---- a diff by its front

pub start_refused : (given front : List ℕ) (why : DecodeError) → front ≡ take 64 given → IsBytes front → Decodes 64 (magic (version_of front)) Begins front (Err why)
    → StartJudged given (Err (refused_by why))
start_refused given front DecodeError.GateClosed is bytes closed =
    fronts.front_closed (take 64 given) (drop 64 given) (subst (λ (l : List ℕ). is_closed 64 l ≡ true) is closed)
start_refused given front DecodeError.WrongMagic is bytes (opens, other) =
    fronts.front_other (take 64 given) (drop 64 given) (subst (λ (l : List ℕ). is_closed 64 l ≡ false) is opens) (subst (λ (l : List ℕ). is_other (magic (version_of l)) l ≡ true) is other)
start_refused given front DecodeError.BadField is bytes (opens, known, none) =
    fronts.front_bad (take 64 given) (drop 64 given) (subst IsBytes is bytes) (subst (λ (l : List ℕ). (h : DiffHeader) → ¬ (Begins l h)) is none)
    (subst (λ (l : List ℕ). is_closed 64 l ≡ false) is opens) (subst (λ (l : List ℕ). is_other (magic (version_of l)) l ≡ false) is known)
start_refused given front DecodeError.OutOfMemory is bytes free = tt

-- it hasn't as many bytes as its header says
pub other_size : (given : List ℕ) (h : DiffHeader) → Begins (take 64 given) h → (length given ≡ 64 + size_behind h → ⊥)
    → diff_found (Some given) ≡ Err refusal.BadField
other_size given h b other =
    let long : 64 ≤ length (take 64 given) = omega (arith, ap length b.bytes, length-append (header.bytes h) b.behind, fronts.length-header h) in
    let differs : (length (drop 64 given) == size_behind h) ≡ false = ne_eqb _ _ (λ same. other (omega (arith, same, length-drop 64 given, long, length-take 64 given))) in
    fronts.front_read (take 64 given) (drop 64 given) h b
    ∙ ap (λ (c : Bool). cond c (table_read h (drop (table_size h) (drop 64 given)) ((times h.count (entry h.version)).reads (take (table_size h) (drop 64 given)))) (Err refusal.BadField)) differs

-- ---- and by its table

module _ (given : List ℕ) (h : DiffHeader) (b : Begins (take 64 given) h) (size : length given ≡ 64 + size_behind h) where
  abbrev rest : List ℕ
  rest = drop 64 given

  abbrev table : List ℕ
  table = take (table_size h) (drop 64 given)

  abbrev pages : List ℕ
  pages = drop (table_size h) (drop 64 given)

  rest_size : length rest ≡ size_behind h
  rest_size = omega (arith, length-drop 64 given, size)

  pub long_table : length table ≡ table_size h
  long_table = length-take-le (table_size h) rest (omega (arith, rest_size))

  found_as : diff_found (Some given) ≡ table_read h pages ((times h.count (entry h.version)).reads table)
  found_as =
      fronts.front_read (take 64 given) rest h b
      ∙ ap (λ (c : Bool). cond c (table_read h pages ((times h.count (entry h.version)).reads table)) (Err refusal.BadField)) (eq-eqb _ _ rest_size)

  found_by : (runs : List Run) → IsTable h table runs → diff_found (Some given) ≡ pages_read h runs pages
  found_by runs is =
      found_as
      ∙ ap (λ (l : List ℕ). table_read h pages ((times h.count (entry h.version)).reads l)) is.bytes
      ∙ ap (table_read h pages) (table_reads h.version runs h.count is.fit is.count)
      ∙ ap (λ (c : Bool). cond c (pages_read h runs pages) (Err refusal.BadField)) is.valid

  -- it is the table of no runs
  module _ (bytes : IsBytes table) (none : (runs : List Run) → IsTable h table runs → ⊥) where
    runs_bad : (runs : List Run) (left : List ℕ) → (times h.count (entry h.version)).reads table ≡ Some (runs, left) → (c : Bool) → is_table h runs ≡ c
        → table_read h pages (Some (runs, left)) ≡ Err refusal.BadField
    runs_bad runs left is true valid =
        let takes = table_only h.version h.count table left runs bytes is in
        absurd (none runs (record { count = takes.0; fit = takes.1.0; bytes = whole_table h.version runs table left h.count long_table takes.0 takes.1.1; valid = valid }))
    runs_bad runs left is false broken = ap (λ (c : Bool). cond c (pages_read h runs pages) (Err refusal.BadField)) broken

    reads_bad : (o : Option (List Run × List ℕ)) → (times h.count (entry h.version)).reads table ≡ o → table_read h pages o ≡ Err refusal.BadField
    reads_bad None is = refl
    reads_bad (Some (runs, left)) is = runs_bad runs left is (is_table h runs) refl

    pub table_bad : diff_found (Some given) ≡ Err refusal.BadField
    table_bad = found_as ∙ reads_bad ((times h.count (entry h.version)).reads table) refl

-- a table in the place that was read
place_is : (given bytes slice : List ℕ) (n : ℕ) → slice ≡ drop 64 bytes → bytes ≡ take (64 + n) given → slice ≡ take n (drop 64 given)
place_is given bytes slice n is front = is ∙ ap (drop 64) front ∙ drop-take 64 n given

pub table_there : (given bytes slice : List ℕ) (h : DiffHeader) (runs : List Run) → slice ≡ drop 64 bytes → bytes ≡ take (64 + table_size h) given
    → IsTable h slice runs → IsTable h (take (table_size h) (drop 64 given)) runs
table_there given bytes slice h runs is front table =
    subst (λ (l : List ℕ). IsTable h l runs) (place_is given bytes slice (table_size h) is front) table

pub table_lacks : (given bytes slice : List ℕ) (h : DiffHeader) → Begins (take 64 given) h → length given ≡ 64 + size_behind h → IsBytes bytes
    → slice ≡ drop 64 bytes → bytes ≡ take (64 + table_size h) given → ((runs : List Run) → IsTable h slice runs → ⊥)
    → diff_found (Some given) ≡ Err refusal.BadField
table_lacks given bytes slice h b size are is front none =
    let place = place_is given bytes slice (table_size h) is front in
    table_bad given h b size (subst IsBytes (sym is ∙ place) (bytes_behind 64 bytes are))
    (λ runs table. none runs (subst (λ (l : List ℕ). IsTable h l runs) (sym place) table))

-- ---- and by its stored pages

module _ (given : List ℕ) (h : DiffHeader) (runs : List Run) (has : HasTable given h runs) where
  abbrev stored_at : List ℕ
  stored_at = drop (table_size h) (drop 64 given)

  abbrev found : DiffParts
  found = record { header = h; runs = runs; stored = stored_at }

  fit : Fit found
  fit = record {
    head = has.begins.fits;
    count = has.table.count;
    fit = has.table.fit;
    size = omega (arith, has.size, length-drop 64 given, length-drop (table_size h) (drop 64 given));
  }

  shape : given ≡ header.bytes h ++ (table_bytes h.version runs ++ stored_at)
  shape =
      let front : take 64 given ≡ header.bytes h = whole_front h (take 64 given) has.begins.behind (omega (arith, length-take 64 given)) has.begins.bytes in
      sym (take-append-drop 64 given)
      ∙ ap (λ (l : List ℕ). l ++ drop 64 given) front
      ∙ ap (λ (l : List ℕ). header.bytes h ++ l) (sym (take-append-drop (table_size h) (drop 64 given)) ∙ ap (λ (l : List ℕ). l ++ stored_at) has.table.bytes)

  file : IsTrue (are_stored h.version h.stored stored_at) → IsDiffFile given (copy_of found)
  file full = made given found fit has.begins.valid has.table.valid full shape

  pub pages_good : are_stored h.version h.stored stored_at ≡ true → (start : DiffStart) → start.header ≡ h → start.runs ≡ runs
      → Answers (IsStartOf given) (Ok start) (diff_found (Some given))
  pages_good full start header_is runs_is = (
    copy_of found,
    (
      found_by given h has.begins has.size runs has.table
          ∙ ap (λ (c : Bool). cond c (Ok (copy_of found)) (Err refusal.BadField)) full,
      record {
        file = record {
          parts_of = found;
          fits = fits_of found fit;
          valid = all_valid found has.begins.valid has.table.valid full;
          bytes = shape ∙ sym (bytes_of_parts found);
          copy = refl;
        };
        header = header_is;
        runs = runs_is;
      },
    ),
  )

  pub pages_bad : are_stored h.version h.stored stored_at ≡ false → diff_found (Some given) ≡ Err refusal.BadField
  pages_bad broken =
      found_by given h has.begins has.size runs has.table
      ∙ ap (λ (c : Bool). cond c (Ok (copy_of found)) (Err refusal.BadField)) broken

  pub same_place : stored_at ≡ drop (64 + table_size h) given
  same_place = drop-drop (table_size h) 64 given

  -- they were looked at from this place on
  pub are_full : h.version ≡ Two → (n : ℕ) → n ≡ table_size h → (all b : Bool) → all ≡ all_of (kinds_of h.stored (drop (64 + n) given)) → all ≡ b
      → are_stored h.version h.stored stored_at ≡ b
  are_full two n same all b is known =
      ap (λ (v : Version). are_stored v h.stored stored_at) two
      ∙ ap (λ (l : List ℕ). all_of (kinds_of h.stored l)) (same_place ∙ ap (λ (m : ℕ). drop (64 + m) given) (sym same))
      ∙ sym is
      ∙ known
