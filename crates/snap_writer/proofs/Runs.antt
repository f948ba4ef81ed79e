-- Blocks that are written one after another, and what is written behind a gate.
use Rattle.std.proofs.Common.{◌≡◌, ℕ, zero, suc, ◌+◌, ◌*◌, ◌-◌, ◌<◌, ◌≤◌, List, [], ◌∷◌, ◌++◌, length, take, drop, min, Some, refl, sym, ap, ◌∙◌, arith, append_assoc, length-drop, length-append, zero-add}
use Rattle.std.proofs.Math.Seq.{take-add}
use Rattle.std.proofs.lemmas.List.{append-nil, drop-drop, length-take, length-take-le, take-append-drop, take_all, take_at}
use Rattle.std.specs.FinMap.{get}
use Rattle.vm_types.specs.Saved.{written}
use Rattle.vm_outside.specs.Calls.{FileCall}
use Rattle.vm_outside.specs.Calls.FileCall.{Writing, Synced}
use Rattle.vm_outside.specs.Filing.{MayChange, SameFiles, Syncs, WritesAt}
use Rattle.vm_outside.specs.Known.{FilesKnown}
use Rattle.gate_file.specs.Gate.{close_calls, write_calls, behind_calls, fill_calls}
use Rattle.gate_file.specs.Runs.{RunsAll, RunsPart}
use Rattle.gate_file.proofs.Steps.{some_end, there_after, runs_none, runs_then, part_then, part_more, write_runs, sync_runs, call_part, sync_part, same_runs, same_part, written_end}
use Rattle.snap_writer.specs.Blocks.{block_size, block_writes}

-- the first blocks, and then the others
blocks_split : (a b at : ℕ) (bytes : List ℕ) → block_writes at (a + b) bytes ≡ block_writes at a bytes ++ block_writes (at + block_size * a) b (drop (block_size * a) bytes)
blocks_split zero b at bytes =
    let here : at ≡ at + block_size * 0 = omega arith in
    ap (λ (k : ℕ). block_writes at k bytes) (zero-add b) ∙ ap (λ (k : ℕ). block_writes k b bytes) here
blocks_split (suc a) b at bytes =
    let more : suc a + b ≡ suc (a + b) = omega arith in
    let place : at + block_size + block_size * a ≡ at + block_size * suc a = omega arith in
    let past : block_size + block_size * a ≡ block_size * suc a = omega arith in
    let rest : List ℕ = drop block_size bytes in
    ap (λ (k : ℕ). block_writes at k bytes) more
    ∙ ap (λ (l : List (ℕ × List ℕ)). (at, take block_size bytes) ∷ l) (
    blocks_split a b (at + block_size) rest
    ∙ ap (λ (k : ℕ). block_writes (at + block_size) a rest ++ block_writes k b (drop (block_size * a) rest)) place
    ∙ ap (λ (l : List ℕ). block_writes (at + block_size) a rest ++ block_writes (at + block_size * suc a) b l) (drop-drop (block_size * a) block_size bytes ∙ ap (λ (k : ℕ). drop k bytes) past)
    )

calls_append : (name : List ℕ) (a b : List (ℕ × List ℕ)) → write_calls name (a ++ b) ≡ write_calls name a ++ write_calls name b
calls_append name [] b = refl
calls_append name (w ∷ a) b = ap (λ (l : List FileCall). Writing name w.0 w.1 ∷ l) (calls_append name a b)

least : (n : ℕ) (xs : List ℕ) → take (min n (length xs)) xs ≡ take n xs
least n xs =
    let front : List ℕ = take n xs in
    ap (λ (k : ℕ). take k xs) (sym (length-take n xs)) ∙ ap (take (length front)) (sym (take-append-drop n xs)) ∙ take_at front (drop n xs) (length front) refl

-- a block that is gathered at the front of a buffer: so much of the rest as there is
pub gathered : (bytes block out : List ℕ) (done count : ℕ) → count ≡ min block_size (length bytes - done) → length block ≡ block_size → out ≡ take (length (take count block)) (drop done bytes)
    → take count (out ++ drop count block) ≡ take block_size (drop done bytes)
gathered bytes block out done count is room copied =
    let rest : List ℕ = drop done bytes in
    let size : length rest ≡ length bytes - done = length-drop done bytes in
    let held : length (take count block) ≡ count = length-take-le count block (omega arith) in
    let front : out ≡ take count rest = copied ∙ ap (λ (k : ℕ). take k rest) held in
    let long : length out ≡ count = ap length front ∙ length-take-le count rest (omega arith) in
    take_at out (drop count block) count long ∙ front ∙ ap (λ (k : ℕ). take k rest) (is ∙ ap (min block_size) (sym size)) ∙ least block_size rest

module _ (name : List ℕ) (at : ℕ) (bytes front : List ℕ) (old : FilesKnown) where
  abbrev text : ℕ → List ℕ
  text i = 0 ∷ front ++ take (block_size * i) bytes

  -- so many blocks are written
  abbrev pub Wrote : ℕ → FilesKnown → Type 0
  Wrote i now = RunsAll name (write_calls name (block_writes at i bytes)) (text i) old now

  pub wrote_none : get old.saved name ≡ Some (0 ∷ front) → Wrote 0 old
  wrote_none there = runs_none name (text 0) old (there ∙ ap (λ (l : List ℕ). Some (0 ∷ l)) (sym (append-nil front)))

  module _ (i place : ℕ) (piece : List ℕ) (mid new : FilesKnown) (here : place ≡ at + block_size * i) (is : piece ≡ take block_size (drop (block_size * i) bytes)) (so_far : Wrote i mid) where
    -- the call for a block, with so many blocks behind it
    calls_are : (m : ℕ) → (after : List FileCall) → write_calls name (block_writes at (i + suc m) bytes) ++ after
        ≡ write_calls name (block_writes at i bytes) ++ (Writing name place piece ∷ (write_calls name (block_writes (at + block_size * i + block_size) m (drop block_size (drop (block_size * i) bytes))) ++ after))
    calls_are m after =
        let rest : List ℕ = drop (block_size * i) bytes in
        let others : List FileCall = write_calls name (block_writes (at + block_size * i + block_size) m (drop block_size rest)) in
        ap (λ (l : List FileCall). l ++ after) (ap (write_calls name) (blocks_split i (suc m) at bytes) ∙ calls_append name (block_writes at i bytes) (block_writes (at + block_size * i) (suc m) rest))
        ∙ append_assoc (write_calls name (block_writes at i bytes)) (Writing name (at + block_size * i) (take block_size rest) ∷ others) after
        ∙ ap (λ (k : ℕ). write_calls name (block_writes at i bytes) ++ (Writing name k (take block_size rest) ∷ (others ++ after))) (sym here)
        ∙ ap (λ (l : List ℕ). write_calls name (block_writes at i bytes) ++ (Writing name place l ∷ (others ++ after))) (sym is)

    pub wrote_more : at ≡ length (0 ∷ front) → block_size * i ≤ length bytes → WritesAt mid name place piece new → Wrote (i + 1) new
    wrote_more start inside wrote =
        let long : length (take (block_size * i) bytes) ≡ block_size * i = length-take-le (block_size * i) bytes inside in
        let end : place ≡ length (text i) = omega (arith, here, start, long, length-append front (take (block_size * i) bytes)) in
        let next : block_size * i + block_size ≡ block_size * (i + 1) = omega arith in
        let one = write_runs name (text i) place piece mid new (there_after name _ (text i) old mid so_far) wrote in
        let more : written (text i) place piece ≡ text (i + 1) =
        ap (λ (k : ℕ). written (text i) k piece) end ∙ written_end (text i) piece
        ∙ ap (λ (l : List ℕ). 0 ∷ l) (append_assoc front (take (block_size * i) bytes) piece)
        ∙ ap (λ (l : List ℕ). 0 ∷ front ++ (take (block_size * i) bytes ++ l)) is
        ∙ ap (λ (l : List ℕ). 0 ∷ front ++ l) (sym (take-add (block_size * i) block_size bytes) ∙ ap (λ (k : ℕ). take k bytes) next) in
        let calls = calls_are 0 [] in
        same_runs name _ _ _ _ old new (sym calls ∙ append-nil (write_calls name (block_writes at (i + 1) bytes))) more (runs_then name _ _ (text i) _ old mid new so_far one)

    pub wrote_fails : (n : ℕ) (rest : List ℕ) → i < n → MayChange mid name (Writing name place piece) new → RunsPart name (behind_calls name (block_writes at n bytes) rest) old new
    wrote_fails n rest lt change =
        let count : i + suc (n - i - 1) ≡ n = omega arith in
        let last : List FileCall = Synced name (Some (0 ∷ rest)) ∷ [] in
        same_part name _ _ old new (sym (calls_are (n - i - 1) last) ∙ ap (λ (k : ℕ). behind_calls name (block_writes at k bytes) rest) count)
        (part_then name _ _ (text i) old mid new so_far (call_part name (Writing name place piece) _ mid new (some_end _ (Synced name (Some (0 ∷ rest)))) change))

  pub wrote_all : (n : ℕ) (mid new : FilesKnown) → length bytes ≤ block_size * n → Wrote n mid → Syncs mid name new
      → RunsAll name (behind_calls name (block_writes at n bytes) (front ++ bytes)) (0 ∷ front ++ bytes) old new
  wrote_all n mid new all so_far synced =
      let whole : text n ≡ 0 ∷ front ++ bytes = ap (λ (l : List ℕ). 0 ∷ front ++ l) (take_all (block_size * n) bytes all) in
      let filled = same_runs name _ _ (text n) (0 ∷ front ++ bytes) old mid refl whole so_far in
      runs_then name _ _ (0 ∷ front ++ bytes) (0 ∷ front ++ bytes) old mid new filled (sync_runs name (0 ∷ front ++ bytes) mid new (there_after name _ (0 ∷ front ++ bytes) old mid filled) synced)

  pub sync_fails : (n : ℕ) (rest : List ℕ) (mid new : FilesKnown) → Wrote n mid → SameFiles mid new → RunsPart name (behind_calls name (block_writes at n bytes) rest) old new
  sync_fails n rest mid new so_far same = part_then name _ _ (text n) old mid new so_far (sync_part name (Synced name (Some (0 ∷ rest))) [] mid new same)

-- ---- one file, filled behind its gate

-- bytes right behind the closed gate
pub behind : (bytes : List ℕ) → written (0 ∷ []) 1 bytes ≡ 0 ∷ bytes
behind bytes = written_end (0 ∷ []) bytes

module _ (name : List ℕ) (body rest : List ℕ) (writes : List (ℕ × List ℕ)) (old closed : FilesKnown) (first : RunsAll name (close_calls name) (0 ∷ []) old closed) where
  pub close_fails : (new : FilesKnown) → RunsPart name (close_calls name) old new → RunsPart name (fill_calls name writes rest) old new
  close_fails new part = part_more name (close_calls name) (behind_calls name writes rest) old new part

  pub body_fails : (new : FilesKnown) → MayChange closed name (Writing name 1 body) new → RunsPart name (fill_calls name ((1, body) ∷ writes) rest) old new
  body_fails new change =
      part_then name (close_calls name) (behind_calls name ((1, body) ∷ writes) rest) (0 ∷ []) old closed new first
      (call_part name (Writing name 1 body) (behind_calls name writes rest) closed new (some_end (write_calls name writes) (Synced name (Some (0 ∷ rest)))) change)

  module _ (mid : FilesKnown) (wrote : WritesAt closed name 1 body mid) where
    pub has_body : RunsAll name (close_calls name ++ Writing name 1 body ∷ []) (0 ∷ body) old mid
    has_body =
        let one = write_runs name (0 ∷ []) 1 body closed mid (there_after name (close_calls name) (0 ∷ []) old closed first) wrote in
        same_runs name _ _ _ (0 ∷ body) old mid refl (behind body) (runs_then name (close_calls name) _ (0 ∷ []) _ old closed mid first one)

    pub body_there : get mid.saved name ≡ Some (0 ∷ body)
    body_there = there_after name _ (0 ∷ body) old mid has_body

    pub rest_fails : (new : FilesKnown) → RunsPart name (behind_calls name writes rest) mid new → RunsPart name (fill_calls name ((1, body) ∷ writes) rest) old new
    rest_fails new part = part_then name (close_calls name ++ Writing name 1 body ∷ []) (behind_calls name writes rest) (0 ∷ body) old mid new has_body part

    pub filled : (new : FilesKnown) → RunsAll name (behind_calls name writes rest) (0 ∷ rest) mid new → RunsAll name (fill_calls name ((1, body) ∷ writes) rest) (0 ∷ rest) old new
    filled new runs = runs_then name (close_calls name ++ Writing name 1 body ∷ []) (behind_calls name writes rest) (0 ∷ body) (0 ∷ rest) old mid new has_body runs
