-- What is done on files. A crash at any moment leaves what the calls before it may leave.
use Rattle.std.specs.Prelude.{◌≡◌, ◌≢◌, ◌⊎◌, ℕ, List, [], ◌∷◌, ◌++◌, Option}

-- A moment in the life of files, each with the file's name. A `make` begins and is done; a write of these bytes at
-- this offset is begun, and may be done; a sync is done, with what a read gives then. A read, and a sync that failed,
-- are none.
pub data FileCall : Type 0 where
  Making : List ℕ → FileCall
  Made : List ℕ → FileCall
  Writing : List ℕ → ℕ → List ℕ → FileCall
  Synced : List ℕ → Option (List ℕ) → FileCall

-- a call that failed may have begun
abbrev pub MayBegin : List FileCall → FileCall → List FileCall → Type 0
MayBegin old call new = (new ≡ old) ⊎ (new ≡ old ++ call ∷ [])

-- the first of these calls, and not all
pub record MakesFront (script old new : List FileCall) : Type 0 where
  pub done : List FileCall
  pub rest : List FileCall
  pub parts : done ++ rest ≡ script
  pub lacks : rest ≢ []
  pub calls : new ≡ old ++ done
