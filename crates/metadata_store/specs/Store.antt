-- What a PUT and a PATCH make of the metadata store, or their first refusal.
use Rattle.std.specs.Prelude.{◌≡◌, ℕ, ◌&&◌, Bool, not, length, if◌then◌else◌, nat_le, is_some, Result, Ok, Err}
use Rattle.serde_json.specs.Data.{Data}
use Rattle.serde_json.specs.Find.{as_object}
use Rattle.serde_json.specs.View.{view}
use Rattle.serde_json.specs.declared.value.Value.{Value}
use Rattle.serde_json.specs.Written.{compact_text, has_float}
use Rattle.refusals.specs.declared.refusal.Refusal.{Refusal}
use Rattle.refusals.specs.declared.refusal.Refusal.TheVariants as refusal
use Rattle.metadata_store.specs.MergePatch.{is_null, merge_patch}
use Rattle.metadata_store.specs.declared.error.StoreError.{StoreError}
use Rattle.metadata_store.specs.declared.error.StoreError.TheVariants.{Refused, OutOfMemory}

-- in bytes
abbrev pub longest_text : ℕ
longest_text = 51200

-- An object whose numbers are whole ones of 64 bits, signed or not: every other number is read as a float.
abbrev pub is_metadata : Data → Bool
is_metadata d = is_some (as_object d) && not (has_float d)

-- what is to be stored, unless its text is too long
abbrev pub kept : Data → Result Data Refusal
kept d = if nat_le (length (compact_text d)) longest_text then Ok d else Err refusal.TooLarge

-- what a PUT of a body leaves
unfoldable pub put : Data → Result Data Refusal
put body = if is_metadata body then kept body else Err refusal.WrongKind

-- what a PATCH leaves
unfoldable pub patched : Data → Data → Result Data Refusal
patched store patch =
    if not (is_metadata patch) then Err refusal.WrongKind
    else (if is_null store then Err refusal.StoreNotInitialized
    else kept (merge_patch store patch))

-- it was refused as is due, or there was no memory
abbrev pub Refuses : {A : Type 0} → StoreError → Result A Refusal → Type 0
Refuses (Refused why) due = due ≡ Err why
Refuses OutOfMemory due = Unit {0}

-- what is due was made, or that happened
abbrev pub GivesData : Result Data StoreError → Result Data Refusal → Type 0
GivesData (Ok made) due = due ≡ Ok made
GivesData (Err e) due = Refuses e due

-- the same of a value, by the tree that it stands for
abbrev pub GivesValue : Result Value StoreError → Result Data Refusal → Type 0
GivesValue (Ok value) due = due ≡ Ok (view value)
GivesValue (Err e) due = Refuses e due
