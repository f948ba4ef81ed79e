-- The interfaces and the address of a PUT of /mmds/config.
use Rattle.std.proofs.Common.{◌≡◌, ℕ, true, false, ◌&&◌, List, [], Option, Some, None, refl, ap}
use Rattle.std.specs.Prelude.{codes, is_some, option_and_then, unwrap_or}
use Rattle.std.specs.Str.{is_utf8}
use Rattle.std.proofs.lemmas.Bool.{and_parts}
use Rattle.std.proofs.lemmas.Str.{is_utf8-from_IsUtf8}
use lib.Utf8.{encode}
use Rattle.serde_json.specs.Data.{Data, null, boolean, number, string, array, object, Members}
use Rattle.serde_json.specs.Find.{as_str, get}
use Rattle.api_calls.specs.declared.test.Test.TheVariants as test
use Rattle.api_calls.specs.Form.{address, are_ids, as_texts, holds, ids, is_address, is_in_range, is_of_kind, object_passes, refusal, row_passes, text_at, texts_at, texts_of, unless_null}
use Rattle.api_calls.specs.Fields.{mmds_config}
use Rattle.api_calls.specs.Call.{default_address}
use Rattle.api_calls.proofs.Bodies.{passed, form_parts}

some_ids : (o : Option (List (List ℕ))) → is_some o ≡ true → holds are_ids o ≡ true → are_ids (unwrap_or o []) ≡ true
some_ids None kind range = absurd cc
some_ids (Some ts) kind range = range

-- in a field that must be there
needed_ids : (g : Option Data) → is_some (option_and_then (unless_null true) g) ≡ true
    → holds (is_of_kind ids) (option_and_then (unless_null true) g) ≡ true
    → holds (is_in_range ids) (option_and_then (unless_null true) g) ≡ true
    → are_ids (unwrap_or (option_and_then as_texts g) []) ≡ true
unfolding is_of_kind is_in_range
needed_ids None there kind range = absurd cc
needed_ids (Some null) there kind range = absurd cc
needed_ids (Some (boolean b)) there kind range = absurd cc
needed_ids (Some (number n)) there kind range = absurd cc
needed_ids (Some (string s)) there kind range = absurd cc
needed_ids (Some (array ds)) there kind range = some_ids (texts_of ds) kind range
needed_ids (Some (object ms)) there kind range = absurd cc

-- the address where none is given
default_is_text : is_utf8 default_address ≡ true
unfolding encode
default_is_text = is_utf8-from_IsUtf8 default_address (default_address, (refl, refl))

default_is_address : is_address default_address ≡ true
default_is_address = ap (λ b. b && true) default_is_text

-- in one that need not
optional_address : (g : Option Data) → holds (is_of_kind address) (option_and_then (unless_null false) g) ≡ true
    → holds (is_in_range address) (option_and_then (unless_null false) g) ≡ true
    → is_address (unwrap_or (option_and_then as_str g) default_address) ≡ true
unfolding is_of_kind is_in_range
optional_address None kind range = default_is_address
optional_address (Some null) kind range = default_is_address
optional_address (Some (boolean b)) kind range = absurd cc
optional_address (Some (number n)) kind range = absurd cc
optional_address (Some (string s)) kind range = range
optional_address (Some (array ds)) kind range = absurd cc
optional_address (Some (object ms)) kind range = absurd cc

abbrev pub IsMmds : Data → Type 0
IsMmds d =
    (are_ids (unwrap_or (texts_at (codes "network_interfaces") d) []) ≡ true)
    × (is_address (unwrap_or (text_at (codes "ipv4_address") d) default_address) ≡ true)

pub mmds_is : (ms : Members) → refusal mmds_config (object ms) ≡ None → IsMmds (object ms)
unfolding object_passes row_passes
mmds_is ms none =
    let all = passed mmds_config (object ms) none in
    let there = (form_parts _ _ _ (object ms) test.There all.0).0 in
    let kind = (form_parts _ _ _ (object ms) test.Kind all.1).0 in
    let range = (form_parts _ _ _ (object ms) test.Range all.2).0 in (
      needed_ids (get (codes "network_interfaces") (object ms)) (and_parts _ _ there).0 (and_parts _ _ kind).0 (and_parts _ _ range).0,
      optional_address (get (codes "ipv4_address") (object ms)) (and_parts _ _ (and_parts _ _ (and_parts _ _ kind).1).1).0
          (and_parts _ _ (and_parts _ _ (and_parts _ _ range).1).1).0,
    )
