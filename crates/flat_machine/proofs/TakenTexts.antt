-- The arguments that the API takes are UTF-8, and so bytes.
use Rattle.std.proofs.Common.{◌≡◌, ◌<◌, ◌+◌, ◌/◌, ℕ, Bool, true, false, cond, refl, subst, List, [], ◌∷◌, Option, Some, None, inl, inr, arith}
use Rattle.std.specs.List.{All}
use Rattle.std.specs.Str.{is_utf8}
use Rattle.std.proofs.lemmas.Bool.{and_parts, ltb-true}
use Rattle.std.proofs.lemmas.List.Elements.{All-append, All-cons, All-nil}
use Rattle.std.proofs.lemmas.Str.{IsUtf8-from_is_utf8}
use lib.Utf8.{encode, encodes, next, scalar, scalar_cases, scalars}
use Rattle.le_fields.specs.Fields.{IsByte}
use Rattle.api_calls.specs.declared.call.BootSource.{BootSource}
use Rattle.api_calls.specs.Form.{is_short_text}
use Rattle.vm_config.specs.declared.config.Config.{Config}
use Rattle.devtree.specs.Machine.{args_by}
use Rattle.flat_machine.specs.Ready.{IsSourceBy, IsTaken}

-- ---- UTF-8 has bytes

width_small : (a b d : Bool) (c : ℕ) → (a ≡ true → c < 128) → (b ≡ true → c < 2048) → (d ≡ true → c < 65536) → c < 1114112
    → All IsByte (cond a (c ∷ []) (cond b ((192 + c / 64) ∷ next c ∷ []) (cond d ((224 + c / 4096) ∷ next (c / 64) ∷ next c ∷ [])
    ((240 + c / 262144) ∷ next (c / 4096) ∷ next (c / 64) ∷ next c ∷ []))))
width_small true b d c one two three four =
    let small = one refl in
    All-cons IsByte c [] (omega (arith, small)) (All-nil IsByte)
width_small false true d c one two three four =
    let small = two refl in
    All-cons IsByte (192 + c / 64) (next c ∷ []) (omega (arith, small)) (All-cons IsByte (next c) [] (omega arith) (All-nil IsByte))
width_small false false true c one two three four =
    let small = three refl in
    All-cons IsByte (224 + c / 4096) (next (c / 64) ∷ next c ∷ []) (omega (arith, small))
    (All-cons IsByte (next (c / 64)) (next c ∷ []) (omega arith) (All-cons IsByte (next c) [] (omega arith) (All-nil IsByte)))
width_small false false false c one two three four =
    All-cons IsByte (240 + c / 262144) (next (c / 4096) ∷ next (c / 64) ∷ next c ∷ []) (omega (arith, four))
    (All-cons IsByte (next (c / 4096)) (next (c / 64) ∷ next c ∷ []) (omega arith)
    (All-cons IsByte (next (c / 64)) (next c ∷ []) (omega arith) (All-cons IsByte (next c) [] (omega arith) (All-nil IsByte))))

scalar_below : (c : ℕ) → scalar c ≡ true → c < 1114112
scalar_below c is = elim (scalar_cases c is) [ inl low ↦ omega (arith, low) | inr high ↦ high.1 ]

encode_small : (c : ℕ) → scalar c ≡ true → All IsByte (encode c)
unfolding encode
encode_small c is = width_small _ _ _ c (λ e. ltb-true c 128 e) (λ e. ltb-true c 2048 e) (λ e. ltb-true c 65536 e) (scalar_below c is)

encodes_small : (cs : List ℕ) → scalars cs ≡ true → All IsByte (encodes cs)
encodes_small [] are = All-nil IsByte
encodes_small (c ∷ cs) are =
    let both = and_parts (scalar c) (scalars cs) are in
    All-append IsByte (encode c) (encodes cs) (encode_small c both.0) (encodes_small cs both.1)

text_bytes : (t : List ℕ) → is_utf8 t ≡ true → All IsByte t
text_bytes t is =
    let spelled = IsUtf8-from_is_utf8 t is in
    subst (All IsByte) spelled.1.1 (encodes_small spelled.0 spelled.1.0)

-- ---- the arguments that are configured

args_bytes : (source : Option BootSource) → IsSourceBy source → All IsByte (args_by source)
args_bytes None is = All-nil IsByte
args_bytes (Some own) is =
    let short = and_parts _ (is_short_text 2048 own.boot_args) is in
    text_bytes own.boot_args (and_parts _ (is_utf8 own.boot_args) short.1).1

pub taken_args : (config : Config) → IsTaken config → All IsByte (args_by config.boot_source)
taken_args config taken = args_bytes config.boot_source taken.source
