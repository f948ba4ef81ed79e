-- A text for the driver begins with the header, whatever comes behind it.
use Rattle.std.proofs.Common.{◌≡◌, ℕ, ◌+◌, ◌<◌, ◌≤◌, ◌==◌, nat_lt, refl, ap, ◌∙◌, Bool, true, false, if◌then◌else◌, List, ◌++◌, length, length-append, length-drop, drop, take, arith}
use borrow.Rule.Slice.PartMut.{put_mid}
use Rattle.std.specs.Str.{bytes_eq}
use Rattle.std.proofs.lemmas.Bool.{eqb-true, le-ltb, ltb-false}
use Rattle.std.proofs.lemmas.List.{length-take, take-append-le}
use Rattle.net_device.specs.Frames.{header, header_size, is_headed}

-- a text that is such a one
pub headed_same : (bytes text : List ℕ) → text ≡ bytes → is_headed bytes ≡ true → is_headed text ≡ true
headed_same bytes text same is = ap is_headed same ∙ is

pub headed_begun : (text : List ℕ) → text ≡ header → is_headed text ≡ true
headed_begun text same = ap is_headed same

-- one that has bytes begins with the whole header
front_is : (short : Bool) (bytes : List ℕ) → nat_lt (length bytes) header_size ≡ short → 0 < length bytes
    → (if short then length bytes == 0 else bytes_eq (take header_size bytes) header) ≡ true
    → (header_size ≤ length bytes) × (bytes_eq (take header_size bytes) header ≡ true)
front_is true bytes short some is =
    let none = eqb-true (length bytes) 0 is in absurd (omega (arith, none, some))
front_is false bytes short some is = (ltb-false (length bytes) header_size short, is)

pub headed_more : (bytes piece : List ℕ) → is_headed bytes ≡ true → 0 < length bytes → is_headed (bytes ++ piece) ≡ true
headed_more bytes piece is some =
    let front = front_is (nat_lt (length bytes) header_size) bytes refl some is in
    let long : nat_lt (length (bytes ++ piece)) header_size ≡ false =
    le-ltb _ _ (omega (arith, front.0, length-append bytes piece)) in
    ap (λ (short : Bool). if short then length (bytes ++ piece) == 0 else bytes_eq (take header_size (bytes ++ piece)) header) long
    ∙ ap (λ (begin : List ℕ). bytes_eq begin header) (take-append-le header_size bytes piece front.0) ∙ front.1

-- a piece that is put inside leaves the length
pub put_long : (at k : ℕ) (held piece : List ℕ) → at + k ≤ length held → length piece ≡ k → length (put_mid at k held piece) ≡ length held
put_long at k held piece inside long =
    let parts : put_mid at k held piece ≡ take at held ++ (piece ++ drop k (drop at held)) = refl in
    ap length parts
    ∙ omega (
      arith,
      length-append (take at held) (piece ++ drop k (drop at held)),
      length-append piece (drop k (drop at held)),
      length-take at held,
      length-drop k (drop at held),
      length-drop at held,
      inside,
      long,
    )
