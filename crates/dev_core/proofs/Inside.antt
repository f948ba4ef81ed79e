-- What the pieces of parts inside RAM touch, and giving a chain back.
use Rattle.std.proofs.Common.{◌≡◌, ℕ, zero, suc, ◌+◌, ◌-◌, ◌*◌, ◌%◌, ◌^◌, ◌==◌, ◌<◌, ◌≤◌, ◌||◌, refl, sym, subst, Bool, true, false, if◌then◌else◌, List, [], ◌∷◌, ◌++◌, length, take, drop, arith}
use Rattle.std.specs.List.{filter}
use Rattle.std.proofs.lemmas.List.{length-take-le}
use Rattle.vm_types.specs.declared.reply.Reply.{Reply}
use Rattle.vm_types.specs.declared.reply.Reply.TheVariants.{Word}
use Rattle.device_trace.specs.Keeps.{Keeps}
use Rattle.device_trace.proofs.Keeping.{keeps_if}
use Rattle.vq_split.specs.declared.queue.Queue.{Queue}
use Rattle.vq_split.specs.declared.queue.Part.{Part}
use Rattle.vq_split.specs.Chain.{is_inside, read_bytes}
use Rattle.vq_split.specs.Inside.{IsInside, AreInside}
use Rattle.vq_split.specs.Walking.{IsSound}
use Rattle.vq_split.specs.Chain.{index_in, used_event}
use Rattle.vq_split.proofs.Inside.{event_two, in_ram, of_len, of_ram}
use Rattle.dev_core.specs.Pieces.{Got, room, place, past, share, last_byte, collect, collect_all, put, put_all}
use Rattle.dev_core.specs.Returns.{broke, broken, event_read, index_written, interrupted, length_written, pair_place, returned, told}
use Rattle.dev_core.specs.Inside.{Any}
use Rattle.dev_core.proofs.Fuel.{some_of}

-- a piece of the first part is inside
pub piece_inside : (pages n : ℕ) (parts : List Part) → AreInside pages parts → 0 < n → n ≤ room parts
    → is_inside pages (place parts) n ≡ true
piece_inside pages n [] inside some short = absurd (omega arith)
piece_inside pages n (part ∷ parts) inside some short =
    let r = of_ram pages part.at part.len inside.1 in
    let few = of_len pages part.at part.len inside.1 in
    in_ram pages part.at n r.0 (omega (arith, r)) (omega (arith, few))

past_if : (pages n : ℕ) (part : Part) (parts : List Part) (test : Bool) → test ≡ (part.len == n) → pages < 2 ^ 32
    → AreInside pages (part ∷ parts) → n ≤ part.len
    → AreInside pages (if test then parts
    else record { at = (part.at + n) % 2 ^ 64; len = part.len - n; writable = part.writable } ∷ parts)
past_if pages n part parts true is few inside short = inside.2
past_if pages n part parts false is few inside short =
    let r = of_ram pages part.at part.len inside.1 in
    let apart : part.len ≡ n → ⊥ = grind arith in
    let most = of_len pages part.at part.len inside.1 in
    let place_is : (part.at + n) % 2 ^ 64 ≡ part.at + n = omega (arith, r) in (
      omega (arith, apart),
      (rw place_is (in_ram pages (part.at + n) (part.len - n) (omega (arith, r))
          (omega (arith, r)) (omega (arith, most)))),
      inside.2,
    )

pub past_inside : (pages n : ℕ) (parts : List Part) → pages < 2 ^ 32 → AreInside pages parts → n ≤ room parts
    → AreInside pages (past n parts)
past_inside pages n [] few inside short = tt
past_inside pages n (part ∷ parts) few inside short = past_if pages n part parts (part.len == n) refl few inside
    (omega arith)

some_room : (missing space : ℕ) → ((missing == 0) || (space == 0)) ≡ false → 0 < space
some_room missing space off = grind arith

collect_keeps : (pages most missing : ℕ) (bytes : List ℕ) (parts : List Part) → pages < 2 ^ 32
    → AreInside pages parts → Keeps (IsInside pages) (λ (got : Got). AreInside pages got.parts)
    (collect most missing bytes parts)
collect_keeps pages zero missing bytes parts few inside = inside
collect_keeps pages (suc most) missing bytes parts few inside =
    keeps_if (IsInside pages) (λ (got : Got). AreInside pages got.parts) ((missing == 0) || (room parts == 0))
    ((missing == 0) || (room parts == 0)) _ _ refl (λ done. inside)
    (λ more. (
      piece_inside pages (room parts) parts inside (some_room missing (room parts) more) (omega arith),
      λ reply fit. collect_keeps pages most (missing - room parts) (bytes
          ++ read_bytes (room parts) reply) (past (room parts) parts) few
          (past_inside pages (room parts) parts few inside (omega arith)),
    ))

pub collect_all_keeps : (pages missing : ℕ) (bytes : List ℕ) (parts : List Part) → pages < 2 ^ 32
    → AreInside pages parts → Keeps (IsInside pages) (λ (got : Got). AreInside pages got.parts)
    (collect_all missing bytes parts)
collect_all_keeps pages missing bytes parts few inside = collect_keeps pages missing missing bytes parts few inside

put_keeps : (pages most : ℕ) (bytes : List ℕ) (parts : List Part) → pages < 2 ^ 32 → AreInside pages parts
    → Keeps (IsInside pages) (λ (left : List Part). AreInside pages left) (put most bytes parts)
put_keeps pages zero bytes parts few inside = inside
put_keeps pages (suc most) bytes parts few inside =
    keeps_if (IsInside pages) (λ (left : List Part). AreInside pages left) (share bytes parts == 0)
    (share bytes parts == 0) _ _ refl (λ done. inside)
    (λ more.
    let long : length (take (share bytes parts) bytes) ≡ share bytes parts = length-take-le (share bytes parts) bytes
    (omega arith) in (
      subst (λ z. is_inside pages (place parts) z ≡ true) (sym long)
          (piece_inside pages (share bytes parts) parts inside (some_of (share bytes parts) more) (omega arith)),
      λ reply fit. put_keeps pages most (drop (share bytes parts) bytes) (past (share bytes parts) parts) few
          (past_inside pages (share bytes parts) parts few inside (omega arith)),
    ))

pub put_all_keeps : (pages : ℕ) (bytes : List ℕ) (parts : List Part) → pages < 2 ^ 32 → AreInside pages parts
    → Keeps (IsInside pages) (λ (left : List Part). AreInside pages left) (put_all bytes parts)
put_all_keeps pages bytes parts few inside = put_keeps pages (length bytes) bytes parts few inside

last_inside : (pages : ℕ) → pages < 2 ^ 32 → (at : ℕ) (part : Part) (parts : List Part)
    → AreInside pages (part ∷ parts) → is_inside pages (last_byte at (part ∷ parts)) 1 ≡ true
last_inside pages few at part [] inside =
    let r = of_ram pages part.at part.len inside.1 in
    let place : (part.at + (part.len - 1)) % 2 ^ 64 ≡ part.at + (part.len - 1) = omega (arith, r, inside.0) in
    rw place (in_ram pages (part.at + (part.len - 1)) 1 (omega (arith, r)) (omega (arith, r, inside.0)) (omega arith))
last_inside pages few at part (p ∷ parts) inside = last_inside pages few
    ((part.at + (part.len - 1)) % 2 ^ 64) p parts inside.2

pub status_place : (pages : ℕ) (parts : List Part) → pages < 2 ^ 32 → AreInside pages parts
    → (length parts == 0) ≡ false → is_inside pages (last_byte 0 parts) 1 ≡ true
status_place pages [] few inside some = cc
status_place pages (part ∷ parts) few inside some = last_inside pages few 0 part parts inside

kept_if : (pages : ℕ) (test : Bool) (part : Part) (parts : List Part) → 0 < part.len
    → is_inside pages part.at part.len ≡ true → AreInside pages parts
    → AreInside pages (if test then part ∷ parts else parts)
kept_if pages true part parts some is inside = (some, is, inside)
kept_if pages false part parts some is inside = inside

pub filter_inside : (pages : ℕ) (test : Part → Bool) (parts : List Part) → AreInside pages parts
    → AreInside pages (filter test parts)
filter_inside pages test [] inside = tt
filter_inside pages test (part ∷ parts) inside = kept_if pages (test part) part (filter test parts) inside.0 inside.1
    (filter_inside pages test parts inside.2)

-- giving a chain back: the interrupt touches no page
interrupt_keeps : (pages port : ℕ) → Keeps (IsInside pages) (Any {A = Unit {0}}) (interrupted port)
interrupt_keeps pages port = (tt, λ a b. (tt, λ e f. tt))

-- the driver's event stands behind the available ring
pub event_keeps : (port : ℕ) (q : Queue) (used : ℕ) → IsSound q → q.accepted.event_index ≡ true
    → Keeps (IsInside q.pages) (Any {A = Unit {0}}) (event_read port q used)
event_keeps port q used sound has =
    let two = event_two q has in (
      in_ram q.pages (used_event q) 2 (omega (arith, sound.tables.available_in)) (omega (arith, sound.tables.available_in, two)) (omega arith),
      λ reply fit. keeps_if (IsInside q.pages) (Any {A = Unit {0}}) (used == index_in reply) _ _ _ refl
          (λ asked. interrupt_keeps q.pages port) (λ not_asked. tt),
    )

told_keeps : (port : ℕ) (q : Queue) (used : ℕ) → IsSound q → Keeps (IsInside q.pages) (Any {A = Unit {0}}) (told port q used)
told_keeps port q used sound =
    keeps_if (IsInside q.pages) (Any {A = Unit {0}}) q.accepted.event_index _ _ _ refl (λ has. event_keeps port q used sound has)
    (λ hasnt. interrupt_keeps q.pages port)

pub index_keeps : (port : ℕ) (q : Queue) (used : ℕ) → IsSound q
    → Keeps (IsInside q.pages) (Any {A = Unit {0}}) (index_written port q used)
index_keeps port q used sound =
    let index = in_ram q.pages (q.used + 2) 2 (omega (arith, sound.tables.used_in))
    (omega (arith, sound.tables.used_in)) (omega arith) in
    (index, λ e f. told_keeps port q used sound)

pair_low : (q : Queue) (used : ℕ) → IsSound q → 0x80000000 ≤ pair_place q used
pair_low q used sound = omega (arith, sound.tables.used_in)

pair_high : (q : Queue) (used : ℕ) → IsSound q → pair_place q used + 8 ≤ 0x80000000 + 4096 * q.pages
pair_high q used sound = omega (arith, sound.tables.used_in, sound.some)

pub length_keeps : (port : ℕ) (q : Queue) (used len : ℕ) → IsSound q
    → Keeps (IsInside q.pages) (Any {A = Unit {0}}) (length_written port q used len)
length_keeps port q used len sound = (
  in_ram q.pages (pair_place q used + 4) 4 (omega (arith, pair_low q used sound))
      (omega (arith, pair_high q used sound)) (omega arith),
  λ c d. index_keeps port q used sound,
)

pub returned_keeps : (port : ℕ) (q : Queue) (used head len : ℕ) → IsSound q
    → Keeps (IsInside q.pages) (Any {A = Unit {0}}) (returned port q used head len)
returned_keeps port q used head len sound =
    let low = pair_low q used sound in
    let high = pair_high q used sound in
    keeps_if (IsInside q.pages) (Any {A = Unit {0}}) (pair_place q used % 4096 == 4092) _ _ _ refl
    (λ cut. (
      in_ram q.pages (pair_place q used) 4 low (omega (arith, high)) (omega arith),
      λ a b. length_keeps port q used len sound,
    ))
    (λ whole. (in_ram q.pages (pair_place q used) 8 low high (omega arith), λ c d. index_keeps port q used sound))

broke_keeps : (pages : ℕ) (reply : Reply) → Keeps (IsInside pages) (Any {A = Unit {0}}) (broke reply)
broke_keeps pages (Word raised) =
    keeps_if (IsInside pages) (Any {A = Unit {0}}) (raised == 1) _ _ _ refl (λ a. (tt, λ reply fit. tt)) (λ a. tt)
broke_keeps pages reply = tt

pub broken_keeps : (pages port : ℕ) → Keeps (IsInside pages) (Any {A = Unit {0}}) (broken port)
broken_keeps pages port = (tt, λ reply fit. broke_keeps pages reply)
