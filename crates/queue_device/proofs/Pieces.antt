-- Reading and writing in pieces, as kinds do it: what is wanted, and what is left behind a reply.
use Rattle.std.proofs.Common.{◌≡◌, ℕ, ◌+◌, ◌-◌, ◌*◌, ◌%◌, ◌^◌, ◌==◌, ◌<◌, ◌≤◌, ◌||◌, refl, ap, Bool, true, false, if◌then◌else◌, List, [], ◌∷◌, ◌++◌, length, length-append, drop, take, arith, Some}
use Rattle.std.specs.List.{All, filter}
use Rattle.std.proofs.lemmas.List.Elements.{All-replicate}
use Rattle.vm_types.specs.declared.op.Op.TheVariants.{Read, Write}
use Rattle.vm_types.specs.declared.reply.Reply.{Reply}
use Rattle.vm_types.specs.Fits.{Fits}
use Rattle.device_trace.specs.Doing.{Doing, asked, led}
use Rattle.le_fields.specs.Fields.{IsByte}
use Rattle.vq_split.specs.declared.queue.Part.{Part}
use Rattle.vq_split.specs.Chain.{read_bytes}
use Rattle.vq_split.specs.Inside.{AreInside}
use Rattle.vq_split.specs.Kept.{are_inside}
use Rattle.vq_split.proofs.Inside.{of_ram}
use Rattle.vq_split.proofs.Kept.{are_of, inside_of}
use Rattle.dev_core.specs.declared.collect.Collect.{Collect}
use Rattle.dev_core.specs.Collecting.{collect_left}
use Rattle.dev_core.specs.Pieces.{Got, past, place, put_all, room, share, total}
use Rattle.vq_split.proofs.Steps.{bytes_fit}
use Rattle.dev_core.proofs.Fuel.{collect_led, collect_more, put_more}
use Rattle.dev_core.proofs.Inside.{filter_inside, past_inside}
use Rattle.queue_device.specs.Sizes.{IsSmallReply}
use Rattle.queue_device.proofs.Spilling.{spill_on}

-- what is short of so many bytes, and may read more
pub more_of : (need n space : ℕ) → ((need - n == 0) || (space == 0)) ≡ false → (n < need) × (0 < space)
more_of need n space is = (grind arith, grind arith)

past_if : (test : Bool) (part : Part) (parts : List Part)
    → length (if test then parts else part ∷ parts) ≤ length parts + 1
past_if true part parts = omega arith
past_if false part parts = omega arith

-- a piece leaves no more parts
pub past_few : (n most : ℕ) (parts : List Part) → length parts ≤ most → length (past n parts) ≤ most
past_few n most [] few = few
past_few n most (part ∷ parts) few = omega (
  arith,
  few,
  past_if (part.len == n)
      (record { at = (part.at + n) % 2 ^ 64; len = part.len - n; writable = part.writable }) parts,
)

filter_if : (test : Bool) (part : Part) (parts : List Part)
    → length (if test then part ∷ parts else parts) ≤ length parts + 1
filter_if true part parts = omega arith
filter_if false part parts = omega arith

-- there are no more parts of one direction
pub filter_few : (test : Part → Bool) (parts : List Part) → length (filter test parts) ≤ length parts
filter_few test [] = omega arith
filter_few test (part ∷ parts) =
    omega (arith, filter_if (test part) part (filter test parts), filter_few test parts)

-- ---- what is wanted

pub collect_asks : (need : ℕ) (from : Collect) → length from.held < need → 0 < room from.from
    → asked (collect_left need from) ≡ Some (Read (place from.from) (room from.from))
collect_asks need from short space =
    let missing : 0 < need - length from.held = omega (arith, short) in
    ap (asked {A = Got}) (collect_more (need - length from.held) from.held from.from missing space)

pub put_asks : (held : List ℕ) (to : List Part) → 0 < share held to
    → asked (put_all held to) ≡ Some (Write (place to) (take (share held to) held))
put_asks held to some = ap (asked {A = List Part}) (put_more held to some)

-- ---- what is left behind a piece

pub record Collected (need pages : ℕ) (held : List ℕ) (t : Doing Got) : Type 0 where
  pub now : Collect
  pub held_is : now.held ≡ held
  pub inside : AreInside pages now.from
  pub few : length now.from ≤ 256
  pub most : length now.held < need + 64
  pub left : collect_left need now ≡ t

pub room_most : (parts : List Part) → room parts ≤ 64
room_most [] = omega arith
room_most (part ∷ parts) = omega arith

held_most : (held piece : List ℕ) (parts : List Part) (need : ℕ) → length held < need → length piece ≡ room parts
    → length (held ++ piece) < need + 64
held_most held piece parts need short long =
    omega (arith, short, long, room_most parts, length-append held piece)

pub collect_next : (need pages : ℕ) (from : Collect) (reply : Reply) → pages < 2 ^ 32 → length from.held < need
    → 0 < room from.from → AreInside pages from.from → length from.from ≤ 256
    → Fits (Read (place from.from) (room from.from)) reply
    → Collected need pages (from.held ++ read_bytes (room from.from) reply) (led (collect_left need from) reply)
collect_next need pages from reply small short space inside few fit =
    let n = room from.from in
    let piece = read_bytes n reply in
    record {
      now = record { from = past n from.from; held = from.held ++ piece };
      held_is = refl;
      inside = past_inside pages n from.from small inside (omega arith);
      few = past_few n 256 from.from few;
      most = held_most from.held piece from.from need short (bytes_fit (place from.from) n reply fit);
      left =
          collect_led need from.held piece from.from reply short space refl (bytes_fit (place from.from) n reply fit);
    }

-- the bytes that a small reply brings are bytes
pub read_small : (n : ℕ) (reply : Reply) → IsSmallReply reply → All IsByte (read_bytes n reply)
read_small n (Reply.Bytes piece) small = small
read_small n reply small = All-replicate IsByte n 0 (omega arith)

pub record Written (pages : ℕ) (t : Doing (List Part)) : Type 0 where
  pub held : List ℕ
  pub to : List Part
  pub inside : AreInside pages to
  pub few : length to ≤ 256
  pub left : put_all held to ≡ t

pub put_next : (pages : ℕ) (held : List ℕ) (to : List Part) (reply : Reply) → pages < 2 ^ 32 → 0 < share held to
    → AreInside pages to → length to ≤ 256 → Written pages (led (put_all held to) reply)
put_next pages held to reply small some inside few =
    let n = share held to in
    record {
      held = drop n held;
      to = past n to;
      inside = past_inside pages n to small inside (omega arith);
      few = past_few n 256 to few;
      left = spill_on held (drop n held) to (past n to) n reply some refl refl refl;
    }

-- ---- as tests

pub past_test : (pages n : ℕ) (parts : List Part) → pages < 2 ^ 32 → n ≤ room parts → are_inside pages parts ≡ true
    → are_inside pages (past n parts) ≡ true
past_test pages n parts small some is =
    are_of pages (past n parts) (past_inside pages n parts small (inside_of pages parts is) some)

pub filter_test : (pages : ℕ) (test : Part → Bool) (parts : List Part) → are_inside pages parts ≡ true
    → are_inside pages (filter test parts) ≡ true
filter_test pages test parts is = are_of pages (filter test parts) (filter_inside pages test parts (inside_of pages parts is))

-- ---- how many bytes parts have: 2^32 each at most, in a guest of 2^20 pages

pub total_most : (pages : ℕ) (parts : List Part) → pages ≤ 2 ^ 20 → AreInside pages parts
    → total parts ≤ 2 ^ 32 * length parts
total_most pages [] small inside = omega arith
total_most pages (part ∷ parts) small inside =
    let here = of_ram pages part.at part.len inside.1 in
    let rest = total_most pages parts small inside.2 in
    omega (arith, here, rest)
