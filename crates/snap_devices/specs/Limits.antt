-- What may be lacking at the end of a device's list: its limits, a chain that waits, and the queue of the chain in hand.
use Rattle.std.specs.Prelude.{◌≡◌, ℕ, ◌+◌, ◌*◌, ◌%◌, ◌/◌, ◌^◌, ◌&&◌, ◌||◌, not, Bool, true, Option, Some, None, is_some, List, [], ◌++◌, refl}
use Rattle.std.proofs.Common.{ap₂, arith}
use Rattle.file_format.specs.Ends.{Lacking}
use Rattle.file_format.specs.Format.{Format}
use Rattle.file_format.specs.Readers.{optional_bytes}
use Rattle.file_format.specs.Kinds.{number16, number64, optional, passing, ◌&◌, made_of}
use Rattle.vm_types.specs.declared.port_look.Accepted.{Accepted}
use Rattle.vq_split.specs.declared.queue.Queue.{Queue}
use Rattle.vq_split.specs.Kept.{is_sound}
use Rattle.dev_core.specs.Looks.{no_queue}
use Rattle.token_bucket.specs.Kept.{Kept, is_kept}
use Rattle.rate_gate.specs.Gate.{Buckets, is_limited}
use Rattle.queue_device.specs.Chains.{Chain}
use Rattle.snap_devices.specs.declared.file.FileMore.{FileMore}
use Rattle.snap_devices.specs.Marks.{maybe}
use Rattle.snap_devices.specs.Queues.{held, maybe_queue, parts, queue, queue_marks}
use Rattle.snap_devices.specs.Standing.{standing}

-- ---- a bucket

-- a number of 128 bits, its lower half first
abbrev pub joined : ℕ × ℕ → ℕ
joined (low, high) = low + 2 ^ 64 * high

abbrev pub halves : ℕ → ℕ × ℕ
halves n = (n % 2 ^ 64, n / 2 ^ 64)

pub halves_back : (n : ℕ × ℕ) → number64.Fits n.0 × number64.Fits n.1 → n ≡ halves (joined n)
unfolding number64
halves_back (low, high) fits =
    let a : low ≡ (low + 2 ^ 64 * high) % 2 ^ 64 = omega (arith, fits.0) in
    let b : high ≡ (low + 2 ^ 64 * high) / 2 ^ 64 = omega (arith, fits.0) in
    ap₂ (λ (x y : ℕ). (x, y)) a b

unfoldable pub owed : Format ℕ
owed = standing joined halves (number64 & number64) halves_back

-- how many tokens it holds, in how many nanoseconds so many flow in, what is left of its burst, what it owes, and since when
unfoldable pub bucket_fields : Format Kept
bucket_fields =
    made_of (λ k. (k.rate.size, (k.rate.refill, (k.burst, (k.owes, k.moment)))))
    (λ (size, (refill, (burst, (owes, moment)))).
    record { rate = record { size = size; refill = refill }; burst = burst; owes = owes; moment = moment })
    (λ _. refl) (λ _. refl)
    (number64 & number64 & number64 & owed & number64)

unfoldable pub bucket : Format Kept
bucket = passing is_kept bucket_fields

unfoldable pub limits : Format Buckets
limits =
    made_of (λ b. (b.bandwidth, b.ops)) (λ (bandwidth, ops). record { bandwidth = bandwidth; ops = ops }) (λ _. refl) (λ _. refl)
    (optional bucket & optional bucket)

-- ---- a chain that waits

-- the queue that it is of, its head, the parts that it still needs, and what was read of it
unfoldable pub chain_fields : Accepted → Format Chain
chain_fields a =
    made_of (λ c. (c.queue, (c.head, (c.parts, (c.got.parts, c.got.bytes)))))
    (λ (queue, (head, (parts, (from, held)))).
    record { queue = queue; head = head; parts = parts; got = record { bytes = held; parts = from } })
    (λ _. refl) (λ _. refl)
    (queue a & number16 & parts & parts & held)

abbrev pub is_of_sound : Chain → Bool
is_of_sound c = is_sound c.queue

unfoldable pub chain : Accepted → Format Chain
chain a = passing is_of_sound (chain_fields a)

pub chain_marks : (a : Accepted) (c : Chain) → (chain a).Fits c → a ≡ c.queue.accepted
unfolding chain chain_fields
chain_marks a c fits = queue_marks a c.queue fits.0.0

abbrev pub no_chain : Chain
no_chain = record { queue = no_queue 0; head = 0; parts = []; got = record { bytes = []; parts = [] } }

-- the chain, if one waits
unfoldable pub maybe_chain : Format (Option Chain)
maybe_chain = maybe chain (λ c. c.queue.accepted) no_chain chain_marks

-- ---- all of it

unfoldable pub more : Format FileMore
more =
    made_of (λ m. (m.limits, (m.waiting, m.in_hand)))
    (λ (limits, (waiting, in_hand)). record { limits = limits; waiting = waiting; in_hand = in_hand })
    (λ _. refl) (λ _. refl)
    (limits & maybe_chain & maybe_queue)

abbrev pub no_more : FileMore
no_more = record { limits = record { bandwidth = None; ops = None }; waiting = None; in_hand = None }

abbrev pub is_no_more : FileMore → Bool
is_no_more m = not (is_limited m.limits) && not (is_some m.waiting) && not (is_some m.in_hand)

none_lacks : (b o : Option Kept) (w : Option Chain) (q : Option Queue)
    → (not (is_some b || is_some o) && not (is_some w) && not (is_some q)) ≡ true
    → ◌≡◌ {A = FileMore} (record { limits = record { bandwidth = b; ops = o }; waiting = w; in_hand = q }) no_more
none_lacks None None None None is = refl
none_lacks (Some b) o w q is = cc
none_lacks None (Some o) w q is = cc
none_lacks None None (Some c) q is = cc
none_lacks None None None (Some h) is = cc

pub only_no_more : (m : FileMore) → is_no_more m ≡ true → m ≡ no_more
only_no_more m is = none_lacks m.limits.bandwidth m.limits.ops m.waiting m.in_hand is

first_byte : (bytes : Kept → List ℕ) (b : Option Kept) (ops rest : List ℕ)
    → (optional_bytes bytes b ++ ops) ++ rest ≡ [] → ⊥
first_byte bytes None ops rest is = cc
first_byte bytes (Some b) ops rest is = cc

pub more_byte : (m : FileMore) → more.Fits m → more.bytes m ≡ [] → ⊥
unfolding more limits optional
more_byte m fits is = first_byte bucket.bytes m.limits.bandwidth _ _ is

abbrev pub end_of_device : Lacking FileMore
end_of_device = record {
  item = more;
  none = no_more;
  is_none = is_no_more;
  lacks = refl;
  only_none = only_no_more;
  some = more_byte;
}
