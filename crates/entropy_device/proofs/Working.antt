-- What is left where the code of an entropy device is, and where a reply leads.
use Rattle.std.proofs.Common.{◌≡◌, ℕ, zero, suc, ◌+◌, ◌-◌, ◌<◌, ◌≤◌, ◌==◌, refl, sym, ap, ◌∙◌, true, Option, Some, None, List, take, arith}
use Rattle.std.proofs.lemmas.Bool.{eqb-true}
use Rattle.vm_types.specs.declared.op.Op.TheVariants.{Out, Write}
use Rattle.vm_types.specs.declared.op.OutOp.TheVariants.{DrawWord}
use Rattle.vm_types.specs.declared.reply.Reply.{Reply}
use Rattle.vm_types.specs.declared.reply.Reply.TheVariants.{Drawn}
use Rattle.device_trace.specs.Doing.{Doing, Gives, and_then, led}
use Rattle.vq_split.specs.declared.queue.Part.{Part}
use Rattle.dev_core.specs.Pieces.{place, put_all, share}
use Rattle.dev_core.proofs.Fuel.{and_then_asked, and_then_led}
use Rattle.queue_device.specs.declared.kind.Begin.TheVariants as begin
use Rattle.queue_device.specs.Acting.{Acts, Comes, performing}
use Rattle.queue_device.specs.Left.{begin_of}
use Rattle.queue_device.proofs.Acting.{performing_acts}
use Rattle.queue_device.proofs.Pieces.{put_asks}
use Rattle.entropy_device.specs.Entropy.{Entropy, filled}
use Rattle.entropy_device.specs.Words.{before, filling, filling_from, with_word, word_bytes, word_count, word_of, writing}

-- ---- a word is asked for

pub drawn : (len index : ℕ) (to : List Part) (e : Entropy) → word_count len ≤ index
    → performing (filling_from len index to) e filled ≡ Comes e (Some len)
drawn len index to e none =
    let left : word_count len - index ≡ 0 = omega (arith, none) in
    ap (λ (n : ℕ). performing (filling n len index to) e filled) left

draws_by : (n len index : ℕ) (to : List Part) (e : Entropy) → 0 < n
    → performing (filling n len index to) e filled
    ≡ Acts e (Out DrawWord) (λ f reply. performing (led (filling n len index to) reply) f filled)
draws_by zero len index to e some = absurd (omega (arith, some))
draws_by (suc n) len index to e some = refl

pub draws : (len index : ℕ) (to : List Part) (e : Entropy) → index < word_count len
    → performing (filling_from len index to) e filled
    ≡ Acts e (Out DrawWord) (λ f reply. performing (led (filling_from len index to) reply) f filled)
draws len index to e more = draws_by (word_count len - index) len index to e (omega (arith, more))

word_by : (n len index : ℕ) (to : List Part) (word : ℕ) → word_count len - index ≡ n → 0 < n
    → led (filling n len index to) (Drawn word) ≡ writing len index (word_bytes len index word) to
word_by zero len index to word is some = absurd (omega (arith, some))
word_by (suc n) len index to word is some =
    let left : n ≡ word_count len - suc index = omega (arith, is) in
    ap
    (λ (m : ℕ). and_then (put_all (word_bytes len index word) to) (λ rest. filling m len (suc index) rest))
    left

pub word_led : (len index : ℕ) (to : List Part) (word : ℕ) → index < word_count len
    → led (filling_from len index to) (Drawn word) ≡ writing len index (word_bytes len index word) to
word_led len index to word more =
    word_by (word_count len - index) len index to word refl (omega (arith, more))

fail_by : (n len index : ℕ) (to : List Part) (reply : Reply) → 0 < n → word_of reply ≡ None
    → led (filling n len index to) reply ≡ Gives (before index)
fail_by zero len index to reply some none = absurd (omega (arith, some))
fail_by (suc n) len index to reply some none =
    ap
    (λ (o : Option ℕ). with_word o (before index) (λ word. and_then (put_all (word_bytes len index word) to) (λ rest. filling n len (suc index) rest)))
    none

pub fail_led : (len index : ℕ) (to : List Part) (reply : Reply) (e : Entropy) → index < word_count len → word_of reply ≡ None
    → performing (led (filling_from len index to) reply) e filled ≡ Comes e (Some (before index))
fail_led len index to reply e more none =
    ap (λ (t : Doing ℕ). performing t e filled) (fail_by (word_count len - index) len index to reply (omega (arith, more)) none)

-- ---- its bytes are written

pub written : (len index next : ℕ) (held : List ℕ) (to : List Part) (e : Entropy) → put_all held to ≡ Gives to → next ≡ index + 1
    → performing (writing len index held to) e filled ≡ performing (filling_from len next to) e filled
written len index next held to e done is =
    let behind : suc index ≡ next = omega (arith, is) in
    ap (λ (t : Doing (List Part)). performing (and_then t (λ rest. filling_from len (suc index) rest)) e filled) done
    ∙ ap (λ (n : ℕ). performing (filling_from len n to) e filled) behind

pub writes : (len index : ℕ) (held : List ℕ) (to : List Part) (e : Entropy) → 0 < share held to
    → performing (writing len index held to) e filled
    ≡ Acts e (Write (place to) (take (share held to) held)) (λ f reply. performing (led (writing len index held to) reply) f filled)
writes len index held to e some =
    performing_acts (writing len index held to) e filled _
    (and_then_asked (put_all held to) (λ rest. filling_from len (suc index) rest) _ (put_asks held to some))

pub write_led : (len index : ℕ) (held rest : List ℕ) (to left : List Part) (reply : Reply) → 0 < share held to
    → put_all rest left ≡ led (put_all held to) reply
    → writing len index rest left ≡ led (writing len index held to) reply
write_led len index held rest to left reply some is =
    ap (λ (t : Doing (List Part)). and_then t (λ rest. filling_from len (suc index) rest)) is
    ∙ sym (and_then_led (put_all held to) (λ rest. filling_from len (suc index) rest) _ reply (put_asks held to some))

-- ---- how it begins

pub begins_none : (len : ℕ) (to : List Part) (e : Entropy) → (word_count len == 0) ≡ true
    → begin_of (performing (filling_from len 0 to) e filled) ≡ begin.Comes (Some len)
begins_none len to e none = ap begin_of (drawn len 0 to e (omega (arith, eqb-true (word_count len) 0 none)))

pub begins_some : (len : ℕ) (to : List Part) (e : Entropy) → 0 < word_count len
    → begin_of (performing (filling_from len 0 to) e filled) ≡ begin.Wants (Out DrawWord)
begins_some len to e some = ap begin_of (draws len 0 to e some)
