-- What the work of a network device comes to, or wants next.
use Rattle.std.proofs.Common.{◌≡◌, ℕ, zero, suc, ◌+◌, ◌-◌, ◌==◌, ◌<◌, min, true, false, List, [], ◌∷◌, ◌++◌, length, take, drop, Some, refl, sym, ap, ◌∙◌, arith}
use Rattle.std.proofs.lemmas.List.{drop-drop, length-drop}
use Rattle.vm_types.specs.declared.op.Op.TheVariants.{Read, Write, Out}
use Rattle.vm_types.specs.declared.op.OutOp.TheVariants.{LinkPart, LinkSend, LinkEnd}
use Rattle.vm_types.specs.declared.reply.Reply.{Reply}
use Rattle.vm_types.specs.declared.reply.Reply.TheVariants.{Bytes}
use Rattle.device_trace.specs.Doing.{Doing, led}
use Rattle.vq_split.specs.declared.queue.Part.{Part}
use Rattle.dev_core.specs.Pieces.{past, place, put_all, room, share}
use Rattle.dev_core.proofs.Fuel.{put_done, put_more, some_of}
use Rattle.vq_split.specs.Chain.{read_bytes}
use Rattle.queue_device.specs.declared.kind.Begin.TheVariants as begin
use Rattle.queue_device.specs.Acting.{Acts, performing}
use Rattle.queue_device.specs.Left.{begin_of}
use Rattle.net_device.specs.Frames.{piece_length, piece_sent, sending_all, taking}
use Rattle.net_device.specs.Net.{Net, received}
use Rattle.net_device.specs.Work.{sent, written}
use Rattle.net_device.proofs.Pieces.{sent_end, sent_more}

-- ---- from the link

pub takes : (left size index : ℕ) (bytes : List ℕ) (e : Net) → 0 < left
    → performing (taking left size index bytes) e received ≡ Acts e (Out (LinkPart index (piece_length size index)))
    (λ f reply. performing (led (taking left size index bytes) reply) f received)
takes zero size index bytes e some = absurd (omega (arith, some))
takes (suc left) size index bytes e some = refl

pub taken : (left size index : ℕ) (bytes : List ℕ) (e : Net) → left ≡ 0
    → performing (taking left size index bytes) e received ≡ received e (Some bytes)
taken zero size index bytes e none = refl
taken (suc left) size index bytes e none = absurd (omega (arith, none))

pub piece_led : (left size index : ℕ) (bytes piece : List ℕ) → 0 < left
    → led (taking left size index bytes) (Bytes piece) ≡ taking (left - 1) size (suc index) (bytes ++ piece)
piece_led zero size index bytes piece some = absurd (omega (arith, some))
piece_led (suc left) size index bytes piece some =
    let same : left ≡ suc left - 1 = omega arith in
    ap (λ (n : ℕ). taking n size (suc index) (bytes ++ piece)) same

-- ---- to the driver

-- the next piece, as it is tested
pub share_is : (bytes : List ℕ) (at len space : ℕ) (to : List Part) → len ≡ length bytes → space ≡ room to
    → min (len - at) space ≡ share (drop at bytes) to
share_is bytes at len space to long there =
    ap (λ (n : ℕ). min (n - at) space) long ∙ ap (λ (n : ℕ). min (length bytes - at) n) there
    ∙ ap (λ (n : ℕ). min n (room to)) (sym (length-drop at bytes))

pub fills : (bytes : List ℕ) (at len space whole : ℕ) (to : List Part) (e : Net) → len ≡ length bytes → space ≡ room to
    → (min (len - at) space == 0) ≡ false
    → performing (put_all (drop at bytes) to) e (λ f left. written whole f)
    ≡ Acts e (Write (place to) (take (share (drop at bytes) to) (drop at bytes)))
    (λ f reply. performing (led (put_all (drop at bytes) to) reply) f (λ g left. written whole g))
fills bytes at len space whole to e long there is =
    let same = share_is bytes at len space to long there in
    let some = some_of (share (drop at bytes) to) (ap (λ (n : ℕ). n == 0) (sym same) ∙ is) in
    rw (put_more (drop at bytes) to some) refl

pub filled : (bytes : List ℕ) (at len space whole : ℕ) (to : List Part) (e : Net) → len ≡ length bytes → space ≡ room to
    → (min (len - at) space == 0) ≡ true
    → performing (put_all (drop at bytes) to) e (λ f left. written whole f) ≡ written whole e
filled bytes at len space whole to e long there is =
    rw (put_done (drop at bytes) to (ap (λ (n : ℕ). n == 0) (sym (share_is bytes at len space to long there)) ∙ is)) refl

-- how it begins
pub fill_wants : (bytes : List ℕ) (len space whole n : ℕ) (to : List Part) (e : Net) → len ≡ length bytes → space ≡ room to
    → n ≡ min len space → (n == 0) ≡ false
    → begin_of (performing (put_all bytes to) e (λ f left. written whole f)) ≡ begin.Wants (Write (place to) (take n (drop 0 bytes)))
fill_wants bytes len space whole n to e long there same is =
    let share_same : share bytes to ≡ n = ap (λ (m : ℕ). min m (room to)) (sym long) ∙ ap (λ (m : ℕ). min len m) (sym there) ∙ sym same in
    let some = some_of (share bytes to) (ap (λ (m : ℕ). m == 0) share_same ∙ is) in
    ap (λ (t : Doing (List Part)). begin_of (performing t e (λ f left. written whole f))) (put_more bytes to some)
    ∙ ap (λ (m : ℕ). begin.Wants (Write (place to) (take m bytes))) share_same

pub fill_comes : (bytes : List ℕ) (len space whole n : ℕ) (to : List Part) (e : Net) → len ≡ length bytes → space ≡ room to
    → n ≡ min len space → (n == 0) ≡ true
    → begin_of (performing (put_all bytes to) e (λ f left. written whole f)) ≡ begin.Comes (Some whole)
fill_comes bytes len space whole n to e long there same is =
    let share_same : share bytes to ≡ n = ap (λ (m : ℕ). min m (room to)) (sym long) ∙ ap (λ (m : ℕ). min len m) (sym there) ∙ sym same in
    ap (λ (t : Doing (List Part)). begin_of (performing t e (λ f left. written whole f)))
    (put_done bytes to (ap (λ (m : ℕ). m == 0) share_same ∙ is))

-- and where a reply leads
pub fill_led : (bytes : List ℕ) (at n : ℕ) (to left : List Part) (reply : Reply) → 0 < share (drop at bytes) to
    → n ≡ share (drop at bytes) to → left ≡ past n to → put_all (drop (at + n) bytes) left ≡ led (put_all (drop at bytes) to) reply
fill_led bytes at n to left reply some is passed =
    ap (λ (l : List ℕ). put_all l left) (sym (drop-drop n at bytes)) ∙ ap (put_all (drop n (drop at bytes))) passed
    ∙ ap (λ (m : ℕ). put_all (drop m (drop at bytes)) (past m to)) is
    ∙ sym (ap (λ (t : Doing (List Part)). led t reply) (put_more (drop at bytes) to some))

-- ---- from the driver

pub read_led : (skip n : ℕ) (from left : List Part) (piece : List ℕ) (reply : Reply) → 0 < room from → n ≡ room from
    → piece ≡ read_bytes (room from) reply → left ≡ past (room from) from
    → piece_sent (drop skip piece) (sending_all (skip - n) left) ≡ led (sending_all skip from) reply
read_led skip n from left piece reply some is read passed =
    ap (λ (l : List ℕ). piece_sent (drop skip l) (sending_all (skip - n) left)) read
    ∙ ap (λ (m : ℕ). piece_sent (drop skip (read_bytes (room from) reply)) (sending_all (skip - m) left)) is
    ∙ ap (λ (l : List Part). piece_sent (drop skip (read_bytes (room from) reply)) (sending_all (skip - room from) l)) passed
    ∙ sym (ap (λ (t : Doing (Unit {0})). led t reply) (sent_more skip from some))

pub reads : (skip : ℕ) (from : List Part) (e : Net) → 0 < room from
    → performing (sending_all skip from) e (λ f done. sent f)
    ≡ Acts e (Read (place from) (room from)) (λ f reply. performing (led (sending_all skip from) reply) f (λ g done. sent g))
reads skip from e some = rw (sent_more skip from some) refl

pub ends : (skip : ℕ) (from : List Part) (e : Net) → room from ≡ 0
    → performing (sending_all skip from) e (λ f done. sent f) ≡ Acts e (Out LinkEnd) (λ f reply. sent f)
ends skip from e none = rw (sent_end skip from none) refl

pub sends : (piece : List ℕ) (rest : Doing (Unit {0})) (e : Net) → 0 < length piece
    → performing (piece_sent piece rest) e (λ f done. sent f)
    ≡ Acts e (Out (LinkSend piece)) (λ f reply. performing (led (piece_sent piece rest) reply) f (λ g done. sent g))
sends [] rest e some = absurd (omega (arith, some))
sends (b ∷ bytes) rest e some = refl

pub sends_none : (piece : List ℕ) (rest : Doing (Unit {0})) (e : Net) → length piece ≡ 0
    → performing (piece_sent piece rest) e (λ f done. sent f) ≡ performing rest e (λ f done. sent f)
sends_none [] rest e none = refl
sends_none (b ∷ bytes) rest e none = absurd (omega (arith, none))
