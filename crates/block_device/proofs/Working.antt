-- Where the work of a block device leads.
use Rattle.std.proofs.Common.{◌≡◌, ℕ, ◌+◌, ◌-◌, ◌<◌, ◌≤◌, nat_lt, refl, sym, ap, subst, ◌∙◌, Bool, true, false, if◌then◌else◌, Option, Some, None, List, [], ◌||◌, ◌==◌, length, arith}
use Rattle.std.proofs.lemmas.Bool.{le-ltb, lt-ltb}
use Rattle.vm_types.specs.declared.op.Op.TheVariants.{Read}
use Rattle.vm_types.specs.declared.reply.Reply.{Reply}
use Rattle.device_trace.specs.Doing.{Doing, Gives, led}
use Rattle.vq_split.specs.declared.queue.Part.{Part}
use Rattle.dev_core.specs.declared.collect.Collect.{Collect}
use Rattle.dev_core.specs.Collecting.{collect_left}
use Rattle.dev_core.specs.Pieces.{Got, collect_all, last_byte, place, readable, room, total, writable}
use Rattle.queue_device.specs.Acting.{Acting, Acts, Comes, Works, performing}
use Rattle.queue_device.specs.Chains.{Taken, got_of}
use Rattle.queue_device.proofs.Acting.{performing_acts}
use Rattle.queue_device.proofs.Pieces.{collect_asks}
use Rattle.block_device.specs.declared.data.BlockData.{BlockData}
use Rattle.block_device.specs.declared.stage.ServiceStage.{ServiceStage}
use Rattle.block_device.specs.declared.work.BlockStage.{BlockStage}
use Rattle.block_device.specs.declared.work.BlockStage.TheVariants as at
use Rattle.block_device.specs.Block.{headed, is_short, request_of, served, taken}
use Rattle.block_device.specs.Service.{Request, service}
use Rattle.block_device.specs.Serving.{IsStage, serving_left, serving_op}
use Rattle.block_device.specs.Working.{Working, hand_of, serving_at}
use Rattle.block_device.proofs.Wanting.{serving_asks}

-- ---- the header

pub read_done : (from : Collect) (to : List Part) (e : BlockData)
    → collect_left 16 from ≡ Gives (record { bytes = from.held; parts = from.from })
    → performing (collect_left 16 from) e (λ f got. Comes f (Some (headed to got)))
    ≡ Comes e (Some (record { parts = to; got = got_of from }))
read_done from to e done = ap (λ (t : Doing Got). performing t e (λ f got. Comes f (Some (headed to got)))) done

pub read_more : (from : Collect) (to : List Part) (e : BlockData) → length from.held < 16 → 0 < room from.from
    → performing (collect_left 16 from) e (λ f got. Comes f (Some (headed to got)))
    ≡ Acts e (Read (place from.from) (room from.from))
    (λ f reply. performing (led (collect_left 16 from) reply) f (λ g got. Comes g (Some (headed to got))))
read_more from to e short space = performing_acts (collect_left 16 from) e _ _ (collect_asks 16 from short space)

-- the header's read goes on
pub read_led : (w now : Working) (from : Collect) (to : List Part) (reply : Reply) (e : BlockData)
    (told : Option (Option Taken)) → w.stage ≡ at.Header → collect_left 16 from ≡ led (collect_left 16 w.from) reply
    → to ≡ w.to
    → Works (performing (collect_left 16 from) e (λ f got. Comes f (Some (headed to got)))) told e (hand_of now).op
    (hand_of now).taking
    → Works ((hand_of w).taking e reply) told e (hand_of now).op (hand_of now).taking
read_led w now from to reply e told is same parts works =
    let here : Acting BlockData (Option Taken) → Type 0 =
    λ t. Works t told e (hand_of now).op (hand_of now).taking in
    let same_parts = subst (λ (z : List Part). here (performing (collect_left 16 from) e (λ f got. Comes f (Some (headed z got)))))
    parts works in
    let on = subst (λ (t : Doing Got). here (performing t e (λ f got. Comes f (Some (headed w.to got))))) same same_parts in
    subst (λ (s : BlockStage). here ((hand_of (record { stage = s; from = w.from; to = w.to })).taking e reply)) (sym is) on

-- ---- the service

pub serve_acts : (t : Doing ℕ) (place : ℕ) (s : ServiceStage) (from : Collect) (to : List Part) (e : BlockData)
    → serving_left s from to place ≡ t → IsStage s from to
    → performing t e (λ f used. Comes f (Some used)) ≡ Acts e (serving_op s from to place) (serving_at (at.Serve place s) from to)
serve_acts t place s from to e same is =
    sym (ap (λ (u : Doing ℕ). performing u e (λ f used. Comes f (Some used))) same)
    ∙ performing_acts (serving_left s from to place) e _ _ (serving_asks s from to place is)

long_by : (test : Bool) (t : Taken) (e : BlockData) (x : Acting BlockData (Option ℕ)) → nat_lt (length t.got.bytes) 16 ≡ test
    → test ≡ false → (if nat_lt (length t.got.bytes) 16 then Comes e None else x) ≡ x
long_by test t e x is off = rw (is ∙ off) refl

short_by : (t : Taken) (e : BlockData) (x : Acting BlockData (Option ℕ)) → nat_lt (length t.got.bytes) 16 ≡ true
    → (if nat_lt (length t.got.bytes) 16 then Comes e None else x) ≡ Comes e None
short_by t e x is = rw is refl

pub served_short : (t : Taken) (e : BlockData) → length t.got.bytes < 16 → served t e ≡ Comes e None
unfolding served
served_short t e short = short_by t e _ (lt-ltb (length t.got.bytes) 16 short)

-- with this stage the service of a chain begins
pub served_acts : (t : Taken) (e : BlockData) (place data_out : ℕ) (s : ServiceStage) (from : Collect) (to : List Part)
    → 16 ≤ length t.got.bytes → place ≡ last_byte 0 t.parts → data_out ≡ length t.got.bytes + total t.got.parts - 16
    → ((r : Request) → r.sectors ≡ e.sectors → r.read_only ≡ e.is_read_only → r.id ≡ e.drive_id → r.got ≡ t.got
    → r.writable ≡ t.parts → r.data_in ≡ total t.parts - 1 → r.data_out ≡ data_out
    → serving_left s from to r.at ≡ service r)
    → IsStage s from to → served t e ≡ Acts e (serving_op s from to place) (serving_at (at.Serve place s) from to)
unfolding served
served_acts t e place data_out s from to long there out begins is =
    let left = begins (request_of t e) refl refl refl refl refl refl (sym out) in
    long_by false t e (performing (service (request_of t e)) e (λ f used. Comes f (Some used)))
    (le-ltb (length t.got.bytes) 16 long) refl
    ∙ subst (λ (p : ℕ). performing (service (request_of t e)) e (λ f used. Comes f (Some used))
    ≡ Acts e (serving_op s from to p) (serving_at (at.Serve p s) from to)) (sym there)
    (serve_acts (service (request_of t e)) (last_byte 0 t.parts) s from to e left is)

-- ---- a chain is taken

pub short_test : (parts reads writes : List Part) → reads ≡ readable parts → writes ≡ writable parts
    → (nat_lt (total reads) 16 || (length writes == 0)) ≡ is_short parts
short_test parts reads writes a b = rw (a, b) refl

pub short_some : (sum count : ℕ) → (nat_lt sum 16 || (count == 0)) ≡ false → 0 < count
short_some sum count is = grind arith

pub take_off : (parts : List Part) (e : BlockData) → is_short parts ≡ true → taken parts e ≡ Comes e None
unfolding taken
take_off parts e is = rw is refl

take_else : (test : Bool) (e : BlockData) (x : Acting BlockData (Option Taken)) → test ≡ false
    → (if test then Comes e None else x) ≡ x
take_else test e x is = rw is refl

pub take_on : (parts reads writes : List Part) (held : List ℕ) (e : BlockData) (told : Option (Option Taken))
    (now : Working) → is_short parts ≡ false → reads ≡ readable parts → writes ≡ writable parts → held ≡ []
    → Works (performing (collect_left 16 (record { from = reads; held = held })) e
    (λ f got. Comes f (Some (headed writes got)))) told e (hand_of now).op (hand_of now).taking
    → Works (taken parts e) told e (hand_of now).op (hand_of now).taking
unfolding taken
take_on parts reads writes held e told now long a b none works =
    let here : Acting BlockData (Option Taken) → Type 0 = λ t. Works t told e (hand_of now).op (hand_of now).taking in
    let clear = subst (λ (z : List ℕ). here (performing (collect_left 16 (record { from = reads; held = z })) e
    (λ f got. Comes f (Some (headed writes got))))) none works in
    let first = subst (λ (z : List Part). here (performing (collect_left 16 (record { from = reads; held = [] })) e
    (λ f got. Comes f (Some (headed z got))))) b clear in
    let then_on = subst (λ (z : List Part). here (performing (collect_left 16 (record { from = z; held = [] })) e
    (λ f got. Comes f (Some (headed (writable parts) got))))) a first in
    subst here (sym (take_else (is_short parts) e
    (performing (collect_all 16 [] (readable parts)) e (λ f got. Comes f (Some (headed (writable parts) got)))) long)) then_on
