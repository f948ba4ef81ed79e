-- Units that are counted from another sector.
use Rattle.std.proofs.Common.{◌≡◌, ℕ, zero, suc, ◌+◌, ◌%◌, ◌^◌, ◌∙◌, ◌-◌, ◌<◌, refl, sym, ap, List, length, arith}
use Rattle.vm_types.specs.declared.op.Op.TheVariants.{Out}
use Rattle.vm_types.specs.declared.op.OutOp.TheVariants.{DiskRead, DiskWrite}
use Rattle.vm_types.specs.declared.reply.Reply.{Reply}
use Rattle.vm_types.specs.declared.reply.Reply.TheVariants.{Bytes, Done}
use Rattle.device_trace.specs.Doing.{Doing, Gives, Wants, and_then}
use Rattle.vq_split.specs.declared.queue.Part.{Part}
use Rattle.dev_core.specs.Pieces.{Got, collect_all, put_all}
use Rattle.block_device.specs.Service.{behind_unit, done_by, io_error, ok, read_by, sector_of, status_written, unit_of, units_in, units_out, used_of}

then_same : {A B : Type 0} (t : Doing A) (more other : A → Doing B) → ((a : A) → more a ≡ other a)
    → and_then t more ≡ and_then t other
then_same (Gives a) more other same = same a
then_same (Wants op on) more other same = λ i. Wants op (λ reply. then_same (on reply) more other same i)

read_same : (reply : Reply) (good good' : List ℕ → Doing ℕ) (bad bad' : Doing ℕ)
    → ((piece : List ℕ) → good piece ≡ good' piece) → bad ≡ bad' → read_by reply good bad ≡ read_by reply good' bad'
read_same (Bytes piece) good good' bad bad' same other = same piece
read_same reply good good' bad bad' same other = other

done_same : (reply : Reply) (good good' bad : Doing ℕ) → good ≡ good'
    → done_by reply good bad ≡ done_by reply good' bad
done_same Done good good' bad same = same
done_same reply good good' bad same = refl

used_moved : (unit : ℕ) → used_of (unit + 2 ^ 26) ≡ used_of unit
used_moved unit = omega arith

-- 2^26 units are as many as none where the sector is 2^23 further
pub in_moved : (units unit sector : ℕ) (parts : List Part) (at : ℕ)
    → units_in units (unit + 2 ^ 26) sector parts at ≡ units_in units unit (sector + 2 ^ 23) parts at
in_moved zero unit sector parts at = ap (status_written at ok) (used_moved unit)
in_moved (suc more) unit sector parts at =
    let place : sector_of sector (unit + 2 ^ 26) ≡ sector_of (sector + 2 ^ 23) unit = omega arith in
    let part : (unit + 2 ^ 26) % 8 ≡ unit % 8 = omega arith in
    let next : unit + 2 ^ 26 + 1 ≡ unit + 1 + 2 ^ 26 = omega arith in
    λ i. Wants (Out (DiskRead (place i) (part i))) (λ reply.
    read_same reply _ _ _ _
    (λ piece. then_same (put_all piece parts) _ _ (λ left.
    ap (λ n. units_in more n sector left at) next ∙ in_moved more (unit + 1) sector left at))
    (ap (status_written at io_error) (used_moved unit)) i)

-- 8 units are a sector
pub out_moved : (units unit sector at : ℕ) (got : Got)
    → units_out units (unit + 8) sector at got ≡ units_out units unit (sector + 1) at got
out_moved zero unit sector at got = refl
out_moved (suc more) unit sector at got =
    let place : sector_of sector (unit + 8) ≡ sector_of (sector + 1) unit = omega arith in
    let part : (unit + 8) % 8 ≡ unit % 8 = omega arith in
    let next : unit + 8 + 1 ≡ unit + 1 + 8 = omega arith in
    then_same (collect_all (64 - length got.bytes) got.bytes got.parts) _ _ (λ whole.
    λ i. Wants (Out (DiskWrite (place i) (part i) (unit_of whole.bytes))) (λ reply.
    done_same reply (units_out more (unit + 8 + 1) sector at (behind_unit whole))
    (units_out more (unit + 1) (sector + 1) at (behind_unit whole)) (status_written at io_error 1)
    (ap (λ n. units_out more n sector at (behind_unit whole)) next
    ∙ out_moved more (unit + 1) sector at (behind_unit whole)) i))

pub in_wrapped : (units unit sector : ℕ) (parts : List Part) (at : ℕ) → 0 < units → unit ≡ 2 ^ 26
    → units_in (suc (units - 1)) 0 (sector + 2 ^ 23) parts at ≡ units_in units unit sector parts at
in_wrapped units unit sector parts at some is =
    let count : suc (units - 1) ≡ units = omega (arith, some) in
    let from : 0 + 2 ^ 26 ≡ unit = omega (arith, is) in
    ap (λ n. units_in n 0 (sector + 2 ^ 23) parts at) count ∙ sym (in_moved units 0 sector parts at)
    ∙ ap (λ n. units_in units n sector parts at) from

pub out_wrapped : (units part sector at : ℕ) (got : Got) → part ≡ 7
    → units_out units 0 (sector + 1) at got ≡ units_out units (part + 1) sector at got
out_wrapped units part sector at got is =
    let from : 0 + 8 ≡ part + 1 = omega (arith, is) in
    sym (out_moved units 0 sector at got) ∙ ap (λ n. units_out units n sector at got) from
