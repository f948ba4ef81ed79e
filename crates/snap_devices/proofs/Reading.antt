-- A block device is read by its form and what stands behind it, and so is a device.
use Rattle.std.proofs.Common.{◌≡◌, ℕ, zero, suc, refl, sym, ap, subst, ◌∙◌, Bool, true, false, if◌then◌else◌, ◌<◌, nat_lt, List, length, Option, Some, None}
use Rattle.std.proofs.lemmas.Bool.{and_from, lt-ltb}
use Rattle.std.specs.Option.{option_and_then}
use Rattle.file_format.specs.Ends.{end_at, ended, whole}
use Rattle.file_format.specs.Format.{Format}
use Rattle.file_format.specs.Kinds.{byte, passing}
use Rattle.dev_core.specs.declared.collect.Collect.{Collect}
use Rattle.dev_core.specs.Pieces.{room}
use Rattle.queue_device.specs.declared.device.QueueRounds.{QueueRounds}
use Rattle.block_device.specs.declared.kind.BlockKind.{BlockKind}
use Rattle.net_device.specs.States as nets
use Rattle.net_device.specs.Work as net_work
use Rattle.vsock_device.specs.declared.kind.VsockKind.{VsockKind}
use Rattle.vsock_device.specs.Reset.{is_unconnected}
use Rattle.vsock_device.specs.States as vsocks
use Rattle.vsock_device.specs.Work.{is_fetching}
use Rattle.balloon_device.specs.States as balloons
use Rattle.balloon_device.specs.Work as balloon_work
use Rattle.entropy_device.specs.States as entropies
use Rattle.entropy_device.specs.Work as entropy_work
use Rattle.guest_devices.specs.declared.device.Device.{Device}
use Rattle.guest_devices.specs.declared.device.Device.TheVariants as kept
use Rattle.snap_devices.specs.declared.file.FileBlock.{FileBlock}
use Rattle.snap_devices.specs.declared.file.FileMore.{FileMore}
use Rattle.snap_devices.specs.Balloons.{balloon, balloon_fields}
use Rattle.snap_devices.specs.Blocks.{block, block_fields}
use Rattle.snap_devices.specs.Devices.{device, devices}
use Rattle.snap_devices.specs.Entropies.{entropy, entropy_fields}
use Rattle.snap_devices.specs.Forms.{is_form, kept_of}
use Rattle.snap_devices.specs.Limits.{end_of_device}
use Rattle.snap_devices.specs.Nets.{net, net_fields}
use Rattle.snap_devices.specs.Vsocks.{vsock, vsock_fields}

abbrev Whole : Type 0
Whole = FileBlock × FileMore

abbrev made : Whole → Option (QueueRounds BlockKind)
made x = Some (kept_of x)

abbrev tested : Whole → Option Whole
tested x = if is_form x then Some x else None

abbrev behind : FileBlock × List ℕ → Option Whole
behind x = option_and_then (λ (m : FileMore). Some (x.0, m)) (end_at end_of_device x.1)

chosen : (test : Bool) (x : Whole) (o : Option (QueueRounds BlockKind)) → (if test then Some (kept_of x) else None) ≡ o
    → option_and_then made (if test then Some x else None) ≡ o
chosen true x o is = is
chosen false x o is = is

abbrev pub reads_by : Option (FileBlock × List ℕ) → Option (QueueRounds BlockKind)
reads_by read = option_and_then made (option_and_then tested (option_and_then behind read))

pub read_block : (given : List ℕ) → block.reads given ≡ reads_by (block_fields.reads given)
unfolding block ended
read_block given = refl

pub fields_bad : (given : List ℕ) → block_fields.reads given ≡ None → block.reads given ≡ None
fields_bad given read = read_block given ∙ ap reads_by read

with_end : (given rest : List ℕ) (f : FileBlock) (o : Option FileMore) → block_fields.reads given ≡ Some (f, rest)
    → end_at end_of_device rest ≡ o
    → block.reads given ≡ option_and_then made (option_and_then tested (option_and_then (λ (m : FileMore). Some (f, m)) o))
with_end given rest f o read end =
    read_block given ∙ ap reads_by read
    ∙ ap (λ (e : Option FileMore). option_and_then made (option_and_then tested (option_and_then (λ (m : FileMore). Some (f, m)) e))) end

pub end_bad : (given rest : List ℕ) (f : FileBlock) → block_fields.reads given ≡ Some (f, rest)
    → end_at end_of_device rest ≡ None → block.reads given ≡ None
end_bad given rest f read end = with_end given rest f None read end

pub reads_as : (given rest : List ℕ) (f : FileBlock) (m : FileMore) (o : Option (QueueRounds BlockKind))
    → block_fields.reads given ≡ Some (f, rest) → end_at end_of_device rest ≡ Some m
    → (if is_form (f, m) then Some (kept_of (f, m)) else None) ≡ o → block.reads given ≡ o
reads_as given rest f m o read end is = with_end given rest f (Some m) read end ∙ chosen (is_form (f, m)) (f, m) o is

-- ---- a device

pub other_kind : (code : ℕ) (given : List ℕ) → (code ≡ 0 → ⊥) → (code ≡ 1 → ⊥) → (code ≡ 2 → ⊥) → (code ≡ 3 → ⊥) → (code ≡ 4 → ⊥)
    → (devices code).reads given ≡ None
other_kind zero given first one two three four = absurd (first refl)
other_kind (suc zero) given first one two three four = absurd (one refl)
other_kind (suc (suc zero)) given first one two three four = absurd (two refl)
other_kind (suc (suc (suc zero))) given first one two three four = absurd (three refl)
other_kind (suc (suc (suc (suc zero)))) given first one two three four = absurd (four refl)
other_kind (suc (suc (suc (suc (suc n))))) given first one two three four = refl

pub kind_bad : (given : List ℕ) → byte.reads given ≡ None → device.reads given ≡ None
unfolding device
kind_bad given read = ap (option_and_then (λ (x : ℕ × List ℕ). (devices x.0).reads x.1)) read

pub kind_read : (given rest : List ℕ) (code : ℕ) (o : Option Device) → byte.reads given ≡ Some (code, rest)
    → (devices code).reads rest ≡ o → device.reads given ≡ o
unfolding device
kind_read given rest code o read is = ap (option_and_then (λ (x : ℕ × List ℕ). (devices x.0).reads x.1)) read ∙ is

-- of a block device
pub block_is : (given rest : List ℕ) (b : QueueRounds BlockKind) → byte.reads given ≡ Some (1, rest)
    → block.reads rest ≡ Some b → device.reads given ≡ Some (kept.Block b)
block_is given rest b read is =
    kind_read given rest 1 (Some (kept.Block b)) read (ap (option_and_then (λ (a : QueueRounds BlockKind). Some (kept.Block a))) is)

pub block_none : (given rest : List ℕ) → byte.reads given ≡ Some (1, rest) → block.reads rest ≡ None → device.reads given ≡ None
block_none given rest read is =
    kind_read given rest 1 None read (ap (option_and_then (λ (a : QueueRounds BlockKind). Some (kept.Block a))) is)

-- ---- what is read where it passes a test

module _ {A : Type 0} (test : A → Bool) (fields : Format A) where
  abbrev Read : Type 0
  Read = A × List ℕ

  one_read : (passes : Bool) (a it : A) (rest : List ℕ) → Some it ≡ (if passes then Some a else None)
      → if◌then◌else◌ {A = Option Read} passes (Some (a, rest)) None ≡ Some (it, rest)
  one_read true a it rest is =
      let same : it ≡ a = cc in ap (λ (x : A). (let it : Read = (x, rest) in Some it)) (sym same)
  one_read false a it rest is = absurd (cc)

  none_read : (passes : Bool) (a : A) (rest : List ℕ) → None ≡ (if passes then Some a else None)
      → if◌then◌else◌ {A = Option Read} passes (Some (a, rest)) None ≡ None
  none_read true a rest is = absurd (cc)
  none_read false a rest is = refl

  abbrev passed_if : Read → Option Read
  passed_if x = if test x.0 then Some x else None

  passed_read : (given rest : List ℕ) (a it : A) → fields.reads given ≡ Some (a, rest)
      → Some it ≡ (if test a then Some a else None) → (passing test fields).reads given ≡ Some (it, rest)
  passed_read given rest a it read is = ap (option_and_then passed_if) read ∙ one_read (test a) a it rest is

  passed_refused : (given rest : List ℕ) (a : A) → fields.reads given ≡ Some (a, rest)
      → None ≡ (if test a then Some a else None) → (passing test fields).reads given ≡ None
  passed_refused given rest a read is = ap (option_and_then passed_if) read ∙ none_read (test a) a rest is

-- a network device, a balloon, an entropy device and a vsock device are read where they are in a state that they may be in

pub net_read : (given rest : List ℕ) (n it : QueueRounds net_work.Kept) → net_fields.reads given ≡ Some (n, rest)
    → Some it ≡ (if nets.is_state n then Some n else None) → net.reads given ≡ Some (it, rest)
unfolding net
net_read given rest n it read is = passed_read nets.is_state net_fields given rest n it read is

pub net_refused : (given rest : List ℕ) (n : QueueRounds net_work.Kept) → net_fields.reads given ≡ Some (n, rest)
    → None ≡ (if nets.is_state n then Some n else None) → net.reads given ≡ None
unfolding net
net_refused given rest n read is = passed_refused nets.is_state net_fields given rest n read is

pub balloon_read : (given rest : List ℕ) (b it : QueueRounds balloon_work.Kept) → balloon_fields.reads given ≡ Some (b, rest)
    → Some it ≡ (if balloons.is_state b then Some b else None) → balloon.reads given ≡ Some (it, rest)
unfolding balloon
balloon_read given rest b it read is = passed_read balloons.is_state balloon_fields given rest b it read is

pub balloon_refused : (given rest : List ℕ) (b : QueueRounds balloon_work.Kept) → balloon_fields.reads given ≡ Some (b, rest)
    → None ≡ (if balloons.is_state b then Some b else None) → balloon.reads given ≡ None
unfolding balloon
balloon_refused given rest b read is = passed_refused balloons.is_state balloon_fields given rest b read is

pub entropy_read : (given rest : List ℕ) (e it : QueueRounds entropy_work.Kept) → entropy_fields.reads given ≡ Some (e, rest)
    → Some it ≡ (if entropies.is_state e then Some e else None) → entropy.reads given ≡ Some (it, rest)
unfolding entropy
entropy_read given rest e it read is = passed_read entropies.is_state entropy_fields given rest e it read is

pub entropy_refused : (given rest : List ℕ) (e : QueueRounds entropy_work.Kept) → entropy_fields.reads given ≡ Some (e, rest)
    → None ≡ (if entropies.is_state e then Some e else None) → entropy.reads given ≡ None
unfolding entropy
entropy_refused given rest e read is = passed_refused entropies.is_state entropy_fields given rest e read is

pub vsock_read : (given rest : List ℕ) (v it : QueueRounds VsockKind) → vsock_fields.reads given ≡ Some (v, rest)
    → Some it ≡ (if vsocks.is_state v then Some v else None) → vsock.reads given ≡ Some (it, rest)
unfolding vsock
vsock_read given rest v it read is = passed_read vsocks.is_state vsock_fields given rest v it read is

pub vsock_refused : (given rest : List ℕ) (v : QueueRounds VsockKind) → vsock_fields.reads given ≡ Some (v, rest)
    → None ≡ (if vsocks.is_state v then Some v else None) → vsock.reads given ≡ None
unfolding vsock
vsock_refused given rest v read is = passed_refused vsocks.is_state vsock_fields given rest v read is

one_same : {A : Type 0} (passes : Bool) (a it : A) → Some it ≡ (if passes then Some a else None) → it ≡ a
one_same true a it is = cc
one_same false a it is = absurd (cc)

-- and has no connection where what was read has none
pub vsock_gone : (v it : QueueRounds VsockKind) → Some it ≡ (if vsocks.is_state v then Some v else None)
    → is_unconnected v.kind.own ≡ true → is_unconnected it.kind.own ≡ true
vsock_gone v it is gone =
    subst (λ (x : QueueRounds VsockKind). is_unconnected x.kind.own ≡ true) (sym (one_same (vsocks.is_state v) v it is)) gone

-- ---- a device that is one of these

pub net_is : (given rest : List ℕ) (n : QueueRounds net_work.Kept) → byte.reads given ≡ Some (0, rest)
    → (whole net).reads rest ≡ Some n → device.reads given ≡ Some (kept.Net n)
net_is given rest n read is =
    kind_read given rest 0 (Some (kept.Net n)) read (ap (option_and_then (λ (a : QueueRounds net_work.Kept). Some (kept.Net a))) is)

pub net_none : (given rest : List ℕ) → byte.reads given ≡ Some (0, rest) → (whole net).reads rest ≡ None
    → device.reads given ≡ None
net_none given rest read is =
    kind_read given rest 0 None read (ap (option_and_then (λ (a : QueueRounds net_work.Kept). Some (kept.Net a))) is)

pub balloon_is : (given rest : List ℕ) (b : QueueRounds balloon_work.Kept) → byte.reads given ≡ Some (2, rest)
    → (whole balloon).reads rest ≡ Some b → device.reads given ≡ Some (kept.Balloon b)
balloon_is given rest b read is =
    kind_read given rest 2 (Some (kept.Balloon b)) read (ap (option_and_then (λ (a : QueueRounds balloon_work.Kept). Some (kept.Balloon a))) is)

pub balloon_none : (given rest : List ℕ) → byte.reads given ≡ Some (2, rest) → (whole balloon).reads rest ≡ None
    → device.reads given ≡ None
balloon_none given rest read is =
    kind_read given rest 2 None read (ap (option_and_then (λ (a : QueueRounds balloon_work.Kept). Some (kept.Balloon a))) is)

pub entropy_is : (given rest : List ℕ) (e : QueueRounds entropy_work.Kept) → byte.reads given ≡ Some (4, rest)
    → (whole entropy).reads rest ≡ Some e → device.reads given ≡ Some (kept.Entropy e)
entropy_is given rest e read is =
    kind_read given rest 4 (Some (kept.Entropy e)) read (ap (option_and_then (λ (a : QueueRounds entropy_work.Kept). Some (kept.Entropy a))) is)

pub entropy_none : (given rest : List ℕ) → byte.reads given ≡ Some (4, rest) → (whole entropy).reads rest ≡ None
    → device.reads given ≡ None
entropy_none given rest read is =
    kind_read given rest 4 None read (ap (option_and_then (λ (a : QueueRounds entropy_work.Kept). Some (kept.Entropy a))) is)

pub vsock_is : (given rest : List ℕ) (v : QueueRounds VsockKind) → byte.reads given ≡ Some (3, rest)
    → (whole vsock).reads rest ≡ Some v → device.reads given ≡ Some (kept.Vsock v)
vsock_is given rest v read is =
    kind_read given rest 3 (Some (kept.Vsock v)) read (ap (option_and_then (λ (a : QueueRounds VsockKind). Some (kept.Vsock a))) is)

pub vsock_none : (given rest : List ℕ) → byte.reads given ≡ Some (3, rest) → (whole vsock).reads rest ≡ None
    → device.reads given ≡ None
vsock_none given rest read is =
    kind_read given rest 3 None read (ap (option_and_then (λ (a : QueueRounds VsockKind). Some (kept.Vsock a))) is)

pub other_none : (given rest : List ℕ) (code : ℕ) → byte.reads given ≡ Some (code, rest) → (code ≡ 0 → ⊥) → (code ≡ 1 → ⊥)
    → (code ≡ 2 → ⊥) → (code ≡ 3 → ⊥) → (code ≡ 4 → ⊥) → device.reads given ≡ None
other_none given rest code read first one two three four =
    kind_read given rest code None read (other_kind code rest first one two three four)

-- ---- a header that isn't whole

pub is_fetched : (from : Collect) → length from.held < 44 → 0 < room from.from → is_fetching from ≡ true
is_fetched from short more =
    and_from (nat_lt (length from.held) 44) (nat_lt 0 (room from.from)) (lt-ltb _ _ short) (lt-ltb _ _ more)
