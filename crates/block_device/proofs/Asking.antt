-- Which acts the service of a request asks for: the device's own, and calls of its disk; inside RAM where its parts are.
use Rattle.std.proofs.Common.{◌≡◌, ℕ, zero, suc, ◌+◌, ◌-◌, ◌/◌, ◌^◌, ◌==◌, ◌<◌, ◌&&◌, not, refl, inr, Bool, true, false, if◌then◌else◌, List, length}
use Rattle.vm_types.specs.declared.op.Op.TheVariants.{Out}
use Rattle.vm_types.specs.declared.op.OutOp.TheVariants.{DiskFlush}
use Rattle.vm_types.specs.Fits.{Fits}
use Rattle.vm_types.specs.declared.reply.Reply.{Reply}
use Rattle.vm_types.specs.declared.reply.Reply.TheVariants.{Bytes, Done}
use Rattle.device_trace.specs.Acts.{is_disk_call}
use Rattle.device_trace.specs.Doing.{Doing, and_then}
use Rattle.device_trace.specs.Keeps.{Keeps}
use Rattle.device_trace.proofs.Keeping.{keeps_if, keeps_then}
use Rattle.le_fields.specs.Fields.{field_at}
use Rattle.vq_split.specs.declared.queue.Part.{Part}
use Rattle.vq_split.specs.Chain.{is_inside}
use Rattle.dev_core.specs.declared.collect.Collect.{Collect}
use Rattle.dev_core.specs.Inside.{Any}
use Rattle.dev_core.specs.Pieces.{Got, collect_all, put_all}
use Rattle.queue_device.specs.Chains.{got_of}
use Rattle.queue_device.specs.Confined.{IsDeviceAct}
use Rattle.queue_device.proofs.PieceActs.{Lie, collect_acts, put_acts}
use Rattle.block_device.specs.declared.stage.ServiceStage.{ServiceStage}
use Rattle.block_device.specs.declared.stage.ServiceStage.TheVariants as stage
use Rattle.block_device.specs.Service.{Request, behind_header, behind_unit, done_by, done_status, io_error, is_range, kind_flush, kind_get_id, kind_in, kind_out, ok, read_by, served_as, service, status_written, unit_written, units_in, units_out, unsupported, used_of}
use Rattle.block_device.specs.Serving.{serving_left}

module _ (port pages : ℕ) where
  -- a tree of acts that asks for the device's alone, whatever it comes to
  abbrev pub Acts : Doing ℕ → Type 0
  Acts t = Keeps (IsDeviceAct false is_disk_call port pages) (Any {A = ℕ}) t

  -- parts, and the status' place, in a guest of fewer than 2^32 pages
  abbrev pub Placed : List Part → Type 0
  Placed parts = Lie is_disk_call port pages parts

  abbrev pub HasPlace : ℕ → Type 0
  HasPlace at = pages < 2 ^ 32 → is_inside pages at 1 ≡ true

  acts_if : (test : Bool) (x w : Doing ℕ) → Acts x → Acts w → Acts (if test then x else w)
  acts_if test x w on off =
      keeps_if (IsDeviceAct false is_disk_call port pages) (Any {A = ℕ}) test _ x w refl (λ is. on) (λ is. off)

  then_put : (bytes : List ℕ) (parts : List Part) (more : List Part → Doing ℕ) → Placed parts
      → ((left : List Part) → Placed left → Acts (more left)) → Acts (and_then (put_all bytes parts) more)
  then_put bytes parts more inside on =
      keeps_then (IsDeviceAct false is_disk_call port pages) (λ (left : List Part). Placed left) (Any {A = ℕ})
      (put_all bytes parts) more (put_acts is_disk_call port pages bytes parts inside) on

  status_acts : (at status used : ℕ) → HasPlace at → Acts (status_written at status used)
  status_acts at status used place = ((place, inr (tt, tt)), λ reply fit. tt)

  read_acts : (reply : Reply) (good : List ℕ → Doing ℕ) (bad : Doing ℕ) → ((piece : List ℕ) → Acts (good piece))
      → Acts bad → Acts (read_by reply good bad)
  read_acts (Bytes piece) good bad on off = on piece
  read_acts reply good bad on off = off

  done_acts : (reply : Reply) (good bad : Doing ℕ) → Acts good → Acts bad → Acts (done_by reply good bad)
  done_acts Done good bad on off = on
  done_acts reply good bad on off = off

  in_acts : (units unit sector : ℕ) (parts : List Part) (at : ℕ) → Placed parts → HasPlace at
      → Acts (units_in units unit sector parts at)
  in_acts zero unit sector parts at inside place = status_acts at ok (used_of unit) place
  in_acts (suc more) unit sector parts at inside place = (
    (λ few. tt, inr (refl, refl)),
    λ reply fit. read_acts reply _ _
        (λ piece. then_put piece parts _ inside (λ left still. in_acts more (unit + 1) sector left at still place))
        (status_acts at io_error (used_of unit) place),
  )

  unit_acts : (unit sector at : ℕ) (on : Got → Doing ℕ) (got : Got) → HasPlace at → Acts (on (behind_unit got))
      → Acts (unit_written unit sector at on got)
  unit_acts unit sector at on got place acts =
      ((λ few. tt, inr (refl, refl)), λ reply fit. done_acts reply _ _ acts (status_acts at io_error 1 place))

  out_acts : (units unit sector at : ℕ) (got : Got) → Placed got.parts → HasPlace at
      → Acts (units_out units unit sector at got)
  out_acts zero unit sector at got inside place = status_acts at ok 1 place
  out_acts (suc more) unit sector at got inside place =
      keeps_then (IsDeviceAct false is_disk_call port pages) (λ (whole : Got). Placed whole.parts) (Any {A = ℕ})
      (collect_all (64 - length got.bytes) got.bytes got.parts) _
      (collect_acts is_disk_call port pages (64 - length got.bytes) got.bytes got.parts inside)
      (λ whole still. unit_acts unit sector at (units_out more (unit + 1) sector at) whole place
      (out_acts more (unit + 1) sector at (behind_unit whole) still place))

  id_acts : (id : List ℕ) (parts : List Part) (at : ℕ) → Placed parts → HasPlace at
      → Acts (and_then (put_all id parts) (λ left. status_written at ok 21))
  id_acts id parts at inside place = then_put id parts _ inside (λ left still. status_acts at ok 21 place)

  flush_acts : (at : ℕ) → HasPlace at
      → (IsDeviceAct false is_disk_call port pages (Out DiskFlush))
      × ((reply : Reply) → Fits (Out DiskFlush) reply → Acts (status_written at (done_status reply) 1))
  flush_acts at place = ((λ few. tt, inr (refl, refl)), λ reply fit. status_acts at (done_status reply) 1 place)

  served_acts : (kind sector : ℕ) (r : Request) → Placed r.writable → Placed r.got.parts → HasPlace r.at
      → Acts (served_as kind sector r)
  served_acts kind sector r to from place =
      let fails = status_acts r.at io_error 1 place in
      acts_if (kind == kind_in) _ _
      (acts_if (is_range r.data_in sector r.sectors) _ _ (in_acts (r.data_in / 64) 0 sector r.writable r.at to place) fails)
      (acts_if (kind == kind_out) _ _
      (acts_if (not r.read_only && is_range r.data_out sector r.sectors) _ _
      (out_acts (r.data_out / 64) 0 sector r.at (behind_header r.got) from place) fails)
      (acts_if (kind == kind_flush) _ _ (flush_acts r.at place)
      (acts_if (kind == kind_get_id) _ _ (acts_if (r.data_in == 20) _ _ (id_acts r.id r.writable r.at to place) fails)
      (status_acts r.at unsupported 1 place))))

  pub service_acts : (r : Request) → Placed r.writable → Placed r.got.parts → HasPlace r.at → Acts (service r)
  unfolding service
  service_acts r to from place = served_acts (field_at r.got.bytes 0 4) (field_at r.got.bytes 8 8) r to from place

  pub serving_acts : (s : ServiceStage) (from : Collect) (to : List Part) (at : ℕ) → Placed from.from → Placed to
      → HasPlace at → Acts (serving_left s from to at)
  serving_acts (stage.Read sector unit more) from to at reads writes place = in_acts (suc more) unit sector to at writes place
  serving_acts (stage.Put sector unit more) from to at reads writes place =
      then_put from.held to _ writes (λ left still. in_acts more (unit + 1) sector left at still place)
  serving_acts stage.PutId from to at reads writes place = id_acts from.held to at writes place
  serving_acts (stage.Gather sector unit more) from to at reads writes place =
      out_acts (suc more) unit sector at (got_of from) reads place
  serving_acts (stage.Disk sector unit more) from to at reads writes place =
      unit_acts unit sector at (units_out more (unit + 1) sector at) (got_of from) place
      (out_acts more (unit + 1) sector at (behind_unit (got_of from)) reads place)
  serving_acts stage.Flush from to at reads writes place = flush_acts at place
  serving_acts (stage.Status status used) from to at reads writes place = status_acts at status used place
