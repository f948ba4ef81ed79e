-- What the service of a request begins with.
use Rattle.std.proofs.Common.{◌≡◌, ℕ, ◌+◌, ◌-◌, ◌/◌, ◌%◌, ◌^◌, ◌==◌, ◌<◌, ◌≤◌, ◌&&◌, not, nat_le, refl, Bool, true, [], length, arith}
use Rattle.std.proofs.lemmas.List.Elements.{All-nil}
use Rattle.std.proofs.lemmas.Bool.{and_parts}
use Rattle.le_fields.specs.Fields.{IsByte, field_at}
use Rattle.vq_split.specs.Inside.{AreInside}
use Rattle.dev_core.specs.Collecting.{nothing}
use Rattle.block_device.specs.declared.stage.ServiceStage.TheVariants as stage
use Rattle.block_device.specs.Service.{Request, behind_header, io_error, is_range, kind_flush, kind_get_id, kind_in, kind_out, served_as, served_id, served_in, served_out, service, unsupported}
use Rattle.block_device.specs.Working.{IsHeld}
use Rattle.block_device.proofs.Kept.{ArePart}
use Rattle.block_device.proofs.GoesOnServe.{Serves, behind, ends, gathers_on, puts_id_on, reads_on, serves_if}

-- ---- the kinds of request

range_of : (len sector sectors : ℕ) → is_range len sector sectors ≡ true
    → (len % 512 ≡ 0) × (sector + len / 512 ≤ sectors)
range_of len sector sectors is =
    let h = and_parts (len % 512 == 0) (nat_le (sector + len / 512) sectors) is in
    (grind (arith, h.0), grind (arith, h.1))

module _ (sized : Bool) (pages : ℕ) (r : Request) where
  error_small : (status : ℕ) → status ≤ 2 → sized ≡ true → (status < 2 ^ 8) × (1 < 2 ^ 32)
  error_small status few is = (omega (arith, few), omega arith)

  in_on : (sector : ℕ) → r.sectors < 2 ^ 64 → r.data_in ≤ 2 ^ 40 → AreInside pages r.writable
      → length r.writable ≤ 256 → Serves sized pages r.at (served_in sector r)
  in_on sector size most inside few =
      serves_if sized pages r.at (is_range r.data_in sector r.sectors) _ _
      (λ is.
      let range = range_of r.data_in sector r.sectors is in
      let units : 0 + r.data_in / 64 ≤ 2 ^ 50 = omega (arith, most) in
      let end : sector + (0 + r.data_in / 64 - 1) / 8 < 2 ^ 64 = omega (arith, range, size) in
      reads_on sized pages r.at (r.data_in / 64) 0 sector r.writable (omega arith) units end inside few)
      (λ off. ends sized pages r.at io_error 1 (error_small io_error (omega arith)))

  out_on : (sector : ℕ) → r.sectors < 2 ^ 64 → r.data_out ≤ 2 ^ 41 → ArePart pages r.got.parts
      → (sized ≡ true → IsHeld r.got.bytes) → Serves sized pages r.at (served_out sector r)
  out_on sector size most inside bytes =
      serves_if sized pages r.at (not r.read_only && is_range r.data_out sector r.sectors) _ _
      (λ is.
      let range = range_of r.data_out sector r.sectors (and_parts (not r.read_only) _ is).1 in
      let units : 0 + r.data_out / 64 ≤ 2 ^ 50 = omega (arith, most) in
      let end : sector + (0 + r.data_out / 64 - 1) / 8 < 2 ^ 64 = omega (arith, range, size) in
      gathers_on sized pages r.at (r.data_out / 64) 0 sector (behind_header r.got)
      (behind sized pages r.at 16 r.got.bytes bytes) (omega arith) units end inside)
      (λ off. ends sized pages r.at io_error 1 (error_small io_error (omega arith)))

  id_on : AreInside pages r.writable → length r.writable ≤ 256 → (sized ≡ true → IsHeld r.id)
      → Serves sized pages r.at (served_id r)
  id_on inside few bytes =
      serves_if sized pages r.at (r.data_in == 20) _ _ (λ is. puts_id_on sized pages r.at r.id r.writable bytes inside few)
      (λ off. ends sized pages r.at io_error 1 (error_small io_error (omega arith)))

  served_on : (kind sector : ℕ) → r.sectors < 2 ^ 64 → r.data_in ≤ 2 ^ 40 → r.data_out ≤ 2 ^ 41
      → AreInside pages r.writable → length r.writable ≤ 256 → ArePart pages r.got.parts
      → (sized ≡ true → IsHeld r.got.bytes) → (sized ≡ true → IsHeld r.id) → Serves sized pages r.at (served_as kind sector r)
  served_on kind sector size put got to few from bytes id =
      serves_if sized pages r.at (kind == kind_in) _ _ (λ is. in_on sector size put to few)
      (λ a. serves_if sized pages r.at (kind == kind_out) _ _ (λ is. out_on sector size got from bytes)
      (λ b. serves_if sized pages r.at (kind == kind_flush) _ _
      (λ is. record {
        stage = stage.Flush;
        from = nothing;
        to = [];
        is = (refl, refl);
        placed = (tt, tt);
        few = omega arith;
        fewer = omega arith;
        bytes = λ yes. (omega arith, All-nil IsByte);
        narrow = λ yes. tt;
        left = refl;
      })
      (λ c. serves_if sized pages r.at (kind == kind_get_id) _ _ (λ is. id_on to few id)
      (λ d. ends sized pages r.at unsupported 1 (error_small unsupported (omega arith))))))

  pub service_on : r.sectors < 2 ^ 64 → r.data_in ≤ 2 ^ 40 → r.data_out ≤ 2 ^ 41 → AreInside pages r.writable
      → length r.writable ≤ 256 → ArePart pages r.got.parts → (sized ≡ true → IsHeld r.got.bytes)
      → (sized ≡ true → IsHeld r.id) → Serves sized pages r.at (service r)
  unfolding service
  service_on size put got to few from bytes id =
      served_on (field_at r.got.bytes 0 4) (field_at r.got.bytes 8 8) size put got to few from bytes id
