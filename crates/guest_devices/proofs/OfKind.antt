-- What a device of a kind does, said of the device of a guest that it is.
use Rattle.std.proofs.Common.{◌≡◌, true, Some, None, sym, ap, subst, ◌∙◌}
use Rattle.vm_types.specs.declared.op.Op.{Op}
use Rattle.vm_types.specs.declared.reply.Reply.{Reply}
use Rattle.device_trace.specs.Script.{Script}
use Rattle.device_trace.specs.States.{changed_at, next, wants}
use Rattle.guest_devices.specs.declared.change.DeviceChange.{DeviceChange}
use Rattle.guest_devices.specs.declared.device.Device.{Device}
use Rattle.guest_devices.specs.declared.new_device.NewDevice.{NewDevice}
use Rattle.guest_devices.specs.Devices.{DataOf, DeviceLeft, FitsNew, device_changed, device_next, device_rules, device_wants, left_of, left_reset, left_told}
use Rattle.guest_devices.specs.Kept.{device_left, is_kept}
use Rattle.guest_devices.specs.Kinds.{ChangeOf, Kind, change_for, reset_for}

module _ (k : Kind) where
  pub want_is : (t : Script (DataOf k)) (op : Op) → op ≡ wants (device_rules k) t → (d : Device) → device_left d ≡ left_of k t
      → op ≡ device_wants (device_left d)
  want_is t op is d same = is ∙ ap device_wants (sym same)

  pub give_is : (t u : Script (DataOf k)) (reply : Reply) → u ≡ next (device_rules k) t reply → (d e : Device)
      → device_left d ≡ left_of k t → device_left e ≡ left_of k u → device_left e ≡ device_next (device_left d) reply
  give_is t u reply is d e before after =
      after ∙ ap (left_of k) is ∙ ap (λ (x : DeviceLeft). device_next x reply) (sym before)

  pub tell_is : (t u : Script (DataOf k)) (c : ChangeOf k) → u ≡ changed_at (device_rules k) c t → (change : DeviceChange)
      → change_for change k ≡ Some c → (d e : Device) → device_left d ≡ left_of k t → device_left e ≡ left_of k u
      → device_left e ≡ device_changed change (device_left d)
  tell_is t u c is change told d e before after =
      after ∙ ap (left_of k) is ∙ ap (left_told (left_of k t)) (sym told)
      ∙ ap (λ (x : DeviceLeft). device_changed change x) (sym before)

  -- the Reset, of a kind that is told of it
  pub reset_is : (t u : Script (DataOf k)) (c : ChangeOf k) → u ≡ changed_at (device_rules k) c t → reset_for k ≡ Some c → (d e : Device)
      → device_left d ≡ left_of k t → device_left e ≡ left_of k u → device_left e ≡ left_reset (device_left d)
  reset_is t u c is told d e before after =
      after ∙ ap (left_of k) is ∙ ap (left_told (left_of k t)) (sym told) ∙ ap left_reset (sym before)

  -- a change of another kind is none
  pub other_is : (t : Script (DataOf k)) (change : DeviceChange) → change_for change k ≡ None → (d e : Device)
      → device_left d ≡ left_of k t → device_left e ≡ left_of k t → device_left e ≡ device_changed change (device_left d)
  other_is t change none d e before after =
      after ∙ sym (ap (left_told (left_of k t)) none) ∙ ap (λ (x : DeviceLeft). device_changed change x) (sym before)

pub kept_is : (it : Device) → is_kept it ≡ true → (d : Device) → d ≡ it → is_kept d ≡ true
kept_is it is d same = ap is_kept same ∙ is

pub fits_is : (new : NewDevice) → FitsNew new → (what : NewDevice) → what ≡ new → FitsNew what
fits_is new fits what same = subst (λ (x : NewDevice). FitsNew x) (sym same) fits
