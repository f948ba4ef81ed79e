-- Metadata are given at interfaces that are there, whatever is put or patched.
use Rattle.std.proofs.Common.{◌≡◌, ℕ, Bool, true, false, not, refl, ◌∙◌, List, [], ◌∷◌, Option, Some, None}
use Rattle.std.specs.List.{list_all}
use Rattle.std.proofs.lemmas.Bool.{and_from, and_parts}
use Rattle.api_calls.specs.declared.interface.Interface.{Interface}
use Rattle.api_calls.specs.declared.interface.InterfacePatch.{InterfacePatch}
use Rattle.api_calls.specs.declared.mmds.MmdsConfig.{MmdsConfig}
use Rattle.api_calls.specs.Form.{are_ids, holds, is_address}
use Rattle.vm_config.specs.Interfaces.{has_interface, id_of_interface, patch_interface, patched_interface, put_interface}
use Rattle.vm_config.proofs.Apart.{any_changed, has_put}
use Rattle.snap_state.specs.Valid.{is_mmds}

module _ (olds news : List Interface) (keeps : (id : List ℕ) → has_interface olds id ≡ true → has_interface news id ≡ true) where
  all_kept : (ids : List (List ℕ)) → list_all (has_interface olds) ids ≡ true → list_all (has_interface news) ids ≡ true
  all_kept [] all = refl
  all_kept (id ∷ ids) all =
      let p = and_parts (has_interface olds id) (list_all (has_interface olds) ids) all in
      and_from _ _ (keeps id p.0) (all_kept ids p.1)

  mmds_kept : (o : Option MmdsConfig) → holds (is_mmds olds) o ≡ true → holds (is_mmds news) o ≡ true
  mmds_kept None is = refl
  mmds_kept (Some m) is =
      let p1 = and_parts _ (is_address m.ipv4_address) is in
      let p0 = and_parts (are_ids m.network_interfaces) (list_all (has_interface olds) m.network_interfaces) p1.0 in
      and_from _ _ (and_from _ _ p0.0 (all_kept m.network_interfaces p0.1)) p1.1

pub mmds_put : (interface : Interface) (interfaces : List Interface) (o : Option MmdsConfig) → holds (is_mmds interfaces) o ≡ true
    → holds (is_mmds (put_interface interfaces interface)) o ≡ true
mmds_put interface interfaces o is =
    mmds_kept interfaces (put_interface interfaces interface) (λ id has. has_put id_of_interface interfaces interface id has) o is

pub mmds_patched : (patch : InterfacePatch) (interfaces : List Interface) (o : Option MmdsConfig) → holds (is_mmds interfaces) o ≡ true
    → holds (is_mmds (patch_interface interfaces patch)) o ≡ true
mmds_patched patch interfaces o is =
    mmds_kept interfaces (patch_interface interfaces patch)
    (λ id has. any_changed id_of_interface patch.iface_id (patched_interface patch) (λ i named. refl) id interfaces ∙ has) o is

not_false : (b : Bool) → not b ≡ false → b ≡ true
not_false true is = refl
not_false false is = absurd cc

-- as a PUT asks it
pub mmds_given : (interfaces : List Interface) (m : MmdsConfig) → are_ids m.network_interfaces ≡ true → is_address m.ipv4_address ≡ true
    → not (list_all (has_interface interfaces) m.network_interfaces) ≡ false → is_mmds interfaces m ≡ true
mmds_given interfaces m ids place there =
    and_from _ _ (and_from _ _ ids (not_false (list_all (has_interface interfaces) m.network_interfaces) there)) place
