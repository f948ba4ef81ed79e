-- No number that is told is one that isn't whole.
use Rattle.std.proofs.Common.{◌≡◌, ℕ, false, List, [], ◌∷◌, map, Option, Some, None, refl}
use Rattle.std.proofs.lemmas.Bool.{or_from}
use Rattle.serde_json.specs.Data.{string}
use Rattle.serde_json.specs.View.{items_of}
use Rattle.serde_json.specs.Written.{has_float, items_have_float, members_have_float}
use Rattle.api_calls.specs.declared.balloon.Balloon.{Balloon}
use Rattle.api_calls.specs.declared.call.BootSource.{BootSource}
use Rattle.api_calls.specs.declared.call.Drive.{Drive}
use Rattle.api_calls.specs.declared.entropy.Entropy.{Entropy}
use Rattle.api_calls.specs.declared.interface.Interface.{Interface}
use Rattle.api_calls.specs.declared.limiter.BucketConfig.{BucketConfig}
use Rattle.api_calls.specs.declared.limiter.Limiter.{Limiter}
use Rattle.api_calls.specs.declared.mmds.MmdsConfig.{MmdsConfig}
use Rattle.api_calls.specs.declared.vsock.Vsock.{Vsock}
use Rattle.vm_config.specs.declared.config.Config.{Config}
use Rattle.vm_config.specs.declared.statistics.Statistics.{Statistics}
use Rattle.vm_config.specs.Statistics.{given, rows_of}
use Rattle.vm_config.specs.Texts as texts

text_whole : (t : Option (List ℕ)) → has_float (texts.text_or_null t) ≡ false
text_whole None = refl
text_whole (Some t) = refl

number_whole : (n : Option ℕ) → has_float (texts.number_or_null n) ≡ false
number_whole None = refl
number_whole (Some n) = refl

bucket_whole : (b : Option BucketConfig) → has_float (texts.bucket b) ≡ false
bucket_whole None = refl
bucket_whole (Some b) = or_from _ _ (number_whole b.one_time_burst) refl

limiter_whole : (l : Option Limiter) → has_float (texts.limiter l) ≡ false
limiter_whole None = refl
limiter_whole (Some l) = or_from _ _ (bucket_whole l.bandwidth) (or_from _ _ (bucket_whole l.ops) refl)

drive_whole : (d : Drive) → has_float (texts.drive d) ≡ false
drive_whole d = or_from _ _ (limiter_whole d.rate_limiter) refl

drives_whole : (ds : List Drive) → items_have_float (items_of (map texts.drive ds)) ≡ false
drives_whole [] = refl
drives_whole (d ∷ ds) = or_from _ _ (drive_whole d) (drives_whole ds)

interface_whole : (i : Interface) → has_float (texts.interface i) ≡ false
interface_whole i =
    or_from _ _ (text_whole i.guest_mac)
    (or_from _ _ (limiter_whole i.rx_rate_limiter) (or_from _ _ (limiter_whole i.tx_rate_limiter) refl))

interfaces_whole : (is : List Interface) → items_have_float (items_of (map texts.interface is)) ≡ false
interfaces_whole [] = refl
interfaces_whole (i ∷ is) = or_from _ _ (interface_whole i) (interfaces_whole is)

source_whole : (s : Option BootSource) → has_float (texts.boot_source s) ≡ false
source_whole None = refl
source_whole (Some s) = or_from _ _ (text_whole s.initrd_path) refl

ids_whole : (ts : List (List ℕ)) → items_have_float (items_of (map string ts)) ≡ false
ids_whole [] = refl
ids_whole (t ∷ ts) = ids_whole ts

mmds_whole : (m : Option MmdsConfig) → has_float (texts.mmds m) ≡ false
mmds_whole None = refl
mmds_whole (Some m) = or_from _ _ (ids_whole m.network_interfaces) refl

vsock_whole : (v : Option Vsock) → has_float (texts.vsock v) ≡ false
vsock_whole None = refl
vsock_whole (Some v) = refl

pub balloon_whole : (b : Option Balloon) → has_float (texts.balloon b) ≡ false
balloon_whole None = refl
balloon_whole (Some b) = refl

entropy_whole : (e : Option Entropy) → has_float (texts.entropy e) ≡ false
entropy_whole None = refl
entropy_whole (Some e) = or_from _ _ (limiter_whole e.rate_limiter) refl

pub config_whole : (c : Config) → has_float (texts.vm_config c) ≡ false
config_whole c =
    or_from _ _ (balloon_whole c.balloon)
    (or_from _ _ (source_whole c.boot_source)
    (or_from _ _ (drives_whole c.drives)
    (or_from _ _ (entropy_whole c.entropy)
    (or_from _ _ (mmds_whole c.mmds) (or_from _ _ (interfaces_whole c.interfaces) (or_from _ _ (vsock_whole c.vsock) refl))))))

given_whole : (rows : List (List ℕ × Option ℕ)) → members_have_float (given rows) ≡ false
given_whole [] = refl
given_whole ((name, Some n) ∷ rows) = given_whole rows
given_whole ((name, None) ∷ rows) = given_whole rows

pub statistics_whole : (b : Option Balloon) (s : Option Statistics) → has_float (texts.statistics_by b s) ≡ false
statistics_whole None s = refl
statistics_whole (Some b) None = refl
statistics_whole (Some b) (Some s) = given_whole (rows_of b.amount_mib s)
