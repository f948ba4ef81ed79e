-- Nothing passed through a bucket that the API gives.
use Rattle.std.proofs.Common.{◌≡◌, ℕ, refl, Bool, true, false, ◌||◌, if◌then◌else◌, Option, Some, None, get_or, nat_eq, option_map}
use Rattle.std.specs.Prelude.{option_and_then, unwrap_or}
use Rattle.std.specs.List.{All}
use Rattle.std.proofs.lemmas.Bool.{and_from}
use Rattle.std.proofs.lemmas.List.Elements.{All-map}
use Rattle.vm_types.specs.Saved.{Saved}
use Rattle.api_calls.specs.declared.limiter.BucketConfig.{BucketConfig}
use Rattle.api_calls.specs.declared.limiter.Limiter.{Limiter}
use Rattle.vm_config.specs.declared.config.Config.{Config}
use Rattle.vm_config.specs.Devices.{Configured, devices_of, of_balloon, of_drive, of_entropy, of_interface, of_vsock}
use Rattle.token_bucket.specs.Rate.{rate_of}
use Rattle.guest_devices.specs.Moments.{IsFreshNew, IsGivenChange, are_before, is_before, is_fresh, is_fresh_change}
use Rattle.flat_machine.specs.Limits.{bucket_of, limits_of, limits_told, receives_told, transmits_told}
use Rattle.flat_machine.specs.Requests.{device_from, devices_from}

bucket_by : (size burst ms : ℕ) (none other : Bool)
    → is_before 0 (if none || other then None else Some (record { rate = rate_of size ms; burst = burst; owes = 0; moment = 0 })) ≡ true
bucket_by size burst ms true other = refl
bucket_by size burst ms false true = refl
bucket_by size burst ms false false = refl

bucket_fresh : (b : BucketConfig) → is_before 0 (bucket_of b) ≡ true
bucket_fresh b = bucket_by b.size (unwrap_or b.one_time_burst 0) b.refill_time (nat_eq b.size 0) (nat_eq b.refill_time 0)

-- what a PATCH names
other_fresh : (o : Option BucketConfig) → is_fresh (option_map bucket_of o) ≡ true
other_fresh None = refl
other_fresh (Some b) = bucket_fresh b

both_fresh : (l : Limiter) → is_fresh_change (limits_told l) ≡ true
both_fresh l =
    and_from (is_fresh (option_map bucket_of l.bandwidth)) (is_fresh (option_map bucket_of l.ops)) (other_fresh l.bandwidth)
    (other_fresh l.ops)

pub limits_given : (l : Limiter) → IsGivenChange (limits_told l)
limits_given l = (tt, both_fresh l)

pub receives_given : (l : Limiter) → IsGivenChange (receives_told l)
receives_given l = (tt, both_fresh l)

pub transmits_given : (l : Limiter) → IsGivenChange (transmits_told l)
transmits_given l = (tt, both_fresh l)

-- what a start is given
start_fresh : (o : Option BucketConfig) → is_before 0 (option_and_then bucket_of o) ≡ true
start_fresh None = refl
start_fresh (Some b) = bucket_fresh b

pub limits_fresh : (o : Option Limiter) → are_before 0 (limits_of o) ≡ true
limits_fresh None = refl
limits_fresh (Some l) =
    and_from (is_before 0 (option_and_then bucket_of l.bandwidth)) (is_before 0 (option_and_then bucket_of l.ops))
    (start_fresh l.bandwidth) (start_fresh l.ops)

device_fresh : (saved : Saved) (d : Configured) → IsFreshNew (device_from saved d)
device_fresh saved (of_drive d) = limits_fresh d.rate_limiter
device_fresh saved (of_interface i) =
    and_from (are_before 0 (limits_of i.rx_rate_limiter)) (are_before 0 (limits_of i.tx_rate_limiter)) (limits_fresh i.rx_rate_limiter)
    (limits_fresh i.tx_rate_limiter)
device_fresh saved (of_vsock v) = refl
device_fresh saved (of_balloon b) = refl
device_fresh saved (of_entropy e) = limits_fresh e.rate_limiter

pub devices_fresh : (config : Config) (saved : Saved) → All IsFreshNew (devices_from config saved)
devices_fresh config saved =
    All-map IsFreshNew (device_from saved) (devices_of config) (λ k d lt. device_fresh saved (get_or (devices_of config) k d))
