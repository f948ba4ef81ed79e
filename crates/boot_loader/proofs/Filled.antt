-- Pages of zeros with loads in them are memory as a start makes it.
use Rattle.std.proofs.Common.{◌≡◌, ℕ, ◌*◌, ap, ◌∙◌, arith, replicate}
use Rattle.guest_memory.specs.Boot.{Loads, boot_memory, bytes_of_mib, laid}
use Rattle.guest_memory.specs.Memory.{Memory}
use Rattle.guest_memory.specs.Ram.{page_count}
use Rattle.guest_memory.specs.Reserved.{unreserved}
use Rattle.guest_pages.specs.Pages.{empty_memory}
use Rattle.boot_loader.specs.Loading.{memory_with}

bytes_are : (mib : ℕ) → 4096 * (256 * mib) ≡ bytes_of_mib mib
bytes_are mib = omega arith

slots_are : (mib : ℕ) → 256 * mib ≡ page_count (bytes_of_mib mib)
slots_are mib = omega arith

pub booted : (m : Memory) (mib n : ℕ) (loads : Loads) (empty : Memory) → n ≡ 256 * mib → empty ≡ empty_memory n → m ≡ memory_with mib loads empty → m ≡ boot_memory mib loads
booted m mib n loads empty count zeros is =
    is
    ∙ ap (memory_with mib loads) (zeros ∙ ap empty_memory count)
    ∙ (λ i. record {
      bytes = laid mib loads (replicate (bytes_are mib i) 0);
      reserved = unreserved (slots_are mib i);
    })
