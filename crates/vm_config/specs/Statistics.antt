-- What GET /balloon/statistics tells.
use Rattle.std.specs.Prelude.{ℕ, ◌/◌, List, [], ◌∷◌, Option, Some, None, codes}
use Rattle.serde_json.specs.Data.{Data, number, object, unsigned, Members, member, no_members}
use Rattle.vm_config.specs.declared.statistics.Statistics.{Statistics}

-- names with their numbers; one that has none is left out
abbrev pub given : List (List ℕ × Option ℕ) → Members
given [] = no_members
given ((name, Some n) ∷ rows) = member name (number (unsigned n)) (given rows)
given ((name, None) ∷ rows) = given rows

-- a MiB has 256 pages
abbrev pub rows_of : ℕ → Statistics → List (List ℕ × Option ℕ)
rows_of amount_mib s =
    (codes "actual_mib", Some (s.actual_pages / 256))
    ∷ (codes "actual_pages", Some s.actual_pages)
    ∷ (codes "available_memory", s.available_memory)
    ∷ (codes "disk_caches", s.disk_caches)
    ∷ (codes "free_memory", s.free_memory)
    ∷ (codes "hugetlb_allocations", s.hugetlb_allocations)
    ∷ (codes "hugetlb_failures", s.hugetlb_failures)
    ∷ (codes "major_faults", s.major_faults)
    ∷ (codes "minor_faults", s.minor_faults)
    ∷ (codes "swap_in", s.swap_in)
    ∷ (codes "swap_out", s.swap_out)
    ∷ (codes "target_mib", Some amount_mib)
    ∷ (codes "target_pages", Some s.target_pages)
    ∷ (codes "total_memory", s.total_memory)
    ∷ []

abbrev pub statistics : ℕ → Statistics → Data
statistics amount_mib s = object (given (rows_of amount_mib s))
