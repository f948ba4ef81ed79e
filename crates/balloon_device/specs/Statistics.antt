-- What the driver tells of its memory (VIRTIO 1.2, 5.5.6.3): entries of 10 bytes, a tag of 16 bits and a value of 64.
use Rattle.std.specs.Prelude.{ℕ, zero, suc, ◌*◌, ◌/◌, nat_lt, if◌then◌else◌, Some, None, List, [], ◌++◌, length, drop, replicate, slice_set}
use Rattle.device_trace.specs.Doing.{Doing, Gives, and_then}
use Rattle.le_fields.specs.Fields.{field_at}
use Rattle.vq_split.specs.declared.queue.Part.{Part}
use Rattle.balloon_device.specs.declared.statistics.Statistics.{Statistics}
use Rattle.balloon_device.specs.Pieces.{read_all}

-- how many tags are known, from 0 on
abbrev pub known_tags : ℕ
known_tags = 10

-- no tag has a value
abbrev pub no_statistics : Statistics
no_statistics = record { values = replicate known_tags None }

-- a tag has this value now; a tag that isn't known is ignored
abbrev pub with_value : ℕ → ℕ → Statistics → Statistics
with_value tag value s = if nat_lt tag known_tags then record { values = slice_set s.values tag (Some value) } else s

-- so many entries, of which later ones win
abbrev pub with_entries : ℕ → List ℕ → Statistics → Statistics
with_entries zero bytes s = s
with_entries (suc count) bytes s =
    with_entries count (drop 10 bytes) (with_value (field_at bytes 0 2) (field_at bytes 2 8) s)

-- what is told so far, and the bytes of an entry that is begun
pub record Telling : Type 0 where
  pub begun : List ℕ
  pub so_far : Statistics

-- all whole entries; the bytes behind them begin the next one
abbrev pub all_told : List ℕ → Statistics → Telling
all_told bytes s = record {
  begun = drop (10 * (length bytes / 10)) bytes;
  so_far = with_entries (length bytes / 10) bytes s;
}

-- what a chain tells: the bytes behind its last whole entry are ignored
abbrev pub told : List Part → Doing Statistics
told parts =
    and_then
    (read_all (λ (t : Telling) piece. Gives (all_told (t.begun ++ piece) t.so_far)) (record { begun = []; so_far = no_statistics }) parts)
    (λ t. Gives t.so_far)
