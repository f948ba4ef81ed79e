-- Reads and writes of a port by the guest (VIRTIO 1.2, 4.2.2.2): below 0x100 aligned words of 32 bits, which are the
-- registers; from there on the configuration, by 1, 2, 4 or 8 bytes. All else reads 0 and ignores what is written.
use Rattle.std.specs.Prelude.{ℕ, ◌-◌, ◌%◌, ◌==◌, nat_lt, Bool, ◌&&◌, ◌||◌, if◌then◌else◌, List, ◌++◌, length, take, drop, replicate, Option, Some, None}
use Rattle.le_fields.specs.Fields.{bytes_of, little_endian}
use Rattle.port_table.specs.declared.kind.DeviceKind.{DeviceKind}
use Rattle.port_table.specs.declared.kind.DeviceKind.TheVariants.{Balloon}
use Rattle.port_table.specs.declared.register.Register.{Register}
use Rattle.port_table.specs.declared.state.PortState.{PortState}
use Rattle.port_table.specs.Kinds.{config_length}
use Rattle.port_table.specs.Ports.{put_over}
use Rattle.port_table.specs.Registers.{register_after, register_at, register_value}

-- where the configuration begins
abbrev pub config_start : ℕ
config_start = 0x100

abbrev pub value_of : PortState → Option Register → ℕ
value_of p None = 0
value_of p (Some register) = register_value p register

abbrev pub after_write : PortState → Option Register → ℕ → PortState
after_write p None value = p
after_write p (Some register) value = register_after p register value

-- a word of 32 bits at a multiple of 4
abbrev pub is_word : ℕ → ℕ → Bool
is_word offset len = (len == 4) && (offset % 4 == 0)

-- so many bytes of the device's configuration from a place on, and zeros behind its last one
abbrev pub config_bytes : PortState → ℕ → ℕ → List ℕ
config_bytes p at len = take len (drop at (take (config_length p.kind) p.config) ++ replicate len 0)

-- The driver may write the balloon's `actual` alone, bytes 4 to 7 (VIRTIO 1.2, 5.5.4): of a piece the bytes that lie there.
abbrev pub config_after : DeviceKind → List ℕ → ℕ → List ℕ → List ℕ
config_after Balloon config at piece = take 4 config ++ drop 4 (put_over config at piece)
config_after kind config at piece = config

abbrev pub is_config_width : ℕ → Bool
is_config_width len = (len == 1) || (len == 2) || (len == 4) || (len == 8)

-- what a read of so many bytes shows
abbrev pub bytes_read : PortState → ℕ → ℕ → List ℕ
bytes_read p offset len =
    if nat_lt offset config_start
    then (if is_word offset len then bytes_of 4 (value_of p (register_at offset)) else replicate len 0)
    else if is_config_width len then config_bytes p (offset - config_start) len
    else replicate len 0

-- what a write of these bytes leaves
abbrev pub after_bytes : PortState → ℕ → List ℕ → PortState
after_bytes p offset piece =
    if nat_lt offset config_start
    then (if is_word offset (length piece) then after_write p (register_at offset) (little_endian piece) else p)
    else if is_config_width (length piece)
    then record p { config = config_after p.kind p.config (offset - config_start) piece }
    else p
