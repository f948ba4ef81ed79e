-- The connections of a vsock device. Each is found by its number at the host, or by its two ports.
use Rattle.std.specs.Prelude.{ℕ, zero, suc, ◌+◌, ◌==◌, Bool, true, false, ◌&&◌, not, if◌then◌else◌, Option, List, [], map}
use Rattle.std.specs.List.{filter, find, list_any}
use Rattle.vsock_device.specs.declared.connection.Connection.{Connection}
use Rattle.vsock_device.specs.declared.connection.Standing.{Standing}
use Rattle.vsock_device.specs.declared.connection.Standing.TheVariants as standing

-- there are at most so many, whatever their standing
abbrev pub most_connections : ℕ
most_connections = 64

-- the guest was asked for it, or has asked for it
abbrev pub is_known : Standing → Bool
is_known (standing.Line so_far) = false
is_known standing.Asked = true
is_known standing.Open = true

-- somebody connected at the host
abbrev pub new_connection : ℕ → Connection
new_connection host = record {
  host = host;
  host_port = 0;
  guest_port = 0;
  standing = standing.Line [];
  fwd_cnt = 0;
  tx_cnt = 0;
  peer_buf_alloc = 0;
  peer_fwd_cnt = 0;
}

-- ---- which one

abbrev pub is_at : ℕ → Connection → Bool
is_at host c = c.host == host

abbrev pub is_between : ℕ → ℕ → Connection → Bool
is_between guest_port host_port c = is_known c.standing && (c.guest_port == guest_port) && (c.host_port == host_port)

abbrev pub connection_at : ℕ → List Connection → Option Connection
connection_at host cs = find (is_at host) cs

abbrev pub connection_between : ℕ → ℕ → List Connection → Option Connection
connection_between guest_port host_port cs = find (is_between guest_port host_port) cs

-- one of this number lives
abbrev pub is_live : ℕ → List Connection → Bool
is_live host cs = list_any (is_at host) cs

-- ---- what becomes of them

-- the one of this number is so now
abbrev pub updated : Connection → List Connection → List Connection
updated now cs = map (λ c. if is_at now.host c then now else c) cs

-- the one of this number is gone
abbrev pub without : ℕ → List Connection → List Connection
without host cs = filter (λ c. not (is_at host c)) cs

-- ---- ports at the host: they count from 2^30 up to 2^32 - 1, and then again

abbrev pub first_port : ℕ
first_port = 1073741824

abbrev pub last_port : ℕ
last_port = 4294967295

abbrev pub port_after : ℕ → ℕ
port_after port = if port == last_port then first_port else port + 1

-- a connection that the guest knows has this port
abbrev pub has_this_port : ℕ → Connection → Bool
has_this_port port c = is_known c.standing && (c.host_port == port)

abbrev pub has_port : ℕ → List Connection → Bool
has_port port cs = list_any (has_this_port port) cs

-- the first one from here on that none has, past at most so many that one has
abbrev pub free_port : ℕ → List Connection → ℕ → ℕ
free_port zero cs port = port
free_port (suc most) cs port = if has_port port cs then free_port most cs (port_after port) else port
