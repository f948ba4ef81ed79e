-- How much may be sent on a connection (VIRTIO 1.2, 5.10.6.3). Counters run modulo 2^32.
use Rattle.std.specs.Prelude.{ℕ, ◌+◌, ◌-◌, ◌%◌, ◌^◌, nat_le, Bool}
use Rattle.vsock_packet.specs.declared.header.Header.{Header}
use Rattle.vsock_device.specs.declared.connection.Connection.{Connection}

-- how much room the host tells the guest of; the guest's bytes go on at once, so all of it is free always
abbrev pub host_room : ℕ
host_room = 65536

-- so many bytes more
abbrev pub counted : ℕ → ℕ → ℕ
counted count n = (count + n) % 2 ^ 32

-- how many bytes were sent to the guest that it hasn't let go
abbrev pub in_flight : Connection → ℕ
in_flight c = (c.tx_cnt + (2 ^ 32 - c.peer_fwd_cnt)) % 2 ^ 32

-- the guest has room for so many bytes
abbrev pub has_credit : ℕ → Connection → Bool
has_credit n c = nat_le (in_flight c + n) c.peer_buf_alloc

-- each packet of a connection tells how much room the guest has, and how much it has let go
abbrev pub credited : Header → Connection → Connection
credited h c = record c { peer_buf_alloc = h.buf_alloc; peer_fwd_cnt = h.fwd_cnt }

-- so many bytes went to the guest
abbrev pub sent : ℕ → Connection → Connection
sent n c = record c { tx_cnt = counted c.tx_cnt n }

-- so many of the guest's bytes went to the host
abbrev pub forwarded : ℕ → Connection → Connection
forwarded n c = record c { fwd_cnt = counted c.fwd_cnt n }
