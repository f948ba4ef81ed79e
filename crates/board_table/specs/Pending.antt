-- Which interrupts of a hart are pending, and what its looks and its accesses to sip show and change.
use Rattle.std.specs.Prelude.{ℕ, ◌+◌, ◌/◌, ◌%◌, ◌^◌, ◌==◌, nat_le, Bool, false, ◌&&◌, ◌||◌, not, if◌then◌else◌, Option, Some, None, bit_and, slice_index, slice_index_or, slice_set}
use Rattle.vm_types.specs.declared.reply.Reply.{Reply}
use Rattle.vm_types.specs.declared.reply.Shown.TheVariants as shown
use Rattle.board_table.specs.declared.hart_state.HartState.{HartState}
use Rattle.board_table.specs.declared.hart_state.HartState.TheVariants.{Started, Stopped, StartPending}
use Rattle.board_table.specs.Board.{Board, state_of, with_state}

-- bit k of a number
abbrev pub bit : ℕ → ℕ → Bool
bit k n = n / 2 ^ k % 2 == 1

-- an interrupt in sip, by its number (privileged manual, supervisor part, "Supervisor Interrupt Registers")
abbrev pub pending_bit : ℕ → Bool → ℕ
pending_bit number is_pending = if is_pending then 2 ^ number else 0

abbrev pub is_software_pending : Board → ℕ → Bool
is_software_pending b k = slice_index_or b.software k false

-- from the moment of the deadline on (SBI, "Timer Extension")
abbrev pub is_timer_pending : Board → ℕ → Bool
is_timer_pending b k = nat_le (slice_index b.deadlines k) b.now

-- a line that the hart takes is pending
abbrev pub is_external_pending : Board → ℕ → Bool
is_external_pending b k = not (bit_and b.pending (slice_index b.enables k) == 0)

-- what sip shows: software is interrupt 1, timer 5 and external 9
abbrev pub pending_bits : Board → ℕ → ℕ
pending_bits b k =
    pending_bit 1 (is_software_pending b k)
    + pending_bit 5 (is_timer_pending b k)
    + pending_bit 9 (is_external_pending b k)

-- A look shows a hart that runs what is pending. A hart that is to start is started by it.
abbrev pub look_as : HartState → Board → ℕ → Reply × Board
look_as Started b k = (Reply.Shown (shown.Pending (pending_bits b k)), b)
look_as Stopped b k = (Reply.Shown shown.Stopped, b)
look_as (StartPending pc word) b k = (Reply.Shown (shown.Start pc k word), with_state b k Started)

-- what is no hart is shown as stopped
abbrev pub look : Board → Option ℕ → Reply × Board
look b None = (Reply.Shown shown.Stopped, b)
look b (Some k) = look_as (state_of b k) b k

-- An access to sip reads all of it, and then clears and sets bit 1, the only one that can be written.
abbrev pub software_after : ℕ → ℕ → Bool → Bool
software_after clear set old = bit 1 set || (old && not (bit 1 clear))

abbrev pub access_sip : Board → Option ℕ → ℕ → ℕ → Reply × Board
access_sip b None clear set = (Reply.Word 0, b)
access_sip b (Some k) clear set =
    let after : Bool = software_after clear set (is_software_pending b k) in
    (Reply.Word (pending_bits b k), record b { software = slice_set b.software k after })
