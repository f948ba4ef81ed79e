-- How many bytes each part of a state file has at most.
use Rattle.std.proofs.Common.{ℕ, zero, suc, List, Option, Some, None, arith, length, replicate}
use Rattle.std.specs.Prelude.{nat_le}
use Rattle.std.proofs.lemmas.Bool.{and_parts, leb-true}
use Rattle.vm_types.specs.declared.port_look.Accepted.{Accepted}
use Rattle.file_format.specs.Kinds.{byte, number64, optional}
use Rattle.queue_device.specs.declared.lanes.Which.{Which}
use Rattle.net_device.specs.Frames.{is_headed}
use Rattle.snap_devices.specs.declared.file.FileDue.{FileDue}
use Rattle.snap_devices.specs.Balloons as balloons
use Rattle.snap_devices.specs.Entropies as entropies
use Rattle.snap_devices.specs.Limits as limits
use Rattle.snap_devices.specs.Marks as marks
use Rattle.snap_devices.specs.Nets as nets
use Rattle.snap_devices.specs.Places as places
use Rattle.snap_devices.specs.Rounds as rounds
use Rattle.snap_devices.specs.Blocks as blocks
use Rattle.snap_devices.specs.Devices as devices
use Rattle.snap_devices.specs.Ports as ports
use Rattle.snap_devices.specs.Vsocks as vsocks
use Rattle.snap_harts.specs.HartStates as hart_states
use Rattle.snap_harts.specs.Harts as harts
use Rattle.file_format.proofs.Within.{Within, WithinList, chosen_list_within, ended_within, no_list_within, passing_list_within, standing_list_within, whole_within, wider_within}
use Rattle.file_format.proofs.Within.{just_within, any_within, byte_within, within16, within32, within64, flag_within, constant_within, nothing_within, pair_within, then_within, made_within, passing_within, times_within, bytes_within}
use Rattle.snap_state.proofs.PieceSizes.{break_within, collect_within, held_within, maybe_queue_within, maybe_walk_within, maybe_within, numbered_within, parts_within, phase_within, piece_within, queue_within, registers_within, return_within, walk_within}

-- ---- a device

due_by_within : (o : Option (FileDue × Accepted))
    → Within (marks.marked_by blocks.due_code blocks.due_at blocks.due_at-is blocks.due_by (λ x. x.0) (λ x. x.1) blocks.due_marks o).reads (λ _. 0)
due_by_within None = nothing_within 0
due_by_within (Some (d, a)) = just_within _ 0

due_within : Within blocks.due.reads (λ _. 1)
unfolding blocks.due marks.marked
due_within = then_within byte_within (λ n. due_by_within (blocks.due_mark_at n))

data_within : Within blocks.block_data.reads (λ _. 67)
unfolding blocks.block_data
data_within =
    made_within _ _ (λ a. omega arith)
    (pair_within
    (pair_within within64 (pair_within registers_within (pair_within (times_within 20 1 byte byte_within) (pair_within within16 within16))))
    (pair_within byte_within (pair_within flag_within (pair_within flag_within (pair_within flag_within due_within)))))

fields_within : Within blocks.block_fields.reads (λ _. 10347)
unfolding blocks.block_fields
fields_within =
    made_within _ (λ _. 10347) (λ a. omega arith)
    (pair_within data_within
    (pair_within phase_within (pair_within maybe_walk_within (pair_within collect_within parts_within))))

-- ---- what may be lacking behind it

owed_within : Within limits.owed.reads (λ _. 16)
unfolding limits.owed
owed_within = made_within _ _ (λ a. omega arith) (pair_within within64 within64)

bucket_within : Within limits.bucket.reads (λ _. 48)
unfolding limits.bucket limits.bucket_fields
bucket_within =
    passing_within _ (λ _. 48) (λ v is. omega arith)
    (made_within _ (λ _. 48) (λ a. omega arith)
    (pair_within within64 (pair_within within64 (pair_within within64 (pair_within owed_within within64)))))

gate_within : Within limits.limits.reads (λ _. 98)
unfolding limits.limits
gate_within =
    made_within _ _ (λ a. omega arith)
    (pair_within (any_within 48 limits.bucket bucket_within) (any_within 48 limits.bucket bucket_within))

chain_within : (a : Accepted) → Within (limits.chain a).reads (λ _. 6828)
unfolding limits.chain limits.chain_fields
chain_within a =
    passing_within _ (λ _. 6828) (λ v is. omega arith)
    (made_within _ (λ _. 6828) (λ v. omega arith)
    (pair_within (queue_within a) (pair_within within16 (pair_within parts_within (pair_within parts_within held_within)))))

maybe_chain_within : Within limits.maybe_chain.reads (λ _. 6829)
unfolding limits.maybe_chain
maybe_chain_within = maybe_within limits.chain (λ c. c.queue.accepted) limits.no_chain limits.chain_marks 6828 chain_within

more_within : Within limits.more.reads (λ _. 6958)
unfolding limits.more
more_within =
    made_within _ _ (λ a. omega arith)
    (pair_within gate_within (pair_within maybe_chain_within maybe_queue_within))

block_within : WithinList blocks.block.reads 17305
unfolding blocks.block
block_within =
    standing_list_within _ 17305
    (passing_list_within _ 17305 (ended_within blocks.block_fields limits.end_of_device 10347 6958 fields_within more_within))

-- ---- the rounds of a network device, a vsock device or a balloon, and where it is

queues_within : (code : ℕ) → Within (rounds.which_queues code).reads (λ _. 0)
queues_within zero = just_within _ 0
queues_within (suc zero) = just_within _ 0
queues_within (suc (suc zero)) = just_within _ 0
queues_within (suc (suc (suc n))) = nothing_within 0

which_within : Within rounds.which.reads (λ _. 1)
unfolding rounds.which
which_within = then_within byte_within queues_within

nexts_within : (code : ℕ) → Within (rounds.nexts code).reads (λ _. 1)
nexts_within zero = just_within _ 1
nexts_within (suc zero) = just_within _ 1
nexts_within (suc (suc zero)) = made_within _ _ (λ a. omega arith) which_within
nexts_within (suc (suc (suc zero))) = just_within _ 1
nexts_within (suc (suc (suc (suc n)))) = nothing_within 1

next_within : Within rounds.next_due.reads (λ _. 2)
unfolding rounds.next_due
next_within = then_within byte_within nexts_within

lane_within : Within rounds.lane.reads (λ _. 6865)
unfolding rounds.lane
lane_within =
    made_within _ (λ _. 6865) (λ a. omega arith)
    (pair_within (pair_within within16 (pair_within within16 flag_within))
    (pair_within maybe_queue_within maybe_chain_within))

rounds_within : Within rounds.rounds.reads (λ _. 20603)
unfolding rounds.rounds
rounds_within =
    made_within _ (λ _. 20603) (λ a. omega arith)
    (pair_within (pair_within within32 (pair_within byte_within (pair_within next_within flag_within)))
    (pair_within lane_within (pair_within lane_within lane_within)))

hand_by_within : (k : Which) (a : Accepted) → Within (places.hand_by k a).reads (λ _. 32)
unfolding places.hand_by places.hand_fields
hand_by_within k a =
    passing_within _ (λ _. 32) (λ v is. omega arith)
    (made_within _ (λ _. 32) (λ v. omega arith) (pair_within (queue_within a) within16))

hand_within : Within places.hand.reads (λ _. 33)
unfolding places.hand
hand_within = numbered_within places.hand_by (λ c. c.which) (λ c. c.queue.accepted) places.hand_marks 32 hand_by_within

walked_by_within : (k : Which) (a : Accepted) → Within (places.walked_by k a).reads (λ _. 3447)
unfolding places.walked_by
walked_by_within k a = made_within _ (λ _. 3447) (λ v. omega arith) (walk_within a)

walked_within : Within places.walked.reads (λ _. 3448)
unfolding places.walked
walked_within = numbered_within places.walked_by (λ v. v.0) (λ v. v.1.queue.accepted) places.walked_marks 3447 walked_by_within

device_places_within : (code : ℕ) → Within (places.places code).reads (λ _. 3448)
device_places_within zero = just_within _ 3448
device_places_within (suc zero) = just_within _ 3448
device_places_within (suc (suc zero)) = made_within _ _ (λ a. omega arith) walked_within
device_places_within (suc (suc (suc zero))) = made_within _ _ (λ a. omega arith) hand_within
device_places_within (suc (suc (suc (suc zero)))) = made_within _ _ (λ a. omega arith) hand_within
device_places_within (suc (suc (suc (suc (suc zero))))) =
    made_within _ _ (λ a. omega arith) (pair_within within32 (pair_within return_within hand_within))
device_places_within (suc (suc (suc (suc (suc (suc zero)))))) =
    made_within _ _ (λ a. omega arith) (pair_within which_within break_within)
device_places_within (suc (suc (suc (suc (suc (suc (suc n))))))) = nothing_within 3448

device_place_within : Within places.place.reads (λ _. 3449)
unfolding places.place
device_place_within = then_within byte_within device_places_within

-- ---- a network device

text_within : Within nets.text.reads (λ _. 1530)
unfolding nets.text
text_within =
    passing_within _ (λ _. 1530) (λ (v : List ℕ) is.
    omega (arith, leb-true (length v) 1526 (and_parts (nat_le (length v) 1526) (is_headed v) is).0)) bytes_within

net_stages_within : (code : ℕ) → Within (nets.stages code).reads (λ _. 3408)
net_stages_within zero = just_within _ 3408
net_stages_within (suc zero) = made_within _ _ (λ a. omega arith) (pair_within within64 within64)
net_stages_within (suc (suc zero)) = made_within _ _ (λ a. omega arith) (pair_within within64 parts_within)
net_stages_within (suc (suc (suc zero))) = made_within _ _ (λ a. omega arith) (pair_within within64 parts_within)
net_stages_within (suc (suc (suc (suc zero)))) =
    made_within _ _ (λ a. omega arith) (pair_within piece_within (pair_within within64 parts_within))
net_stages_within (suc (suc (suc (suc (suc zero))))) = just_within _ 3408
net_stages_within (suc (suc (suc (suc (suc (suc n)))))) = nothing_within 3408

net_stage_within : Within nets.stage.reads (λ _. 3409)
unfolding nets.stage
net_stage_within = then_within byte_within net_stages_within

net_kind_within : Within nets.kind.reads (λ _. 6665)
unfolding nets.kind nets.kind_fields
net_kind_within =
    passing_within _ (λ _. 6665) (λ v is. omega arith)
    (made_within _ (λ _. 6665) (λ a. omega arith)
    (pair_within text_within (pair_within gate_within (pair_within gate_within (pair_within net_stage_within text_within)))))

net_within : Within nets.net.reads (λ _. 30717)
unfolding nets.net nets.net_fields
net_within =
    passing_within _ (λ _. 30717) (λ v is. omega arith)
    (made_within _ (λ _. 30717) (λ a. omega arith)
    (pair_within rounds_within (pair_within device_place_within net_kind_within)))

-- ---- a balloon

statistics_within : Within balloons.statistics.reads (λ _. 90)
unfolding balloons.statistics
statistics_within =
    made_within _ (λ _. 90) (λ a. omega arith) (times_within 10 9 (optional number64) (any_within 8 number64 within64))

balloon_stages_within : (code : ℕ) → Within (balloons.stages code).reads (λ _. 3554)
balloon_stages_within zero = just_within _ 3554
balloon_stages_within (suc zero) = made_within _ _ (λ a. omega arith) (pair_within within32 collect_within)
balloon_stages_within (suc (suc zero)) =
    made_within _ _ (λ a. omega arith) (pair_within within32 (pair_within within32 (pair_within within64 collect_within)))
balloon_stages_within (suc (suc (suc zero))) = made_within _ _ (λ a. omega arith) (pair_within statistics_within collect_within)
balloon_stages_within (suc (suc (suc (suc n)))) = nothing_within 3554

balloon_stage_within : Within balloons.stage.reads (λ _. 3555)
unfolding balloons.stage
balloon_stage_within = then_within byte_within balloon_stages_within

balloon_kind_within : Within balloons.kind.reads (λ _. 3655)
unfolding balloons.kind balloons.kind_fields
balloon_kind_within =
    passing_within _ (λ _. 3655) (λ v is. omega arith)
    (made_within _ (λ _. 3655) (λ a. omega arith)
    (pair_within within16 (pair_within within64 (pair_within statistics_within balloon_stage_within))))

balloon_within : Within balloons.balloon.reads (λ _. 27707)
unfolding balloons.balloon balloons.balloon_fields
balloon_within =
    passing_within _ (λ _. 27707) (λ v is. omega arith)
    (made_within _ (λ _. 27707) (λ a. omega arith)
    (pair_within rounds_within (pair_within device_place_within balloon_kind_within)))

-- ---- a vsock device

operations_within : (code : ℕ) → Within (vsocks.numbered code).reads (λ _. 0)
operations_within zero = nothing_within 0
operations_within (suc zero) = just_within _ 0
operations_within (suc (suc zero)) = just_within _ 0
operations_within (suc (suc (suc zero))) = just_within _ 0
operations_within (suc (suc (suc (suc zero)))) = just_within _ 0
operations_within (suc (suc (suc (suc (suc zero))))) = just_within _ 0
operations_within (suc (suc (suc (suc (suc (suc zero)))))) = just_within _ 0
operations_within (suc (suc (suc (suc (suc (suc (suc zero))))))) = just_within _ 0
operations_within (suc (suc (suc (suc (suc (suc (suc (suc n)))))))) = nothing_within 0

operation_within : Within vsocks.operation.reads (λ _. 1)
unfolding vsocks.operation
operation_within = then_within byte_within operations_within

head_within : Within vsocks.head.reads (λ _. 13)
unfolding vsocks.head
head_within =
    made_within _ (λ _. 13) (λ a. omega arith) (pair_within operation_within (pair_within within32 (pair_within within32 within32)))

packet_within : Within vsocks.packet.reads (λ _. 81)
unfolding vsocks.packet
packet_within = made_within _ (λ _. 81) (λ a. omega arith) (pair_within head_within piece_within)

hands_within : (code : ℕ) → Within (vsocks.hands code).reads (λ _. 81)
hands_within zero = just_within _ 81
hands_within (suc zero) = made_within _ _ (λ a. omega arith) packet_within
hands_within (suc (suc zero)) = just_within _ 81
hands_within (suc (suc (suc zero))) = just_within _ 81
hands_within (suc (suc (suc (suc zero)))) = made_within _ _ (λ a. omega arith) (any_within 13 vsocks.head head_within)
hands_within (suc (suc (suc (suc (suc n))))) = nothing_within 81

packet_in_hand_within : Within vsocks.in_hand.reads (λ _. 82)
unfolding vsocks.in_hand
packet_in_hand_within = then_within byte_within hands_within

vsock_data_within : Within vsocks.vsock_data.reads (λ _. 109)
unfolding vsocks.vsock_data
vsock_data_within =
    made_within _ (λ _. 109) (λ a. omega arith)
    (pair_within within64 (pair_within within32 (pair_within (any_within 13 vsocks.head head_within) (pair_within packet_in_hand_within flag_within))))

header_within : Within vsocks.header.reads (λ _. 44)
unfolding vsocks.header
header_within =
    made_within _ (λ _. 44) (λ a. omega arith)
    (pair_within
    (pair_within within64 (pair_within within64 (pair_within within32 (pair_within within32 within32))))
    (pair_within within16 (pair_within within16 (pair_within within32 (pair_within within32 within32)))))

fetching_within : Within vsocks.fetching.reads (λ _. 3464)
unfolding vsocks.fetching
fetching_within = passing_within _ (λ _. 3464) (λ v is. omega arith) collect_within

vsock_stages_within : (code : ℕ) → Within (vsocks.stages code).reads (λ _. 3472)
vsock_stages_within zero = just_within _ 3472
vsock_stages_within (suc zero) = made_within _ _ (λ a. omega arith) within32
vsock_stages_within (suc (suc zero)) =
    made_within _ _ (λ a. omega arith) (pair_within held_within (pair_within parts_within within32))
vsock_stages_within (suc (suc (suc zero))) = made_within _ _ (λ a. omega arith) (pair_within held_within parts_within)
vsock_stages_within (suc (suc (suc (suc zero)))) = made_within _ _ (λ a. omega arith) (pair_within fetching_within within64)
vsock_stages_within (suc (suc (suc (suc (suc zero))))) = made_within _ _ (λ a. omega arith) header_within
vsock_stages_within (suc (suc (suc (suc (suc (suc zero)))))) =
    made_within _ _ (λ a. omega arith) (pair_within within32 piece_within)
vsock_stages_within (suc (suc (suc (suc (suc (suc (suc zero))))))) =
    made_within _ _ (λ a. omega arith) (pair_within within32 (pair_within piece_within parts_within))
vsock_stages_within (suc (suc (suc (suc (suc (suc (suc (suc zero)))))))) =
    made_within _ _ (λ a. omega arith) (pair_within within32 parts_within)
vsock_stages_within (suc (suc (suc (suc (suc (suc (suc (suc (suc n))))))))) = nothing_within 3472

vsock_stage_within : Within vsocks.stage.reads (λ _. 3473)
unfolding vsocks.stage
vsock_stage_within = then_within byte_within vsock_stages_within

vsock_within : Within vsocks.vsock.reads (λ _. 27634)
unfolding vsocks.vsock vsocks.vsock_fields
vsock_within =
    passing_within _ (λ _. 27634) (λ v is. omega arith)
    (made_within _ (λ _. 27634) (λ a. omega arith)
    (pair_within rounds_within (pair_within device_place_within (pair_within vsock_data_within vsock_stage_within))))

-- ---- an entropy device

entropy_stages_within : (code : ℕ) → Within (entropies.stages code).reads (λ _. 3472)
entropy_stages_within zero = just_within _ 3472
entropy_stages_within (suc zero) = made_within _ _ (λ a. omega arith) (pair_within within32 (pair_within within32 parts_within))
entropy_stages_within (suc (suc zero)) =
    made_within _ _ (λ a. omega arith) (pair_within within32 (pair_within within32 (pair_within parts_within held_within)))
entropy_stages_within (suc (suc (suc n))) = nothing_within 3472

entropy_stage_within : Within entropies.stage.reads (λ _. 3473)
unfolding entropies.stage
entropy_stage_within = then_within byte_within entropy_stages_within

entropy_kind_within : Within entropies.kind.reads (λ _. 3571)
unfolding entropies.kind entropies.kind_fields
entropy_kind_within =
    passing_within _ (λ _. 3571) (λ v is. omega arith)
    (made_within _ (λ _. 3571) (λ a. omega arith) (pair_within gate_within entropy_stage_within))

entropy_within : Within entropies.entropy.reads (λ _. 27623)
unfolding entropies.entropy entropies.entropy_fields
entropy_within =
    passing_within _ (λ _. 27623) (λ v is. omega arith)
    (made_within _ (λ _. 27623) (λ a. omega arith)
    (pair_within rounds_within (pair_within device_place_within entropy_kind_within)))

-- ---- a device of any kind

devices_within : (code : ℕ) → WithinList (devices.devices code).reads 30717
devices_within zero =
    standing_list_within _ 30717 (whole_within nets.net 30717 net_within)
devices_within (suc zero) =
    standing_list_within _ 30717 (wider_within 17305 30717 (omega arith) block_within)
devices_within (suc (suc zero)) =
    standing_list_within _ 30717 (wider_within 27707 30717 (omega arith) (whole_within balloons.balloon 27707 balloon_within))
devices_within (suc (suc (suc zero))) =
    standing_list_within _ 30717 (wider_within 27634 30717 (omega arith) (whole_within vsocks.vsock 27634 vsock_within))
devices_within (suc (suc (suc (suc zero)))) =
    standing_list_within _ 30717 (wider_within 27623 30717 (omega arith) (whole_within entropies.entropy 27623 entropy_within))
devices_within (suc (suc (suc (suc (suc n))))) = no_list_within 30717

pub device_within : WithinList devices.device.reads 30718
unfolding devices.device
device_within = chosen_list_within 1 30717 byte_within devices_within

-- ---- a port

kinds_within : (code : ℕ) → Within (ports.kinds code).reads (λ _. 0)
kinds_within zero = just_within _ 0
kinds_within (suc zero) = just_within _ 0
kinds_within (suc (suc zero)) = just_within _ 0
kinds_within (suc (suc (suc zero))) = just_within _ 0
kinds_within (suc (suc (suc (suc zero)))) = just_within _ 0
kinds_within (suc (suc (suc (suc (suc n))))) = nothing_within 0

kind_within : Within ports.kind.reads (λ _. 1)
unfolding ports.kind
kind_within = then_within byte_within kinds_within

port_queue_within : Within ports.port_queue.reads (λ _. 33)
unfolding ports.port_queue
port_queue_within =
    made_within _ _ (λ a. omega arith)
    (pair_within within64 (pair_within within64 (pair_within within64 (pair_within within32 (pair_within within32 flag_within)))))

pub port_within : Within ports.port.reads (λ _. 149)
unfolding ports.port ports.port_fields
port_within =
    passing_within _ _ (λ v is. omega arith)
    (made_within _ (λ _. 149) (λ a. omega arith)
    (pair_within
    (pair_within kind_within (pair_within within64 (pair_within within64 (pair_within within32 (pair_within within32 within32)))))
    (pair_within within32
    (pair_within within32
    (pair_within within32
    (pair_within flag_within
    (pair_within (times_within 3 33 ports.port_queue port_queue_within) (times_within 8 1 byte byte_within))))))))

-- ---- a hart

hart_states_within : (code : ℕ) → Within (hart_states.states code).reads (λ _. 16)
hart_states_within zero = constant_within (replicate 16 0) _ 16 (omega arith)
hart_states_within (suc zero) = constant_within (replicate 16 0) _ 16 (omega arith)
hart_states_within (suc (suc zero)) = made_within _ _ (λ a. omega arith) (pair_within within64 within64)
hart_states_within (suc (suc (suc n))) = nothing_within 16

pub hart_state_within : Within hart_states.hart_state.reads (λ _. 17)
unfolding hart_states.hart_state
hart_state_within = then_within byte_within hart_states_within

places_within : (code : ℕ) → Within (harts.places code).reads (λ _. 4)
places_within zero = just_within _ 4
places_within (suc zero) = just_within _ 4
places_within (suc (suc zero)) = just_within _ 4
places_within (suc (suc (suc zero))) = just_within _ 4
places_within (suc (suc (suc (suc zero)))) = made_within _ _ (λ a. omega arith) within32
places_within (suc (suc (suc (suc (suc n))))) = nothing_within 4

place_within : Within harts.place.reads (λ _. 5)
unfolding harts.place
place_within = then_within byte_within places_within

pub hart_within : Within harts.hart.reads (λ _. 328)
unfolding harts.hart
hart_within =
    made_within _ _ (λ a. omega arith)
    (pair_within (pair_within (times_within 31 8 number64 within64) within64)
    (pair_within
    (pair_within within64
    (pair_within within64 (pair_within within64 (pair_within within64 (pair_within within64 (pair_within within64 within64))))))
    (pair_within byte_within (pair_within flag_within (pair_within (any_within 8 number64 within64) place_within)))))
