-- How many bytes a queue, the parts of a chain, a walk, and where a block device is, have at most in a state file.
use Rattle.std.proofs.Common.{◌≡◌, ℕ, zero, suc, ◌+◌, Option, Some, None, arith}
use Rattle.std.proofs.lemmas.Bool.{leb-true}
use Rattle.vm_types.specs.declared.port_look.Accepted.{Accepted}
use Rattle.file_format.specs.Format.{Format}
use Rattle.vq_split.specs.Walking.{walk_of}
use Rattle.dev_core.specs.Looks.{no_queue}
use Rattle.queue_device.specs.declared.lanes.Which.{Which}
use Rattle.snap_devices.specs.Marks as marks
use Rattle.snap_devices.specs.Queues as queues
use Rattle.snap_devices.specs.Serving as serving
use Rattle.snap_devices.specs.Phases as phases
use Rattle.file_format.proofs.Within.{Within}
use Rattle.file_format.proofs.Within.{just_within, byte_within, within16, within32, within64, flag_within, nothing_within, pair_within, then_within, made_within, passing_within, list_within, bytes_within, total-const}

-- ---- what stands behind what says which features were accepted

module _ {X : Type 0} (of : Accepted → Format X) (marked : X → Accepted) (other : X)
    (is : (a : Accepted) (x : X) → (of a).Fits x → a ≡ marked x) (most : ℕ) (within : (a : Accepted) → Within (of a).reads (λ _. most)) where
  maybe_by_within : (o : Option Accepted) → Within (marks.maybe_by of marked other is o).reads (λ _. most)
  maybe_by_within None = nothing_within most
  maybe_by_within (Some a) = made_within _ (λ _. most) (λ v. omega arith) (within a)

  maybes_within : (code : ℕ) → Within (marks.maybes of marked other is code).reads (λ _. most)
  maybes_within zero = just_within _ most
  maybes_within (suc n) = maybe_by_within (marks.accepted_at n)

  pub maybe_within : Within (marks.maybe of marked other is).reads (λ _. 1 + most)
  unfolding marks.maybe
  maybe_within = then_within byte_within maybes_within

module _ {X : Type 0} (of : Which → Accepted → Format X) (key : X → Which) (marked : X → Accepted)
    (is : (k : Which) (a : Accepted) (x : X) → (of k a).Fits x → (k ≡ key x) × (a ≡ marked x)) (most : ℕ)
    (within : (k : Which) (a : Accepted) → Within (of k a).reads (λ _. most)) where
  numbered_by_within : (o : Option (Which × Accepted))
      → Within (marks.marked_by marks.which_code marks.which_at marks.which_at-is of key marked is o).reads (λ _. most)
  numbered_by_within None = nothing_within most
  numbered_by_within (Some (k, a)) = within k a

  pub numbered_within : Within (marks.of_queue of key marked is).reads (λ _. 1 + most)
  unfolding marks.marked
  numbered_within = then_within byte_within (λ n. numbered_by_within (marks.queue_at n))

-- ---- a queue, parts and a walk

part_within : Within queues.part.reads (λ _. 13)
unfolding queues.part
part_within = made_within _ _ (λ a. omega arith) (pair_within within64 (pair_within within32 flag_within))

pub registers_within : Within queues.registers.reads (λ _. 30)
unfolding queues.registers
registers_within = pair_within within64 (pair_within within64 (pair_within within64 (pair_within within16 within32)))

pub queue_within : (a : Accepted) → Within (queues.queue a).reads (λ _. 30)
unfolding queues.queue
queue_within a = made_within _ _ (λ v. omega arith) registers_within

pub maybe_queue_within : Within queues.maybe_queue.reads (λ _. 31)
unfolding queues.maybe_queue
maybe_queue_within = maybe_within queues.queue (λ q. q.accepted) (no_queue 0) queues.queue_marks 30 queue_within

pub parts_within : Within queues.parts.reads (λ _. 3332)
unfolding queues.parts
parts_within =
    passing_within _ _ (λ v few. omega (arith, leb-true _ _ few, total-const 13 v)) (list_within queues.part part_within)

pub held_within : Within queues.held.reads (λ _. 132)
unfolding queues.held
held_within = passing_within _ _ (λ v short. omega (arith, leb-true _ _ short)) bytes_within

pub collect_within : Within queues.collect.reads (λ _. 3464)
unfolding queues.collect
collect_within = made_within _ _ (λ a. omega arith) (pair_within parts_within held_within)

pub piece_within : Within queues.piece.reads (λ _. 68)
unfolding queues.piece
piece_within = passing_within _ (λ _. 68) (λ v is. omega (arith, leb-true _ _ is)) bytes_within

table_within : Within queues.table.reads (λ _. 10)
unfolding queues.table
table_within = made_within _ _ (λ a. omega arith) (pair_within within64 within16)

stages_within : (code : ℕ) → Within (queues.stages code).reads (λ _. 82)
stages_within zero = just_within _ 82
stages_within (suc zero) = just_within _ 82
stages_within (suc (suc zero)) = made_within _ _ (λ a. omega arith) (pair_within within16 within16)
stages_within (suc (suc (suc zero))) = just_within _ 82
stages_within (suc (suc (suc (suc zero)))) = just_within _ 82
stages_within (suc (suc (suc (suc (suc zero))))) =
    made_within _ _ (λ a. omega arith) (pair_within within16 (pair_within table_within within16))
stages_within (suc (suc (suc (suc (suc (suc zero)))))) =
    made_within _ _ (λ a. omega arith) (pair_within within16 (pair_within table_within (pair_within within16 piece_within)))
stages_within (suc (suc (suc (suc (suc (suc (suc n))))))) = nothing_within 82

stage_within : Within queues.walk_stage.reads (λ _. 83)
unfolding queues.walk_stage
stage_within = then_within byte_within stages_within

pub walk_within : (a : Accepted) → Within (queues.walk a).reads (λ _. 3447)
unfolding queues.walk queues.walk_fields
walk_within a =
    passing_within _ _ (λ v is. omega arith)
    (made_within _ (λ _. 3447) (λ v. omega arith)
    (pair_within (queue_within a) (pair_within within16 (pair_within stage_within parts_within))))

pub maybe_walk_within : Within queues.maybe_walk.reads (λ _. 3448)
unfolding queues.maybe_walk
maybe_walk_within = maybe_within queues.walk (λ w. w.queue.accepted) (walk_of (no_queue 0) 0) queues.walk_marks 3447 walk_within

-- ---- where a device is

breaks_within : (code : ℕ) → Within (phases.breaks code).reads (λ _. 0)
breaks_within zero = just_within _ 0
breaks_within (suc zero) = just_within _ 0
breaks_within (suc (suc n)) = nothing_within 0

pub break_within : Within phases.break_stage.reads (λ _. 1)
unfolding phases.break_stage
break_within = then_within byte_within breaks_within

returns_within : (code : ℕ) → Within (phases.returns code).reads (λ _. 0)
returns_within zero = just_within _ 0
returns_within (suc zero) = just_within _ 0
returns_within (suc (suc zero)) = just_within _ 0
returns_within (suc (suc (suc zero))) = just_within _ 0
returns_within (suc (suc (suc (suc zero)))) = just_within _ 0
returns_within (suc (suc (suc (suc (suc zero))))) = just_within _ 0
returns_within (suc (suc (suc (suc (suc (suc n)))))) = nothing_within 0

pub return_within : Within phases.return_stage.reads (λ _. 1)
unfolding phases.return_stage
return_within = then_within byte_within returns_within

units_within : Within serving.units.reads (λ _. 24)
unfolding serving.units
units_within = pair_within within64 (pair_within within64 within64)

services_within : (code : ℕ) → Within (serving.services code).reads (λ _. 24)
services_within zero = made_within _ _ (λ a. omega arith) units_within
services_within (suc zero) = made_within _ _ (λ a. omega arith) units_within
services_within (suc (suc zero)) = just_within _ 24
services_within (suc (suc (suc zero))) = made_within _ _ (λ a. omega arith) units_within
services_within (suc (suc (suc (suc zero)))) = made_within _ _ (λ a. omega arith) units_within
services_within (suc (suc (suc (suc (suc zero))))) = just_within _ 24
services_within (suc (suc (suc (suc (suc (suc zero)))))) = made_within _ _ (λ a. omega arith) (pair_within byte_within within32)
services_within (suc (suc (suc (suc (suc (suc (suc n))))))) = nothing_within 24

service_within : Within serving.service.reads (λ _. 25)
unfolding serving.service
service_within = then_within byte_within services_within

phases_within : (code : ℕ) → Within (phases.phases code).reads (λ _. 35)
phases_within zero = just_within _ 35
phases_within (suc zero) = made_within _ _ (λ a. omega arith) break_within
phases_within (suc (suc zero)) = made_within _ _ (λ a. omega arith) (pair_within within64 within16)
phases_within (suc (suc (suc zero))) = made_within _ _ (λ a. omega arith) (pair_within within64 (pair_within service_within within16))
phases_within (suc (suc (suc (suc zero)))) = made_within _ _ (λ a. omega arith) (pair_within within32 (pair_within within16 return_within))
phases_within (suc (suc (suc (suc (suc n))))) = nothing_within 35

pub phase_within : Within phases.phase.reads (λ _. 36)
unfolding phases.phase
phase_within = then_within byte_within phases_within
