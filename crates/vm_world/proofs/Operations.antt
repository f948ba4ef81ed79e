-- An instruction of a decoded word, in RAM.
use Rattle.std.proofs.Common.{◌≡◌, ℕ, ◌+◌, ◌%◌, ◌^◌, ◌<◌, ◌≤◌, List, Some, refl, sym, subst, arith}
use Rattle.vm_types.specs.declared.ids.ActorId.{ActorId}
use Rattle.guest_memory.specs.Ram.{ram_start}
use Rattle.guest_pages.specs.Pages.{PageValue}
use Rattle.hart_trace.specs.States.{fresh}
use Rattle.rv_doing.specs.Plain.{LeadsTo, placed}
use Rattle.rv_rows.specs.Effects.{address_sum}
use Rattle.rv_rows.specs.Table.{instr_of}
use Rattle.rv_rows.specs.declared.instr.Instr.TheVariants.{Load, Store}
use Rattle.rv_rows.specs.declared.memory.LoadKind.{LoadKind}
use Rattle.rv_rows.specs.declared.memory.Width.{Width}
use Rattle.rv_supervisor.specs.Ends.{after_jump}
use Rattle.rv_supervisor.specs.Registers.{reg, with_reg}
use Rattle.rv_supervisor.specs.declared.regs.Regs.{Regs}
use Rattle.rv_supervisor.specs.declared.regs.Turn.TheVariants as Turn
use Rattle.decoded_words.specs.declared.decoding.Decoded.{Decoded}
use Rattle.decoded_words.proofs.Leading.{load_asks, store_asks}
use Rattle.vm_world.specs.Answering.{Goes}
use Rattle.vm_world.specs.Bursts.{CountsSo, EndsSo, HaveWord, Loads, Stores}
use Rattle.vm_world.specs.declared.burst.Ended.TheVariants.{Accessed, Went}
use Rattle.vm_world.proofs.Bursting.{load_made, plain_goes, store_made}

module _ (pages : List PageValue) (it : Decoded) (pc : ℕ) (r : Regs) (small : it.word < 2 ^ 32) (high : ram_start ≤ pc)
    (read : HaveWord pages pc it.word) where
  pub load_ends_so : (k : ℕ) (kind : LoadKind) (a value : ℕ) (s : Regs) → instr_of it.word ≡ Some (Load kind it.rd it.rs1 it.value)
      → a ≡ reg r it.rs1 → Loads pages kind (address_sum a it.value) value → s ≡ with_reg r it.rd value
      → EndsSo pages pc r (ActorId.Hart k) (Accessed ((pc + 4) % 2 ^ 64)) pages s
  load_ends_so k kind a value s is first loads put = λ count board ports.
      let at : ℕ = address_sum (reg r it.rs1) it.value in
      let there : Loads pages kind at value = subst (λ (n : ℕ). Loads pages kind (address_sum n it.value) value) first loads in
      subst (λ (t : Regs). Goes pages board ports (fresh (placed pc count Turn.Fetch r)) (ActorId.Hart k) 2 pages board ports
      (fresh (after_jump ((pc + 4) % 2 ^ 64) (placed pc count Turn.Fetch t)))) (sym put)
      (load_made pages board ports k pc count it.word r small high read kind it.rd at value
      (load_asks it.word kind it.rd it.rs1 it.value (placed pc count Turn.Fetch r) is there.aligned) there)

  pub store_ends_so : (k : ℕ) (width : Width) (a b : ℕ) (later : List PageValue)
      → instr_of it.word ≡ Some (Store width it.rs1 it.other it.value) → a ≡ reg r it.rs1 → b ≡ reg r it.other → b < 2 ^ 64
      → Stores pages (ActorId.Hart k) width (address_sum a it.value) b later
      → EndsSo pages pc r (ActorId.Hart k) (Accessed ((pc + 4) % 2 ^ 64)) later r
  store_ends_so k width a b later is first second fits stores = λ count board ports.
      let at : ℕ = address_sum (reg r it.rs1) it.value in
      let there : Stores pages (ActorId.Hart k) width at b later =
      subst (λ (n : ℕ). Stores pages (ActorId.Hart k) width (address_sum n it.value) b later) first stores in
      store_made pages board ports k pc count it.word r small high read width at b later
      (store_asks it.word width it.rs1 it.other it.value b (placed pc count Turn.Fetch r) is second fits there.aligned) there

  pub plain_ends_so : (k next : ℕ) (s : Regs) → LeadsTo it.word pc next r s → EndsSo pages pc r (ActorId.Hart k) (Went next) pages s
  plain_ends_so k next s leads = λ count board ports. plain_goes pages board ports k pc count it.word r small high read next s leads

  -- and what they count
  pub load_counts_so : (k accesses : ℕ) (kind : LoadKind) (a value : ℕ) (s : Regs) → instr_of it.word ≡ Some (Load kind it.rd it.rs1 it.value)
      → a ≡ reg r it.rs1 → Loads pages kind (address_sum a it.value) value → s ≡ with_reg r it.rd value
      → CountsSo pages pc r (ActorId.Hart k) accesses (accesses + 1) ((pc + 4) % 2 ^ 64) pages s
  load_counts_so k accesses kind a value s is first loads put =
      record {
        ended = Accessed ((pc + 4) % 2 ^ 64);
        to = refl;
        count = refl;
        goes = load_ends_so k kind a value s is first loads put;
      }

  pub store_counts_so : (k accesses : ℕ) (width : Width) (a b : ℕ) (later : List PageValue)
      → instr_of it.word ≡ Some (Store width it.rs1 it.other it.value) → a ≡ reg r it.rs1 → b ≡ reg r it.other → b < 2 ^ 64
      → Stores pages (ActorId.Hart k) width (address_sum a it.value) b later
      → CountsSo pages pc r (ActorId.Hart k) accesses (accesses + 1) ((pc + 4) % 2 ^ 64) later r
  store_counts_so k accesses width a b later is first second fits stores =
      record {
        ended = Accessed ((pc + 4) % 2 ^ 64);
        to = refl;
        count = refl;
        goes = store_ends_so k width a b later is first second fits stores;
      }

  pub plain_counts_so : (k accesses next : ℕ) (s : Regs) → LeadsTo it.word pc next r s
      → CountsSo pages pc r (ActorId.Hart k) accesses accesses next pages s
  plain_counts_so k accesses next s leads =
      let none : accesses ≡ accesses + 0 = omega arith in
      record { ended = Went next; to = refl; count = none; goes = plain_ends_so k next s leads }
