-- What machines show whose guests are one body's.
use Rattle.std.proofs.Common.{◌≡◌, ℕ, suc, Bool, true, false, MatchBool, nat_lt, refl, sym, ap, subst, ◌∙◌, List, [], ◌∷◌, ◌++◌, codes, length, Option, Some, slice_get, arith}
use Rattle.vm_types.specs.declared.entry.Step.{Step}
use Rattle.vm_types.specs.declared.ids.ActorId.TheVariants.{Hart as HartId}
use Rattle.guest_memory.specs.Memory.{Memory, read_from}
use Rattle.guest_memory.specs.Ram.{is_ram}
use Rattle.rv_supervisor.specs.declared.regs.Regs.{Regs}
use Rattle.hart_trace.specs.Shown.{register_of}
use Rattle.hart_trace.specs.States.{Hart, LeadsTo}
use Rattle.script_text.specs.declared.output.Misfit.TheVariants as misfit
use Rattle.script_text.specs.Output.{memory_line, misfit_line, register_line}
use Rattle.flat_guest.specs.Body.{Body, IsGuest}
use Rattle.flat_guest.specs.Guest.{Guest}
use Rattle.flat_guest.specs.Same.{AreAlike}
use Rattle.flat_machine.specs.Items.{MemoryLine, Misfits, RegisterLine, ShowsFrom}
use Rattle.flat_machine.specs.Machine.{Machine}
use Rattle.load_run.specs.Line.{Shows, number_said, said, word_address}

-- steps lead to one hart
abbrev pub IsOne : Type 0
IsOne = (start : Regs) (steps : List Step) (hart other : Hart) → LeadsTo start steps hart → LeadsTo start steps other → hart ≡ other

abbrev register_words : List Hart → List ℕ
register_words [] = misfit_line misfit.NoActor
register_words (h ∷ harts) = register_line (register_of h 7)

abbrev memory_words : Bool → Memory → List ℕ
memory_words true m = memory_line (read_from m word_address 8)
memory_words false m = misfit_line misfit.OutsideMemory

some_there : (n : ℕ) → nat_lt 0 (suc n) ≡ true
some_there n = grind arith

first_register : IsOne → (starts : List Regs) (harts : List Hart) (steps : List Step) (m : Machine) (text : List ℕ) → length harts ≡ length starts
    → ((start : Regs) (hart : Hart) → slice_get starts 0 ≡ Some start → slice_get harts 0 ≡ Some hart → LeadsTo start steps hart)
    → MatchBool (nat_lt 0 (length starts)) (ShowsFrom (slice_get starts 0) steps 7 text × (m ≡ m)) (Misfits misfit.NoActor m text m)
    → text ≡ register_words harts
first_register one [] [] steps m text count each shows = shows.0
first_register one [] (h ∷ harts) steps m text count each shows = absurd (omega (arith, count))
first_register one (s ∷ starts) [] steps m text count each shows = absurd (omega (arith, count))
first_register one (s ∷ starts) (h ∷ harts) steps m text count each shows =
    let there = subst (λ (b : Bool). MatchBool b (ShowsFrom (Some s) steps 7 text × (m ≡ m)) (Misfits misfit.NoActor m text m)) (some_there (length starts)) shows in
    there.0.2 ∙ ap (λ (q : Hart). register_line (register_of q 7)) (one s steps there.0.0 h there.0.1 (each s h refl refl))

register_is : IsOne → (b : Body) (g : Guest) (m : Machine) (text : List ℕ) → IsGuest b g → RegisterLine (Some g) 0 7 m text m → text ≡ register_words b.harts
register_is one b g m text is shows =
    first_register one g.starts b.harts (g.steps (HartId 0)) m text is.harts_are.count (λ start hart s h. is.harts_are.each 0 start hart s h) shows

by_ram : (ram : Bool) (mem : Memory) (m : Machine) (text : List ℕ) → MatchBool ram ((text ≡ memory_line (read_from mem word_address 8)) × (m ≡ m)) (Misfits misfit.OutsideMemory m text m)
    → text ≡ memory_words ram mem
by_ram true mem m text shows = shows.0
by_ram false mem m text shows = shows.0

memory_is : (b : Body) (g : Guest) (m : Machine) (text : List ℕ) → IsGuest b g → MemoryLine (Some g) word_address 8 m text m
    → text ≡ memory_words (is_ram (length b.memory.bytes) word_address 8) b.memory
memory_is b g m text is shows =
    by_ram (is_ram (length g.memory.bytes) word_address 8) g.memory m text shows
    ∙ ap (λ (mem : Memory). memory_words (is_ram (length mem.bytes) word_address 8) mem) (sym is.memory_is)

words_are : IsOne → (b : Body) (g : Guest) (m : Machine) (words : List ℕ) → IsGuest b g → m.guest ≡ Some g → Shows m words
    → words ≡ said (register_words b.harts) ++ codes " " ++ number_said (memory_words (is_ram (length b.memory.bytes) word_address 8) b.memory)
words_are one b g m words is there shows =
    let register = register_is one b g m shows.register is (subst (λ (q : Option Guest). RegisterLine q 0 7 m shows.register m) there shows.asks) in
    let memory = memory_is b g m shows.memory is (subst (λ (q : Option Guest). MemoryLine q word_address 8 m shows.memory m) there shows.looks) in
    shows.are ∙ ap (λ (l : List ℕ). said l ++ codes " " ++ number_said shows.memory) register
    ∙ ap (λ (l : List ℕ). said (register_words b.harts) ++ codes " " ++ number_said l) memory

pub same_words : IsOne → (g h : Guest) (m n : Machine) (first second : List ℕ) → AreAlike g h → m.guest ≡ Some g → n.guest ≡ Some h → Shows m first → Shows n second
    → first ≡ second
same_words one g h m n first second alike there here a b =
    words_are one alike.body g m first alike.first there a ∙ sym (words_are one alike.body h n second alike.second here b)
