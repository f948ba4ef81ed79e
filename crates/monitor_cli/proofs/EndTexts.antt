-- The closing text of a machine that is on, or off.
use Rattle.std.proofs.Common.{◌≡◌, ℕ, Bool, true, false, if◌then◌else◌, sym, ap, ◌∙◌, List, [], ◌++◌}
use Rattle.std.proofs.lemmas.List.{append-nil}
use Rattle.vm_types.specs.declared.exit.Exit.{Exit}
use Rattle.responses.specs.Output.{console_line, off_line}
use Rattle.flat_machine.specs.Machine.{Machine, console_of, is_off}
use Rattle.flat_machine.specs.Replay.{closing}

by_off : (m : Machine) (off : Bool) → is_off m ≡ off
    → console_line (console_of m) ++ (if off then off_line else []) ≡ closing Exit.Done m
by_off m off is = ap (λ (b : Bool). console_line (console_of m) ++ (if b then off_line else [])) (sym is)

pub closes_off : (m : Machine) (text line : List ℕ) → text ≡ console_line (console_of m) → is_off m ≡ true
    → line ≡ text ++ off_line → line ≡ closing Exit.Done m
closes_off m text line is off wrote = wrote ∙ ap (λ (t : List ℕ). t ++ off_line) is ∙ by_off m true off

pub closes_on : (m : Machine) (text : List ℕ) → text ≡ console_line (console_of m) → is_off m ≡ false
    → text ≡ closing Exit.Done m
closes_on m text is on = is ∙ sym (append-nil (console_line (console_of m))) ∙ by_off m false on

pub took_all : (bytes text before taken : List ℕ) → bytes ≡ text → taken ≡ before ++ bytes → taken ≡ before ++ text
took_all bytes text before taken is took = took ∙ ap (λ (l : List ℕ). before ++ l) is
