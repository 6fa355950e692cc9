-- An interrupt that is possible may be dispatched.
use Rattle.std.proofs.Common.{◌≡◌, ℕ, ◌<◌, Bool, true, false, ◌&&◌, nat_lt, List, refl, arith}
use Rattle.std.proofs.lemmas.Bool.Decides.{nat_tests}
use Rattle.gb_ops.specs.declared.machine.Event.TheVariants as event
use Rattle.gb_ops.specs.declared.registers.Ime.TheVariants as ime
use Rattle.gb_ops.specs.Machine.{is_possible, is_running, is_ime, has_enabled_bit}
use Rattle.gb_ops.specs.Play.{MState}
use Rattle.gb_cpu.specs.Step.{state, IsDispatchable}
use Rattle.gb_plain.specs.Shown.{bus, shown}

third : (a b c d : Bool) → (a && b && c && d) ≡ true → c ≡ true
third a b true d h = refl
third true true false true h = h
third true true false false h = h
third true false false d h = h
third false b false d h = h

below : (i : ℕ) → nat_lt i 5 ≡ true → i < 5
below i h = grind (arith, nat_tests)

pub irq_is :
    (rom : List ℕ) (s : MState) (starting : Bool) (i : ℕ) → is_possible (bus rom s) (event.Irq i) ≡ true
    → IsDispatchable (state s.processor (shown rom s starting)) i
unfolding is_possible
irq_is rom s starting i h = record { number = below i (third (is_running (bus rom s)) (is_ime s.processor.ime ime.On) (nat_lt i 5) (has_enabled_bit (bus rom s) i) h); possible = λ running. h }
