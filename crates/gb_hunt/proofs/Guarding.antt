-- A guard of a cartridge stays one while the console goes on, since the cartridge stays.
use Rattle.std.proofs.Common.{◌≡◌, ℕ, zero, suc, refl, sym, subst, ◌∙◌, Bool, List}
use Rattle.gb_trace.specs.Below.gb_console.Below.gb_timer.declared.irqs.Keys.{Keys}
use Rattle.gb_trace.specs.Below.gb_console.Console.{ConsoleState, rom_of}
use Rattle.gb_trace.specs.Below.gb_console.Frame.{Rests, IsPassing}
use Rattle.gb_faults.specs.declared.guard.Guard.{Guard}
use Rattle.gb_faults.specs.Quiet.{IsGuard}

pub same_guard : (old new : List ℕ) (g : Guard) → new ≡ old → IsGuard old g → IsGuard new g
same_guard old new g e h = subst (λ (rom : List ℕ). IsGuard rom g) (sym e) h

pub rests_rom : (old : ConsoleState) (keys : Keys) (n : ℕ) (new : ConsoleState) → Rests old keys n new → rom_of new ≡ rom_of old
rests_rom old keys zero new r = let e : new ≡ old = r in rw e refl
rests_rom old keys (suc n) new r = r.2.cartridge ∙ rests_rom old keys n r.0 r.1

pub passing_rom : (old : ConsoleState) (keys : Keys) (passed : Bool) (new : ConsoleState) → IsPassing old keys passed new → rom_of new ≡ rom_of old
passing_rom old keys passed new p = p.step.step.cartridge
