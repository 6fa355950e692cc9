-- The cartridge stays, and no transfer is left to start where an event has ended.
use Rattle.std.proofs.Common.{◌≡◌, ℕ, Bool, true, false, refl, sym, Option, Some, None, List}
use Rattle.gb_ops.specs.declared.machine.Mapped.{Mapped}
use Rattle.gb_ops.specs.declared.machine.Mapped.TheVariants as mapped
use Rattle.gb_ops.specs.declared.machine.Write.{Write}
use Rattle.gb_ops.specs.declared.machine.Write.TheVariants as write
use Rattle.gb_ops.specs.declared.machine.Event.{Event}
use Rattle.gb_ops.specs.declared.machine.Event.TheVariants as event
use Rattle.gb_ops.specs.declared.op.Row.{Row}
use Rattle.gb_ops.specs.Table.{decoded}
use Rattle.gb_ops.specs.Memory.{View, wrote, stored, passed, is_closed, wrote_by, kept_or, mapped_at}
use Rattle.gb_ops.specs.Play as Play
use Rattle.gb_ops.specs.Play.{within, outside, IsStep}
use Rattle.gb_ops.specs.Machine.{BusState, waited, is_running, next, only, happened, run, run_row, executed, locked, halt_stay, halt_bug, dispatched, fetched}

by_rom : (c : Mapped) (m : View) (a v : ℕ) → (wrote_by c m a v).rom ≡ m.rom
by_rom mapped.Rom m a v = refl
by_rom mapped.CartridgeRam m a v = refl
by_rom (mapped.WorkRam i) m a v = refl
by_rom (mapped.HighRam i) m a v = refl
by_rom mapped.InterruptEnable m a v = refl
by_rom mapped.Transfer m a v = refl
by_rom mapped.Hardware m a v = refl

kept_rom : (b : Bool) (m n : View) → n.rom ≡ m.rom → (kept_or b m n).rom ≡ m.rom
kept_rom true m n h = refl
kept_rom false m n h = h

pub wrote_rom : (m : View) (a v : ℕ) → (wrote m a v).rom ≡ m.rom
unfolding wrote
wrote_rom m a v = kept_rom (is_closed m.storage a) m _ (by_rom (mapped_at a) m a v)

pub stored_rom : (m : View) (w : Write) → (stored m w).rom ≡ m.rom
unfolding stored
stored_rom m write.Nothing = refl
stored_rom m (write.Byte a v) = wrote_rom m a v
stored_rom m (write.Word a w) = simp wrote_rom
stored_rom m (write.Push sp w) = simp wrote_rom

pub record IsSettled (old new : BusState) : Type 0 where
  pub rom : new.memory.rom ≡ old.memory.rom
  pub starting : old.memory.starting ≡ false → new.memory.starting ≡ false

row_settled : (row : Option Row) (s : BusState) (reads : List ℕ) → IsSettled s (run_row row s reads)
unfolding locked executed passed
row_settled None s reads = record { rom = refl; starting = λ h. refl }
row_settled (Some row) s reads = record { rom = stored_rom s.memory _; starting = λ h. refl }

only_settled : (b : Bool) (new s : BusState) → IsSettled s new → IsSettled s (only b new s)
unfolding only
only_settled true new s h = h
only_settled false new s h = record { rom = refl; starting = λ e. e }

waited_settled : (b : Bool) (s : BusState) (n : ℕ) → IsSettled s (waited b s n)
unfolding passed
waited_settled true s n = record { rom = refl; starting = λ h. refl }
waited_settled false s n = record { rom = refl; starting = λ h. h }

happened_settled : (s : BusState) (e : Event) → IsSettled s (happened s e)
unfolding happened run halt_stay halt_bug dispatched passed
happened_settled s (event.Run fetch reads) = row_settled (decoded (fetched s.memory s.processor fetch)) s reads
happened_settled s event.HaltStay = record { rom = refl; starting = λ h. refl }
happened_settled s event.HaltBug = record { rom = refl; starting = λ h. refl }
happened_settled s (event.Irq i) = record { rom = stored_rom s.memory _; starting = λ h. refl }
happened_settled s (event.Wait n) = waited_settled (is_running s) s n

pub next_settled : (s : BusState) (e : Event) → IsSettled s (next s e)
unfolding next
next_settled s e = only_settled _ _ s (happened_settled s e)

-- a bus that leaves no transfer to start is its machine state
within_outside : (s : BusState) → s.memory.starting ≡ false → within s.memory.rom (outside s) ≡ s
unfolding within outside
within_outside s h = λ i. record { processor = s.processor; memory = record { rom = s.memory.rom; storage = s.memory.storage; starting = sym h i } }

pub step_is : (old new : BusState) (e : Event) → new ≡ next old e → IsStep old e new
unfolding Play.next
step_is old new e is =
    record {
      rom = rw is (next_settled old e).rom;
      starting = λ h. rw is ((next_settled old e).starting h);
      next = λ h. rw (within_outside old h, is) refl;
    }
