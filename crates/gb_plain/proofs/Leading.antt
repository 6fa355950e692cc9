-- Where an event leads, by the machine's definitions alone.
use Rattle.std.proofs.Common.{◌≡◌, ℕ, List, ap, ◌∙◌}
use Rattle.gb_ops.specs.declared.machine.Event.{Event}
use Rattle.gb_ops.specs.Machine as Machine
use Rattle.gb_ops.specs.Machine.{BusState}
use Rattle.gb_ops.specs.Play as Play
use Rattle.gb_ops.specs.Play.{MState}
use Rattle.gb_cpu.proofs.Kept.{next_settled}
use Rattle.gb_plain.specs.Shown.{bus}

-- the cartridge stays
pub same_rom : (r rom : List ℕ) (new s : MState) (e : Event) → bus r new ≡ Machine.next (bus rom s) e → r ≡ rom
same_rom r rom new s e is = ap (λ (b : BusState). b.memory.rom) is ∙ (next_settled (bus rom s) e).rom

-- the machine state is the next
pub next_is : (r rom : List ℕ) (new s : MState) (e : Event) → bus r new ≡ Machine.next (bus rom s) e → new ≡ Play.next rom s e
unfolding Play.next Play.within Play.outside
next_is r rom new s e is = ap (λ (b : BusState). Play.outside b) is
