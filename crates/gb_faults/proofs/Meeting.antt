-- The faults of an event by what it met are the event's.
use Rattle.std.proofs.Common.{◌≡◌, ◌∙◌, ℕ, refl, ap, List, Option, Some, None}
use Rattle.gb_ops.specs.declared.machine.Event.{Event}
use Rattle.gb_ops.specs.declared.machine.Event.TheVariants as event
use Rattle.gb_ops.specs.declared.machine.Region.{Region}
use Rattle.gb_ops.specs.declared.op.Row.{Row}
use Rattle.gb_ops.specs.declared.machine.Faults.{Faults}
use Rattle.gb_ops.specs.Faults as Spec
use Rattle.gb_ops.specs.Faults.{all_fetch_faults, fetch_addresses, either_faults, load_faults, store_faults, event_faults, run_faults}
use Rattle.gb_ops.specs.Machine.{BusState, fetched}
use Rattle.gb_ops.specs.Table.{decoded}
use Rattle.gb_cpu.specs.declared.step.Met.{Met}
use Rattle.gb_cpu.specs.Met.{HasMet, IsRowMet}
use Rattle.gb_faults.specs.Limits.{limits_of}
use Rattle.gb_faults.specs.Meeting.{met_faults, row_faults}
use Rattle.gb_faults.proofs.Limiting.{fetch_limits, all_limits, load_limits, store_limits}

met_row : (row : Option Row) (region : Region) (s : BusState) (reads : List ℕ) (met : Met) → IsRowMet row s reads met.read met.write
    → row_faults row region (limits_of s.memory) met ≡ Spec.row_faults row region s reads
met_row None region s reads met h = refl
met_row (Some row) region s reads met h = rw (load_limits s.memory met.read, store_limits region s.memory met.write, h.0, h.1) refl

both : (f g h k : Faults) → f ≡ g → h ≡ k → either_faults f h ≡ either_faults g k
both f g h k first second = rw (first, second) refl

met_run : (region : Region) (s : BusState) (fetch reads : List ℕ) (met : Met) → HasMet s (event.Run fetch reads) met
    → either_faults (all_fetch_faults (limits_of s.memory) (fetch_addresses s.processor met.bytes)) (row_faults (decoded met.bytes) region (limits_of s.memory) met) ≡ run_faults region s fetch reads
unfolding run_faults
met_run region s fetch reads met h =
    let bytes = fetched s.memory s.processor fetch in
    both _ _ _ _
    (ap (λ (bs : List ℕ). all_fetch_faults (limits_of s.memory) (fetch_addresses s.processor bs)) h.0 ∙ all_limits s.memory (fetch_addresses s.processor bytes))
    (ap (λ (bs : List ℕ). row_faults (decoded bs) region (limits_of s.memory) met) h.0 ∙ met_row (decoded bytes) region s reads met h.1)

pub met_faults_are : (region : Region) (s : BusState) (e : Event) (met : Met) → HasMet s e met → met_faults region (limits_of s.memory) s.processor e met ≡ event_faults region s e
unfolding met_faults event_faults
met_faults_are region s (event.Run fetch reads) met h = met_run region s fetch reads met h
met_faults_are region s event.HaltStay met h = fetch_limits s.memory s.processor.pc
met_faults_are region s event.HaltBug met h = fetch_limits s.memory s.processor.pc
met_faults_are region s (event.Irq i) met h = store_limits region s.memory _
met_faults_are region s (event.Wait n) met h = refl
