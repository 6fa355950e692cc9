-- The faults of an event by what it meets.
use Rattle.std.proofs.Common.{◌≡◌, ℕ, Bool, true, false, refl, ap, ◌∙◌, List}
use Rattle.gb_ops.specs.declared.machine.Event.{Event}
use Rattle.gb_ops.specs.declared.machine.Faults.{Faults}
use Rattle.gb_ops.specs.declared.machine.Region.{Region}
use Rattle.gb_ops.specs.declared.registers.Processor.{Processor}
use Rattle.gb_ops.specs.Faults.{event_faults}
use Rattle.gb_ops.specs.Machine.{is_possible}
use Rattle.gb_ops.specs.Memory.{View}
use Rattle.gb_ops.specs.Play.{MState, faults, faults_where, within}
use Rattle.gb_cpu.specs.Met.{HasMet}
use Rattle.gb_cpu.specs.declared.step.Met.{Met}
use Rattle.gb_faults.specs.Limits.{limits_of}
use Rattle.gb_faults.specs.Meeting.{met_faults}
use Rattle.gb_faults.proofs.Meeting.{met_faults_are}
use Rattle.gb_plain.specs.Shown.{bus, resting}

by_possible : (b : Bool) (f : Faults) → b ≡ true → f ≡ faults_where b f
by_possible true f h = refl
by_possible false f h = absurd (let bad : false ≡ true = h in cc)

where_possible : (rom : List ℕ) (region : Region) (s : MState) (e : Event) → is_possible (bus rom s) e ≡ true → event_faults region (bus rom s) e ≡ faults rom region s e
unfolding faults within
where_possible rom region s e h = by_possible (is_possible (bus rom s) e) (event_faults region (bus rom s) e) h

pub faults_met : (rom : List ℕ) (region : Region) (s : MState) (e : Event) (met : Met) (limits : View) (p : Processor) (f : Faults) → f ≡ met_faults region limits p e met
    → limits ≡ limits_of (resting rom s) → p ≡ s.processor → HasMet (bus rom s) e met → is_possible (bus rom s) e ≡ true → f ≡ faults rom region s e
faults_met rom region s e met limits p f is limits_are processor_is h possible =
    is ∙ ap (λ (l : View). met_faults region l p e met) limits_are
    ∙ ap (λ (q : Processor). met_faults region (limits_of (resting rom s)) q e met) processor_is
    ∙ met_faults_are region (bus rom s) e met h ∙ where_possible rom region s e possible
