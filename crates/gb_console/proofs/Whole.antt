-- Where some certificate is right for the cartridge, each frame is whole.
use Rattle.std.proofs.Common.{ℕ, zero, suc, ◌≡◌, Bool, true, false, refl, ◌∙◌, List, Some}
use Rattle.gb_ops.specs.Play.{MState}
use Rattle.gb_cpu.specs.Below.gb_timer.declared.irqs.Keys.{Keys}
use Rattle.gb_verify.specs.Below.gb_abs_memory.Sound.{IsRom}
use Rattle.gb_verify.specs.Headline.{IsSafe}
use Rattle.gb_verify.proofs.RunLaws.{IsSafe-right}
use Rattle.gb_console.specs.declared.frame.Ending.{Ending}
use Rattle.gb_console.specs.declared.frame.Ending.TheVariants as ending
use Rattle.gb_console.specs.Console.{ConsoleState, IsReachable, rom_of, machine_of}
use Rattle.gb_console.specs.Frame.{IsFrame, Goes, ending_by, ending_after}
use Rattle.gb_console.specs.Verified.{IsVerified}
use Rattle.gb_console.proofs.Going.{goes_cartridge}

-- ---- the cartridge stays

frame_cartridge : (old : ConsoleState) (keys : Keys) (seconds : ℕ) (end : Ending) (new : ConsoleState) → IsFrame old keys seconds end new → rom_of new ≡ rom_of old
frame_cartridge old keys seconds end new f = f.ends.step.cartridge ∙ goes_cartridge old keys seconds f.steps f.last f.goes

-- ---- no reached state is locked or stopped

running : (rom : List ℕ) (s : MState) → IsRom rom → IsVerified rom → IsReachable rom s → (s.processor.locked ≡ false) × (s.processor.stopped ≡ false)
unfolding IsReachable
running rom s cartridge v reached =
    let safe : IsSafe rom v.certificate = IsSafe-right rom v.certificate cartridge v.rules v.right in
    safe.running s (reached v.certificate.region)

whole_by : (l s p : Bool) (end : Ending) → l ≡ false → s ≡ false → Some end ≡ ending_by l s p → end ≡ ending.Whole
whole_by true s p end h k is = cc
whole_by false true p end h k is = cc
whole_by false false true end h k is = cc
whole_by false false false end h k is = cc

pub whole_frame : (old : ConsoleState) (keys : Keys) (seconds : ℕ) (end : Ending) (new : ConsoleState) → IsFrame old keys seconds end new → IsRom (rom_of new)
    → IsReachable (rom_of new) (machine_of new) → IsVerified (rom_of old) → end ≡ ending.Whole
unfolding ending_after
whole_frame old keys seconds end new f cartridge reached verified =
    let here : IsVerified (rom_of new) = rw (frame_cartridge old keys seconds end new f) verified in
    let r = running (rom_of new) (machine_of new) cartridge here reached in
    whole_by new.cpu.processor.locked new.cpu.processor.stopped _ end r.0 r.1 f.ends.ending
