-- Where each event is safe, every run from power-up is.
use Rattle.std.proofs.Common.{◌≡◌, ℕ, false, List, subst}
use Rattle.gb_ops.specs.declared.machine.Event.{Event}
use Rattle.gb_ops.specs.Play.{MState, IsStart}
use Rattle.gb_rules.specs.Below.gb_domain.Certificate.{Certificate}
use Rattle.gb_rules.specs.Below.gb_states.WholeRules.{IsCertificate}
use Rattle.gb_rules.specs.Frames.{IsStanding}
use Rattle.gb_rules.proofs.FrameRunLaws.{AreEventsSafe, IsSafeRun, IsStanding-start, IsStanding-running, run_safe}
use Rattle.gb_verify.specs.Verdict.{is_bad_entry}
use Rattle.gb_verify.specs.Headline.{IsSafe}
use Rattle.gb_verify.proofs.StartLaws.{IsMeant-start, main_base}

pub IsSafe-events : (rom : List ℕ) (cert : Certificate) → IsCertificate cert → is_bad_entry rom cert ≡ false → AreEventsSafe rom cert → IsSafe rom cert
IsSafe-events rom cert certificate entry safe =
    let run : (s : MState) (events : List Event) → IsStart rom s → IsSafeRun rom cert s events =
    λ s events start. run_safe rom cert s events certificate safe (IsStanding-start rom cert (main_base cert) s (IsMeant-start rom cert s certificate entry start)) in
    record {
      faults = λ s events start. (run s events start).faults;
      places = λ s events start. (run s events start).places;
      running = λ s reached. IsStanding-running rom cert s (subst (IsStanding rom cert) reached.leads (run reached.start reached.events reached.is_start).standing);
    }
