-- The headline: an accepted certificate makes every run from power-up safe.
use Rattle.std.specs.Prelude.{◌≡◌, ℕ, false, List}
use Rattle.std.specs.List.{All}
use Rattle.gb_ops.specs.declared.machine.Event.{Event}
use Rattle.gb_ops.specs.Faults.{no_faults}
use Rattle.gb_ops.specs.Play.{MState, IsStart, IsReached, play}
use Rattle.gb_rules.specs.Below.gb_domain.Certificate.{Certificate}
use Rattle.gb_rules.specs.Below.gb_successors.Places.{IsCertified}
use Rattle.gb_verify.specs.declared.verdict.Verdict.{Verdict}
use Rattle.gb_verify.specs.declared.verdict.Verdict.TheVariants.{Accepted, Refused}

-- In every run from power-up, whatever is read and whichever events come: no undefined opcode is executed, no byte
-- of an instruction comes from outside ROM, work RAM and high RAM, no push, call or dispatch stores outside the
-- region, cartridge RAM is met only while enabled, and during an OAM transfer high RAM alone is met; every place that
-- is fetched is certified; and the machine is never locked and never stopped.
pub record IsSafe (rom : List ℕ) (cert : Certificate) : Type 0 where
  pub faults : (s : MState) (events : List Event) → IsStart rom s → (play rom cert.region s events).faults ≡ no_faults
  pub places : (s : MState) (events : List Event) → IsStart rom s → All (IsCertified rom cert) (play rom cert.region s events).places
  pub running : (s : MState) → IsReached rom cert.region s → (s.processor.locked ≡ false) × (s.processor.stopped ≡ false)

-- what an accepting verdict promises
abbrev pub IfAccepted : Verdict → Type 0 → Type 0
IfAccepted (Accepted nodes procedures) P = P
IfAccepted (Refused i r) P = Unit {0}
