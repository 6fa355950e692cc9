-- What an answer of check_node promises.
use Rattle.std.proofs.Common.{◌≡◌, ℕ, List, Some, None, Result, Ok, Err}
use Rattle.std.specs.Result.{MatchResult, OnOk}
use Rattle.gb_successors.specs.Below.gb_domain.Certificate.{Certificate}
use Rattle.gb_calls.specs.Below.gb_states.WholeRules.{IsCertificate}
use Rattle.gb_successors.specs.Below.gb_abs.declared.reason.Reason.{Reason}
use Rattle.gb_successors.specs.Below.gb_abs_memory.Sound.{IsRom}
use Rattle.gb_rules.specs.Rules.{reason_at}
use Rattle.gb_rules.specs.Safety.{IsSafeAt}
use Rattle.gb_rules.proofs.EventLaws.{IsSafeNode-at}

pub check_node_safe : {X : Type 0} (rom : List ℕ) (cert : Certificate) (i : ℕ) (r : Result X Reason) → IsRom rom → IsCertificate cert
    → MatchResult r (λ _. reason_at rom cert i ≡ None) (λ reason. reason_at rom cert i ≡ Some reason) → OnOk r (IsSafeAt rom cert i)
check_node_safe rom cert i (Ok u) cartridge certificate h = λ n is. IsSafeNode-at rom cert i n cartridge certificate is h
check_node_safe rom cert i (Err reason) cartridge certificate h = tt
