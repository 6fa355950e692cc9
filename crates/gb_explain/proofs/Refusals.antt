-- From a refused verdict to the answer of two files.
use Rattle.std.proofs.Common.{◌≡◌, ℕ, List, Ok, Option, Some, None, IfSome, sym, ◌∙◌, ap}
use Rattle.gb_verify.specs.Below.gb_header.Header as Header
use Rattle.gb_verify.specs.Below.gb_domain.Certificate.{Certificate}
use Rattle.gb_verify.specs.Below.gb_states.WholeReading.{read_certificate}
use Rattle.gb_verify.specs.Verdict.{verdict_of}
use Rattle.gb_verify.specs.Text.{answer_of, answered, judged}
use Rattle.gb_verify.specs.declared.verdict.Verdict.{Verdict}
use Rattle.gb_verify.specs.declared.verdict.Verdict.TheVariants.{Refused}
use Rattle.gb_verify.specs.declared.verify.Answer.TheVariants as answer
use Rattle.gb_explain.specs.declared.explanation.Explanation.{Explanation}

judged_is : (rom bytes parsed : List ℕ) (cert : Certificate) (verdict : Verdict) → Ok parsed ≡ Header.parsed rom → read_certificate bytes ≡ Ok cert → verdict_of parsed cert ≡ verdict
    → answer_of rom bytes ≡ answer.Judged verdict
unfolding answer_of
judged_is rom bytes parsed cert verdict h e k =
    ap (λ r. answered r bytes) (sym h) ∙ (ap (judged parsed) e ∙ ap answer.Judged k)

pub told : (rom bytes parsed : List ℕ) (cert : Certificate) (o : Option Explanation) → Ok parsed ≡ Header.parsed rom → read_certificate bytes ≡ Ok cert
    → IfSome o (λ x. verdict_of parsed cert ≡ Refused x.node x.reason)
    → IfSome o (λ x. answer_of rom bytes ≡ answer.Judged (Refused x.node x.reason))
told rom bytes parsed cert (Some x) h e k = judged_is rom bytes parsed cert _ h e k
told rom bytes parsed cert None h e k = k
