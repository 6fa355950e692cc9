-- When a certificate is right for a cartridge, and the verdict (own rules).
use Rattle.std.specs.Prelude.{◌≡◌, ℕ, ◌+◌, ◌<◌, Bool, true, false, not, ◌||◌, ◌==◌, if◌then◌else◌, List, [], ◌∷◌, length, ◌⊎◌, slice_get, Option, Some, None, option_and_then}
use Rattle.std.specs.List.{All}
use Rattle.gb_rules.specs.Below.gb_domain.Limits.{rules_of}
use Rattle.gb_rules.specs.Below.gb_domain.Types.{ProcedureParts, Node}
use Rattle.gb_rules.specs.Below.gb_domain.Certificate.{Certificate}
use Rattle.gb_rules.specs.Below.gb_abs.declared.reason.Reason.{Reason}
use Rattle.gb_rules.specs.Below.gb_abs.declared.reason.Reason.TheVariants as reason
use Rattle.gb_rules.specs.Below.gb_product.Covering.{covers}
use Rattle.gb_rules.specs.Procedures.{program_of}
use Rattle.gb_rules.specs.Rules.{reason_of, lacks_handler}
use Rattle.gb_verify.specs.PowerUp.{state_at_power_up}
use Rattle.gb_verify.specs.declared.verdict.Verdict.{Verdict}
use Rattle.gb_verify.specs.declared.verdict.Verdict.TheVariants.{Accepted, Refused}

-- ---- the entry

abbrev pub entry_of : Option ProcedureParts → ℕ
entry_of None = 0
entry_of (Some p) = p.entry

-- the number of the node where main begins; procedure 0 is main
abbrev pub main_entry : Certificate → ℕ
main_entry cert = entry_of (slice_get cert.procedures 0)

abbrev pub is_bad_node : List ℕ → Certificate → Option Node → Bool
is_bad_node rom cert None = true
is_bad_node rom cert (Some n) =
    not (n.address == 0x100) || not (n.bank == 0) || not (covers (program_of rom cert) (state_at_power_up rom cert.region) n.state)

-- main doesn't begin at 0100 in bank 0, or not in a state that covers power-up
unfoldable pub is_bad_entry : List ℕ → Certificate → Bool
is_bad_entry rom cert = is_bad_node rom cert (slice_get cert.nodes (main_entry cert))

-- ---- the verdict

abbrev pub or_interrupt : Option Reason → Bool → Option Reason
or_interrupt (Some r) unhandled = Some r
or_interrupt None true = Some reason.Interrupt
or_interrupt None false = None

-- the lowest reason against a node
unfoldable pub reason_against : List ℕ → Certificate → Node → Option Reason
reason_against rom cert n = or_interrupt (reason_of rom cert n) (lacks_handler (program_of rom cert) cert n)

-- a right certificate
pub record IsRight (rom : List ℕ) (cert : Certificate) : Type 0 where
  pub entry : is_bad_entry rom cert ≡ false
  pub nodes : All (λ n. reason_against rom cert n ≡ None) cert.nodes

-- the lowest reason against the node with a number
abbrev pub reason_against_at : List ℕ → Certificate → ℕ → Option Reason
reason_against_at rom cert i = option_and_then (reason_against rom cert) (slice_get cert.nodes i)

-- the first node that isn't right, with its lowest reason
pub record IsFirstWrong (rom : List ℕ) (cert : Certificate) (i : ℕ) (r : Reason) : Type 0 where
  pub entry : is_bad_entry rom cert ≡ false
  pub reason : reason_against_at rom cert i ≡ Some r
  pub earlier : (j : ℕ) → j < i → reason_against_at rom cert j ≡ None

-- main's entry is wrong
pub record IsWrongEntry (rom : List ℕ) (cert : Certificate) (i : ℕ) (r : Reason) : Type 0 where
  pub entry : is_bad_entry rom cert ≡ true
  pub node : i ≡ main_entry cert
  pub reason : r ≡ reason.Entry

-- The verdict: accepted, with the two counts, where the certificate is right; else main's entry node where
-- that is wrong; else the first node that isn't right with its lowest reason.
abbrev pub IsVerdict : List ℕ → Certificate → Verdict → Type 0
IsVerdict rom cert (Accepted nodes procedures) =
    IsRight rom cert × (nodes ≡ length cert.nodes) × (procedures ≡ length cert.procedures)
IsVerdict rom cert (Refused i r) = IsWrongEntry rom cert i r ⊎ IsFirstWrong rom cert i r

-- ---- the verdict as a function

-- the verdict where node i is refused for a reason, or where it is not
abbrev pub refusal_or : Option Reason → ℕ → Verdict → Verdict
refusal_or None i v = v
refusal_or (Some r) i v = Refused i r

-- the verdict from node i on
abbrev pub verdict_from : List ℕ → Certificate → ℕ → List Node → Verdict
verdict_from rom cert i [] = Accepted (length cert.nodes) (length cert.procedures)
verdict_from rom cert i (n ∷ rest) = refusal_or (reason_against rom cert n) i (verdict_from rom cert (i + 1) rest)

unfoldable pub verdict_of : List ℕ → Certificate → Verdict
verdict_of rom cert =
    if is_bad_entry rom cert then Refused (main_entry cert) reason.Entry else verdict_from rom cert 0 cert.nodes

-- Certificates that differ in their versions alone have equal verdicts, where both versions have the same rules, as 1 and 2 have:
-- those of version 4 alone speak of the whole program.
abbrev pub IgnoresVersion : Type 0
IgnoresVersion =
    (rom : List ℕ) (cert : Certificate) (version : ℕ)
    → rules_of version ≡ rules_of cert.version → (version == 4) ≡ (cert.version == 4)
    → verdict_of rom (record cert { version = version }) ≡ verdict_of rom cert
