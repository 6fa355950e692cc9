-- Procedures and nodes of version 4: what is read is spelled so, and what is spelled so is read.
use Rattle.std.proofs.Common.{◌≡◌, ℕ, ◌/◌, ◌%◌, ◌<◌, ◌≤◌, Bool, true, false, ◌&&◌, ◌==◌, nat_le, List, ◌∷◌, ◌++◌, length, Option, Some, None, refl, ◌∙◌, ap, arith}
use Rattle.std.specs.Prelude.{not, IfSome, is_some}
use Rattle.std.proofs.lemmas.Bool.Decides.{nat_tests}
use Rattle.gb_ops.specs.declared.machine.Region.{Region}
use Rattle.gb_fields.specs.declared.fault.CertFault.TheVariants as fault
use Rattle.gb_domain.specs.declared.types.Range.{Range}
use Rattle.gb_domain.specs.declared.rules.Rules.TheVariants.{Extended}
use Rattle.gb_domain.specs.Types.{AbsState, ProcedureParts, Node}
use Rattle.gb_fields.specs.Format.{both, followed, optional, byte}
use Rattle.gb_fields.specs.Limits.{node_limit, unit}
use Rattle.gb_fields.specs.Reading.{is_between, word, word_between, node_number, yes_no, may_return, returns_at, is_below, entry_at, base_at}
use Rattle.gb_states.specs.declared.role.Role.TheVariants as role
use Rattle.gb_states.specs.declared.form.ProcedureForm.{ProcedureForm}
use Rattle.gb_states.specs.Reading.{to_node}
use Rattle.gb_states.specs.Rules.{role_of, is_whole, is_from, key}
use Rattle.gb_states.specs.WholeRules.{AreKept, IsStateIn, IsProcedureIn, IsNodeIn}
use Rattle.gb_states.specs.WholeReading.{kept_addresses_at, state_at, exit_at, named_at, needed_at, to_procedure, procedure_at, key_at, node_at}
use Rattle.gb_states.specs.Spelling as simple
use Rattle.gb_states.specs.WholeSpelling as spelled
use Rattle.gb_states.proofs.Formats.{IsFormat, IsFormat-byte, IsFormat-both, IsFormat-followed, IsFormat-checked, IsFormat-onto, IsFormat-mapped, IsFormat-as, IsFormat-spelled, IsFormat-optional, spelled_option, is_there}
use Rattle.gb_states.proofs.FieldLaws.{within, is_within, is_same, node_numbers, spelled_byte, spelled_flag, IsFormat-node_number, IsFormat-word, IsFormat-word_between, IsFormat-yes_no}
use Rattle.gb_states.proofs.StateLaws.{lt_is, is_lt, not_is, is_not, number_small, IsNeed, IsFormat-need, IsBase, IsFormat-base, AreRanges, IsFormat-ranges}
use Rattle.gb_states.proofs.WholeStateLaws.{IsFormat-state}
use Rattle.gb_states.proofs.WholeSummaryLaws.{IsFormat-kept_addresses}

-- ---- exits

from_exit : Option AbsState → Bool × Option AbsState
from_exit o = (is_there o, o)

abbrev Exit : ℕ → ProcedureForm → Region → AbsState → Type 0
Exit facts form region = IsStateIn facts form role.Exit region

abbrev IsExitPair : ℕ → ProcedureForm → Bool → Region → Bool × Option AbsState → Type 0
IsExitPair facts form is_main region p = (Unit {0} × (may_return is_main p.0 ≡ true)) × ((is_there p.1 ≡ p.0) × IfSome p.1 (Exit facts form region))

abbrev AreExit : ℕ → ProcedureForm → Bool → Region → Option AbsState → Type 0
AreExit facts form is_main region o = ((is_main && is_some o) ≡ false) × IfSome o (Exit facts form region)

exit-there : (facts : ℕ) (form : ProcedureForm) (is_main : Bool) (region : Region) (p : Bool × Option AbsState) → IsExitPair facts form is_main region p → (from_exit p.1 ≡ p) × AreExit facts form is_main region p.1
unfolding from_exit
exit-there facts form is_main region p h = (ap (λ (b : Bool). (let q : Bool × Option AbsState = (b, p.1) in q)) h.1.0, (not_is (is_main && is_some p.1) (ap (λ b. not (is_main && b)) (some-there p.1 ∙ h.1.0) ∙ h.0.1), h.1.1))
  where
    some-there : (o : Option AbsState) → is_some o ≡ is_there o
    some-there None = refl
    some-there (Some s) = refl

exit-again : (facts : ℕ) (form : ProcedureForm) (is_main : Bool) (region : Region) (o : Option AbsState) → AreExit facts form is_main region o → IsExitPair facts form is_main region (from_exit o) × ((from_exit o).1 ≡ o)
unfolding from_exit
exit-again facts form is_main region None h = (((tt, is_not (is_main && false) h.0), (refl, h.1)), refl)
exit-again facts form is_main region (Some s) h = (((tt, is_not (is_main && true) h.0), (refl, h.1)), refl)

abbrev spelled_exit : Region → ℕ → Option AbsState → List ℕ
spelled_exit region base o = simple.flag (from_exit o).0 ∷ spelled_option (spelled.state region base) (from_exit o).1

exit-spelled : (region : Region) (base : ℕ) (o : Option AbsState) → spelled_exit region base o ≡ spelled.exit region base o
unfolding from_exit spelled.exit
exit-spelled region base None = refl
exit-spelled region base (Some s) = refl

pub IsFormat-exit : (facts : ℕ) (form : ProcedureForm) (is_main : Bool) (region : Region) → facts < 65536 → form.kept ≤ 16 → IsFormat (exit_at facts form is_main region) (spelled.exit region form.base) (AreExit facts form is_main region)
unfolding returns_at exit_at
IsFormat-exit facts form is_main region small few =
    let state = spelled.state region form.base in
    IsFormat-spelled (exit_at facts form is_main region) (spelled_exit region form.base) (spelled.exit region form.base) (AreExit facts form is_main region) (λ o h. exit-spelled region form.base o)
    (IsFormat-onto (λ (p : Bool × Option AbsState). p.1) from_exit (followed (returns_at is_main) (λ returns. optional returns (state_at facts form role.Exit region))) (λ p. simple.flag p.0 ∷ spelled_option state p.1) (IsExitPair facts form is_main region) (AreExit facts form is_main region) (exit-there facts form is_main region) (exit-again facts form is_main region)
    (IsFormat-followed (returns_at is_main) (λ returns. optional returns (state_at facts form role.Exit region)) spelled_flag (λ b. spelled_option state) (λ b. Unit {0} × (may_return is_main b ≡ true)) (λ b o. (is_there o ≡ b) × IfSome o (Exit facts form region))
    (IsFormat-checked fault.Field (may_return is_main) yes_no spelled_flag (λ b. Unit {0}) IsFormat-yes_no)
    (λ b h. IsFormat-optional b (state_at facts form role.Exit region) state (Exit facts form region) (IsFormat-state facts form role.Exit region small few))))

-- ---- procedures

abbrev Named : Type 0
Named = (List ℕ × ℕ) × Option AbsState

-- of a procedure that names these, and has this base
abbrev form_named : ℕ → List ℕ × ℕ → ProcedureForm
form_named base d = record { kept = length d.0; base = base }

abbrev AreNamed : ℕ → ℕ → Bool → Region → Named → Type 0
AreNamed facts base is_main region n = (AreKept is_main region n.0.0 × (n.0.1 < 256)) × AreExit facts (form_named base n.0) is_main region n.1

abbrev spelled_named : Region → ℕ → Named → List ℕ
spelled_named region base n = (spelled.kept_addresses n.0.0 ++ spelled_byte n.0.1) ++ spelled.exit region base n.1

pub room_few : (is_main : Bool) (region : Region) (addresses : List ℕ) → AreKept is_main region addresses → length addresses ≤ 16
room_few true region addresses h = let few = h.few in omega (arith, few)
room_few false region addresses h = h.few

IsFormat-named : (facts base : ℕ) (is_main : Bool) (region : Region) → facts < 65536 → IsFormat (named_at facts base is_main region) (spelled_named region base) (AreNamed facts base is_main region)
unfolding named_at
IsFormat-named facts base is_main region small =
    IsFormat-followed (both (kept_addresses_at is_main region) byte) (λ d. exit_at facts (form_named base d) is_main region) (λ d. spelled.kept_addresses d.0 ++ spelled_byte d.1) (λ d. spelled.exit region base) (λ d. AreKept is_main region d.0 × (d.1 < 256)) (λ d. AreExit facts (form_named base d) is_main region)
    (IsFormat-both (kept_addresses_at is_main region) byte _ _ _ _ (IsFormat-kept_addresses is_main region) IsFormat-byte)
    (λ d h. IsFormat-exit facts (form_named base d) is_main region small (room_few is_main region d.0 h.0))

-- a need, ranges and what is named
abbrev Needed : Type 0
Needed = ℕ × (List Range × Named)

abbrev AreNeeded : ℕ → Bool → Region → ℕ → Needed → Type 0
AreNeeded facts is_main region base x = IsNeed Extended is_main region x.0 × (AreRanges Extended is_main region x.1.0 × AreNamed facts base is_main region x.1.1)

abbrev spelled_needed : Region → ℕ → Needed → List ℕ
spelled_needed region base x = simple.word (x.0 / unit Extended) ++ (simple.counted simple.range x.1.0 ++ spelled_named region base x.1.1)

IsFormat-needed : (facts : ℕ) (is_main : Bool) (region : Region) (base : ℕ) → facts < 65536 → IsFormat (needed_at facts is_main region base) (spelled_needed region base) (AreNeeded facts is_main region base)
IsFormat-needed facts is_main region base small = IsFormat-both _ _ _ _ _ _ (IsFormat-need Extended is_main region) (IsFormat-both _ _ _ _ _ _ (IsFormat-ranges Extended is_main region) (IsFormat-named facts base is_main region small))

abbrev Parts : Type 0
Parts = ℕ × (ℕ × Needed)

from_procedure : ProcedureParts → Parts
from_procedure p = (p.entry, (p.base, (p.need, (p.ranges, ((p.kept, p.mark), p.exit)))))

abbrev AreParts : ℕ → Region → ℕ → Bool → Parts → Type 0
AreParts facts region nodes is_main x = ((x.0 < node_numbers (4 == 1)) × (is_below nodes x.0 ≡ true)) × (IsBase Extended is_main region x.1.0 × AreNeeded facts is_main region x.1.0 x.1.1)

abbrev spelled_parts : Region → Parts → List ℕ
spelled_parts region x = simple.node_number 4 x.0 ++ (simple.base Extended x.1.0 ++ spelled_needed region x.1.0 x.1.1)

procedure-is : (facts : ℕ) (region : Region) (nodes : ℕ) (is_main : Bool) (p : ProcedureParts) → AreParts facts region nodes is_main (from_procedure p) → IsProcedureIn facts region nodes is_main p
unfolding from_procedure
procedure-is facts region nodes is_main p h = record {
  entry = lt_is p.entry nodes h.0.1;
  base = h.1.0;
  need = h.1.1.0.few;
  room = h.1.1.0.fit;
  ranges = h.1.1.1.0.chain;
  range_count = h.1.1.1.0.few;
  kept = h.1.1.1.1.0.0;
  mark = h.1.1.1.1.0.1;
  exit = h.1.1.1.1.1.1;
  main = h.1.1.1.1.1.0;
}

whole : (n : ℕ) → is_whole Extended n ≡ true
unfolding unit
whole n = is_same (n % 1) 0 (omega arith)

is-procedure : (facts : ℕ) (region : Region) (nodes : ℕ) (is_main : Bool) (p : ProcedureParts) → nodes ≤ node_limit 4 → IsProcedureIn facts region nodes is_main p → AreParts facts region nodes is_main (from_procedure p)
unfolding from_procedure
is-procedure facts region nodes is_main p few h =
    let entry = h.entry in
    let below : p.entry ≤ node_limit 4 = omega (arith, entry, few) in
    ((number_small 4 p.entry below, is_lt p.entry nodes h.entry), (h.base, (record { few = h.need; whole = whole p.need; fit = h.room }, (record { few = h.range_count; chain = h.ranges }, ((h.kept, h.mark), (h.main, h.exit))))))

pub IsFormat-procedure : (facts : ℕ) (region : Region) (nodes : ℕ) (is_main : Bool) → facts < 65536 → nodes ≤ node_limit 4 → region.last < 65535 → IsFormat (procedure_at facts region nodes is_main) (spelled.procedure region) (IsProcedureIn facts region nodes is_main)
unfolding entry_at procedure_at from_procedure spelled.procedure
IsFormat-procedure facts region nodes is_main small few last =
    IsFormat-as (procedure_at facts region nodes is_main) (spelled.procedure region) (λ p. AreParts facts region nodes is_main (from_procedure p)) (IsProcedureIn facts region nodes is_main) (procedure-is facts region nodes is_main) (λ p h. is-procedure facts region nodes is_main p few h)
    (IsFormat-mapped to_procedure from_procedure _ (spelled_parts region) (AreParts facts region nodes is_main) (λ x h. refl) (λ y h. refl)
    (IsFormat-both _ _ _ _ _ _ (IsFormat-checked fault.Field (is_below nodes) (node_number 4) (simple.node_number 4) (λ a. a < node_numbers (4 == 1)) (IsFormat-node_number 4))
    (IsFormat-followed (base_at Extended is_main region) (needed_at facts is_main region) (simple.base Extended) (spelled_needed region) (IsBase Extended is_main region) (AreNeeded facts is_main region) (IsFormat-base Extended is_main region last) (λ base h. IsFormat-needed facts is_main region base small))))

-- ---- nodes

abbrev IsKey : ℕ → ℕ × ℕ → ℕ × ℕ → Type 0
IsKey procedures before p = ((((p.0 < 65536) × (is_below procedures p.0 ≡ true)) × (nat_le before.0 p.0 ≡ true)) × (p.1 < 65536)) × (is_from before p ≡ true)

abbrev spelled_key : ℕ × ℕ → List ℕ
spelled_key p = simple.word p.0 ++ simple.word p.1

IsFormat-key : (procedures : ℕ) (before : ℕ × ℕ) → IsFormat (key_at procedures before) spelled_key (IsKey procedures before)
unfolding key_at
IsFormat-key procedures before =
    IsFormat-checked fault.Order (is_from before) _ _ _ (IsFormat-both _ word _ _ _ _ (IsFormat-checked fault.Order (nat_le before.0) _ _ _ (IsFormat-checked fault.Field (is_below procedures) word simple.word (λ a. a < 65536) IsFormat-word)) IsFormat-word)

from_node : Node → (ℕ × ℕ) × (ℕ × AbsState)
from_node n = ((n.procedure, n.address), (n.bank, n.state))

abbrev IsBank : ℕ → Type 0
IsBank n = (n < 65536) × (is_between 0 511 n ≡ true)

abbrev AreNode : ℕ → (ℕ → ProcedureForm) → Region → ℕ → ℕ × ℕ → Node → Type 0
AreNode facts form_of region procedures before n = IsKey procedures before (n.procedure, n.address) × (IsBank n.bank × IsStateIn facts (form_of n.procedure) (role_of n.procedure) region n.state)

from_first : (a b : ℕ × ℕ) → is_from a b ≡ true → nat_le a.0 b.0 ≡ true
from_first a b h = grind (arith, nat_tests)

is-node : (facts : ℕ) (form_of : ℕ → ProcedureForm) (region : Region) (procedures : ℕ) (before : ℕ × ℕ) (n : Node) → procedures ≤ 65536 → IsNodeIn facts form_of region procedures before n → AreNode facts form_of region procedures before n
is-node facts form_of region procedures before n few h =
    let below = h.procedure in
    let least = h.bank in
    (((((omega (arith, below, few), is_lt n.procedure procedures h.procedure), from_first before (key n) h.order), h.address), h.order), ((omega (arith, least), is_within 511 n.bank h.bank), h.state))

pub IsFormat-node : (facts : ℕ) (form_of : ℕ → ProcedureForm) (region : Region) (procedures : ℕ) (before : ℕ × ℕ) → facts < 65536 → ((p : ℕ) → (form_of p).kept ≤ 16) → procedures ≤ 65536 → IsFormat (node_at facts form_of region procedures before) (spelled.node region form_of) (IsNodeIn facts form_of region procedures before)
unfolding node_at from_node spelled.node
IsFormat-node facts form_of region procedures before small kept few =
    let state : ℕ → AbsState → List ℕ = λ p. spelled.state region (form_of p).base in
    IsFormat-as (node_at facts form_of region procedures before) (spelled.node region form_of) (AreNode facts form_of region procedures before) (IsNodeIn facts form_of region procedures before)
    (λ n h. record { procedure = lt_is n.procedure procedures h.0.0.0.0.1; order = h.0.1; address = h.0.0.1; bank = within 511 n.bank h.1.0.1; state = h.1.1 })
    (λ n h. is-node facts form_of region procedures before n few h)
    (IsFormat-mapped to_node from_node _ (λ p. spelled_key p.0 ++ (simple.word p.1.0 ++ state p.0.0 p.1.1)) (λ p. IsKey procedures before p.0 × (IsBank p.1.0 × IsStateIn facts (form_of p.0.0) (role_of p.0.0) region p.1.1)) (λ x h. refl) (λ y h. refl)
    (IsFormat-followed (key_at procedures before) (λ k. both (word_between 0 511) (state_at facts (form_of k.0) (role_of k.0) region)) spelled_key (λ k p. simple.word p.0 ++ state k.0 p.1) (IsKey procedures before) (λ k p. IsBank p.0 × IsStateIn facts (form_of k.0) (role_of k.0) region p.1) (IsFormat-key procedures before)
    (λ k h. IsFormat-both (word_between 0 511) (state_at facts (form_of k.0) (role_of k.0) region) _ _ _ _ (IsFormat-word_between 0 511) (IsFormat-state facts (form_of k.0) (role_of k.0) region small (kept k.0)))))
