-- What contracts see of bytes that a certificate lends.
use Rattle.std.specs.Prelude.{◌≡◌, ℕ, ◌*◌, ◌<◌, ◌≤◌, Bool, true, false, not, ◌==◌, List, [], ◌++◌, length, Option, None, Result, Ok, Err}
use Rattle.gb_ops.specs.declared.machine.Region.{Region}
use Rattle.gb_states.specs.Below.gb_fields.declared.fault.CertFault.{CertFault}
use Rattle.gb_domain.specs.declared.types.Core.{Core}
use Rattle.gb_domain.specs.declared.types.Range.{Range}
use Rattle.gb_domain.specs.declared.relations.Relations.{Relations}
use Rattle.gb_domain.specs.declared.rules.Rules.{Rules}
use Rattle.gb_domain.specs.Limits.{rules_of}
use Rattle.gb_domain.specs.Summaries.{SummaryParts, no_summary}
use Rattle.gb_domain.specs.Types.{AbsState, ProcedureParts, all_or_none, any_val, state_of}
use Rattle.gb_states.specs.declared.form.Form.{Form}
use Rattle.gb_states.specs.declared.form.Form.TheVariants.{Older, Fourth}
use Rattle.gb_states.specs.declared.role.Role.{Role}
use Rattle.gb_states.specs.declared.role.Role.TheVariants as role
use Rattle.gb_states.specs.Below.gb_fields.Format.{Read, followed, both, mapped, optional, byte}
use Rattle.gb_states.specs.Below.gb_fields.Limits.{unit}
use Rattle.gb_states.specs.Below.gb_fields.Reading.{base_at, need_at, returns_at, nothing}
use Rattle.gb_states.specs.Numbers.{flag}
use Rattle.gb_states.specs.RelationReading.{relations_by}
use Rattle.gb_states.specs.Reading.{ranges_at}
use Rattle.gb_states.specs.WholeRules.{may_be_aside, stack_bytes}
use Rattle.gb_states.specs.WholeReading.{told_at, kept_addresses_at, to_procedure}
use Rattle.gb_states.specs.Forms.{form_by, IsFit, IsStateBy, spelled_by, state_by}

-- what a reader reads, where it reads something
abbrev pub read_or : {X : Type 0} → X → Result (X × List ℕ) CertFault → X
read_or default (Ok p) = p.0
read_or default (Err e) = default

-- any state; it stands where there is none
abbrev pub any_core : Core
any_core = record {
  ime = record { off = true; pending = true; on = true };
  bound = 161;
  stack_set = false;
  ctl = record { bank_lo = 0; bank_hi = 511; second_lo = 0; second_hi = 255; gate = record { clear = true; set = true }; mode = record { clear = true; set = true }; kept = all_or_none false };
  flags = record { zero = record { clear = true; set = true }; subtract = record { clear = true; set = true }; half_carry = record { clear = true; set = true }; carry = record { clear = true; set = true }; is_own = false };
  ie = any_val;
  registers = record { a = any_val; b = any_val; c = any_val; d = any_val; e = any_val; h = any_val; l = any_val };
}

-- ---- states

-- the state at the front of the bytes
abbrev pub state_in : Form → Role → Region → List ℕ → AbsState
state_in form role region bytes = read_or (state_of any_core) (state_by form role region bytes)

-- A state stands at the front of the bytes.
pub record StateStands (form : Form) (role : Role) (region : Region) (bytes : List ℕ) (s : AbsState) : Type 0 where
  pub tail : List ℕ
  pub fit : IsFit form
  pub parts : bytes ≡ spelled_by form region s ++ tail
  pub is_state : IsStateBy form role region s
  pub is_read : state_by form role region bytes ≡ Ok (s, tail)

-- how many bytes spell one of what items are counted in
abbrev pub item_width : Form → ℕ
item_width (Older rules) = 3 * unit rules
item_width (Fourth facts form) = 3

-- what is kept of the controller, where it is all or nothing, as versions 1 to 3 spell it
abbrev pub older_kept : ℕ → ℕ
older_kept n = flag (not (n == 0))

-- what is known of several parts together and said of the whole program, behind so many items; the core is known
abbrev pub told_by : Form → Role → Region → ℕ → Core → Option ℕ → Read (Relations × SummaryParts)
told_by (Older rules) role region count core test = mapped (λ r. (r, no_summary)) (relations_by rules region test)
told_by (Fourth facts form) role region count core test = told_at facts (stack_bytes form role region count) (may_be_aside role core) test

-- ---- procedures

-- in what state it returns, if it does
unfoldable pub exit_by : Form → Bool → Region → Read (Option AbsState)
exit_by form is_main region = mapped (λ p. p.1) (followed (returns_at is_main) (λ returns. optional returns (state_by form role.Exit region)))

-- the same, by the front of the bytes
abbrev pub exit_in : Form → Bool → Region → List ℕ → Option AbsState
exit_in form is_main region bytes = read_or None (exit_by form is_main region bytes)

-- a base, a need and ranges
abbrev pub front_at : Rules → Bool → Region → Read (ℕ × (ℕ × List Range))
front_at rules is_main region = both (base_at rules is_main region) (both (need_at rules is_main region) (ranges_at rules is_main region))

-- the addresses to be kept and the mark, which versions 1 to 3 have no field for
abbrev pub names_by : Bool → Bool → Region → Read (List ℕ × ℕ)
names_by true is_main region = both (kept_addresses_at is_main region) byte
names_by false is_main region = nothing ([], 0)

-- these, and an exit
abbrev pub Named : Type 0
Named = (List ℕ × ℕ) × Option AbsState

-- how the state of an exit is spelled, of a procedure that has this base and these names
abbrev pub exit_form : Bool → ℕ → ℕ → ℕ → List ℕ × ℕ → Form
exit_form fourth version facts base d = form_by fourth version facts (record { kept = length d.0; base = base })

-- An exit's state may name the addresses that are to be kept; the base is known.
abbrev pub named_by : Bool → ℕ → ℕ → Bool → Region → ℕ → Read Named
named_by fourth version facts is_main region base = followed (names_by fourth is_main region) (λ d. exit_by (exit_form fourth version facts base d) is_main region)

-- a need, ranges, names and an exit
abbrev pub needed_by : Bool → ℕ → ℕ → Bool → Region → ℕ → Read (ℕ × (List Range × Named))
needed_by fourth version facts is_main region base = both (need_at (rules_of version) is_main region) (both (ranges_at (rules_of version) is_main region) (named_by fourth version facts is_main region base))

-- all of a procedure but its entry
abbrev pub Body : Type 0
Body = ℕ × (ℕ × (List Range × Named))

abbrev pub body_by : Bool → ℕ → ℕ → Bool → Region → Read Body
body_by fourth version facts is_main region = followed (base_at (rules_of version) is_main region) (needed_by fourth version facts is_main region)

-- it stands where there is no procedure
abbrev pub any_body : Body
any_body = (0, (0, ([], (([], 0), None))))

-- the procedure with this entry, of a certificate of so many facts, the other parts of which are at the front of the bytes
abbrev pub procedure_in : Bool → ℕ → ℕ → Bool → ℕ → Region → List ℕ → ProcedureParts
procedure_in fourth version facts is_main entry region bytes = to_procedure (entry, read_or any_body (body_by fourth version facts is_main region bytes))

abbrev pub body_of : ProcedureParts → Body
body_of p = (p.base, (p.need, (p.ranges, ((p.kept, p.mark), p.exit))))

-- All of a procedure but its entry stands at the front of the bytes.
pub record BodyStands (fourth : Bool) (version facts : ℕ) (is_main : Bool) (region : Region) (bytes : List ℕ) (p : ProcedureParts) : Type 0 where
  pub tail : List ℕ
  pub facts_few : facts < 65536
  pub kept_few : length p.kept ≤ 16
  pub last : region.last < 65535
  pub is_read : body_by fourth version facts is_main region bytes ≡ Ok (body_of p, tail)
