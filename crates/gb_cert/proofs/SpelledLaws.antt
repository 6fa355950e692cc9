-- Each version's spelling, part by part, is that of certificates of any version.
use Rattle.std.proofs.Common.{◌≡◌, ℕ, ◌/◌, Bool, true, false, List, ◌∷◌, length, Option, Some, None, refl, ap, arith}
use Rattle.gb_ops.specs.declared.machine.Region.{Region}
use Rattle.gb_states.specs.declared.form.ProcedureForm.{ProcedureForm}
use Rattle.gb_domain.specs.Limits.{rules_of}
use Rattle.gb_domain.specs.declared.rules.Rules.TheVariants.{Extended}
use Rattle.gb_domain.specs.Types.{AbsState, ProcedureParts, Node}
use Rattle.gb_states.specs.Below.gb_fields.Limits.{unit}
use Rattle.gb_states.specs.Spelling as older
use Rattle.gb_states.specs.WholeSpelling as whole
use Rattle.gb_cert.specs.declared.writer.Version.{Version}
use Rattle.gb_cert.specs.declared.writer.Version.TheVariants as version
use Rattle.gb_cert.specs.Spelled as by_version
use Rattle.gb_cert.specs.Written.{number_of, is_fourth}

abbrev state_by : Bool → ℕ → Region → ℕ → AbsState → List ℕ
state_by true n region base s = whole.state region base s
state_by false n region base s = older.state (rules_of n) s

-- as many units of a byte as bytes
bytes-single : (n : ℕ) → n / unit Extended ≡ n
unfolding unit
bytes-single n = omega arith

state-is : (v : Version) (region : Region) (base : ℕ) (s : AbsState) → by_version.state v region base s ≡ state_by (is_fourth v) (number_of v) region base s
unfolding by_version.state by_version.core by_version.ctl by_version.vals by_version.val by_version.cell whole.state whole.core whole.ctl whole.vals whole.val whole.cell older.state older.core older.ctl older.vals older.val older.cell
state-is version.One region base s = refl
state-is version.Two region base s = refl
state-is version.Three region base s = refl
state-is version.Four region base s = rw (bytes-single (length s.items)) refl

abbrev exit_by : Bool → ℕ → Region → ℕ → Option AbsState → List ℕ
exit_by true n region base o = whole.exit region base o
exit_by false n region base o = older.exit (rules_of n) o

exit-is : (v : Version) (region : Region) (base : ℕ) (o : Option AbsState) → by_version.exit v region base o ≡ exit_by (is_fourth v) (number_of v) region base o
unfolding by_version.exit whole.exit older.exit
exit-is version.One region base None = refl
exit-is version.Two region base None = refl
exit-is version.Three region base None = refl
exit-is version.Four region base None = refl
exit-is version.One region base (Some s) = ap (λ t. 1 ∷ t) (state-is version.One region base s)
exit-is version.Two region base (Some s) = ap (λ t. 1 ∷ t) (state-is version.Two region base s)
exit-is version.Three region base (Some s) = ap (λ t. 1 ∷ t) (state-is version.Three region base s)
exit-is version.Four region base (Some s) = ap (λ t. 1 ∷ t) (state-is version.Four region base s)

pub procedure-is : (v : Version) (region : Region) (p : ProcedureParts) → by_version.procedure v region p ≡ whole.procedure_by (is_fourth v) (number_of v) region p
unfolding by_version.procedure by_version.body whole.procedure older.procedure older.body
procedure-is version.One region p = rw (exit-is version.One region p.base p.exit) refl
procedure-is version.Two region p = rw (exit-is version.Two region p.base p.exit) refl
procedure-is version.Three region p = rw (exit-is version.Three region p.base p.exit) refl
procedure-is version.Four region p = rw (exit-is version.Four region p.base p.exit) refl

pub node-is : (v : Version) (region : Region) (form_of : ℕ → ProcedureForm) (n : Node) → by_version.node v region form_of n ≡ whole.node_by (is_fourth v) (number_of v) region form_of n
unfolding by_version.node whole.node older.node
node-is version.One region form_of n = rw (state-is version.One region (form_of n.procedure).base n.state) refl
node-is version.Two region form_of n = rw (state-is version.Two region (form_of n.procedure).base n.state) refl
node-is version.Three region form_of n = rw (state-is version.Three region (form_of n.procedure).base n.state) refl
node-is version.Four region form_of n = rw (state-is version.Four region (form_of n.procedure).base n.state) refl
