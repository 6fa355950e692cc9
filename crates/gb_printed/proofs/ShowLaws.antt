-- A certificate's lines, one after another.
use Rattle.std.proofs.Common.{◌≡◌, ℕ, ◌+◌, ◌<◌, ◌≤◌, List, [], ◌++◌, length, drop, slice_get, decimal, Option, Some, Ok, Err, inl, inr, refl, sym, ◌∙◌, ap, subst, arith}
use Rattle.std.proofs.lemmas.Fmt.{length-decimal-le}
use Rattle.std.proofs.lemmas.List.{drop_more, drop_all}
use Rattle.std.proofs.lemmas.Option.{slice_get_within, get_or_from_slice_get}
use Rattle.gb_watch.specs.Below.gb_console.Below.gb_fields.declared.fault.CertFault.{CertFault}
use Rattle.gb_watch.specs.Below.gb_console.Below.gb_fields.declared.fault.CertFault.TheVariants as fault
use Rattle.gb_watch.specs.Below.gb_console.Below.gb_domain.declared.rules.Rules.{Rules}
use Rattle.gb_watch.specs.Below.gb_console.Below.gb_domain.Types.{ProcedureParts, Node}
use Rattle.gb_watch.specs.Below.gb_console.Below.gb_domain.Certificate.{Certificate}
use Rattle.gb_watch.specs.Below.gb_console.Below.gb_states.WholeReading.{read_certificate}
use Rattle.gb_text.specs.Sink.{Gains}
use Rattle.gb_text.specs.Text.{GainsBeginning}
use Rattle.gb_text.proofs.Remaining.{Remains, remains_less, remains_cut, remains_none}
use Rattle.gb_watch.specs.Below.gb_verify.Text.{certificate_text}
use Rattle.gb_watch.specs.Below.gb_verify.CertificateFile.{text_of, HasBeginning}
use Rattle.gb_watch.proofs.Below.gb_verify_laws.FileLaws.{text_of-fault, memory_or_other, certificate_written, certificate_begins}
use Rattle.gb_printed.specs.Show.{procedure_lines, node_text, numbered, show_text}
use Rattle.gb_printed.specs.Commands.{written_lines}

pub short_decimal : (n : ℕ) → n < 65536 → length (decimal n) ≤ 5
short_decimal n h = length-decimal-le 5 n (omega arith) (omega arith) (omega arith)

-- ---- lines with numbers

numbered_left : {X : Type 0} (text : ℕ → X → List ℕ) (xs : List X) (i : ℕ) (x : X) → slice_get xs i ≡ Some x
    → numbered text i (drop i xs) ≡ text i x ++ numbered text (i + 1) (drop (i + 1) xs)
unfolding numbered
numbered_left text xs i x h =
    ap (numbered text i) (drop_more xs i x (slice_get_within xs i x h))
    ∙ ap (λ y. text i y ++ numbered text (i + 1) (drop (i + 1) xs)) (get_or_from_slice_get xs i x x h)

line_taken : {X : Type 0} (text : ℕ → X → List ℕ) (old mid new : Option (List ℕ)) (all : List ℕ) (xs : List X) (i : ℕ) (x : X) → slice_get xs i ≡ Some x
    → Remains old all mid (numbered text i (drop i xs)) → Gains mid (text i x) new → Remains old all new (numbered text (i + 1) (drop (i + 1) xs))
line_taken text old mid new all xs i x h r g = remains_less old mid new all _ _ (subst (λ t. Remains old all mid t) (numbered_left text xs i x h) r) g

pub line_cut : {X : Type 0} (text : ℕ → X → List ℕ) (old mid new : Option (List ℕ)) (all : List ℕ) (xs : List X) (i : ℕ) (x : X) → slice_get xs i ≡ Some x
    → Remains old all mid (numbered text i (drop i xs)) → GainsBeginning mid (text i x) new → GainsBeginning old all new
line_cut text old mid new all xs i x h r g = remains_cut old mid new all _ _ (subst (λ t. Remains old all mid t) (numbered_left text xs i x h) r) g

none_left : {X : Type 0} (text : ℕ → X → List ℕ) (xs : List X) (i : ℕ) → length xs ≤ i → numbered text i (drop i xs) ≡ []
unfolding numbered
none_left text xs i h = ap (numbered text i) (drop_all i xs h)

pub lines_taken : {X : Type 0} (text : ℕ → X → List ℕ) (old new : Option (List ℕ)) (all : List ℕ) (xs : List X) (i : ℕ) → length xs ≤ i
    → Remains old all new (numbered text i (drop i xs)) → Gains old all new
lines_taken text old new all xs i h r = remains_none old new all (subst (λ t. Remains old all new t) (none_left text xs i h) r)

pub procedure_taken : (rules : Rules) (old mid new : Option (List ℕ)) (all : List ℕ) (ps : List ProcedureParts) (i : ℕ) (p : ProcedureParts) → slice_get ps i ≡ Some p
    → Remains old all mid (numbered (procedure_lines rules) i (drop i ps)) → Gains mid (procedure_lines rules i p) new → Remains old all new (numbered (procedure_lines rules) (i + 1) (drop (i + 1) ps))
procedure_taken rules old mid new all ps i p h r g = line_taken (procedure_lines rules) old mid new all ps i p h r g

pub node_taken : (old mid new : Option (List ℕ)) (all : List ℕ) (ns : List Node) (i : ℕ) (n : Node) → slice_get ns i ≡ Some n
    → Remains old all mid (numbered node_text i (drop i ns)) → Gains mid (node_text i n) new → Remains old all new (numbered node_text (i + 1) (drop (i + 1) ns))
node_taken old mid new all ns i n h r g = line_taken node_text old mid new all ns i n h r g

-- ---- the lines of a file

pub show_written : (old new : Option (List ℕ)) (bytes : List ℕ) (c : Certificate) → read_certificate bytes ≡ Ok c → Gains old (show_text c) new → Gains old (text_of show_text bytes) new
show_written old new bytes c h g = certificate_written show_text old new bytes c h g

pub show_begins : (old new : Option (List ℕ)) (bytes : List ℕ) (c : Certificate) → read_certificate bytes ≡ Ok c → GainsBeginning old (show_text c) new
    → HasBeginning show_text old bytes new
show_begins old new bytes c h g = certificate_begins show_text old new bytes c h g

other_written : (bytes : List ℕ) (f : CertFault) → (f ≡ fault.Memory → ⊥) → written_lines (Some f) bytes ≡ text_of show_text bytes
other_written bytes fault.Memory other = absurd (other refl)
other_written bytes _ other = refl

pub fault_written : (bytes : List ℕ) (f : CertFault) → ((f ≡ fault.Memory → ⊥) → read_certificate bytes ≡ Err f) → certificate_text f ≡ written_lines (Some f) bytes
fault_written bytes f h = elim (memory_or_other f) [
  | inl memory ↦ subst (λ e. certificate_text e ≡ written_lines (Some e) bytes) (sym memory) refl
  | inr other ↦ text_of-fault show_text bytes f (h other) ∙ sym (other_written bytes f other)
]
