-- Where in the bytes of a certificate its parts stand.
use Rattle.std.specs.Prelude.{◌≡◌, ℕ, ◌==◌, Bool, true, false, if◌then◌else◌, List, [], ◌∷◌, ◌++◌, drop, map, Result, Ok, Err}
use Rattle.std.specs.List.{flat_map}
use Rattle.gb_ops.specs.declared.machine.Region.{Region}
use Rattle.gb_domain.specs.declared.summary.Fact.{Fact}
use Rattle.gb_domain.specs.Types.{ProcedureParts}
use Rattle.gb_domain.specs.Certificate.{Certificate}
use Rattle.gb_states.specs.Below.gb_fields.declared.fault.CertFault.{CertFault}
use Rattle.gb_states.specs.Below.gb_fields.declared.fault.CertFault.TheVariants as fault
use Rattle.gb_states.specs.declared.form.ProcedureForm.{ProcedureForm}
use Rattle.gb_states.specs.WholeRules.{procedure_form, procedure_forms, no_form, form_in}
use Rattle.gb_states.specs.WholeReading.{read_certificate}
use Rattle.gb_states.specs.WholeSpelling as spelled
use Rattle.gb_states.specs.WholeSpelling.{Spells}

-- The second is what is left of the first behind some bytes.
pub record IsLeft (bytes rest : List ℕ) : Type 0 where
  pub front : List ℕ
  pub parts : bytes ≡ front ++ rest

-- At each place in the bytes an item begins; the items stand one behind the other, and the rest behind the last.
abbrev pub AreAt : {X : Type 0} → (X → List ℕ) → List ℕ → List ℕ → List ℕ → List X → Type 0
AreAt write bytes rest [] [] = Unit {0}
AreAt write bytes rest (p ∷ ps) (x ∷ xs) = (drop p bytes ≡ flat_map write (x ∷ xs) ++ rest) × AreAt write bytes rest ps xs
AreAt write bytes rest ps xs = ⊥

-- An item begins at the place.
pub record StandsAt {X : Type 0} (write : X → List ℕ) (bytes : List ℕ) (place : ℕ) (x : X) : Type 0 where
  pub tail : List ℕ
  pub parts : drop place bytes ≡ write x ++ tail

-- What reading gives are items at these places, and the rest behind them.
pub record ArePlaced {X : Type 0} (write : X → List ℕ) (bytes : List ℕ) (read : Result (List X × List ℕ) CertFault) (places rest : List ℕ) : Type 0 where
  pub items : List X
  pub is_read : read ≡ Ok (items, rest)
  pub are_at : AreAt write bytes rest places items
  pub is_left : IsLeft bytes rest

-- What a function found is right, and its fault is the one that reading meets, unless memory ran out.
abbrev pub FindsUnlessMemory : {X Y : Type 0} → (X → Type 0) → Result X CertFault → Result Y CertFault → Type 0
FindsUnlessMemory right (Ok x) read = right x
FindsUnlessMemory right (Err e) read = (e ≡ fault.Memory → ⊥) → read ≡ Err e

-- what of a procedure the spelling of its states depends on: versions 1 to 3 ask for nothing
abbrev pub form_if : Bool → ProcedureParts → ProcedureForm
form_if true p = procedure_form p
form_if false p = no_form

abbrev pub forms_if : Bool → List ProcedureParts → List ProcedureForm
forms_if fourth procedures = map (form_if fourth) procedures

-- What reading gives are procedures at these places, of these forms.
pub record AreFormed (fourth : Bool) (write : ProcedureParts → List ℕ) (bytes : List ℕ) (read : Result (List ProcedureParts × List ℕ) CertFault) (places : List ℕ) (forms : List ProcedureForm) (rest : List ℕ) : Type 0 where
  pub placed : ArePlaced write bytes read places rest
  pub forms_are : forms ≡ forms_if fourth placed.items

-- ---- certificates

-- a value, where there is one
abbrev pub ok_or : {X : Type 0} → X → Result X CertFault → X
ok_or default (Ok x) = x
ok_or default (Err e) = default

-- nothing
abbrev pub no_certificate : Certificate
no_certificate = record { version = 0; procedures = []; nodes = []; region = record { first = 0; last = 0 }; facts = [] }

-- the certificate that the bytes spell, where they spell one
abbrev pub certificate_in : List ℕ → Certificate
certificate_in bytes = ok_or no_certificate (read_certificate bytes)

-- The bytes spell a certificate of this version and region, which says these facts; its procedures and nodes are at these places, and the
-- procedures have these forms.
pub record IsLaid (bytes : List ℕ) (version : ℕ) (region : Region) (facts : List Fact) (forms : List ProcedureForm) (procedures nodes : List ℕ) (c : Certificate) : Type 0 where
  pub spells : Spells bytes c
  pub version_is : version ≡ c.version
  pub region_is : region ≡ c.region
  pub facts_are : facts ≡ c.facts
  pub forms_are : forms ≡ forms_if (c.version == 4) c.procedures
  pub procedures_at : AreAt (spelled.procedure_by (c.version == 4) c.version c.region) bytes (spelled.nodes c.version c.region c.procedures c.nodes) procedures c.procedures
  pub nodes_at : AreAt (spelled.node_by (c.version == 4) c.version c.region (form_in (procedure_forms c.procedures))) bytes [] nodes c.nodes

-- Reading gives this certificate, and its parts were found.
pub record IsFound (bytes : List ℕ) (version : ℕ) (region : Region) (facts : List Fact) (forms : List ProcedureForm) (procedures nodes : List ℕ) : Type 0 where
  pub is_read : read_certificate bytes ≡ Ok (certificate_in bytes)
  pub is_laid : IsLaid bytes version region facts forms procedures nodes (certificate_in bytes)

-- a version whose numbers of nodes have four bytes, by the same rules: 2 in place of 1
unfoldable pub upgraded_version : ℕ → ℕ
upgraded_version version = if version == 1 then 2 else version
