-- Where the blocks of a certificate stand in its bytes: each behind what is before it, which can be read. A relation here
-- is one of a part, a block of it, and the bytes from that block on.
use Rattle.std.specs.Prelude.{◌≡◌, ℕ, ◌+◌, ◌<◌, ◌==◌, Bool, true, false, List, length, Option, Ok, slice_index_or}
use Rattle.gb_ops.specs.declared.machine.Region.{Region}
use Rattle.gb_domain.specs.declared.places.StackBytes.{StackBytes}
use Rattle.gb_domain.specs.declared.rules.Rules.{Rules}
use Rattle.gb_domain.specs.declared.rules.Rules.TheVariants.{Extended}
use Rattle.gb_domain.specs.declared.summary.Fact.{Fact}
use Rattle.gb_domain.specs.Limits.{rules_of, cell_room}
use Rattle.gb_domain.specs.Rules.{after_cell}
use Rattle.gb_domain.specs.Types.{ProcedureParts}
use Rattle.gb_fields.specs.declared.head.Head.{Head}
use Rattle.gb_fields.specs.Limits.{range_room, unit, fact_limit, kept_room}
use Rattle.gb_fields.specs.Rules.{any_rules_of}
use Rattle.gb_fields.specs.Format.{Read, mapped, byte}
use Rattle.gb_fields.specs.Reading.{any_head_at, entry_at, base_at, times, need_at, count_within, word_count_within, returns_at, word_between}
use Rattle.gb_states.specs.declared.form.ProcedureForm.{ProcedureForm}
use Rattle.gb_states.specs.declared.form.Form.{Form}
use Rattle.gb_states.specs.declared.form.Form.TheVariants.{Older, Fourth}
use Rattle.gb_states.specs.declared.role.Role.{Role}
use Rattle.gb_states.specs.declared.role.Role.TheVariants as role
use Rattle.gb_states.specs.Forms.{form_by, val_by, cell_by}
use Rattle.gb_states.specs.Rules.{after_range, role_of, is_after, key}
use Rattle.gb_states.specs.Reading.{Tested, range_at, ranges_at, item_count_at}
use Rattle.gb_states.specs.WholeRules.{after_address, may_be_aside, form_in}
use Rattle.gb_states.specs.WholeReading.{fact_at, facts_by, free_address_at, kept_addresses_at, procedure_by, procedures_at, key_by, node_by}
use Rattle.gb_cert.specs.Places.{forms_if}
use Rattle.gb_cert.specs.Skipping.{skipped, count_items}
use Rattle.gb_cert_place.specs.declared.block.Part.{Part}
use Rattle.gb_cert_place.specs.declared.block.Part.TheVariants as part
use Rattle.gb_cert_place.specs.declared.block.Block.{Block}
use Rattle.gb_cert_place.specs.declared.block.Block.TheVariants as block
use Rattle.gb_cert_place.specs.Forms.{rules_in, core_by, items_by, told_by, stack_by, base_if}

-- So many elements of a list can be read. They leave these bytes, and this to the reading of the next element.
pub data Passed {S X : Type 0} (step : S → Read X) (next : X → S) (first : S) (bytes : List ℕ) : ℕ → S → List ℕ → Type 0 where
  NonePassed : Passed step next first bytes 0 first bytes
  OneMorePassed : {i : ℕ} {s t : S} {rest after : List ℕ} → Passed step next first bytes i s rest → mapped next (step s) rest ≡ Ok (t, after) → Passed step next first bytes (i + 1) t after

-- a relation of the blocks of one part
abbrev pub Of : Part → (Block → List ℕ → Type 0) → Part → Block → List ℕ → Type 0
Of p at q b rest = (q ≡ p) × at b rest

-- ---- states

pub data AmongItems (form : Form) (count : ℕ) (bytes : List ℕ) : Block → List ℕ → Type 0 where
  AtItem : {i : ℕ} {s : Unit {0}} {rest : List ℕ} → i < count → Passed (λ (s : Unit {0}). val_by form) (λ v. tt) tt bytes i s rest → AmongItems form count bytes (block.Item form i) rest

pub data InItems (form : Form) (role : Role) (stack_set : Bool) (bytes : List ℕ) : Block → List ℕ → Type 0 where
  AtItemCount : InItems form role stack_set bytes (block.ItemCount (rules_in form) role stack_set) bytes
  BehindItemCount : {count : ℕ} {first rest : List ℕ} {b : Block} → item_count_at (rules_in form) role stack_set bytes ≡ Ok (count, first) → AmongItems form (times (unit (rules_in form)) count) first b rest → InItems form role stack_set bytes b rest

-- what is known of several parts together stands in states of versions 3 and 4 alone, in version 4 with what is said of the whole program
pub data InTold (form : Form) (k : StackBytes) (may_be_aside : Bool) (test : Option ℕ) (bytes : List ℕ) : Block → List ℕ → Type 0 where
  AtTold : form ≡ Older Extended → InTold form k may_be_aside test bytes (block.Told k.region test) bytes
  AtToldWhole : {facts : ℕ} {of : ProcedureForm} → form ≡ Fourth facts of → InTold form k may_be_aside test bytes (block.ToldWhole facts k may_be_aside test) bytes

pub data AmongCells (form : Form) (region : Region) (count : ℕ) (bytes : List ℕ) : Block → List ℕ → Type 0 where
  AtCell : {i least : ℕ} {rest : List ℕ} → i < count → Passed (cell_by form region) after_cell 0 bytes i least rest → AmongCells form region count bytes (block.Cell form i region least) rest

pub data InCells (form : Form) (region : Region) (bytes : List ℕ) : Block → List ℕ → Type 0 where
  AtCellCount : InCells form region bytes (block.CellCount (rules_in form)) bytes
  BehindCellCount : {count : ℕ} {first rest : List ℕ} {b : Block} → count_within (cell_room (rules_in form)) bytes ≡ Ok (count, first) → AmongCells form region count first b rest → InCells form region bytes b rest

-- what is known and said, and cells
pub data InLists (form : Form) (k : StackBytes) (may_be_aside : Bool) (test : Option ℕ) (bytes : List ℕ) : Block → List ℕ → Type 0 where
  FirstTold : {rest : List ℕ} {b : Block} → InTold form k may_be_aside test bytes b rest → InLists form k may_be_aside test bytes b rest
  BehindTold : {first rest : List ℕ} {b : Block} → skipped (told_by form k may_be_aside test) bytes ≡ Ok first → InCells form k.region first b rest → InLists form k may_be_aside test bytes b rest

pub data InState (form : Form) (role : Role) (region : Region) (bytes : List ℕ) : Block → List ℕ → Type 0 where
  AtCore : InState form role region bytes (block.Core form role) bytes
  BehindCore : {core : Tested} {first rest : List ℕ} {b : Block} → core_by form role bytes ≡ Ok (core, first) → InItems form role core.0.stack_set first b rest → InState form role region bytes b rest
  BehindItems : {core : Tested} {count : ℕ} {first second rest : List ℕ} {b : Block} → core_by form role bytes ≡ Ok (core, first) → mapped count_items (items_by form role core.0.stack_set) first ≡ Ok (count, second)
      → InLists form (stack_by form role region count) (may_be_aside role core.0) core.1 second b rest
      → InState form role region bytes b rest

-- ---- procedures

pub data AmongRanges (region : Region) (count : ℕ) (bytes : List ℕ) : Block → List ℕ → Type 0 where
  AtRange : {i least : ℕ} {rest : List ℕ} → i < count → Passed (range_at region) after_range 0 bytes i least rest → AmongRanges region count bytes (block.Range i region least) rest

pub data InRanges (rules : Rules) (is_main : Bool) (region : Region) (bytes : List ℕ) : Block → List ℕ → Type 0 where
  AtRangeCount : InRanges rules is_main region bytes (block.RangeCount rules is_main) bytes
  BehindRangeCount : {count : ℕ} {first rest : List ℕ} {b : Block} → count_within (range_room rules is_main) bytes ≡ Ok (count, first) → AmongRanges region count first b rest → InRanges rules is_main region bytes b rest

-- addresses to be kept
pub data AmongKept (region : Region) (count : ℕ) (bytes : List ℕ) : Block → List ℕ → Type 0 where
  AtKept : {i least : ℕ} {rest : List ℕ} → i < count → Passed (free_address_at region) after_address 0 bytes i least rest → AmongKept region count bytes (block.KeptAddress i region least) rest

pub data InKept (is_main : Bool) (region : Region) (bytes : List ℕ) : Block → List ℕ → Type 0 where
  AtKeptCount : InKept is_main region bytes (block.KeptCount is_main) bytes
  BehindKeptCount : {count : ℕ} {first rest : List ℕ} {b : Block} → count_within (kept_room is_main) bytes ≡ Ok (count, first) → AmongKept region count first b rest → InKept is_main region bytes b rest

-- whether the procedure with this number returns, and its exit
pub data InExit (number : ℕ) (form : Form) (is_main : Bool) (region : Region) (bytes : List ℕ) : Part → Block → List ℕ → Type 0 where
  AtReturns : InExit number form is_main region bytes (part.Procedure number) (block.Returns is_main) bytes
  BehindReturns : {first rest : List ℕ} {b : Block} → returns_at is_main bytes ≡ Ok (true, first) → InState form role.Exit region first b rest → InExit number form is_main region bytes (part.Exit number) b rest

-- in version 4 the addresses that it names to be kept, its mark, and its exit, in whose state they are named
pub data InNamed (number facts base : ℕ) (is_main : Bool) (region : Region) (bytes : List ℕ) : Part → Block → List ℕ → Type 0 where
  FirstKept : {rest : List ℕ} {b : Block} → InKept is_main region bytes b rest → InNamed number facts base is_main region bytes (part.Procedure number) b rest
  AtMark : {kept rest : List ℕ} → kept_addresses_at is_main region bytes ≡ Ok (kept, rest) → InNamed number facts base is_main region bytes (part.Procedure number) block.Mark rest
  BehindMark : {kept : List ℕ} {mark : ℕ} {first second rest : List ℕ} {p : Part} {b : Block} → kept_addresses_at is_main region bytes ≡ Ok (kept, first) → byte first ≡ Ok (mark, second)
      → InExit number (Fourth facts (record { kept = length kept; base = base })) is_main region second p b rest → InNamed number facts base is_main region bytes p b rest

-- what is behind its ranges
pub data InEnding (number version facts base : ℕ) (is_main : Bool) (region : Region) (bytes : List ℕ) : Part → Block → List ℕ → Type 0 where
  EndsNamed : {rest : List ℕ} {p : Part} {b : Block} → (version == 4) ≡ true → InNamed number facts base is_main region bytes p b rest → InEnding number version facts base is_main region bytes p b rest
  EndsOlder : {rest : List ℕ} {p : Part} {b : Block} → (version == 4) ≡ false → InExit number (Older (rules_of version)) is_main region bytes p b rest → InEnding number version facts base is_main region bytes p b rest

-- its need, its ranges and what is behind them
pub data InNeeded (number version facts base : ℕ) (is_main : Bool) (region : Region) (bytes : List ℕ) : Part → Block → List ℕ → Type 0 where
  AtNeed : InNeeded number version facts base is_main region bytes (part.Procedure number) (block.Need (any_rules_of version) is_main region) bytes
  BehindNeed : {need : ℕ} {first rest : List ℕ} {b : Block} → need_at (any_rules_of version) is_main region bytes ≡ Ok (need, first) → InRanges (any_rules_of version) is_main region first b rest
      → InNeeded number version facts base is_main region bytes (part.Procedure number) b rest
  BehindRanges : {need : ℕ} {first second rest : List ℕ} {p : Part} {b : Block} → need_at (any_rules_of version) is_main region bytes ≡ Ok (need, first) → skipped (ranges_at (any_rules_of version) is_main region) first ≡ Ok second
      → InEnding number version facts base is_main region second p b rest → InNeeded number version facts base is_main region bytes p b rest

-- its base stands in versions 3 and 4 alone
pub data InBase (rules : Rules) (is_main : Bool) (region : Region) (bytes : List ℕ) : Block → List ℕ → Type 0 where
  AtBase : rules ≡ Extended → InBase rules is_main region bytes (block.Base is_main region) bytes

-- all of it but its entry
pub data InBody (number version facts : ℕ) (is_main : Bool) (region : Region) (bytes : List ℕ) : Part → Block → List ℕ → Type 0 where
  FirstBase : {rest : List ℕ} {b : Block} → InBase (any_rules_of version) is_main region bytes b rest → InBody number version facts is_main region bytes (part.Procedure number) b rest
  BehindBase : {base : ℕ} {first rest : List ℕ} {p : Part} {b : Block} → base_at (any_rules_of version) is_main region bytes ≡ Ok (base, first) → InNeeded number version facts (base_if (version == 4) base) is_main region first p b rest → InBody number version facts is_main region bytes p b rest

-- in a certificate with this head, and so many facts
pub data InProcedure (number : ℕ) (h : Head) (facts : ℕ) (is_main : Bool) (bytes : List ℕ) : Part → Block → List ℕ → Type 0 where
  AtEntry : InProcedure number h facts is_main bytes (part.Procedure number) (block.Entry h.version h.nodes) bytes
  BehindEntry : {entry : ℕ} {first rest : List ℕ} {p : Part} {b : Block} → entry_at h.version h.nodes bytes ≡ Ok (entry, first) → InBody number h.version facts is_main h.region first p b rest → InProcedure number h facts is_main bytes p b rest

pub data InProcedures (h : Head) (facts : ℕ) (bytes : List ℕ) : Part → Block → List ℕ → Type 0 where
  AtProcedure : {i : ℕ} {is_main : Bool} {first rest : List ℕ} {p : Part} {b : Block} → i < h.procedures → Passed (procedure_by (h.version == 4) h.version facts h.region h.nodes) is_after true bytes i is_main first
      → InProcedure i h facts is_main first p b rest → InProcedures h facts bytes p b rest

-- ---- nodes

-- behind procedures of these forms
pub data InNode (h : Head) (facts : ℕ) (forms : List ProcedureForm) (before : ℕ × ℕ) (bytes : List ℕ) : Block → List ℕ → Type 0 where
  AtKey : InNode h facts forms before bytes (block.Key h.version h.procedures before) bytes
  AtBank : {k : ℕ × ℕ} {rest : List ℕ} → key_by (h.version == 4) h.procedures before bytes ≡ Ok (k, rest) → InNode h facts forms before bytes block.Bank rest
  BehindBank : {k : ℕ × ℕ} {bank : ℕ} {first second rest : List ℕ} {b : Block} → key_by (h.version == 4) h.procedures before bytes ≡ Ok (k, first) → word_between 0 511 first ≡ Ok (bank, second)
      → InState (form_by (h.version == 4) h.version facts (form_in forms k.0)) (role_of k.0) h.region second b rest → InNode h facts forms before bytes b rest

pub data InNodes (h : Head) (facts : ℕ) (forms : List ProcedureForm) (bytes : List ℕ) : Part → Block → List ℕ → Type 0 where
  AtNode : {i : ℕ} {before : ℕ × ℕ} {first rest : List ℕ} {b : Block} → i < h.nodes → Passed (node_by (h.version == 4) h.version facts (form_in forms) h.region h.procedures) key (0, 0) bytes i before first
      → InNode h facts forms before first b rest → InNodes h facts forms bytes (part.Node i) b rest

-- ---- certificates

pub data AmongFacts (region : Region) (count : ℕ) (bytes : List ℕ) : Part → Block → List ℕ → Type 0 where
  AtFact : {i : ℕ} {s : Unit {0}} {rest : List ℕ} → i < count → Passed (λ (s : Unit {0}). fact_at region) (λ f. tt) tt bytes i s rest → AmongFacts region count bytes (part.Fact i) (block.Fact region) rest

-- facts stand in version 4 alone
pub data InFacts (version : ℕ) (region : Region) (bytes : List ℕ) : Part → Block → List ℕ → Type 0 where
  AtFactCount : (version == 4) ≡ true → InFacts version region bytes part.Head block.FactCount bytes
  BehindFactCount : {count : ℕ} {first rest : List ℕ} {p : Part} {b : Block} → (version == 4) ≡ true → word_count_within fact_limit bytes ≡ Ok (count, first) → AmongFacts region count first p b rest → InFacts version region bytes p b rest

-- the head's version is the byte behind the four letters, 1 where there is none
pub data InCertificate (bytes : List ℕ) : Part → Block → List ℕ → Type 0 where
  AtHead : InCertificate bytes part.Head (block.Head (slice_index_or bytes 4 1)) bytes
  BehindHead : {h : Head} {first rest : List ℕ} {p : Part} {b : Block} → any_head_at bytes ≡ Ok (h, first) → InFacts h.version h.region first p b rest → InCertificate bytes p b rest
  BehindFacts : {h : Head} {facts : List Fact} {first second rest : List ℕ} {p : Part} {b : Block} → any_head_at bytes ≡ Ok (h, first) → facts_by (h.version == 4) h.region first ≡ Ok (facts, second)
      → InProcedures h (length facts) second p b rest → InCertificate bytes p b rest
  BehindProcedures : {h : Head} {facts : List Fact} {procedures : List ProcedureParts} {first second third rest : List ℕ} {p : Part} {b : Block} → any_head_at bytes ≡ Ok (h, first) → facts_by (h.version == 4) h.region first ≡ Ok (facts, second)
      → procedures_at h (length facts) second ≡ Ok (procedures, third) → InNodes h (length facts) (forms_if (h.version == 4) procedures) third p b rest → InCertificate bytes p b rest
