-- Each block is read from left to right.
use Rattle.std.proofs.Common.{◌≡◌, ℕ, ◌==◌, Bool, List, Option, Err, refl}
use Rattle.gb_ops.specs.declared.machine.Region.{Region}
use Rattle.gb_domain.specs.declared.places.StackBytes.{StackBytes}
use Rattle.gb_domain.specs.declared.rules.Rules.{Rules}
use Rattle.gb_domain.specs.declared.rules.Rules.TheVariants.{Extended}
use Rattle.gb_domain.specs.Limits.{cell_room}
use Rattle.gb_fields.specs.declared.fault.CertFault.{CertFault}
use Rattle.gb_fields.specs.Format.{byte}
use Rattle.gb_fields.specs.Reading.{any_head_at, entry_at, base_at, need_at, count_within, word_count_within, returns_at, word_between}
use Rattle.gb_fields.specs.Limits.{range_room, fact_limit, kept_room}
use Rattle.gb_states.specs.declared.form.Form.{Form}
use Rattle.gb_states.specs.declared.role.Role.{Role}
use Rattle.gb_states.specs.Forms.{val_by, cell_by}
use Rattle.gb_states.specs.RelationReading.{relations_at}
use Rattle.gb_states.specs.Reading.{range_at, item_count_at}
use Rattle.gb_states.specs.WholeReading.{fact_at, free_address_at, told_at, key_by}
use Rattle.gb_cert_place.specs.declared.block.Block.{Block}
use Rattle.gb_cert_place.specs.declared.block.Block.TheVariants as block
use Rattle.gb_cert_place.specs.Blocks.{read_block, forget}
use Rattle.gb_cert_place.specs.Forms.{core_by}
use Rattle.gb_cert_place.specs.declared.block.Stop.{Stop}
use Rattle.gb_cert_place.specs.Stops.{Stopped}
use Rattle.gb_cert_place.proofs.WalkLaws.{Stopped-block}
use Rattle.gb_cert_place.proofs.Locality.{IsLocal, IsLocal-byte, IsLocal-mapped}
use Rattle.gb_cert_place.proofs.FieldsAreLocal.{IsLocal-entry, IsLocal-base, IsLocal-need, IsLocal-count_within, IsLocal-range, IsLocal-returns, IsLocal-item_count, IsLocal-relations, IsLocal-word_between}
use Rattle.gb_cert_place.proofs.WholeFieldsAreLocal.{IsLocal-any_head, IsLocal-word_count_within, IsLocal-fact, IsLocal-free_address, IsLocal-core_by, IsLocal-val_by, IsLocal-told, IsLocal-cell_by, IsLocal-key_by}

pub IsLocal-block : (b : Block) → IsLocal (read_block b)
unfolding read_block
IsLocal-block (block.Head version) = IsLocal-mapped forget _ IsLocal-any_head
IsLocal-block block.FactCount = IsLocal-mapped forget _ (IsLocal-word_count_within fact_limit)
IsLocal-block (block.Fact region) = IsLocal-mapped forget _ (IsLocal-fact region)
IsLocal-block (block.Entry version nodes) = IsLocal-mapped forget _ (IsLocal-entry version nodes)
IsLocal-block (block.Base is_main region) = IsLocal-mapped forget _ (IsLocal-base Extended is_main region)
IsLocal-block (block.Need rules is_main region) = IsLocal-mapped forget _ (IsLocal-need rules is_main region)
IsLocal-block (block.RangeCount rules is_main) = IsLocal-mapped forget _ (IsLocal-count_within (range_room rules is_main))
IsLocal-block (block.Range index region least) = IsLocal-mapped forget _ (IsLocal-range region least)
IsLocal-block (block.KeptCount is_main) = IsLocal-mapped forget _ (IsLocal-count_within (kept_room is_main))
IsLocal-block (block.KeptAddress index region least) = IsLocal-mapped forget _ (IsLocal-free_address region least)
IsLocal-block block.Mark = IsLocal-mapped forget _ IsLocal-byte
IsLocal-block (block.Returns is_main) = IsLocal-mapped forget _ (IsLocal-returns is_main)
IsLocal-block (block.Core form role) = IsLocal-mapped forget _ (IsLocal-core_by form role)
IsLocal-block (block.ItemCount rules role stack_set) = IsLocal-mapped forget _ (IsLocal-item_count rules role stack_set)
IsLocal-block (block.Item form index) = IsLocal-mapped forget _ (IsLocal-val_by form)
IsLocal-block (block.Told region test) = IsLocal-mapped forget _ (IsLocal-relations region test)
IsLocal-block (block.ToldWhole facts k may_be_aside test) = IsLocal-mapped forget _ (IsLocal-told facts k may_be_aside test)
IsLocal-block (block.CellCount rules) = IsLocal-mapped forget _ (IsLocal-count_within (cell_room rules))
IsLocal-block (block.Cell form index region least) = IsLocal-mapped forget _ (IsLocal-cell_by form region least)
IsLocal-block (block.Key version procedures before) = IsLocal-mapped forget _ (IsLocal-key_by (version == 4) procedures before)
IsLocal-block block.Bank = IsLocal-mapped forget _ (IsLocal-word_between 0 511)

-- ---- a block has the fault of its reader

pub no_entry : (version nodes : ℕ) (bytes : List ℕ) (e : CertFault) → entry_at version nodes bytes ≡ Err e → read_block (block.Entry version nodes) bytes ≡ Err e
unfolding read_block
no_entry version nodes bytes e h = rw h refl

pub no_base : (is_main : Bool) (region : Region) (bytes : List ℕ) (e : CertFault) → base_at Extended is_main region bytes ≡ Err e → read_block (block.Base is_main region) bytes ≡ Err e
unfolding read_block
no_base is_main region bytes e h = rw h refl

pub no_told : (region : Region) (test : Option ℕ) (bytes : List ℕ) (e : CertFault) → relations_at region test bytes ≡ Err e → read_block (block.Told region test) bytes ≡ Err e
unfolding read_block
no_told region test bytes e h = rw h refl

pub no_told_whole : (facts : ℕ) (k : StackBytes) (may_be_aside : Bool) (test : Option ℕ) (bytes : List ℕ) (e : CertFault) → told_at facts k may_be_aside test bytes ≡ Err e → read_block (block.ToldWhole facts k may_be_aside test) bytes ≡ Err e
unfolding read_block
no_told_whole facts k may_be_aside test bytes e h = rw h refl

pub no_need : (rules : Rules) (is_main : Bool) (region : Region) (bytes : List ℕ) (e : CertFault) → need_at rules is_main region bytes ≡ Err e → read_block (block.Need rules is_main region) bytes ≡ Err e
unfolding read_block
no_need rules is_main region bytes e h = rw h refl

pub no_range_count : (rules : Rules) (is_main : Bool) (bytes : List ℕ) (e : CertFault) → count_within (range_room rules is_main) bytes ≡ Err e → read_block (block.RangeCount rules is_main) bytes ≡ Err e
unfolding read_block
no_range_count rules is_main bytes e h = rw h refl

pub no_range : (index : ℕ) (region : Region) (least : ℕ) (bytes : List ℕ) (e : CertFault) → range_at region least bytes ≡ Err e → read_block (block.Range index region least) bytes ≡ Err e
unfolding read_block
no_range index region least bytes e h = rw h refl

pub no_fact_count : (bytes : List ℕ) (e : CertFault) → word_count_within fact_limit bytes ≡ Err e → read_block block.FactCount bytes ≡ Err e
unfolding read_block
no_fact_count bytes e h = rw h refl

pub no_fact : (region : Region) (bytes : List ℕ) (e : CertFault) → fact_at region bytes ≡ Err e → read_block (block.Fact region) bytes ≡ Err e
unfolding read_block
no_fact region bytes e h = rw h refl

pub no_kept_count : (is_main : Bool) (bytes : List ℕ) (e : CertFault) → count_within (kept_room is_main) bytes ≡ Err e → read_block (block.KeptCount is_main) bytes ≡ Err e
unfolding read_block
no_kept_count is_main bytes e h = rw h refl

pub no_kept : (index : ℕ) (region : Region) (least : ℕ) (bytes : List ℕ) (e : CertFault) → free_address_at region least bytes ≡ Err e → read_block (block.KeptAddress index region least) bytes ≡ Err e
unfolding read_block
no_kept index region least bytes e h = rw h refl

pub no_mark : (bytes : List ℕ) (e : CertFault) → byte bytes ≡ Err e → read_block block.Mark bytes ≡ Err e
unfolding read_block
no_mark bytes e h = rw h refl

pub no_returns : (is_main : Bool) (bytes : List ℕ) (e : CertFault) → returns_at is_main bytes ≡ Err e → read_block (block.Returns is_main) bytes ≡ Err e
unfolding read_block
no_returns is_main bytes e h = rw h refl

pub no_core : (form : Form) (role : Role) (bytes : List ℕ) (e : CertFault) → core_by form role bytes ≡ Err e → read_block (block.Core form role) bytes ≡ Err e
unfolding read_block
no_core form role bytes e h = rw h refl

pub no_item_count : (rules : Rules) (role : Role) (stack_set : Bool) (bytes : List ℕ) (e : CertFault) → item_count_at rules role stack_set bytes ≡ Err e → read_block (block.ItemCount rules role stack_set) bytes ≡ Err e
unfolding read_block
no_item_count rules role stack_set bytes e h = rw h refl

pub no_item : (form : Form) (index : ℕ) (bytes : List ℕ) (e : CertFault) → val_by form bytes ≡ Err e → read_block (block.Item form index) bytes ≡ Err e
unfolding read_block
no_item form index bytes e h = rw h refl

pub no_cell_count : (rules : Rules) (bytes : List ℕ) (e : CertFault) → count_within (cell_room rules) bytes ≡ Err e → read_block (block.CellCount rules) bytes ≡ Err e
unfolding read_block
no_cell_count rules bytes e h = rw h refl

pub no_cell : (form : Form) (index : ℕ) (region : Region) (least : ℕ) (bytes : List ℕ) (e : CertFault) → cell_by form region least bytes ≡ Err e → read_block (block.Cell form index region least) bytes ≡ Err e
unfolding read_block
no_cell form index region least bytes e h = rw h refl

pub no_key : (version procedures : ℕ) (before : ℕ × ℕ) (bytes : List ℕ) (e : CertFault) → key_by (version == 4) procedures before bytes ≡ Err e → read_block (block.Key version procedures before) bytes ≡ Err e
unfolding read_block
no_key version procedures before bytes e h = rw h refl

pub no_bank : (bytes : List ℕ) (e : CertFault) → word_between 0 511 bytes ≡ Err e → read_block block.Bank bytes ≡ Err e
unfolding read_block
no_bank bytes e h = rw h refl

pub no_head : (version : ℕ) (bytes : List ℕ) (e : CertFault) → any_head_at bytes ≡ Err e → read_block (block.Head version) bytes ≡ Err e
unfolding read_block
no_head version bytes e h = rw h refl

pub ruleset no_block = (no_fact_count, no_fact, no_entry, no_base, no_told, no_told_whole, no_need, no_range_count, no_range, no_kept_count, no_kept, no_mark, no_returns, no_core, no_item_count, no_item, no_cell_count, no_cell, no_key, no_bank, no_head)

-- ---- a block of a list stops where its element does

pub stopped-item : (form : Form) (index : ℕ) (bytes : List ℕ) (s : Stop) → Stopped (read_block (block.Item form index)) bytes s → Stopped (val_by form) bytes s
unfolding read_block
stopped-item form index bytes s p = Stopped-block (val_by form) bytes s p

pub stopped-cell : (form : Form) (index : ℕ) (region : Region) (least : ℕ) (bytes : List ℕ) (s : Stop) → Stopped (read_block (block.Cell form index region least)) bytes s → Stopped (cell_by form region least) bytes s
unfolding read_block
stopped-cell form index region least bytes s p = Stopped-block (cell_by form region least) bytes s p

pub stopped-range : (index : ℕ) (region : Region) (least : ℕ) (bytes : List ℕ) (s : Stop) → Stopped (read_block (block.Range index region least)) bytes s → Stopped (range_at region least) bytes s
unfolding read_block
stopped-range index region least bytes s p = Stopped-block (range_at region least) bytes s p

pub stopped-kept : (index : ℕ) (region : Region) (least : ℕ) (bytes : List ℕ) (s : Stop) → Stopped (read_block (block.KeptAddress index region least)) bytes s → Stopped (free_address_at region least) bytes s
unfolding read_block
stopped-kept index region least bytes s p = Stopped-block (free_address_at region least) bytes s p

pub stopped-fact : (region : Region) (bytes : List ℕ) (s : Stop) → Stopped (read_block (block.Fact region)) bytes s → Stopped (fact_at region) bytes s
unfolding read_block
stopped-fact region bytes s p = Stopped-block (fact_at region) bytes s p
