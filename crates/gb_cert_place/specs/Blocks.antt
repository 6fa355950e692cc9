-- The blocks of a certificate: runs of fields, each read by one rule by what stands before it.
use Rattle.gb_domain.specs.declared.rules.Rules.TheVariants.{Extended}
use Rattle.gb_domain.specs.Limits.{cell_room}
use Rattle.gb_fields.specs.Limits.{range_room, fact_limit, kept_room}
use Rattle.std.specs.Prelude.{◌==◌}
use Rattle.gb_fields.specs.Format.{Read, mapped, byte}
use Rattle.gb_fields.specs.Reading.{any_head_at, entry_at, base_at, need_at, count_within, word_count_within, returns_at, word_between}
use Rattle.gb_states.specs.Forms.{val_by, cell_by}
use Rattle.gb_states.specs.Reading.{range_at, item_count_at}
use Rattle.gb_states.specs.RelationReading.{relations_at}
use Rattle.gb_states.specs.WholeReading.{fact_at, free_address_at, told_at, key_by}
use Rattle.gb_cert_place.specs.declared.block.Block.{Block}
use Rattle.gb_cert_place.specs.declared.block.Block.TheVariants as block
use Rattle.gb_cert_place.specs.Forms.{core_by}

-- no value
abbrev pub forget : {X : Type 0} → X → Unit {0}
forget x = tt

-- how a block is read, its value aside
unfoldable pub read_block : Block → Read (Unit {0})
read_block (block.Head version) = mapped forget any_head_at
read_block block.FactCount = mapped forget (word_count_within fact_limit)
read_block (block.Fact region) = mapped forget (fact_at region)
read_block (block.Entry version nodes) = mapped forget (entry_at version nodes)
read_block (block.Base is_main region) = mapped forget (base_at Extended is_main region)
read_block (block.Need rules is_main region) = mapped forget (need_at rules is_main region)
read_block (block.RangeCount rules is_main) = mapped forget (count_within (range_room rules is_main))
read_block (block.Range index region least) = mapped forget (range_at region least)
read_block (block.KeptCount is_main) = mapped forget (count_within (kept_room is_main))
read_block (block.KeptAddress index region least) = mapped forget (free_address_at region least)
read_block block.Mark = mapped forget byte
read_block (block.Returns is_main) = mapped forget (returns_at is_main)
read_block (block.Core form role) = mapped forget (core_by form role)
read_block (block.ItemCount rules role stack_set) = mapped forget (item_count_at rules role stack_set)
read_block (block.Item form index) = mapped forget (val_by form)
read_block (block.Told region test) = mapped forget (relations_at region test)
read_block (block.ToldWhole facts k may_be_aside test) = mapped forget (told_at facts k may_be_aside test)
read_block (block.CellCount rules) = mapped forget (count_within (cell_room rules))
read_block (block.Cell form index region least) = mapped forget (cell_by form region least)
read_block (block.Key version procedures before) = mapped forget (key_by (version == 4) procedures before)
read_block block.Bank = mapped forget (word_between 0 511)
