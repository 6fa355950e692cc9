-- What refuses a successor: stores outside the areas for stores, closed cartridge RAM, OAM transfers, and jumps that
-- may lead anywhere (own rules; Memory map; MBCs; OAM DMA transfer).
use Rattle.std.specs.Prelude.{ℕ, Bool, true, false, not, ◌&&◌, ◌||◌, ◌==◌, nat_le, List}
use Rattle.gb_ops.specs.declared.machine.Kind.{Kind}
use Rattle.gb_ops.specs.declared.machine.Region.{Region}
use Rattle.gb_domain.specs.declared.setting.Setting.{Setting}
use Rattle.gb_domain.specs.declared.types.Core.{Core}
use Rattle.gb_domain.specs.declared.types.Range.{Range}
use Rattle.gb_product.specs.Below.gb_abs.Span.{one}
use Rattle.gb_product.specs.Below.gb_abs_effects.declared.reads.AbsRead.{AbsRead}
use Rattle.gb_product.specs.Below.gb_abs_effects.declared.reads.AbsRead.TheVariants as read
use Rattle.gb_product.specs.Below.gb_abs_effects.declared.writes.AbsWrite.{AbsWrite}
use Rattle.gb_product.specs.Below.gb_abs_effects.declared.writes.AbsWrite.TheVariants as write
use Rattle.gb_product.specs.Below.gb_abs_effects.declared.targets.Target.{Target}
use Rattle.gb_product.specs.Below.gb_abs_effects.declared.targets.Target.TheVariants as target
use Rattle.gb_abs_memory.specs.Access.{is_storable, meets_closed_ram, store_meets_closed_ram, is_limited, is_store_limited}
use Rattle.gb_successors.specs.Way.{Successor}
use Rattle.gb_successors.specs.Behind.{behind}
use Rattle.gb_successors.specs.Loads.{span_behind}

-- a write that may lie where no store is allowed; both bytes of a word are asked for
unfoldable pub is_unstorable : Setting → Kind → Region → List Range → AbsWrite → Bool
is_unstorable z k region ranges (write.Byte span v) = not (is_storable z k region ranges span)
is_unstorable z k region ranges (write.Word a low high) =
    not (is_storable z k region ranges (one a)) || not (is_storable z k region ranges (one (behind a)))
is_unstorable z k region ranges _ = false

-- a read that may meet closed cartridge RAM
unfoldable pub reads_closed_ram : List ℕ → Core → AbsRead → Bool
reads_closed_ram rom core (read.Byte span) = meets_closed_ram rom core span
reads_closed_ram rom core (read.Word span) = meets_closed_ram rom core span || meets_closed_ram rom core (span_behind span)
reads_closed_ram rom core _ = false

-- a write that may meet it, or start an OAM transfer from it
unfoldable pub writes_closed_ram : List ℕ → Core → AbsWrite → Bool
writes_closed_ram rom core (write.Byte span v) = store_meets_closed_ram rom core span v
writes_closed_ram rom core (write.Word a low high) = store_meets_closed_ram rom core (one a) low || store_meets_closed_ram rom core (one (behind a)) high
writes_closed_ram rom core _ = false

-- an OAM transfer may run, and the stack region doesn't lie in high RAM
unfoldable pub is_stack_limited : Region → Core → Bool
is_stack_limited region core = not (core.bound == 0) && not (nat_le 0xFF80 region.first)

-- a read that a running OAM transfer may close
unfoldable pub is_read_limited : Region → Core → AbsRead → Bool
is_read_limited region core (read.Byte span) = is_limited core span
is_read_limited region core (read.Word span) = is_limited core span || is_limited core (span_behind span)
is_read_limited region core read.Top = is_stack_limited region core
is_read_limited region core _ = false

-- a write that a running OAM transfer may close, or that may start one unseen
unfoldable pub is_write_limited : Region → Core → AbsWrite → Bool
is_write_limited region core (write.Byte span v) = is_store_limited core span
is_write_limited region core (write.Word a low high) = is_store_limited core (one a) || is_store_limited core (one (behind a))
is_write_limited region core (write.Push high low) = is_stack_limited region core
is_write_limited region core _ = false

-- an instruction's accesses, asked for at its own gate and bound
unfoldable pub meets_closed : List ℕ → Core → Successor → Bool
meets_closed rom core t = reads_closed_ram rom core t.read || writes_closed_ram rom core t.write

unfoldable pub meets_oam_transfer : Region → Core → Successor → Bool
meets_oam_transfer region core t = is_read_limited region core t.read || is_write_limited region core t.write

abbrev pub is_unknown : Target → Bool
is_unknown target.Unknown = true
is_unknown _ = false
