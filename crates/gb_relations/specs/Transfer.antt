-- What an instruction leaves of what is known of several parts together (abstract interpretation: transfer functions; own).
use Rattle.std.specs.Prelude.{Bool, ◌&&◌, List, [], ◌∷◌, Option, Some, None, if◌then◌else◌}
use Rattle.gb_ops.specs.declared.op.Register.{Register}
use Rattle.gb_ops.specs.declared.op.AluOp.TheVariants as alu
use Rattle.gb_ops.specs.declared.op.Operand.TheVariants as operand
use Rattle.gb_ops.specs.declared.op.Op.{Op}
use Rattle.gb_ops.specs.declared.op.Op.TheVariants as op
use Rattle.gb_domain.specs.declared.places.StackBytes.{StackBytes}
use Rattle.gb_ops.specs.declared.registers.Registers.{Registers}
use Rattle.gb_ops.specs.Registers.{get}
use Rattle.gb_domain.specs.declared.types.Val.{Val}
use Rattle.gb_domain.specs.declared.pairs.WordPair.{WordPair}
use Rattle.gb_domain.specs.declared.pairs.Bounds.{Bounds}
use Rattle.gb_domain.specs.declared.places.OneByte.{OneByte}
use Rattle.gb_domain.specs.declared.relations.Relations.{Relations}
use Rattle.gb_domain.specs.declared.rules.Rules.{Rules}
use Rattle.gb_domain.specs.declared.rules.Rules.TheVariants.{Simple, Extended}
use Rattle.gb_domain.specs.Relations.{no_relations}
pub use Rattle.gb_pairs.specs.Reduced.{values_of}
use Rattle.gb_pairs.specs.Written.{is_half}
use Rattle.gb_relations.specs.PointedBits.{known_bits}
use Rattle.gb_relations.specs.Written.{written, writes_flags}
use Rattle.gb_relations.specs.Pairs.{other_half, pairs_after}
use Rattle.gb_relations.specs.PairCopies.{with_pair_copied}
use Rattle.gb_relations.specs.Bytes.{byte_after}
use Rattle.gb_relations.specs.CellLinks.{cells_after}
use Rattle.gb_relations.specs.Compared.{compared_after}

-- ---- a pair that is 0

abbrev pub zero_without : Register → Option WordPair → Option WordPair
zero_without r None = None
zero_without r (Some p) = if is_half r p then None else Some p

abbrev pub zero_without_registers : List Register → Option WordPair → Option WordPair
zero_without_registers [] zero = zero
zero_without_registers (r ∷ rest) zero = zero_without_registers rest (zero_without r zero)

abbrev pub zero_by : Option (Register × WordPair) → OneByte → Option WordPair
zero_by None b = None
zero_by (Some half) b = if b.registers.a && get half.0 b.registers then Some half.1 else None

-- OR with one byte of a pair, where A holds the other one: Z says whether the pair is 0
unfoldable pub zero_after : Op → OneByte → Option WordPair → Option WordPair
zero_after (op.Alu alu.Or (operand.Register r)) b zero = zero_by (other_half r) b
zero_after o b zero = if writes_flags o then None else zero_without_registers (written o) zero

-- ---- all of it

-- what is known together behind a taken instruction; registers and relations are those before it, sp has SP's bounds, and low is
-- what was read at an address; by the rules of versions 1 and 2 a comparison of A alone; by those of version 4, is_whole, pairs that
-- become equal share their bounds and links, and a store by a pointer whose low bits are known spares places with others, and links
-- that read bytes with others
unfoldable pub relations_after : Rules → Bool → StackBytes → Op → Bounds → Registers Val → Val → Relations → Relations
relations_after Simple is_whole stack o sp registers low r = record no_relations { byte = compared_after o r.byte }
relations_after Extended is_whole stack o sp registers low r =
    let v = values_of registers r.pairs in
    record {
      byte = byte_after (known_bits Extended is_whole o registers) stack o v low r.byte;
      zero = zero_after o r.byte r.zero;
      pairs = cells_after (known_bits Extended is_whole o registers) o v low (with_pair_copied is_whole o r.byte v (pairs_after is_whole o sp v));
    }
