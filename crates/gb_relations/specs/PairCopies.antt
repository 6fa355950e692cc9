-- A copy that makes two pairs equal, which then have the same bounds and links (own rules: pair copies, version 4).
use Rattle.std.specs.Prelude.{Bool, true, false, not, ◌&&◌, ◌||◌, Option, Some, None, if◌then◌else◌}
use Rattle.gb_ops.specs.declared.op.Register.{Register}
use Rattle.gb_ops.specs.declared.op.Register.TheVariants.{B, C, D, E, H, L}
use Rattle.gb_ops.specs.declared.op.Operand.TheVariants as operand
use Rattle.gb_ops.specs.declared.op.Op.{Op}
use Rattle.gb_ops.specs.declared.op.Op.TheVariants as op
use Rattle.gb_ops.specs.Registers.{get}
use Rattle.gb_domain.specs.declared.pairs.WordPair.{WordPair}
use Rattle.gb_domain.specs.declared.pairs.PairFacts.{PairFacts}
use Rattle.gb_domain.specs.declared.pairs.Pairs.{Pairs}
use Rattle.gb_domain.specs.declared.places.OneByte.{OneByte}
use Rattle.gb_domain.specs.Pairs.{facts_of}
use Rattle.gb_pairs.specs.declared.values.Values.{Values}
use Rattle.gb_pairs.specs.Bounds.{bounds_of}
use Rattle.gb_pairs.specs.Copied.{link_copied}
use Rattle.gb_pairs.specs.Written.{is_same_pair}
use Rattle.gb_pairs.specs.Reduced.{with_facts}
use Rattle.gb_relations.specs.declared.pair_copies.PairCopy.{PairCopy}
use Rattle.gb_relations.specs.Pairs.{other_half}

-- a pair's high byte
abbrev pub is_high : Register → Bool
is_high B = true
is_high D = true
is_high H = true
is_high _ = false

-- a pair's low byte
abbrev pub is_low : Register → Bool
is_low C = true
is_low E = true
is_low L = true
is_low _ = false

abbrev pub are_same_halves : Register → Register → Bool
are_same_halves to from = is_high to && is_high from || is_low to && is_low from

abbrev pub hold_one_byte : Register → Register → OneByte → Bool
hold_one_byte r s b = get r b.registers && get s b.registers

-- both are the high byte or both the low one, of two pairs whose other bytes are the same
abbrev pub makes_equal : Register → Register → OneByte → Register × WordPair → Register × WordPair → Bool
makes_equal to from b x y = are_same_halves to from && not (is_same_pair x.1 y.1) && hold_one_byte x.0 y.0 b

-- given the other bytes and the pairs
abbrev pub copy_by : Bool → Register → Register → OneByte → Option (Register × WordPair) → Option (Register × WordPair) → Option PairCopy
copy_by is_whole to from b None y = None
copy_by is_whole to from b (Some x) None = None
copy_by is_whole to from b (Some x) (Some y) = if is_whole && makes_equal to from b x y then Some (record { to = x.1; from = y.1 }) else None

-- which pair an instruction makes equal to which
unfoldable pub pair_copy : Bool → Op → OneByte → Option PairCopy
pair_copy is_whole (op.Load (operand.Register to) (operand.Register from)) b = copy_by is_whole to from b (other_half to) (other_half from)
pair_copy is_whole _ b = None

-- the one gets the other's bounds, and a link by the other's, as they are before the instruction
abbrev pub facts_copied : PairCopy → Values → PairFacts
facts_copied c v = record { bounds = bounds_of c.from v; link = Some (link_copied c.to c.from (facts_of c.from v.pairs).link) }

abbrev pub with_copy : Option PairCopy → Values → Pairs → Pairs
with_copy None v s = s
with_copy (Some c) v s = with_facts c.to (facts_copied c v) s

-- the pairs s behind an instruction, where the one byte and the values are those before it
abbrev pub with_pair_copied : Bool → Op → OneByte → Values → Pairs → Pairs
with_pair_copied is_whole o b v s = with_copy (pair_copy is_whole o b) v s
