-- What a store leaves of links that read a byte of memory, and what INC and DEC of that byte make of them (abstract interpretation:
-- forget, and invertible assignments; own rules: links, version 4).
use Rattle.std.specs.Prelude.{ℕ, ◌+◌, ◌%◌, Bool, false, ◌&&◌, ◌==◌, if◌then◌else◌, nat_lt, nat_le, Option, Some, None}
use Rattle.gb_ops.specs.declared.op.Operand.TheVariants as operand
use Rattle.gb_ops.specs.declared.op.Op.{Op}
use Rattle.gb_ops.specs.declared.op.Op.TheVariants as op
use Rattle.gb_domain.specs.declared.low_bits.LowBits.{LowBits}
use Rattle.gb_domain.specs.declared.pairs.Bounds.{Bounds}
use Rattle.gb_domain.specs.declared.pairs.Link.{Link}
use Rattle.gb_domain.specs.declared.pairs.Other.{Other}
use Rattle.gb_domain.specs.declared.pairs.Other.TheVariants as other
use Rattle.gb_domain.specs.declared.pairs.PairFacts.{PairFacts}
use Rattle.gb_domain.specs.declared.pairs.Pairs.{Pairs}
use Rattle.gb_domain.specs.declared.types.Val.{Val}
use Rattle.gb_pairs.specs.declared.values.Values.{Values}
use Rattle.gb_pairs.specs.Bounds.{is_one}
use Rattle.gb_pairs.specs.Moved.{moved_link, by_if}
use Rattle.gb_relations.specs.Bytes.{one, at_hl, at_indirect, at_high}
use Rattle.gb_relations.specs.PointedBits.{may_be_at}

-- ---- stores

-- what is read stands at one of the addresses that have these low bits
abbrev pub is_read_at : Option LowBits → Bounds → Other → Bool
is_read_at bits b (other.Cell a) = may_be_at bits a && (nat_le b.first a && nat_le a b.last)
is_read_at bits b _ = false

abbrev pub link_apart : Option LowBits → Bounds → Option Link → Option Link
link_apart bits b None = None
link_apart bits b (Some l) = if is_read_at bits b l.other then None else Some l

abbrev pub facts_apart : Option LowBits → Bounds → PairFacts → PairFacts
facts_apart bits b f = record f { link = link_apart bits b f.link }

-- one of the addresses was written: links that may read it are forgotten
unfoldable pub pairs_apart : Option LowBits → Bounds → Pairs → Pairs
pairs_apart bits b s = record { bc = facts_apart bits b s.bc; de = facts_apart bits b s.de; hl = facts_apart bits b s.hl }

-- ---- a byte's step

abbrev pub is_read_from : ℕ → Other → Bool
is_read_from a (other.Cell b) = a == b
is_read_from a _ = false

abbrev pub link_of_cell : ℕ → ℕ → Option Link → Option Link
link_of_cell a n None = None
link_of_cell a n (Some l) = Some (moved_link 0 (by_if (is_read_from a l.other) n) l)

abbrev pub facts_of_cell : ℕ → ℕ → PairFacts → PairFacts
facts_of_cell a n f = record f { link = link_of_cell a n f.link }

-- the byte at an address moved by n, modulo 65536: the sums of the links that read it move
unfoldable pub cell_stepped : ℕ → ℕ → Pairs → Pairs
cell_stepped a n s = record { bc = facts_of_cell a n s.bc; de = facts_of_cell a n s.de; hl = facts_of_cell a n s.hl }

-- where the address is known and the byte doesn't go round
abbrev pub stepped_or_apart : Bool → ℕ → Option LowBits → Bounds → Pairs → Pairs
stepped_or_apart whole n bits b s = if whole && is_one b then cell_stepped b.first n s else pairs_apart bits b s

-- ---- instructions

-- the pairs s after a taken instruction, whose registers are written; the values are those before it, low is what it read at an
-- address, and bits is what is known of the low bits of an address that it stores at by a pointer
unfoldable pub cells_after : Option LowBits → Op → Values → Val → Pairs → Pairs
cells_after bits (op.StoreA to) v low s = pairs_apart bits (at_indirect to v) s
cells_after bits (op.Increment operand.AtHl) v low s = stepped_or_apart (nat_lt low.hi 255) 1 bits (at_hl v) s
cells_after bits (op.Decrement operand.AtHl) v low s = stepped_or_apart (nat_lt 0 low.lo) 65535 bits (at_hl v) s
cells_after bits (op.LoadImmediate operand.AtHl n) v low s = pairs_apart bits (at_hl v) s
cells_after bits (op.StoreSp w) v low s = pairs_apart None (one ((w + 1) % 65536)) (pairs_apart None (one w) s)
cells_after bits (op.Load operand.AtHl from) v low s = pairs_apart bits (at_hl v) s
cells_after bits (op.StoreHigh n) v low s = pairs_apart None (one (0xFF00 + n)) s
cells_after bits op.StoreHighC v low s = pairs_apart bits (at_high v) s
cells_after bits (op.StoreAbsolute w) v low s = pairs_apart None (one w) s
cells_after bits (op.Shift how operand.AtHl) v low s = pairs_apart bits (at_hl v) s
cells_after bits (op.Reset n operand.AtHl) v low s = pairs_apart bits (at_hl v) s
cells_after bits (op.Set n operand.AtHl) v low s = pairs_apart bits (at_hl v) s
cells_after bits o v low s = s
