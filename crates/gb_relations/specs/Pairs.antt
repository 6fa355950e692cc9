-- What an instruction leaves of the pairs (abstract interpretation: transfer functions; own).
use Rattle.std.specs.Prelude.{Bool, true, false, List, [], ◌∷◌, Option, Some, None}
use Rattle.gb_ops.specs.declared.op.Register.{Register}
use Rattle.gb_ops.specs.declared.op.Register.TheVariants.{A, B, C, D, E, H, L}
use Rattle.gb_ops.specs.declared.op.Operand.TheVariants as operand
use Rattle.gb_ops.specs.declared.op.Indirect.{Indirect}
use Rattle.gb_ops.specs.declared.op.Indirect.TheVariants as indirect
use Rattle.gb_ops.specs.declared.op.Pair.{Pair}
use Rattle.gb_ops.specs.declared.op.Pair.TheVariants as pair
use Rattle.gb_ops.specs.declared.op.Op.{Op}
use Rattle.gb_ops.specs.declared.op.Op.TheVariants as op
use Rattle.gb_domain.specs.declared.pairs.WordPair.{WordPair}
use Rattle.gb_domain.specs.declared.pairs.WordPair.TheVariants as words
use Rattle.gb_domain.specs.declared.pairs.Bounds.{Bounds}
use Rattle.gb_domain.specs.declared.pairs.Pairs.{Pairs}
use Rattle.gb_pairs.specs.declared.values.Values.{Values}
use Rattle.gb_pairs.specs.Bounds.{bounds_of}
use Rattle.gb_pairs.specs.Written.{without_register}
use Rattle.gb_pairs.specs.Moved.{incremented, decremented, byte_incremented, byte_decremented, added}
use Rattle.gb_relations.specs.Written.{written}

abbrev pub without_registers : List Register → Pairs → Pairs
without_registers [] s = s
without_registers (r ∷ rest) s = without_registers rest (without_register r s)

-- the other byte of a register's pair, and the pair
abbrev pub other_half : Register → Option (Register × WordPair)
other_half A = None
other_half B = Some (C, words.Bc)
other_half C = Some (B, words.Bc)
other_half D = Some (E, words.De)
other_half E = Some (D, words.De)
other_half H = Some (L, words.Hl)
other_half L = Some (H, words.Hl)

abbrev pub pair_of : Pair → Option WordPair
pair_of pair.Bc = Some words.Bc
pair_of pair.De = Some words.De
pair_of pair.Hl = Some words.Hl
pair_of pair.Sp = None

abbrev pub after_increment : Option WordPair → Values → Pairs
after_increment None v = v.pairs
after_increment (Some p) v = incremented p v

abbrev pub after_decrement : Option WordPair → Values → Pairs
after_decrement None v = v.pairs
after_decrement (Some p) v = decremented p v

-- HL counts, where the operand says so
abbrev pub after_indirect : Indirect → Values → Pairs
after_indirect indirect.HlIncrement v = incremented words.Hl v
after_indirect indirect.HlDecrement v = decremented words.Hl v
after_indirect _ v = v.pairs

-- what ADD HL adds; sp has SP's bounds
abbrev pub addend : Pair → Bounds → Values → Bounds
addend pair.Bc sp v = bounds_of words.Bc v
addend pair.De sp v = bounds_of words.De v
addend pair.Hl sp v = bounds_of words.Hl v
addend pair.Sp sp v = sp

abbrev pub is_hl : Pair → Bool
is_hl pair.Hl = true
is_hl _ = false

-- the pair whose word is added, of which the rules of version 4 know
abbrev pub added_pair : Bool → Pair → Option WordPair
added_pair false which = None
added_pair true which = pair_of which

abbrev pub with_pairs : Values → Pairs → Values
with_pairs v s = record v { pairs = s }

-- the pairs behind a taken instruction, by the rules of version 4, is_whole, or of version 3, where the values are those before it; sp
-- has SP's bounds
unfoldable pub pairs_after : Bool → Op → Bounds → Values → Pairs
pairs_after is_whole (op.StoreA to) sp v = after_indirect to v
pairs_after is_whole (op.LoadA from) sp v = without_registers (A ∷ []) (after_indirect from v)
pairs_after is_whole (op.IncrementPair which) sp v = after_increment (pair_of which) v
pairs_after is_whole (op.DecrementPair which) sp v = after_decrement (pair_of which) v
pairs_after is_whole (op.Increment (operand.Register r)) sp v = byte_incremented r v
pairs_after is_whole (op.Decrement (operand.Register r)) sp v = byte_decremented r v
pairs_after is_whole (op.AddHl which) sp v = (added (addend which sp v) (is_hl which) (added_pair is_whole which) v).pairs
pairs_after is_whole o sp v = without_registers (written o) v.pairs
