-- What pairs tell of an instruction beside themselves: the addresses of the byte that it reads or writes by a pair, and the carry
-- of ADD HL (abstract interpretation: the interval domain; CPU instruction set: load instructions, 16-bit arithmetic; own).
use Rattle.std.specs.Prelude.{◌≡◌, ℕ, ◌≤◌, Bool, Option, Some, None}
use Rattle.gb_ops.specs.declared.op.Pointer.{Pointer}
use Rattle.gb_ops.specs.declared.op.Pointer.TheVariants as at
use Rattle.gb_ops.specs.declared.op.Op.{Op}
use Rattle.gb_ops.specs.declared.op.Op.TheVariants as op
use Rattle.gb_ops.specs.declared.machine.Read.{Read}
use Rattle.gb_ops.specs.declared.machine.Read.TheVariants as read
use Rattle.gb_ops.specs.declared.machine.Write.{Write}
use Rattle.gb_ops.specs.declared.machine.Write.TheVariants as write
use Rattle.gb_ops.specs.declared.registers.Registers.{Registers}
use Rattle.gb_ops.specs.declared.registers.Processor.{Processor}
use Rattle.gb_ops.specs.Effects as Effects
use Rattle.gb_ops.specs.Pointers as Pointers
use Rattle.gb_domain.specs.declared.types.Val.{Val}
use Rattle.gb_domain.specs.declared.pairs.WordPair.{WordPair}
use Rattle.gb_domain.specs.declared.pairs.WordPair.TheVariants as words
use Rattle.gb_domain.specs.declared.pairs.Bounds.{Bounds}
use Rattle.gb_domain.specs.declared.pairs.Pairs.{Pairs}
use Rattle.gb_domain.specs.declared.rules.Rules.{Rules}
use Rattle.gb_domain.specs.declared.rules.Rules.TheVariants.{Simple, Extended}
use Rattle.gb_pairs.specs.declared.values.Values.{Values}
use Rattle.gb_pairs.specs.Bounds.{bounds_of}
use Rattle.gb_pairs.specs.Meaning.{Beside, AreBytes, Holds, word_of}
use Rattle.gb_pairs.specs.Moved.{added}
use Rattle.gb_pairs.specs.Sound.{Within}
use Rattle.gb_relations.specs.Pairs.{addend, is_hl}
use Rattle.gb_relations.specs.Transfer.{values_of}

-- ---- addresses

-- the pair of a pointer; FF00+C is none
abbrev pub pair_at : Pointer → Option WordPair
pair_at at.Bc = Some words.Bc
pair_at at.De = Some words.De
pair_at at.Hl = Some words.Hl
pair_at at.HighC = None

abbrev pub pair_pointed : Option Pointer → Option WordPair
pair_pointed None = None
pair_pointed (Some pointer) = pair_at pointer

-- the pair that holds the address of the byte that an instruction reads or writes, or that it jumps or sets SP to
unfoldable pub pointer_of : Op → Option WordPair
pointer_of op.JumpHl = Some words.Hl
pointer_of op.LoadSpHl = Some words.Hl
pointer_of o = pair_pointed (Pointers.pointer_of o)

abbrev pub bounds_if : Option WordPair → Values → Option Bounds
bounds_if None v = None
bounds_if (Some p) v = Some (bounds_of p v)

-- the bounds of that pair; by the rules of versions 1 and 2 nothing is known of pairs
unfoldable pub pointer_bounds : Rules → Op → Registers Val → Pairs → Option Bounds
pointer_bounds Simple o registers s = None
pointer_bounds Extended o registers s = bounds_if (pointer_of o) (values_of registers s)

-- ---- the carry

-- the carry of ADD HL, where it is known; sp has SP's bounds
abbrev pub carry_after : Op → Bounds → Values → Option Bool
carry_after (op.AddHl which) sp v = (added (addend which sp v) (is_hl which) None v).carry
carry_after o sp v = None

unfoldable pub known_carry : Rules → Op → Bounds → Registers Val → Pairs → Option Bool
known_carry Simple o sp registers s = None
known_carry Extended o sp registers s = carry_after o sp (values_of registers s)

-- ---- what that promises

abbrev pub WithinIf : Option Bounds → ℕ → Type 0
WithinIf None a = Unit {0}
WithinIf (Some b) a = Within b a

-- a byte that is read stands within the bounds
abbrev pub ReadsWithin : Option Bounds → Read → Type 0
ReadsWithin b (read.Byte a) = WithinIf b a
ReadsWithin b _ = Unit {0}

-- a byte that is written stands within them
abbrev pub WritesWithin : Option Bounds → Write → Type 0
WritesWithin b (write.Byte a n) = WithinIf b a
WritesWithin b _ = Unit {0}

-- the pair that is the instruction's pointer holds a word within them
abbrev pub PointsWithin : Option Bounds → Option WordPair → Registers ℕ → Type 0
PointsWithin b None x = Unit {0}
PointsWithin b (Some p) x = WithinIf b (word_of p x)

-- where registers and pairs hold of the machine's, the instruction reads and writes its byte within the bounds
pub record IsSoundPointer (o : Op) (registers : Registers Val) (s : Pairs) (b : Option Bounds) : Type 0 where
  pub word : (was : Beside) (x : Registers ℕ) → Holds (values_of registers s) was x → PointsWithin b (pointer_of o) x
  pub reads : (was : Beside) (p : Processor) → Holds (values_of registers s) was p.registers → ReadsWithin b (Effects.read_of o p)
  pub writes : (was : Beside) (p : Processor) (l h : ℕ) → Holds (values_of registers s) was p.registers → WritesWithin b (Effects.effect_of o p l h).write

abbrev pub IsIfKnown : Option Bool → Bool → Type 0
IsIfKnown None c = Unit {0}
IsIfKnown (Some known) c = c ≡ known

-- where SP's bounds hold too, the machine's C behind the instruction is as it is known
pub record IsSoundCarry (o : Op) (sp : Bounds) (registers : Registers Val) (s : Pairs) (c : Option Bool) : Type 0 where
  pub gives :
      (was : Beside) (p : Processor) (l h : ℕ)
      → AreBytes p.registers → Holds (values_of registers s) was p.registers → sp.first ≤ p.sp → p.sp ≤ sp.last
      → IsIfKnown c (Effects.effect_of o p l h).processor.flags.carry
