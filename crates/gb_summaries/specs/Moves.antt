-- How far an instruction moves the pointers at which fills end, and what it leaves of the fills (abstract interpretation: transfer
-- functions; CPU instruction set; own).
use Rattle.std.specs.Prelude.{◌≡◌, ℕ, ◌+◌, ◌*◌, ◌-◌, ◌≤◌, ◌<◌, nat_le, nat_lt, ◌==◌, if◌then◌else◌, List, [], ◌∷◌, Option, Some, None}
use Rattle.std.specs.List.{filter_map}
use Rattle.gb_ops.specs.declared.op.Indirect.{Indirect}
use Rattle.gb_ops.specs.declared.op.Indirect.TheVariants as indirect
use Rattle.gb_ops.specs.declared.op.Op.{Op}
use Rattle.gb_ops.specs.declared.op.Op.TheVariants as op
use Rattle.gb_ops.specs.declared.op.Operand.TheVariants as operand
use Rattle.gb_ops.specs.declared.op.Pair.{Pair}
use Rattle.gb_ops.specs.declared.op.Pair.TheVariants as pair
use Rattle.gb_ops.specs.declared.op.Pointer.{Pointer}
use Rattle.gb_ops.specs.declared.op.Register.{Register}
use Rattle.gb_ops.specs.declared.op.Register.TheVariants.{A, B, C, D, E, H, L}
use Rattle.gb_ops.specs.declared.registers.Processor.{Processor}
use Rattle.gb_ops.specs.Effects as Effects
use Rattle.gb_ops.specs.Registers.{get}
use Rattle.gb_domain.specs.declared.pairs.Bounds.{Bounds}
use Rattle.gb_domain.specs.declared.summary.Fill.{Fill}
use Rattle.gb_domain.specs.declared.summary.FillEnd.{FillEnd}
use Rattle.gb_domain.specs.declared.types.Cell.{Cell}
use Rattle.gb_domain.specs.declared.types.Val.{Val}
use Rattle.gb_relations.specs.Below.gb_pairs.declared.values.Values.{Values}
use Rattle.gb_relations.specs.Below.gb_pairs.Bounds.{is_one}
use Rattle.gb_relations.specs.Below.gb_pairs.Meaning.{Beside, AreBytes, Holds}
use Rattle.gb_relations.specs.Bytes.{at_hl}
use Rattle.gb_relations.specs.Pairs.{addend, is_hl}
use Rattle.gb_relations.specs.Written.{written}
use Rattle.gb_ram_bounds.specs.declared.pointers.Pointers.{Pointers}
use Rattle.gb_ram_bounds.specs.Fills as Fills
use Rattle.gb_ram_bounds.specs.Fills.{at_pointer, raised, lowered}
use Rattle.gb_ram_bounds.specs.Meaning.{HoldFills, PointersIn}
use Rattle.gb_summaries.specs.declared.moves.Move.{Move}
use Rattle.gb_summaries.specs.declared.moves.Move.TheVariants.{Stays, Rises, Falls, Lost}
use Rattle.gb_summaries.specs.Meaning.{pointers_of}

-- ---- steps

-- one more, or one less, where no word within the bounds wraps
abbrev pub step_up : Bounds → Move
step_up b = if nat_lt b.last 65535 then Rises 1 else Lost

abbrev pub step_down : Bounds → Move
step_down b = if nat_lt 0 b.first then Falls 1 else Lost

-- the same of a byte of so much weight, which may also wrap for sure
abbrev pub byte_up : Val → ℕ → Move
byte_up v weight = if nat_lt v.hi 255 then Rises weight else if v.lo == 255 then Falls (255 * weight) else Lost

abbrev pub byte_down : Val → ℕ → Move
byte_down v weight = if nat_lt 0 v.lo then Falls weight else if v.hi == 0 then Rises (255 * weight) else Lost

-- a known word is added, and the sum wraps never or always
abbrev pub sum_move : Bounds → ℕ → Move
sum_move b y =
    if nat_lt (b.last + y) 65536 then Rises y
    else if nat_le 65536 (b.first + y) then Falls (65536 - y) else Lost

-- ---- pointers

abbrev pub no_move : Pointers Move
no_move = record { bc = Stays; de = Stays; hl = Stays; high_c = Stays }

-- a byte moves, as a pointer's low byte and as its high byte
abbrev pub at_byte : Register → Move → Move → Pointers Move
at_byte A low high = no_move
at_byte B low high = record no_move { bc = high }
at_byte C low high = record no_move { bc = low; high_c = low }
at_byte D low high = record no_move { de = high }
at_byte E low high = record no_move { de = low }
at_byte H low high = record no_move { hl = high }
at_byte L low high = record no_move { hl = low }

-- a pair moves; BC's low byte is FF00+C's
abbrev pub at_pair : Pair → Move → Pointers Move
at_pair pair.Bc m = record no_move { bc = m; high_c = Lost }
at_pair pair.De m = record no_move { de = m }
at_pair pair.Hl m = record no_move { hl = m }
at_pair pair.Sp m = no_move

-- HL counts, where the operand says so
abbrev pub counted : Indirect → Bounds → Pointers Move
counted indirect.HlIncrement b = at_pair pair.Hl (step_up b)
counted indirect.HlDecrement b = at_pair pair.Hl (step_down b)
counted _ b = no_move

-- a byte of pointers is written
abbrev pub without_byte : Register → Pointers Move → Pointers Move
without_byte A m = m
without_byte B m = record m { bc = Lost }
without_byte C m = record m { bc = Lost; high_c = Lost }
without_byte D m = record m { de = Lost }
without_byte E m = record m { de = Lost }
without_byte H m = record m { hl = Lost }
without_byte L m = record m { hl = Lost }

abbrev pub without_bytes : List Register → Pointers Move
without_bytes [] = no_move
without_bytes (r ∷ rest) = without_byte r (without_bytes rest)

-- HL gets another pair more, where that is known
abbrev pub added : Pair → Bounds → Bounds → Move
added which y b = if is_hl which then Lost else if is_one y then sum_move b y.first else Lost

-- how far each pointer moves with a taken instruction; the values are those before it, and sp has SP's bounds
unfoldable pub moves_of : Op → Bounds → Values → Pointers Move
moves_of (op.StoreA to) sp v = counted to (at_hl v)
moves_of (op.LoadA from) sp v = counted from (at_hl v)
moves_of (op.IncrementPair which) sp v = at_pair which (step_up (addend which sp v))
moves_of (op.DecrementPair which) sp v = at_pair which (step_down (addend which sp v))
moves_of (op.Increment (operand.Register r)) sp v = at_byte r (byte_up (get r v.registers) 1) (byte_up (get r v.registers) 256)
moves_of (op.Decrement (operand.Register r)) sp v = at_byte r (byte_down (get r v.registers) 1) (byte_down (get r v.registers) 256)
moves_of (op.AddHl which) sp v = record no_move { hl = added which (addend which sp v) (at_hl v) }
moves_of o sp v = without_bytes (written o)

-- ---- fills

-- a fill whose end moves so far
abbrev pub moved_end : Move → FillEnd → Pointers Bounds → Fill → Option Fill
moved_end Stays e p f = Some f
moved_end (Rises n) e p f = raised e.pointer n p f
moved_end (Falls n) e p f = lowered e.pointer n p f
moved_end Lost e p f = Fills.written e.pointer p f

abbrev pub moved_by : Option FillEnd → Pointers Move → Pointers Bounds → Fill → Option Fill
moved_by None m p f = Some f
moved_by (Some e) m p f = moved_end (at_pointer e.pointer m) e p f

unfoldable pub moved : Pointers Move → Pointers Bounds → Fill → Option Fill
moved m p f = moved_by f.end m p f

-- what is left of the fills
unfoldable pub fills_moved : Pointers Move → Pointers Bounds → List Fill → List Fill
fills_moved m p fills = filter_map (moved m p) fills

-- ---- what that promises

abbrev pub IsMove : Move → ℕ → ℕ → Type 0
IsMove Stays x y = y ≡ x
IsMove (Rises n) x y = y ≡ x + n
IsMove (Falls n) x y = x ≡ y + n
IsMove Lost x y = Unit {0}

-- each pointer moved so far
pub record HaveMoved (m : Pointers Move) (x y : Pointers ℕ) : Type 0 where
  pub each : (q : Pointer) → IsMove (at_pointer q m) (at_pointer q x) (at_pointer q y)

-- so far the machine moves them
pub record AreSoundMoves (o : Op) (sp : Bounds) (v : Values) (m : Pointers Move) : Type 0 where
  pub gives :
      (was : Beside) (p : Processor) (l h : ℕ)
      → Holds v was p.registers → AreBytes p.registers → sp.first ≤ p.sp → p.sp ≤ sp.last → p.sp < 65536
      → HaveMoved m (pointers_of p) (pointers_of (Effects.effect_of o p l h).processor)

-- fills hold where the pointers moved so far
pub record AreSoundFills (m : Pointers Move) (p : Pointers Bounds) (fills after : List Fill) : Type 0 where
  pub gives :
      (cells : List Cell) (memory : ℕ → ℕ) (x y : Pointers ℕ)
      → PointersIn p x → HaveMoved m x y → HoldFills fills cells memory x → HoldFills after cells memory y
