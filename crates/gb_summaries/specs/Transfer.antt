-- What an instruction leaves of what is said of the whole program, what it stores apart (abstract interpretation: transfer functions;
-- own).
use Rattle.std.specs.Prelude.{◌≡◌, ℕ, ◌+◌, ◌≤◌, ◌<◌, List, [], ◌∷◌, Option, Some, None}
use Rattle.gb_ops.specs.declared.machine.Banks.{Banks}
use Rattle.gb_ops.specs.declared.machine.Region.{Region}
use Rattle.gb_ops.specs.declared.machine.Write.TheVariants as write
use Rattle.gb_ops.specs.declared.op.Op.{Op}
use Rattle.gb_ops.specs.declared.op.Op.TheVariants as op
use Rattle.gb_ops.specs.declared.op.Operand.{Operand}
use Rattle.gb_ops.specs.declared.op.Operand.TheVariants as operand
use Rattle.gb_ops.specs.declared.op.Register.{Register}
use Rattle.gb_ops.specs.declared.op.Register.TheVariants.{A}
use Rattle.gb_ops.specs.declared.registers.Processor.{Processor}
use Rattle.gb_ops.specs.Effects as Effects
use Rattle.gb_domain.specs.declared.pairs.Bounds.{Bounds}
use Rattle.gb_domain.specs.declared.places.Place.{Place}
use Rattle.gb_domain.specs.declared.places.Place.TheVariants as place
use Rattle.gb_domain.specs.declared.summary.Shadows.{Shadows}
use Rattle.gb_domain.specs.declared.types.Cell.{Cell}
use Rattle.gb_domain.specs.Summaries.{SummaryParts, Program}
use Rattle.gb_relations.specs.Below.gb_pairs.declared.values.Values.{Values}
use Rattle.gb_relations.specs.Below.gb_pairs.Meaning.{Beside, AreBytes, Holds}
use Rattle.gb_relations.specs.Below.gb_copies.Shadows.{without_register, copied_to_register}
use Rattle.gb_relations.specs.Bytes.{one, at_hl, at_indirect, at_high}
use Rattle.gb_relations.specs.Places.{loaded_place}
use Rattle.gb_relations.specs.Sound.{Reads}
use Rattle.gb_relations.specs.Written.{counted, written}
use Rattle.gb_summaries.specs.Known.{pointer_bounds}
use Rattle.gb_summaries.specs.Meaning.{HoldSummary, IsAside}
use Rattle.gb_summaries.specs.Moves.{moves_of, fills_moved}

-- ---- shadows

abbrev pub without_registers : List Register → Shadows → Shadows
without_registers [] s = s
without_registers (r ∷ rest) s = without_registers rest (without_register r s)

-- a register gets what a place holds, or what is known of no place
abbrev pub loaded : Register → Option Place → Shadows → Shadows
loaded to None s = without_register to s
loaded to (Some from) s = copied_to_register to from s

-- LD r,r; LD r,(HL)
abbrev pub moved_byte : Region → Operand → Operand → Values → Shadows → Shadows
moved_byte region (operand.Register to) (operand.Register from) v s = copied_to_register to (place.Register from) s
moved_byte region (operand.Register to) operand.AtHl v s = loaded to (loaded_place region (at_hl v)) s
moved_byte region operand.AtHl from v s = s

-- the shadows behind a taken instruction, what it stores apart; the values are those before it
unfoldable pub shadows_after : Region → Op → Values → Shadows → Shadows
shadows_after region (op.LoadA from) v s = without_registers (counted from) (loaded A (loaded_place region (at_indirect from v)) s)
shadows_after region (op.Load to from) v s = moved_byte region to from v s
shadows_after region (op.LoadHigh n) v s = loaded A (loaded_place region (one (0xFF00 + n))) s
shadows_after region op.LoadHighC v s = loaded A (loaded_place region (at_high v)) s
shadows_after region (op.LoadAbsolute w) v s = loaded A (loaded_place region (one w)) s
shadows_after region o v s = without_registers (written o) s

-- ---- all of it

-- what is said behind a taken instruction, what it stores apart; sp has SP's bounds
unfoldable pub after_registers : Region → Op → Bounds → Values → SummaryParts → SummaryParts
after_registers region o sp v s =
    record s {
      fills = fills_moved (moves_of o sp v) (pointer_bounds v) s.fills;
      shadows =
          record {
            first = shadows_after region o v s.shadows.first;
            second = shadows_after region o v s.shadows.second;
          };
    }

-- ---- what that promises

-- the machine as an instruction, taken or not, begins its work: its reads gave l and h, and what a load reads is in memory
pub record HasBegun (o : Op) (sp : Bounds) (v : Values) (p : Processor) (memory : ℕ → ℕ) (l h : ℕ) : Type 0 where
  pub was : Beside
  pub values : Holds v was p.registers
  pub bytes : AreBytes p.registers
  pub sp_first : sp.first ≤ p.sp
  pub sp_last : p.sp ≤ sp.last
  pub sp_small : p.sp < 65536
  pub reads : (Effects.effect_of o p l h).write ≡ write.Nothing → Reads (Effects.read_of o p) memory l

-- the summary holds of the processor behind it, where SP still stands where it says
pub record IsSoundTransfer (program : Program) (o : Op) (sp : Bounds) (v : Values) (s after : SummaryParts) : Type 0 where
  pub gives :
      (cells : List Cell) (p : Processor) (memory : ℕ → ℕ) (banks : Banks) (l h : ℕ)
      → HasBegun o sp v p memory l h → IsAside s.aside (Effects.effect_of o p l h).processor
      → HoldSummary program cells s p memory banks → HoldSummary program cells after (Effects.effect_of o p l h).processor memory banks
