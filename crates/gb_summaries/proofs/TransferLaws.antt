-- What is said of the whole program holds behind an instruction's work on registers.
use Rattle.std.proofs.Common.{◌≡◌, ℕ, ◌+◌, List, [], ◌∷◌, Option, Some, None, refl, sym, ◌∙◌, ap, subst}
use Rattle.gb_ops.specs.declared.machine.Banks.{Banks}
use Rattle.gb_ops.specs.declared.machine.Kind.{Kind}
use Rattle.gb_ops.specs.declared.machine.Read.TheVariants as read
use Rattle.gb_ops.specs.declared.machine.Region.{Region}
use Rattle.gb_ops.specs.declared.op.Op.{Op}
use Rattle.gb_ops.specs.declared.op.Op.TheVariants as op
use Rattle.gb_ops.specs.declared.op.Operand.TheVariants as operand
use Rattle.gb_ops.specs.declared.op.Register.{Register}
use Rattle.gb_ops.specs.declared.op.Register.TheVariants.{A, C}
use Rattle.gb_ops.specs.declared.registers.Processor.{Processor}
use Rattle.gb_ops.specs.declared.registers.Registers.{Registers}
use Rattle.gb_ops.specs.Effects.{hl, indirect_address, operand_read, operand_value, store_operand, effect_of, read_of}
use Rattle.gb_ops.specs.Registers.{get, set}
use Rattle.gb_domain.specs.declared.pairs.Bounds.{Bounds}
use Rattle.gb_domain.specs.declared.places.Place.{Place}
use Rattle.gb_domain.specs.declared.places.Place.TheVariants as place
use Rattle.gb_domain.specs.declared.summary.Shadows.{Shadows}
use Rattle.gb_domain.specs.declared.types.Cell.{Cell}
use Rattle.gb_domain.specs.Summaries.{SummaryParts, Program}
use Rattle.gb_relations.specs.Below.gb_pairs.declared.values.Values.{Values}
use Rattle.gb_relations.specs.Below.gb_pairs.Sound.{Within}
use Rattle.gb_relations.specs.Below.gb_copies.declared.windows.BankWindow.{BankWindow}
use Rattle.gb_relations.specs.Below.gb_copies.declared.windows.BankWindow.TheVariants.{First, Second}
use Rattle.gb_relations.specs.Below.gb_copies.Meaning.{held_at}
use Rattle.gb_relations.specs.Below.gb_copies.ShadowMeaning.{AreShadows}
use Rattle.gb_relations.specs.Below.gb_copies.Shadows.{without_register, copied_to_register}
use Rattle.gb_relations.proofs.Below.gb_copies_laws.ShadowLaws.{without_register_sound, copied_to_register_sound}
use Rattle.gb_relations.specs.Bytes.{one, at_hl, at_indirect, at_high}
use Rattle.gb_relations.specs.Places.{is_free, behind_echo, loaded_place}
use Rattle.gb_relations.specs.Sound.{Reads}
use Rattle.gb_relations.specs.Written.{counted, written}
use Rattle.gb_relations.proofs.AddressLaws.{IsAt, IsAt-loaded_place, free-ram}
use Rattle.gb_relations.proofs.ByteAfterLaws.{Within-hl, Within-indirect, Within-one, Within-high, Overwrites-beside_a}
use Rattle.gb_relations.proofs.MachineLaws.{overwritten, Overwrites, effect_of-registers}
use Rattle.gb_summaries.specs.Known.{pointer_bounds}
use Rattle.gb_summaries.specs.Meaning.{HoldSummary, IsAside, pointers_of}
use Rattle.gb_summaries.specs.Moves.{moves_of}
use Rattle.gb_summaries.specs.Transfer.{without_registers, loaded, shadows_after, after_registers, HasBegun, IsSoundTransfer}
use Rattle.gb_summaries.proofs.KnownLaws.{PointersIn-known}
use Rattle.gb_summaries.proofs.MoveLaws.{moves_of_sound, fills_moved_sound}

-- ---- registers

AreShadows-overwritten :
    (k : Kind) (which : BankWindow) (rs : List Register) (s : Shadows) (x y : Registers ℕ) (memory : ℕ → ℕ) (banks : Banks)
    → AreShadows k which s x memory banks → AreShadows k which (without_registers rs s) (overwritten rs x y) memory banks
AreShadows-overwritten k which [] s x y memory banks h = h
AreShadows-overwritten k which (r ∷ rest) s x y memory banks h =
    AreShadows-overwritten k which rest (without_register r s) (set r (get r y) x) y memory banks
    ((without_register_sound r s _ refl).gives k which x memory banks (get r y) h)

AreShadows-written :
    (k : Kind) (which : BankWindow) (rs : List Register) (s : Shadows) (x y : Registers ℕ) (memory : ℕ → ℕ) (banks : Banks)
    → Overwrites rs x y → AreShadows k which s x memory banks → AreShadows k which (without_registers rs s) y memory banks
AreShadows-written k which rs s x y memory banks e h =
    subst (λ z. AreShadows k which (without_registers rs s) z memory banks) (sym e) (AreShadows-overwritten k which rs s x y memory banks h)

-- ---- loads

AreShadows-loaded :
    (k : Kind) (which : BankWindow) (region : Region) (to : Register) (a l : ℕ) (o : Option Place) (s : Shadows) (x : Registers ℕ) (memory : ℕ → ℕ) (banks : Banks)
    → IsAt (is_free region) (behind_echo a) o → Reads (read.Byte a) memory l → AreShadows k which s x memory banks
    → AreShadows k which (loaded to o s) (set to l x) memory banks
AreShadows-loaded k which region to a l None s x memory banks at reads h = (without_register_sound to s _ refl).gives k which x memory banks l h
AreShadows-loaded k which region to a l (Some from) s x memory banks at reads h =
    subst (λ n. AreShadows k which (copied_to_register to from s) (set to n x) memory banks) (ap (λ z. held_at z x memory) at.0 ∙ reads (free-ram region (behind_echo a) at.1))
    ((copied_to_register_sound to from s _ refl).gives k which x memory banks h)

AreShadows-loaded_from :
    (k : Kind) (which : BankWindow) (region : Region) (to : Register) (addresses : Bounds) (a l : ℕ) (s : Shadows) (x : Registers ℕ) (memory : ℕ → ℕ) (banks : Banks)
    → Within addresses a → Reads (read.Byte a) memory l → AreShadows k which s x memory banks
    → AreShadows k which (loaded to (loaded_place region addresses) s) (set to l x) memory banks
AreShadows-loaded_from k which region to addresses a l s x memory banks w reads h =
    AreShadows-loaded k which region to a l (loaded_place region addresses) s x memory banks (IsAt-loaded_place region addresses a w.least w.most) reads h

-- ---- instructions

AreShadows-after :
    (k : Kind) (which : BankWindow) (region : Region) (o : Op) (sp : Bounds) (v : Values) (s : Shadows) (p : Processor) (memory : ℕ → ℕ) (banks : Banks) (l h : ℕ)
    → HasBegun o sp v p memory l h → AreShadows k which s p.registers memory banks
    → AreShadows k which (shadows_after region o v s) (effect_of o p l h).processor.registers memory banks
unfolding shadows_after effect_of read_of operand_read store_operand operand_value
AreShadows-after k which region (op.LoadA from) sp v s p memory banks l h b m =
    AreShadows-written k which (counted from) _ (set A l p.registers) _ memory banks (Overwrites-beside_a from p l)
    (AreShadows-loaded_from k which region A (at_indirect from v) (indirect_address p from) l s p.registers memory banks (Within-indirect from v b.was p b.values) (b.reads refl) m)
AreShadows-after k which region (op.Load (operand.Register to) (operand.Register from)) sp v s p memory banks l h b m =
    (copied_to_register_sound to (place.Register from) s _ refl).gives k which p.registers memory banks m
AreShadows-after k which region (op.Load (operand.Register to) operand.AtHl) sp v s p memory banks l h b m =
    AreShadows-loaded_from k which region to (at_hl v) (hl p) l s p.registers memory banks (Within-hl v b.was p b.values) (b.reads refl) m
AreShadows-after k which region (op.Load operand.AtHl from) sp v s p memory banks l h b m = m
AreShadows-after k which region (op.LoadHigh n) sp v s p memory banks l h b m =
    AreShadows-loaded_from k which region A (one (0xFF00 + n)) (0xFF00 + n) l s p.registers memory banks (Within-one (0xFF00 + n)) (b.reads refl) m
AreShadows-after k which region op.LoadHighC sp v s p memory banks l h b m =
    AreShadows-loaded_from k which region A (at_high v) (0xFF00 + p.registers.c) l s p.registers memory banks (Within-high v p.registers.c (b.values.registers C)) (b.reads refl) m
AreShadows-after k which region (op.LoadAbsolute w) sp v s p memory banks l h b m =
    AreShadows-loaded_from k which region A (one w) w l s p.registers memory banks (Within-one w) (b.reads refl) m
AreShadows-after k which region o sp v s p memory banks l h b m =
    AreShadows-written k which (written o) s p.registers (effect_of o p l h).processor.registers memory banks (effect_of-registers o p l h) m

HoldSummary-after :
    (program : Program) (region : Region) (o : Op) (sp : Bounds) (v : Values) (s : SummaryParts) (cells : List Cell) (p : Processor) (memory : ℕ → ℕ) (banks : Banks) (l h : ℕ)
    → HasBegun o sp v p memory l h → IsAside s.aside (effect_of o p l h).processor → HoldSummary program cells s p memory banks
    → HoldSummary program cells (after_registers region o sp v s) (effect_of o p l h).processor memory banks
unfolding after_registers
HoldSummary-after program region o sp v s cells p memory banks l h b aside m =
    record {
      facts = m.facts;
      fills =
          (fills_moved_sound (moves_of o sp v) (pointer_bounds v) s.fills _ refl).gives cells memory (pointers_of p) (pointers_of (effect_of o p l h).processor)
          (PointersIn-known v b.was p b.values) ((moves_of_sound o sp v _ refl).gives b.was p l h b.values b.bytes b.sp_first b.sp_last b.sp_small) m.fills;
      first = AreShadows-after program.kind First region o sp v s.shadows.first p memory banks l h b m.first;
      second = AreShadows-after program.kind Second region o sp v s.shadows.second p memory banks l h b m.second;
      aside = aside;
    }

pub after_registers_sound :
    (program : Program) (region : Region) (o : Op) (sp : Bounds) (v : Values) (s r : SummaryParts)
    → r ≡ after_registers region o sp v s → IsSoundTransfer program o sp v s r
after_registers_sound program region o sp v s r e =
    subst (λ t. IsSoundTransfer program o sp v s t) (sym e)
    (record { gives = λ cells p memory banks l h. HoldSummary-after program region o sp v s cells p memory banks l h })
