-- What is left of the places, and what is copied or tested, still makes one byte.
use Rattle.std.proofs.Common.{◌≡◌, ℕ, ◌<◌, Bool, true, false, ◌==◌, cond, List, [], ◌∷◌, Option, Some, None, refl, sym, ◌∙◌, subst, arith}
use Rattle.gb_ops.specs.declared.op.Register.{Register}
use Rattle.gb_ops.specs.declared.op.Operand.{Operand}
use Rattle.gb_ops.specs.declared.op.Operand.TheVariants as operand
use Rattle.gb_ops.specs.declared.machine.Computed.{Computed}
use Rattle.gb_domain.specs.declared.places.StackBytes.{StackBytes}
use Rattle.gb_ops.specs.declared.registers.Registers.{Registers}
use Rattle.gb_ops.specs.declared.registers.Flags.{Flags}
use Rattle.gb_ops.specs.declared.registers.Processor.{Processor}
use Rattle.gb_ops.specs.Registers.{get, set}
use Rattle.gb_ops.specs.Arithmetic.{bit_tested}
use Rattle.gb_ops.specs.Pairs.{pair_value}
use Rattle.gb_ops.specs.Effects.{hl, operand_read, operand_value, store_operand, update_operand}
use Rattle.gb_domain.specs.declared.low_bits.LowBits.{LowBits}
use Rattle.gb_domain.specs.declared.pairs.Bounds.{Bounds}
use Rattle.gb_domain.specs.declared.places.Place.{Place}
use Rattle.gb_domain.specs.declared.places.Place.TheVariants as place
use Rattle.gb_domain.specs.declared.places.OneByte.{OneByte}
use Rattle.gb_pairs.specs.declared.values.Values.{Values}
use Rattle.gb_pairs.specs.Meaning.{AreBytes}
use Rattle.gb_pairs.specs.Sound.{Within}
use Rattle.gb_pairs.proofs.RegisterLaws.{get_same}
use Rattle.gb_copies.specs.Meaning.{HoldOneByte, held_at}
use Rattle.gb_copies.specs.Places.{without_addresses, only_tested, tested}
use Rattle.gb_copies.proofs.PlaceLaws.{without_register_sound, without_addresses_sound, without_test_sound, only_tested_sound, tested_sound}
use Rattle.gb_copies.proofs.CopyLaws.{copied_sound_register, copied_sound_address}
use Rattle.gb_domain.specs.Areas.{is_place_at}
use Rattle.gb_relations.specs.Places.{is_ram, stored_at, behind_echo, loaded_at}
use Rattle.gb_relations.specs.PointedBits.{HasIf, WritesHas}
use Rattle.gb_relations.specs.Bytes as bytes
use Rattle.gb_relations.specs.Sound.{IsKeptBut, Writes, Reads}
use Rattle.gb_relations.proofs.ResultLaws.{IsTested-zero}
use Rattle.gb_relations.proofs.MachineLaws.{Overwrites, overwritten}
use Rattle.gb_relations.proofs.PointedBitsLaws.{not_both, elsewhere}
use Rattle.gb_relations.proofs.AddressLaws.{IsAt, placed-ram, IsAt-stored_at, IsAt-loaded_at}

-- ---- forgetting

-- memory may change where there is no place
pub HoldOneByte-elsewhere :
    (b : OneByte) (x : Registers ℕ) (memory after : ℕ → ℕ) (f : Flags)
    → ((a : ℕ) → b.address ≡ Some a → after a ≡ memory a) → HoldOneByte b x memory f → HoldOneByte b x after f
HoldOneByte-elsewhere b x memory after f same h =
    record {
      byte = h.byte;
      small = h.small;
      registers = h.registers;
      address = λ a e. same a e ∙ h.address a e;
      test = h.test;
    }

HoldOneByte-overwritten :
    (rs : List Register) (b : OneByte) (x y : Registers ℕ) (memory : ℕ → ℕ) (f : Flags)
    → HoldOneByte b x memory f → HoldOneByte (bytes.without_registers rs b) (overwritten rs x y) memory f
HoldOneByte-overwritten [] b x y memory f h = h
HoldOneByte-overwritten (r ∷ rest) b x y memory f h =
    HoldOneByte-overwritten rest _ (set r (get r y) x) y memory f ((without_register_sound r b _ refl).gives x memory f (get r y) h)

HoldOneByte-flags :
    (writes : Bool) (b : OneByte) (x : Registers ℕ) (memory : ℕ → ℕ) (f g : Flags)
    → (writes ≡ false → g ≡ f) → HoldOneByte b x memory f → HoldOneByte (bytes.without_test_if writes b) x memory g
HoldOneByte-flags true b x memory f g same h = (without_test_sound b _ refl).gives x memory f g h
HoldOneByte-flags false b x memory f g same h = subst (λ k. HoldOneByte b x memory k) (sym (same refl)) h

-- these registers and the flags are written
pub HoldOneByte-left :
    (writes : Bool) (rs : List Register) (b : OneByte) (x y : Registers ℕ) (memory : ℕ → ℕ) (f g : Flags)
    → Overwrites rs x y → (writes ≡ false → g ≡ f) → HoldOneByte b x memory f
    → HoldOneByte (bytes.without_test_if writes (bytes.without_registers rs b)) y memory g
HoldOneByte-left writes rs b x y memory f g over same h =
    subst (λ z. HoldOneByte (bytes.without_test_if writes (bytes.without_registers rs b)) z memory g) (sym over)
    (HoldOneByte-flags writes (bytes.without_registers rs b) (overwritten rs x y) memory f g same
    (HoldOneByte-overwritten rs b x y memory f h))

-- some registers are written, and no flags
pub HoldOneByte-registers :
    (rs : List Register) (b : OneByte) (x y : Registers ℕ) (memory : ℕ → ℕ) (f : Flags)
    → Overwrites rs x y → HoldOneByte b x memory f → HoldOneByte (bytes.without_registers rs b) y memory f
HoldOneByte-registers rs b x y memory f over h =
    subst (λ z. HoldOneByte (bytes.without_registers rs b) z memory f) (sym over) (HoldOneByte-overwritten rs b x y memory f h)

-- one of some addresses is written
pub HoldOneByte-without_all :
    (bits : Option LowBits) (addresses : Bounds) (a : ℕ) (b : OneByte) (x : Registers ℕ) (memory after : ℕ → ℕ) (f : Flags)
    → HasIf bits a → Within addresses a → IsKeptBut a memory after → HoldOneByte b x memory f
    → HoldOneByte (bytes.without_all bits addresses b) x after f
HoldOneByte-without_all bits addresses a b x memory after f has in_it kept h = choose (bytes.may_meet bits b.address) refl
  where
    other : (address : Option ℕ) → bytes.may_meet bits address ≡ false → (c : ℕ) → address ≡ Some c → c ≡ a → ⊥
    other None none c e = absurd (not_both none)
    other (Some d) none c e = elsewhere bits a c has (subst (λ n. bytes.may_meet bits n ≡ false) e none)

    choose : (meets : Bool) → bytes.may_meet bits b.address ≡ meets → HoldOneByte (cond meets (without_addresses addresses.first addresses.last b) b) x after f
    choose true e = (without_addresses_sound addresses.first addresses.last b _ refl).gives x memory after f a in_it.least in_it.most kept h
    choose false e = HoldOneByte-elsewhere b x memory after f (λ c is. kept c (other b.address e c is)) h

-- ---- copies

-- a register gets what was read, at the place if that is known
pub HoldOneByte-loaded :
    (to : Register) (stack : StackBytes) (a n : ℕ) (from : Option Place) (b : OneByte) (x : Registers ℕ) (memory : ℕ → ℕ) (f : Flags)
    → IsAt (is_place_at stack) a from → n < 256 → (is_ram a ≡ true → memory a ≡ n) → HoldOneByte b x memory f
    → HoldOneByte (bytes.loaded to from b) (set to n x) memory f
HoldOneByte-loaded to stack a n None b x memory f at small reads h = (without_register_sound to b _ refl).gives x memory f n h
HoldOneByte-loaded to stack a n (Some p) b x memory f at small reads h =
    let e : memory a ≡ n = reads (placed-ram stack a at.1) in
    subst (λ m. HoldOneByte (bytes.loaded to (Some p) b) (set to m x) memory f) e
    (subst (λ q. HoldOneByte (bytes.loaded to (Some q) b) (set to (memory a) x) memory f) (sym at.0)
    ((copied_sound_register to (place.Register to) (place.Address a) b _ refl refl).gives x memory f (omega arith) h))

-- a register is stored
pub HoldOneByte-stored :
    (bits : Option LowBits) (from : Register) (stack : StackBytes) (addresses : Bounds) (a : ℕ) (to : Option Place) (b : OneByte) (x : Registers ℕ) (memory after : ℕ → ℕ) (f : Flags)
    → HasIf bits a → IsAt (is_place_at stack) a to → Within addresses a → get from x < 256
    → (is_ram a ≡ true → after a ≡ get from x) → IsKeptBut a memory after → HoldOneByte b x memory f
    → HoldOneByte (bytes.stored bits from addresses to b) x after f
HoldOneByte-stored bits from stack addresses a None b x memory after f has at in_it small writes kept h =
    HoldOneByte-without_all bits addresses a b x memory after f has in_it kept h
HoldOneByte-stored bits from stack addresses a (Some p) b x memory after f has at in_it small writes kept h =
    subst (λ q. HoldOneByte (bytes.stored bits from addresses (Some q) b) x after f) (sym at.0)
    ((copied_sound_address a from (place.Address a) (place.Register from) b _ refl refl refl).gives x memory after f small (writes (placed-ram stack a at.1)) kept h)

-- LD of a byte
pub HoldOneByte-moved :
    (bits : Option LowBits) (stack : StackBytes) (to from : Operand) (v : Values) (b : OneByte) (p : Processor) (memory after : ℕ → ℕ) (l : ℕ)
    → WritesHas bits (store_operand p to (operand_value p from l)).write → Within (bytes.at_hl v) (hl p) → AreBytes p.registers → l < 256
    → Reads (operand_read p from) memory l → Writes stack (store_operand p to (operand_value p from l)).write memory after
    → HoldOneByte b p.registers memory p.flags
    → HoldOneByte (bytes.moved bits stack to from v b) (store_operand p to (operand_value p from l)).processor.registers after (store_operand p to (operand_value p from l)).processor.flags
unfolding store_operand operand_value operand_read
HoldOneByte-moved bits stack (operand.Register to) (operand.Register from) v b p memory after l has in_it small byte reads w h =
    HoldOneByte-elsewhere _ _ memory after p.flags (λ a e. w a)
    ((copied_sound_register to (place.Register to) (place.Register from) b _ refl refl).gives p.registers memory p.flags (small.each from) h)
HoldOneByte-moved bits stack (operand.Register to) operand.AtHl v b p memory after l has in_it small byte reads w h =
    HoldOneByte-elsewhere _ _ memory after p.flags (λ a e. w a)
    (HoldOneByte-loaded to stack (behind_echo (hl p)) l (loaded_at stack (bytes.at_hl v)) b p.registers memory p.flags (IsAt-loaded_at stack (bytes.at_hl v) (hl p) in_it.least in_it.most) byte reads h)
HoldOneByte-moved bits stack operand.AtHl (operand.Register from) v b p memory after l has in_it small byte reads w h =
    HoldOneByte-stored bits from stack (bytes.at_hl v) (hl p) (stored_at stack (bytes.at_hl v)) b p.registers memory after p.flags has (IsAt-stored_at stack (bytes.at_hl v) (hl p) in_it.least in_it.most) in_it (small.each from) w.0 w.1 h
HoldOneByte-moved bits stack operand.AtHl operand.AtHl v b p memory after l has in_it small byte reads w h =
    HoldOneByte-without_all bits (bytes.at_hl v) (hl p) b p.registers memory after p.flags has in_it w.1 h

-- ---- tests

-- a place alone, of which Z says whether it holds 0
HoldOneByte-zero :
    (p : Place) (x : Registers ℕ) (memory : ℕ → ℕ) (f : Flags)
    → held_at p x memory < 256 → f.zero ≡ (held_at p x memory == 0) → HoldOneByte (only_tested p bytes.is_zero_test) x memory f
HoldOneByte-zero p x memory f small e =
    (only_tested_sound p bytes.is_zero_test _ refl).gives x memory f small (IsTested-zero (held_at p x memory) f small e)

pub HoldOneByte-zero_register :
    (r : Register) (n : ℕ) (x : Registers ℕ) (memory : ℕ → ℕ) (f : Flags)
    → n < 256 → f.zero ≡ (n == 0) → HoldOneByte (only_tested (place.Register r) bytes.is_zero_test) (set r n x) memory f
HoldOneByte-zero_register r n x memory f small e =
    let is : get r (set r n x) ≡ n = get_same r n x in
    HoldOneByte-zero (place.Register r) (set r n x) memory f (subst (λ m. m < 256) (sym is) small)
    (subst (λ m. f.zero ≡ (m == 0)) (sym is) e)

HoldOneByte-computed_at :
    (bits : Option LowBits) (stack : StackBytes) (addresses : Bounds) (a n : ℕ) (to : Option Place) (b : OneByte) (x : Registers ℕ) (memory after : ℕ → ℕ) (f g : Flags)
    → HasIf bits a → IsAt (is_place_at stack) a to → Within addresses a → n < 256 → g.zero ≡ (n == 0)
    → (is_ram a ≡ true → after a ≡ n) → IsKeptBut a memory after → HoldOneByte b x memory f
    → HoldOneByte (bytes.computed_at bits to addresses b) x after g
HoldOneByte-computed_at bits stack addresses a n None b x memory after f g has at in_it small e writes kept h =
    (without_test_sound (bytes.without_all bits addresses b) _ refl).gives x after f g (HoldOneByte-without_all bits addresses a b x memory after f has in_it kept h)
HoldOneByte-computed_at bits stack addresses a n (Some p) b x memory after f g has at in_it small e writes kept h =
    let is : after a ≡ n = writes (placed-ram stack a at.1) in
    subst (λ q. HoldOneByte (only_tested q bytes.is_zero_test) x after g) (sym at.0)
    (HoldOneByte-zero (place.Address a) x after g (subst (λ m. m < 256) (sym is) small) (subst (λ m. g.zero ≡ (m == 0)) (sym is) e))

-- an operand becomes what is computed, and Z says whether that is 0
pub HoldOneByte-computed :
    (bits : Option LowBits) (stack : StackBytes) (which : Operand) (v : Values) (b : OneByte) (p : Processor) (c : Computed) (memory after : ℕ → ℕ)
    → WritesHas bits (update_operand p which c).write → Within (bytes.at_hl v) (hl p) → c.value < 256 → c.flags.zero ≡ (c.value == 0)
    → Writes stack (update_operand p which c).write memory after
    → HoldOneByte b p.registers memory p.flags
    → HoldOneByte (bytes.computed bits stack which v b) (update_operand p which c).processor.registers after (update_operand p which c).processor.flags
unfolding update_operand store_operand pair_value
HoldOneByte-computed bits stack (operand.Register r) v b p c memory after has in_it small e w h =
    HoldOneByte-zero_register r c.value p.registers after c.flags small e
HoldOneByte-computed bits stack operand.AtHl v b p c memory after has in_it small e w h =
    HoldOneByte-computed_at bits stack (bytes.at_hl v) (hl p) c.value (stored_at stack (bytes.at_hl v)) b p.registers memory after p.flags c.flags has (IsAt-stored_at stack (bytes.at_hl v) (hl p) in_it.least in_it.most) in_it small e w.0 w.1 h

HoldOneByte-bit_at :
    (stack : StackBytes) (a l n : ℕ) (from : Option Place) (b : OneByte) (x : Registers ℕ) (memory : ℕ → ℕ) (f : Flags)
    → IsAt (is_place_at stack) a from → l < 256 → (is_ram a ≡ true → memory a ≡ l) → HoldOneByte b x memory f
    → HoldOneByte (bytes.bit_tested_at from n b) x memory (bit_tested n l f)
unfolding bit_tested
HoldOneByte-bit_at stack a l n None b x memory f at small reads h = (without_test_sound b _ refl).gives x memory f _ h
HoldOneByte-bit_at stack a l n (Some p) b x memory f at small reads h =
    let e : memory a ≡ l = reads (placed-ram stack a at.1) in
    subst (λ m. HoldOneByte (bytes.bit_tested_at (Some p) n b) x memory (bit_tested n m f)) e
    (subst (λ q. HoldOneByte (bytes.bit_tested_at (Some q) n b) x memory (bit_tested n (memory a) f)) (sym at.0)
    ((tested_sound (place.Address a) (bytes.bit_of n) b _ refl).gives x memory f (bit_tested n (memory a) f) (omega arith) refl h))

HoldOneByte-bit_of :
    (r : Register) (n : ℕ) (b : OneByte) (x : Registers ℕ) (memory : ℕ → ℕ) (f : Flags)
    → get r x < 256 → HoldOneByte b x memory f
    → HoldOneByte (tested (place.Register r) (bytes.bit_of n) b) x memory (bit_tested n (get r x) f)
unfolding bit_tested
HoldOneByte-bit_of r n b x memory f small h = (tested_sound (place.Register r) (bytes.bit_of n) b _ refl).gives x memory f _ small refl h

-- BIT
pub HoldOneByte-bit :
    (stack : StackBytes) (n : ℕ) (which : Operand) (v : Values) (b : OneByte) (p : Processor) (memory : ℕ → ℕ) (l : ℕ)
    → Within (bytes.at_hl v) (hl p) → AreBytes p.registers → l < 256 → Reads (operand_read p which) memory l
    → HoldOneByte b p.registers memory p.flags
    → HoldOneByte (bytes.bit_tested stack n which v b) p.registers memory (bit_tested n (operand_value p which l) p.flags)
unfolding operand_value operand_read
HoldOneByte-bit stack n (operand.Register r) v b p memory l in_it small byte reads h =
    HoldOneByte-bit_of r n b p.registers memory p.flags (small.each r) h
HoldOneByte-bit stack n operand.AtHl v b p memory l in_it small byte reads h =
    HoldOneByte-bit_at stack (behind_echo (hl p)) l n (loaded_at stack (bytes.at_hl v)) b p.registers memory p.flags (IsAt-loaded_at stack (bytes.at_hl v) (hl p) in_it.least in_it.most) byte reads h
