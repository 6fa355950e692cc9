-- What an instruction stores is one of the stores that its states tell of, and the machine stores it so.
use Rattle.std.proofs.Common.{◌≡◌, ℕ, ◌+◌, ◌/◌, ◌%◌, ◌≤◌, Bool, true, false, not, ◌&&◌, ◌||◌, ◌==◌, cond, nat_lt, nat_le, ◌⊎◌, inl, inr, List, Option, Some, None, refl, sym, ◌∙◌, ap, subst, arith}
use Rattle.std.specs.Prelude.{IfSome}
use Rattle.std.proofs.lemmas.Bool.{not-false}
use Rattle.std.proofs.lemmas.Bool.Decides.{nat_tests}
use Rattle.gb_ops.specs.declared.machine.Banks.{Banks}
use Rattle.gb_ops.specs.declared.machine.Faults.{Faults}
use Rattle.gb_ops.specs.declared.machine.Kind.{Kind}
use Rattle.gb_ops.specs.declared.machine.Kind.TheVariants as kind
use Rattle.gb_ops.specs.declared.machine.Mapped.{Mapped}
use Rattle.gb_ops.specs.declared.machine.Mapped.TheVariants as mapped
use Rattle.gb_ops.specs.declared.machine.Read.{Read}
use Rattle.gb_ops.specs.declared.machine.Region.{Region}
use Rattle.gb_ops.specs.declared.machine.Write.{Write}
use Rattle.gb_ops.specs.declared.machine.Write.TheVariants as machine_write
use Rattle.gb_ops.specs.declared.op.Op.{Op}
use Rattle.gb_ops.specs.declared.op.Pointer.{Pointer}
use Rattle.gb_ops.specs.declared.op.Register.{Register}
use Rattle.gb_ops.specs.declared.registers.Processor.{Processor}
use Rattle.gb_ops.specs.declared.registers.Registers.{Registers}
use Rattle.gb_ops.specs.Cartridge.{kind_of, kind_after, is_within}
use Rattle.gb_ops.specs.Cartridge as Cartridge
use Rattle.gb_ops.specs.Effects as Effects
use Rattle.gb_ops.specs.Faults.{no_faults, access_faults, write_faults, push_faults, either_faults, store_faults}
use Rattle.gb_ops.specs.Memory.{View, mapped_at, is_closed, wrote_by, kept_or, wrote, stored}
use Rattle.gb_ops.specs.Pointers.{pointed, pointer_of, ReadsAt, WritesAt}
use Rattle.gb_ops.specs.Registers.{get}
use Rattle.gb_ops.proofs.PointerLaws.{follows}
use Rattle.gb_domain.specs.declared.low_bits.LowBits.{LowBits}
use Rattle.gb_domain.specs.declared.setting.Setting.{Setting}
use Rattle.gb_domain.specs.declared.types.Range.{Range}
use Rattle.gb_domain.specs.declared.types.Val.{Val}
use Rattle.gb_domain.specs.Areas.{IsRegion}
use Rattle.gb_domain.specs.LowBits.{no_low_bits, are_congruent}
use Rattle.gb_domain.specs.Meaning.{Has}
use Rattle.gb_domain.specs.Rules.{IsVal}
use Rattle.gb_domain.specs.Values.{interval_of}
use Rattle.gb_product.specs.Below.gb_copies.Windows.{is_in_window}
use Rattle.gb_product.specs.Below.gb_pairs.Meaning.{AreBytes}
use Rattle.gb_product.specs.Below.gb_summaries.Below.gb_ram_bounds.Addresses.{is_in}
use Rattle.gb_product.specs.Held.{stack_held}
use Rattle.gb_product.proofs.HeldLaws.{free_at}
use Rattle.gb_product.specs.Below.gb_summaries.declared.instruction.InstructionStore.TheVariants as stored_as
use Rattle.gb_product.specs.Below.gb_summaries.Instruction.{banks_after, StoresByte, StoresWord, Stores}
use Rattle.gb_product.specs.Below.gb_summaries.Stores.{ShareWindows}
use Rattle.gb_product.proofs.Below.gb_summaries_laws.KnownLaws.{In-interval}
use Rattle.gb_product.specs.Below.gb_abs.declared.span.Span.{Span}
use Rattle.gb_product.specs.Below.gb_abs.Span.{IsIn, one}
use Rattle.gb_product.proofs.Below.gb_abs_laws.SpanLaws.{Has-none, IsIn-alone}
use Rattle.gb_product.proofs.Below.gb_relations_laws.PointedBitsLaws.{Has-pointed as Has-at}
use Rattle.gb_product.specs.Below.gb_abs.Meaning.{Activation, Holds}
use Rattle.gb_product.specs.Below.gb_abs_effects.declared.writes.AbsWrite.{AbsWrite}
use Rattle.gb_product.specs.Below.gb_abs_effects.declared.writes.AbsWrite.TheVariants as write
use Rattle.gb_product.specs.Below.gb_abs_effects.Sound.{HoldsWrite, IsWrite}
use Rattle.gb_product.proofs.Below.gb_abs_effects_laws.CoreLaws.{In-from, byte-of}
use Rattle.gb_product.specs.Below.gb_relations.Sound.{Writes}
use Rattle.gb_abs_memory.specs.Access.{is_storable}
use Rattle.gb_successors.specs.Behind.{behind}
use Rattle.gb_successors.specs.Refused.{is_unstorable}
use Rattle.gb_successors.specs.Summaries.{pointed_bits, stored_by}
use Rattle.gb_successors.proofs.AccessLaws.{WritesInTurn}
use Rattle.gb_successors.proofs.AreaLaws.{same_area, storable_area}

-- ---- the controller's registers, as a program sees them

pub banks_seen : Kind → Write → Banks → Banks
banks_seen q machine_write.Nothing banks = banks
banks_seen q (machine_write.Byte a n) banks = banks_after q a n banks
banks_seen q (machine_write.Word a w) banks = banks_after q ((a + 1) % 65536) (w / 256) (banks_after q a (w % 256) banks)
banks_seen q (machine_write.Push sp w) banks = banks

-- what a write at a place of the map does to them, and to the cartridge
mapped_banks :
    (r t u v w y z : Bool) (i j : ℕ) (m : View) (a n : ℕ)
    → (wrote_by (cond r mapped.Rom (cond t mapped.Hardware (cond u mapped.CartridgeRam (cond v (mapped.WorkRam i) (cond w (cond y mapped.Transfer mapped.Hardware) (cond z (mapped.HighRam j) mapped.InterruptEnable)))))) m a n).storage.banks
    ≡ cond r (kind_after (kind_of m.rom) m.storage.banks a n) m.storage.banks
unfolding Cartridge.banks_after
mapped_banks true t u v w y z i j m a n = refl
mapped_banks false true u v w y z i j m a n = refl
mapped_banks false false true v w y z i j m a n = refl
mapped_banks false false false true w y z i j m a n = refl
mapped_banks false false false false true true z i j m a n = refl
mapped_banks false false false false true false z i j m a n = refl
mapped_banks false false false false false y true i j m a n = refl
mapped_banks false false false false false y false i j m a n = refl

same_rom : (k : Mapped) (m : View) (a n : ℕ) → (wrote_by k m a n).rom ≡ m.rom
same_rom mapped.Rom m a n = refl
same_rom (mapped.WorkRam i) m a n = refl
same_rom (mapped.HighRam i) m a n = refl
same_rom mapped.InterruptEnable m a n = refl
same_rom mapped.Transfer m a n = refl
same_rom mapped.CartridgeRam m a n = refl
same_rom mapped.Hardware m a n = refl

wrote_rom : (m : View) (a n : ℕ) → (wrote m a n).rom ≡ m.rom
unfolding wrote
wrote_rom m a n = by (is_closed m.storage a)
  where
    by : (c : Bool) → (kept_or c m (wrote_by (mapped_at a) m a n)).rom ≡ m.rom
    by true = refl
    by false = same_rom (mapped_at a) m a n

wrote_banks : (m : View) (a n : ℕ) → is_closed m.storage a ≡ false → (wrote m a n).storage.banks ≡ banks_after (kind_of m.rom) a n m.storage.banks
unfolding wrote mapped_at
wrote_banks m a n open_ =
    ap (λ c. (kept_or c m (wrote_by (mapped_at a) m a n)).storage.banks) open_
    ∙ mapped_banks (nat_lt a 0x8000) (nat_lt a 0xA000) (nat_lt a 0xC000) (nat_lt a 0xFE00) (nat_lt a 0xFF80) (a == 0xFF46) (nat_lt a 0xFFFF) _ _ m a n

either_false : (b c : Bool) → (b || c) ≡ false → (b ≡ false) × (c ≡ false)
either_false true c h = cc
either_false false c h = (refl, h)

high_banks : (k : Kind) (a n : ℕ) (banks : Banks) → 0x8000 ≤ a → banks_after k a n banks ≡ banks
high_banks k a n banks h = ap (λ b. cond b (kind_after k banks a n) banks) (in_high a h)
  where
    in_high : (b : ℕ) → 0x8000 ≤ b → nat_lt b 0x8000 ≡ false
    in_high b k = grind (arith, nat_tests)

region_high : (region : Region) (a : ℕ) → IsRegion region → not (is_within region.first region.last a) ≡ false → 0x8000 ≤ a
region_high region a is h =
    let area = is.area in
    grind (arith, nat_tests)

-- without a fault the machine's registers are those that the cartridge's controller leaves
pub stored_banks :
    (region : Region) (m : View) (w : Write) → IsRegion region → store_faults region m w ≡ no_faults → (stored m w).storage.banks ≡ banks_seen (kind_of m.rom) w m.storage.banks
unfolding stored store_faults write_faults push_faults access_faults either_faults banks_seen
stored_banks region m machine_write.Nothing is h = refl
stored_banks region m (machine_write.Byte a n) is h = wrote_banks m a n (ap (λ (f : Faults). f.transfer_met) h)
stored_banks region m (machine_write.Word a w) is h =
    let both = either_false _ _ (ap (λ (f : Faults). f.transfer_met) h) in
    wrote_banks (wrote m a (w % 256)) ((a + 1) % 65536) (w / 256) both.1
    ∙ (ap (λ rom. banks_after (kind_of rom) ((a + 1) % 65536) (w / 256) (wrote m a (w % 256)).storage.banks) (wrote_rom m a (w % 256))
    ∙ ap (banks_after (kind_of m.rom) ((a + 1) % 65536) (w / 256)) (wrote_banks m a (w % 256) both.0))
stored_banks region m (machine_write.Push sp w) is h =
    let high = (sp + 65535) % 65536 in
    let low = (sp + 65534) % 65536 in
    let both = either_false _ _ (ap (λ (f : Faults). f.transfer_met) h) in
    let inside = either_false _ _ (ap (λ (f : Faults). f.stack_outside) h) in
    (wrote_banks (wrote m high (w / 256)) low (w % 256) both.1 ∙ high_banks (kind_of (wrote m high (w / 256)).rom) low (w % 256) _ (region_high region low is inside.1))
    ∙ (wrote_banks m high (w / 256) both.0 ∙ high_banks (kind_of m.rom) high (w / 256) _ (region_high region high is inside.0))

-- ---- among the addresses

same_test : (n m : ℕ) → n ≡ m → (n == m) ≡ true
same_test n m e = grind (arith, nat_tests)

all_of : (b c d : Bool) → b ≡ true → c ≡ true → d ≡ true → (b && c && d) ≡ true
all_of true true true e f g = refl
all_of false c d e f g = cc
all_of true false d e f g = cc
all_of true true false e f g = cc

at_most : (n m : ℕ) → n ≤ m → nat_le n m ≡ true
at_most n m h = grind (arith, nat_tests)

pub among : (span : Span) (low : LowBits) (a : ℕ) → IsIn span a → Has low a → is_in (record { first = span.first; last = span.last; low = low }) a ≡ true
unfolding is_in are_congruent
among span low a i h =
    all_of _ _ _ (at_most span.first a i.first) (at_most a span.last i.last) (same_test _ _ h.same)

-- the low bits of an address are those of its pointer's low byte
pub Has-pointer :
    (q : Pointer) (registers : Registers Val) (entry : Activation) (p : Processor) (a : ℕ)
    → ((r : Register) → Holds (get r registers) entry (get r p.registers)) → AreBytes p.registers → a ≡ pointed p q → Has (pointed_bits (Some q) registers) a
Has-pointer q registers entry p a holds bytes at = Has-at q registers p a (λ r. In-from (get r registers) entry (get r p.registers) (holds r)) bytes at

Has-pointed :
    (o : Option Pointer) (registers : Registers Val) (entry : Activation) (p : Processor) (r : Read) (w : Write) (a n : ℕ)
    → ((q : Register) → Holds (get q registers) entry (get q p.registers)) → AreBytes p.registers
    → IfSome o (λ q. ReadsAt (pointed p q) r × WritesAt (pointed p q) w) → w ≡ machine_write.Byte a n → Has (pointed_bits o registers) a
unfolding WritesAt
Has-pointed None registers entry p r w a n holds bytes goes e = Has-none a
Has-pointed (Some q) registers entry p r w a n holds bytes goes e =
    Has-pointer q registers entry p a holds bytes (subst (λ v. WritesAt (pointed p q) v) e goes.1)

-- ---- one byte

-- a program's controller is the cartridge's, or none
abbrev pub IsSeen : Kind → List ℕ → Type 0
IsSeen q rom = (q ≡ kind.Rom) ⊎ (q ≡ kind_of rom)

no_windows : (a b : ℕ) → ShareWindows kind.Rom a b
unfolding is_in_window
no_windows a b = record { same = λ which. refl }

seen_windows : (q : Kind) (rom : List ℕ) (a b : ℕ) → IsSeen q rom → ShareWindows (kind_of rom) a b → ShareWindows q a b
seen_windows q rom a b (inl none) h = subst (λ k. ShareWindows k a b) (sym none) (no_windows a b)
seen_windows q rom a b (inr same) h = subst (λ k. ShareWindows k a b) (sym same) h

stores_one :
    (q : Kind) (z : Setting) (rom : List ℕ) (region : Region) (ranges : List Range) (count : ℕ) (span : Span) (low : LowBits) (v : Val) (entry : Activation) (a n : ℕ) (memory after : ℕ → ℕ) (banks : Banks)
    → IsSeen q rom → is_storable z (kind_of rom) region ranges span ≡ true → IsIn span a → Has low a → Holds v entry n → n ≤ 255
    → Writes (stack_held z region count) (machine_write.Byte a n) memory after
    → StoresByte q (record { first = span.first; last = span.last; low = low }) (interval_of v) a n memory after banks (banks_after q a n banks)
stores_one q z rom region ranges count span low v entry a n memory after banks seen storable i bits h le w =
    let area = same_area (kind_of rom) span a (storable_area z (kind_of rom) region ranges span storable) i in
    record {
      among = among span low a i bits;
      value = In-interval v n (In-from v entry n h);
      small = omega arith;
      in_controller = area.in_controller;
      in_ram = area.in_ram;
      windows = seen_windows q rom span.first a seen area.windows;
      stored = w.0;
      others = w.1;
      switches = refl;
    }

-- ---- each write

at_one : (a : ℕ) → IsIn (one a) a
at_one a = IsIn-alone a

byte_at_most : (v : Val) (entry : Activation) (n : ℕ) → IsVal v → Holds v entry n → n ≤ 255
byte_at_most v entry n is h = byte-of v entry n is h

both_storable : (b c : Bool) → (not b || not c) ≡ false → (b ≡ true) × (c ≡ true)
both_storable true true h = (refl, refl)
both_storable false c h = cc
both_storable true false h = cc

stores_word :
    (q : Kind) (z : Setting) (rom : List ℕ) (region : Region) (ranges : List Range) (count : ℕ) (a : ℕ) (low high : Val) (entry : Activation) (n : ℕ) (memory after : ℕ → ℕ) (banks : Banks)
    → IsSeen q rom → is_storable z (kind_of rom) region ranges (one a) ≡ true → is_storable z (kind_of rom) region ranges (one (behind a)) ≡ true
    → IsVal low → IsVal high → Holds low entry (n % 256) → Holds high entry (n / 256)
    → WritesInTurn (stack_held z region count) (machine_write.Word a n) memory after
    → StoresWord q a (interval_of low) (interval_of high) a n memory after banks (banks_after q (behind a) (n / 256) (banks_after q a (n % 256) banks))
stores_word q z rom region ranges count a low high entry n memory after banks seen here there is_low is_high l h w =
    record {
      middle = w.0;
      between = banks_after q a (n % 256) banks;
      first = stores_one q z rom region ranges count (one a) no_low_bits low entry a (n % 256) memory w.0 banks seen here (at_one a) (Has-none a) l (byte_at_most low entry _ is_low l) w.1;
      second = stores_one q z rom region ranges count (one (behind a)) no_low_bits high entry (behind a) (n / 256) w.0 after (banks_after q a (n % 256) banks) seen there (at_one (behind a)) (Has-none (behind a)) h
          (byte_at_most high entry _ is_high h) w.2;
    }

-- what the machine writes is stored as it is told
pub stores_told :
    (q : Kind) (z : Setting) (rom : List ℕ) (region : Region) (ranges : List Range) (count : ℕ) (o : Op) (registers : Registers Val) (what : AbsWrite) (entry : Activation) (sp : ℕ) (p : Processor) (l h : ℕ)
    (w : Write) (memory after : ℕ → ℕ) (banks : Banks)
    → IsSeen q rom → (Effects.effect_of o p l h).write ≡ w → HoldsWrite what entry sp w → IsWrite what → is_unstorable z (kind_of rom) region ranges what ≡ false
    → ((r : Register) → Holds (get r registers) entry (get r p.registers)) → AreBytes p.registers
    → WritesInTurn (stack_held z region count) w memory after → Stores q region (stored_by o registers what) w memory after banks (banks_seen q w banks)
unfolding stored_by is_unstorable banks_seen
stores_told q z rom region ranges count o registers write.Nothing entry sp p l h machine_write.Nothing memory after banks seen e f is allowed holds bytes w = (w, refl)
stores_told q z rom region ranges count o registers (write.Byte span v) entry sp p l h (machine_write.Byte a n) memory after banks seen e f is allowed holds bytes w =
    stores_one q z rom region ranges count span (pointed_bits (pointer_of o) registers) v entry a n memory after banks seen (not-false _ allowed) f.0
    (Has-pointed (pointer_of o) registers entry p (Effects.read_of o p) (Effects.effect_of o p l h).write a n holds bytes (follows o p l h) e) f.1 f.2 w
stores_told q z rom region ranges count o registers (write.Word a low high) entry sp p l h (machine_write.Word b n) memory after banks seen e f is allowed holds bytes w =
    let both = both_storable _ _ allowed in
    subst (λ c. Stores q region (stored_as.Word a (interval_of low) (interval_of high)) (machine_write.Word c n) memory after banks (banks_after q ((c + 1) % 65536) (n / 256) (banks_after q c (n % 256) banks))) (sym f.0)
    (stores_word q z rom region ranges count a low high entry n memory after banks seen both.0 both.1 is.0 is.1 f.1 f.2
    (subst (λ c. WritesInTurn (stack_held z region count) (machine_write.Word c n) memory after) f.0 w))
stores_told q z rom region ranges count o registers (write.Push high low) entry sp p l h (machine_write.Push a n) memory after banks seen e f is allowed holds bytes w =
    (λ b free. w b (free_at z region count b free), refl)
stores_told q z rom region ranges count o registers write.Nothing entry sp p l h (machine_write.Byte a n) memory after banks seen e f is allowed holds bytes w = absurd f
stores_told q z rom region ranges count o registers write.Nothing entry sp p l h (machine_write.Word a n) memory after banks seen e f is allowed holds bytes w = absurd f
stores_told q z rom region ranges count o registers write.Nothing entry sp p l h (machine_write.Push a n) memory after banks seen e f is allowed holds bytes w = absurd f
stores_told q z rom region ranges count o registers (write.Byte span v) entry sp p l h machine_write.Nothing memory after banks seen e f is allowed holds bytes w = absurd f
stores_told q z rom region ranges count o registers (write.Byte span v) entry sp p l h (machine_write.Word a n) memory after banks seen e f is allowed holds bytes w = absurd f
stores_told q z rom region ranges count o registers (write.Byte span v) entry sp p l h (machine_write.Push a n) memory after banks seen e f is allowed holds bytes w = absurd f
stores_told q z rom region ranges count o registers (write.Word a low high) entry sp p l h machine_write.Nothing memory after banks seen e f is allowed holds bytes w = absurd f
stores_told q z rom region ranges count o registers (write.Word a low high) entry sp p l h (machine_write.Byte b n) memory after banks seen e f is allowed holds bytes w = absurd f
stores_told q z rom region ranges count o registers (write.Word a low high) entry sp p l h (machine_write.Push b n) memory after banks seen e f is allowed holds bytes w = absurd f
stores_told q z rom region ranges count o registers (write.Push high low) entry sp p l h machine_write.Nothing memory after banks seen e f is allowed holds bytes w = absurd f
stores_told q z rom region ranges count o registers (write.Push high low) entry sp p l h (machine_write.Byte b n) memory after banks seen e f is allowed holds bytes w = absurd f
stores_told q z rom region ranges count o registers (write.Push high low) entry sp p l h (machine_write.Word b n) memory after banks seen e f is allowed holds bytes w = absurd f
