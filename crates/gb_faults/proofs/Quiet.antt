-- Accesses and fetches without a fault.
use Rattle.std.proofs.Common.{◌≡◌, ℕ, ◌+◌, ◌-◌, ◌%◌, ◌/◌, ◌<◌, ◌≤◌, ◌==◌, ◌&&◌, ◌||◌, ◌⊎◌, inl, inr, not, Bool, true, false, refl, sym, ◌∙◌, arith}
use Rattle.std.proofs.lemmas.Bool.Decides.{nat_tests}
use Rattle.gb_ops.specs.declared.machine.Mapped.{Mapped}
use Rattle.gb_ops.specs.declared.machine.Mapped.TheVariants as mapped
use Rattle.gb_ops.specs.declared.machine.Region.{Region}
use Rattle.gb_ops.specs.declared.machine.Write.TheVariants as write
use Rattle.gb_ops.specs.Cartridge.{is_within}
use Rattle.gb_ops.specs.Faults.{no_faults, either_faults, access_faults, write_faults, push_faults, store_faults, is_ram_closed}
use Rattle.gb_ops.specs.Memory.{View, is_closed, wrote, wrote_by, kept_or, mapped_at}
use Rattle.gb_faults.specs.Quiet.{IsQuietAddress, IsSafePush}

-- ---- single accesses

no_transfer : (m : View) (a : ℕ) → m.storage.count ≡ 0 → is_closed m.storage a ≡ false
unfolding is_closed
no_transfer m a none = rw none refl

and_false : (a b : Bool) → a ≡ false → (a && b) ≡ false
and_false a b h = rw h refl

and_last : (a b : Bool) → b ≡ false → (a && b) ≡ false
and_last true b h = h
and_last false b h = refl

pub quiet_access : (m : View) (a : ℕ) → m.storage.count ≡ 0 → is_within 0xA000 0xBFFF a ≡ false → access_faults m a ≡ no_faults
unfolding access_faults
quiet_access m a none out = rw (no_transfer m a none, out) refl

quiet_ram : (m : View) (a : ℕ) → m.storage.count ≡ 0 → is_ram_closed m ≡ false → access_faults m a ≡ no_faults
unfolding access_faults
quiet_ram m a none reached = rw (no_transfer m a none, reached, and_last (is_within 0xA000 0xBFFF a) false refl) refl

quiet_write : (m : View) (a v : ℕ) → m.storage.count ≡ 0 → is_within 0xA000 0xBFFF a ≡ false → (a == 0xFF46) ≡ false → write_faults m a v ≡ no_faults
unfolding write_faults access_faults
quiet_write m a v none out other = rw (no_transfer m a none, out, other) refl

quiet_store : (m : View) (a v : ℕ) → m.storage.count ≡ 0 → is_within 0xA000 0xBFFF a ≡ false → is_within 0xA0 0xBF v ≡ false → write_faults m a v ≡ no_faults
unfolding write_faults access_faults
quiet_store m a v none out small = rw (no_transfer m a none, out, small, and_last (a == 0xFF46) false refl) refl

open_write : (m : View) (a v : ℕ) → m.storage.count ≡ 0 → is_ram_closed m ≡ false → write_faults m a v ≡ no_faults
unfolding write_faults access_faults
open_write m a v none reached =
    rw (no_transfer m a none, reached, and_last (is_within 0xA000 0xBFFF a || ((a == 0xFF46) && is_within 0xA0 0xBF v)) false refl) refl

not_closed : (b : Bool) → not b ≡ true → b ≡ false
not_closed true h = sym h
not_closed false h = refl

-- cartridge RAM that can be reached
pub quiet_open : (m : View) (a : ℕ) → m.storage.count ≡ 0 → not (is_ram_closed m) ≡ true → IsQuietAddress m a
quiet_open m a none reached = record {
  reads = quiet_ram m a none (not_closed _ reached);
  writes = λ v. open_write m a v none (not_closed _ reached);
}

outside_ram : (a : ℕ) → (0xA000 ≤ a → a ≤ 0xBFFF → ⊥) → is_within 0xA000 0xBFFF a ≡ false
outside_ram a h = grind (arith, nat_tests, h)

not_started : (a : ℕ) → a < 0xFF00 → (a == 0xFF46) ≡ false
not_started a h = grind (arith, nat_tests)

-- any other address below the registers
pub quiet_elsewhere : (m : View) (a : ℕ) → m.storage.count ≡ 0 → (0xA000 ≤ a → a ≤ 0xBFFF → ⊥) → a < 0xFF00 → IsQuietAddress m a
quiet_elsewhere m a none out low = record {
  reads = quiet_access m a none (outside_ram a out);
  writes = λ v. quiet_write m a v none (outside_ram a out) (not_started a low);
}

-- ---- the registers FF00 to FFFF

high_is_outside : (b : ℕ) → is_within 0xA000 0xBFFF (0xFF00 + b) ≡ false
high_is_outside b = grind (arith, nat_tests)

pub quiet_high_load : (m : View) (b : ℕ) → m.storage.count ≡ 0 → access_faults m (0xFF00 + b) ≡ no_faults
quiet_high_load m b none = quiet_access m (0xFF00 + b) none (high_is_outside b)

pub quiet_high_store : (m : View) (b v : ℕ) → m.storage.count ≡ 0 → is_within 0xA0 0xBF v ≡ false → write_faults m (0xFF00 + b) v ≡ no_faults
quiet_high_store m b v none small = quiet_store m (0xFF00 + b) v none (high_is_outside b) small

-- ---- the stack

pop_is_outside : (sp : ℕ) → 0xC000 ≤ sp → sp < 65536 → (is_within 0xA000 0xBFFF sp ≡ false) × (is_within 0xA000 0xBFFF ((sp + 1) % 65536) ≡ false)
pop_is_outside sp h small = (grind (arith, nat_tests), grind (arith, nat_tests))

pub quiet_pop : (m : View) (sp : ℕ) → m.storage.count ≡ 0 → 0xC000 ≤ sp → sp < 65536 → (access_faults m sp ≡ no_faults) × (access_faults m ((sp + 1) % 65536) ≡ no_faults)
quiet_pop m sp none h small = let out = pop_is_outside sp h small in (quiet_access m sp none out.0, quiet_access m ((sp + 1) % 65536) none out.1)

-- a write leaves a transfer's count
kept_count : (b : Bool) (m n : View) → n.storage.count ≡ m.storage.count → (kept_or b m n).storage.count ≡ m.storage.count
kept_count true m n h = refl
kept_count false m n h = h

by_count : (to : Mapped) (m : View) (a v : ℕ) → (wrote_by to m a v).storage.count ≡ m.storage.count
by_count mapped.Rom m a v = refl
by_count mapped.CartridgeRam m a v = refl
by_count (mapped.WorkRam i) m a v = refl
by_count (mapped.HighRam i) m a v = refl
by_count mapped.InterruptEnable m a v = refl
by_count mapped.Transfer m a v = refl
by_count mapped.Hardware m a v = refl

wrote_count : (m : View) (a v : ℕ) → (wrote m a v).storage.count ≡ m.storage.count
unfolding wrote
wrote_count m a v = kept_count (is_closed m.storage a) m _ (by_count (mapped_at a) m a v)

-- one byte of a push
record IsSafeByte (region : Region) (a : ℕ) : Type 0 where
  inside : is_within region.first region.last a ≡ true
  outside : is_within 0xA000 0xBFFF a ≡ false
  other : (a == 0xFF46) ≡ false

safe_byte : (first last a : ℕ) → first ≤ a → a ≤ last → 0xC000 ≤ first → ((last < 0xFE00) ⊎ (0xFF80 ≤ first))
    → (is_within first last a ≡ true) × (is_within 0xA000 0xBFFF a ≡ false) × ((a == 0xFF46) ≡ false)
safe_byte first last a least most ram (inl low) = (grind (arith, nat_tests), grind (arith, nat_tests), grind (arith, nat_tests))
safe_byte first last a least most ram (inr high) = (grind (arith, nat_tests), grind (arith, nat_tests), grind (arith, nat_tests))

quiet_push_byte : (region : Region) (m : View) (a v : ℕ) → m.storage.count ≡ 0 → IsSafeByte region a → push_faults region m a v ≡ no_faults
unfolding push_faults
quiet_push_byte region m a v none safe = rw (quiet_write m a v none safe.outside safe.other, safe.inside) refl

pushed_at : (sp : ℕ) → 2 ≤ sp → sp < 65537 → ((sp + 65535) % 65536 ≡ sp - 1) × ((sp + 65534) % 65536 ≡ sp - 2)
pushed_at sp least most = (omega arith, omega arith)

push_bytes : (region : Region) (sp : ℕ) → IsSafePush region sp → IsSafeByte region (sp - 1) × IsSafeByte region (sp - 2)
push_bytes region sp s =
    let a = safe_byte region.first region.last (sp - 1) (omega (arith, s.least)) (omega (arith, s.most)) s.ram s.no_register in
    let b = safe_byte region.first region.last (sp - 2) (omega (arith, s.least)) (omega (arith, s.most, s.least)) s.ram s.no_register in
    (record { inside = a.0; outside = a.1; other = a.2 }, record { inside = b.0; outside = b.1; other = b.2 })

pub quiet_push : (region : Region) (m : View) (sp v : ℕ) → m.storage.count ≡ 0 → sp < 65536 → IsSafePush region sp → store_faults region m (write.Push sp v) ≡ no_faults
unfolding store_faults either_faults
quiet_push region m sp v none small s =
    let at = pushed_at sp (omega (arith, s.least)) (omega arith) in
    let bytes = push_bytes region sp s in
    let first = quiet_push_byte region m (sp - 1) (v / 256) none bytes.0 in
    let second = quiet_push_byte region (wrote m (sp - 1) (v / 256)) (sp - 2) (v % 256) (wrote_count m (sp - 1) (v / 256) ∙ none) bytes.1 in
    rw (at.0, at.1, first, second) refl
