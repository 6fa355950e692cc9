-- Faults depend on the limits alone.
use Rattle.std.proofs.Common.{◌≡◌, ℕ, List, [], ◌∷◌, ◌+◌, ◌%◌, ◌/◌, ◌==◌, nat_lt, Bool, true, false, if◌then◌else◌, refl, sym, ap, subst, ◌∙◌, arith}
use Rattle.std.proofs.lemmas.Bool.Decides.{nat_tests}
use Rattle.gb_ops.specs.declared.machine.Banks.{Banks}
use Rattle.gb_ops.specs.declared.machine.Kind.{Kind}
use Rattle.gb_ops.specs.declared.machine.Kind.TheVariants as kind
use Rattle.gb_ops.specs.declared.machine.Region.{Region}
use Rattle.gb_ops.specs.declared.machine.Read.{Read}
use Rattle.gb_ops.specs.declared.machine.Read.TheVariants as read
use Rattle.gb_ops.specs.declared.machine.Write.{Write}
use Rattle.gb_ops.specs.declared.machine.Write.TheVariants as write
use Rattle.gb_ops.specs.declared.machine.Mapped.{Mapped}
use Rattle.gb_ops.specs.declared.machine.Mapped.TheVariants as mapped
use Rattle.gb_ops.specs.Cartridge.{kind_of, kind_after, banks_after, with_gate, mbc1_after, mbc3_after, mbc5_after}
use Rattle.gb_ops.specs.Memory.{View, is_closed, mapped_at, wrote, wrote_by, kept_or}
use Rattle.gb_ops.specs.Faults.{access_faults, fetch_faults, write_faults, push_faults, load_faults, store_faults, all_fetch_faults, is_ram_closed}
use Rattle.gb_faults.specs.Limits.{limits, limits_of, has_gate}

pub access_limits : (m : View) (a : ℕ) → access_faults (limits_of m) a ≡ access_faults m a
unfolding access_faults is_closed is_ram_closed limits_of limits
access_limits m a = refl

pub fetch_limits : (m : View) (a : ℕ) → fetch_faults (limits_of m) a ≡ fetch_faults m a
unfolding fetch_faults
fetch_limits m a = rw (access_limits m a) refl

pub write_limits : (m : View) (a v : ℕ) → write_faults (limits_of m) a v ≡ write_faults m a v
unfolding write_faults access_faults is_closed is_ram_closed limits_of limits
write_limits m a v = refl

pub push_limits : (region : Region) (m : View) (a v : ℕ) → push_faults region (limits_of m) a v ≡ push_faults region m a v
unfolding push_faults
push_limits region m a v = rw (write_limits m a v) refl

pub load_limits : (m : View) (what : Read) → load_faults (limits_of m) what ≡ load_faults m what
unfolding load_faults
load_limits m read.Nothing = refl
load_limits m (read.Byte a) = access_limits m a
load_limits m (read.Word a) = rw (access_limits m a, access_limits m ((a + 1) % 65536)) refl

pub all_limits : (m : View) (addresses : List ℕ) → all_fetch_faults (limits_of m) addresses ≡ all_fetch_faults m addresses
all_limits m [] = refl
all_limits m (a ∷ rest) = rw (fetch_limits m a, all_limits m rest) refl

-- ---- a write changes the limits as it changes the gate

abbrev pub gate_by : Bool → ℕ → Bool → Bool
gate_by true v gate = v % 16 == 10
gate_by false v gate = gate

one_of : (b : Bool) (x y : Banks) (gate : Bool) → x.gate ≡ gate → y.gate ≡ gate → (if b then x else y).gate ≡ gate
one_of true x y gate hx hy = hx
one_of false x y gate hx hy = hy

first_of : (b : Bool) (r x : Banks) (v : ℕ) → x.gate ≡ r.gate → (if b then with_gate r v else x).gate ≡ gate_by b v r.gate
first_of true r x v h = refl
first_of false r x v h = h

-- the gate after a write to the controller's registers
kind_gate : (k : Kind) (r : Banks) (a v : ℕ) → (kind_after k r a v).gate ≡ gate_by (has_gate k a) v r.gate
unfolding mbc1_after mbc3_after mbc5_after
kind_gate kind.Rom r a v = refl
kind_gate kind.Mbc1 r a v = first_of (nat_lt a 0x2000) r _ v (one_of (nat_lt a 0x4000) _ _ r.gate refl (one_of (nat_lt a 0x6000) _ _ r.gate refl refl))
kind_gate kind.Mbc3 r a v = first_of (nat_lt a 0x2000) r _ v (one_of (nat_lt a 0x4000) _ _ r.gate refl (one_of (nat_lt a 0x6000) _ _ r.gate refl refl))
kind_gate kind.Mbc5 r a v =
    first_of (nat_lt a 0x2000) r _ v
    (one_of (nat_lt a 0x3000) _ _ r.gate refl (one_of (nat_lt a 0x4000) _ _ r.gate refl (one_of (nat_lt a 0x6000) _ _ r.gate refl refl)))

banks_gate : (rom : List ℕ) (r : Banks) (a v : ℕ) → (banks_after rom r a v).gate ≡ gate_by (has_gate (kind_of rom) a) v r.gate
unfolding banks_after
banks_gate rom r a v = kind_gate (kind_of rom) r a v

by_limits : (to : Mapped) (m : View) (a v : ℕ) → limits_of (wrote_by to (limits_of m) a v) ≡ limits_of (wrote_by to m a v)
unfolding limits_of limits
by_limits mapped.Rom m a v =
    ap (λ (g : Bool). limits m.rom g m.storage.count)
    (banks_gate m.rom (record { bank = 0; second = 0; gate = m.storage.banks.gate; mode = false }) a v ∙ sym (banks_gate m.rom m.storage.banks a v))
by_limits mapped.CartridgeRam m a v = refl
by_limits (mapped.WorkRam i) m a v = refl
by_limits (mapped.HighRam i) m a v = refl
by_limits mapped.InterruptEnable m a v = refl
by_limits mapped.Transfer m a v = refl
by_limits mapped.Hardware m a v = refl

kept_limits : (b : Bool) (m n p : View) → limits_of p ≡ limits_of n → limits_of (kept_or b (limits_of m) p) ≡ limits_of (kept_or b m n)
unfolding limits_of limits
kept_limits true m n p h = refl
kept_limits false m n p h = h

closed_limits : (m : View) (a : ℕ) → is_closed (limits_of m).storage a ≡ is_closed m.storage a
unfolding is_closed limits_of limits
closed_limits m a = refl

pub wrote_limits : (m : View) (a v : ℕ) → limits_of (wrote (limits_of m) a v) ≡ limits_of (wrote m a v)
unfolding wrote
wrote_limits m a v =
    rw (closed_limits m a)
    (kept_limits (is_closed m.storage a) m (wrote_by (mapped_at a) m a v) (wrote_by (mapped_at a) (limits_of m) a v)
    (by_limits (mapped_at a) m a v))

second_write : (m : View) (a v b w : ℕ) → write_faults (wrote (limits_of m) a v) b w ≡ write_faults (wrote m a v) b w
second_write m a v b w =
    rw (← write_limits (wrote (limits_of m) a v) b w, wrote_limits m a v, write_limits (wrote m a v) b w) refl

second_push : (region : Region) (m : View) (a v b w : ℕ) → push_faults region (wrote (limits_of m) a v) b w ≡ push_faults region (wrote m a v) b w
second_push region m a v b w =
    rw (← push_limits region (wrote (limits_of m) a v) b w, wrote_limits m a v, push_limits region (wrote m a v) b w) refl

pub store_limits : (region : Region) (m : View) (what : Write) → store_faults region (limits_of m) what ≡ store_faults region m what
unfolding store_faults
store_limits region m write.Nothing = refl
store_limits region m (write.Byte a v) = write_limits m a v
store_limits region m (write.Word a w) = rw (write_limits m a (w % 256), second_write m a (w % 256) ((a + 1) % 65536) (w / 256)) refl
store_limits region m (write.Push sp w) =
    rw
    (push_limits region m ((sp + 65535) % 65536) (w / 256), second_push region m ((sp + 65535) % 65536) (w / 256) ((sp + 65534) % 65536) (w % 256))
    refl

-- ---- the gate after a write

-- where the controller has no gate
same_written : (to : Mapped) (rom : List ℕ) (gate : Bool) (count a v : ℕ) → has_gate (kind_of rom) a ≡ false → limits_of (wrote_by to (limits rom gate count) a v) ≡ limits rom gate count
unfolding limits_of limits
same_written mapped.Rom rom gate count a v none =
    ap (λ (g : Bool). limits rom g count)
    (banks_gate rom (record { bank = 0; second = 0; gate = gate; mode = false }) a v ∙ ap (λ (b : Bool). gate_by b v gate) none)
same_written mapped.CartridgeRam rom gate count a v none = refl
same_written (mapped.WorkRam i) rom gate count a v none = refl
same_written (mapped.HighRam i) rom gate count a v none = refl
same_written mapped.InterruptEnable rom gate count a v none = refl
same_written mapped.Transfer rom gate count a v none = refl
same_written mapped.Hardware rom gate count a v none = refl

same_kept : (b : Bool) (rom : List ℕ) (gate : Bool) (count : ℕ) (n : View) → limits_of n ≡ limits rom gate count → limits_of (kept_or b (limits rom gate count) n) ≡ limits rom gate count
unfolding limits_of limits
same_kept true rom gate count n h = refl
same_kept false rom gate count n h = h

stays_by : (rom : List ℕ) (gate : Bool) (count a v : ℕ) → has_gate (kind_of rom) a ≡ false → limits_of (wrote (limits rom gate count) a v) ≡ limits rom gate count
unfolding wrote
stays_by rom gate count a v none = same_kept _ rom gate count _ (same_written (mapped_at a) rom gate count a v none)

stays_closed : (rom : List ℕ) (gate : Bool) (count a v : ℕ) → is_closed (limits rom gate count).storage a ≡ true → limits_of (wrote (limits rom gate count) a v) ≡ limits rom gate count
unfolding wrote limits_of limits
stays_closed rom gate count a v closed = rw closed refl

gate_low : (k : Kind) (a : ℕ) → has_gate k a ≡ true → nat_lt a 0x2000 ≡ true
gate_low kind.Rom a h = absurd (let bad : false ≡ true = h in cc)
gate_low kind.Mbc1 a h = h
gate_low kind.Mbc3 a h = h
gate_low kind.Mbc5 a h = h

in_rom : (a : ℕ) → nat_lt a 0x2000 ≡ true → mapped_at a ≡ mapped.Rom
unfolding mapped_at
in_rom a low = let below : nat_lt a 0x8000 ≡ true = grind (arith, nat_tests, low) in rw below refl

gate_written : (rom : List ℕ) (gate : Bool) (count a v : ℕ) → has_gate (kind_of rom) a ≡ true → is_closed (limits rom gate count).storage a ≡ false
    → limits_of (wrote (limits rom gate count) a v) ≡ limits rom (v % 16 == 10) count
unfolding wrote limits_of limits
gate_written rom gate count a v has unclosed =
    rw (unclosed, in_rom a (gate_low (kind_of rom) a has))
    (ap (λ (g : Bool). limits rom g count)
    (banks_gate rom (record { bank = 0; second = 0; gate = gate; mode = false }) a v ∙ ap (λ (b : Bool). gate_by b v gate) has))

-- ---- the same of a view that is known to be limits

pub gate_is : (k : Kind) (m : View) (rom : List ℕ) (gate : Bool) (count a : ℕ) → limits rom gate count ≡ m → k ≡ kind_of rom → has_gate k a ≡ has_gate (kind_of m.rom) a
unfolding limits
gate_is k m rom gate count a e is = ap (λ (j : Kind). has_gate j a) is ∙ ap (λ (n : View). has_gate (kind_of n.rom) a) e

pub other_gate : (k : Kind) (a : ℕ) → (k ≡ kind.Rom → ⊥) → nat_lt a 0x2000 ≡ has_gate k a
other_gate kind.Rom a other = absurd (other refl)
other_gate kind.Mbc1 a other = refl
other_gate kind.Mbc3 a other = refl
other_gate kind.Mbc5 a other = refl

pub stays_without : (m : View) (rom : List ℕ) (gate : Bool) (count a v : ℕ) → limits rom gate count ≡ m → has_gate (kind_of m.rom) a ≡ false → limits m.rom gate m.storage.count ≡ limits_of (wrote m a v)
unfolding limits
stays_without m rom gate count a v e none =
    subst (λ (n : View). has_gate (kind_of n.rom) a ≡ false → limits n.rom gate n.storage.count ≡ limits_of (wrote n a v)) e (λ h. sym (stays_by rom gate count a v h)) none

pub stays_in_transfer : (m : View) (rom : List ℕ) (gate : Bool) (count a v : ℕ) → limits rom gate count ≡ m → is_closed m.storage a ≡ true → limits m.rom gate m.storage.count ≡ limits_of (wrote m a v)
unfolding limits
stays_in_transfer m rom gate count a v e closed =
    subst (λ (n : View). is_closed n.storage a ≡ true → limits n.rom gate n.storage.count ≡ limits_of (wrote n a v)) e (λ h. sym (stays_closed rom gate count a v h)) closed

pub gate_after : (m : View) (rom : List ℕ) (gate : Bool) (count a v : ℕ) → limits rom gate count ≡ m → has_gate (kind_of m.rom) a ≡ true → is_closed m.storage a ≡ false
    → limits m.rom (v % 16 == 10) m.storage.count ≡ limits_of (wrote m a v)
unfolding limits
gate_after m rom gate count a v e has unclosed =
    subst (λ (n : View). has_gate (kind_of n.rom) a ≡ true → is_closed n.storage a ≡ false → limits n.rom (v % 16 == 10) n.storage.count ≡ limits_of (wrote n a v)) e
    (λ h k. sym (gate_written rom gate count a v h k)) has unclosed
