-- What is known of what is read, by facts and fills too, holds of it, and is a value.
use Rattle.std.proofs.Common.{◌≡◌, ℕ, ◌≤◌, ◌<◌, ◌==◌, nat_lt, Bool, true, false, cond, not, ◌||◌, List, [], ◌∷◌, ◌+◌, ◌%◌, ◌&&◌, slice_index, Option, Some, None, refl, sym, ◌∙◌, ap, subst, arith}
use Rattle.std.proofs.lemmas.Bool.{and_parts}
use Rattle.std.proofs.lemmas.Bool.Decides.{nat_tests}
use Rattle.std.specs.Prelude.{IfSome}
use Rattle.std.specs.List.{AllByRecursion}
use Rattle.gb_ops.specs.declared.machine.Faults.{Faults}
use Rattle.gb_ops.specs.declared.machine.Mapped.{Mapped}
use Rattle.gb_ops.specs.declared.machine.Mapped.TheVariants as mapped
use Rattle.gb_ops.specs.declared.machine.Read.{Read}
use Rattle.gb_ops.specs.declared.machine.Read.TheVariants as machine_read
use Rattle.gb_ops.specs.declared.machine.ReadSource.TheVariants as place
use Rattle.gb_ops.specs.declared.machine.Region.{Region}
use Rattle.gb_ops.specs.declared.machine.Write.{Write}
use Rattle.gb_ops.specs.declared.op.Pointer.{Pointer}
use Rattle.gb_ops.specs.declared.op.Register.{Register}
use Rattle.gb_ops.specs.declared.registers.Registers.{Registers}
use Rattle.gb_ops.specs.declared.registers.Processor.{Processor}
use Rattle.gb_ops.specs.Pointers.{pointed, ReadsAt, WritesAt}
use Rattle.gb_ops.specs.Registers.{get}
use Rattle.gb_ops.specs.Memory.{rom_byte, View, Storage, mapped_at, place_by, place_of, is_free_place, is_free, byte_by, byte_at, is_closed}
use Rattle.gb_ops.specs.Machine as Machine
use Rattle.gb_ops.specs.Machine.{loaded}
use Rattle.gb_ops.specs.Faults.{no_faults, access_faults, load_faults, either_faults}
use Rattle.gb_ops.specs.Play.{MState}
use Rattle.gb_domain.specs.declared.rules.Rules.{Rules}
use Rattle.gb_domain.specs.declared.rules.Rules.TheVariants.{Simple, Extended}
use Rattle.gb_domain.specs.declared.setting.Setting.{Setting}
use Rattle.gb_domain.specs.declared.types.Core.{Core}
use Rattle.gb_domain.specs.declared.types.Val.{Val}
use Rattle.gb_domain.specs.LowBits.{no_low_bits}
use Rattle.gb_domain.specs.Rules.{IsVal, IsWord}
use Rattle.gb_domain.specs.Settings.{IsBase}
use Rattle.gb_domain.specs.Summaries.{Program}
use Rattle.gb_domain.specs.Areas.{meets}
use Rattle.gb_domain.specs.Interval.{bounds}
use Rattle.gb_domain.specs.Meaning.{Has, In}
use Rattle.gb_domain.specs.Types.{AbsState}
use Rattle.gb_domain.specs.Values.{interval_of}
use Rattle.gb_domain.specs.declared.low_bits.LowBits.{LowBits}
use Rattle.gb_domain.proofs.IntervalLaws.{IsOfBytes-bounds}
use Rattle.gb_product.specs.Below.gb_vals.Vals.{any_val, single}
use Rattle.gb_product.specs.Below.gb_abs.declared.span.Span.{Span}
use Rattle.gb_product.specs.Below.gb_abs.Covering.{cell_at}
use Rattle.gb_product.specs.Below.gb_abs.Meaning.{Activation, Holds, MeansParts}
use Rattle.gb_product.specs.Below.gb_abs.Operations.{with_core}
use Rattle.gb_product.specs.Below.gb_abs.Span.{IsIn, is_one, is_inside}
use Rattle.gb_product.specs.Below.gb_abs.Storage.{is_ram}
use Rattle.gb_product.proofs.Below.gb_abs_laws.StorageLaws.{read_ram}
use Rattle.gb_product.specs.Below.gb_abs_effects.declared.reads.AbsRead.{AbsRead}
use Rattle.gb_product.specs.Below.gb_abs_effects.declared.reads.AbsRead.TheVariants as read
use Rattle.gb_product.specs.Below.gb_abs_effects.Sound.{HoldsRead, IsReadAt}
use Rattle.gb_product.specs.Below.gb_pairs.declared.values.Values.{Values}
use Rattle.gb_product.specs.Below.gb_pairs.Meaning.{Holds as HoldValues}
use Rattle.gb_product.specs.Below.gb_relations.Places.{behind_echo}
use Rattle.gb_product.specs.Below.gb_relations.Sound as relations
use Rattle.gb_product.specs.Below.gb_summaries.Below.gb_ram_bounds.declared.addresses.AddressSet.{AddressSet}
use Rattle.gb_product.specs.Below.gb_summaries.Below.gb_ram_bounds.Addresses.{joined_over}
use Rattle.gb_product.specs.Below.gb_pairs.Meaning.{AreBytes}
use Rattle.gb_product.specs.Covering.{uncopied, byte_in}
use Rattle.gb_product.specs.Meaning.{beside, IsSummarized}
use Rattle.gb_product.proofs.ByteLaws.{IsVal-uncopied, IsVal-byte_in, IsOfBytes-byte_in}
use Rattle.gb_product.proofs.CoveringLaws.{Holds-uncopied, Holds-byte_in_state}
use Rattle.gb_product.proofs.Below.gb_abs_effects_laws.CoreLaws.{In-from}
use Rattle.gb_product.proofs.Below.gb_summaries_laws.KnownLaws.{In-interval}
use Rattle.gb_product.proofs.Below.gb_summaries_laws.Below.gb_ram_bounds_laws.JoinedLaws.{In-joined_over, IsOfBytes-joined_over}
use Rattle.gb_abs_memory.specs.Access.{home_of, rom_val, val_at, is_table, loaded_val, meets_closed_ram, is_limited}
use Rattle.gb_abs_memory.specs.Shown.{known_bank}
use Rattle.gb_abs_memory.specs.Sound.{view, IsRom, AreVals}
use Rattle.gb_abs_memory.proofs.LoadLaws.{IsLoaded-loaded_val, read_open, answer, read_byte, Holds-val_at, in_table, known_bank-half, IsVal-cell, IsVal-loaded_val, one_address}
use Rattle.gb_successors.specs.Loads.{read_word, span_behind, is_plain_ram, told_at, is_stretch, addresses_of, table_among, joined_in, loaded_whole, loaded_in, word_by}
use Rattle.gb_successors.specs.Refused.{reads_closed_ram, is_read_limited}
use Rattle.gb_successors.specs.Summaries.{pointed_bits}
use Rattle.gb_successors.proofs.AccessLaws.{Loads}
use Rattle.gb_successors.proofs.PlainLaws.{IsPlainRead}
use Rattle.gb_successors.proofs.RamLaws.{ram_at, ram_is}
use Rattle.gb_product.proofs.Below.gb_abs_laws.SpanLaws.{Has-none}
use Rattle.gb_successors.proofs.StoredLaws.{among, Has-pointer}
use Rattle.gb_successors.proofs.SuccessorLaws.{IsVal-any, is_word}

or_false : (b c : Bool) → (b || c) ≡ false → (b ≡ false) × (c ≡ false)
or_false true c h = cc
or_false false c h = (refl, h)

pub less_is : (n m : ℕ) → nat_lt n m ≡ true → n < m
less_is n m h = grind (arith, nat_tests)

in_small : (span : Span) (a : ℕ) → IsIn span a → span.last < 65536 → a < 65536
in_small span a i h =
    let most = i.last in
    omega arith

-- ---- a byte of RAM that is read

abbrev is_ram_place : Mapped → Bool
is_ram_place (mapped.WorkRam i) = true
is_ram_place (mapped.HighRam i) = true
is_ram_place _ = false

ram_place : (a : ℕ) → is_ram a ≡ true → is_ram_place (mapped_at a) ≡ true
unfolding mapped_at
ram_place a h = grind (arith, nat_tests)

echo_place : (a : ℕ) → is_ram (behind_echo a) ≡ true → mapped_at a ≡ mapped_at (behind_echo a)
unfolding mapped_at
echo_place a h = grind (arith, nat_tests)

-- what is read at a place of the map
abbrev answered : Bool → Mapped → View → ℕ → List ℕ → Machine.Reading
answered closed k m a free = Machine.read_by (is_free_place (cond closed place.Free (place_by k m a))) (byte_by k m a) free

answered_is : (m : View) (a : ℕ) (free : List ℕ) → Machine.read_at m a free ≡ answered (is_closed m.storage a) (mapped_at a) m a free
unfolding Machine.read_at is_free place_of byte_at
answered_is m a free = refl

same_answer : (closed : Bool) (k : Mapped) (m : View) (a b : ℕ) (free : List ℕ) → is_ram_place k ≡ true → answered closed k m a free ≡ answered closed k m b free
same_answer closed (mapped.WorkRam i) m a b free h = refl
same_answer closed (mapped.HighRam i) m a b free h = refl
same_answer closed mapped.Rom m a b free h = cc
same_answer closed mapped.CartridgeRam m a b free h = cc
same_answer closed mapped.InterruptEnable m a b free h = cc
same_answer closed mapped.Transfer m a b free h = cc
same_answer closed mapped.Hardware m a b free h = cc

same_closed : (s : Storage) (a b : ℕ) → mapped_at a ≡ mapped_at b → is_closed s a ≡ is_closed s b
unfolding is_closed
same_closed s a b e = rw e refl

-- through the echo too
pub ram_read : (m : View) (a : ℕ) (free : List ℕ) → is_closed m.storage a ≡ false → is_ram (behind_echo a) ≡ true → ram_at m.storage (behind_echo a) ≡ (Machine.read_at m a free).value
ram_read m a free clear ram =
    let home = behind_echo a in
    let same = echo_place a ram in
    let closed = same_closed m.storage a home same in
    ram_is m.storage home ram
    ∙ sym (ap (λ (r : Machine.Reading). r.value)
    (answered_is m a free
    ∙ (ap (λ k. answered k (mapped_at a) m a free) closed
    ∙ (ap (λ k. answered (is_closed m.storage home) k m a free) same
    ∙ (same_answer (is_closed m.storage home) (mapped_at home) m a home free (ram_place home ram)
    ∙ (sym (answered_is m home free) ∙ read_ram m home free ram (sym closed ∙ clear)))))))

not_dropped : (m : View) (a : ℕ) → access_faults m a ≡ no_faults → is_closed m.storage a ≡ false
unfolding access_faults
not_dropped m a h = ap (λ (f : Faults). f.transfer_met) h

read_clear : (m : View) (a : ℕ) → load_faults m (machine_read.Byte a) ≡ no_faults → is_closed m.storage a ≡ false
unfolding load_faults
read_clear m a h = not_dropped m a h

pub Reads-loaded : (m : View) (r : Read) (free : List ℕ) → load_faults m r ≡ no_faults → relations.Reads r (ram_at m.storage) (loaded m r free).low
unfolding load_faults loaded
Reads-loaded m machine_read.Nothing free h = tt
Reads-loaded m (machine_read.Byte a) free h = λ ram. ram_read m a free (not_dropped m a h) ram
Reads-loaded m (machine_read.Word a) free h = tt

-- ---- by facts and fills too

-- the byte at an address of RAM, or of its echo
Holds-told :
    (rom : List ℕ) (s : AbsState) (v : Values) (entry : Activation) (base : ℕ) (x : MState) (a : ℕ) (reads : List ℕ)
    → MeansParts s entry base x → IsSummarized s entry x → HoldValues v (beside entry x) x.processor.registers
    → load_faults (view rom x false) (machine_read.Byte a) ≡ no_faults → is_ram (home_of a) ≡ true
    → Holds (told_at entry.program v s a) entry (loaded (view rom x false) (machine_read.Byte a) reads).low
Holds-told rom s v entry base x a reads means said values faults ram =
    subst (Holds (byte_in entry.program v s.cells s.summary (home_of a)) entry)
    (sym (ram_is x.storage (home_of a) ram) ∙ Reads-loaded (view rom x false) (machine_read.Byte a) reads faults ram)
    (Holds-byte_in_state v s (home_of a) entry base x means said values)

-- ---- at one of several addresses

in_stretch : (region : Region) (span : Span) (a : ℕ) → is_stretch region span ≡ true → IsIn span a → is_ram (home_of a) ≡ true
unfolding is_stretch
in_stretch region span a h i =
    let first = i.first in
    let last = i.last in
    let area : (is_inside 0xC000 0xDFFF span || is_inside 0xFF80 0xFFFE span || is_inside 0xE000 0xFDFF span) ≡ true =
    (and_parts (is_inside 0xC000 0xDFFF span || is_inside 0xFF80 0xFFFE span || is_inside 0xE000 0xFDFF span) (not (meets region (home_of span.first) (home_of span.last))) h).0 in
    grind (arith, nat_tests)

In-held : (v : Val) (entry : Activation) (n : ℕ) → Holds v entry n → In (interval_of v) n
In-held v entry n h = In-interval v n (In-from v entry n h)

-- what is read at an address of ROM
read_rom :
    (rom : List ℕ) (s : AbsState) (entry : Activation) (base : ℕ) (x : MState) (a bank : ℕ) (reads : List ℕ)
    → IsRom rom → MeansParts s entry base x → IsVal s.core.ie → nat_lt a 0x8000 ≡ true → a < 65536 → slice_index reads 0 ≤ 255
    → known_bank rom s.core.ctl a ≡ Some bank → is_closed x.storage a ≡ false
    → Holds (single (rom_byte rom bank a)) entry (loaded (view rom x false) (machine_read.Byte a) reads).low
unfolding loaded val_at
read_rom rom s entry base x a bank reads c means ie low small byte known clear =
    let held = Holds-val_at rom s entry base x false a reads c means ie small byte in
    subst (λ (r : Machine.Reading). Holds (single (rom_byte rom bank a)) entry r.value) (sym (read_open (view rom x false) a reads clear))
    (subst (λ o. Holds (rom_val rom a o) entry (answer (mapped_at a) (view rom x false) a reads).value) known
    (subst (λ b. Holds (cond b (rom_val rom a (known_bank rom s.core.ctl a)) (cond (is_ram (home_of a)) (cell_at (home_of a) s.cells) (cond (a == 0xFFFF) s.core.ie any_val))) entry
    (answer (mapped_at a) (view rom x false) a reads).value) low held))

any_byte_read :
    (rom : List ℕ) (s : AbsState) (entry : Activation) (base : ℕ) (x : MState) (a : ℕ) (reads : List ℕ)
    → IsRom rom → MeansParts s entry base x → IsVal s.core.ie → slice_index reads 0 ≤ 255 → is_closed x.storage a ≡ false
    → Holds any_val entry (loaded (view rom x false) (machine_read.Byte a) reads).low
unfolding loaded
any_byte_read rom s entry base x a reads c means ie byte clear =
    subst (λ (r : Machine.Reading). Holds any_val entry r.value) (sym (read_open (view rom x false) a reads clear))
    (record { least = omega arith; most = read_byte rom s entry base x false a reads c means ie byte; low = refl; origin = λ o e. cc })

Holds-table :
    (rom : List ℕ) (s : AbsState) (low : LowBits) (span : Span) (entry : Activation) (base : ℕ) (x : MState) (a : ℕ) (reads : List ℕ) (o : Option ℕ)
    → known_bank rom s.core.ctl span.first ≡ o → IsRom rom → MeansParts s entry base x → IsVal s.core.ie → slice_index reads 0 ≤ 255 → IsIn span a → a < 65536
    → Has low a → is_closed x.storage a ≡ false → is_table span ≡ true
    → Holds (table_among o rom (addresses_of span low)) entry (loaded (view rom x false) (machine_read.Byte a) reads).low
Holds-table rom s low span entry base x a reads None e c means ie byte i small bits clear h = any_byte_read rom s entry base x a reads c means ie byte clear
Holds-table rom s low span entry base x a reads (Some bank) e c means ie byte i small bits clear h =
    let t = in_table span a h i in
    let held = read_rom rom s entry base x a bank reads c means ie t.here small byte (known_bank-half rom s.core.ctl span a t ∙ e) clear in
    Holds-uncopied _ entry _
    (In-joined_over (addresses_of span low) (λ b. bounds (rom_byte rom bank b) (rom_byte rom bank b)) a _ (among span low a i bits)
    (In-held (single (rom_byte rom bank a)) entry _ held))

Holds-joined :
    (region : Region) (rom : List ℕ) (s : AbsState) (v : Values) (low : LowBits) (span : Span) (entry : Activation) (base : ℕ) (x : MState) (a : ℕ) (reads : List ℕ)
    → IsRom rom → MeansParts s entry base x → IsSummarized s entry x → HoldValues v (beside entry x) x.processor.registers → IsVal s.core.ie → slice_index reads 0 ≤ 255
    → IsIn span a → a < 65536 → Has low a → load_faults (view rom x false) (machine_read.Byte a) ≡ no_faults
    → Holds (joined_in region entry.program rom v low s span) entry (loaded (view rom x false) (machine_read.Byte a) reads).low
unfolding joined_in
Holds-joined region rom s v low span entry base x a reads c means said values ie byte i small bits faults =
    by_stretch (is_stretch region span) refl
  where
    clear : is_closed x.storage a ≡ false
    clear = read_clear (view rom x false) a faults

    by_table : (b : Bool) → is_table span ≡ b
        → Holds (cond b (table_among (known_bank rom s.core.ctl span.first) rom (addresses_of span low)) any_val) entry
        (loaded (view rom x false) (machine_read.Byte a) reads).low
    by_table true e = Holds-table rom s low span entry base x a reads (known_bank rom s.core.ctl span.first) refl c means ie byte i small bits clear e
    by_table false e = any_byte_read rom s entry base x a reads c means ie byte clear

    by_stretch : (b : Bool) → is_stretch region span ≡ b
        → Holds (cond b (uncopied (joined_over (addresses_of span low) (λ b. interval_of (told_at entry.program v s b))))
        (cond (is_table span) (table_among (known_bank rom s.core.ctl span.first) rom (addresses_of span low)) any_val)) entry
        (loaded (view rom x false) (machine_read.Byte a) reads).low
    by_stretch true e =
        let held = Holds-told rom s v entry base x a reads means said values faults (in_stretch region span a e i) in
        Holds-uncopied _ entry _
        (In-joined_over (addresses_of span low) (λ b. interval_of (told_at entry.program v s b)) a _ (among span low a i bits)
        (In-held (told_at entry.program v s a) entry _ held))
    by_stretch false e = by_table (is_table span) refl

-- ---- a byte that is read

Holds-loaded_in :
    (z : Setting) (region : Region) (rom : List ℕ) (s : AbsState) (v : Values) (low : LowBits) (span : Span) (entry : Activation) (base : ℕ) (x : MState) (a : ℕ) (reads : List ℕ)
    → IsRom rom → MeansParts s entry base x → IsSummarized s entry x → HoldValues v (beside entry x) x.processor.registers → IsVal s.core.ie → slice_index reads 0 ≤ 255
    → IsIn span a → a < 65536 → Has low a → load_faults (view rom x false) (machine_read.Byte a) ≡ no_faults
    → Holds (loaded_val z rom s span) entry (loaded (view rom x false) (machine_read.Byte a) reads).low
    → Holds (loaded_in z region entry.program rom v low s span) entry (loaded (view rom x false) (machine_read.Byte a) reads).low
unfolding loaded_whole is_plain_ram
Holds-loaded_in z region rom s v low span entry base x a reads c means said values ie byte i small bits faults h =
    by_version z.is_whole
  where
    n : ℕ
    n = (loaded (view rom x false) (machine_read.Byte a) reads).low

    one : (b : Bool) → is_one span ≡ true → is_plain_ram z s span.first ≡ b → Holds (cond b (told_at entry.program v s span.first) (loaded_val z rom s span)) entry n
    one true alone e =
        let same : span.first ≡ a = one_address span a alone i in
        let ram : is_ram (home_of a) ≡ true = subst (λ b. is_ram (home_of b) ≡ true) same (and_parts _ _ e).0 in
        subst (λ b. Holds (told_at entry.program v s b) entry n) (sym same) (Holds-told rom s v entry base x a reads means said values faults ram)
    one false alone e = h

    by_count : (b : Bool) → is_one span ≡ b
        → Holds (cond (not b) (joined_in region entry.program rom v low s span) (cond (is_plain_ram z s span.first) (told_at entry.program v s span.first) (loaded_val z rom s span))) entry n
    by_count true e = one (is_plain_ram z s span.first) e refl
    by_count false e = Holds-joined region rom s v low span entry base x a reads c means said values ie byte i small bits faults

    by_version : (b : Bool) → Holds (cond b (loaded_whole z region entry.program rom v low s span) (loaded_val z rom s span)) entry n
    by_version true = by_count (is_one span) refl
    by_version false = h

-- an address that is read has the low bits
abbrev pub HasRead : LowBits → Read → Type 0
HasRead low (machine_read.Byte a) = Has low a
HasRead low m = Unit {0}

-- what is read, where cells alone stand for it
pub Loads-by :
    (r : Rules) (z : Setting) (region : Region) (rom : List ℕ) (s : AbsState) (v : Values) (low : LowBits) (entry : Activation) (base : ℕ) (x : MState) (sp : ℕ) (what : AbsRead) (m : Read) (reads : List ℕ)
    → IsRom rom → MeansParts s entry base x → IsSummarized s entry x → HoldValues v (beside entry x) x.processor.registers → IsVal s.core.ie → slice_index reads 0 ≤ 255
    → IsPlainRead what → IsReadAt what → HoldsRead what sp m → HasRead low m
    → Loads (read_word z rom s what) entry (view rom x false) m reads → Loads (word_by r z region entry.program rom v low s what) entry (view rom x false) m reads
unfolding read_word
Loads-by Simple z region rom s v low entry base x sp what m reads c means said values ie byte plain at h bits l = l
Loads-by Extended z region rom s v low entry base x sp read.Nothing m reads c means said values ie byte plain at h bits l = l
Loads-by Extended z region rom s v low entry base x sp read.Top m reads c means said values ie byte plain at h bits l = l
Loads-by Extended z region rom s v low entry base x sp (read.Word span) m reads c means said values ie byte plain at h bits l = absurd plain
Loads-by Extended z region rom s v low entry base x sp (read.Byte span) (machine_read.Byte a) reads c means said values ie byte plain at h bits l =
    let last = h.last in
    record {
      low = Holds-loaded_in z region rom s v low span entry base x a reads c means said values ie byte h (omega arith) bits l.faults l.low;
      high = l.high;
      faults = l.faults;
    }
Loads-by Extended z region rom s v low entry base x sp (read.Byte span) machine_read.Nothing reads c means said values ie byte plain at h bits l = absurd h
Loads-by Extended z region rom s v low entry base x sp (read.Byte span) (machine_read.Word a) reads c means said values ie byte plain at h bits l = absurd h

-- a byte of a word that is read
record IsByteRead (known : Val) (entry : Activation) (m : View) (a : ℕ) (reads : List ℕ) : Type 0 where
  holds : Holds known entry (loaded m (machine_read.Byte a) reads).low
  faults : load_faults m (machine_read.Byte a) ≡ no_faults

byte_of_word :
    (z : Setting) (region : Region) (rom : List ℕ) (s : AbsState) (v : Values) (span : Span) (entry : Activation) (base : ℕ) (x : MState) (a : ℕ) (reads : List ℕ)
    → IsRom rom → IsBase z base → MeansParts s entry base x → IsSummarized s entry x → HoldValues v (beside entry x) x.processor.registers → IsVal s.core.ie → slice_index reads 0 ≤ 255
    → IsIn span a → a < 65536 → meets_closed_ram rom s.core span ≡ false → is_limited s.core span ≡ false
    → IsByteRead (loaded_in z region entry.program rom v no_low_bits s span) entry (view rom x false) a reads
unfolding load_faults access_faults loaded Machine.read_at
byte_of_word z region rom s v span entry base x a reads c right means said values ie byte i small ram limited =
    let l = IsLoaded-loaded_val z rom s span entry base x false a reads ram limited i small right means ie c byte in
    record { holds = Holds-loaded_in z region rom s v no_low_bits span entry base x a reads c means said values ie byte i small (Has-none a) l.faults l.holds; faults = l.faults }

pub behind_in : (span : Span) (a : ℕ) → IsIn span a → span.last < 65536 → IsIn (span_behind span) ((a + 1) % 65536)
behind_in span a i small = by (nat_lt span.first 0xFFFF && nat_lt span.last 0xFFFF) refl
  where
    by : (t : Bool) → (nat_lt span.first 0xFFFF && nat_lt span.last 0xFFFF) ≡ t
        → IsIn (cond {A = Span} t (record { first = span.first + 1; last = span.last + 1; low = no_low_bits }) (record { first = 0; last = 0xFFFF; low = no_low_bits })) ((a + 1) % 65536)
    by true e =
        let first = i.first in
        let last = i.last in
        let near : span.last < 65535 = less_is span.last 65535 (and_parts (nat_lt span.first 0xFFFF) (nat_lt span.last 0xFFFF) e).1 in
        record { first = omega arith; last = omega arith; low = Has-none _ }
    by false e = record { first = omega arith; last = omega arith; low = Has-none _ }

-- what is left of the free bytes begins with a byte
rest_byte : (m : View) (a : ℕ) (reads : List ℕ) → slice_index reads 0 ≤ 255 → slice_index reads 1 ≤ 255 → slice_index (Machine.read_at m a reads).rest 0 ≤ 255
unfolding Machine.read_at
rest_byte m a reads first second = by (is_free m a) reads first second
  where
    by : (b : Bool) (free : List ℕ) → slice_index free 0 ≤ 255 → slice_index free 1 ≤ 255 → slice_index (Machine.read_by b (byte_at m a) free).rest 0 ≤ 255
    by true [] h g = h
    by true (n ∷ free) h g = g
    by false free h g = h

-- a word at one of several addresses
pub Loads-word :
    (z : Setting) (region : Region) (rom : List ℕ) (s : AbsState) (v : Values) (low : LowBits) (span : Span) (entry : Activation) (base : ℕ) (x : MState) (a : ℕ) (reads : List ℕ)
    → IsRom rom → IsBase z base → MeansParts s entry base x → IsSummarized s entry x → HoldValues v (beside entry x) x.processor.registers → IsVal s.core.ie
    → slice_index reads 0 ≤ 255 → slice_index reads 1 ≤ 255 → IsIn span a → span.last < 65536
    → reads_closed_ram rom s.core (read.Word span) ≡ false → is_read_limited region s.core (read.Word span) ≡ false
    → Loads (word_by Extended z region entry.program rom v low s (read.Word span)) entry (view rom x false) (machine_read.Word a) reads
unfolding loaded load_faults either_faults reads_closed_ram is_read_limited
Loads-word z region rom s v low span entry base x a reads c right means said values ie first second i small ram limited =
    let closed = or_false (meets_closed_ram rom s.core span) (meets_closed_ram rom s.core (span_behind span)) ram in
    let open_all = or_false (is_limited s.core span) (is_limited s.core (span_behind span)) limited in
    let near = byte_of_word z region rom s v span entry base x a reads c right means said values ie first i (in_small span a i small) closed.0 open_all.0 in
    let far =
    byte_of_word z region rom s v (span_behind span) entry base x ((a + 1) % 65536) (Machine.read_at (view rom x false) a reads).rest c right means said values ie
    (rest_byte (view rom x false) a reads first second) (behind_in span a i small) (omega arith) closed.1 open_all.1 in
    record { low = near.holds; high = far.holds; faults = rw (near.faults, far.faults) refl }

-- by the rules of version 3
pub extended_word :
    (r : Rules) (z : Setting) (region : Region) (program : Program) (rom : List ℕ) (v : Values) (low : LowBits) (s : AbsState) (what w : AbsRead) → r ≡ Extended → what ≡ w
    → word_by r z region program rom v low s what ≡ word_by Extended z region program rom v low s w
extended_word r z region program rom v low s what w extended e = ap (λ q. word_by q z region program rom v low s what) extended ∙ ap (word_by Extended z region program rom v low s) e

-- the address of an instruction's pointer does
pub HasRead-pointed :
    (o : Option Pointer) (registers : Registers Val) (entry : Activation) (p : Processor) (r : Read) (w : Write)
    → ((q : Register) → Holds (get q registers) entry (get q p.registers)) → AreBytes p.registers
    → IfSome o (λ q. ReadsAt (pointed p q) r × WritesAt (pointed p q) w) → HasRead (pointed_bits o registers) r
unfolding ReadsAt
HasRead-pointed o registers entry p machine_read.Nothing w holds bytes goes = tt
HasRead-pointed o registers entry p (machine_read.Word a) w holds bytes goes = tt
HasRead-pointed None registers entry p (machine_read.Byte a) w holds bytes goes = Has-none a
HasRead-pointed (Some q) registers entry p (machine_read.Byte a) w holds bytes goes = Has-pointer q registers entry p a holds bytes goes.0

-- ---- values

IsVal-any_table : (o : Option ℕ) (rom : List ℕ) (x : AddressSet) → ((i : ℕ) → slice_index rom i ≤ 255) → IsVal (table_among o rom x)
IsVal-any_table None rom x bytes = IsVal-any
IsVal-any_table (Some bank) rom x bytes =
    IsVal-uncopied _ (IsOfBytes-joined_over x (λ a. bounds (rom_byte rom bank a) (rom_byte rom bank a))
    (λ a. let byte : rom_byte rom bank a ≤ 255 = bytes _ in IsOfBytes-bounds (rom_byte rom bank a) (rom_byte rom bank a) (omega arith) (omega arith)))

IsVal-loaded_in :
    (z : Setting) (region : Region) (program : Program) (rom : List ℕ) (v : Values) (low : LowBits) (s : AbsState) (span : Span)
    → IsVal s.core.ie → AreVals s.cells → AllByRecursion IsVal s.items → ((i : ℕ) → slice_index rom i ≤ 255) → IsVal (loaded_in z region program rom v low s span)
unfolding loaded_whole joined_in
IsVal-loaded_in z region program rom v low s span ie cells items bytes = by_version z.is_whole
  where
    by_stretch : (b c : Bool)
        → IsVal (cond b (uncopied (joined_over (addresses_of span low) (λ a. interval_of (told_at program v s a)))) (cond c (table_among (known_bank rom s.core.ctl span.first) rom (addresses_of span low)) any_val))
    by_stretch true c =
        IsVal-uncopied _ (IsOfBytes-joined_over (addresses_of span low) (λ a. interval_of (told_at program v s a))
        (λ a. IsOfBytes-byte_in program v s.cells s.summary (home_of a) (IsVal-cell s.cells (home_of a) cells)))
    by_stretch false true = IsVal-any_table (known_bank rom s.core.ctl span.first) rom (addresses_of span low) bytes
    by_stretch false false = IsVal-any

    by_count : (b c : Bool) → IsVal (cond b (joined_in region program rom v low s span) (cond c (told_at program v s span.first) (loaded_val z rom s span)))
    by_count true c = by_stretch (is_stretch region span) (is_table span)
    by_count false true = IsVal-byte_in program v s.cells s.summary (home_of span.first) (IsVal-cell s.cells (home_of span.first) cells)
    by_count false false = IsVal-loaded_val z rom s span ie cells items bytes

    by_version : (b : Bool) → IsVal (cond b (loaded_whole z region program rom v low s span) (loaded_val z rom s span))
    by_version true = by_count (not (is_one span)) (is_plain_ram z s span.first)
    by_version false = IsVal-loaded_val z rom s span ie cells items bytes

pub is_word_by :
    (r : Rules) (z : Setting) (region : Region) (program : Program) (rom : List ℕ) (v : Values) (low : LowBits) (s : AbsState) (c : Core) (what : AbsRead)
    → IsVal c.ie → AreVals s.cells → AllByRecursion IsVal s.items → ((i : ℕ) → slice_index rom i ≤ 255) → IsWord (word_by r z region program rom v low (with_core s c) what)
is_word_by Simple z region program rom v low s c what ie cells items bytes = is_word z rom s c what ie cells items bytes
is_word_by Extended z region program rom v low s c (read.Byte span) ie cells items bytes =
    record { high = IsVal-any; low = IsVal-loaded_in z region program rom v low (with_core s c) span ie cells items bytes }
is_word_by Extended z region program rom v low s c (read.Word span) ie cells items bytes =
    record {
      high = IsVal-loaded_in z region program rom v no_low_bits (with_core s c) (span_behind span) ie cells items bytes;
      low = IsVal-loaded_in z region program rom v no_low_bits (with_core s c) span ie cells items bytes;
    }
is_word_by Extended z region program rom v low s c read.Nothing ie cells items bytes = is_word z rom s c read.Nothing ie cells items bytes
is_word_by Extended z region program rom v low s c read.Top ie cells items bytes = is_word z rom s c read.Top ie cells items bytes
