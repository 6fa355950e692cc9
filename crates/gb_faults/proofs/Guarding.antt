-- An instruction in ROM that touches nothing faulty has no fault.
use Rattle.std.proofs.Common.{◌≡◌, ℕ, ◌+◌, ◌*◌, ◌%◌, ◌<◌, ◌==◌, ◌&&◌, nat_le, Bool, true, false, if◌then◌else◌, refl, sym, ap, subst, ◌∙◌, List, slice_index, Option, Some, None, arith}
use Rattle.std.proofs.lemmas.Bool.{lt-ltb, eqb-true}
use Rattle.std.proofs.lemmas.Bool.Decides.{nat_tests}
use Rattle.gb_ops.specs.declared.machine.Region.{Region}
use Rattle.gb_ops.specs.declared.machine.Faults.{Faults}
use Rattle.gb_ops.specs.declared.op.Row.{Row}
use Rattle.gb_ops.specs.declared.registers.Processor.{Processor}
use Rattle.gb_ops.specs.Cartridge.{is_within, shown_bank}
use Rattle.gb_ops.specs.Faults.{no_faults, either_faults, fetch_faults, all_fetch_faults, fetch_addresses, row_faults, run_faults, is_code_address}
use Rattle.gb_ops.specs.Machine.{fetched, read_at, read_where, length_of, second_address, third_address, advanced}
use Rattle.gb_ops.specs.Memory.{View, is_free, byte_at, place_of, is_closed, mapped_at, rom_byte}
use Rattle.gb_ops.specs.Table.{decoded, row_of, row_in, table, prefixed_table, operand_of, pair_of, stack_pair_of, condition_of, indirect_of, alu_of, shift_of}
use Rattle.gb_ops.specs.Pairs.{pair_value}
use Rattle.gb_ops.specs.declared.op.Pair.TheVariants as pair
use Rattle.gb_ops.proofs.Agree.{agree}
use Rattle.gb_cpu.specs.Step.{state}
use Rattle.gb_faults.specs.declared.touch.Touch.{Touch}
use Rattle.gb_faults.specs.declared.touch.Touch.TheVariants as touch
use Rattle.gb_faults.specs.Quiet.{IsQuiet, IsQuietAddress, IsQuietTouch}
use Rattle.gb_faults.specs.Touch.{touch_of, row_touch, opcode_touch}
use Rattle.gb_faults.proofs.Fetches.{all_are}
use Rattle.gb_faults.proofs.Quiet.{quiet_access}
use Rattle.gb_faults.proofs.Touching.{quiet_op, word_of}

-- ---- the table

abbrev row_word : Option Row → ℕ → ℕ
row_word None w = w
row_word (Some row) w = word_of row.op w

touch_is : (opcode b w : ℕ) → opcode < 256 → row_touch (row_in table opcode b w) ≡ row_touch (row_in table opcode 0 0)
unfolding table row_in operand_of pair_of stack_pair_of condition_of indirect_of alu_of shift_of
touch_is opcode b w lt = agree (λ o. row_touch (row_in table o b w)) (λ o. row_touch (row_in table o 0 0)) 256 refl opcode lt

word_is : (opcode b w : ℕ) → opcode < 256 → row_word (row_in table opcode b w) w ≡ w
unfolding table row_in operand_of pair_of stack_pair_of condition_of indirect_of alu_of shift_of
word_is opcode b w lt = agree (λ o. row_word (row_in table o b w) w) (λ o. w) 256 refl opcode lt

abbrev at_six : Bool → Touch
at_six true = touch.Hl
at_six false = touch.Nothing

prefixed_touch : (second : ℕ) → second < 256 → row_touch (row_in prefixed_table second 0 0) ≡ at_six (second % 8 == 6)
unfolding prefixed_table row_in operand_of shift_of
prefixed_touch second lt = agree (λ o. row_touch (row_in prefixed_table o 0 0)) (λ o. at_six (o % 8 == 6)) 256 refl second lt

prefixed_word : (second w : ℕ) → second < 256 → row_word (row_in prefixed_table second 0 0) w ≡ w
unfolding prefixed_table row_in operand_of shift_of
prefixed_word second w lt = agree (λ o. row_word (row_in prefixed_table o 0 0) w) (λ o. w) 256 refl second lt

-- ---- a row

-- what an instruction touches stays the same as it begins
touch_advanced : (region : Region) (m : View) (p : Processor) (row : Row) (w : ℕ) (t : Touch) → IsQuietTouch region m p w t → IsQuietTouch region m (advanced p row) w t
unfolding advanced pair_value
touch_advanced region m p row w touch.Nothing h = h
touch_advanced region m p row w touch.Bc h = h
touch_advanced region m p row w touch.De h = h
touch_advanced region m p row w touch.Hl h = h
touch_advanced region m p row w touch.Word h = h
touch_advanced region m p row w touch.HighStore h = h
touch_advanced region m p row w touch.Pop h = h
touch_advanced region m p row w touch.Push h = h
touch_advanced region m p row w touch.Prefixed h = h
touch_advanced region m p row w touch.Other h = h

either_none : (f g : Faults) → f ≡ no_faults → g ≡ no_faults → either_faults f g ≡ no_faults
unfolding either_faults
either_none f g hf hg = rw (hf, hg) refl

quiet_row : (row : Option Row) (region : Region) (m : View) (p : Processor) (w : ℕ) (reads : List ℕ) → m.storage.count ≡ 0
    → IsQuietTouch region m p (row_word row w) (row_touch row) → row_faults row region (state p m) reads ≡ no_faults
quiet_row None region m p w reads none h = absurd h
quiet_row (Some row) region m p w reads none h =
    let o = quiet_op region m (advanced p row) w row.op none (touch_advanced region m p row (word_of row.op w) (touch_of row.op) h) in
    either_none _ _ o.loads (o.stores _ _)

-- ---- fetches from ROM

rom_is_open : (m : View) (a : ℕ) → m.storage.count ≡ 0 → a < 0x8000 → is_free m a ≡ false
unfolding is_free place_of is_closed mapped_at
rom_is_open m a none low = rw (none, lt-ltb a 0x8000 low) refl

rom_is_code : (a : ℕ) → a < 0x8000 → is_code_address a ≡ true
unfolding is_code_address
rom_is_code a low = rw (lt-ltb a 0x8000 low) refl

outside_ram : (a : ℕ) → a < 0x8000 → is_within 0xA000 0xBFFF a ≡ false
outside_ram a h = grind (arith, nat_tests)

quiet_fetch : (m : View) (a : ℕ) → m.storage.count ≡ 0 → a < 0x8000 → fetch_faults m a ≡ no_faults
unfolding fetch_faults
quiet_fetch m a none low = rw (quiet_access m a none (outside_ram a low), rom_is_code a low) refl

fetch_where : (b : Bool) (m : View) (a : ℕ) (others : Faults) → fetch_faults m a ≡ no_faults → others ≡ no_faults → (if b then either_faults (fetch_faults m a) others else others) ≡ no_faults
fetch_where true m a others h o = either_none _ _ h o
fetch_where false m a others h o = o

second_at : (p : Processor) → p.halt_mark ≡ false → p.pc < 0x7FFE → second_address p ≡ p.pc + 1
second_at p unmarked low = rw unmarked (omega arith)

third_at : (p : Processor) → p.halt_mark ≡ false → p.pc < 0x7FFE → third_address p ≡ p.pc + 2
third_at p unmarked low = rw unmarked (omega arith)

-- what the fetches of an instruction in ROM rest on
pub record IsInRom (m : View) (p : Processor) : Type 0 where
  pub still : m.storage.count ≡ 0
  pub unmarked : p.halt_mark ≡ false
  pub low : p.pc < 0x7FFE

quiet_fetches : (m : View) (p : Processor) (bytes : List ℕ) → IsInRom m p → all_fetch_faults m (fetch_addresses p bytes) ≡ no_faults
unfolding fetch_addresses
quiet_fetches m p bytes r =
    let first = quiet_fetch m p.pc r.still (omega (arith, r.low)) in
    let second : fetch_faults m (second_address p) ≡ no_faults = rw (second_at p r.unmarked r.low) (quiet_fetch m (p.pc + 1) r.still (omega (arith, r.low))) in
    let third : fetch_faults m (third_address p) ≡ no_faults = rw (third_at p r.unmarked r.low) (quiet_fetch m (p.pc + 2) r.still (omega (arith, r.low))) in
    all_are m p.pc (second_address p) (third_address p) _ _
    ∙ either_none _ _ first
    (both_fetches (nat_le 2 (length_of (slice_index bytes 0))) (nat_le 3 (length_of (slice_index bytes 0))) m (second_address p) (third_address p) second third)
  where
    both_fetches : (b c : Bool) (m : View) (second third : ℕ) → fetch_faults m second ≡ no_faults → fetch_faults m third ≡ no_faults
        → (if b then either_faults (fetch_faults m second) (if c then either_faults (fetch_faults m third) no_faults else no_faults)
        else (if c then either_faults (fetch_faults m third) no_faults else no_faults)) ≡ no_faults
    both_fetches true true m second third hs ht = either_none _ _ hs (either_none _ _ ht refl)
    both_fetches true false m second third hs ht = either_none _ _ hs refl
    both_fetches false true m second third hs ht = either_none _ _ ht refl
    both_fetches false false m second third hs ht = refl

-- ---- an instruction

-- the bytes of an instruction in ROM
rom_read : (m : View) (a : ℕ) (free : List ℕ) → m.storage.count ≡ 0 → a < 0x8000 → read_at m a free ≡ record { value = byte_at m a; rest = free }
unfolding read_at
rom_read m a free none low = rw (rom_is_open m a none low) refl

where_read : (b : Bool) (m : View) (a : ℕ) (free : List ℕ) → b ≡ true → m.storage.count ≡ 0 → a < 0x8000 → read_where b m a free ≡ record { value = byte_at m a; rest = free }
unfolding read_where
where_read true m a free e none low = rom_read m a free none low
where_read false m a free e none low = absurd (let bad : false ≡ true = e in cc)

first_is : (m : View) (p : Processor) (free : List ℕ) → IsInRom m p → slice_index (fetched m p free) 0 ≡ byte_at m p.pc
unfolding fetched
first_is m p free r = rw (rom_read m p.pc free r.still (omega (arith, r.low))) refl

second_is : (m : View) (p : Processor) (free : List ℕ) → IsInRom m p → nat_le 2 (length_of (byte_at m p.pc)) ≡ true → slice_index (fetched m p free) 1 ≡ byte_at m (p.pc + 1)
unfolding fetched
second_is m p free r long =
    rw (rom_read m p.pc free r.still (omega (arith, r.low)), second_at p r.unmarked r.low, where_read _ m (p.pc + 1) free long r.still (omega (arith, r.low))) refl

third_is : (m : View) (p : Processor) (free : List ℕ) → IsInRom m p → nat_le 2 (length_of (byte_at m p.pc)) ≡ true → nat_le 3 (length_of (byte_at m p.pc)) ≡ true → slice_index (fetched m p free) 2 ≡ byte_at m (p.pc + 2)
unfolding fetched
third_is m p free r long longer =
    rw (
      rom_read m p.pc free r.still (omega (arith, r.low)),
      second_at p r.unmarked r.low,
      where_read _ m (p.pc + 1) free long r.still (omega (arith, r.low)),
      third_at p r.unmarked r.low,
      where_read _ m (p.pc + 2) free longer r.still (omega (arith, r.low)),
    ) refl

-- an instruction is quiet where its row is
quiet_by_row : (region : Region) (m : View) (p : Processor) (fetch reads : List ℕ) → IsInRom m p
    → row_faults (decoded (fetched m p fetch)) region (state p m) reads ≡ no_faults → run_faults region (state p m) fetch reads ≡ no_faults
unfolding run_faults
quiet_by_row region m p fetch reads r h = either_none _ _ (quiet_fetches m p (fetched m p fetch) r) h

unprefixed_row : (a b c : ℕ) → (a == 0xCB) ≡ false → row_of a b c ≡ row_in table a b (b + 256 * c)
unfolding row_of
unprefixed_row a b c e = rw (row_of, e) refl

prefixed_row : (a b c : ℕ) → a ≡ 0xCB → row_of a b c ≡ row_in prefixed_table b 0 0
unfolding row_of
prefixed_row a b c e = rw (row_of, e) refl

-- the row of an opcode of the first table
quiet_table : (region : Region) (m : View) (p : Processor) (opcode b w : ℕ) (reads : List ℕ) → opcode < 256 → m.storage.count ≡ 0
    → IsQuietTouch region m p w (row_touch (row_in table opcode 0 0)) → row_faults (row_in table opcode b w) region (state p m) reads ≡ no_faults
quiet_table region m p opcode b w reads lt none h =
    quiet_row (row_in table opcode b w) region m p w reads none
    (subst (λ v. IsQuietTouch region m p v (row_touch (row_in table opcode b w))) (sym (word_is opcode b w lt))
    (subst (λ t. IsQuietTouch region m p w t) (sym (touch_is opcode b w lt)) h))

touch_unprefixed : (opcode : ℕ) → (opcode == 0xCB) ≡ false → opcode_touch opcode ≡ row_touch (row_in table opcode 0 0)
unfolding opcode_touch
touch_unprefixed opcode e = rw e refl

touch_prefixed : (opcode : ℕ) → (opcode == 0xCB) ≡ true → opcode_touch opcode ≡ touch.Prefixed
unfolding opcode_touch
touch_prefixed opcode e = rw e refl

-- of an opcode that isn't the prefix, its address in its bytes or not
quiet_opcode : (region : Region) (m : View) (p : Processor) (opcode w : ℕ) (fetch reads : List ℕ) → IsInRom m p → opcode ≡ byte_at m p.pc → opcode < 256 → (opcode == 0xCB) ≡ false
    → w ≡ slice_index (fetched m p fetch) 1 + 256 * slice_index (fetched m p fetch) 2 → IsQuietTouch region m p w (opcode_touch opcode) → run_faults region (state p m) fetch reads ≡ no_faults
quiet_opcode region m p opcode w fetch reads r is lt other w_is h =
    let first : slice_index (fetched m p fetch) 0 ≡ opcode = first_is m p fetch r ∙ sym is in
    let row : decoded (fetched m p fetch) ≡ row_in table opcode (slice_index (fetched m p fetch) 1) w =
    ap (λ a. row_of a (slice_index (fetched m p fetch) 1) (slice_index (fetched m p fetch) 2)) first
    ∙ unprefixed_row opcode _ _ other ∙ ap (λ v. row_in table opcode (slice_index (fetched m p fetch) 1) v) (sym w_is) in
    quiet_by_row region m p fetch reads r
    (rw row (quiet_table region m p opcode _ w reads lt r.still (subst (λ t. IsQuietTouch region m p w t) (touch_unprefixed opcode other) h)))

quiet_halt : (region : Region) (m : View) (p : Processor) → IsInRom m p → fetch_faults m p.pc ≡ no_faults
quiet_halt region m p r = quiet_fetch m p.pc r.still (omega (arith, r.low))

-- by where it touches memory
pub quiet_touched : (region : Region) (m : View) (p : Processor) (opcode : ℕ) (t : Touch) → IsInRom m p → opcode ≡ byte_at m p.pc → opcode < 256
    → t ≡ opcode_touch opcode → ((w : ℕ) → IsQuietTouch region m p w t) → IsQuiet region (state p m)
quiet_touched region m p opcode t r is lt t_is h = by (opcode == 0xCB) refl
  where
    by : (b : Bool) → (opcode == 0xCB) ≡ b → IsQuiet region (state p m)
    by true e = absurd (subst (λ u. IsQuietTouch region m p 0 u) (t_is ∙ touch_prefixed opcode e) (h 0))
    by false e = record {
      runs = λ fetch reads.
          let w = slice_index (fetched m p fetch) 1 + 256 * slice_index (fetched m p fetch) 2 in
          quiet_opcode region m p opcode w fetch reads r is lt e refl (subst (λ u. IsQuietTouch region m p w u) t_is (h w));
      halts = quiet_halt region m p r;
    }

-- by the address in its bytes
abbrev is_word : Touch → Bool
is_word touch.Word = true
is_word _ = false

abbrev implied : Bool → Bool → Bool
implied true b = b
implied false b = true

long_words : (opcode : ℕ) → opcode < 256 → implied (is_word (opcode_touch opcode)) (nat_le 2 (length_of opcode) && nat_le 3 (length_of opcode) && (if opcode == 0xCB then false else true)) ≡ true
unfolding opcode_touch table prefixed_table row_in row_of length_of operand_of pair_of stack_pair_of condition_of indirect_of alu_of shift_of
long_words opcode lt = agree (λ o. implied (is_word (opcode_touch o)) (nat_le 2 (length_of o) && nat_le 3 (length_of o) && (if o == 0xCB then false else true))) (λ o. true) 256 refl opcode lt

three : (a b c : Bool) → (a && b && (if c then false else true)) ≡ true → (a ≡ true) × (b ≡ true) × (c ≡ false)
three true true false h = (refl, refl, refl)
three true true true h = absurd (let bad : false ≡ true = h in cc)
three true false c h = absurd (let bad : false ≡ true = h in cc)
three false b c h = absurd (let bad : false ≡ true = h in cc)

word_length : (opcode : ℕ) → opcode < 256 → touch.Word ≡ opcode_touch opcode → (nat_le 2 (length_of opcode) ≡ true) × (nat_le 3 (length_of opcode) ≡ true) × ((opcode == 0xCB) ≡ false)
word_length opcode lt e = three _ _ _ (subst (λ t. implied (is_word t) (nat_le 2 (length_of opcode) && nat_le 3 (length_of opcode) && (if opcode == 0xCB then false else true)) ≡ true) (sym e) (long_words opcode lt))

pub quiet_word : (region : Region) (m : View) (p : Processor) (opcode second third w : ℕ) → IsInRom m p → opcode ≡ byte_at m p.pc → opcode < 256
    → second ≡ byte_at m (p.pc + 1) → third ≡ byte_at m (p.pc + 2) → w ≡ second + 256 * third
    → touch.Word ≡ opcode_touch opcode → IsQuietAddress m w → IsQuiet region (state p m)
quiet_word region m p opcode second third w r is lt second_eq third_eq w_is t_is h =
    let l = word_length opcode lt t_is in
    let two : nat_le 2 (length_of (byte_at m p.pc)) ≡ true = subst (λ o. nat_le 2 (length_of o) ≡ true) is l.0 in
    let more : nat_le 3 (length_of (byte_at m p.pc)) ≡ true = subst (λ o. nat_le 3 (length_of o) ≡ true) is l.1 in
    record {
      runs = λ fetch reads.
          let b : slice_index (fetched m p fetch) 1 ≡ second = second_is m p fetch r two ∙ sym second_eq in
          let c : slice_index (fetched m p fetch) 2 ≡ third = third_is m p fetch r two more ∙ sym third_eq in
          quiet_opcode region m p opcode w fetch reads r is lt l.2 (rw (b, c) w_is) (subst (λ u. IsQuietTouch region m p w u) t_is h);
      halts = quiet_halt region m p r;
    }

-- by the byte after the prefix CB
abbrev is_prefixed : Touch → Bool
is_prefixed touch.Prefixed = true
is_prefixed _ = false

prefixes : (opcode : ℕ) → opcode < 256 → is_prefixed (opcode_touch opcode) ≡ (opcode == 0xCB)
unfolding opcode_touch table row_in operand_of pair_of stack_pair_of condition_of indirect_of alu_of shift_of
prefixes opcode lt = agree (λ o. is_prefixed (opcode_touch o)) (λ o. o == 0xCB) 256 refl opcode lt

prefix_is : (opcode : ℕ) → opcode < 256 → touch.Prefixed ≡ opcode_touch opcode → opcode ≡ 0xCB
prefix_is opcode lt e = eqb-true opcode 0xCB (sym (ap is_prefixed e ∙ prefixes opcode lt))

prefix_long : nat_le 2 (length_of 0xCB) ≡ true
unfolding length_of row_of row_in prefixed_table
prefix_long = refl

quiet_six : (region : Region) (m : View) (p : Processor) (w second : ℕ) (b : Bool) → (second % 8 == 6) ≡ b → (second % 8 ≡ 6 → IsQuietAddress m (pair_value p pair.Hl)) → IsQuietTouch region m p w (at_six b)
quiet_six region m p w second true e h = h (eqb-true (second % 8) 6 e)
quiet_six region m p w second false e h = tt

quiet_prefixed_row : (region : Region) (m : View) (p : Processor) (second : ℕ) (reads : List ℕ) → second < 256 → m.storage.count ≡ 0
    → (second % 8 ≡ 6 → IsQuietAddress m (pair_value p pair.Hl)) → row_faults (row_in prefixed_table second 0 0) region (state p m) reads ≡ no_faults
quiet_prefixed_row region m p second reads lt none h =
    quiet_row (row_in prefixed_table second 0 0) region m p 0 reads none
    (subst (λ v. IsQuietTouch region m p v (row_touch (row_in prefixed_table second 0 0))) (sym (prefixed_word second 0 lt))
    (subst (λ t. IsQuietTouch region m p 0 t) (sym (prefixed_touch second lt)) (quiet_six region m p 0 second (second % 8 == 6) refl h)))

pub quiet_prefixed : (region : Region) (m : View) (p : Processor) (opcode second : ℕ) → IsInRom m p → opcode ≡ byte_at m p.pc → opcode < 256
    → second ≡ byte_at m (p.pc + 1) → second < 256 → touch.Prefixed ≡ opcode_touch opcode
    → (second % 8 ≡ 6 → IsQuietAddress m (pair_value p pair.Hl)) → IsQuiet region (state p m)
quiet_prefixed region m p opcode second r is lt second_eq small t_is h =
    let cb : opcode ≡ 0xCB = prefix_is opcode lt t_is in
    let two : nat_le 2 (length_of (byte_at m p.pc)) ≡ true = subst (λ o. nat_le 2 (length_of o) ≡ true) (sym cb ∙ is) prefix_long in
    record {
      runs = λ fetch reads.
          let b : slice_index (fetched m p fetch) 1 ≡ second = second_is m p fetch r two ∙ sym second_eq in
          let row : decoded (fetched m p fetch) ≡ row_in prefixed_table second 0 0 =
          prefixed_row _ _ _ (first_is m p fetch r ∙ sym is ∙ cb) ∙ ap (λ v. row_in prefixed_table v 0 0) b in
          quiet_by_row region m p fetch reads r (rw row (quiet_prefixed_row region m p second reads small r.still h));
      halts = quiet_halt region m p r;
    }

-- ---- a byte of ROM as it was read
pub rom_byte_is : (m : View) (a b : ℕ) → a < 0x8000 → b ≡ rom_byte m.rom (shown_bank m.rom m.storage.banks a) a → b ≡ byte_at m a
unfolding byte_at mapped_at
rom_byte_is m a b low is = rw (lt-ltb a 0x8000 low) is
