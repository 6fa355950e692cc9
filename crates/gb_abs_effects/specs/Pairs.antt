-- Words whose bytes are intervals, and the pairs of a core (abstract interpretation: the interval
-- domain; CPU instruction set: 16-bit arithmetic; own).
use Rattle.std.specs.Prelude.{ℕ, ◌+◌, ◌-◌, ◌/◌, ◌%◌, Bool, false, ◌&&◌, if◌then◌else◌, nat_lt, Option, Some, None}
use Rattle.gb_ops.specs.declared.op.Pair.{Pair}
use Rattle.gb_ops.specs.declared.op.Pair.TheVariants as pair
use Rattle.gb_ops.specs.declared.op.StackPair.{StackPair}
use Rattle.gb_ops.specs.declared.op.StackPair.TheVariants as stack
use Rattle.gb_ops.specs.declared.op.Indirect.{Indirect}
use Rattle.gb_ops.specs.declared.op.Indirect.TheVariants as indirect
use Rattle.gb_ops.specs.Pairs.{word}
use Rattle.gb_ops.specs.Arithmetic as machine
use Rattle.gb_domain.specs.declared.types.Val.{Val}
use Rattle.gb_domain.specs.declared.types.Flg.{Flg}
use Rattle.gb_domain.specs.declared.types.Core.{Core}
use Rattle.gb_domain.specs.declared.low_bits.LowBits.{LowBits}
use Rattle.gb_domain.specs.LowBits.{no_low_bits}
use Rattle.gb_abs.specs.Below.gb_vals.Vals.{between, single, any_val, is_single}
use Rattle.gb_abs.specs.Below.gb_vals.Flags.{known, either, known_flags, greatest_flags, flags_val, flags_of_val}
use Rattle.gb_abs.specs.Below.gb_vals.LowShifts.{doubled}
use Rattle.gb_abs.specs.Below.gb_vals.LowSums.{sum, incremented, decremented, high_incremented, high_decremented}
use Rattle.gb_abs.specs.Below.gb_vals.Strided.{low_of, cut_to}
use Rattle.gb_domain.specs.declared.types.Halves.{Halves}

-- ---- words

abbrev pub known_word : ℕ → Halves
known_word w = record { high = single (w / 256); low = single (w % 256) }

abbrev pub any_word : Halves
any_word = record { high = any_val; low = any_val }

-- what is known of a word that may be there
abbrev pub word_or_any : Option Halves → Halves
word_or_any None = any_word
word_or_any (Some w) = w

abbrev pub is_word_known : Halves → Bool
is_word_known w = is_single w.high && is_single w.low

abbrev pub least_word : Halves → ℕ
least_word w = word w.high.lo w.low.lo

-- a high byte that the low one may carry into, or borrow from
abbrev pub raised : Val → Val
raised v = if nat_lt v.hi 255 then between v.lo (v.hi + 1) else any_val

abbrev pub lowered : Val → Val
lowered v = if nat_lt 0 v.lo then between (v.lo - 1) v.hi else any_val

-- one more: the low byte moves alone where it can't wrap (the remainder is for empty intervals alone)
unfoldable pub next_word : Halves → Halves
next_word w =
    if is_word_known w then known_word ((least_word w + 1) % 65536)
    else if nat_lt w.low.hi 255
    then record { high = between w.high.lo w.high.hi; low = between ((w.low.lo + 1) % 256) (w.low.hi + 1) }
    else record { high = raised w.high; low = any_val }

-- one less: the low byte moves alone where it can't wrap
unfoldable pub previous_word : Halves → Halves
previous_word w =
    if is_word_known w then known_word ((least_word w + 65535) % 65536)
    else if nat_lt 0 w.low.lo
    then record { high = between w.high.lo w.high.hi; low = between (w.low.lo - 1) (w.low.hi - 1) }
    else record { high = lowered w.high; low = any_val }

abbrev pub are_words_known : Halves → Halves → Bool
are_words_known x y = is_word_known x && is_word_known y

-- a sum is known where both words are
unfoldable pub word_sum : Halves → Halves → Halves
word_sum x y =
    if are_words_known x y then known_word ((least_word x + least_word y) % 65536) else any_word

-- H and C of words that aren't known
abbrev pub sum_flags_any : Flg → Flg
sum_flags_any f =
    record { zero = f.zero; subtract = known false; half_carry = either; carry = either; is_own = false }

abbrev pub sum_flags_known : ℕ → ℕ → Flg → Flg
sum_flags_known x y f = record (known_flags (machine.word_sum_flags x y (greatest_flags f))) { zero = f.zero }

-- ADD HL keeps Z
unfoldable pub word_sum_flags : Halves → Halves → Flg → Flg
word_sum_flags x y f =
    if are_words_known x y then sum_flags_known (least_word x) (least_word y) f else sum_flags_any f

-- a word and a displacement: known where the word is
unfoldable pub displaced_word : Halves → ℕ → Halves
displaced_word w e8 = if is_word_known w then known_word (machine.displaced (least_word w) e8) else any_word

-- Z and N clear, H and C either
abbrev pub displaced_flags_any : Flg
displaced_flags_any = record { zero = known false; subtract = known false; half_carry = either; carry = either; is_own = false }

-- the flags of that: of the low byte, known where the word is
unfoldable pub displaced_flags : Halves → ℕ → Flg
displaced_flags w e8 = if is_word_known w then known_flags (machine.sp_sum_flags (least_word w) e8) else displaced_flags_any

-- ---- words by the rules of version 4 (whole), cut to low bits, and by those of versions 1 to 3

abbrev pub cut_word : LowBits → LowBits → Halves → Halves
cut_word high low w = record { high = cut_to high w.high; low = cut_to low w.low }

-- the high byte has its low bits still where the low byte doesn't carry
unfoldable pub next_word_by : Bool → Halves → Halves
next_word_by whole h =
    if whole then cut_word (high_incremented (low_of h.high) h.low.hi) (incremented (low_of h.low)) (next_word h) else next_word h

-- and where it doesn't borrow
unfoldable pub previous_word_by : Bool → Halves → Halves
previous_word_by whole h =
    if whole then cut_word (high_decremented (low_of h.high) h.low.lo) (decremented (low_of h.low)) (previous_word h) else previous_word h

-- the low bits of L after ADD HL: HL itself is doubled, and SP counts where it is known
abbrev pub summed_low_bits : Pair → Halves → Halves → LowBits
summed_low_bits pair.Hl hl added = doubled (low_of hl.low)
summed_low_bits pair.Sp hl added = if is_word_known added then sum (low_of hl.low) (low_of added.low) (Some false) else no_low_bits
summed_low_bits _ hl added = sum (low_of hl.low) (low_of added.low) (Some false)

-- of the high byte nothing is said
unfoldable pub word_sum_by : Bool → Pair → Halves → Halves → Halves
word_sum_by whole which hl added =
    if whole then cut_word no_low_bits (summed_low_bits which hl added) (word_sum hl added) else word_sum hl added

-- ---- the pairs of a core

-- what a pair holds; of SP a core says nothing
unfoldable pub pair_halves : Pair → Core → Halves
pair_halves pair.Bc s = record { high = s.registers.b; low = s.registers.c }
pair_halves pair.De s = record { high = s.registers.d; low = s.registers.e }
pair_halves pair.Hl s = record { high = s.registers.h; low = s.registers.l }
pair_halves pair.Sp s = any_word

-- what a pair holds, where SP is known as one
unfoldable pub pair_or_sp : Pair → Halves → Core → Halves
pair_or_sp pair.Sp sp s = sp
pair_or_sp which sp s = pair_halves which s

unfoldable pub with_pair : Pair → Halves → Core → Core
with_pair pair.Bc w s = record s { registers = record s.registers { b = w.high; c = w.low } }
with_pair pair.De w s = record s { registers = record s.registers { d = w.high; e = w.low } }
with_pair pair.Hl w s = record s { registers = record s.registers { h = w.high; l = w.low } }
with_pair pair.Sp w s = s

-- HL counts as INC HL and DEC HL do, where the operand says so
unfoldable pub with_indirect : Bool → Indirect → Core → Core
with_indirect whole indirect.Bc s = s
with_indirect whole indirect.De s = s
with_indirect whole indirect.HlIncrement s = with_pair pair.Hl (next_word_by whole (pair_halves pair.Hl s)) s
with_indirect whole indirect.HlDecrement s = with_pair pair.Hl (previous_word_by whole (pair_halves pair.Hl s)) s

-- what is pushed: copies, F as the interval of its bytes
unfoldable pub stack_pair_halves : StackPair → Core → Halves
stack_pair_halves stack.Bc s = record { high = s.registers.b; low = s.registers.c }
stack_pair_halves stack.De s = record { high = s.registers.d; low = s.registers.e }
stack_pair_halves stack.Hl s = record { high = s.registers.h; low = s.registers.l }
stack_pair_halves stack.Af s = record { high = s.registers.a; low = flags_val s.flags }

-- a pair becomes a copy of what was popped
unfoldable pub with_stack_pair : StackPair → Halves → Core → Core
with_stack_pair stack.Bc w s = with_pair pair.Bc w s
with_stack_pair stack.De w s = with_pair pair.De w s
with_stack_pair stack.Hl w s = with_pair pair.Hl w s
with_stack_pair stack.Af w s =
    record s { registers = record s.registers { a = w.high }; flags = flags_of_val w.low }
