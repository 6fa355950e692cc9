-- By either rules an operation stands for the machine's.
use Rattle.std.proofs.Common.{◌≡◌, ℕ, ◌<◌, Bool, true, false, None, refl}
use Rattle.gb_ops.specs.declared.op.AluOp.{AluOp}
use Rattle.gb_ops.specs.declared.op.Shift.{Shift}
use Rattle.gb_ops.specs.Arithmetic as machine
use Rattle.gb_domain.specs.declared.types.Val.{Val}
use Rattle.gb_domain.specs.declared.types.Flg.{Flg}
use Rattle.gb_domain.specs.Rules.{IsVal, IsFlg}
use Rattle.gb_abs.specs.Below.gb_vals.Alu.{alu_origin, itself_origin, result_with_itself}
use Rattle.gb_abs.specs.Below.gb_vals.Logic.{complement_result}
use Rattle.gb_abs.specs.Below.gb_vals.Shifts.{shift_result}
use Rattle.gb_abs.specs.Below.gb_vals.Meaning.{IsSound, IsSoundOfTwo, IsSoundOfVal, IsOutcome, IsComputed}
use Rattle.gb_abs.proofs.Below.gb_vals_laws.AluLaws as plain_alu
use Rattle.gb_abs.proofs.Below.gb_vals_laws.BitLaws as plain_bits
use Rattle.gb_abs.proofs.Below.gb_vals_laws.LogicLaws as plain_logic
use Rattle.gb_abs.proofs.Below.gb_vals_laws.ShiftLaws as plain_shift
use Rattle.gb_abs.proofs.Below.gb_vals_laws.SumLaws as plain_sum
use Rattle.gb_abs.proofs.Below.gb_vals_laws.OriginLaws as plain_origin
use Rattle.gb_abs.proofs.Below.gb_vals_laws.CuttingLaws as strided
use Rattle.gb_abs_effects.specs.ByRules.{alu_by, itself_by, complement_by, increment_by, decrement_by, shift_by, reset_bit_by, set_bit_by}

-- ---- operations of A

pub alu_by-sound : (w : Bool) (how : AluOp) (a v : Val) (f : Flg) → a.hi < 256 → v.hi < 256 → IsSoundOfTwo (machine.alu_result how) a v f (alu_by w how a v f)
unfolding alu_by
alu_by-sound true how a v f p q = strided.alu_sound how a v f _ refl p q
alu_by-sound false how a v f p q = plain_alu.alu_sound how a v f _ refl p q

pub alu_by-inhabited : (w : Bool) (how : AluOp) (a v : Val) (f : Flg) → IsVal a → IsVal v → IsFlg f → IsOutcome (alu_by w how a v f)
unfolding alu_by
alu_by-inhabited true how a v f p q flags = strided.alu_inhabited how a v f _ refl p q flags
alu_by-inhabited false how a v f p q flags = plain_alu.alu_inhabited how a v f _ refl p q flags

pub alu_by-kept : (w : Bool) (how : AluOp) (a v : Val) (f : Flg) → (alu_by w how a v f).val.origin ≡ alu_origin how a
unfolding alu_by
alu_by-kept true how a v f = strided.alu_kept how a v f _ refl
alu_by-kept false how a v f = plain_origin.alu_kept how a v f _ refl

pub alu_by-written : (w : Bool) (how : AluOp) (a v : Val) (f : Flg) → (alu_by w how a v f).flags.is_own ≡ false
unfolding alu_by
alu_by-written true how a v f = strided.alu_written how a v f _ refl
alu_by-written false how a v f = plain_origin.alu_written how a v f _ refl

pub itself_by-sound : (w : Bool) (how : AluOp) (a : Val) (f : Flg) → a.hi < 256 → IsSound (result_with_itself how) a f (itself_by w how a f)
unfolding itself_by
itself_by-sound true how a f p = strided.alu_itself_sound how a f _ refl p
itself_by-sound false how a f p = plain_alu.alu_itself_sound how a f _ refl

pub itself_by-inhabited : (w : Bool) (how : AluOp) (a : Val) (f : Flg) → IsVal a → IsFlg f → IsOutcome (itself_by w how a f)
unfolding itself_by
itself_by-inhabited true how a f p flags = strided.alu_itself_inhabited how a f _ refl p flags
itself_by-inhabited false how a f p flags = plain_alu.alu_itself_inhabited how a f _ refl p flags

pub itself_by-kept : (w : Bool) (how : AluOp) (a : Val) (f : Flg) → (itself_by w how a f).val.origin ≡ itself_origin how a
unfolding itself_by
itself_by-kept true how a f = strided.alu_itself_kept how a f _ refl
itself_by-kept false how a f = plain_origin.alu_itself_kept how a f _ refl

pub itself_by-written : (w : Bool) (how : AluOp) (a : Val) (f : Flg) → (itself_by w how a f).flags.is_own ≡ false
unfolding itself_by
itself_by-written true how a f = strided.alu_itself_written how a f _ refl
itself_by-written false how a f = plain_origin.alu_itself_written how a f _ refl

pub complement_by-sound : (w : Bool) (a : Val) (f : Flg) → a.hi < 256 → IsSound complement_result a f (complement_by w a f)
unfolding complement_by
complement_by-sound true a f p = strided.complement_sound a f _ refl p
complement_by-sound false a f p = plain_logic.complement_sound a f _ refl

pub complement_by-inhabited : (w : Bool) (a : Val) (f : Flg) → IsVal a → IsFlg f → IsOutcome (complement_by w a f)
unfolding complement_by
complement_by-inhabited true a f p flags = strided.complement_inhabited a f _ refl p flags
complement_by-inhabited false a f p flags = plain_logic.complement_inhabited a f _ refl p flags

pub complement_by-computed : (w : Bool) (a : Val) (f : Flg) → IsComputed (complement_by w a f)
unfolding complement_by
complement_by-computed true a f = strided.complement_computed a f _ refl
complement_by-computed false a f = plain_origin.complement_computed a f _ refl

-- ---- bytes

pub increment_by-sound : (w : Bool) (v : Val) (f : Flg) → v.hi < 256 → IsSound machine.incremented v f (increment_by w v f)
unfolding increment_by
increment_by-sound true v f p = strided.increment_sound v f _ refl p
increment_by-sound false v f p = plain_sum.increment_sound v f _ refl

pub increment_by-inhabited : (w : Bool) (v : Val) (f : Flg) → IsVal v → IsFlg f → IsOutcome (increment_by w v f)
unfolding increment_by
increment_by-inhabited true v f p flags = strided.increment_inhabited v f _ refl p flags
increment_by-inhabited false v f p flags = plain_sum.increment_inhabited v f _ refl p flags

pub increment_by-computed : (w : Bool) (v : Val) (f : Flg) → IsComputed (increment_by w v f)
unfolding increment_by
increment_by-computed true v f = strided.increment_computed v f _ refl
increment_by-computed false v f = plain_origin.increment_computed v f _ refl

pub decrement_by-sound : (w : Bool) (v : Val) (f : Flg) → v.hi < 256 → IsSound machine.decremented v f (decrement_by w v f)
unfolding decrement_by
decrement_by-sound true v f p = strided.decrement_sound v f _ refl p
decrement_by-sound false v f p = plain_sum.decrement_sound v f _ refl p

pub decrement_by-inhabited : (w : Bool) (v : Val) (f : Flg) → IsVal v → IsFlg f → IsOutcome (decrement_by w v f)
unfolding decrement_by
decrement_by-inhabited true v f p flags = strided.decrement_inhabited v f _ refl p flags
decrement_by-inhabited false v f p flags = plain_sum.decrement_inhabited v f _ refl p flags

pub decrement_by-computed : (w : Bool) (v : Val) (f : Flg) → IsComputed (decrement_by w v f)
unfolding decrement_by
decrement_by-computed true v f = strided.decrement_computed v f _ refl
decrement_by-computed false v f = plain_origin.decrement_computed v f _ refl

pub shift_by-sound : (w : Bool) (how : Shift) (v : Val) (f : Flg) → v.hi < 256 → IsSound (shift_result how) v f (shift_by w how v f)
unfolding shift_by
shift_by-sound true how v f p = strided.shift_sound how v f _ refl p
shift_by-sound false how v f p = plain_shift.shift_sound how v f _ refl p

pub shift_by-inhabited : (w : Bool) (how : Shift) (v : Val) (f : Flg) → IsVal v → IsFlg f → IsOutcome (shift_by w how v f)
unfolding shift_by
shift_by-inhabited true how v f p flags = strided.shift_inhabited how v f _ refl p flags
shift_by-inhabited false how v f p flags = plain_shift.shift_inhabited how v f _ refl p flags

pub shift_by-computed : (w : Bool) (how : Shift) (v : Val) (f : Flg) → IsComputed (shift_by w how v f)
unfolding shift_by
shift_by-computed true how v f = strided.shift_computed how v f _ refl
shift_by-computed false how v f = plain_origin.shift_computed how v f _ refl

-- ---- RES and SET

pub reset_bit_by-sound : (w : Bool) (n : ℕ) (v : Val) → v.hi < 256 → IsSoundOfVal (machine.bit_reset n) v (reset_bit_by w n v)
unfolding reset_bit_by
reset_bit_by-sound true n v p = strided.reset_bit_sound n v _ refl p
reset_bit_by-sound false n v p = plain_bits.reset_bit_sound n v _ refl

pub reset_bit_by-inhabited : (w : Bool) (n : ℕ) (v : Val) → IsVal v → IsVal (reset_bit_by w n v)
unfolding reset_bit_by
reset_bit_by-inhabited true n v p = strided.reset_bit_inhabited n v _ refl p
reset_bit_by-inhabited false n v p = plain_bits.reset_bit_inhabited n v _ refl p

pub reset_bit_by-computed : (w : Bool) (n : ℕ) (v : Val) → (reset_bit_by w n v).origin ≡ None
unfolding reset_bit_by
reset_bit_by-computed true n v = strided.reset_bit_computed n v _ refl
reset_bit_by-computed false n v = plain_origin.reset_bit_computed n v _ refl

pub set_bit_by-sound : (w : Bool) (n : ℕ) (v : Val) → v.hi < 256 → IsSoundOfVal (machine.bit_set n) v (set_bit_by w n v)
unfolding set_bit_by
set_bit_by-sound true n v p = strided.set_bit_sound n v _ refl p
set_bit_by-sound false n v p = plain_bits.set_bit_sound n v _ refl p

pub set_bit_by-inhabited : (w : Bool) (n : ℕ) (v : Val) → IsVal v → IsVal (set_bit_by w n v)
unfolding set_bit_by
set_bit_by-inhabited true n v p = strided.set_bit_inhabited n v _ refl p
set_bit_by-inhabited false n v p = plain_bits.set_bit_inhabited n v _ refl p

pub set_bit_by-computed : (w : Bool) (n : ℕ) (v : Val) → (set_bit_by w n v).origin ≡ None
unfolding set_bit_by
set_bit_by-computed true n v = strided.set_bit_computed n v _ refl
set_bit_by-computed false n v = plain_origin.set_bit_computed n v _ refl
