-- The operations of A stand for those of the machine.
use Rattle.std.proofs.Common.{◌≡◌, ℕ, ◌+◌, ◌-◌, ◌%◌, ◌<◌, Bool, true, false, ◌==◌, nat_lt, refl, sym, subst, arith}
use Rattle.std.proofs.lemmas.Bool.Decides.{nat_tests}
use Rattle.std.specs.Int.Bits.{and_self, or_self, xor_self}
use Rattle.gb_ops.specs.declared.op.AluOp.{AluOp}
use Rattle.gb_ops.specs.declared.op.AluOp.TheVariants as op
use Rattle.gb_ops.specs.declared.registers.Flags.{Flags}
use Rattle.gb_ops.specs.Flags.{bit_of}
use Rattle.gb_ops.specs.Arithmetic.{alu_result, subtracted, logical}
use Rattle.gb_domain.specs.declared.types.Val.{Val}
use Rattle.gb_domain.specs.declared.types.Flg.{Flg}
use Rattle.gb_domain.specs.Rules.{IsVal, IsFlg}
use Rattle.gb_vals.specs.declared.outcome.AbsComputed.{AbsComputed}
use Rattle.gb_vals.specs.Vals.{single}
use Rattle.gb_vals.specs.Flags.{known}
use Rattle.gb_vals.specs.Meaning.{In, FlagsIn, Gives, IsSound, IsSoundOfTwo, IsOutcome}
use Rattle.gb_vals.specs.Alu.{alu, alu_itself, nothing_left, result_with_itself}
use Rattle.gb_vals.proofs.MeaningLaws.{known-may_be_same, In-single, IsOutcome-sound, IsOutcome-sound_of_two}
use Rattle.gb_vals.proofs.SumLaws.{Gives-sum, Gives-difference, sum-byte, difference-byte}
use Rattle.gb_vals.proofs.LogicLaws.{Gives-conjunction, Gives-disjunction, Gives-exclusion, Gives-of_itself, conjunction-byte, disjunction-byte, exclusion-byte, of_itself-byte}
use Rattle.gb_domain.specs.Values.{is_strided}
use Rattle.gb_vals.proofs.StrideLaws.{alu-strided, alu_itself-strided}

Gives-alu :
    (how : AluOp) (a v : Val) (f : Flg) (x y : ℕ) (g : Flags)
    → a.hi < 256 → v.hi < 256 → In a x → In v y → FlagsIn f g → Gives (alu how a v f) (alu_result how x y g)
unfolding alu alu_result bit_of
Gives-alu op.Add a v f x y g p q m n h = Gives-sum a v (known false) x y false m n refl
Gives-alu op.Adc a v f x y g p q m n h = Gives-sum a v f.carry x y g.carry m n h.carry
Gives-alu op.Sub a v f x y g p q m n h = Gives-difference a v (known false) x y false m n refl
Gives-alu op.Sbc a v f x y g p q m n h = Gives-difference a v f.carry x y g.carry m n h.carry
Gives-alu op.And a v f x y g p q m n h = Gives-conjunction a v x y m n
Gives-alu op.Xor a v f x y g p q m n h = Gives-exclusion a v x y p q m n
Gives-alu op.Or a v f x y g p q m n h = Gives-disjunction a v x y p q m n
Gives-alu op.Cp a v f x y g p q m n h =
    record { value = m; flags = (Gives-difference a v (known false) x y false m n refl).flags }

pub alu_sound :
    (how : AluOp) (a v : Val) (f : Flg) (o : AbsComputed)
    → o ≡ alu how a v f → a.hi < 256 → v.hi < 256 → IsSoundOfTwo (alu_result how) a v f o
alu_sound how a v f o e p q =
    subst (λ r. IsSoundOfTwo (alu_result how) a v f r) (sym e) (record { gives = λ x y g. Gives-alu how a v f x y g p q })

-- ---- A with A

-- what a byte leaves with itself
Gives-difference_with_itself : (x : ℕ) (subtract : Bool) (o : Val) → In o x → Gives (record { val = single 0; flags = nothing_left true }) (subtracted x x 0)
unfolding subtracted
Gives-difference_with_itself x subtract o m =
    let nothing : (x + 256 - (x + 0)) % 256 ≡ 0 = omega arith in
    record {
      value = record { least = omega arith; most = omega arith; low = refl };
      flags = record {
        zero = known-may_be_same true ((x + 256 - (x + 0)) % 256 == 0) (grind (arith, nat_tests));
        subtract = refl;
        half_carry = known-may_be_same false (nat_lt (x % 16) (x % 16 + 0)) (grind (arith, nat_tests));
        carry = known-may_be_same false (nat_lt x (x + 0)) (grind (arith, nat_tests));
      };
    }

Gives-alu_itself :
    (how : AluOp) (a : Val) (f : Flg) (x : ℕ) (g : Flags)
    → In a x → FlagsIn f g → Gives (alu_itself how a f) (result_with_itself how x g)
unfolding alu_itself alu_result bit_of logical
Gives-alu_itself op.Add a f x g m h = Gives-sum a a (known false) x x false m m refl
Gives-alu_itself op.Adc a f x g m h = Gives-sum a a f.carry x x g.carry m m h.carry
Gives-alu_itself op.Sub a f x g m h = Gives-difference_with_itself x true a m
Gives-alu_itself op.Sbc a f x g m h = Gives-difference a a f.carry x x g.carry m m h.carry
Gives-alu_itself op.And a f x g m h = rw (and_self x) (Gives-of_itself a x true m)
Gives-alu_itself op.Xor a f x g m h =
    rw (xor_self x) (record { value = In-single 0; flags = record { zero = refl; subtract = refl; half_carry = refl; carry = refl } })
Gives-alu_itself op.Or a f x g m h = rw (or_self x) (Gives-of_itself a x false m)
Gives-alu_itself op.Cp a f x g m h = record { value = m; flags = (Gives-difference_with_itself x true a m).flags }

pub alu_itself_sound :
    (how : AluOp) (a : Val) (f : Flg) (o : AbsComputed) → o ≡ alu_itself how a f → IsSound (result_with_itself how) a f o
alu_itself_sound how a f o e =
    subst (λ r. IsSound (result_with_itself how) a f r) (sym e) (record { gives = Gives-alu_itself how a f })

-- ---- results are bytes

alu-byte : (how : AluOp) (a v : Val) (f : Flg) → IsVal a → IsVal v → (alu how a v f).val.hi < 256
unfolding alu
alu-byte op.Add a v f p q = sum-byte a v (known false)
alu-byte op.Adc a v f p q = sum-byte a v f.carry
alu-byte op.Sub a v f p q = difference-byte a v (known false)
alu-byte op.Sbc a v f p q = difference-byte a v f.carry
alu-byte op.And a v f p q = conjunction-byte a v (omega arith) p.hi
alu-byte op.Xor a v f p q = exclusion-byte a v (omega arith) (omega arith)
alu-byte op.Or a v f p q = disjunction-byte a v (omega arith) (omega arith)
alu-byte op.Cp a v f p q = p.hi

alu_itself-byte : (how : AluOp) (a : Val) (f : Flg) → IsVal a → (alu_itself how a f).val.hi < 256
unfolding alu_itself
alu_itself-byte op.Add a f p = sum-byte a a (known false)
alu_itself-byte op.Adc a f p = sum-byte a a f.carry
alu_itself-byte op.Sub a f p = omega arith
alu_itself-byte op.Sbc a f p = difference-byte a a f.carry
alu_itself-byte op.And a f p = of_itself-byte a true (omega arith) p.hi
alu_itself-byte op.Xor a f p = omega arith
alu_itself-byte op.Or a f p = of_itself-byte a false (omega arith) p.hi
alu_itself-byte op.Cp a f p = p.hi

pub alu_inhabited :
    (how : AluOp) (a v : Val) (f : Flg) (o : AbsComputed) → o ≡ alu how a v f → IsVal a → IsVal v → IsFlg f → IsOutcome o
alu_inhabited how a v f o e p q flags =
    IsOutcome-sound_of_two (alu_result how) a v f o (alu_sound how a v f o e p.hi q.hi) p q flags (subst (λ r. r.val.hi < 256) (sym e) (alu-byte how a v f p q))
    (subst (λ r. is_strided r.val ≡ true) (sym e) (alu-strided how a v f p.strided))

pub alu_itself_inhabited :
    (how : AluOp) (a : Val) (f : Flg) (o : AbsComputed) → o ≡ alu_itself how a f → IsVal a → IsFlg f → IsOutcome o
alu_itself_inhabited how a f o e p flags =
    IsOutcome-sound (result_with_itself how) a f o (alu_itself_sound how a f o e) p flags (subst (λ r. r.val.hi < 256) (sym e) (alu_itself-byte how a f p))
    (subst (λ r. is_strided r.val ≡ true) (sym e) (alu_itself-strided how a f p.strided))
