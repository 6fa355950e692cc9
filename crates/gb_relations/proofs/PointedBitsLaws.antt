-- The low bits of the address that an instruction stores at by a pointer.
use Rattle.std.proofs.Common.{◌≡◌, ℕ, ◌%◌, ◌<◌, Bool, true, false, ◌==◌, Option, Some, None, IfSome, sym, ◌∙◌, ap, subst, arith}
use Rattle.std.proofs.lemmas.Bool.Decides.{nat_tests}
use Rattle.gb_ops.specs.declared.machine.Read.{Read}
use Rattle.gb_ops.specs.declared.machine.Write.{Write}
use Rattle.gb_ops.specs.declared.machine.Write.TheVariants as write
use Rattle.gb_ops.specs.declared.op.Op.{Op}
use Rattle.gb_ops.specs.declared.op.Pointer.{Pointer}
use Rattle.gb_ops.specs.declared.op.Register.{Register}
use Rattle.gb_ops.specs.declared.registers.Processor.{Processor}
use Rattle.gb_ops.specs.declared.registers.Registers.{Registers}
use Rattle.gb_ops.specs.Effects as Effects
use Rattle.gb_ops.specs.Pairs.{word}
use Rattle.gb_ops.specs.Pointers.{pointer_of, pointed, high_register, low_register, byte_or_page, ReadsAt, WritesAt}
use Rattle.gb_ops.specs.Registers.{get}
use Rattle.gb_ops.proofs.PointerLaws.{follows}
use Rattle.gb_domain.specs.declared.low_bits.LowBits.{LowBits}
use Rattle.gb_domain.specs.declared.rules.Rules.{Rules}
use Rattle.gb_domain.specs.declared.rules.Rules.TheVariants.{Simple, Extended}
use Rattle.gb_domain.specs.declared.types.Val.{Val}
use Rattle.gb_domain.specs.Interval.{low_bits_of}
use Rattle.gb_domain.specs.LowBits.{modulus, no_low_bits, are_congruent}
use Rattle.gb_domain.specs.Meaning as intervals
use Rattle.gb_domain.specs.Meaning.{Has}
use Rattle.gb_domain.specs.Values.{interval_of}
use Rattle.gb_domain.proofs.IntervalLaws.{In-Has}
use Rattle.gb_domain.proofs.ModulusLaws.{congruent-byte}
use Rattle.gb_domain.proofs.ValueLaws.{Has-same}
use Rattle.gb_pairs.specs.Below.gb_vals.Meaning.{In}
use Rattle.gb_pairs.specs.Meaning.{AreBytes}
use Rattle.gb_relations.specs.PointedBits.{pointed_bits, known_bits, may_be_at, HasIf, WritesHas, AreSoundBits}

Has-nothing : (a : ℕ) → Has no_low_bits a
unfolding modulus
Has-nothing a = record { same = omega arith }

-- the low bits of an address are those of its low byte
pub Has-word : (k : LowBits) (high low : ℕ) → low < 256 → Has k low → Has k (word high low)
Has-word k high low small h =
    let byte : word high low % 256 ≡ low = omega arith in
    record { same = sym (congruent-byte k.count (word high low)) ∙ (ap (λ n. n % modulus k.count) byte ∙ h.same) }

pub In-value : (v : Val) (n : ℕ) → In v n → intervals.In (interval_of v) n
In-value v n h = record { least = h.least; most = h.most; low = Has-same v.low_bits n v.lo h.low }

pub Has-pointed :
    (q : Pointer) (registers : Registers Val) (p : Processor) (a : ℕ)
    → ((r : Register) → In (get r registers) (get r p.registers)) → AreBytes p.registers → a ≡ pointed p q → Has (pointed_bits (Some q) registers) a
unfolding pointed
Has-pointed q registers p a holds bytes at =
    let v = get (low_register q) registers in
    subst (Has (low_bits_of (interval_of v))) (sym at)
    (Has-word (low_bits_of (interval_of v)) (byte_or_page p (high_register q)) (get (low_register q) p.registers) (bytes.each (low_register q))
    (In-Has (interval_of v) _ (In-value v _ (holds (low_register q)))))

Has-followed :
    (o : Option Pointer) (registers : Registers Val) (p : Processor) (r : Read) (w : Write)
    → ((q : Register) → In (get q registers) (get q p.registers)) → AreBytes p.registers
    → IfSome o (λ q. ReadsAt (pointed p q) r × WritesAt (pointed p q) w) → WritesHas (Some (pointed_bits o registers)) w
unfolding WritesAt
Has-followed None registers p r (write.Byte a n) holds bytes goes = Has-nothing a
Has-followed (Some q) registers p r (write.Byte a n) holds bytes goes = Has-pointed q registers p a holds bytes goes.1
Has-followed o registers p r write.Nothing holds bytes goes = tt
Has-followed o registers p r (write.Word a n) holds bytes goes = tt
Has-followed o registers p r (write.Push a n) holds bytes goes = tt

has_nothing : (w : Write) → WritesHas None w
has_nothing (write.Byte a n) = tt
has_nothing write.Nothing = tt
has_nothing (write.Word a n) = tt
has_nothing (write.Push a n) = tt

AreSoundBits-known_bits : (rules : Rules) (whole : Bool) (o : Op) (registers : Registers Val) → AreSoundBits o registers (known_bits rules whole o registers)
unfolding known_bits
AreSoundBits-known_bits Simple whole o registers = record { writes = λ p l h bytes holds. has_nothing (Effects.effect_of o p l h).write }
AreSoundBits-known_bits Extended true o registers =
    record {
      writes = λ p l h bytes holds.
          Has-followed (pointer_of o) registers p (Effects.read_of o p) (Effects.effect_of o p l h).write holds bytes (follows o p l h);
    }
AreSoundBits-known_bits Extended false o registers = record { writes = λ p l h bytes holds. has_nothing (Effects.effect_of o p l h).write }

pub known_bits_sound :
    (rules : Rules) (whole : Bool) (o : Op) (registers : Registers Val) (k : Option LowBits) → k ≡ known_bits rules whole o registers → AreSoundBits o registers k
known_bits_sound rules whole o registers k e = subst (λ j. AreSoundBits o registers j) (sym e) (AreSoundBits-known_bits rules whole o registers)

-- ---- an address that isn't the one

same_test : (n m : ℕ) → n ≡ m → (n == m) ≡ true
same_test n m e = grind (arith, nat_tests)

pub not_both : {X : Type 0} → true ≡ false → X
not_both e = absurd cc

congruent_if : (k : LowBits) (a : ℕ) → Has k a → are_congruent k.count a k.bits ≡ true
unfolding are_congruent
congruent_if k a h = same_test _ _ h.same

-- an address with other low bits is another one
pub elsewhere : (k : Option LowBits) (a b : ℕ) → HasIf k a → may_be_at k b ≡ false → b ≡ a → ⊥
elsewhere None a b h none e = not_both none
elsewhere (Some k) a b h none e = not_both (sym (congruent_if k b (subst (Has k) (sym e) h)) ∙ none)
