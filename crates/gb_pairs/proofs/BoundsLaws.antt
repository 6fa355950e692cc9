-- What registers hold lies in the bounds of their pairs, and of what links read.
use Rattle.std.proofs.Common.{◌≡◌, ℕ, ◌<◌, refl, sym, subst, arith}
use Rattle.std.proofs.lemmas.Bool.Decides.{nat_tests}
use Rattle.gb_ops.specs.declared.registers.Registers.{Registers}
use Rattle.gb_ops.specs.Registers.{get}
use Rattle.gb_ops.specs.Pairs.{word}
use Rattle.gb_domain.specs.declared.types.Val.{Val}
use Rattle.gb_domain.specs.declared.pairs.WordPair.{WordPair}
use Rattle.gb_domain.specs.declared.pairs.WordPair.TheVariants as pair
use Rattle.gb_domain.specs.declared.pairs.Bounds.{Bounds}
use Rattle.gb_domain.specs.declared.pairs.Other.{Other}
use Rattle.gb_domain.specs.declared.pairs.Other.TheVariants as other
use Rattle.gb_vals.specs.Meaning.{In}
use Rattle.gb_pairs.specs.declared.values.Values.{Values}
use Rattle.gb_pairs.specs.Bounds.{cut, high_of, low_of, box, bounds_of, bounds_of_other}
use Rattle.gb_pairs.specs.Meaning.{Beside, word_of, other_of, IsOtherIn, AreBytes, Holds}
use Rattle.gb_pairs.specs.Sound.{Within, IsSoundBounds, IsSoundOther}

pub Within-cut : (b c : Bounds) (w : ℕ) → Within b w → Within c w → Within (cut b c) w
Within-cut b c w h k = record { least = grind (arith, nat_tests); most = grind (arith, nat_tests) }

Within-box : (h l : Val) (x y : ℕ) → In h x → In l y → Within (box h l) (word x y)
Within-box h l x y p q =
    record {
      least = let a = p.least in let b = q.least in omega arith;
      most = let a = p.most in let b = q.most in omega arith;
    }

-- a pair's word, by the registers of its bytes
pub word_of-is : (p : WordPair) (x : Registers ℕ) → word (get (high_of p) x) (get (low_of p) x) ≡ word_of p x
word_of-is pair.Bc x = refl
word_of-is pair.De x = refl
word_of-is pair.Hl x = refl

-- a pair's word, in the box of its bytes
pub Within-bytes :
    (p : WordPair) (v : Values) (was : Beside) (x : Registers ℕ)
    → Holds v was x → Within (box (get (high_of p) v.registers) (get (low_of p) v.registers)) (word_of p x)
Within-bytes p v was x h =
    subst (λ w. Within (box (get (high_of p) v.registers) (get (low_of p) v.registers)) w) (word_of-is p x)
    (Within-box _ _ _ _ (h.registers (high_of p)) (h.registers (low_of p)))

pub Within-bounds_of : (p : WordPair) (v : Values) (was : Beside) (x : Registers ℕ) → Holds v was x → Within (bounds_of p v) (word_of p x)
unfolding bounds_of
Within-bounds_of p v was x h =
    let own = h.pairs.each p in
    Within-cut _ _ _ (Within-bytes p v was x h) (record { least = own.first; most = own.last })

pub Within-bounds_of_other :
    (m : Bounds) (o : Other) (v : Values) (was : Beside) (x : Registers ℕ)
    → IsOtherIn o m was.memory → Holds v was x → Within (bounds_of_other m o v) (other_of o was x)
unfolding bounds_of_other
Within-bounds_of_other m (other.Register r) v was x i h = record { least = (h.registers r).least; most = (h.registers r).most }
Within-bounds_of_other m (other.Pair p) v was x i h = Within-bounds_of p v was x h
Within-bounds_of_other m (other.Cell a) v was x i h = i.within
Within-bounds_of_other m other.Nothing v was x i h = record { least = omega arith; most = omega arith }

pub bounds_of_sound : (p : WordPair) (v : Values) (b : Bounds) → b ≡ bounds_of p v → IsSoundBounds p v b
bounds_of_sound p v b e = subst (λ c. IsSoundBounds p v c) (sym e) (record { gives = Within-bounds_of p v })

pub bounds_of_other_sound : (m : Bounds) (o : Other) (v : Values) (b : Bounds) → b ≡ bounds_of_other m o v → IsSoundOther m o v b
bounds_of_other_sound m o v b e = subst (λ c. IsSoundOther m o v c) (sym e) (record { gives = Within-bounds_of_other m o v })

-- ---- words and bytes in range

pub word_below : (p : WordPair) (x : Registers ℕ) → AreBytes x → word_of p x < 65536
word_below p x h =
    let a = h.each (high_of p) in
    let b = h.each (low_of p) in
    let less : word (get (high_of p) x) (get (low_of p) x) < 65536 = omega arith in
    subst (λ w. w < 65536) (word_of-is p x) less

pub other_below :
    (m : Bounds) (o : Other) (was : Beside) (x : Registers ℕ) → IsOtherIn o m was.memory → AreBytes x → other_of o was x < 65536
other_below m (other.Register r) was x i h = let a = h.each r in omega arith
other_below m (other.Pair p) was x i h = word_below p x h
other_below m (other.Cell a) was x i h = let small = i.small in omega arith
other_below m other.Nothing was x i h = omega arith
