-- Registers and pairs, one by one: what is set is got, and the others stay.
use Rattle.std.proofs.Common.{◌≡◌, ℕ, ◌<◌, true, false, ◌==◌, if◌then◌else◌, refl, sym, ◌∙◌, ap}
use Rattle.std.proofs.lemmas.Bool.{eqb-true}
use Rattle.gb_ops.specs.declared.op.Register.{Register}
use Rattle.gb_ops.specs.declared.op.Register.TheVariants.{A, B, C, D, E, H, L}
use Rattle.gb_ops.specs.declared.registers.Registers.{Registers}
use Rattle.gb_ops.specs.Registers.{get, set}
use Rattle.gb_domain.specs.declared.pairs.WordPair.{WordPair}
use Rattle.gb_domain.specs.declared.pairs.WordPair.TheVariants as pair
use Rattle.gb_domain.specs.declared.pairs.PairFacts.{PairFacts}
use Rattle.gb_domain.specs.declared.pairs.Pairs.{Pairs}
use Rattle.gb_domain.specs.Pairs.{facts_of}
use Rattle.gb_domain.specs.Places.{is_same_register}
use Rattle.gb_pairs.specs.Meaning.{word_of, AreBytes}
use Rattle.gb_pairs.specs.Written.{is_half, pair_number, is_same_pair}
use Rattle.gb_pairs.specs.Reduced.{with_facts}

-- what holds of a register's new value and of the other registers holds of each
pub each_set :
    {X : Type 0} (P : Register → X → Type 0) (r : Register) (y : X) (s : Registers X)
    → P r y → ((q : Register) → P q (get q s)) → (q : Register) → P q (get q (set r y s))
each_set P A y s n o A = n
each_set P A y s n o q = o q
each_set P B y s n o B = n
each_set P B y s n o q = o q
each_set P C y s n o C = n
each_set P C y s n o q = o q
each_set P D y s n o D = n
each_set P D y s n o q = o q
each_set P E y s n o E = n
each_set P E y s n o q = o q
each_set P H y s n o H = n
each_set P H y s n o q = o q
each_set P L y s n o L = n
each_set P L y s n o q = o q

pub each_facts :
    (P : WordPair → PairFacts → Type 0) (p : WordPair) (f : PairFacts) (s : Pairs)
    → P p f → ((q : WordPair) → P q (facts_of q s)) → (q : WordPair) → P q (facts_of q (with_facts p f s))
each_facts P pair.Bc f s n o pair.Bc = n
each_facts P pair.Bc f s n o q = o q
each_facts P pair.De f s n o pair.De = n
each_facts P pair.De f s n o q = o q
each_facts P pair.Hl f s n o pair.Hl = n
each_facts P pair.Hl f s n o q = o q

pub AreBytes-set : (r : Register) (n : ℕ) (x : Registers ℕ) → n < 256 → AreBytes x → AreBytes (set r n x)
AreBytes-set r n x small h = record { each = each_set (λ q m. m < 256) r n x small h.each }

pub get_same : (r : Register) (n : ℕ) (x : Registers ℕ) → get r (set r n x) ≡ n
get_same A n x = refl
get_same B n x = refl
get_same C n x = refl
get_same D n x = refl
get_same E n x = refl
get_same H n x = refl
get_same L n x = refl

-- another register stays
pub get_other : (r s : Register) (n : ℕ) (x : Registers ℕ) → is_same_register r s ≡ false → get s (set r n x) ≡ get s x
get_other A A n x h = cc
get_other B B n x h = cc
get_other C C n x h = cc
get_other D D n x h = cc
get_other E E n x h = cc
get_other H H n x h = cc
get_other L L n x h = cc
get_other A s n x h = refl
get_other B s n x h = refl
get_other C s n x h = refl
get_other D s n x h = refl
get_other E s n x h = refl
get_other H s n x h = refl
get_other L s n x h = refl

-- a pair stays where none of its bytes is set
pub word_other : (r : Register) (p : WordPair) (n : ℕ) (x : Registers ℕ) → is_half r p ≡ false → word_of p (set r n x) ≡ word_of p x
word_other A pair.Bc n x h = refl
word_other B pair.Bc n x h = cc
word_other C pair.Bc n x h = cc
word_other D pair.Bc n x h = refl
word_other E pair.Bc n x h = refl
word_other H pair.Bc n x h = refl
word_other L pair.Bc n x h = refl
word_other A pair.De n x h = refl
word_other B pair.De n x h = refl
word_other C pair.De n x h = refl
word_other D pair.De n x h = cc
word_other E pair.De n x h = cc
word_other H pair.De n x h = refl
word_other L pair.De n x h = refl
word_other A pair.Hl n x h = refl
word_other B pair.Hl n x h = refl
word_other C pair.Hl n x h = refl
word_other D pair.Hl n x h = refl
word_other E pair.Hl n x h = refl
word_other H pair.Hl n x h = cc
word_other L pair.Hl n x h = cc

-- ---- registers and pairs by their numbers

pair_at_number : ℕ → WordPair
pair_at_number n = if n == 0 then pair.Bc else if n == 1 then pair.De else pair.Hl

pair_at_number-number : (p : WordPair) → pair_at_number (pair_number p) ≡ p
unfolding pair_at_number
pair_at_number-number pair.Bc = refl
pair_at_number-number pair.De = refl
pair_at_number-number pair.Hl = refl

pub same_pair : (p q : WordPair) → is_same_pair p q ≡ true → p ≡ q
same_pair p q h = sym (pair_at_number-number p) ∙ ap pair_at_number (eqb-true _ _ h) ∙ pair_at_number-number q
