-- A link without its base, which lay within bounds as the procedure was entered, and the word that a link is about less its base.
use Rattle.std.proofs.Common.{◌≡◌, ◌<◌, ◌∙◌, ℕ, ◌+◌, ◌-◌, ◌*◌, ◌%◌, ◌≤◌, Bool, true, false, ◌||◌, cond, nat_lt, Option, Some, None, refl, sym, subst, arith}
use Rattle.std.specs.Prelude.{IfSome}
use Rattle.std.proofs.lemmas.Bool.Decides.{nat_tests}
use Rattle.std.proofs.lemmas.Option.{same_Some}
use Rattle.gb_ops.specs.declared.registers.Registers.{Registers}
use Rattle.gb_domain.specs.declared.pairs.WordPair.{WordPair}
use Rattle.gb_domain.specs.declared.pairs.Bounds.{Bounds}
use Rattle.gb_domain.specs.declared.pairs.PairBounds.{PairBounds}
use Rattle.gb_domain.specs.declared.pairs.Link.{Link}
use Rattle.gb_domain.specs.Pairs.{IsLink}
use Rattle.gb_pairs.specs.Bounds.{is_empty, bounds_of_base}
use Rattle.gb_pairs.specs.Meaning.{Beside, word_of, other_of, base_of, AreLinked, IsLinked}
use Rattle.gb_pairs.specs.Reduced.{without_base, unbased}
use Rattle.gb_pairs.specs.Sound.{Within, AreWithin, IsSoundWithoutBase}

-- a word and another meet a link that has no base
pub record AreMet (l : Link) (w n : ℕ) : Type 0 where
  pub more : ℕ
  pub most : more ≤ l.width
  pub sum : (w + l.factor * n) % 65536 ≡ (l.sum + more) % 65536

-- ---- on plain numbers

put_in :
    (m base s more first : ℕ) → first ≤ base → m % 65536 ≡ (base + s + more) % 65536
    → m % 65536 ≡ ((s + first) % 65536 + (more + (base - first))) % 65536
put_in m base s more first least h = omega arith

less_of : (w m base s more : ℕ) → (w + m) % 65536 ≡ (base + s + more) % 65536 → (w + (65536 - base % 65536) + m) % 65536 ≡ (s + more) % 65536
less_of w m base s more h = omega arith

more_of : (w m base s more : ℕ) → (w + (65536 - base % 65536) + m) % 65536 ≡ (s + more) % 65536 → (w + m) % 65536 ≡ (base + s + more) % 65536
more_of w m base s more h = omega arith

-- ---- a word less a base, modulo 65536

abbrev pub less : ℕ → ℕ → ℕ
less w base = w + (65536 - base % 65536)

pub AreMet-less : (l : Link) (base w n : ℕ) → AreLinked l base w n → AreMet l (less w base) n
AreMet-less l base w n h = record { more = h.more; most = h.most; sum = less_of w (l.factor * n) base l.sum h.more h.sum }

pub AreLinked-more : (l : Link) (base w n : ℕ) → AreMet l (less w base) n → AreLinked l base w n
AreLinked-more l base w n h = record { more = h.more; most = h.most; sum = more_of w (l.factor * n) base l.sum h.more h.sum }

-- where there is none
pub AreMet-alone : (l : Link) (w n : ℕ) → AreLinked l 0 w n → AreMet l w n
AreMet-alone l w n h = let sum = h.sum in record { more = h.more; most = h.most; sum = omega arith }

pub AreLinked-alone : (l : Link) (w n : ℕ) → AreMet l w n → AreLinked l 0 w n
AreLinked-alone l w n h = let sum = h.sum in record { more = h.more; most = h.most; sum = omega arith }

-- ---- a link without its base

AreLinked-without :
    (b : Bounds) (l : Link) (base w n : ℕ) → Within b base → AreLinked l base w n
    → AreLinked (record l { base = None; sum = (l.sum + b.first) % 65536; width = l.width + (b.last - b.first) }) 0 w n
AreLinked-without b l base w n k h =
    let least = k.least in
    let most = k.most in
    let few = h.most in
    AreLinked-alone _ w n
    (record {
      more = h.more + (base - b.first);
      most = omega arith;
      sum = put_in (w + l.factor * n) base l.sum h.more b.first least h.sum;
    })

-- a link that has no base, of a word and what it reads, if there is one
abbrev pub IsAlone : Option Link → ℕ → Beside → Registers ℕ → Type 0
IsAlone None w was x = Unit {0}
IsAlone (Some l) w was x = AreLinked l 0 w (other_of l.other was x)

pub IsAlone-without :
    (b : Bounds) (l : Link) (base w : ℕ) (was : Beside) (x : Registers ℕ)
    → Within b base → AreLinked l base w (other_of l.other was x) → IsAlone (without_base b l) w was x
unfolding without_base
IsAlone-without b l base w was x k h = choose (is_empty b || nat_lt 65535 (l.width + (b.last - b.first)))
  where
    choose : (c : Bool) → IsAlone (cond c None (Some (record l { base = None; sum = (l.sum + b.first) % 65536; width = l.width + (b.last - b.first) }))) w was x
    choose true = tt
    choose false = AreLinked-without b l base w (other_of l.other was x) k h

Within-base : (base : Option WordPair) (entered : PairBounds) (was : Registers ℕ) → AreWithin entered was → Within (bounds_of_base base entered) (base_of base was)
Within-base None entered was h = record { least = omega arith; most = omega arith }
Within-base (Some p) entered was h = h.each p

pub IsAlone-unbased :
    (entered : PairBounds) (l : Option Link) (p : WordPair) (was : Beside) (x : Registers ℕ)
    → AreWithin entered was.entered → IsLinked l p was x → IsAlone (unbased entered l) (word_of p x) was x
IsAlone-unbased entered None p was x lay h = tt
IsAlone-unbased entered (Some l) p was x lay h =
    IsAlone-without _ l (base_of l.base was.entered) (word_of p x) was x (Within-base l.base entered was.entered lay) h

pub IsLink-unbased : (may_be : ℕ → Bool) (entered : PairBounds) (l : Option Link) → IfSome l (IsLink may_be) → IfSome (unbased entered l) (IsLink may_be)
unfolding without_base
IsLink-unbased may_be entered None h = tt
IsLink-unbased may_be entered (Some l) h =
    choose (is_empty (bounds_of_base l.base entered)) (nat_lt 65535 (l.width + ((bounds_of_base l.base entered).last - (bounds_of_base l.base entered).first))) refl
  where
    b : Bounds
    b = bounds_of_base l.base entered

    choose :
        (c d : Bool) → nat_lt 65535 (l.width + (b.last - b.first)) ≡ d
        → IfSome (cond (c || d) None (Some (record l { base = None; sum = (l.sum + b.first) % 65536; width = l.width + (b.last - b.first) }))) (IsLink may_be)
    choose true d e = tt
    choose false true e = tt
    choose false false e = record { other = h.other; factor = h.factor; sum = omega arith; width = grind (arith, nat_tests) }

-- its sums are words
pub record IsSmall (l : Link) : Type 0 where
  pub sum : l.sum < 65536
  pub width : l.width ≤ 65535

abbrev pub AreSmall : Option Link → Type 0
AreSmall None = Unit {0}
AreSmall (Some l) = IsSmall l

pub AreSmall-without_base : (b : Bounds) (l : Link) → AreSmall (without_base b l)
unfolding without_base
AreSmall-without_base b l = choose (is_empty b) (nat_lt 65535 (l.width + (b.last - b.first))) refl
  where
    choose :
        (c d : Bool) → nat_lt 65535 (l.width + (b.last - b.first)) ≡ d
        → AreSmall (cond (c || d) None (Some (record l { base = None; sum = (l.sum + b.first) % 65536; width = l.width + (b.last - b.first) })))
    choose true d e = tt
    choose false true e = tt
    choose false false e = record { sum = omega arith; width = grind (arith, nat_tests) }

-- of a pair, whatever its registers were at entry
pub IsLinked-without_base :
    (b : Bounds) (l : Link) (base : ℕ) (p : WordPair) (was : Beside) (x : Registers ℕ)
    → Within b base → AreLinked l base (word_of p x) (other_of l.other was x) → IsLinked (without_base b l) p was x
unfolding without_base
IsLinked-without_base b l base p was x k h = choose (is_empty b || nat_lt 65535 (l.width + (b.last - b.first)))
  where
    choose : (c : Bool) → IsLinked (cond c None (Some (record l { base = None; sum = (l.sum + b.first) % 65536; width = l.width + (b.last - b.first) }))) p was x
    choose true = tt
    choose false = AreLinked-without b l base (word_of p x) (other_of l.other was x) k h

-- ---- the clause of its function

pub without_base_sound : (b : Bounds) (l : Link) (o : Option Link) → o ≡ without_base b l → IsSoundWithoutBase b l o
unfolding without_base
without_base_sound b l o e = record { gives = gives }
  where
    gives : (k : Link) (base w n : ℕ) → o ≡ Some k → Within b base → AreLinked l base w n → AreLinked k 0 w n
    gives k base w n f m h = choose (is_empty b || nat_lt 65535 (l.width + (b.last - b.first))) (sym e ∙ f)
      where
        choose :
            (c : Bool) → cond c None (Some (record l { base = None; sum = (l.sum + b.first) % 65536; width = l.width + (b.last - b.first) })) ≡ Some k
            → AreLinked k 0 w n
        choose true g = cc
        choose false g = subst (λ o. AreLinked o 0 w n) (same_Some _ _ g) (AreLinked-without b l base w n m h)
