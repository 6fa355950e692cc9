-- What is known together behind a call holds: each part is the caller's, where all that it reads is kept, or the exit's.
use Rattle.std.proofs.Common.{◌≡◌, ℕ, ◌+◌, ◌*◌, ◌%◌, ◌≤◌, ◌<◌, Bool, true, false, cond, ◌&&◌, ◌||◌, ◌==◌, nat_le, arith, Option, Some, None, refl, sym, ◌∙◌, ap, subst}
use Rattle.std.proofs.lemmas.Bool.{and_parts, leb-true}
use Rattle.gb_ops.specs.declared.op.Register.{Register}
use Rattle.gb_ops.specs.declared.op.Register.TheVariants.{A, B, C, D, E, H, L}
use Rattle.gb_ops.specs.declared.registers.Registers.{Registers}
use Rattle.gb_ops.specs.declared.registers.Flags.{Flags}
use Rattle.gb_ops.specs.Pairs.{word}
use Rattle.gb_ops.specs.Registers.{get}
use Rattle.gb_domain.specs.declared.pairs.WordPair.{WordPair}
use Rattle.gb_domain.specs.declared.pairs.WordPair.TheVariants as pair
use Rattle.gb_domain.specs.declared.pairs.Other.{Other}
use Rattle.gb_domain.specs.declared.pairs.Other.TheVariants as other
use Rattle.gb_domain.specs.declared.pairs.Link.{Link}
use Rattle.gb_domain.specs.declared.pairs.PairFacts.{PairFacts}
use Rattle.gb_domain.specs.declared.places.OneByte.{OneByte}
use Rattle.gb_domain.specs.declared.relations.Relations.{Relations}
use Rattle.gb_domain.specs.Pairs.{facts_of}
use Rattle.gb_domain.specs.declared.pairs.Bounds.{Bounds}
use Rattle.gb_domain.specs.declared.types.Val.{Val}
use Rattle.gb_pairs.specs.declared.values.Values.{Values}
use Rattle.gb_pairs.specs.Bounds.{cut, bounds_of}
use Rattle.gb_pairs.specs.Covering.{is_as_entered}
use Rattle.gb_pairs.specs.Meaning.{Beside, word_of, other_of, base_of, AreLinked, IsLinked, HoldsPair, AreBytes, Holds}
use Rattle.gb_pairs.specs.Reduced.{values_of, last_sum, without_base}
use Rattle.gb_pairs.specs.Sound.{Within, AreCopies}
use Rattle.gb_pairs.proofs.BaseLaws.{IsAlone, IsAlone-without, AreSmall, AreSmall-without_base, IsLinked-without_base}
use Rattle.gb_pairs.proofs.BoundsLaws.{Within-cut, word_below, bounds_of_sound}
use Rattle.gb_pairs.proofs.CoveringLaws.{word_entered}
use Rattle.gb_copies.specs.Meaning.{HoldOneByte}
use Rattle.gb_copies.specs.Places.{has_place, of_places, without_test}
use Rattle.gb_relations.specs.declared.returned.Kept.{Kept}
use Rattle.gb_relations.specs.Meaning.{IsZero, HoldRelations}
use Rattle.gb_relations.specs.Returned.{is_nothing, either, with_sums, is_fit, told_by_link, pair_entered, told_by_entry, told_by_bounds, told_link, cut_to_sums, cut_by_base, cut_by_exit, AreAmong, is_pair_kept, is_read_kept, is_other_kept, both, kept_places, byte_returned, pair_if_kept, zero_returned, link_if_kept, link_returned, facts_returned, returned, IsOtherSame, IsReadSame, IsKept, IsSoundReturn}
use Rattle.gb_relations.proofs.CellLinkLaws.{beside}

-- ---- what is kept

word_kept : (p : WordPair) (k : Kept) (x y : Registers ℕ) → ((r : Register) → get r k.registers ≡ true → get r y ≡ get r x) → is_pair_kept p k ≡ true → word_of p y ≡ word_of p x
word_kept pair.Bc k x y kept h = let parts = and_parts _ _ h in ap (λ b. word b y.c) (kept B parts.0) ∙ ap (word x.b) (kept C parts.1)
word_kept pair.De k x y kept h = let parts = and_parts _ _ h in ap (λ b. word b y.e) (kept D parts.0) ∙ ap (word x.d) (kept E parts.1)
word_kept pair.Hl k x y kept h = let parts = and_parts _ _ h in ap (λ b. word b y.l) (kept H parts.0) ∙ ap (word x.h) (kept L parts.1)

-- what p's link reads, with memory as it was, and as it is
other_kept :
    (p : WordPair) (o : Other) (k : Kept) (was x y : Registers ℕ) (before after : ℕ → ℕ)
    → ((r : Register) → get r k.registers ≡ true → get r y ≡ get r x) → (is_read_kept p k ≡ true → IsOtherSame o before after)
    → is_other_kept p o k ≡ true → other_of o (beside was after) y ≡ other_of o (beside was before) x
other_kept p (other.Register r) k was x y before after kept read h = kept r h
other_kept p (other.Pair q) k was x y before after kept read h = word_kept q k x y kept h
other_kept p (other.Cell a) k was x y before after kept read h = read h
other_kept p other.Nothing k was x y before after kept read h = refl

-- what a link reads doesn't depend on what registers were as the procedure was entered
other_entered : (o : Other) (was now y : Registers ℕ) (memory : ℕ → ℕ) → other_of o (beside was memory) y ≡ other_of o (beside now memory) y
other_entered (other.Register r) was now y memory = refl
other_entered (other.Pair p) was now y memory = refl
other_entered (other.Cell a) was now y memory = refl
other_entered other.Nothing was now y memory = refl

-- ---- the byte

both-parts : (r : Register) (s t : Registers Bool) → get r (both s t) ≡ true → (get r s ≡ true) × (get r t ≡ true)
both-parts A s t h = and_parts _ _ h
both-parts B s t h = and_parts _ _ h
both-parts C s t h = and_parts _ _ h
both-parts D s t h = and_parts _ _ h
both-parts E s t h = and_parts _ _ h
both-parts H s t h = and_parts _ _ h
both-parts L s t h = and_parts _ _ h

kept_address : (b : Bool) (address : Option ℕ) (a : ℕ) → cond b address None ≡ Some a → (b ≡ true) × (address ≡ Some a)
kept_address true address a h = (refl, h)
kept_address false address a h = cc

-- whatever the flags are
HoldOneByte-untested : (b : OneByte) (x : Registers ℕ) (memory : ℕ → ℕ) (f g : Flags) → HoldOneByte b x memory f → HoldOneByte (record b { test = None }) x memory g
HoldOneByte-untested b x memory f g h = record { byte = h.byte; small = h.small; registers = h.registers; address = h.address; test = tt }

HoldOneByte-where : (b : OneByte) (x : Registers ℕ) (memory : ℕ → ℕ) (f : Flags) → HoldOneByte b x memory f → HoldOneByte (of_places b) x memory f
HoldOneByte-where b x memory f h = by (has_place b)
  where
    by : (some : Bool) → HoldOneByte (cond some b (record b { test = None })) x memory f
    by true = h
    by false = HoldOneByte-untested b x memory f f h

-- the kept places hold what they held, of which the flags as they were say the same
HoldOneByte-kept :
    (k : Kept) (s : Relations) (x y : Registers ℕ) (before after : ℕ → ℕ) (f g : Flags)
    → IsKept k s x y before after f g → HoldOneByte s.byte x before f → HoldOneByte (kept_places k s.byte) y after f
unfolding kept_places
HoldOneByte-kept k s x y before after f g kept h =
    HoldOneByte-where (record s.byte { registers = both s.byte.registers k.registers; address = cond k.address s.byte.address None }) y after f (record {
      byte = h.byte;
      small = h.small;
      registers = λ r is. let parts = both-parts r s.byte.registers k.registers is in kept.registers r parts.1 ∙ h.registers r parts.0;
      address = λ a is. let parts = kept_address k.address s.byte.address a is in kept.memory parts.0 a parts.1 ∙ h.address a parts.1;
      test = h.test;
    })

byte_returned-holds :
    (k : Kept) (s : Relations) (t : OneByte) (x y : Registers ℕ) (before after : ℕ → ℕ) (f g : Flags)
    → IsKept k s x y before after f g → HoldOneByte s.byte x before f → HoldOneByte t y after g → HoldOneByte (byte_returned k s.byte t) y after g
unfolding byte_returned without_test
byte_returned-holds k s t x y before after f g kept h i = by k.flags (has_place t) refl
  where
    by : (flags some : Bool) → k.flags ≡ flags → HoldOneByte (cond flags (kept_places k s.byte) (cond some t (record (kept_places k s.byte) { test = None }))) y after g
    by true some e = subst (λ u. HoldOneByte (kept_places k s.byte) y after u) (sym (kept.flags e)) (HoldOneByte-kept k s x y before after f g kept h)
    by false true e = i
    by false false e = HoldOneByte-untested (kept_places k s.byte) y after f g (HoldOneByte-kept k s x y before after f g kept h)

-- ---- whether a pair is 0

zero_kept :
    (k : Kept) (s : Option WordPair) (x y : Registers ℕ) (f : Flags)
    → ((r : Register) → get r k.registers ≡ true → get r y ≡ get r x) → IsZero s x f → IsZero (pair_if_kept k s) y f
zero_kept k None x y f kept z = tt
zero_kept k (Some p) x y f kept z = by (is_pair_kept p k) refl
  where
    by : (b : Bool) → is_pair_kept p k ≡ b → IsZero (cond b (Some p) None) y f
    by true e = z ∙ ap (λ w. w == 0) (sym (word_kept p k x y kept e))
    by false e = tt

zero_returned-holds :
    (k : Kept) (s : Relations) (t : Option WordPair) (x y : Registers ℕ) (before after : ℕ → ℕ) (f g : Flags)
    → IsKept k s x y before after f g → IsZero s.zero x f → IsZero t y g → IsZero (zero_returned k s.zero t) y g
unfolding zero_returned
zero_returned-holds k s t x y before after f g kept z i = by k.flags refl
  where
    by : (flags : Bool) → k.flags ≡ flags → IsZero (cond flags (pair_if_kept k s.zero) t) y g
    by true e = subst (λ u. IsZero (pair_if_kept k s.zero) y u) (sym (kept.flags e)) (zero_kept k s.zero x y f kept.registers z)
    by false e = i

-- ---- links

link_kept :
    (p : WordPair) (k : Kept) (s : Option Link) (was x y : Registers ℕ) (before after : ℕ → ℕ)
    → ((r : Register) → get r k.registers ≡ true → get r y ≡ get r x) → (is_read_kept p k ≡ true → IsReadSame s before after)
    → IsLinked s p (beside was before) x → IsLinked (link_if_kept p k s) p (beside was after) y
link_kept p k None was x y before after kept read h = tt
link_kept p k (Some l) was x y before after kept read h = by (is_pair_kept p k && is_other_kept p l.other k) refl
  where
    by : (b : Bool) → (is_pair_kept p k && is_other_kept p l.other k) ≡ b → IsLinked (cond b (Some l) None) p (beside was after) y
    by true e =
        let parts = and_parts (is_pair_kept p k) (is_other_kept p l.other k) e in
        subst (λ w. AreLinked l (base_of l.base was) w (other_of l.other (beside was after) y)) (sym (word_kept p k x y kept parts.0))
        (subst (λ n. AreLinked l (base_of l.base was) (word_of p x) n) (sym (other_kept p l.other k was x y before after kept read parts.1)) h)
    by false e = tt

-- what the base is, put in: w and m are the pair and what it reads, b is the base, which with n has the sum t
put_in :
    (w m b n base s t more less : ℕ)
    → (w + m) % 65536 ≡ (b + s + more) % 65536 → (b + n) % 65536 ≡ (base + t + less) % 65536
    → (w + (m + n)) % 65536 ≡ (base + (s + t) % 65536 + (more + less)) % 65536
put_in w m b n base s t more less h i = omega arith

nothing_read : (o : Other) (was : Beside) (x : Registers ℕ) → is_nothing o ≡ true → other_of o was x ≡ 0
nothing_read other.Nothing was x h = refl
nothing_read (other.Register r) was x h = cc
nothing_read (other.Pair p) was x h = cc
nothing_read (other.Cell a) was x h = cc

times_nothing : (f n m : ℕ) → n ≡ 0 → f * n + m ≡ m
times_nothing f n m e = subst (λ i. f * i + m ≡ m) (sym e) (omega arith)

nothing_times : (f n m : ℕ) → n ≡ 0 → m + f * n ≡ m
nothing_times f n m e = subst (λ i. m + f * i ≡ m) (sym e) (omega arith)

-- at most one of both reads something
AreLinked-with_sums :
    (l g : Link) (w b base : ℕ) (was : Beside) (y : Registers ℕ)
    → (is_nothing l.other || is_nothing g.other) ≡ true → AreLinked l b w (other_of l.other was y) → AreLinked g base b (other_of g.other was y)
    → AreLinked (with_sums l g) base w (other_of (with_sums l g).other was y)
AreLinked-with_sums l g w b base was y one h i = by (is_nothing l.other) refl
  where
    sum : (w + (l.factor * other_of l.other was y + g.factor * other_of g.other was y)) % 65536 ≡ (base + (l.sum + g.sum) % 65536 + (h.more + i.more)) % 65536
    sum = put_in w (l.factor * other_of l.other was y) b (g.factor * other_of g.other was y) base l.sum g.sum h.more i.more h.sum i.sum

    most : h.more + i.more ≤ l.width + g.width
    most = let few = h.most in let less = i.most in omega arith

    by :
        (c : Bool) → is_nothing l.other ≡ c
        → AreLinked (record { other = cond c g.other l.other; factor = cond c g.factor l.factor; base = g.base; sum = (l.sum + g.sum) % 65536; width = l.width + g.width })
        base w (other_of (cond c g.other l.other) was y)
    by true e =
        record {
          more = h.more + i.more;
          most = most;
          sum =
              subst (λ m. (w + m) % 65536 ≡ (base + (l.sum + g.sum) % 65536 + (h.more + i.more)) % 65536)
              (times_nothing l.factor _ _ (nothing_read l.other was y e)) sum;
        }
    by false e =
        let none : is_nothing g.other ≡ true = subst (λ c. (c || is_nothing g.other) ≡ true) e one in
        record {
          more = h.more + i.more;
          most = most;
          sum =
              subst (λ m. (w + m) % 65536 ≡ (base + (l.sum + g.sum) % 65536 + (h.more + i.more)) % 65536)
              (nothing_times g.factor _ _ (nothing_read g.other was y none)) sum;
        }

-- of p, whose base b was the caller's pair: before the call the registers were x, then y
told_by_link-holds :
    (k : Kept) (l : Link) (g : Option Link) (p b : WordPair) (was x y : Registers ℕ) (before after : ℕ → ℕ)
    → ((r : Register) → get r k.registers ≡ true → get r y ≡ get r x) → (is_read_kept b k ≡ true → IsReadSame g before after)
    → IsLinked g b (beside was before) x → AreLinked l (word_of b x) (word_of p y) (other_of l.other (beside was after) y)
    → IsLinked (told_by_link k b l g) p (beside was after) y
told_by_link-holds k l None p b was x y before after kept read i h = tt
told_by_link-holds k l (Some g) p b was x y before after kept read i h = by (is_fit k b l g) refl
  where
    by : (c : Bool) → is_fit k b l g ≡ c → IsLinked (cond c (Some (with_sums l g)) None) p (beside was after) y
    by false e = tt
    by true e =
        let last = and_parts _ _ e in
        let parts = and_parts (is_other_kept b g.other k) (is_nothing l.other || is_nothing g.other) last.0 in
        AreLinked-with_sums l g (word_of p y) (word_of b x) (base_of g.base was) (beside was after) y parts.1 h
        (subst (λ n. AreLinked g (base_of g.base was) (word_of b x) n) (sym (other_kept b g.other k was x y before after kept read parts.0)) i)

-- the pair's word is the one that this pair had as the caller was entered, if there is one
WasEntered : Option WordPair → ℕ → Registers ℕ → Type 0
WasEntered None w was = Unit {0}
WasEntered (Some q) w was = w ≡ word_of q was

pair_entered-is : (b : WordPair) (v : Values) (was x : Registers ℕ) → AreCopies v.registers was x → WasEntered (pair_entered b v) (word_of b x) was
unfolding WasEntered
pair_entered-is b v was x h = by (is_as_entered b pair.Bc v) (is_as_entered b pair.De v) (is_as_entered b pair.Hl v) refl refl refl
  where
    by :
        (c d e : Bool) → is_as_entered b pair.Bc v ≡ c → is_as_entered b pair.De v ≡ d → is_as_entered b pair.Hl v ≡ e
        → WasEntered (cond c (Some pair.Bc) (cond d (Some pair.De) (cond e (Some pair.Hl) None))) (word_of b x) was
    by true d e i j k = word_entered b pair.Bc v was x i h
    by false true e i j k = word_entered b pair.De v was x j h
    by false false true i j k = word_entered b pair.Hl v was x k h
    by false false false i j k = tt

told_by_entry-holds :
    (l : Link) (o : Option WordPair) (p b : WordPair) (was : Beside) (x y : Registers ℕ)
    → WasEntered o (word_of b x) was.entered → AreLinked l (word_of b x) (word_of p y) (other_of l.other was y) → IsLinked (told_by_entry l o) p was y
unfolding WasEntered
told_by_entry-holds l None p b was x y is h = tt
told_by_entry-holds l (Some q) p b was x y is h =
    let sum = h.sum in
    record {
      more = h.more;
      most = h.most;
      sum = subst (λ n. (word_of p y + l.factor * other_of l.other was y) % 65536 ≡ (n + l.sum + h.more) % 65536) is sum;
    }

told_by_bounds-holds :
    (l : Link) (c : Bounds) (p : WordPair) (n : ℕ) (was : Beside) (y : Registers ℕ)
    → Within c n → AreLinked l n (word_of p y) (other_of l.other was y) → IsLinked (told_by_bounds l c) p was y
told_by_bounds-holds l c p n was y within h = by (is_nothing l.other)
  where
    by : (d : Bool) → IsLinked (cond d None (without_base c l)) p was y
    by true = tt
    by false = IsLinked-without_base c l n p was y within h

either-holds : (s t : Option Link) (p : WordPair) (was : Beside) (y : Registers ℕ) → IsLinked s p was y → IsLinked t p was y → IsLinked (either s t) p was y
either-holds (Some l) t p was y h i = h
either-holds None t p was y h i = i

told_link-holds :
    (k : Kept) (v : Values) (l : Link) (base : Option WordPair) (p : WordPair) (was x y : Registers ℕ) (before after : ℕ → ℕ)
    → ((r : Register) → get r k.registers ≡ true → get r y ≡ get r x)
    → ((q : WordPair) → is_read_kept q k ≡ true → IsReadSame (facts_of q v.pairs).link before after)
    → AreCopies v.registers was x → Holds v (beside was before) x → l.base ≡ base
    → AreLinked l (base_of base x) (word_of p y) (other_of l.other (beside was after) y) → IsLinked (told_link k v l base) p (beside was after) y
told_link-holds k v l None p was x y before after kept read copies h e i =
    subst (λ c. AreLinked l (base_of c was) (word_of p y) (other_of l.other (beside was after) y)) (sym e) i
told_link-holds k v l (Some b) p was x y before after kept read copies h e i =
    let now : Beside = beside was after in
    either-holds _ _ p now y (told_by_link-holds k l (facts_of b v.pairs).link p b was x y before after kept (read b) (h.pairs.each b).link i)
    (either-holds _ _ p now y (told_by_entry-holds l (pair_entered b v) p b now x y (pair_entered-is b v was x copies) i)
    (told_by_bounds-holds l (bounds_of b v) p (word_of b x) now y ((bounds_of_sound b v _ refl).gives (beside was before) x h) i))

link_returned-holds :
    (p : WordPair) (k : Kept) (v : Values) (t : Option Link) (was x y : Registers ℕ) (before after : ℕ → ℕ)
    → ((r : Register) → get r k.registers ≡ true → get r y ≡ get r x)
    → ((q : WordPair) → is_read_kept q k ≡ true → IsReadSame (facts_of q v.pairs).link before after)
    → AreCopies v.registers was x → Holds v (beside was before) x → IsLinked t p (beside x after) y
    → IsLinked (link_returned p k v t) p (beside was after) y
link_returned-holds p k v (Some l) was x y before after kept read copies h i =
    told_link-holds k v l l.base p was x y before after kept read copies h refl
    (subst (λ n. AreLinked l (base_of l.base x) (word_of p y) n) (other_entered l.other x was y after) i)
link_returned-holds p k v None was x y before after kept read copies h i =
    link_kept p k (facts_of p v.pairs).link was x y before after kept (read p) (h.pairs.each p).link

-- ---- bounds

times_zero : (f n : ℕ) → n ≡ 0 → f * n ≡ 0
times_zero f n e = subst (λ i. f * i ≡ 0) (sym e) (omega arith)

in_sums :
    (w s width more last : ℕ) → w < 65536 → s < 65536 → (w + 0) % 65536 ≡ (0 + s + more) % 65536 → more ≤ width → width ≤ 65535 → last ≡ (s + width) % 65536 → s ≤ last
    → (s ≤ w) × (w ≤ last)
in_sums w s width more last small first h most few e order = (omega arith, omega arith)

cut_to_sums-holds :
    (o : Option Link) (b : Bounds) (w : ℕ) (now : Beside) (y : Registers ℕ)
    → w < 65536 → AreSmall o → IsAlone o w now y → Within b w → Within (cut_to_sums o b) w
cut_to_sums-holds None b w now y small few h k = k
cut_to_sums-holds (Some l) b w now y small few h k = by (is_nothing l.other) (nat_le l.sum (last_sum l)) refl refl
  where
    by :
        (c d : Bool) → is_nothing l.other ≡ c → nat_le l.sum (last_sum l) ≡ d
        → Within (cond (c && d) (cut b (record { first = l.sum; last = last_sum l })) b) w
    by false d e f = k
    by true false e f = k
    by true true e f =
        let sum : (w + 0) % 65536 ≡ (0 + l.sum + h.more) % 65536 =
        subst (λ n. (w + n) % 65536 ≡ (0 + l.sum + h.more) % 65536) (times_zero l.factor _ (nothing_read l.other now y e)) h.sum in
        let ends = in_sums w l.sum l.width h.more (last_sum l) small few.sum sum h.most few.width refl (leb-true _ _ f) in
        Within-cut b _ w k (record { least = ends.0; most = ends.1 })

cut_by_base-holds :
    (v : Values) (l : Link) (base : Option WordPair) (b : Bounds) (p : WordPair) (was now : Beside) (x y : Registers ℕ)
    → AreBytes y → Holds v was x → AreLinked l (base_of base x) (word_of p y) (other_of l.other now y) → Within b (word_of p y)
    → Within (cut_by_base v l base b) (word_of p y)
cut_by_base-holds v l None b p was now x y bytes h i k = k
cut_by_base-holds v l (Some q) b p was now x y bytes h i k =
    cut_to_sums-holds _ b (word_of p y) now y (word_below p y bytes) (AreSmall-without_base (bounds_of q v) l)
    (IsAlone-without (bounds_of q v) l (word_of q x) (word_of p y) now y ((bounds_of_sound q v _ refl).gives was x h) i) k

cut_by_exit-holds :
    (v : Values) (t : Option Link) (b : Bounds) (p : WordPair) (was : Beside) (x y : Registers ℕ) (after : ℕ → ℕ)
    → AreBytes y → Holds v was x → IsLinked t p (beside x after) y → Within b (word_of p y) → Within (cut_by_exit v t b) (word_of p y)
cut_by_exit-holds v None b p was x y after bytes h i k = k
cut_by_exit-holds v (Some l) b p was x y after bytes h i k = cut_by_base-holds v l l.base b p was (beside x after) x y bytes h i k

facts_returned-hold :
    (p : WordPair) (k : Kept) (v : Values) (t : PairFacts) (was x y : Registers ℕ) (before after : ℕ → ℕ)
    → ((r : Register) → get r k.registers ≡ true → get r y ≡ get r x)
    → ((q : WordPair) → is_read_kept q k ≡ true → IsReadSame (facts_of q v.pairs).link before after)
    → AreBytes y → AreCopies v.registers was x → Holds v (beside was before) x → HoldsPair t p (beside x after) y
    → HoldsPair (facts_returned p k v t) p (beside was after) y
unfolding facts_returned
facts_returned-hold p k v t was x y before after kept read bytes copies h i =
    let cut = cut_by_exit-holds v t.link _ p (beside was before) x y after bytes h i.link (by (is_pair_kept p k) refl) in
    record { first = cut.least; last = cut.most; link = link_returned-holds p k v t.link was x y before after kept read copies h i.link }
  where
    by : (b : Bool) → is_pair_kept p k ≡ b → Within (cond b (facts_of p v.pairs).bounds t.bounds) (word_of p y)
    by true e =
        let same = sym (word_kept p k x y kept e) in
        let own = h.pairs.each p in
        subst (λ w. Within (facts_of p v.pairs).bounds w) same (record { least = own.first; most = own.last })
    by false e = record { least = i.first; most = i.last }

-- ---- all of it

HoldRelations-returned :
    (k : Kept) (registers : Registers Val) (s t : Relations) (was x y : Registers ℕ) (before after : ℕ → ℕ) (f g : Flags)
    → IsKept k s x y before after f g → AreBytes y → AreAmong registers was x
    → HoldRelations s was x before f → HoldRelations t x y after g → HoldRelations (returned k registers s t) was y after g
unfolding returned
HoldRelations-returned k registers s t was x y before after f g kept bytes among h i =
    record {
      byte = byte_returned-holds k s t.byte x y before after f g kept h.byte i.byte;
      zero = zero_returned-holds k s t.zero x y before after f g kept h.zero i.zero;
      pairs = record { each = λ p. pairs p };
    }
  where
    v : Values
    v = values_of registers s.pairs

    held : Holds v (beside was before) x
    held = record { registers = among.within; pairs = h.pairs }

    pairs : (p : WordPair) → HoldsPair (facts_of p (returned k registers s t).pairs) p (beside was after) y
    pairs pair.Bc = facts_returned-hold pair.Bc k v t.pairs.bc was x y before after kept.registers kept.read bytes among.copies held (i.pairs.each pair.Bc)
    pairs pair.De = facts_returned-hold pair.De k v t.pairs.de was x y before after kept.registers kept.read bytes among.copies held (i.pairs.each pair.De)
    pairs pair.Hl = facts_returned-hold pair.Hl k v t.pairs.hl was x y before after kept.registers kept.read bytes among.copies held (i.pairs.each pair.Hl)

pub returned_sound : (k : Kept) (registers : Registers Val) (s t after : Relations) → after ≡ returned k registers s t → IsSoundReturn k registers s t after
returned_sound k registers s t after e =
    subst (λ r. IsSoundReturn k registers s t r) (sym e)
    (record { gives = λ was x y before after f g kept bytes among. HoldRelations-returned k registers s t was x y before after f g kept bytes among })
