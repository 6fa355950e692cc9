-- What stores leave of links that read bytes of memory holds after them, and INC and DEC of such a byte move its links' sums.
use Rattle.std.proofs.Common.{◌≡◌, ℕ, ◌+◌, ◌-◌, ◌*◌, ◌/◌, ◌%◌, ◌<◌, ◌≤◌, Bool, true, false, not, ◌&&◌, cond, ◌==◌, nat_lt, nat_le, Option, Some, None, IfSome, refl, sym, ◌∙◌, ap, subst, arith}
use Rattle.std.proofs.lemmas.Bool.{and_parts, eqb-true}
use Rattle.std.proofs.lemmas.Bool.Decides.{nat_tests}
use Rattle.gb_ops.specs.declared.op.Register.TheVariants.{C}
use Rattle.gb_ops.specs.declared.op.Operand.TheVariants as operand
use Rattle.gb_ops.specs.declared.op.Op.{Op}
use Rattle.gb_ops.specs.declared.op.Op.TheVariants as op
use Rattle.gb_ops.specs.declared.machine.Region.{Region}
use Rattle.gb_ops.specs.declared.machine.Read.TheVariants as read
use Rattle.gb_ops.specs.declared.machine.Write.{Write}
use Rattle.gb_ops.specs.declared.machine.Write.TheVariants as write
use Rattle.gb_ops.specs.declared.registers.Registers.{Registers}
use Rattle.gb_ops.specs.declared.registers.Flags.{Flags}
use Rattle.gb_ops.specs.declared.registers.Processor.{Processor}
use Rattle.gb_ops.specs.Pairs.{pair_value}
use Rattle.gb_ops.specs.Arithmetic.{incremented, decremented}
use Rattle.gb_ops.specs.Effects.{hl, indirect_address, operand_read, operand_value, store_operand, update_operand, read_of, effect_of}
use Rattle.gb_domain.specs.declared.low_bits.LowBits.{LowBits}
use Rattle.gb_domain.specs.declared.places.StackBytes.{StackBytes}
use Rattle.gb_domain.specs.declared.pairs.WordPair.{WordPair}
use Rattle.gb_domain.specs.declared.pairs.WordPair.TheVariants as words
use Rattle.gb_domain.specs.declared.pairs.Bounds.{Bounds}
use Rattle.gb_domain.specs.declared.pairs.Other.{Other}
use Rattle.gb_domain.specs.declared.pairs.Other.TheVariants as other
use Rattle.gb_domain.specs.declared.pairs.Link.{Link}
use Rattle.gb_domain.specs.declared.pairs.PairFacts.{PairFacts}
use Rattle.gb_domain.specs.declared.pairs.Pairs.{Pairs}
use Rattle.gb_domain.specs.declared.relations.Relations.{Relations}
use Rattle.gb_domain.specs.declared.types.Val.{Val}
use Rattle.gb_domain.specs.Areas.{is_area, meets, is_free_byte, is_place_at}
use Rattle.gb_domain.specs.Pairs.{facts_of, IsReadAt, IsLink, IsPairFacts, ArePairs}
use Rattle.gb_pairs.specs.Below.gb_vals.Meaning.{In}
use Rattle.gb_pairs.specs.declared.values.Values.{Values}
use Rattle.gb_pairs.specs.Bounds.{is_one}
use Rattle.gb_pairs.specs.Meaning.{Beside, word_of, other_of, base_of, AreLinked, IsLinked, HoldsPair, HoldPairs}
use Rattle.gb_pairs.specs.Moved.{by_if}
use Rattle.gb_pairs.specs.Sound.{Within}
use Rattle.gb_pairs.proofs.StepLaws.{none_more}
use Rattle.gb_relations.specs.Places.{is_ram, is_echo, behind_echo}
use Rattle.gb_relations.specs.PointedBits.{may_be_at, HasIf, WritesHas}
use Rattle.gb_relations.specs.Bytes as bytes
use Rattle.gb_relations.specs.CellLinks.{is_read_at, link_apart, facts_apart, pairs_apart, is_read_from, link_of_cell, facts_of_cell, cell_stepped, stepped_or_apart, cells_after}
use Rattle.gb_relations.specs.Returned.{IsOtherSame, IsReadSame}
use Rattle.gb_relations.specs.Transfer.{values_of}
use Rattle.gb_relations.specs.Sound.{IsKeptBut, Writes, Reads, Begins}
use Rattle.gb_relations.proofs.MachineLaws.{is_outside, not_so, effect_of-outside}
use Rattle.gb_relations.proofs.AddressLaws.{only_one}
use Rattle.gb_relations.proofs.PointedBitsLaws.{elsewhere}
use Rattle.gb_relations.proofs.ByteAfterLaws.{Holds-begun, Within-hl, Within-indirect, Within-one, Within-high, first_written, first-kept, second-kept}

-- what links speak of besides the registers
abbrev pub beside : Registers ℕ → (ℕ → ℕ) → Beside
beside was memory = record { entered = was; memory = memory }

-- ---- memory that links read stays

pub other-same :
    (o : Other) (was x : Registers ℕ) (memory after : ℕ → ℕ) → IsOtherSame o memory after → other_of o (beside was after) x ≡ other_of o (beside was memory) x
other-same (other.Register r) was x memory after same = refl
other-same (other.Pair p) was x memory after same = refl
other-same (other.Cell a) was x memory after same = same
other-same other.Nothing was x memory after same = refl

IsLinked-same :
    (l : Option Link) (p : WordPair) (was x : Registers ℕ) (memory after : ℕ → ℕ)
    → IsReadSame l memory after → IsLinked l p (beside was memory) x → IsLinked l p (beside was after) x
IsLinked-same None p was x memory after same h = tt
IsLinked-same (Some l) p was x memory after same h =
    subst (λ n. AreLinked l (base_of l.base was) (word_of p x) n) (sym (other-same l.other was x memory after same)) h

IsOtherSame-at :
    (may_be : ℕ → Bool) (o : Other) (memory after : ℕ → ℕ) → IsReadAt may_be o → ((a : ℕ) → may_be a ≡ true → after a ≡ memory a) → IsOtherSame o memory after
IsOtherSame-at may_be (other.Cell a) memory after at stay = stay a at
IsOtherSame-at may_be (other.Register r) memory after at stay = tt
IsOtherSame-at may_be (other.Pair p) memory after at stay = tt
IsOtherSame-at may_be other.Nothing memory after at stay = tt

IsReadSame-at :
    (may_be : ℕ → Bool) (l : Option Link) (memory after : ℕ → ℕ)
    → IfSome l (IsLink may_be) → ((a : ℕ) → may_be a ≡ true → after a ≡ memory a) → IsReadSame l memory after
IsReadSame-at may_be None memory after is stay = tt
IsReadSame-at may_be (Some l) memory after is stay = IsOtherSame-at may_be l.other memory after is.other stay

-- memory stays at each address that links may read
pub HoldPairs-elsewhere :
    (may_be : ℕ → Bool) (s : Pairs) (was x : Registers ℕ) (memory after : ℕ → ℕ)
    → ArePairs may_be s → ((a : ℕ) → may_be a ≡ true → after a ≡ memory a) → HoldPairs s (beside was memory) x → HoldPairs s (beside was after) x
HoldPairs-elsewhere may_be s was x memory after are stay h =
    record {
      each = λ p.
          let own = h.each p in
          record {
            first = own.first;
            last = own.last;
            link = IsLinked-same (facts_of p s).link p was x memory after (IsReadSame-at may_be (facts_of p s).link memory after (are.each p).link stay) own.link;
          };
    }

-- ---- one of some addresses is written

-- no address within the bounds is outside
outside : (b : Bounds) (c : ℕ) → Within b c → (nat_le b.first c && nat_le c b.last) ≡ false → ⊥
outside b c h e =
    let least : b.first ≤ c = h.least in
    let most : c ≤ b.last = h.most in
    grind (arith, nat_tests)

-- an address that isn't among those that may have been written isn't the written one
another :
    (bits : Option LowBits) (b : Bounds) (a c : ℕ)
    → HasIf bits a → Within b a → (may_be_at bits c && (nat_le b.first c && nat_le c b.last)) ≡ false → c ≡ a → ⊥
another bits b a c has in_it none same = choose (may_be_at bits c) refl none
  where
    choose : (m : Bool) → may_be_at bits c ≡ m → (m && (nat_le b.first c && nat_le c b.last)) ≡ false → ⊥
    choose true e out = outside b c (subst (Within b) (sym same) in_it) out
    choose false e out = elsewhere bits a c has e same

IsOtherSame-apart :
    (bits : Option LowBits) (b : Bounds) (a : ℕ) (o : Other) (memory after : ℕ → ℕ)
    → HasIf bits a → Within b a → IsKeptBut a memory after → is_read_at bits b o ≡ false → IsOtherSame o memory after
IsOtherSame-apart bits b a (other.Cell c) memory after has in_it kept none = kept c (another bits b a c has in_it none)
IsOtherSame-apart bits b a (other.Register r) memory after has in_it kept none = tt
IsOtherSame-apart bits b a (other.Pair p) memory after has in_it kept none = tt
IsOtherSame-apart bits b a other.Nothing memory after has in_it kept none = tt

IsLinked-apart :
    (bits : Option LowBits) (b : Bounds) (a : ℕ) (l : Option Link) (p : WordPair) (was x : Registers ℕ) (memory after : ℕ → ℕ)
    → HasIf bits a → Within b a → IsKeptBut a memory after → IsLinked l p (beside was memory) x → IsLinked (link_apart bits b l) p (beside was after) x
IsLinked-apart bits b a None p was x memory after has in_it kept h = tt
IsLinked-apart bits b a (Some l) p was x memory after has in_it kept h = choose (is_read_at bits b l.other) refl
  where
    choose : (c : Bool) → is_read_at bits b l.other ≡ c → IsLinked (cond c None (Some l)) p (beside was after) x
    choose true e = tt
    choose false e = IsLinked-same (Some l) p was x memory after (IsOtherSame-apart bits b a l.other memory after has in_it kept e) h

-- links that may read it are forgotten, and the others hold
pub HoldPairs-apart :
    (bits : Option LowBits) (b : Bounds) (a : ℕ) (s : Pairs) (was x : Registers ℕ) (memory after : ℕ → ℕ)
    → HasIf bits a → Within b a → IsKeptBut a memory after → HoldPairs s (beside was memory) x → HoldPairs (pairs_apart bits b s) (beside was after) x
unfolding pairs_apart
HoldPairs-apart bits b a s was x memory after has in_it kept h = record { each = each }
  where
    facts : (f : PairFacts) (p : WordPair) → HoldsPair f p (beside was memory) x → HoldsPair (facts_apart bits b f) p (beside was after) x
    facts f p i = record { first = i.first; last = i.last; link = IsLinked-apart bits b a f.link p was x memory after has in_it kept i.link }

    each : (p : WordPair) → HoldsPair (facts_of p (pairs_apart bits b s)) p (beside was after) x
    each words.Bc = facts s.bc words.Bc (h.each words.Bc)
    each words.De = facts s.de words.De (h.each words.De)
    each words.Hl = facts s.hl words.Hl (h.each words.Hl)

-- ---- a byte's step

other_moved :
    (w f o base s more b after : ℕ)
    → (w + f * o) % 65536 ≡ (base + s + more) % 65536 → after % 65536 ≡ (o + b) % 65536
    → (w + f * after) % 65536 ≡ (base + (s + 0 + f * b) % 65536 + more) % 65536
other_moved w f o base s more b after h e =
    let q : ℕ = after / 65536 in
    let r : ℕ = (o + b) / 65536 in
    let is : o + b + 65536 * q ≡ after + 65536 * r = omega arith in
    let times : f * o + f * b + 65536 * (f * q) ≡ f * after + 65536 * (f * r) = omega (arith, ap (λ n. f * n) is) in
    omega arith

-- what a link reads moved by n, if it is the byte at a; what became of that byte counts only where links may read it
other-stepped :
    (may_be : ℕ → Bool) (a n : ℕ) (o : Other) (was x : Registers ℕ) (memory after : ℕ → ℕ)
    → IsReadAt may_be o → (may_be a ≡ true → after a % 65536 ≡ (memory a + n) % 65536) → IsKeptBut a memory after
    → other_of o (beside was after) x % 65536 ≡ (other_of o (beside was memory) x + by_if (is_read_from a o) n) % 65536
other-stepped may_be a n (other.Register r) was x memory after at step kept = none_more _
other-stepped may_be a n (other.Pair p) was x memory after at step kept = none_more _
other-stepped may_be a n other.Nothing was x memory after at step kept = refl
other-stepped may_be a n (other.Cell c) was x memory after at step kept = choose (a == c) refl
  where
    choose : (b : Bool) → (a == c) ≡ b → after c % 65536 ≡ (memory c + by_if b n) % 65536
    choose true e =
        let is : a ≡ c = eqb-true a c e in
        subst (λ d. after d % 65536 ≡ (memory d + n) % 65536) is (step (subst (λ d. may_be d ≡ true) (sym is) at))
    choose false e = ap (λ m. m % 65536) (kept c (unlike e)) ∙ none_more _
      where
        unlike : (a == c) ≡ false → c ≡ a → ⊥
        unlike e same = grind (arith, nat_tests)

IsLinked-stepped :
    (may_be : ℕ → Bool) (a n : ℕ) (l : Option Link) (p : WordPair) (was x : Registers ℕ) (memory after : ℕ → ℕ)
    → IfSome l (IsLink may_be) → (may_be a ≡ true → after a % 65536 ≡ (memory a + n) % 65536) → IsKeptBut a memory after
    → IsLinked l p (beside was memory) x → IsLinked (link_of_cell a n l) p (beside was after) x
IsLinked-stepped may_be a n None p was x memory after is step kept h = tt
IsLinked-stepped may_be a n (Some l) p was x memory after is step kept h =
    record {
      more = h.more;
      most = h.most;
      sum =
          other_moved (word_of p x) l.factor (other_of l.other (beside was memory) x) (base_of l.base was) l.sum h.more (by_if (is_read_from a l.other) n) (other_of l.other (beside was after) x)
          h.sum (other-stepped may_be a n l.other was x memory after is.other step kept);
    }

-- the byte at a moved by n
pub HoldPairs-cell_stepped :
    (may_be : ℕ → Bool) (a n : ℕ) (s : Pairs) (was x : Registers ℕ) (memory after : ℕ → ℕ)
    → ArePairs may_be s → (may_be a ≡ true → after a % 65536 ≡ (memory a + n) % 65536) → IsKeptBut a memory after
    → HoldPairs s (beside was memory) x → HoldPairs (cell_stepped a n s) (beside was after) x
unfolding cell_stepped
HoldPairs-cell_stepped may_be a n s was x memory after are step kept h = record { each = each }
  where
    facts : (f : PairFacts) (p : WordPair) → IsPairFacts may_be f → HoldsPair f p (beside was memory) x → HoldsPair (facts_of_cell a n f) p (beside was after) x
    facts f p is i = record { first = i.first; last = i.last; link = IsLinked-stepped may_be a n f.link p was x memory after is.link step kept i.link }

    each : (p : WordPair) → HoldsPair (facts_of p (cell_stepped a n s)) p (beside was after) x
    each words.Bc = facts s.bc words.Bc (are.each words.Bc) (h.each words.Bc)
    each words.De = facts s.de words.De (are.each words.De) (h.each words.De)
    each words.Hl = facts s.hl words.Hl (are.each words.Hl) (h.each words.Hl)

-- ---- addresses that links may read

free_byte-ram : (region : Region) (a : ℕ) → is_free_byte region a ≡ true → is_ram a ≡ true
free_byte-ram region a h = (and_parts (nat_le a a) (is_ram a) (and_parts (is_area a a) (not (meets region a a)) h).0).1

-- they may be places too, so a push leaves them
free_byte-placed : (stack : StackBytes) (a : ℕ) → is_free_byte stack.region a ≡ true → is_place_at stack a ≡ true
free_byte-placed stack a h =
    let parts = and_parts (is_area a a) (not (meets stack.region a a)) h in
    simp (parts.0, parts.1)

-- RAM isn't read through the echo
ram-itself : (a : ℕ) → is_ram a ≡ true → behind_echo a ≡ a
ram-itself a h = choose (is_echo a) refl
  where
    choose : (b : Bool) → is_echo a ≡ b → cond b (a - 0x2000) a ≡ a
    choose true e = absurd (both e)
      where
        both : is_echo a ≡ true → ⊥
        both e = grind (arith, nat_tests)
    choose false e = refl

-- what was read there is what memory holds
read_there : (region : Region) (a l : ℕ) (memory : ℕ → ℕ) → Reads (read.Byte a) memory l → is_free_byte region a ≡ true → memory a ≡ l
read_there region a l memory reads free =
    let ram = free_byte-ram region a free in
    let same = ram-itself a ram in
    subst (λ b. memory b ≡ l) same (reads (subst (λ b. is_ram b ≡ true) (sym same) ram))

-- ---- INC and DEC of a byte

-- the byte at a was read as l and becomes the value, which where it is whole is l moved by n
HoldPairs-stepped_or_apart :
    (whole : Bool) (n value l a : ℕ) (bits : Option LowBits) (b : Bounds) (stack : StackBytes) (s : Pairs) (was x : Registers ℕ) (memory after : ℕ → ℕ)
    → HasIf bits a → Within b a → (whole ≡ true → value % 65536 ≡ (l + n) % 65536)
    → Reads (read.Byte a) memory l → Writes stack (write.Byte a value) memory after
    → ArePairs (is_free_byte stack.region) s → HoldPairs s (beside was memory) x → HoldPairs (stepped_or_apart whole n bits b s) (beside was after) x
HoldPairs-stepped_or_apart whole n value l a bits b stack s was x memory after has in_it step reads w are h = choose whole (is_one b) refl refl
  where
    moved : value % 65536 ≡ (l + n) % 65536 → is_free_byte stack.region a ≡ true → after a % 65536 ≡ (memory a + n) % 65536
    moved e free =
        ap (λ m. m % 65536) (w.0 (free_byte-ram stack.region a free)) ∙ e ∙ ap (λ m. (m + n) % 65536) (sym (read_there stack.region a l memory reads free))

    choose :
        (c d : Bool) → whole ≡ c → is_one b ≡ d → HoldPairs (cond (c && d) (cell_stepped b.first n s) (pairs_apart bits b s)) (beside was after) x
    choose true true e one =
        subst (λ c. HoldPairs (cell_stepped c n s) (beside was after) x) (sym (only_one b a in_it.least in_it.most one))
        (HoldPairs-cell_stepped (is_free_byte stack.region) a n s was x memory after are (moved (step e)) w.1 h)
    choose true false e one = HoldPairs-apart bits b a s was x memory after has in_it w.1 h
    choose false d e one = HoldPairs-apart bits b a s was x memory after has in_it w.1 h

-- a byte below 255 doesn't go round, nor one above 0
one_more : (low : Val) (l : ℕ) (f : Flags) → In low l → l < 256 → nat_lt low.hi 255 ≡ true → (incremented l f).value % 65536 ≡ (l + 1) % 65536
unfolding incremented
one_more low l f h small e =
    let most : l ≤ low.hi = h.most in
    let below : low.hi < 255 = grind (arith, nat_tests) in
    omega arith

one_less : (low : Val) (l : ℕ) (f : Flags) → In low l → l < 256 → nat_lt 0 low.lo ≡ true → (decremented l f).value % 65536 ≡ (l + 65535) % 65536
unfolding decremented
one_less low l f h small e =
    let least : low.lo ≤ l = h.least in
    let some : 0 < low.lo = grind (arith, nat_tests) in
    omega arith

-- ---- instructions

-- a word is stored
HoldPairs-word :
    (w : ℕ) (s : Pairs) (was x : Registers ℕ) (memory after : ℕ → ℕ)
    → ((c : ℕ) → (c ≡ w → ⊥) → (c ≡ (w + 1) % 65536 → ⊥) → after c ≡ memory c) → HoldPairs s (beside was memory) x
    → HoldPairs (pairs_apart None (bytes.one ((w + 1) % 65536)) (pairs_apart None (bytes.one w) s)) (beside was after) x
HoldPairs-word w s was x memory after kept h =
    HoldPairs-apart None (bytes.one ((w + 1) % 65536)) ((w + 1) % 65536) _ was x (first_written w memory after) after tt (Within-one ((w + 1) % 65536)) (second-kept w ((w + 1) % 65536) memory after kept)
    (HoldPairs-apart None (bytes.one w) w s was x memory (first_written w memory after) tt (Within-one w) (first-kept w memory after) h)

-- nothing is stored but on the stack
HoldPairs-outside :
    (stack : StackBytes) (w : Write) (s : Pairs) (was x : Registers ℕ) (memory after : ℕ → ℕ)
    → is_outside w ≡ true → Writes stack w memory after → ArePairs (is_free_byte stack.region) s
    → HoldPairs s (beside was memory) x → HoldPairs s (beside was after) x
HoldPairs-outside stack write.Nothing s was x memory after e w are h = HoldPairs-elsewhere (is_free_byte stack.region) s was x memory after are (λ a free. w a) h
HoldPairs-outside stack (write.Byte a n) s was x memory after e w are h = not_so (sym e)
HoldPairs-outside stack (write.Word a n) s was x memory after e w are h = not_so (sym e)
HoldPairs-outside stack (write.Push sp n) s was x memory after e w are h =
    HoldPairs-elsewhere (is_free_byte stack.region) s was x memory after are (λ a free. w a (free_byte-placed stack a free)) h

pub HoldPairs-cells_after :
    (bits : Option LowBits) (stack : StackBytes) (o : Op) (sp : Bounds) (vals : Registers Val) (low : Val) (r : Relations) (was : Registers ℕ) (p : Processor) (memory after : ℕ → ℕ) (l h : ℕ) (s : Pairs) (x : Registers ℕ)
    → WritesHas bits (effect_of o p l h).write → Begins stack o sp vals low r was p memory l h → Writes stack (effect_of o p l h).write memory after
    → ArePairs (is_free_byte stack.region) s → HoldPairs s (beside was memory) x
    → HoldPairs (cells_after bits o (values_of vals r.pairs) low s) (beside was after) x
unfolding cells_after effect_of read_of operand_read operand_value store_operand update_operand pair_value
HoldPairs-cells_after bits stack (op.StoreA to) sp vals low r was p memory after l h s x has b w are m =
    HoldPairs-apart bits _ (indirect_address p to) s was x memory after has (Within-indirect to _ _ p (Holds-begun b)) w.1 m
HoldPairs-cells_after bits stack (op.Increment operand.AtHl) sp vals low r was p memory after l h s x has b w are m =
    HoldPairs-stepped_or_apart (nat_lt low.hi 255) 1 (incremented l p.flags).value l (hl p) bits _ stack s was x memory after has (Within-hl _ _ p (Holds-begun b))
    (one_more low l p.flags b.low_read b.low_small) b.reads w are m
HoldPairs-cells_after bits stack (op.Decrement operand.AtHl) sp vals low r was p memory after l h s x has b w are m =
    HoldPairs-stepped_or_apart (nat_lt 0 low.lo) 65535 (decremented l p.flags).value l (hl p) bits _ stack s was x memory after has (Within-hl _ _ p (Holds-begun b))
    (one_less low l p.flags b.low_read b.low_small) b.reads w are m
HoldPairs-cells_after bits stack (op.LoadImmediate operand.AtHl n) sp vals low r was p memory after l h s x has b w are m =
    HoldPairs-apart bits _ (hl p) s was x memory after has (Within-hl _ _ p (Holds-begun b)) w.1 m
HoldPairs-cells_after bits stack (op.StoreSp n) sp vals low r was p memory after l h s x has b w are m = HoldPairs-word n s was x memory after w m
HoldPairs-cells_after bits stack (op.Load operand.AtHl from) sp vals low r was p memory after l h s x has b w are m =
    HoldPairs-apart bits _ (hl p) s was x memory after has (Within-hl _ _ p (Holds-begun b)) w.1 m
HoldPairs-cells_after bits stack (op.StoreHigh n) sp vals low r was p memory after l h s x has b w are m =
    HoldPairs-apart None (bytes.one (0xFF00 + n)) (0xFF00 + n) s was x memory after tt (Within-one _) w.1 m
HoldPairs-cells_after bits stack op.StoreHighC sp vals low r was p memory after l h s x has b w are m =
    HoldPairs-apart bits _ (0xFF00 + p.registers.c) s was x memory after has (Within-high (values_of vals r.pairs) p.registers.c (b.registers C)) w.1 m
HoldPairs-cells_after bits stack (op.StoreAbsolute n) sp vals low r was p memory after l h s x has b w are m =
    HoldPairs-apart None (bytes.one n) n s was x memory after tt (Within-one n) w.1 m
HoldPairs-cells_after bits stack (op.Shift how operand.AtHl) sp vals low r was p memory after l h s x has b w are m =
    HoldPairs-apart bits _ (hl p) s was x memory after has (Within-hl _ _ p (Holds-begun b)) w.1 m
HoldPairs-cells_after bits stack (op.Reset n operand.AtHl) sp vals low r was p memory after l h s x has b w are m =
    HoldPairs-apart bits _ (hl p) s was x memory after has (Within-hl _ _ p (Holds-begun b)) w.1 m
HoldPairs-cells_after bits stack (op.Set n operand.AtHl) sp vals low r was p memory after l h s x has b w are m =
    HoldPairs-apart bits _ (hl p) s was x memory after has (Within-hl _ _ p (Holds-begun b)) w.1 m
HoldPairs-cells_after bits stack o sp vals low r was p memory after l h s x has b w are m =
    HoldPairs-outside stack (effect_of o p l h).write s was x memory after (effect_of-outside o p l h refl) w are m

-- ---- what may be known of pairs

link_apart-kept : (may_be : ℕ → Bool) (bits : Option LowBits) (b : Bounds) (l : Option Link) → IfSome l (IsLink may_be) → IfSome (link_apart bits b l) (IsLink may_be)
link_apart-kept may_be bits b None h = tt
link_apart-kept may_be bits b (Some l) h = choose (is_read_at bits b l.other)
  where
    choose : (c : Bool) → IfSome (cond c None (Some l)) (IsLink may_be)
    choose true = tt
    choose false = h

pairs_apart-kept : (may_be : ℕ → Bool) (bits : Option LowBits) (b : Bounds) (s : Pairs) → ArePairs may_be s → ArePairs may_be (pairs_apart bits b s)
unfolding pairs_apart
pairs_apart-kept may_be bits b s h = record { each = each }
  where
    facts : (f : PairFacts) → IsPairFacts may_be f → IsPairFacts may_be (facts_apart bits b f)
    facts f i = record { last = i.last; link = link_apart-kept may_be bits b f.link i.link }

    each : (p : WordPair) → IsPairFacts may_be (facts_of p (pairs_apart bits b s))
    each words.Bc = facts s.bc (h.each words.Bc)
    each words.De = facts s.de (h.each words.De)
    each words.Hl = facts s.hl (h.each words.Hl)

link_of_cell-kept : (may_be : ℕ → Bool) (a n : ℕ) (l : Option Link) → IfSome l (IsLink may_be) → IfSome (link_of_cell a n l) (IsLink may_be)
link_of_cell-kept may_be a n None h = tt
link_of_cell-kept may_be a n (Some l) h = record { other = h.other; factor = h.factor; sum = omega arith; width = h.width }

cell_stepped-kept : (may_be : ℕ → Bool) (a n : ℕ) (s : Pairs) → ArePairs may_be s → ArePairs may_be (cell_stepped a n s)
unfolding cell_stepped
cell_stepped-kept may_be a n s h = record { each = each }
  where
    facts : (f : PairFacts) → IsPairFacts may_be f → IsPairFacts may_be (facts_of_cell a n f)
    facts f i = record { last = i.last; link = link_of_cell-kept may_be a n f.link i.link }

    each : (p : WordPair) → IsPairFacts may_be (facts_of p (cell_stepped a n s))
    each words.Bc = facts s.bc (h.each words.Bc)
    each words.De = facts s.de (h.each words.De)
    each words.Hl = facts s.hl (h.each words.Hl)

stepped_or_apart-kept :
    (may_be : ℕ → Bool) (whole : Bool) (n : ℕ) (bits : Option LowBits) (b : Bounds) (s : Pairs) → ArePairs may_be s → ArePairs may_be (stepped_or_apart whole n bits b s)
stepped_or_apart-kept may_be whole n bits b s h = choose (whole && is_one b)
  where
    choose : (c : Bool) → ArePairs may_be (cond c (cell_stepped b.first n s) (pairs_apart bits b s))
    choose true = cell_stepped-kept may_be b.first n s h
    choose false = pairs_apart-kept may_be bits b s h

pub cells_after-kept :
    (may_be : ℕ → Bool) (bits : Option LowBits) (o : Op) (v : Values) (low : Val) (s : Pairs) → ArePairs may_be s → ArePairs may_be (cells_after bits o v low s)
unfolding cells_after
cells_after-kept may_be bits (op.StoreA to) v low s h = pairs_apart-kept may_be bits _ s h
cells_after-kept may_be bits (op.Increment operand.AtHl) v low s h = stepped_or_apart-kept may_be (nat_lt low.hi 255) 1 bits _ s h
cells_after-kept may_be bits (op.Decrement operand.AtHl) v low s h = stepped_or_apart-kept may_be (nat_lt 0 low.lo) 65535 bits _ s h
cells_after-kept may_be bits (op.LoadImmediate operand.AtHl n) v low s h = pairs_apart-kept may_be bits _ s h
cells_after-kept may_be bits (op.StoreSp w) v low s h = pairs_apart-kept may_be None _ _ (pairs_apart-kept may_be None _ s h)
cells_after-kept may_be bits (op.Load operand.AtHl from) v low s h = pairs_apart-kept may_be bits _ s h
cells_after-kept may_be bits (op.StoreHigh n) v low s h = pairs_apart-kept may_be None _ s h
cells_after-kept may_be bits op.StoreHighC v low s h = pairs_apart-kept may_be bits _ s h
cells_after-kept may_be bits (op.StoreAbsolute w) v low s h = pairs_apart-kept may_be None _ s h
cells_after-kept may_be bits (op.Shift how operand.AtHl) v low s h = pairs_apart-kept may_be bits _ s h
cells_after-kept may_be bits (op.Reset n operand.AtHl) v low s h = pairs_apart-kept may_be bits _ s h
cells_after-kept may_be bits (op.Set n operand.AtHl) v low s h = pairs_apart-kept may_be bits _ s h
cells_after-kept may_be bits o v low s h = h
