-- Pointers move as far as that is known, and fills hold where they do.
use Rattle.std.proofs.Common.{◌≡◌, ℕ, ◌+◌, ◌*◌, ◌-◌, ◌/◌, ◌%◌, ◌<◌, ◌≤◌, Bool, true, false, cond, ◌==◌, nat_le, nat_lt, List, [], ◌∷◌, Option, Some, None, refl, sym, subst, arith}
use Rattle.std.proofs.lemmas.Bool.{eqb-true}
use Rattle.std.proofs.lemmas.Bool.Decides.{nat_tests}
use Rattle.std.specs.List.{filter_map, cons_option}
use Rattle.gb_ops.specs.declared.op.Indirect.{Indirect}
use Rattle.gb_ops.specs.declared.op.Indirect.TheVariants as indirect
use Rattle.gb_ops.specs.declared.op.Op.{Op}
use Rattle.gb_ops.specs.declared.op.Op.TheVariants as op
use Rattle.gb_ops.specs.declared.op.Operand.TheVariants as operand
use Rattle.gb_ops.specs.declared.op.Pair.{Pair}
use Rattle.gb_ops.specs.declared.op.Pair.TheVariants as pair
use Rattle.gb_ops.specs.declared.op.Pointer.{Pointer}
use Rattle.gb_ops.specs.declared.op.Pointer.TheVariants.{Bc, De, Hl, HighC}
use Rattle.gb_ops.specs.declared.op.Register.{Register}
use Rattle.gb_ops.specs.declared.op.Register.TheVariants.{A, B, C, D, E, H, L}
use Rattle.gb_ops.specs.declared.registers.Processor.{Processor}
use Rattle.gb_ops.specs.declared.registers.Registers.{Registers}
use Rattle.gb_ops.specs.Arithmetic.{incremented, decremented}
use Rattle.gb_ops.specs.Effects.{hl, with_indirect, operand_value, store_operand, update_operand, effect_of}
use Rattle.gb_ops.specs.Pairs.{word, pair_value, with_pair}
use Rattle.gb_ops.specs.Pointers.{pointed, byte_or_page, high_register, low_register}
use Rattle.gb_ops.specs.Registers.{get, set}
use Rattle.gb_domain.specs.declared.pairs.Bounds.{Bounds}
use Rattle.gb_domain.specs.declared.pairs.WordPair.TheVariants as words
use Rattle.gb_domain.specs.declared.summary.Fill.{Fill}
use Rattle.gb_domain.specs.declared.summary.FillEnd.{FillEnd}
use Rattle.gb_domain.specs.declared.types.Cell.{Cell}
use Rattle.gb_domain.specs.declared.types.Val.{Val}
use Rattle.gb_relations.specs.Below.gb_pairs.declared.values.Values.{Values}
use Rattle.gb_relations.specs.Below.gb_pairs.Bounds.{is_one}
use Rattle.gb_relations.specs.Below.gb_pairs.Meaning.{Beside, AreBytes, Holds}
use Rattle.gb_relations.specs.Below.gb_pairs.Sound.{Within}
use Rattle.gb_relations.proofs.Below.gb_pairs_laws.BoundsLaws.{bounds_of_sound}
use Rattle.gb_relations.specs.Bytes.{at_hl}
use Rattle.gb_relations.specs.Pairs.{addend, is_hl}
use Rattle.gb_relations.specs.Written.{written}
use Rattle.gb_relations.proofs.MachineLaws.{overwritten, effect_of-registers}
use Rattle.gb_ram_bounds.specs.declared.pointers.Pointers.{Pointers}
use Rattle.gb_ram_bounds.specs.Fills as Fills
use Rattle.gb_ram_bounds.specs.Fills.{at_pointer, is_same_pointer, reaches, is_reached, with_offset, after_rise, after_fall, after_write, raised, lowered, fixed_at}
use Rattle.gb_ram_bounds.specs.Meaning.{HoldsFill, HoldsSome, HoldFills, PointersIn}
use Rattle.gb_ram_bounds.proofs.FillLaws.{at_most, HoldsSome-fixed, HoldsFill-elsewhere, HoldsFill-none, HoldsFill-moved, reached-raised, reached-lowered}
use Rattle.gb_summaries.specs.declared.moves.Move.{Move}
use Rattle.gb_summaries.specs.declared.moves.Move.TheVariants.{Stays, Rises, Falls, Lost}
use Rattle.gb_summaries.specs.Meaning.{pointers_of}
use Rattle.gb_summaries.specs.Moves.{step_up, step_down, byte_up, byte_down, sum_move, no_move, at_byte, at_pair, counted, without_byte, without_bytes, added, moves_of, moved_end, moved_by, moved, fills_moved, IsMove, HaveMoved, AreSoundMoves, AreSoundFills}

-- ---- fills

same_itself : (q : Pointer) → is_same_pointer q q ≡ true
same_itself Bc = refl
same_itself De = refl
same_itself Hl = refl
same_itself HighC = refl

HoldsSome-rises :
    (e : FillEnd) (n : ℕ) (p : Pointers Bounds) (f : Fill) (cells : List Cell) (memory : ℕ → ℕ) (x y : Pointers ℕ)
    → PointersIn p x → f.end ≡ Some e → at_pointer e.pointer y ≡ at_pointer e.pointer x + n → HoldsFill cells memory x f
    → HoldsSome (raised e.pointer n p f) cells memory y
unfolding raised
HoldsSome-rises e n p f cells memory x y i ends at h =
    subst (λ r. HoldsSome (after_rise r e.pointer n p f) cells memory y) (sym ends)
    (subst (λ b. HoldsSome (cond b (cond (nat_le n e.offset) (Some (with_offset e (e.offset - n) f)) (fixed_at e p f)) (Some f)) cells memory y) (sym (same_itself e.pointer))
    (choose (nat_le n e.offset) refl))
  where
    choose : (c : Bool) → nat_le n e.offset ≡ c → HoldsSome (cond c (Some (with_offset e (e.offset - n) f)) (fixed_at e p f)) cells memory y
    choose true le =
        HoldsFill-moved e (e.offset - n) f cells memory x y ends
        (λ a. reached-raised e (at_pointer e.pointer x) (at_pointer e.pointer y) n a (at_most n e.offset le) at) h
    choose false gt = HoldsSome-fixed e p f cells memory x y i ends h

HoldsSome-falls :
    (e : FillEnd) (n : ℕ) (p : Pointers Bounds) (f : Fill) (cells : List Cell) (memory : ℕ → ℕ) (x y : Pointers ℕ)
    → PointersIn p x → f.end ≡ Some e → at_pointer e.pointer x ≡ at_pointer e.pointer y + n → HoldsFill cells memory x f
    → HoldsSome (lowered e.pointer n p f) cells memory y
unfolding lowered
HoldsSome-falls e n p f cells memory x y i ends at h =
    subst (λ r. HoldsSome (after_fall r e.pointer n p f) cells memory y) (sym ends)
    (subst (λ b. HoldsSome (cond b (cond (nat_lt (e.offset + n) 65536) (Some (with_offset e (e.offset + n) f)) (fixed_at e p f)) (Some f)) cells memory y) (sym (same_itself e.pointer))
    (choose (nat_lt (e.offset + n) 65536)))
  where
    choose : (c : Bool) → HoldsSome (cond c (Some (with_offset e (e.offset + n) f)) (fixed_at e p f)) cells memory y
    choose true =
        HoldsFill-moved e (e.offset + n) f cells memory x y ends
        (λ a. reached-lowered e (at_pointer e.pointer x) (at_pointer e.pointer y) n a at) h
    choose false = HoldsSome-fixed e p f cells memory x y i ends h

HoldsSome-lost :
    (e : FillEnd) (p : Pointers Bounds) (f : Fill) (cells : List Cell) (memory : ℕ → ℕ) (x y : Pointers ℕ)
    → PointersIn p x → f.end ≡ Some e → HoldsFill cells memory x f → HoldsSome (Fills.written e.pointer p f) cells memory y
unfolding Fills.written
HoldsSome-lost e p f cells memory x y i ends h =
    subst (λ r. HoldsSome (after_write r e.pointer p f) cells memory y) (sym ends)
    (subst (λ b. HoldsSome (cond b (fixed_at e p f) (Some f)) cells memory y) (sym (same_itself e.pointer)) (HoldsSome-fixed e p f cells memory x y i ends h))

HoldsFill-stays :
    (e : FillEnd) (f : Fill) (cells : List Cell) (memory : ℕ → ℕ) (x y : Pointers ℕ)
    → f.end ≡ Some e → at_pointer e.pointer y ≡ at_pointer e.pointer x → HoldsFill cells memory x f → HoldsFill cells memory y f
HoldsFill-stays e f cells memory x y ends at h =
    HoldsFill-elsewhere f cells memory x y
    (λ a reached.
    subst (λ r. reaches r x a ≡ true) (sym ends)
    (subst (λ z. is_reached e z a ≡ true) at (subst (λ r. reaches r y a ≡ true) ends reached)))
    h

HoldsSome-end :
    (m : Move) (e : FillEnd) (p : Pointers Bounds) (f : Fill) (cells : List Cell) (memory : ℕ → ℕ) (x y : Pointers ℕ)
    → PointersIn p x → f.end ≡ Some e → IsMove m (at_pointer e.pointer x) (at_pointer e.pointer y) → HoldsFill cells memory x f
    → HoldsSome (moved_end m e p f) cells memory y
HoldsSome-end Stays e p f cells memory x y i ends at h = HoldsFill-stays e f cells memory x y ends at h
HoldsSome-end (Rises n) e p f cells memory x y i ends at h = HoldsSome-rises e n p f cells memory x y i ends at h
HoldsSome-end (Falls n) e p f cells memory x y i ends at h = HoldsSome-falls e n p f cells memory x y i ends at h
HoldsSome-end Lost e p f cells memory x y i ends at h = HoldsSome-lost e p f cells memory x y i ends h

HoldsSome-moved :
    (m : Pointers Move) (p : Pointers Bounds) (f : Fill) (cells : List Cell) (memory : ℕ → ℕ) (x y : Pointers ℕ)
    → PointersIn p x → HaveMoved m x y → HoldsFill cells memory x f → HoldsSome (moved m p f) cells memory y
unfolding moved
HoldsSome-moved m p f cells memory x y i d h = by_end f.end refl
  where
    by_end : (r : Option FillEnd) → f.end ≡ r → HoldsSome (moved_by r m p f) cells memory y
    by_end None ends = HoldsFill-none f cells memory x y ends h
    by_end (Some e) ends = HoldsSome-end (at_pointer e.pointer m) e p f cells memory x y i ends (d.each e.pointer) h

HoldFills-moved :
    (m : Pointers Move) (p : Pointers Bounds) (fills : List Fill) (cells : List Cell) (memory : ℕ → ℕ) (x y : Pointers ℕ)
    → PointersIn p x → HaveMoved m x y → HoldFills fills cells memory x → HoldFills (fills_moved m p fills) cells memory y
unfolding fills_moved
HoldFills-moved m p [] cells memory x y i d h = tt
HoldFills-moved m p (f ∷ fills) cells memory x y i d h =
    one (moved m p f) (HoldsSome-moved m p f cells memory x y i d h.0) (HoldFills-moved m p fills cells memory x y i d h.1)
  where
    one :
        (o : Option Fill) → HoldsSome o cells memory y → HoldFills (filter_map (moved m p) fills) cells memory y
        → HoldFills (cons_option o (filter_map (moved m p) fills)) cells memory y
    one None here rest = rest
    one (Some g) here rest = (here, rest)

pub fills_moved_sound :
    (m : Pointers Move) (p : Pointers Bounds) (fills o : List Fill) → o ≡ fills_moved m p fills → AreSoundFills m p fills o
fills_moved_sound m p fills o e =
    subst (λ r. AreSoundFills m p fills r) (sym e) (record { gives = λ cells memory x y. HoldFills-moved m p fills cells memory x y })

-- ---- pointers of registers

abbrev at_registers : Registers ℕ → Pointers ℕ
at_registers x = record { bc = word x.b x.c; de = word x.d x.e; hl = word x.h x.l; high_c = word 255 x.c }

pointers-registers : (p : Processor) → pointers_of p ≡ at_registers p.registers
unfolding pointed byte_or_page high_register low_register
pointers-registers p = refl

HaveMoved-registers :
    (m : Pointers Move) (p r : Processor) → HaveMoved m (at_registers p.registers) (at_registers r.registers) → HaveMoved m (pointers_of p) (pointers_of r)
HaveMoved-registers m p r h =
    subst (λ x. HaveMoved m x (pointers_of r)) (sym (pointers-registers p))
    (subst (λ y. HaveMoved m (at_registers p.registers) y) (sym (pointers-registers r)) h)

still : (q : Pointer) (x : Pointers ℕ) → IsMove (at_pointer q no_move) (at_pointer q x) (at_pointer q x)
still Bc x = refl
still De x = refl
still Hl x = refl
still HighC x = refl

-- ---- bytes that are written

IsMove-without_byte :
    (r : Register) (q : Pointer) (n : ℕ) (m : Pointers Move) (x : Registers ℕ) (z : ℕ)
    → IsMove (at_pointer q m) (at_pointer q (at_registers (set r n x))) z
    → IsMove (at_pointer q (without_byte r m)) (at_pointer q (at_registers x)) z
IsMove-without_byte A q n m x z h = h
IsMove-without_byte B Bc n m x z h = tt
IsMove-without_byte B De n m x z h = h
IsMove-without_byte B Hl n m x z h = h
IsMove-without_byte B HighC n m x z h = h
IsMove-without_byte C Bc n m x z h = tt
IsMove-without_byte C De n m x z h = h
IsMove-without_byte C Hl n m x z h = h
IsMove-without_byte C HighC n m x z h = tt
IsMove-without_byte D Bc n m x z h = h
IsMove-without_byte D De n m x z h = tt
IsMove-without_byte D Hl n m x z h = h
IsMove-without_byte D HighC n m x z h = h
IsMove-without_byte E Bc n m x z h = h
IsMove-without_byte E De n m x z h = tt
IsMove-without_byte E Hl n m x z h = h
IsMove-without_byte E HighC n m x z h = h
IsMove-without_byte H Bc n m x z h = h
IsMove-without_byte H De n m x z h = h
IsMove-without_byte H Hl n m x z h = tt
IsMove-without_byte H HighC n m x z h = h
IsMove-without_byte L Bc n m x z h = h
IsMove-without_byte L De n m x z h = h
IsMove-without_byte L Hl n m x z h = tt
IsMove-without_byte L HighC n m x z h = h

HaveMoved-without_bytes : (rs : List Register) (x y : Registers ℕ) → HaveMoved (without_bytes rs) (at_registers x) (at_registers (overwritten rs x y))
HaveMoved-without_bytes [] x y = record { each = λ q. still q (at_registers x) }
HaveMoved-without_bytes (r ∷ rest) x y =
    record {
      each = λ q. IsMove-without_byte r q (get r y) (without_bytes rest) x _ ((HaveMoved-without_bytes rest (set r (get r y) x) y).each q);
    }

HaveMoved-written :
    (o : Op) (p : Processor) (l h : ℕ) → HaveMoved (without_bytes (written o)) (at_registers p.registers) (at_registers (effect_of o p l h).processor.registers)
HaveMoved-written o p l h =
    subst (λ y. HaveMoved (without_bytes (written o)) (at_registers p.registers) (at_registers y)) (sym (effect_of-registers o p l h))
    (HaveMoved-without_bytes (written o) p.registers (effect_of o p l h).processor.registers)

-- ---- bytes that count

IsMove-byte :
    (r : Register) (q : Pointer) (low high : Move) (n : ℕ) (x : Registers ℕ)
    → ((k : ℕ) → IsMove low (256 * k + get r x) (256 * k + n)) → ((k : ℕ) → IsMove high (256 * get r x + k) (256 * n + k))
    → IsMove (at_pointer q (at_byte r low high)) (at_pointer q (at_registers x)) (at_pointer q (at_registers (set r n x)))
IsMove-byte A q low high n x lo hi = still q (at_registers x)
IsMove-byte B Bc low high n x lo hi = hi x.c
IsMove-byte B De low high n x lo hi = refl
IsMove-byte B Hl low high n x lo hi = refl
IsMove-byte B HighC low high n x lo hi = refl
IsMove-byte C Bc low high n x lo hi = lo x.b
IsMove-byte C De low high n x lo hi = refl
IsMove-byte C Hl low high n x lo hi = refl
IsMove-byte C HighC low high n x lo hi = lo 255
IsMove-byte D Bc low high n x lo hi = refl
IsMove-byte D De low high n x lo hi = hi x.e
IsMove-byte D Hl low high n x lo hi = refl
IsMove-byte D HighC low high n x lo hi = refl
IsMove-byte E Bc low high n x lo hi = refl
IsMove-byte E De low high n x lo hi = lo x.d
IsMove-byte E Hl low high n x lo hi = refl
IsMove-byte E HighC low high n x lo hi = refl
IsMove-byte H Bc low high n x lo hi = refl
IsMove-byte H De low high n x lo hi = refl
IsMove-byte H Hl low high n x lo hi = hi x.l
IsMove-byte H HighC low high n x lo hi = refl
IsMove-byte L Bc low high n x lo hi = refl
IsMove-byte L De low high n x lo hi = refl
IsMove-byte L Hl low high n x lo hi = lo x.h
IsMove-byte L HighC low high n x lo hi = refl

-- ---- steps

below : (x y : ℕ) → nat_lt x y ≡ true → x < y
below x y h = grind (arith, nat_tests)

low_up : (hi x k : ℕ) → x ≤ hi → hi < 255 → 256 * k + (x + 1) % 256 ≡ 256 * k + x + 1
low_up hi x k m e = omega arith

low_round : (lo x k : ℕ) → lo ≤ x → x < 256 → lo ≡ 255 → 256 * k + x ≡ 256 * k + (x + 1) % 256 + 255
low_round lo x k l s e = omega arith

high_up : (hi x k : ℕ) → x ≤ hi → hi < 255 → 256 * ((x + 1) % 256) + k ≡ 256 * x + k + 256
high_up hi x k m e = omega arith

high_round : (lo x k : ℕ) → lo ≤ x → x < 256 → lo ≡ 255 → 256 * x + k ≡ 256 * ((x + 1) % 256) + k + 65280
high_round lo x k l s e = omega arith

IsMove-low_up : (v : Val) (x k : ℕ) → v.lo ≤ x → x ≤ v.hi → x < 256 → IsMove (byte_up v 1) (256 * k + x) (256 * k + (x + 1) % 256)
IsMove-low_up v x k least most small = choose (nat_lt v.hi 255) refl (v.lo == 255) refl
  where
    choose :
        (b : Bool) → nat_lt v.hi 255 ≡ b → (c : Bool) → (v.lo == 255) ≡ c
        → IsMove (cond b (Rises 1) (cond c (Falls 255) Lost)) (256 * k + x) (256 * k + (x + 1) % 256)
    choose true e c f = low_up v.hi x k most (below v.hi 255 e)
    choose false e true f = low_round v.lo x k least small (eqb-true v.lo 255 f)
    choose false e false f = tt

IsMove-high_up : (v : Val) (x k : ℕ) → v.lo ≤ x → x ≤ v.hi → x < 256 → IsMove (byte_up v 256) (256 * x + k) (256 * ((x + 1) % 256) + k)
IsMove-high_up v x k least most small = choose (nat_lt v.hi 255) refl (v.lo == 255) refl
  where
    choose :
        (b : Bool) → nat_lt v.hi 255 ≡ b → (c : Bool) → (v.lo == 255) ≡ c
        → IsMove (cond b (Rises 256) (cond c (Falls 65280) Lost)) (256 * x + k) (256 * ((x + 1) % 256) + k)
    choose true e c f = high_up v.hi x k most (below v.hi 255 e)
    choose false e true f = high_round v.lo x k least small (eqb-true v.lo 255 f)
    choose false e false f = tt

low_down : (lo x k : ℕ) → 0 < lo → lo ≤ x → x < 256 → 256 * k + x ≡ 256 * k + (x + 255) % 256 + 1
low_down lo x k e m s = omega arith

low_back : (hi x k : ℕ) → x ≤ hi → hi ≡ 0 → 256 * k + (x + 255) % 256 ≡ 256 * k + x + 255
low_back hi x k m e = omega arith

high_down : (lo x k : ℕ) → 0 < lo → lo ≤ x → x < 256 → 256 * x + k ≡ 256 * ((x + 255) % 256) + k + 256
high_down lo x k e m s = omega arith

high_back : (hi x k : ℕ) → x ≤ hi → hi ≡ 0 → 256 * ((x + 255) % 256) + k ≡ 256 * x + k + 65280
high_back hi x k m e = omega arith

IsMove-low_down : (v : Val) (x k : ℕ) → v.lo ≤ x → x ≤ v.hi → x < 256 → IsMove (byte_down v 1) (256 * k + x) (256 * k + (x + 255) % 256)
IsMove-low_down v x k least most small = choose (nat_lt 0 v.lo) refl (v.hi == 0) refl
  where
    choose :
        (b : Bool) → nat_lt 0 v.lo ≡ b → (c : Bool) → (v.hi == 0) ≡ c
        → IsMove (cond b (Falls 1) (cond c (Rises 255) Lost)) (256 * k + x) (256 * k + (x + 255) % 256)
    choose true e c f = low_down v.lo x k (below 0 v.lo e) least small
    choose false e true f = low_back v.hi x k most (eqb-true v.hi 0 f)
    choose false e false f = tt

IsMove-high_down : (v : Val) (x k : ℕ) → v.lo ≤ x → x ≤ v.hi → x < 256 → IsMove (byte_down v 256) (256 * x + k) (256 * ((x + 255) % 256) + k)
IsMove-high_down v x k least most small = choose (nat_lt 0 v.lo) refl (v.hi == 0) refl
  where
    choose :
        (b : Bool) → nat_lt 0 v.lo ≡ b → (c : Bool) → (v.hi == 0) ≡ c
        → IsMove (cond b (Falls 256) (cond c (Rises 65280) Lost)) (256 * x + k) (256 * ((x + 255) % 256) + k)
    choose true e c f = high_down v.lo x k (below 0 v.lo e) least small
    choose false e true f = high_back v.hi x k most (eqb-true v.hi 0 f)
    choose false e false f = tt

-- ---- pairs

word_up : (last x : ℕ) → x ≤ last → last < 65535 → (x + 1) % 65536 ≡ x + 1
word_up last x m e = omega arith

word_down : (first x : ℕ) → 0 < first → first ≤ x → x < 65536 → x ≡ (x + 65535) % 65536 + 1
word_down first x e m s = omega arith

IsMove-step_up : (b : Bounds) (x : ℕ) → Within b x → IsMove (step_up b) x ((x + 1) % 65536)
IsMove-step_up b x w = choose (nat_lt b.last 65535) refl
  where
    choose : (c : Bool) → nat_lt b.last 65535 ≡ c → IsMove (cond c (Rises 1) Lost) x ((x + 1) % 65536)
    choose true e = word_up b.last x w.most (below b.last 65535 e)
    choose false e = tt

IsMove-step_down : (b : Bounds) (x : ℕ) → Within b x → x < 65536 → IsMove (step_down b) x ((x + 65535) % 65536)
IsMove-step_down b x w small = choose (nat_lt 0 b.first) refl
  where
    choose : (c : Bool) → nat_lt 0 b.first ≡ c → IsMove (cond c (Falls 1) Lost) x ((x + 65535) % 65536)
    choose true e = word_down b.first x (below 0 b.first e) w.least small
    choose false e = tt

sum_up : (last x y : ℕ) → x ≤ last → last + y < 65536 → (x + y) % 65536 ≡ x + y
sum_up last x y m e = omega arith

sum_round : (first x y : ℕ) → first ≤ x → x < 65536 → y < 65536 → 65536 ≤ first + y → x ≡ (x + y) % 65536 + (65536 - y)
sum_round first x y m s t e = omega arith

IsMove-sum : (b : Bounds) (x y : ℕ) → Within b x → x < 65536 → y < 65536 → IsMove (sum_move b y) x ((x + y) % 65536)
IsMove-sum b x y w small other = choose (nat_lt (b.last + y) 65536) refl (nat_le 65536 (b.first + y)) refl
  where
    choose :
        (c : Bool) → nat_lt (b.last + y) 65536 ≡ c → (d : Bool) → nat_le 65536 (b.first + y) ≡ d
        → IsMove (cond c (Rises y) (cond d (Falls (65536 - y)) Lost)) x ((x + y) % 65536)
    choose true e d f = sum_up b.last x y w.most (below (b.last + y) 65536 e)
    choose false e true f = sum_round b.first x y w.least small other (at_most 65536 (b.first + y) f)
    choose false e false f = tt

only : (first last y : ℕ) → first ≤ y → y ≤ last → first ≡ last → first ≡ y
only first last y l m e = omega arith

IsMove-added :
    (which : Pair) (c b : Bounds) (x y : ℕ) → Within c y → Within b x → x < 65536 → y < 65536 → IsMove (added which c b) x ((x + y) % 65536)
IsMove-added which c b x y v w small other = choose (is_hl which) (is_one c) refl
  where
    choose :
        (i o : Bool) → is_one c ≡ o → IsMove (cond i Lost (cond o (sum_move b c.first) Lost)) x ((x + y) % 65536)
    choose true o e = tt
    choose false true e =
        subst (λ n. IsMove (sum_move b n) x ((x + y) % 65536)) (sym (only c.first c.last y v.least v.most (eqb-true c.first c.last e)))
        (IsMove-sum b x y w small other)
    choose false false e = tt

whole : (w : ℕ) → word (w / 256) (w % 256) ≡ w
whole w = omega arith

IsMove-whole : (m : Move) (x w : ℕ) → IsMove m x w → IsMove m x (word (w / 256) (w % 256))
IsMove-whole m x w h = subst (λ z. IsMove m x z) (sym (whole w)) h

IsMove-pair :
    (which : Pair) (m : Move) (p : Processor) (w : ℕ) (q : Pointer) → IsMove m (pair_value p which) w
    → IsMove (at_pointer q (at_pair which m)) (at_pointer q (at_registers p.registers)) (at_pointer q (at_registers (with_pair p which w).registers))
unfolding pair_value with_pair
IsMove-pair pair.Bc m p w Bc h = IsMove-whole m (word p.registers.b p.registers.c) w h
IsMove-pair pair.Bc m p w De h = refl
IsMove-pair pair.Bc m p w Hl h = refl
IsMove-pair pair.Bc m p w HighC h = tt
IsMove-pair pair.De m p w Bc h = refl
IsMove-pair pair.De m p w De h = IsMove-whole m (word p.registers.d p.registers.e) w h
IsMove-pair pair.De m p w Hl h = refl
IsMove-pair pair.De m p w HighC h = refl
IsMove-pair pair.Hl m p w Bc h = refl
IsMove-pair pair.Hl m p w De h = refl
IsMove-pair pair.Hl m p w Hl h = IsMove-whole m (word p.registers.h p.registers.l) w h
IsMove-pair pair.Hl m p w HighC h = refl
IsMove-pair pair.Sp m p w q h = still q (at_registers p.registers)

HaveMoved-pair :
    (which : Pair) (m : Move) (p : Processor) (w : ℕ) → IsMove m (pair_value p which) w
    → HaveMoved (at_pair which m) (at_registers p.registers) (at_registers (with_pair p which w).registers)
HaveMoved-pair which m p w h = record { each = λ q. IsMove-pair which m p w q h }

-- ---- instructions

record Known (sp : Bounds) (v : Values) (p : Processor) : Type 0 where
  was : Beside
  values : Holds v was p.registers
  bytes : AreBytes p.registers
  sp_first : sp.first ≤ p.sp
  sp_last : p.sp ≤ sp.last
  sp_small : p.sp < 65536

Within-addend : (which : Pair) (sp : Bounds) (v : Values) (p : Processor) → Known sp v p → Within (addend which sp v) (pair_value p which)
unfolding pair_value
Within-addend pair.Bc sp v p k = (bounds_of_sound words.Bc v _ refl).gives k.was p.registers k.values
Within-addend pair.De sp v p k = (bounds_of_sound words.De v _ refl).gives k.was p.registers k.values
Within-addend pair.Hl sp v p k = (bounds_of_sound words.Hl v _ refl).gives k.was p.registers k.values
Within-addend pair.Sp sp v p k = record { least = k.sp_first; most = k.sp_last }

small_word : (h l : ℕ) → h < 256 → l < 256 → word h l < 65536
small_word h l a b = omega arith

small_pair : (which : Pair) (sp : Bounds) (v : Values) (p : Processor) → Known sp v p → pair_value p which < 65536
unfolding pair_value
small_pair pair.Bc sp v p k = small_word p.registers.b p.registers.c (k.bytes.each B) (k.bytes.each C)
small_pair pair.De sp v p k = small_word p.registers.d p.registers.e (k.bytes.each D) (k.bytes.each E)
small_pair pair.Hl sp v p k = small_word p.registers.h p.registers.l (k.bytes.each H) (k.bytes.each L)
small_pair pair.Sp sp v p k = k.sp_small

HaveMoved-counted :
    (which : Indirect) (sp : Bounds) (v : Values) (p : Processor) → Known sp v p
    → HaveMoved (counted which (at_hl v)) (at_registers p.registers) (at_registers (with_indirect p which).registers)
unfolding with_indirect
HaveMoved-counted indirect.Bc sp v p k = record { each = λ q. still q (at_registers p.registers) }
HaveMoved-counted indirect.De sp v p k = record { each = λ q. still q (at_registers p.registers) }
HaveMoved-counted indirect.HlIncrement sp v p k =
    HaveMoved-pair pair.Hl (step_up (at_hl v)) p ((hl p + 1) % 65536) (IsMove-step_up (at_hl v) (hl p) (Within-addend pair.Hl sp v p k))
HaveMoved-counted indirect.HlDecrement sp v p k =
    HaveMoved-pair pair.Hl (step_down (at_hl v)) p ((hl p + 65535) % 65536)
    (IsMove-step_down (at_hl v) (hl p) (Within-addend pair.Hl sp v p k) (small_pair pair.Hl sp v p k))

HaveMoved-moves :
    (o : Op) (sp : Bounds) (v : Values) (p : Processor) (l h : ℕ) → Known sp v p
    → HaveMoved (moves_of o sp v) (at_registers p.registers) (at_registers (effect_of o p l h).processor.registers)
unfolding moves_of effect_of update_operand store_operand operand_value incremented decremented
HaveMoved-moves (op.StoreA to) sp v p l h k = HaveMoved-counted to sp v p k
HaveMoved-moves (op.LoadA from) sp v p l h k = HaveMoved-counted from sp v p k
HaveMoved-moves (op.IncrementPair which) sp v p l h k =
    HaveMoved-pair which (step_up (addend which sp v)) p ((pair_value p which + 1) % 65536)
    (IsMove-step_up (addend which sp v) (pair_value p which) (Within-addend which sp v p k))
HaveMoved-moves (op.DecrementPair which) sp v p l h k =
    HaveMoved-pair which (step_down (addend which sp v)) p ((pair_value p which + 65535) % 65536)
    (IsMove-step_down (addend which sp v) (pair_value p which) (Within-addend which sp v p k) (small_pair which sp v p k))
HaveMoved-moves (op.Increment (operand.Register r)) sp v p l h k =
    let m = k.values.registers r in
    record {
      each = λ q.
          IsMove-byte r q _ _ ((get r p.registers + 1) % 256) p.registers
          (λ n. IsMove-low_up (get r v.registers) (get r p.registers) n m.least m.most (k.bytes.each r))
          (λ n. IsMove-high_up (get r v.registers) (get r p.registers) n m.least m.most (k.bytes.each r));
    }
HaveMoved-moves (op.Decrement (operand.Register r)) sp v p l h k =
    let m = k.values.registers r in
    record {
      each = λ q.
          IsMove-byte r q _ _ ((get r p.registers + 255) % 256) p.registers
          (λ n. IsMove-low_down (get r v.registers) (get r p.registers) n m.least m.most (k.bytes.each r))
          (λ n. IsMove-high_down (get r v.registers) (get r p.registers) n m.least m.most (k.bytes.each r));
    }
HaveMoved-moves (op.AddHl which) sp v p l h k =
    HaveMoved-pair pair.Hl (added which (addend which sp v) (at_hl v)) p ((hl p + pair_value p which) % 65536)
    (IsMove-added which (addend which sp v) (at_hl v) (hl p) (pair_value p which) (Within-addend which sp v p k) (Within-addend pair.Hl sp v p k) (small_pair pair.Hl sp v p k) (small_pair which sp v p k))
HaveMoved-moves o sp v p l h k = HaveMoved-written o p l h

pub moves_of_sound : (o : Op) (sp : Bounds) (v : Values) (m : Pointers Move) → m ≡ moves_of o sp v → AreSoundMoves o sp v m
moves_of_sound o sp v m e =
    subst (λ r. AreSoundMoves o sp v r) (sym e)
    (record {
      gives = λ was p l h values bytes first last small.
          HaveMoved-registers (moves_of o sp v) p (effect_of o p l h).processor
          (HaveMoved-moves o sp v p l h (record { was = was; values = values; bytes = bytes; sp_first = first; sp_last = last; sp_small = small }));
    })
