-- What covers shadows.
use Rattle.std.proofs.Common.{◌≡◌, ℕ, ◌≤◌, Bool, true, false, not, ◌&&◌, ◌||◌, ◌==◌, Option, Some, None, refl, sym, ◌∙◌, ap, subst, arith}
use Rattle.std.proofs.lemmas.Bool.{and_parts, eqb-true}
use Rattle.gb_ops.specs.declared.machine.Banks.{Banks}
use Rattle.gb_ops.specs.declared.machine.Kind.{Kind}
use Rattle.gb_ops.specs.declared.op.Register.{Register}
use Rattle.gb_ops.specs.declared.op.Register.TheVariants.{A, B, C, D, E, H, L}
use Rattle.gb_ops.specs.declared.registers.Registers.{Registers}
use Rattle.gb_ops.specs.Registers.{get}
use Rattle.gb_domain.specs.declared.pairs.Bounds.{Bounds}
use Rattle.gb_domain.specs.declared.interval.StridedInterval.{StridedInterval}
use Rattle.gb_domain.specs.Meaning.{In}
use Rattle.gb_copies.specs.Places.{is_address}
use Rattle.gb_copies.proofs.RegisterLaws.{not_so}
use Rattle.gb_copies.specs.declared.windows.BankWindow.{BankWindow}
use Rattle.gb_domain.specs.declared.summary.Shadows.{Shadows}
use Rattle.gb_copies.specs.declared.bank_covering.Known.{Known}
use Rattle.gb_copies.specs.Windows.{has_windows, register_of, left_by}
use Rattle.gb_copies.specs.ShadowMeaning.{IsShadow, AreShadows}
use Rattle.gb_copies.specs.BankCovering.{is_left, covers_register, covers_address, covers, IsKnown, IsPartOf}

one_number : (a b x : ℕ) → a ≡ b → a ≤ x → x ≤ b → x ≡ a
one_number a b x e low high = omega arith

one_value : (v : StridedInterval) (x : ℕ) → v.lo ≡ v.hi → In v x → x ≡ v.lo
one_value v x e h = one_number v.lo v.hi x e h.least h.most

unless : (a b : Bool) → (not a || b) ≡ true → a ≡ true → b ≡ true
unless true b h e = h
unless false b h e = not_so e

IsShadow-left :
    (k : Kind) (which : BankWindow) (b : Bounds) (v : StridedInterval) (x : ℕ) (r : Banks)
    → is_left k which b v ≡ true → In v x → b.first ≤ register_of k which r → register_of k which r ≤ b.last → IsShadow k which x r
unfolding is_left
IsShadow-left k which b v x r h m low high = λ has.
    let parts = and_parts (v.lo == v.hi && b.first == b.last) (not (has_windows k) || left_by k which v.lo == b.first) h in
    let others = and_parts (v.lo == v.hi) (b.first == b.last) parts.0 in
    ap (left_by k which) (one_value v x (eqb-true v.lo v.hi others.0) m) ∙ eqb-true (left_by k which v.lo) b.first (unless (has_windows k) (left_by k which v.lo == b.first) parts.1 has)
    ∙ sym (one_number b.first b.last (register_of k which r) (eqb-true b.first b.last others.1) low high)

either : (a b c : Bool) → (not a || b || c) ≡ true → a ≡ true → (b ≡ false → c ≡ true)
either true true c h e f = cc
either true false c h e f = h
either false b c h e f = cc

shadow_register :
    (k : Kind) (which : BankWindow) (known : Known) (s t : Shadows) (x : Registers ℕ) (memory : ℕ → ℕ) (r : Banks) (q : Register)
    → IsKnown k which known t x memory r → AreShadows k which s x memory r
    → covers_register k which known s t q ≡ true → get q t.registers ≡ true → IsShadow k which (get q x) r
unfolding covers_register
shadow_register k which known s t x memory r q m h c wanted = choose (get q s.registers) refl
  where
    choose : (b : Bool) → get q s.registers ≡ b → IsShadow k which (get q x) r
    choose true e = h.registers q e
    choose false e =
        IsShadow-left k which known.bounds (get q known.registers) (get q x) r
        (either (get q t.registers) (get q s.registers) (is_left k which known.bounds (get q known.registers)) c wanted e)
        (m.registers q) m.least m.greatest

shadow_address :
    (k : Kind) (which : BankWindow) (known : Known) (s t : Shadows) (x : Registers ℕ) (memory : ℕ → ℕ) (r : Banks) (a : ℕ)
    → IsKnown k which known t x memory r → AreShadows k which s x memory r
    → covers_address k which known s t.address ≡ true → t.address ≡ Some a → IsShadow k which (memory a) r
shadow_address k which known s t x memory r a m h c is =
    choose (is_address a s.address) refl (subst (λ o. covers_address k which known s o ≡ true) is c)
  where
    among : (o : Option ℕ) → s.address ≡ o → is_address a o ≡ true → s.address ≡ Some a
    among None e i = not_so i
    among (Some b) e i = e ∙ ap (λ n. Some n) (sym (eqb-true a b i))

    choose :
        (b : Bool) → is_address a s.address ≡ b → (is_address a s.address || is_left k which known.bounds known.memory) ≡ true
        → IsShadow k which (memory a) r
    choose true e i = h.address a (among s.address refl e)
    choose false e i =
        IsShadow-left k which known.bounds known.memory (memory a) r (ap (λ b. b || is_left k which known.bounds known.memory) (sym e) ∙ i)
        (m.byte a is) m.least m.greatest

record AllCovered (k : Kind) (which : BankWindow) (known : Known) (s t : Shadows) : Type 0 where
  registers : (q : Register) → covers_register k which known s t q ≡ true
  address : covers_address k which known s t.address ≡ true

all_covered : (k : Kind) (which : BankWindow) (known : Known) (s t : Shadows) → covers k which known s t ≡ true → AllCovered k which known s t
unfolding covers
all_covered k which known s t h =
    let g = and_parts _ (covers_address k which known s t.address) h in
    let f = and_parts _ (covers_register k which known s t L) g.0 in
    let e = and_parts _ (covers_register k which known s t H) f.0 in
    let d = and_parts _ (covers_register k which known s t E) e.0 in
    let c = and_parts _ (covers_register k which known s t D) d.0 in
    let b = and_parts _ (covers_register k which known s t C) c.0 in
    let a = and_parts (covers_register k which known s t A) (covers_register k which known s t B) b.0 in
    record { registers = each a.0 a.1 b.1 c.1 d.1 e.1 f.1; address = g.1 }
  where
    each :
        covers_register k which known s t A ≡ true → covers_register k which known s t B ≡ true → covers_register k which known s t C ≡ true
        → covers_register k which known s t D ≡ true → covers_register k which known s t E ≡ true → covers_register k which known s t H ≡ true
        → covers_register k which known s t L ≡ true → (q : Register) → covers_register k which known s t q ≡ true
    each a b c d e f g A = a
    each a b c d e f g B = b
    each a b c d e f g C = c
    each a b c d e f g D = d
    each a b c d e f g E = e
    each a b c d e f g H = f
    each a b c d e f g L = g

pub covers_sound :
    (k : Kind) (which : BankWindow) (known : Known) (s t : Shadows) (o : Bool)
    → o ≡ covers k which known s t → o ≡ true → IsPartOf k which known s t
covers_sound k which known s t o e is =
    let c = all_covered k which known s t (sym e ∙ is) in
    record {
      gives = λ x memory r m h.
          record {
            registers = λ q wanted. shadow_register k which known s t x memory r q m h (c.registers q) wanted;
            address = λ a is. shadow_address k which known s t x memory r a m h c.address is;
          };
    }
