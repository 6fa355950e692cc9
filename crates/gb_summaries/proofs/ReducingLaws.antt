-- What shadows leave of a register's bounds has the register.
use Rattle.std.proofs.Common.{◌≡◌, ℕ, ◌<◌, Bool, true, false, cond, ◌&&◌, ◌||◌, List, Option, Some, None, is_some, refl, sym, subst, arith}
use Rattle.std.proofs.lemmas.Bool.{and_parts}
use Rattle.std.specs.List.{AllByRecursion}
use Rattle.gb_ops.specs.declared.machine.Banks.{Banks}
use Rattle.gb_ops.specs.declared.machine.Kind.{Kind}
use Rattle.gb_ops.specs.declared.op.Register.{Register}
use Rattle.gb_ops.specs.declared.op.Register.TheVariants.{A, B, C, D, E, H, L}
use Rattle.gb_ops.specs.declared.registers.Processor.{Processor}
use Rattle.gb_ops.specs.declared.registers.Registers.{Registers}
use Rattle.gb_ops.specs.Registers.{get}
use Rattle.gb_domain.specs.declared.interval.StridedInterval.{StridedInterval}
use Rattle.gb_domain.specs.declared.pairs.Bounds.{Bounds}
use Rattle.gb_domain.specs.declared.summary.Shadows.{Shadows}
use Rattle.gb_domain.specs.declared.types.Cell.{Cell}
use Rattle.gb_domain.specs.declared.types.Ctl.{Ctl}
use Rattle.gb_domain.specs.Interval.{any_byte}
use Rattle.gb_domain.specs.Meaning.{In}
use Rattle.gb_domain.specs.Summaries.{SummaryParts, Program}
use Rattle.gb_relations.specs.Below.gb_pairs.declared.values.Values.{Values}
use Rattle.gb_relations.specs.Below.gb_pairs.Meaning.{AreBytes}
use Rattle.gb_relations.specs.Below.gb_copies.declared.bank_covering.Known.{Known}
use Rattle.gb_relations.specs.Below.gb_copies.declared.windows.BankWindow.{BankWindow}
use Rattle.gb_relations.specs.Below.gb_copies.declared.windows.BankWindow.TheVariants.{First, Second}
use Rattle.gb_relations.specs.Below.gb_copies.BankCovering.{IsKnown}
use Rattle.gb_relations.specs.Below.gb_copies.Fitting.{HoldsShadow, WithinSome, fitting}
use Rattle.gb_relations.specs.Below.gb_copies.ShadowMeaning.{IsShadow, AreShadows}
use Rattle.gb_relations.specs.Below.gb_copies.Windows.{has_windows, register_of}
use Rattle.gb_relations.proofs.Below.gb_copies_laws.FittingLaws.{fitting_sound}
use Rattle.gb_relations.proofs.Below.gb_copies_laws.RegisterLaws.{not_so}
use Rattle.gb_ram_bounds.proofs.FillLaws.{In-bounds}
use Rattle.gb_summaries.specs.Known.{HoldsKnown}
use Rattle.gb_summaries.specs.Meaning.{HoldSummary}
use Rattle.gb_summaries.specs.Reducing.{shadows_of, has_shadow, values_if, values_of_places, cut_by_shadows, reduced_window, IsSoundReducing}
use Rattle.gb_summaries.proofs.CoveringLaws.{IsKnown-known}

-- ---- places

-- some byte shadows the register
record HasShadow (k : Kind) (which : BankWindow) (r : Banks) : Type 0 where
  byte : ℕ
  small : byte < 256
  shadow : IsShadow k which byte r

any_In : (x : ℕ) → x < 256 → In any_byte x
any_In x h = In-bounds 0 255 x (omega arith) (omega arith)

HoldsShadow-if :
    (k : Kind) (which : BankWindow) (r : Banks) (b : Bool) (v : StridedInterval) (x : ℕ)
    → HasShadow k which r → In v x → (b ≡ true → IsShadow k which x r) → HoldsShadow k which r (values_if b v)
HoldsShadow-if k which r true v x some m shadow = record { byte = x; is_in = m; shadow = shadow refl }
HoldsShadow-if k which r false v x some m shadow = record { byte = some.byte; is_in = any_In some.byte some.small; shadow = some.shadow }

HoldsShadow-address :
    (k : Kind) (which : BankWindow) (r : Banks) (o : Option ℕ) (v : StridedInterval) (memory : ℕ → ℕ)
    → HasShadow k which r → ((a : ℕ) → o ≡ Some a → In v (memory a)) → ((a : ℕ) → o ≡ Some a → IsShadow k which (memory a) r)
    → HoldsShadow k which r (values_if (is_some o) v)
HoldsShadow-address k which r None v memory some m shadow =
    record { byte = some.byte; is_in = any_In some.byte some.small; shadow = some.shadow }
HoldsShadow-address k which r (Some a) v memory some m shadow = record { byte = memory a; is_in = m a refl; shadow = shadow a refl }

HasShadow-register :
    (k : Kind) (which : BankWindow) (t : Shadows) (x : Registers ℕ) (memory : ℕ → ℕ) (r : Banks) (q : Register)
    → AreBytes x → AreShadows k which t x memory r → get q t.registers ≡ true → HasShadow k which r
HasShadow-register k which t x memory r q bytes h e = record { byte = get q x; small = bytes.each q; shadow = h.registers q e }

HasShadow-address :
    (k : Kind) (which : BankWindow) (t : Shadows) (x : Registers ℕ) (memory : ℕ → ℕ) (r : Banks) (o : Option ℕ)
    → ((a : ℕ) → memory a < 256) → AreShadows k which t x memory r → t.address ≡ o → is_some o ≡ true → HasShadow k which r
HasShadow-address k which t x memory r None small h is e = not_so e
HasShadow-address k which t x memory r (Some a) small h is e = record { byte = memory a; small = small a; shadow = h.address a is }

HasShadow-some :
    (k : Kind) (which : BankWindow) (t : Shadows) (x : Registers ℕ) (memory : ℕ → ℕ) (r : Banks)
    → AreBytes x → ((a : ℕ) → memory a < 256) → AreShadows k which t x memory r → has_shadow t ≡ true → HasShadow k which r
HasShadow-some k which t x memory r bytes small h e =
    by_bits t.registers.a t.registers.b t.registers.c t.registers.d t.registers.e t.registers.h t.registers.l refl refl refl refl refl refl refl e
  where
    at : (q : Register) → get q t.registers ≡ true → HasShadow k which r
    at q = HasShadow-register k which t x memory r q bytes h

    by_bits :
        (a b c d f g l : Bool)
        → t.registers.a ≡ a → t.registers.b ≡ b → t.registers.c ≡ c → t.registers.d ≡ d → t.registers.e ≡ f → t.registers.h ≡ g → t.registers.l ≡ l
        → (a || b || c || d || f || g || l || is_some t.address) ≡ true → HasShadow k which r
    by_bits true b c d f g l p q s u v w z y = at A p
    by_bits false true c d f g l p q s u v w z y = at B q
    by_bits false false true d f g l p q s u v w z y = at C s
    by_bits false false false true f g l p q s u v w z y = at D u
    by_bits false false false false true g l p q s u v w z y = at E v
    by_bits false false false false false true l p q s u v w z y = at H w
    by_bits false false false false false false true p q s u v w z y = at L z
    by_bits false false false false false false false p q s u v w z y = HasShadow-address k which t x memory r t.address small h refl y

-- ---- the register

HoldShadows-places :
    (k : Kind) (which : BankWindow) (known : Known) (t : Shadows) (x : Registers ℕ) (memory : ℕ → ℕ) (r : Banks)
    → HasShadow k which r → IsKnown k which known t x memory r → AreShadows k which t x memory r
    → AllByRecursion (HoldsShadow k which r) (values_of_places known t)
HoldShadows-places k which known t x memory r some i h =
    (at A, (at B, (at C, (at D, (at E, (at H, (at L, (HoldsShadow-address k which r t.address known.memory memory some i.byte h.address, tt))))))))
  where
    at : (q : Register) → HoldsShadow k which r (values_if (get q t.registers) (get q known.registers))
    at q = HoldsShadow-if k which r (get q t.registers) (get q known.registers) (get q x) some (i.registers q) (h.registers q)

Within-cut :
    (k : Kind) (which : BankWindow) (known : Known) (t : Shadows) (x : Registers ℕ) (memory : ℕ → ℕ) (r : Banks)
    → AreBytes x → ((a : ℕ) → memory a < 256) → IsKnown k which known t x memory r → AreShadows k which t x memory r
    → WithinSome (cut_by_shadows k which known t) (register_of k which r)
Within-cut k which known t x memory r bytes small i h = choose (has_windows k && has_shadow t) refl
  where
    choose :
        (b : Bool) → (has_windows k && has_shadow t) ≡ b
        → WithinSome (cond b (fitting k which (values_of_places known t) known.bounds.first known.bounds.last) (Some known.bounds)) (register_of k which r)
    choose true e =
        let both = and_parts (has_windows k) (has_shadow t) e in
        (fitting_sound k which (values_of_places known t) known.bounds.first known.bounds.last _ refl).gives r both.0
        (HoldShadows-places k which known t x memory r (HasShadow-some k which t x memory r bytes small h both.1) i h) i.least i.greatest
    choose false e = (i.least, i.greatest)

AreShadows-of :
    (program : Program) (which : BankWindow) (cells : List Cell) (s : SummaryParts) (p : Processor) (memory : ℕ → ℕ) (banks : Banks)
    → HoldSummary program cells s p memory banks → AreShadows program.kind which (shadows_of which s) p.registers memory banks
AreShadows-of program First cells s p memory banks h = h.first
AreShadows-of program Second cells s p memory banks h = h.second

Within-reduced :
    (program : Program) (which : BankWindow) (v : Values) (c : Ctl) (cells : List Cell) (s : SummaryParts) (p : Processor) (memory : ℕ → ℕ) (banks : Banks)
    → AreBytes p.registers → HoldsKnown program v c cells s p memory banks
    → WithinSome (reduced_window program which v c cells s) (register_of program.kind which banks)
unfolding reduced_window
Within-reduced program which v c cells s p memory banks bytes h =
    Within-cut program.kind which _ (shadows_of which s) p.registers memory banks bytes h.bytes
    (IsKnown-known program which v c cells s (shadows_of which s) p memory banks h) (AreShadows-of program which cells s p memory banks h.summary)

pub reduced_window_sound :
    (program : Program) (which : BankWindow) (v : Values) (c : Ctl) (cells : List Cell) (s : SummaryParts) (o : Option Bounds)
    → o ≡ reduced_window program which v c cells s → IsSoundReducing program which v c cells s o
reduced_window_sound program which v c cells s o e =
    subst (λ r. IsSoundReducing program which v c cells s r) (sym e)
    (record { gives = λ p memory banks. Within-reduced program which v c cells s p memory banks })
