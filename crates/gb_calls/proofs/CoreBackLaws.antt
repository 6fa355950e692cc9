-- The core behind a call holds of the machine, whatever the callee did.
use Rattle.std.proofs.Common.{◌≡◌, ℕ, ◌/◌, ◌%◌, ◌≤◌, Bool, true, false, ◌&&◌, cond, List, refl, sym, ◌∙◌, subst, arith}
use Rattle.std.proofs.lemmas.Bool.{and_parts}
use Rattle.std.proofs.lemmas.Bool.Decides.{nat_tests}
use Rattle.gb_ops.specs.declared.machine.Banks.{Banks}
use Rattle.gb_ops.specs.declared.op.Register.{Register}
use Rattle.gb_ops.specs.declared.op.Register.TheVariants.{A, B, C, D, E, H, L}
use Rattle.gb_ops.specs.declared.registers.Registers.{Registers}
use Rattle.gb_ops.specs.declared.registers.Flags.{Flags}
use Rattle.gb_ops.specs.Registers.{get}
use Rattle.gb_ops.specs.Play.{MState}
use Rattle.gb_domain.specs.declared.types.Origin.TheVariants as origin
use Rattle.gb_domain.specs.declared.types.Val.{Val}
use Rattle.gb_domain.specs.declared.types.Flg.{Flg}
use Rattle.gb_domain.specs.declared.types.Ctl.{Ctl}
use Rattle.gb_domain.specs.declared.types.KeptBanks.{KeptBanks}
use Rattle.gb_domain.specs.declared.types.Core.{Core}
use Rattle.gb_domain.specs.Types.{AbsState, origin_of_register}
use Rattle.gb_domain.specs.Rules.{IsCore}
use Rattle.gb_domain.specs.Summaries.{Program}
use Rattle.gb_ops.specs.declared.machine.Kind.{Kind}
use Rattle.gb_ops.specs.declared.machine.Kind.TheVariants as kind
use Rattle.gb_product.specs.Below.gb_abs.Meaning.{Activation, origin_value, Holds, HoldsFlags, IsBankKept, IsHighBankKept, KeepsBanks, HoldsLowBank, HoldsController, MeansCore}
use Rattle.gb_product.specs.Below.gb_vals.Meaning.{may_be}
use Rattle.gb_product.proofs.Below.gb_abs_effects_laws.CoreLaws.{byte-of}
use Rattle.gb_abs_memory.specs.Windows.{low_bank_least, low_bank_most}
use Rattle.gb_abs_memory.proofs.WindowLaws.{low_ends_small}
use Rattle.gb_product.proofs.Below.gb_abs_laws.OriginLaws.{origin_value-of_register}
use Rattle.gb_calls.specs.Resuming.{kept_back, whole_bank, joined_halves, bank_back, controller_back, registers_back, core_back}
use Rattle.gb_calls.specs.Told.{named, place_back}
use Rattle.gb_calls.proofs.ToldLaws.{Tells, Holds-place_back}

-- ---- registers and flags

pub both : (a b : Bool) → a ≡ true → b ≡ true → (a && b) ≡ true
both true true h i = refl
both true false h i = cc
both false b h i = cc

named_register : (program : Program) (kept : List ℕ) (s : AbsState) (r : Register) → named program kept s (origin_of_register r) ≡ get r s.core.registers
named_register program kept s A = refl
named_register program kept s B = refl
named_register program kept s C = refl
named_register program kept s D = refl
named_register program kept s E = refl
named_register program kept s H = refl
named_register program kept s L = refl

register_back :
    (program : Program) (whole : Bool) (kept : List ℕ) (s : AbsState) (x : Registers Val) (r : Register)
    → get r (registers_back program whole kept s x) ≡ place_back program whole kept s (origin_of_register r) (get r x)
register_back program whole kept s x A = refl
register_back program whole kept s x B = refl
register_back program whole kept s x C = refl
register_back program whole kept s x D = refl
register_back program whole kept s x E = refl
register_back program whole kept s x H = refl
register_back program whole kept s x L = refl

HoldsFlags-back :
    (s x : Flg) (entry called : Activation) (f : Flags)
    → HoldsFlags s entry called.entered.processor.flags → HoldsFlags x called f → HoldsFlags (cond x.is_own s x) entry f
HoldsFlags-back s x entry called f m h = choose x.is_own refl
  where
    choose : (b : Bool) → x.is_own ≡ b → HoldsFlags (cond b s x) entry f
    choose true is = subst (λ g. HoldsFlags s entry g) (sym (h.own is)) m
    choose false is =
        record { zero = h.zero; subtract = h.subtract; half_carry = h.half_carry; carry = h.carry; own = λ e. absurd (cc) }

-- ---- the controller

-- a bank whose low eight bits and ninth are what they were is what it was
same_bank : (a b : ℕ) → a % 256 ≡ b % 256 → a / 256 ≡ b / 256 → a ≡ b
same_bank a b low high = omega arith

bank_kept_twice : (k : Kind) (a b c : ℕ) → IsBankKept k a b → IsBankKept k b c → IsBankKept k a c
bank_kept_twice kind.Rom a b c h i = i ∙ h
bank_kept_twice kind.Mbc1 a b c h i = i ∙ h
bank_kept_twice kind.Mbc3 a b c h i = i ∙ h
bank_kept_twice kind.Mbc5 a b c h i = i ∙ h

high_kept_twice : (k : Kind) (a b c : ℕ) → IsHighBankKept k a b → IsHighBankKept k b c → IsHighBankKept k a c
high_kept_twice kind.Rom a b c h i = i ∙ h
high_kept_twice kind.Mbc1 a b c h i = tt
high_kept_twice kind.Mbc3 a b c h i = tt
high_kept_twice kind.Mbc5 a b c h i = i ∙ h

KeepsBanks-back :
    (k : Kind) (s x : KeptBanks) (before called b : Banks) → KeepsBanks k s before called → KeepsBanks k x called b → KeepsBanks k (kept_back s x) before b
KeepsBanks-back k s x before called b m h =
    record {
      bank = λ e. let p = and_parts _ _ e in bank_kept_twice k _ _ _ (m.bank p.1) (h.bank p.0);
      second = λ e. let p = and_parts _ _ e in h.second p.0 ∙ m.second p.1;
      gate = λ e. let p = and_parts _ _ e in h.gate p.0 ∙ m.gate p.1;
      mode = λ e. let p = and_parts _ _ e in h.mode p.0 ∙ m.mode p.1;
      high_bank = λ e. let p = and_parts _ _ e in high_kept_twice k _ _ _ (m.high_bank p.1) (h.high_bank p.0);
    }

-- a bank lies between these bounds, and its low eight bits between theirs
record IsBack (k : Kind) (bounds : ℕ × ℕ) (bank : ℕ) : Type 0 where
  least : bounds.0 ≤ bank
  most : bank ≤ bounds.1
  low : (c : Ctl) → c.bank_lo ≡ bounds.0 → c.bank_hi ≡ bounds.1 → HoldsLowBank k c bank

low_in : (c : Ctl) (n : ℕ) → c.bank_lo % 256 ≤ n → n ≤ c.bank_hi % 256 → (low_bank_least c ≤ n) × (n ≤ low_bank_most c)
unfolding low_bank_least low_bank_most
low_in c n h i = (grind (arith, nat_tests), grind (arith, nat_tests))

-- the low eight bits, and what is above them, by which of two says what they are
IsBack-halves :
    (high low : Ctl) (bank : ℕ) → high.bank_lo / 256 ≤ bank / 256 → bank / 256 ≤ high.bank_hi / 256 → low.bank_lo % 256 ≤ bank % 256 → bank % 256 ≤ low.bank_hi % 256
    → IsBack kind.Mbc5 (joined_halves high low) bank
IsBack-halves high low bank least most low_least low_most =
    let i = low_in low (bank % 256) low_least low_most in
    let first = i.0 in
    let last = i.1 in
    let small = (low_ends_small low).1 in
    let ordered = (low_ends_small low).0 in
    record {
      least = omega arith;
      most = omega arith;
      low = λ c lo hi. (
        subst (λ n. n % 256 ≤ bank % 256) (sym lo) (omega arith),
        subst (λ n. bank % 256 ≤ n % 256) (sym hi) (omega arith),
      );
    }

IsBack-bank :
    (k : Kind) (s x : Ctl) (called b : Banks) → s.bank_lo ≤ called.bank → called.bank ≤ s.bank_hi → HoldsLowBank k s called.bank
    → x.bank_lo ≤ b.bank → b.bank ≤ x.bank_hi → HoldsLowBank k x b.bank → KeepsBanks k x.kept called b → IsBack k (bank_back k s x) b.bank
unfolding bank_back
IsBack-bank kind.Rom s x called b least most low x_least x_most x_low kept = choose (x.kept.bank && x.kept.high_bank) refl
  where
    choose : (o : Bool) → (x.kept.bank && x.kept.high_bank) ≡ o → IsBack kind.Rom (whole_bank (cond o s x)) b.bank
    choose true e =
        let p = and_parts _ _ e in
        let same = same_bank b.bank called.bank (kept.bank p.0) (kept.high_bank p.1) in
        record { least = omega arith; most = omega arith; low = λ c lo hi. tt }
    choose false e = record { least = x_least; most = x_most; low = λ c lo hi. tt }
IsBack-bank kind.Mbc1 s x called b least most low x_least x_most x_low kept = choose x.kept.bank refl
  where
    choose : (o : Bool) → x.kept.bank ≡ o → IsBack kind.Mbc1 (whole_bank (cond o s x)) b.bank
    choose true e = let same = kept.bank e in record { least = omega arith; most = omega arith; low = λ c lo hi. tt }
    choose false e = record { least = x_least; most = x_most; low = λ c lo hi. tt }
IsBack-bank kind.Mbc3 s x called b least most low x_least x_most x_low kept = choose x.kept.bank refl
  where
    choose : (o : Bool) → x.kept.bank ≡ o → IsBack kind.Mbc3 (whole_bank (cond o s x)) b.bank
    choose true e = let same = kept.bank e in record { least = omega arith; most = omega arith; low = λ c lo hi. tt }
    choose false e = record { least = x_least; most = x_most; low = λ c lo hi. tt }
IsBack-bank kind.Mbc5 s x called b least most low x_least x_most x_low kept =
    IsBack-halves (cond x.kept.high_bank s x) (cond x.kept.bank s x) b.bank (high x.kept.high_bank refl).0 (high x.kept.high_bank refl).1 (below x.kept.bank refl).0 (below x.kept.bank refl).1
  where
    high : (o : Bool) → x.kept.high_bank ≡ o → ((cond o s x).bank_lo / 256 ≤ b.bank / 256) × (b.bank / 256 ≤ (cond o s x).bank_hi / 256)
    high true e = let same = kept.high_bank e in (omega arith, omega arith)
    high false e = (omega arith, omega arith)

    below : (o : Bool) → x.kept.bank ≡ o → ((cond o s x).bank_lo % 256 ≤ b.bank % 256) × (b.bank % 256 ≤ (cond o s x).bank_hi % 256)
    below true e =
        let same = kept.bank e in
        let lo = low.0 in
        let hi = low.1 in
        (omega arith, omega arith)
    below false e = x_low

HoldsController-back :
    (k : Kind) (s x : Ctl) (entry called : Activation) (b : Banks) → entry.program.kind ≡ k → called.program.kind ≡ k
    → HoldsController s entry called.entered.storage.banks → HoldsController x called b → HoldsController (controller_back k s x) entry b
HoldsController-back k s x entry called b e f m h =
    let kept = subst (λ q. KeepsBanks q x.kept called.entered.storage.banks b) f h.kept in
    let back =
    IsBack-bank k s x called.entered.storage.banks b m.bank_least m.bank_most (subst (λ q. HoldsLowBank q s called.entered.storage.banks.bank) e m.low_bank)
    h.bank_least h.bank_most (subst (λ q. HoldsLowBank q x b.bank) f h.low_bank) kept in
    record {
      bank_least = back.least;
      bank_most = back.most;
      low_bank = subst (λ q. HoldsLowBank q (controller_back k s x) b.bank) (sym e) (back.low (controller_back k s x) refl refl);
      second_least = second_least x.kept.second refl;
      second_most = second_most x.kept.second refl;
      gate = gate x.kept.gate refl;
      mode = mode x.kept.mode refl;
      kept = subst (λ q. KeepsBanks q (kept_back s.kept x.kept) entry.entered.storage.banks b) (sym e)
          (KeepsBanks-back k s.kept x.kept entry.entered.storage.banks called.entered.storage.banks b
          (subst (λ q. KeepsBanks q s.kept entry.entered.storage.banks called.entered.storage.banks) e m.kept) kept);
    }
  where
    second_least : (k : Bool) → x.kept.second ≡ k → cond k s.second_lo x.second_lo ≤ b.second
    second_least true e = subst (λ n. s.second_lo ≤ n) (sym (h.kept.second e)) m.second_least
    second_least false e = h.second_least

    second_most : (k : Bool) → x.kept.second ≡ k → b.second ≤ cond k s.second_hi x.second_hi
    second_most true e = subst (λ n. n ≤ s.second_hi) (sym (h.kept.second e)) m.second_most
    second_most false e = h.second_most

    gate : (k : Bool) → x.kept.gate ≡ k → may_be (cond k s.gate x.gate) b.gate ≡ true
    gate true e = subst (λ g. may_be s.gate g ≡ true) (sym (h.kept.gate e)) m.gate
    gate false e = h.gate

    mode : (k : Bool) → x.kept.mode ≡ k → may_be (cond k s.mode x.mode) b.mode ≡ true
    mode true e = subst (λ g. may_be s.mode g ≡ true) (sym (h.kept.mode e)) m.mode
    mode false e = h.mode

-- ---- all of it

Holds-register_back :
    (program : Program) (whole : Bool) (kept : List ℕ) (s : AbsState) (x : Core) (entry called : Activation) (y : MState) (r : Register)
    → IsCore x → Tells program whole kept s entry called → MeansCore s.core entry called.entered → MeansCore x called y
    → Holds (get r (registers_back program whole kept s x.registers)) entry (get r y.processor.registers)
Holds-register_back program whole kept s x entry called y r is t m h =
    let before : Holds (named program kept s (origin_of_register r)) entry (origin_value (origin_of_register r) called) =
    subst (λ v. Holds v entry (origin_value (origin_of_register r) called)) (sym (named_register program kept s r))
    (subst (λ n. Holds (get r s.core.registers) entry n) (sym (origin_value-of_register r called)) (m.registers r)) in
    subst (λ v. Holds v entry (get r y.processor.registers)) (sym (register_back program whole kept s x.registers r))
    (Holds-place_back program whole kept s (origin_of_register r) (get r x.registers) entry called (get r y.processor.registers) t before
    (byte-of (get r x.registers) called (get r y.processor.registers) (is.registers r) (h.registers r)) (h.registers r))

pub MeansCore-resumed :
    (program : Program) (whole : Bool) (kept : List ℕ) (s : AbsState) (x : Core) (entry called : Activation) (y : MState)
    → entry.program.kind ≡ program.kind → called.program.kind ≡ program.kind → IsCore x → Tells program whole kept s entry called
    → MeansCore s.core entry called.entered → MeansCore x called y → MeansCore (core_back program whole kept s x) entry y
MeansCore-resumed program whole kept s x entry called y e f is t m h =
    record {
      registers = λ r. Holds-register_back program whole kept s x entry called y r is t m h;
      flags = HoldsFlags-back s.core.flags x.flags entry called y.processor.flags m.flags h.flags;
      ie = Holds-place_back program whole kept s origin.Ie x.ie entry called y.storage.ie t m.ie (byte-of x.ie called y.storage.ie is.ie h.ie) h.ie;
      ime = h.ime;
      controller = HoldsController-back program.kind s.core.ctl x.ctl entry called y.storage.banks e f m.controller h.controller;
      count = h.count;
      locked = h.locked;
      stopped = h.stopped;
    }
