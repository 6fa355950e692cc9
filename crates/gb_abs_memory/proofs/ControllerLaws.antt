-- A store to each window of each controller.
use Rattle.std.proofs.Common.{◌≡◌, ℕ, suc, ◌%◌, ◌≤◌, Bool, true, false, cond, ◌==◌, List, [], ◌∷◌, Option, Some, None, refl, sym, subst, arith}
use Rattle.std.proofs.lemmas.Option.{same_Some}
use Rattle.std.proofs.lemmas.Bool.Decides.{nat_tests}
use Rattle.std.specs.List.{AllByRecursion, Contains}
use Rattle.gb_ops.specs.declared.machine.Banks.{Banks}
use Rattle.gb_ops.specs.declared.machine.Kind.{Kind}
use Rattle.gb_ops.specs.declared.machine.Kind.TheVariants as kind
use Rattle.gb_ops.specs.Cartridge.{at_least_one, kind_after, mbc1_after, mbc3_after, mbc5_after, with_gate}
use Rattle.gb_domain.specs.declared.types.Val.{Val}
use Rattle.gb_domain.specs.declared.types.Ctl.{Ctl}
use Rattle.gb_domain.specs.declared.types.KeptBanks.{KeptBanks}
use Rattle.gb_domain.specs.Rules.{IsVal, IsCtl}
use Rattle.gb_abs.specs.Below.gb_vals.Meaning.{InBounds}
use Rattle.gb_abs.specs.Meaning.{HoldsLowBank, KeepsBanks}
use Rattle.gb_abs.proofs.OriginLaws.{nothing_kept, HoldsLowBank-bounds}
use Rattle.gb_abs_memory.specs.declared.windows.ControllerRegister.{ControllerRegister}
use Rattle.gb_abs_memory.specs.declared.windows.ControllerRegister.TheVariants as register
use Rattle.gb_abs_memory.specs.declared.windows.Window.{Window}
use Rattle.gb_abs_memory.specs.Windows.{windows, window, gate_after, mode_after, low_bank_after, ctl_after, high_half_after, low_bank_least, low_bank_most, ctl_by, ctl_written, known_kind, kept_after, IsAddressOf, IsSoundKeeping, IsSoundWriting, InCtl, InHalves, IsWrittenAlone, IsSoundWrite, IsLeast, IsLeastWrite}
use Rattle.gb_abs_memory.specs.Windows.{window_of, holds}
use Rattle.gb_abs.specs.declared.span.Span.{Span}
use Rattle.gb_abs.specs.Span.{IsIn}
use Rattle.std.specs.List.{find}
use Rattle.std.proofs.lemmas.List.Elements.{All-from_recursion}
use Rattle.gb_abs_memory.proofs.WindowLaws.{IsRight, IsSound, IsWrite, after_window, kept_in, gate_keeps, mode_keeps, second_keeps, mbc1_keeps, mbc3_keeps, low_keeps, high_keeps, nothing_keeps, is_right, write_gate, write_mode, write_bank, write_second, gate_sound, gate_least, gate_holds, gate_reached, mode_sound, mode_least, mode_holds, mode_reached, bank_cut_sound, bank_cut_least, second_cut_sound, second_cut_least, low_written, low_sound, low_least, high_written, high_sound, high_least, high_half_sound, some_banks, some_within, within, least_in, ctl_after-valid}

nothing_sound : (v : Val) (c : Ctl) → IsSound (λ old n. old) v c c
nothing_sound v c = record { gives = λ n old w i byte. w }

nothing_least : (v : Val) (c : Ctl) → IsVal v → IsCtl c → IsLeast (λ old n. old) v c c
nothing_least v c q k =
    let some = some_within c k in
    let others = within c k in
    let i = least_in v q in
    record {
      bank_lo = record { old = some_banks c; byte = v.lo; within = some; stored = i; after = refl };
      bank_hi = record { old = _; byte = v.lo; within = others.bank c.bank_hi k.bank (omega arith); stored = i; after = refl };
      second_lo = record { old = some_banks c; byte = v.lo; within = some; stored = i; after = refl };
      second_hi = record { old = _; byte = v.lo; within = others.second c.second_hi k.second (omega arith); stored = i; after = refl };
      gate = λ b may. record { old = _; byte = v.lo; within = others.gate b may; stored = i; after = refl };
      mode = λ b may. record { old = _; byte = v.lo; within = others.mode b may; stored = i; after = refl };
    }

rom_whole : IsRight kind.Rom (window 0x0000 0x7FFF None)
rom_whole = is_right kind.Rom (window 0x0000 0x7FFF None) (λ old n. old) (λ a n old first last byte. refl) nothing_sound nothing_least (nothing_keeps _)

mbc1_gate : IsRight kind.Mbc1 (window 0x0000 0x1FFF (Some register.Gate))
unfolding mbc1_after ctl_after
mbc1_gate =
    is_right kind.Mbc1 (window 0x0000 0x1FFF (Some register.Gate)) with_gate (λ a n old first last byte. grind (arith, nat_tests))
    (λ v c. gate_sound (λ n. n % 16 == 10) (gate_after v) v c (gate_holds v))
    (λ v c q k. gate_least (λ n. n % 16 == 10) (gate_after v) v c q k (gate_reached v q)) (gate_keeps _ _)

mbc1_bank : IsRight kind.Mbc1 (window 0x2000 0x3FFF (Some register.Bank))
unfolding mbc1_after ctl_after
mbc1_bank =
    is_right kind.Mbc1 (window 0x2000 0x3FFF (Some register.Bank)) (write_bank (λ b n. at_least_one (n % 32))) (λ a n old first last byte. grind (arith, nat_tests))
    (λ v c. bank_cut_sound 32 v c (omega arith)) (λ v c. bank_cut_least 32 v c (omega arith)) (mbc1_keeps _)

mbc1_second : IsRight kind.Mbc1 (window 0x4000 0x5FFF (Some register.Second))
unfolding mbc1_after ctl_after
mbc1_second =
    is_right kind.Mbc1 (window 0x4000 0x5FFF (Some register.Second)) (write_second (λ n. n % 4)) (λ a n old first last byte. grind (arith, nat_tests))
    (λ v c. second_cut_sound 4 v c (omega arith)) (λ v c. second_cut_least 4 v c (omega arith)) (second_keeps _ _)

mbc1_mode : IsRight kind.Mbc1 (window 0x6000 0x7FFF (Some register.Mode))
unfolding mbc1_after ctl_after
mbc1_mode =
    is_right kind.Mbc1 (window 0x6000 0x7FFF (Some register.Mode)) (write_mode (λ n. n % 2 == 1)) (λ a n old first last byte. grind (arith, nat_tests))
    (λ v c. mode_sound (λ n. n % 2 == 1) (mode_after v) v c (mode_holds v))
    (λ v c q k. mode_least (λ n. n % 2 == 1) (mode_after v) v c q k (mode_reached v q)) (mode_keeps _ _)

mbc3_gate : IsRight kind.Mbc3 (window 0x0000 0x1FFF (Some register.Gate))
unfolding mbc3_after ctl_after
mbc3_gate =
    is_right kind.Mbc3 (window 0x0000 0x1FFF (Some register.Gate)) with_gate (λ a n old first last byte. grind (arith, nat_tests))
    (λ v c. gate_sound (λ n. n % 16 == 10) (gate_after v) v c (gate_holds v))
    (λ v c q k. gate_least (λ n. n % 16 == 10) (gate_after v) v c q k (gate_reached v q)) (gate_keeps _ _)

mbc3_bank : IsRight kind.Mbc3 (window 0x2000 0x3FFF (Some register.Bank))
unfolding mbc3_after ctl_after
mbc3_bank =
    is_right kind.Mbc3 (window 0x2000 0x3FFF (Some register.Bank)) (write_bank (λ b n. at_least_one (n % 128))) (λ a n old first last byte. grind (arith, nat_tests))
    (λ v c. bank_cut_sound 128 v c (omega arith)) (λ v c. bank_cut_least 128 v c (omega arith)) (mbc3_keeps _)

mbc3_second : IsRight kind.Mbc3 (window 0x4000 0x5FFF (Some register.Second))
unfolding mbc3_after ctl_after
mbc3_second =
    is_right kind.Mbc3 (window 0x4000 0x5FFF (Some register.Second)) (write_second (λ n. n % 256)) (λ a n old first last byte. grind (arith, nat_tests))
    (λ v c. second_cut_sound 256 v c (omega arith)) (λ v c. second_cut_least 256 v c (omega arith)) (second_keeps _ _)

mbc3_rest : IsRight kind.Mbc3 (window 0x6000 0x7FFF None)
unfolding mbc3_after ctl_after
mbc3_rest =
    is_right kind.Mbc3 (window 0x6000 0x7FFF None) (λ old n. old) (λ a n old first last byte. grind (arith, nat_tests)) nothing_sound nothing_least (nothing_keeps _)

mbc5_gate : IsRight kind.Mbc5 (window 0x0000 0x1FFF (Some register.Gate))
unfolding mbc5_after ctl_after
mbc5_gate =
    is_right kind.Mbc5 (window 0x0000 0x1FFF (Some register.Gate)) with_gate (λ a n old first last byte. grind (arith, nat_tests))
    (λ v c. gate_sound (λ n. n % 16 == 10) (gate_after v) v c (gate_holds v))
    (λ v c q k. gate_least (λ n. n % 16 == 10) (gate_after v) v c q k (gate_reached v q)) (gate_keeps _ _)

mbc5_low : IsRight kind.Mbc5 (window 0x2000 0x2FFF (Some register.LowBank))
unfolding mbc5_after ctl_after
mbc5_low =
    is_right kind.Mbc5 (window 0x2000 0x2FFF (Some register.LowBank)) (write_bank low_written) (λ a n old first last byte. grind (arith, nat_tests)) low_sound low_least low_keeps

mbc5_high : IsRight kind.Mbc5 (window 0x3000 0x3FFF (Some register.HighBank))
unfolding mbc5_after ctl_after
mbc5_high =
    is_right kind.Mbc5 (window 0x3000 0x3FFF (Some register.HighBank)) (write_bank high_written) (λ a n old first last byte. grind (arith, nat_tests)) high_sound high_least high_keeps

mbc5_second : IsRight kind.Mbc5 (window 0x4000 0x5FFF (Some register.Second))
unfolding mbc5_after ctl_after
mbc5_second =
    is_right kind.Mbc5 (window 0x4000 0x5FFF (Some register.Second)) (write_second (λ n. n % 16)) (λ a n old first last byte. grind (arith, nat_tests))
    (λ v c. second_cut_sound 16 v c (omega arith)) (λ v c. second_cut_least 16 v c (omega arith)) (second_keeps _ _)

mbc5_rest : IsRight kind.Mbc5 (window 0x6000 0x7FFF None)
unfolding mbc5_after ctl_after
mbc5_rest =
    is_right kind.Mbc5 (window 0x6000 0x7FFF None) (λ old n. old) (λ a n old first last byte. grind (arith, nat_tests)) nothing_sound nothing_least (nothing_keeps _)

all_right : (k : Kind) → AllByRecursion (IsRight k) (windows k)
unfolding windows
all_right kind.Rom = (rom_whole, tt)
all_right kind.Mbc1 = (mbc1_gate, (mbc1_bank, (mbc1_second, (mbc1_mode, tt))))
all_right kind.Mbc3 = (mbc3_gate, (mbc3_bank, (mbc3_second, (mbc3_rest, tt))))
all_right kind.Mbc5 = (mbc5_gate, (mbc5_low, (mbc5_high, (mbc5_second, (mbc5_rest, tt)))))

-- a window without a register
abbrev IsIdle : Kind → Window → Type 0
IsIdle k w = (a n : ℕ) (old : Banks) → w.first ≤ a → a ≤ w.last → w.register ≡ None → kind_after k old a n ≡ old

busy : (k : Kind) (first last : ℕ) (r : ControllerRegister) → IsIdle k (window first last (Some r))
busy k first last r = λ a n old low high e. absurd (let bad : Some r ≡ None = e in cc)

mbc3_idle : IsIdle kind.Mbc3 (window 0x6000 0x7FFF None)
unfolding mbc3_after
mbc3_idle = λ a n old first last e. grind (arith, nat_tests)

mbc5_idle : IsIdle kind.Mbc5 (window 0x6000 0x7FFF None)
unfolding mbc5_after
mbc5_idle = λ a n old first last e. grind (arith, nat_tests)

all_idle : (k : Kind) → AllByRecursion (IsIdle k) (windows k)
unfolding windows
all_idle kind.Rom = (λ a n old first last e. refl, tt)
all_idle kind.Mbc1 = (busy kind.Mbc1 _ _ _, (busy kind.Mbc1 _ _ _, (busy kind.Mbc1 _ _ _, (busy kind.Mbc1 _ _ _, tt))))
all_idle kind.Mbc3 = (busy kind.Mbc3 _ _ _, (busy kind.Mbc3 _ _ _, (busy kind.Mbc3 _ _ _, (mbc3_idle, tt))))
all_idle kind.Mbc5 = (busy kind.Mbc5 _ _ _, (busy kind.Mbc5 _ _ _, (busy kind.Mbc5 _ _ _, (busy kind.Mbc5 _ _ _, (mbc5_idle, tt)))))

-- ---- what the contract promises

right_in : (k : Kind) (w : Window) → Contains (windows k) w → IsRight k w
right_in k w c = subst (IsRight k) c.2 (All-from_recursion (IsRight k) (windows k) (all_right k) c.0 w c.1)

pub ctl_after-sound : (k : Kind) (r : ControllerRegister) (v : Val) (c : Ctl) → IsSoundWrite k r v c (ctl_after k r v c)
ctl_after-sound k r v c = record {
  gives = λ a n old at m i byte.
      subst (λ o. InCtl (after_window k o v c) (kind_after k old a n)) at.register
      ((right_in k at.window at.is_window).sound a n v c old at.first at.last m i byte);
}

pub ctl_after-least : (k : Kind) (r : ControllerRegister) (v : Val) (c : Ctl) → IsVal v → IsCtl c → IsLeastWrite k r v c (ctl_after k r v c)
ctl_after-least k r v c q h = record {
  reached = λ a at.
      subst (λ o. IsLeast (λ old n. kind_after k old a n) v c (after_window k o v c)) at.register
      ((right_in k at.window at.is_window).least a v c at.first at.last q h);
}

pub ctl_after-alone : (k : Kind) (r : ControllerRegister) (v : Val) (c : Ctl) → IsWrittenAlone r c (ctl_after k r v c)
unfolding ctl_after
ctl_after-alone k register.Gate v c = refl
ctl_after-alone k register.Bank v c = refl
ctl_after-alone k register.LowBank v c = refl
ctl_after-alone k register.HighBank v c = refl
ctl_after-alone k register.Second v c = refl
ctl_after-alone k register.Mode v c = refl

pub kept_after_sound : (w : Bool) (r : ControllerRegister) (kept after : KeptBanks) → after ≡ kept_after w r kept → IsSoundKeeping w r kept after
kept_after_sound w r kept after e = record { gives = λ k a n before old at byte m. subst (λ p. KeepsBanks (known_kind w k) p before (kind_after k old a n)) (sym e) (by w k a n before old at byte m) }
  where
    by : (w : Bool) (k : Kind) (a n : ℕ) (before old : Banks) → IsAddressOf k r a → n ≤ 255 → KeepsBanks (known_kind w k) kept before old → KeepsBanks (known_kind w k) (kept_after w r kept) before (kind_after k old a n)
    by false k a n before old at byte m = nothing_kept kind.Rom before _
    by true k a n before old at byte m =
        subst (λ o. KeepsBanks k (kept_in o kept) before (kind_after k old a n)) at.register
        ((right_in k at.window at.is_window).keeps a n kept before old at.first at.last byte m)

-- ---- by the rules of version 4

-- the registers after a store to a window
abbrev after_by : Bool → Kind → Option ControllerRegister → Val → Ctl → Ctl
after_by w k None v c = c
after_by w k (Some r) v c = ctl_by w k r v c

-- a store to a window leaves registers within the bounds, where the halves of MBC5's bank have their own
abbrev IsHalvesRight : Kind → Window → Type 0
IsHalvesRight k w =
    (a n : ℕ) (v : Val) (c : Ctl) (old : Banks) → w.first ≤ a → a ≤ w.last → InHalves k c old → InBounds v n → n ≤ 255 → v.hi ≤ 255
    → InHalves k (after_by true k w.register v c) (kind_after k old a n)

rom_halves : IsHalvesRight kind.Rom (window 0x0000 0x7FFF None)
rom_halves = λ a n v c old first last m i byte hi. m

-- where the bank is one register
one_register :
    (k : Kind) (w : Window) → IsRight k w → ((c : Ctl) (b : ℕ) → HoldsLowBank k c b) → ((v : Val) (c : Ctl) → after_by true k w.register v c ≡ after_window k w.register v c)
    → IsHalvesRight k w
one_register k w right any same = λ a n v c old first last m i byte hi. record {
  within = subst (λ d. InCtl d (kind_after k old a n)) (sym (same v c)) (right.sound a n v c old first last m.within i byte);
  low = any (after_by true k w.register v c) _;
}

mbc1_halves : AllByRecursion (IsHalvesRight kind.Mbc1) (windows kind.Mbc1)
unfolding windows ctl_by
mbc1_halves = (
  one_register kind.Mbc1 _ mbc1_gate (λ c b. tt) (λ v c. refl),
  (
    one_register kind.Mbc1 _ mbc1_bank (λ c b. tt) (λ v c. refl),
    (one_register kind.Mbc1 _ mbc1_second (λ c b. tt) (λ v c. refl), (one_register kind.Mbc1 _ mbc1_mode (λ c b. tt) (λ v c. refl), tt)),
  ),
)

mbc3_halves : AllByRecursion (IsHalvesRight kind.Mbc3) (windows kind.Mbc3)
unfolding windows ctl_by
mbc3_halves = (
  one_register kind.Mbc3 _ mbc3_gate (λ c b. tt) (λ v c. refl),
  (
    one_register kind.Mbc3 _ mbc3_bank (λ c b. tt) (λ v c. refl),
    (one_register kind.Mbc3 _ mbc3_second (λ c b. tt) (λ v c. refl), (one_register kind.Mbc3 _ mbc3_rest (λ c b. tt) (λ v c. refl), tt)),
  ),
)

-- a store that leaves MBC5's bank
bank_stays :
    (w : Window) → IsRight kind.Mbc5 w → ((a n : ℕ) (old : Banks) → w.first ≤ a → a ≤ w.last → (kind_after kind.Mbc5 old a n).bank ≡ old.bank)
    → ((v : Val) (c : Ctl) → after_by true kind.Mbc5 w.register v c ≡ after_window kind.Mbc5 w.register v c)
    → ((v : Val) (c : Ctl) → (after_window kind.Mbc5 w.register v c).bank_lo ≡ c.bank_lo) → ((v : Val) (c : Ctl) → (after_window kind.Mbc5 w.register v c).bank_hi ≡ c.bank_hi)
    → IsHalvesRight kind.Mbc5 w
bank_stays w right stays same lo hi = λ a n v c old first last m i byte most. record {
  within = subst (λ d. InCtl d (kind_after kind.Mbc5 old a n)) (sym (same v c)) (right.sound a n v c old first last m.within i byte);
  low = subst (λ d. HoldsLowBank kind.Mbc5 d (kind_after kind.Mbc5 old a n).bank) (sym (same v c))
      (subst (λ b. HoldsLowBank kind.Mbc5 (after_window kind.Mbc5 w.register v c) b) (sym (stays a n old first last))
      (HoldsLowBank-bounds kind.Mbc5 c (after_window kind.Mbc5 w.register v c) old.bank (sym (lo v c)) (sym (hi v c)) m.low));
}

low_halves : IsHalvesRight kind.Mbc5 (window 0x2000 0x2FFF (Some register.LowBank))
unfolding ctl_by ctl_after mbc5_after
low_halves = λ a n v c old first last m i byte most. record {
  within = mbc5_low.sound a n v c old first last m.within i byte;
  low =
      let is : (kind_after kind.Mbc5 old a n).bank ≡ low_written old.bank n = grind (arith, nat_tests) in
      let least = i.least in
      let greatest = i.most in
      subst (λ b. HoldsLowBank kind.Mbc5 (low_bank_after v c) b) (sym is) (omega arith, omega arith);
}

high_halves : IsHalvesRight kind.Mbc5 (window 0x3000 0x3FFF (Some register.HighBank))
unfolding ctl_by low_bank_least low_bank_most mbc5_after
high_halves = λ a n v c old first last m i byte most.
    let is : kind_after kind.Mbc5 old a n ≡ write_bank high_written old n = grind (arith, nat_tests) in
    subst (λ r. InHalves kind.Mbc5 (high_half_after v c) r) (sym is) (high_half_sound v c old n m i)

mbc5_halves : AllByRecursion (IsHalvesRight kind.Mbc5) (windows kind.Mbc5)
unfolding windows ctl_by ctl_after mbc5_after
mbc5_halves = (
  bank_stays _ mbc5_gate (λ a n old first last. grind (arith, nat_tests)) (λ v c. refl) (λ v c. refl) (λ v c. refl),
  (
    low_halves,
    (
      high_halves,
      (
        bank_stays _ mbc5_second (λ a n old first last. grind (arith, nat_tests)) (λ v c. refl) (λ v c. refl) (λ v c. refl),
        (bank_stays _ mbc5_rest (λ a n old first last. grind (arith, nat_tests)) (λ v c. refl) (λ v c. refl) (λ v c. refl), tt),
      ),
    ),
  ),
)

all_halves : (k : Kind) → AllByRecursion (IsHalvesRight k) (windows k)
unfolding windows
all_halves kind.Rom = (rom_halves, tt)
all_halves kind.Mbc1 = mbc1_halves
all_halves kind.Mbc3 = mbc3_halves
all_halves kind.Mbc5 = mbc5_halves

halves_in : (k : Kind) (w : Window) → Contains (windows k) w → IsHalvesRight k w
halves_in k w c = subst (IsHalvesRight k) c.2 (All-from_recursion (IsHalvesRight k) (windows k) (all_halves k) c.0 w c.1)

-- ---- the window that all addresses lie in

found : (p : Window → Bool) (ws : List Window) (w : Window) → find p ws ≡ Some w → Contains ws w × (p w ≡ true)
found p [] w h = absurd cc
found p (x ∷ xs) w h = choose (p x) refl h (λ e. found p xs w e)
  where
    choose : (b : Bool) → p x ≡ b → cond b (Some x) (find p xs) ≡ Some w → (find p xs ≡ Some w → Contains xs w × (p w ≡ true)) → Contains (x ∷ xs) w × (p w ≡ true)
    choose true e h more = let same = same_Some x w h in ((0, omega arith, same), subst (λ y. p y ≡ true) same e)
    choose false e h more =
        let rest = more h in
        let c = rest.0 in
        let below = c.1 in
        ((suc c.0, omega arith, c.2), rest.1)

-- an address of a span lies in its window
pub record IsInWindow (k : Kind) (w : Window) (a : ℕ) : Type 0 where
  pub is_window : Contains (windows k) w
  pub first : w.first ≤ a
  pub last : a ≤ w.last

pub IsInWindow-window_of : (k : Kind) (s : Span) (w : Window) (a : ℕ) → window_of k s ≡ Some w → IsIn s a → IsInWindow k w a
unfolding window_of
IsInWindow-window_of k s w a h i =
    let p = found (holds s) (windows k) w h in
    let inside : holds s w ≡ true = p.1 in
    let least = i.first in
    let most = i.last in
    record { is_window = p.0; first = grind (arith, nat_tests); last = grind (arith, nat_tests) }

-- a store of a byte to an address of a window
pub window-sound :
    (k : Kind) (w : Window) (a n : ℕ) (v : Val) (c : Ctl) (old : Banks) → IsInWindow k w a → InCtl c old → InBounds v n → n ≤ 255
    → InCtl (after_window k w.register v c) (kind_after k old a n)
window-sound k w a n v c old at m i byte = (right_in k w at.is_window).sound a n v c old at.first at.last m i byte

by_none : (k : Kind) (o : Option ControllerRegister) (v : Val) (c : Ctl) → after_by false k o v c ≡ after_window k o v c
unfolding ctl_by
by_none k None v c = refl
by_none k (Some r) v c = refl

-- the same, by the rules of the version
pub window-halves :
    (whole : Bool) (k : Kind) (w : Window) (a n : ℕ) (v : Val) (c : Ctl) (old : Banks) → IsInWindow k w a → InHalves (known_kind whole k) c old → InBounds v n → n ≤ 255 → v.hi ≤ 255
    → InHalves (known_kind whole k) (after_by whole k w.register v c) (kind_after k old a n)
window-halves true k w a n v c old at m i byte hi = halves_in k w at.is_window a n v c old at.first at.last m i byte hi
window-halves false k w a n v c old at m i byte hi = record {
  within = subst (λ d. InCtl d (kind_after k old a n)) (sym (by_none k w.register v c)) (window-sound k w a n v c old at m.within i byte);
  low = tt;
}

written_bounds : (whole : Bool) (k : Kind) (r : ControllerRegister) (v : Val) (c : Ctl) (kind : Kind) (b : Banks) → InHalves kind (ctl_by whole k r v c) b → InHalves kind (ctl_written whole k r v c) b
written_bounds whole k r v c kind b h = record {
  within = record {
    bank_least = h.within.bank_least;
    bank_most = h.within.bank_most;
    second_least = h.within.second_least;
    second_most = h.within.second_most;
    gate = h.within.gate;
    mode = h.within.mode;
  };
  low = HoldsLowBank-bounds kind (ctl_by whole k r v c) (ctl_written whole k r v c) b.bank refl refl h.low;
}

pub window-written :
    (whole : Bool) (k : Kind) (w : Window) (a n : ℕ) (v : Val) (c : Ctl) (old : Banks) (r : ControllerRegister) → IsInWindow k w a → w.register ≡ Some r
    → InHalves (known_kind whole k) c old → InBounds v n → n ≤ 255 → v.hi ≤ 255
    → InHalves (known_kind whole k) (ctl_written whole k r v c) (kind_after k old a n)
window-written whole k w a n v c old r at is m i byte hi =
    written_bounds whole k r v c (known_kind whole k) (kind_after k old a n)
    (subst (λ o. InHalves (known_kind whole k) (after_by whole k o v c) (kind_after k old a n)) is (window-halves whole k w a n v c old at m i byte hi))

pub ctl_written_sound : (whole : Bool) (k : Kind) (r : ControllerRegister) (v : Val) (c after : Ctl) → after ≡ ctl_written whole k r v c → IsSoundWriting whole k r v c after
ctl_written_sound whole k r v c after e = record {
  gives = λ a n old at m i byte hi.
      subst (λ d. InHalves (known_kind whole k) d (kind_after k old a n)) (sym e)
      (window-written whole k at.window a n v c old r (record { is_window = at.is_window; first = at.first; last = at.last }) at.register m i byte hi);
}

-- without a register nothing changes
pub window-nothing : (k : Kind) (w : Window) (a n : ℕ) (old : Banks) → IsInWindow k w a → w.register ≡ None → kind_after k old a n ≡ old
window-nothing k w a n old at none = subst (IsIdle k) at.is_window.2 (All-from_recursion (IsIdle k) (windows k) (all_idle k) at.is_window.0 w at.is_window.1) a n old at.first at.last none

pub ruleset ctl_after_laws = (ctl_after-sound, ctl_after-least, ctl_after-alone, ctl_after-valid)
