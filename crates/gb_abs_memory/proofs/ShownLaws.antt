-- A bank that is known is shown whatever the controller's registers are, and where none is known no one bank is.
use Rattle.std.proofs.Common.{◌≡◌, ℕ, zero, suc, ◌+◌, ◌*◌, ◌%◌, ◌^◌, ◌<◌, ◌≤◌, Bool, true, false, not, ◌&&◌, ◌||◌, ◌==◌, nat_lt, nat_le, if◌then◌else◌, ◌⊎◌, inl, inr, List, Option, Some, None, refl, sym, ◌∙◌, ap, subst, arith}
use Rattle.std.proofs.lemmas.Bool.{and_cases, and_parts, eqb-false, eqb-true, not-false, not-true, or_cases, or_parts}
use Rattle.std.specs.Option.{IfSome}
use Rattle.std.proofs.lemmas.Bool.Decides.{nat_tests}
use Rattle.std.proofs.Math.Pow.{pow_mono}
use Rattle.gb_ops.specs.declared.machine.Banks.{Banks}
use Rattle.gb_ops.specs.declared.machine.Kind.{Kind}
use Rattle.gb_ops.specs.declared.machine.Kind.TheVariants as kind
use Rattle.gb_ops.specs.Cartridge.{cut_to, kind_of, rom_banks, shown_bank, low_bank_number, high_bank_number}
use Rattle.gb_domain.specs.declared.types.Ctl.{Ctl}
use Rattle.gb_domain.specs.Rules.{IsCtl}
use Rattle.gb_abs.specs.Below.gb_vals.Meaning.{may_be}
use Rattle.gb_abs_memory.specs.Windows.{InCtl}
use Rattle.gb_abs_memory.specs.Sound.{IsSize}
use Rattle.gb_abs_memory.specs.Shown.{is_bank_single, is_second_known, is_mode_harmless, known_if, known_low_bank, known_high_bank, known_bank, AllShow}
use Rattle.gb_abs_memory.proofs.WindowLaws.{some_banks, some_within, within, with_second, set_mode}

-- ---- numbers of banks

pub IsSize-from : (banks n : ℕ) → banks ≡ 2 * 2 ^ n → banks ≤ 512 → IsSize banks
IsSize-from banks n e most = record { exponent = n; small = choose (nat_le n 8) refl; power = e }
  where
    choose : (b : Bool) → nat_le n 8 ≡ b → n ≤ 8
    choose true t = grind (arith, nat_tests)
    choose false t =
        let more : 9 ≤ n = grind (arith, nat_tests) in
        let large : 2 ^ 9 ≤ 2 ^ n = pow_mono {i = 9} {j = n} more in
        absurd (omega arith)

-- a fact of each number of banks
by_exponent : (P : ℕ → Type 0) → P 2 → P 4 → P 8 → P 16 → P 32 → P 64 → P 128 → P 256 → P 512 → (n : ℕ) → n ≤ 8 → P (2 * 2 ^ n)
by_exponent P a b c d e f g h i zero le = a
by_exponent P a b c d e f g h i (suc zero) le = b
by_exponent P a b c d e f g h i (suc (suc zero)) le = c
by_exponent P a b c d e f g h i (suc (suc (suc zero))) le = d
by_exponent P a b c d e f g h i (suc (suc (suc (suc zero)))) le = e
by_exponent P a b c d e f g h i (suc (suc (suc (suc (suc zero))))) le = f
by_exponent P a b c d e f g h i (suc (suc (suc (suc (suc (suc zero)))))) le = g
by_exponent P a b c d e f g h i (suc (suc (suc (suc (suc (suc (suc zero))))))) le = h
by_exponent P a b c d e f g h i (suc (suc (suc (suc (suc (suc (suc (suc zero)))))))) le = i
by_exponent P a b c d e f g h i (suc (suc (suc (suc (suc (suc (suc (suc (suc n))))))))) le = absurd (omega arith)

by_size : (P : ℕ → Type 0) → P 2 → P 4 → P 8 → P 16 → P 32 → P 64 → P 128 → P 256 → P 512 → (banks : ℕ) → IsSize banks → P banks
by_size P a b c d e f g h i banks size = subst P (sym size.power) (by_exponent P a b c d e f g h i size.exponent size.small)

not_so : {X : Type 0} → true ≡ false → X
not_so h = absurd (let bad : true ≡ false = h in cc)

-- at most 32 banks don't see the second register
abbrev IsBlind : ℕ → Type 0
IsBlind banks = (nat_le banks 32 ≡ true) → (s m : ℕ) → (32 * s + m) % banks ≡ m % banks

blind : (banks : ℕ) → IsSize banks → IsBlind banks
blind =
    by_size IsBlind (λ t s m. omega arith) (λ t s m. omega arith) (λ t s m. omega arith) (λ t s m. omega arith) (λ t s m. omega arith)
    (λ t s m. not_so (sym t)) (λ t s m. not_so (sym t)) (λ t s m. not_so (sym t)) (λ t s m. not_so (sym t))

-- more do: the next value shows another bank
abbrev IsSeeing : ℕ → Type 0
IsSeeing banks = (nat_le banks 32 ≡ false) → (s m : ℕ) → (32 * s + m) % banks ≡ (32 * (s + 1) + m) % banks → ⊥

seeing : (banks : ℕ) → IsSize banks → IsSeeing banks
seeing =
    by_size IsSeeing (λ t s m e. not_so t) (λ t s m e. not_so t) (λ t s m e. not_so t) (λ t s m e. not_so t) (λ t s m e. not_so t)
    (λ t s m e. omega arith) (λ t s m e. omega arith) (λ t s m e. omega arith) (λ t s m e. omega arith)

-- neighbours are different banks
abbrev AreApart : ℕ → Type 0
AreApart banks = (m : ℕ) → m % banks ≡ (m + 1) % banks → ⊥

apart : (banks : ℕ) → IsSize banks → AreApart banks
apart =
    by_size AreApart (λ m e. omega arith) (λ m e. omega arith) (λ m e. omega arith) (λ m e. omega arith) (λ m e. omega arith) (λ m e. omega arith)
    (λ m e. omega arith) (λ m e. omega arith) (λ m e. omega arith)

-- ---- tests

some_if : (b : Bool) (n : ℕ) (P : ℕ → Type 0) → (b ≡ true → P n) → IfSome (known_if b n) P
some_if true n P h = h refl
some_if false n P h = tt

none_if : (b : Bool) (n : ℕ) → known_if b n ≡ None → b ≡ false
none_if true n h = absurd (let bad : Some n ≡ None = h in cc)
none_if false n h = refl

none_of : (n : ℕ) → Some n ≡ None → ⊥
none_of n h = cc

zero_cut : (banks : ℕ) → IsSize banks → cut_to banks 0 ≡ 0
zero_cut = by_size (λ banks. 0 % banks ≡ 0) refl refl refl refl refl refl refl refl refl

-- ---- a known second register

second_same : (banks : ℕ) (c : Ctl) (r : Banks) (m : ℕ) → IsSize banks → InCtl c r → is_second_known banks c ≡ true → (32 * r.second + m) % banks ≡ (32 * c.second_lo + m) % banks
second_same banks c r m size i h = elim (or_cases (nat_le banks 32) (c.second_lo == c.second_hi) h) [
  | inl few ↦ blind banks size few r.second m ∙ sym (blind banks size few c.second_lo m)
  | inr one ↦
      let single = eqb-true c.second_lo c.second_hi one in
      let least = i.second_least in
      let most = i.second_most in
      let e : r.second ≡ c.second_lo = omega arith in
      ap (λ s. (32 * s + m) % banks) e
]

second_cut : (banks : ℕ) (c : Ctl) (r : Banks) → IsSize banks → InCtl c r → is_second_known banks c ≡ true → cut_to banks (32 * r.second) ≡ cut_to banks (32 * c.second_lo)
second_cut banks c r size i h =
    let e : (32 * r.second + 0) % banks ≡ (32 * c.second_lo + 0) % banks = second_same banks c r 0 size i h in
    let p : 32 * r.second + 0 ≡ 32 * r.second = omega arith in
    let q : 32 * c.second_lo + 0 ≡ 32 * c.second_lo = omega arith in
    sym (ap (λ n. n % banks) p) ∙ e ∙ ap (λ n. n % banks) q

-- ---- what is known is shown

mode_shown :
    (banks : ℕ) (c : Ctl) (r : Banks) (set : Bool) → IsSize banks → InCtl c r → c.mode.set ≡ set → is_mode_harmless banks c ≡ true
    → cut_to banks (if r.mode then 32 * r.second else 0) ≡ (if set then cut_to banks (32 * c.second_lo) else 0)
mode_shown banks c r set size i e h = by_mode r.mode set (or_cases _ _ h) i.mode e
  where
    by_mode : (m set : Bool) → (not c.mode.set ≡ true) ⊎ ((is_second_known banks c && (not c.mode.clear || (cut_to banks (32 * c.second_lo) == 0))) ≡ true)
        → may_be c.mode m ≡ true → c.mode.set ≡ set → cut_to banks (if m then 32 * r.second else 0) ≡ (if set then cut_to banks (32 * c.second_lo) else 0)
    by_mode true true (inl n) may e = not_so (sym may ∙ not-true _ n)
    by_mode true true (inr k) may e = second_cut banks c r size i (and_parts _ _ k).0
    by_mode true false h may e = not_so (sym may ∙ e)
    by_mode false true (inl n) may e = not_so (sym e ∙ not-true _ n)
    by_mode false true (inr k) may e = elim (or_cases _ _ (and_parts _ _ k).1) [
      | inl n ↦ not_so (sym may ∙ not-true _ n)
      | inr z ↦ zero_cut banks size ∙ sym (eqb-true _ _ z)
    ]
    by_mode false false h may e = zero_cut banks size

low_sound :
    (k : Kind) (banks : ℕ) (c : Ctl) (r : Banks) → IsSize banks → InCtl c r → IfSome (known_low_bank k banks c) (λ n. cut_to banks (low_bank_number k r) ≡ n)
unfolding known_low_bank low_bank_number
low_sound kind.Rom banks c r size i = zero_cut banks size
low_sound kind.Mbc1 banks c r size i = some_if _ _ _ (λ h. mode_shown banks c r c.mode.set size i refl h)
low_sound kind.Mbc3 banks c r size i = zero_cut banks size
low_sound kind.Mbc5 banks c r size i = zero_cut banks size

single_bank : (c : Ctl) (r : Banks) → InCtl c r → is_bank_single c ≡ true → r.bank ≡ c.bank_lo
single_bank c r i h =
    let single = eqb-true c.bank_lo c.bank_hi h in
    let least = i.bank_least in
    let most = i.bank_most in
    omega arith

high_sound :
    (k : Kind) (banks : ℕ) (c : Ctl) (r : Banks) → IsSize banks → InCtl c r → IfSome (known_high_bank k banks c) (λ n. cut_to banks (high_bank_number k r) ≡ n)
unfolding known_high_bank high_bank_number
high_sound kind.Rom banks c r size i = refl
high_sound kind.Mbc1 banks c r size i = some_if _ _ _
    (λ h.
    let both = and_parts _ _ h in
    ap (λ b. (32 * r.second + b) % banks) (single_bank c r i both.0) ∙ second_same banks c r c.bank_lo size i both.1)
high_sound kind.Mbc3 banks c r size i = some_if _ _ _ (λ h. ap (λ b. b % banks) (single_bank c r i h))
high_sound kind.Mbc5 banks c r size i = some_if _ _ _ (λ h. ap (λ b. b % banks) (single_bank c r i h))

-- ---- where none is known, no one bank is shown

-- all registers within the bounds and sets give one bank
abbrev AllGive : (Banks → ℕ) → ℕ → Ctl → ℕ → Type 0
AllGive number banks c bank = (r : Banks) → InCtl c r → cut_to banks (number r) ≡ bank

-- two registers that give different banks
differ : (number : Banks → ℕ) (banks : ℕ) (c : Ctl) (bank : ℕ) (r q : Banks) → AllGive number banks c bank → InCtl c r → InCtl c q → cut_to banks (number r) ≡ cut_to banks (number q)
differ number banks c bank r q all i j = all r i ∙ sym (all q j)

low_unknown : (banks : ℕ) (c : Ctl) (bank : ℕ) → IsSize banks → IsCtl c → is_mode_harmless banks c ≡ false → AllGive (low_bank_number kind.Mbc1) banks c bank → ⊥
unfolding low_bank_number
low_unknown banks c bank size k h all =
    let none = or_parts _ _ h in
    let set = not-false _ none.0 in
    let ones = set_mode c (some_banks c) true (some_within c k) set in
    elim (and_cases _ _ none.1) [
      | inl unknown ↦
          let wide = or_parts (nat_le banks 32) (c.second_lo == c.second_hi) unknown in
          let other = eqb-false c.second_lo c.second_hi wide.1 in
          let order = k.second in
          let next = with_second c (record (some_banks c) { mode = true }) (c.second_lo + 1) ones (omega arith) (omega arith) in
          let e : cut_to banks (32 * c.second_lo) ≡ cut_to banks (32 * (c.second_lo + 1)) = differ (low_bank_number kind.Mbc1) banks c bank _ _ all ones next in
          let p : 32 * c.second_lo + 0 ≡ 32 * c.second_lo = omega arith in
          let q : 32 * (c.second_lo + 1) + 0 ≡ 32 * (c.second_lo + 1) = omega arith in
          seeing banks size wide.0 c.second_lo 0 (ap (λ n. n % banks) p ∙ e ∙ sym (ap (λ n. n % banks) q))
      | inr shown ↦
          let two = or_parts _ _ shown in
          let zeros = set_mode c (some_banks c) false (some_within c k) (not-false _ two.0) in
          let e : cut_to banks (32 * c.second_lo) ≡ cut_to banks 0 = differ (low_bank_number kind.Mbc1) banks c bank _ _ all ones zeros in
          eqb-false _ _ two.1 (e ∙ zero_cut banks size)
    ]

low_complete : (k : Kind) (banks : ℕ) (c : Ctl) (bank : ℕ) → IsSize banks → IsCtl c → known_low_bank k banks c ≡ None → AllGive (low_bank_number k) banks c bank → ⊥
unfolding known_low_bank
low_complete kind.Rom banks c bank size q h all = none_of 0 h
low_complete kind.Mbc1 banks c bank size q h all = low_unknown banks c bank size q (none_if _ _ h) all
low_complete kind.Mbc3 banks c bank size q h all = none_of 0 h
low_complete kind.Mbc5 banks c bank size q h all = none_of 0 h

-- a bank of several that is shown as it is written
several : (banks : ℕ) (c : Ctl) (bank m : ℕ) (number : Banks → ℕ) → IsSize banks → IsCtl c → is_bank_single c ≡ false
    → ((b : ℕ) → number (record (some_banks c) { bank = b }) ≡ m + b) → AllGive number banks c bank → ⊥
several banks c bank m number size k h is all =
    let other = eqb-false c.bank_lo c.bank_hi h in
    let order = k.bank in
    let more = within c k in
    let e = differ number banks c bank _ _ all (some_within c k) (more.bank (c.bank_lo + 1) (omega arith) (omega arith)) in
    let p : number (some_banks c) ≡ m + c.bank_lo = is c.bank_lo in
    let q : number (record (some_banks c) { bank = c.bank_lo + 1 }) ≡ m + c.bank_lo + 1 = is (c.bank_lo + 1) ∙ omega arith in
    apart banks size (m + c.bank_lo) (sym (ap (λ n. n % banks) p) ∙ e ∙ ap (λ n. n % banks) q)

high_unknown : (banks : ℕ) (c : Ctl) (bank : ℕ) → IsSize banks → IsCtl c → (is_bank_single c && is_second_known banks c) ≡ false → AllGive (high_bank_number kind.Mbc1) banks c bank → ⊥
unfolding high_bank_number
high_unknown banks c bank size k h all = elim (and_cases _ _ h) [
  | inl one ↦ several banks c bank (32 * c.second_lo) (high_bank_number kind.Mbc1) size k one (λ b. refl) all
  | inr unknown ↦
      let wide = or_parts (nat_le banks 32) (c.second_lo == c.second_hi) unknown in
      let other = eqb-false c.second_lo c.second_hi wide.1 in
      let order = k.second in
      let more = within c k in
      let e = differ (high_bank_number kind.Mbc1) banks c bank _ _ all (some_within c k) (more.second (c.second_lo + 1) (omega arith) (omega arith)) in
      seeing banks size wide.0 c.second_lo c.bank_lo e
]

high_complete : (k : Kind) (banks : ℕ) (c : Ctl) (bank : ℕ) → IsSize banks → IsCtl c → known_high_bank k banks c ≡ None → AllGive (high_bank_number k) banks c bank → ⊥
unfolding known_high_bank high_bank_number
high_complete kind.Rom banks c bank size q h all = none_of (cut_to banks 1) h
high_complete kind.Mbc1 banks c bank size q h all = high_unknown banks c bank size q (none_if _ _ h) all
high_complete kind.Mbc3 banks c bank size q h all = several banks c bank 0 (high_bank_number kind.Mbc3) size q (none_if _ _ h) (λ b. omega arith) all
high_complete kind.Mbc5 banks c bank size q h all = several banks c bank 0 (high_bank_number kind.Mbc5) size q (none_if _ _ h) (λ b. omega arith) all

-- ---- the bank at an address

pub known_bank-sound : (rom : List ℕ) (c : Ctl) (a : ℕ) (r : Banks) → IsSize (rom_banks rom) → a < 0x8000 → InCtl c r → IfSome (known_bank rom c a) (λ bank. shown_bank rom r a ≡ bank)
unfolding known_bank shown_bank
known_bank-sound rom c a r size below i = choose (nat_lt a 0x4000) (nat_lt a 0x8000) (grind (arith, nat_tests))
  where
    choose : (low whole : Bool) → whole ≡ true
        → IfSome (if low then known_low_bank (kind_of rom) (rom_banks rom) c else if whole then known_high_bank (kind_of rom) (rom_banks rom) c else Some 0)
        (λ bank. cut_to (rom_banks rom) (if low then low_bank_number (kind_of rom) r else high_bank_number (kind_of rom) r) ≡ bank)
    choose true whole e = low_sound (kind_of rom) (rom_banks rom) c r size i
    choose false true e = high_sound (kind_of rom) (rom_banks rom) c r size i
    choose false false e = not_so (sym e)

pub known_bank-complete : (rom : List ℕ) (c : Ctl) (a bank : ℕ) → IsSize (rom_banks rom) → IsCtl c → a < 0x8000 → known_bank rom c a ≡ None → AllShow rom c a bank → ⊥
unfolding known_bank shown_bank
known_bank-complete rom c a bank size k below h all = choose (nat_lt a 0x4000) (nat_lt a 0x8000) (grind (arith, nat_tests)) h all
  where
    choose : (low whole : Bool) → whole ≡ true
        → (if low then known_low_bank (kind_of rom) (rom_banks rom) c else if whole then known_high_bank (kind_of rom) (rom_banks rom) c else Some 0) ≡ None
        → AllGive (λ r. if low then low_bank_number (kind_of rom) r else high_bank_number (kind_of rom) r) (rom_banks rom) c bank → ⊥
    choose true whole e h all = low_complete (kind_of rom) (rom_banks rom) c bank size k h all
    choose false true e h all = high_complete (kind_of rom) (rom_banks rom) c bank size k h all
    choose false false e h all = not_so (sym e)

-- ---- what the contract promises, by what a cartridge's reader says of its banks

all_show : (rom : List ℕ) (c : Ctl) (a : ℕ) → IsSize (rom_banks rom) → a < 0x8000 → IfSome (known_bank rom c a) (λ bank. AllShow rom c a bank)
all_show rom c a size below = choose (known_bank rom c a) (λ r i. known_bank-sound rom c a r size below i)
  where
    choose : (o : Option ℕ) → ((r : Banks) → InCtl c r → IfSome o (λ bank. shown_bank rom r a ≡ bank)) → IfSome o (λ bank. AllShow rom c a bank)
    choose None h = tt
    choose (Some bank) h = λ r i. h r i

pub known_bank-shown : (rom : List ℕ) (c : Ctl) (a n : ℕ) → rom_banks rom ≡ 2 * 2 ^ n → rom_banks rom ≤ 512 → a < 0x8000 → IfSome (known_bank rom c a) (λ bank. AllShow rom c a bank)
known_bank-shown rom c a n power most below = all_show rom c a (IsSize-from (rom_banks rom) n power most) below

pub known_bank-none : (rom : List ℕ) (c : Ctl) (a n bank : ℕ) → rom_banks rom ≡ 2 * 2 ^ n → rom_banks rom ≤ 512 → a < 0x8000 → IsCtl c → known_bank rom c a ≡ None → AllShow rom c a bank → ⊥
known_bank-none rom c a n bank power most below k h all = known_bank-complete rom c a bank (IsSize-from (rom_banks rom) n power most) k below h all

pub ruleset shown_laws = (known_bank-shown, known_bank-none)
