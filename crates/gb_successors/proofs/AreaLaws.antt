-- Addresses that a store may lie at are alike: all in the controller, all in RAM or all elsewhere, and in the same windows.
use Rattle.std.proofs.Common.{◌≡◌, ℕ, ◌≤◌, ◌<◌, Bool, true, false, cond, ◌||◌, nat_lt, List, Option, Some, None, refl, sym, ◌∙◌, subst, arith}
use Rattle.std.specs.Prelude.{is_some}
use Rattle.std.specs.List.{AllByRecursion}
use Rattle.std.proofs.lemmas.Bool.Decides.{nat_tests}
use Rattle.std.proofs.lemmas.List.Elements.{All-from_recursion}
use Rattle.gb_ops.specs.declared.machine.Kind.{Kind}
use Rattle.gb_ops.specs.declared.machine.Kind.TheVariants as kind
use Rattle.gb_ops.specs.declared.machine.Region.{Region}
use Rattle.gb_ops.specs.Cartridge.{is_within}
use Rattle.gb_domain.specs.declared.setting.Setting.{Setting}
use Rattle.gb_domain.specs.declared.types.Range.{Range}
use Rattle.gb_domain.specs.LowBits.{no_low_bits}
use Rattle.gb_product.proofs.Below.gb_abs_laws.SpanLaws.{Has-none}
use Rattle.gb_product.specs.Below.gb_copies.Windows.{is_in_window}
use Rattle.gb_product.specs.Below.gb_copies.declared.windows.BankWindow.{BankWindow}
use Rattle.gb_product.specs.Below.gb_copies.declared.windows.BankWindow.TheVariants.{First, Second}
use Rattle.gb_product.specs.Below.gb_summaries.Stores.{ShareWindows}
use Rattle.gb_product.specs.Below.gb_abs.declared.span.Span.{Span}
use Rattle.gb_product.specs.Below.gb_abs.Span.{is_inside, IsIn}
use Rattle.gb_product.specs.Below.gb_abs.Storage.{is_ram}
use Rattle.gb_abs_memory.specs.declared.store.Area.{Area}
use Rattle.gb_abs_memory.specs.declared.store.Area.TheVariants as area
use Rattle.gb_abs_memory.specs.declared.windows.Window.{Window}
use Rattle.gb_abs_memory.specs.Access.{area_by, area_of, is_allowed, is_storable}
use Rattle.gb_abs_memory.specs.Windows.{windows, window_of}
use Rattle.gb_abs_memory.proofs.ControllerLaws.{IsInWindow, IsInWindow-window_of}

-- ---- windows

inside : (first last a : ℕ) → first ≤ a → a ≤ last → is_within first last a ≡ true
inside first last a f l = grind (arith, nat_tests)

below : (first last a : ℕ) → a < first → is_within first last a ≡ false
below first last a h = grind (arith, nat_tests)

above : (first last a : ℕ) → last < a → is_within first last a ≡ false
above first last a h = grind (arith, nat_tests)

-- addresses from one to another are among others or not, alike
Alike : (ℕ → Bool) → ℕ → ℕ → Type 0
Alike test from to = (a b : ℕ) → from ≤ a → a ≤ to → from ≤ b → b ≤ to → test a ≡ test b

all_inside : (first last from to : ℕ) → first ≤ from → to ≤ last → Alike (is_within first last) from to
unfolding Alike
all_inside first last from to f l a b fa al fb bl =
    let x : first ≤ a = omega arith in
    let y : a ≤ last = omega arith in
    let z : first ≤ b = omega arith in
    let u : b ≤ last = omega arith in
    inside first last a x y ∙ sym (inside first last b z u)

all_below : (first last from to : ℕ) → to < first → Alike (is_within first last) from to
unfolding Alike
all_below first last from to h a b fa al fb bl =
    let x : a < first = omega arith in
    let y : b < first = omega arith in
    below first last a x ∙ sym (below first last b y)

all_above : (first last from to : ℕ) → last < from → Alike (is_within first last) from to
unfolding Alike
all_above first last from to h a b fa al fb bl =
    let x : last < a = omega arith in
    let y : last < b = omega arith in
    above first last a x ∙ sym (above first last b y)

-- all addresses of a window's area are alike, and lie below 8000
record IsAlike (k : Kind) (w : Window) : Type 0 where
  low : w.last ≤ 0x7FFF
  first : Alike (is_in_window k First) w.first w.last
  second : Alike (is_in_window k Second) w.first w.last

each_window : (k : Kind) → AllByRecursion (IsAlike k) (windows k)
unfolding windows is_in_window Alike
each_window kind.Rom = (record { low = omega arith; first = λ a b f l g m. refl; second = λ a b f l g m. refl }, tt)
each_window kind.Mbc1 = (
  record { low = omega arith; first = all_below 0x2000 0x3FFF _ _ (omega arith); second = all_below 0x4000 0x5FFF _ _ (omega arith) },
  (
    record { low = omega arith; first = all_inside 0x2000 0x3FFF _ _ (omega arith) (omega arith); second = all_below 0x4000 0x5FFF _ _ (omega arith) },
    (
      record { low = omega arith; first = all_above 0x2000 0x3FFF _ _ (omega arith); second = all_inside 0x4000 0x5FFF _ _ (omega arith) (omega arith) },
      (record { low = omega arith; first = all_above 0x2000 0x3FFF _ _ (omega arith); second = all_above 0x4000 0x5FFF _ _ (omega arith) }, tt),
    ),
  ),
)
each_window kind.Mbc3 = (
  record { low = omega arith; first = all_below 0x2000 0x3FFF _ _ (omega arith); second = all_below 0x4000 0x5FFF _ _ (omega arith) },
  (
    record { low = omega arith; first = all_inside 0x2000 0x3FFF _ _ (omega arith) (omega arith); second = all_below 0x4000 0x5FFF _ _ (omega arith) },
    (
      record { low = omega arith; first = all_above 0x2000 0x3FFF _ _ (omega arith); second = all_inside 0x4000 0x5FFF _ _ (omega arith) (omega arith) },
      (record { low = omega arith; first = all_above 0x2000 0x3FFF _ _ (omega arith); second = all_above 0x4000 0x5FFF _ _ (omega arith) }, tt),
    ),
  ),
)
each_window kind.Mbc5 = (
  record { low = omega arith; first = all_below 0x2000 0x2FFF _ _ (omega arith); second = all_below 0x3000 0x3FFF _ _ (omega arith) },
  (
    record { low = omega arith; first = all_inside 0x2000 0x2FFF _ _ (omega arith) (omega arith); second = all_below 0x3000 0x3FFF _ _ (omega arith) },
    (
      record { low = omega arith; first = all_above 0x2000 0x2FFF _ _ (omega arith); second = all_inside 0x3000 0x3FFF _ _ (omega arith) (omega arith) },
      (
        record { low = omega arith; first = all_above 0x2000 0x2FFF _ _ (omega arith); second = all_above 0x3000 0x3FFF _ _ (omega arith) },
        (record { low = omega arith; first = all_above 0x2000 0x2FFF _ _ (omega arith); second = all_above 0x3000 0x3FFF _ _ (omega arith) }, tt),
      ),
    ),
  ),
)

both_windows : (P : BankWindow → Type 0) → P First → P Second → (which : BankWindow) → P which
both_windows P f s First = f
both_windows P f s Second = s

-- RAM has no window
high_window : (k : Kind) (which : BankWindow) (a : ℕ) → 0x8000 ≤ a → is_in_window k which a ≡ false
unfolding is_in_window
high_window kind.Rom which a h = refl
high_window kind.Mbc1 First a h = above 0x2000 0x3FFF a (omega arith)
high_window kind.Mbc1 Second a h = above 0x4000 0x5FFF a (omega arith)
high_window kind.Mbc3 First a h = above 0x2000 0x3FFF a (omega arith)
high_window kind.Mbc3 Second a h = above 0x4000 0x5FFF a (omega arith)
high_window kind.Mbc5 First a h = above 0x2000 0x2FFF a (omega arith)
high_window kind.Mbc5 Second a h = above 0x3000 0x3FFF a (omega arith)

-- ---- areas

-- both addresses are in the controller, in RAM or elsewhere, and in the same windows
pub record ShareArea (k : Kind) (a b : ℕ) : Type 0 where
  pub in_controller : nat_lt b 0x8000 ≡ nat_lt a 0x8000
  pub in_ram : is_ram b ≡ is_ram a
  pub windows : ShareWindows k a b

in_low : (n : ℕ) → n < 0x8000 → nat_lt n 0x8000 ≡ true
in_low n h = grind (arith, nat_tests)

not_ram : (n : ℕ) → n < 0x8000 → is_ram n ≡ false
not_ram n h = grind (arith, nat_tests)

in_one_window : (k : Kind) (w : Window) (a b : ℕ) → IsInWindow k w a → IsInWindow k w b → ShareArea k a b
unfolding Alike
in_one_window k w a b i j =
    let c = i.is_window in
    let alike : IsAlike k w = subst (IsAlike k) c.2 (All-from_recursion (IsAlike k) (windows k) (each_window k) c.0 w c.1) in
    let most = alike.low in
    let la = i.last in
    let lb = j.last in
    let low_a : a < 0x8000 = omega arith in
    let low_b : b < 0x8000 = omega arith in
    record {
      in_controller = in_low b low_b ∙ sym (in_low a low_a);
      in_ram = not_ram b low_b ∙ sym (not_ram a low_a);
      windows = record { same = both_windows (λ which. is_in_window k which a ≡ is_in_window k which b) (alike.first a b i.first i.last j.first j.last) (alike.second a b i.first i.last j.first j.last) };
    }

in_high : (n : ℕ) → 0x8000 ≤ n → nat_lt n 0x8000 ≡ false
in_high n h = grind (arith, nat_tests)

above_windows : (k : Kind) (a b : ℕ) → 0x8000 ≤ a → 0x8000 ≤ b → is_ram b ≡ is_ram a → ShareArea k a b
above_windows k a b h i ram =
    record {
      in_controller = in_high b i ∙ sym (in_high a h);
      in_ram = ram;
      windows = record { same = λ which. high_window k which a h ∙ sym (high_window k which b i) };
    }

abbrev is_hardware : Span → Bool
is_hardware span = is_inside 0x8000 0x9FFF span || is_inside 0xA000 0xBFFF span || is_inside 0xFE00 0xFF7F span

abbrev is_memory : Span → Bool
is_memory span = is_inside 0xC000 0xDFFF span || is_inside 0xFF80 0xFFFE span

outside_high : (span : Span) (a : ℕ) → span.first ≤ a → a ≤ span.last → is_hardware span ≡ true → 0x8000 ≤ a
outside_high span a f l h = grind (arith, nat_tests)

outside_ram : (span : Span) (a : ℕ) → span.first ≤ a → a ≤ span.last → is_hardware span ≡ true → is_ram a ≡ false
outside_ram span a f l h = grind (arith, nat_tests)

memory_high : (span : Span) (a : ℕ) → span.first ≤ a → a ≤ span.last → is_memory span ≡ true → 0x8000 ≤ a
memory_high span a f l h = grind (arith, nat_tests)

memory_ram : (span : Span) (a : ℕ) → span.first ≤ a → a ≤ span.last → is_memory span ≡ true → is_ram a ≡ true
memory_ram span a f l h = grind (arith, nat_tests)

last_high : (span : Span) (a : ℕ) → span.first ≤ a → a ≤ span.last → is_inside 0xFFFF 0xFFFF span ≡ true → 0x8000 ≤ a
last_high span a f l h = grind (arith, nat_tests)

last_ram : (span : Span) (a : ℕ) → span.first ≤ a → a ≤ span.last → is_inside 0xFFFF 0xFFFF span ≡ true → is_ram a ≡ false
last_ram span a f l h = grind (arith, nat_tests)

no_area :
    (c d e : Bool) → c ≡ false → d ≡ false → e ≡ false
    → is_some (cond c (Some area.Hardware) (cond d (Some area.Ram) (cond e (Some area.InterruptEnable) None))) ≡ true → ⊥
no_area true d e h m n known = cc
no_area false true e h m n known = cc
no_area false false true h m n known = cc
no_area false false false h m n known = cc

-- the addresses of a span that lies in one area
-- a span of whose low bits nothing is asked
abbrev all_of : Span → Span
all_of span = record { first = span.first; last = span.last; low = no_low_bits }

same_window : (k : Kind) (span : Span) → window_of k (all_of span) ≡ window_of k span
unfolding window_of
same_window k span = refl

pub same_area : (k : Kind) (span : Span) (a : ℕ) → is_some (area_of k span) ≡ true → IsIn span a → ShareArea k span.first a
unfolding area_of
same_area k span a some i = by (window_of k span) refl some
  where
    least : span.first ≤ span.first
    least = omega arith

    most : span.first ≤ span.last
    most = let f = i.first in let l = i.last in omega arith

    else_by :
        (c d e : Bool) → is_hardware span ≡ c → is_memory span ≡ d → is_inside 0xFFFF 0xFFFF span ≡ e
        → is_some (area_by None span) ≡ true → ShareArea k span.first a
    else_by true d e h m n known =
        above_windows k span.first a (outside_high span span.first least most h) (outside_high span a i.first i.last h)
        (outside_ram span a i.first i.last h ∙ sym (outside_ram span span.first least most h))
    else_by false true e h m n known =
        above_windows k span.first a (memory_high span span.first least most m) (memory_high span a i.first i.last m)
        (memory_ram span a i.first i.last m ∙ sym (memory_ram span span.first least most m))
    else_by false false true h m n known =
        above_windows k span.first a (last_high span span.first least most n) (last_high span a i.first i.last n)
        (last_ram span a i.first i.last n ∙ sym (last_ram span span.first least most n))
    else_by false false false h m n known = absurd (no_area (is_hardware span) (is_memory span) (is_inside 0xFFFF 0xFFFF span) h m n known)

    by : (o : Option Window) → window_of k span ≡ o → is_some (area_by o span) ≡ true → ShareArea k span.first a
    by (Some w) e known =
        in_one_window k w span.first a (IsInWindow-window_of k (all_of span) w span.first (same_window k span ∙ e) (record { first = least; last = most; low = Has-none span.first })) (IsInWindow-window_of k span w a e i)
    by None e known = else_by (is_hardware span) (is_memory span) (is_inside 0xFFFF 0xFFFF span) refl refl refl known

-- a store that may be has an area
pub storable_area : (z : Setting) (k : Kind) (region : Region) (ranges : List Range) (span : Span) → is_storable z k region ranges span ≡ true → is_some (area_of k span) ≡ true
unfolding is_storable
storable_area z k region ranges span h = by (area_of k span) h
  where
    by : (o : Option Area) → is_allowed z o region ranges span ≡ true → is_some o ≡ true
    by (Some a) e = refl
    by None e = cc
