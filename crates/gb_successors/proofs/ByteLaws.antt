-- A byte that is known is what the machine reads there, whatever free reads give, and without a fault.
use Rattle.std.proofs.Common.{◌≡◌, ℕ, ◌≤◌, ◌<◌, Bool, true, false, cond, if◌then◌else◌, ◌&&◌, ◌==◌, nat_le, nat_lt, ◌⊎◌, inl, inr, List, [], ◌∷◌, Some, None, refl, ◌∙◌, ap, subst, arith}
use Rattle.std.proofs.lemmas.Option.{same_Some}
use Rattle.std.proofs.lemmas.Bool.{eqb-true}
use Rattle.std.proofs.lemmas.Bool.Decides.{nat_tests}
use Rattle.gb_ops.specs.Memory.{is_free, byte_at}
use Rattle.gb_ops.specs.Machine.{read_at, read_by}
use Rattle.gb_ops.specs.Faults.{no_faults, fetch_faults, is_code_address}
use Rattle.gb_ops.specs.Play.{MState, within}
use Rattle.gb_abs_memory.specs.Below.gb_domain.declared.types.Core.{Core}
use Rattle.gb_abs_memory.specs.Below.gb_domain.declared.types.Val.{Val}
use Rattle.gb_abs_memory.specs.Below.gb_domain.Summaries.{Program}
use Rattle.gb_abs_memory.specs.Below.gb_domain.Types.{AbsState}
use Rattle.gb_abs_memory.specs.Below.gb_domain.Rules.{IsVal}
use Rattle.gb_abs_memory.specs.Below.gb_domain.Settings.{known_base, simple, IsBase}
use Rattle.gb_abs_memory.specs.Below.gb_abs.Located.{item_at, stack_base}
use Rattle.gb_abs_memory.specs.Below.gb_abs.Span.{one, is_one}
use Rattle.gb_abs_memory.specs.Below.gb_abs.Storage.{is_ram, peek}
use Rattle.gb_abs_memory.specs.Below.gb_abs.Meaning.{Activation, Holds, MeansParts}
use Rattle.gb_abs_memory.specs.Access.{home_of, val_at, item_or, val_or_item, loaded_val, meets_closed_ram, is_limited}
use Rattle.gb_abs_memory.specs.Sound.{IsRom, IsLoaded, view}
use Rattle.gb_abs_memory.proofs.LoadLaws.{IsLoaded-loaded_val}
use Rattle.gb_product.specs.Covering.{byte_in, values_in}
use Rattle.gb_product.specs.Meaning.{Means}
use Rattle.gb_product.proofs.CoveringLaws.{Holds-byte}
use Rattle.gb_product.proofs.Below.gb_abs_laws.SpanLaws.{IsIn-alone}
use Rattle.gb_successors.specs.Code.{single_of, code_val, known_byte}

-- ---- choices

pub chosen : {X : Type 0} (b : Bool) (x y z : X) → cond b x y ≡ z → ((b ≡ true) × (x ≡ z)) ⊎ ((b ≡ false) × (y ≡ z))
chosen true x y z h = inl (refl, h)
chosen false x y z h = inr (refl, h)

-- ---- one byte

single_holds : (v : Val) (entry : Activation) (x b : ℕ) → single_of v ≡ Some b → Holds v entry x → x ≡ b
unfolding single_of
single_holds v entry x b h m = elim (chosen (v.lo == v.hi) (Some v.lo) None (Some b) h) [
  | inl p ↦
      let ends : v.lo ≡ v.hi = eqb-true v.lo v.hi p.0 in
      let low : v.lo ≡ b = same_Some v.lo b p.1 in
      let least = m.least in
      let most = m.most in
      omega arith
  | inr p ↦ cc
]

code_small : (a : ℕ) → is_code_address a ≡ true → a < 65536
unfolding is_code_address
code_small a h = grind (arith, nat_tests)

no_cartridge_ram : (rom : List ℕ) (core : Core) (a : ℕ) → is_code_address a ≡ true → meets_closed_ram rom core (one a) ≡ false
unfolding meets_closed_ram is_code_address
no_cartridge_ram rom core a h = away (nat_le a 0xBFFF && nat_le 0xA000 a) _ (grind (arith, nat_tests))
  where
    away : (b c : Bool) → b ≡ false → (b && c) ≡ false
    away b c h = rw h refl

one_is_one : (a : ℕ) → is_one (one a) ≡ true
one_is_one a = grind (arith, nat_tests)

-- no base is known
no_base : (base : ℕ) → IsBase (simple true) base
unfolding known_base
no_base base b e = cc

-- then no item has an address
loaded_one : (rom : List ℕ) (s : AbsState) (a : ℕ) → loaded_val (simple true) rom s (one a) ≡ val_at rom s a
unfolding loaded_val val_or_item item_at stack_base
loaded_one rom s a = rw (one_is_one a) (by (is_ram a))
  where
    by : (b : Bool) → item_or (if b then None else None) (val_at rom s a) ≡ val_at rom s a
    by true = refl
    by false = refl

-- what the machine reads at an address, between events: it is read in any case, without a fault
pub record Reads (rom : List ℕ) (x : MState) (a b : ℕ) : Type 0 where
  pub code : is_code_address a ≡ true
  pub fixed : is_free (within rom x).memory a ≡ false
  pub byte : byte_at (within rom x).memory a ≡ b
  pub faults : fetch_faults (within rom x).memory a ≡ no_faults

-- a read that gives one byte whatever free reads give isn't free
fixed_by : (free : Bool) (fixed b : ℕ) → ((n : ℕ) → n ≤ 255 → (read_by free fixed (n ∷ [])).value ≡ b) → (free ≡ false) × (fixed ≡ b)
fixed_by true fixed b h =
    let none : 0 ≡ b = h 0 (omega arith) in
    let one : 1 ≡ b = h 1 (omega arith) in
    absurd (omega arith)
fixed_by false fixed b h = (refl, h 0 (omega arith))

Reads-byte : (rom : List ℕ) (s : AbsState) (entry : Activation) (base : ℕ) (x : MState) (a b : ℕ) → IsRom rom → MeansParts s entry base x → IsVal s.core.ie
    → is_limited s.core (one a) ≡ false → is_code_address a ≡ true → single_of (val_at rom s a) ≡ Some b → Reads rom x a b
unfolding within read_at fetch_faults
Reads-byte rom s entry base x a b r m ie clear code h =
    let loads : (n : ℕ) → n ≤ 255 → IsLoaded (view rom x false) a (n ∷ []) (loaded_val (simple true) rom s (one a)) entry =
    λ n le. IsLoaded-loaded_val (simple true) rom s (one a) entry base x false a (n ∷ []) (no_cartridge_ram rom s.core a code) clear (IsIn-alone a) (code_small a code) (no_base base) m ie r le in
    let gives : (n : ℕ) → n ≤ 255 → (read_at (view rom x false) a (n ∷ [])).value ≡ b =
    λ n le. single_holds (val_at rom s a) entry _ b h (subst (λ v. Holds v entry (read_at (view rom x false) a (n ∷ [])).value) (loaded_one rom s a) (loads n le).holds) in
    let p = fixed_by (is_free (view rom x false) a) (byte_at (view rom x false) a) b gives in
    record {
      code = code;
      fixed = p.0;
      byte = p.1;
      faults = rw ((loads 0 (omega arith)).faults, code) refl;
    }

-- the state that says of RAM what is known of one byte alone
with_byte : AbsState → ℕ → Val → AbsState
with_byte s a v = record s { cells = record { address = a; val = v } ∷ [] }

MeansParts-byte : (s : AbsState) (a : ℕ) (v : Val) (entry : Activation) (base : ℕ) (x : MState) → MeansParts s entry base x → Holds v entry (peek x.storage a) → MeansParts (with_byte s a v) entry base x
unfolding with_byte
MeansParts-byte s a v entry base x m h = record { core = m.core; memory = m.memory; sp = m.sp; stack = m.stack; items = m.items; cells = (h, tt) }

in_ram : (a : ℕ) → is_ram a ≡ true → (nat_lt a 0x8000 ≡ false) × (home_of a ≡ a)
in_ram a h = (grind (arith, nat_tests), grind (arith, nat_tests))

same_test : (a : ℕ) → (a == a) ≡ true
same_test a = grind (arith, nat_tests)

val_at-byte : (rom : List ℕ) (s : AbsState) (a : ℕ) (v : Val) → is_ram a ≡ true → val_at rom (with_byte s a v) a ≡ v
unfolding with_byte val_at
val_at-byte rom s a v h =
    let p = in_ram a h in
    rw (p.0, p.1, h, same_test a) refl

Reads-code :
    (program : Program) (rom : List ℕ) (s : AbsState) (entry : Activation) (base : ℕ) (x : MState) (a b : ℕ) → IsRom rom → entry.program ≡ program → Means s entry base x → IsVal s.core.ie
    → is_limited s.core (one a) ≡ false → is_code_address a ≡ true → single_of (code_val program rom s a) ≡ Some b → Reads rom x a b
unfolding code_val with_byte
Reads-code program rom s entry base x a b r is m ie clear code h = choose (is_ram a) refl h
  where
    v : Val
    v = byte_in program (values_in s) s.cells s.summary a

    held : Holds v entry (peek x.storage a)
    held = subst (λ p. Holds (byte_in p (values_in s) s.cells s.summary a) entry (peek x.storage a)) is (Holds-byte s a entry base x m)

    in_memory : is_ram a ≡ true → single_of v ≡ Some b → Reads rom x a b
    in_memory ram single =
        Reads-byte rom (with_byte s a v) entry base x a b r (MeansParts-byte s a v entry base x m.parts held) ie clear code
        (ap single_of (val_at-byte rom s a v ram) ∙ single)

    choose : (ram : Bool) → is_ram a ≡ ram → single_of (cond ram v (val_at rom s a)) ≡ Some b → Reads rom x a b
    choose true e single = in_memory e single
    choose false e single = Reads-byte rom s entry base x a b r m.parts ie clear code single

-- what is known of a byte is what the machine reads
pub Reads-known :
    (program : Program) (rom : List ℕ) (s : AbsState) (entry : Activation) (base : ℕ) (x : MState) (a b : ℕ) → IsRom rom → entry.program ≡ program → Means s entry base x → IsVal s.core.ie
    → is_limited s.core (one a) ≡ false → known_byte program rom s a ≡ Some b → Reads rom x a b
unfolding known_byte
Reads-known program rom s entry base x a b r is m ie clear h = elim (chosen (is_code_address a) (single_of (code_val program rom s a)) None (Some b) h) [
  | inl p ↦ Reads-code program rom s entry base x a b r is m ie clear p.0 p.1
  | inr p ↦ cc
]
