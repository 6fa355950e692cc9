-- Changes of a core's registers, flags and interrupts, and the machine's.
use Rattle.std.proofs.Common.{◌≡◌, ℕ, ◌≤◌, true, false, Some, None, arith}
use Rattle.gb_ops.specs.declared.op.Register.{Register}
use Rattle.gb_ops.specs.declared.op.Register.TheVariants.{A}
use Rattle.gb_ops.specs.declared.registers.Registers.{Registers}
use Rattle.gb_ops.specs.declared.registers.Flags.{Flags}
use Rattle.gb_ops.specs.declared.registers.Processor.{Processor}
use Rattle.gb_ops.specs.declared.registers.Ime.{Ime}
use Rattle.gb_ops.specs.Registers.{get, set}
use Rattle.gb_ops.specs.Pairs.{word}
use Rattle.gb_ops.specs.Play.{MState}
use Rattle.gb_domain.specs.declared.types.Val.{Val}
use Rattle.gb_domain.specs.declared.types.Flg.{Flg}
use Rattle.gb_domain.specs.declared.types.ImeSet.{ImeSet}
use Rattle.gb_domain.specs.declared.types.Core.{Core}
use Rattle.gb_domain.specs.Rules.{IsVal, IsFlg, IsCore, may_be_any}
use Rattle.gb_abs.specs.Below.gb_vals.Meaning.{In, FlagsIn}
use Rattle.gb_abs.specs.Span.{IsIn, pair_span}
use Rattle.gb_abs.specs.Meaning.{Activation, Holds, HoldsFlags, MeansCore, ime_may_be}
use Rattle.gb_abs.proofs.SpanLaws.{Has-none}
use Rattle.gb_abs.proofs.OperationLaws.{set_both, set_one}
use Rattle.gb_abs_effects.specs.Transfer.{with_flags, with_ime}

pub some-is : {X : Type 0} (c d : X) → Some c ≡ Some d → c ≡ d
some-is c d e = cc

-- ---- bytes and flags

pub In-from : (v : Val) (entry : Activation) (n : ℕ) → Holds v entry n → In v n
In-from v entry n h = record { least = h.least; most = h.most; low = h.low }

pub FlagsIn-from : (f : Flg) (entry : Activation) (g : Flags) → HoldsFlags f entry g → FlagsIn f g
FlagsIn-from f entry g h =
    record { zero = h.zero; subtract = h.subtract; half_carry = h.half_carry; carry = h.carry }

-- what is computed needs no origin
pub Holds-computed : (v : Val) (entry : Activation) (n : ℕ) → In v n → v.origin ≡ None → Holds v entry n
Holds-computed v entry n m none = record { least = m.least; most = m.most; low = m.low; origin = λ o e. cc }

pub HoldsFlags-written : (f : Flg) (entry : Activation) (g : Flags) → FlagsIn f g → f.is_own ≡ false → HoldsFlags f entry g
HoldsFlags-written f entry g m written =
    record { zero = m.zero; subtract = m.subtract; half_carry = m.half_carry; carry = m.carry; own = λ e. cc }

pub byte-of : (v : Val) (entry : Activation) (n : ℕ) → IsVal v → Holds v entry n → n ≤ 255
byte-of v entry n is h = let p = is.hi in let q = h.most in omega arith

-- the address in a pair
pub IsIn-pair : (high low : Val) (entry : Activation) (a b : ℕ) → Holds high entry a → Holds low entry b → IsIn (pair_span high low) (word a b)
unfolding pair_span
IsIn-pair high low entry a b h l =
    let p : high.lo ≤ a = h.least in
    let q : a ≤ high.hi = h.most in
    let r : low.lo ≤ b = l.least in
    let s : b ≤ low.hi = l.most in
    record { first = omega arith; last = omega arith; low = Has-none (word a b) }

-- ---- the meaning of a core

pub MeansCore-changed :
    (s : Core) (entry : Activation) (x : MState) (rs : Registers Val) (f : Flg) (i : ImeSet) (q : Processor)
    → ((r : Register) → Holds (get r rs) entry (get r q.registers)) → HoldsFlags f entry q.flags
    → ime_may_be i q.ime ≡ true
    → q.locked ≡ false → q.stopped ≡ false → MeansCore s entry x
    → MeansCore (record s { registers = rs; flags = f; ime = i }) entry (record x { processor = q })
MeansCore-changed s entry x rs f i q registers flags ime locked stopped m =
    record {
      registers = registers;
      flags = flags;
      ie = m.ie;
      ime = ime;
      controller = m.controller;
      count = m.count;
      locked = locked;
      stopped = stopped;
    }

-- where the machine goes on and its stack ends are no part of a core
pub MeansCore-at :
    (s : Core) (entry : Activation) (x : MState) (sp pc : ℕ)
    → MeansCore s entry x → MeansCore s entry (record x { processor = record x.processor { sp = sp; pc = pc } })
MeansCore-at s entry x sp pc m =
    MeansCore-changed s entry x s.registers s.flags s.ime (record x.processor { sp = sp; pc = pc }) m.registers m.flags m.ime m.locked m.stopped m

pub MeansCore-flags :
    (s : Core) (entry : Activation) (x : MState) (f : Flg) (g : Flags)
    → HoldsFlags f entry g → MeansCore s entry x
    → MeansCore (with_flags f s) entry (record x { processor = record x.processor { flags = g } })
MeansCore-flags s entry x f g flags m =
    MeansCore-changed s entry x s.registers f s.ime (record x.processor { flags = g }) m.registers flags m.ime m.locked m.stopped m

pub MeansCore-ime :
    (s : Core) (entry : Activation) (x : MState) (i : ImeSet) (ime : Ime)
    → ime_may_be i ime ≡ true → MeansCore s entry x
    → MeansCore (with_ime i s) entry (record x { processor = record x.processor { ime = ime } })
MeansCore-ime s entry x i ime holds m =
    MeansCore-changed s entry x s.registers s.flags i (record x.processor { ime = ime }) m.registers m.flags holds m.locked m.stopped m

-- A and the flags change together
pub MeansCore-a :
    (s : Core) (entry : Activation) (x : MState) (v : Val) (f : Flg) (n : ℕ) (g : Flags)
    → Holds v entry n → HoldsFlags f entry g → MeansCore s entry x
    → MeansCore (record s { registers = set A v s.registers; flags = f }) entry (record x { processor = record x.processor { registers = set A n x.processor.registers; flags = g } })
MeansCore-a s entry x v f n g holds flags m =
    MeansCore-changed s entry x (set A v s.registers) f s.ime (record x.processor { registers = set A n x.processor.registers; flags = g }) (λ q. set_both (λ w y. Holds w entry y) A q v n s.registers x.processor.registers holds m.registers) flags m.ime m.locked m.stopped m

-- ---- the ranges of a core

pub IsCore-changed :
    (s : Core) (rs : Registers Val) (f : Flg) (i : ImeSet)
    → ((r : Register) → IsVal (get r rs)) → IsFlg f → may_be_any i ≡ true → IsCore s
    → IsCore (record s { registers = rs; flags = f; ime = i })
IsCore-changed s rs f i registers flags ime c =
    record {
      ime = ime;
      bound = c.bound;
      ctl = c.ctl;
      flags = flags;
      ie = c.ie;
      registers = registers;
    }

pub IsCore-flags : (s : Core) (f : Flg) → IsFlg f → IsCore s → IsCore (with_flags f s)
IsCore-flags s f h c = IsCore-changed s s.registers f s.ime c.registers h c.ime c

pub IsCore-ime : (s : Core) (i : ImeSet) → may_be_any i ≡ true → IsCore s → IsCore (with_ime i s)
IsCore-ime s i h c = IsCore-changed s s.registers s.flags i c.registers c.flags h c

pub IsCore-a : (s : Core) (v : Val) (f : Flg) → IsVal v → IsFlg f → IsCore s → IsCore (record s { registers = set A v s.registers; flags = f })
IsCore-a s v f h k c =
    IsCore-changed s (set A v s.registers) f s.ime (λ q. set_one IsVal A q v s.registers h c.registers) k c.ime c
