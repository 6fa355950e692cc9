-- Each operation follows its change of the machine.
use Rattle.std.proofs.Common.{◌≡◌, ℕ, ◌-◌, ◌≤◌, ◌<◌, Bool, true, false, ◌||◌, List, refl, sym, ◌∙◌, ap, subst, arith}
use Rattle.gb_ops.specs.declared.op.Register.{Register}
use Rattle.gb_ops.specs.declared.op.Register.TheVariants.{A, B, C, D, E, H, L}
use Rattle.gb_ops.specs.declared.registers.Registers.{Registers}
use Rattle.gb_ops.specs.declared.registers.Ime.{Ime}
use Rattle.gb_ops.specs.declared.registers.Ime.TheVariants.{Off, Pending, On}
use Rattle.gb_ops.specs.Registers.{get, set}
use Rattle.gb_ops.specs.Machine.{ime_after, settled}
use Rattle.gb_ops.specs.Pairs.{with_registers}
use Rattle.gb_ops.specs.Memory.{passed}
use Rattle.gb_ops.specs.Effects.{with_pc}
use Rattle.gb_ops.specs.Play.{MState}
use Rattle.gb_domain.specs.declared.types.Val.{Val}
use Rattle.gb_domain.specs.declared.types.ImeSet.{ImeSet}
use Rattle.gb_domain.specs.declared.types.Core.{Core}
use Rattle.gb_domain.specs.Types.{AbsState}
use Rattle.gb_domain.specs.Rules.{IsVal, IsCore, may_be_any}
use Rattle.gb_abs.specs.Meaning.{Activation, Holds, MeansCore, MeansParts, ime_may_be}
use Rattle.gb_abs.specs.Sound.{IsSoundSet, IsSoundValue, IsSoundSettling, IsSoundEnd}
use Rattle.gb_vals.specs.Vals.{single}
use Rattle.gb_abs.specs.Operations.{core_set_register, core_with_value, ime_set_after, core_settle, core_end, with_core}

-- a fact about two records of registers, after a write to both
pub set_both :
    {X Y : Type 0} (P : X → Y → Type 0) (r q : Register) (v : X) (x : Y) (vs : Registers X) (xs : Registers Y)
    → P v x → ((p : Register) → P (get p vs) (get p xs)) → P (get q (set r v vs)) (get q (set r x xs))
set_both P A A v x vs xs n o = n
set_both P A q v x vs xs n o = o q
set_both P B B v x vs xs n o = n
set_both P B q v x vs xs n o = o q
set_both P C C v x vs xs n o = n
set_both P C q v x vs xs n o = o q
set_both P D D v x vs xs n o = n
set_both P D q v x vs xs n o = o q
set_both P E E v x vs xs n o = n
set_both P E q v x vs xs n o = o q
set_both P H H v x vs xs n o = n
set_both P H q v x vs xs n o = o q
set_both P L L v x vs xs n o = n
set_both P L q v x vs xs n o = o q

-- the machine with a register changed
abbrev pub register_set : Register → ℕ → MState → MState
register_set r n s = record s { processor = with_registers s.processor (set r n s.processor.registers) }

pub MeansCore-set_register :
    (s : Core) (entry : Activation) (x : MState) (r : Register) (v : Val) (n : ℕ)
    → Holds v entry n → MeansCore s entry x → MeansCore (core_set_register r v s) entry (register_set r n x)
unfolding core_set_register
MeansCore-set_register s entry x r v n h m =
    record {
      registers = λ q. set_both (λ w y. Holds w entry y) r q v n s.registers x.processor.registers h m.registers;
      flags = m.flags;
      ie = m.ie;
      ime = m.ime;
      controller = m.controller;
      count = m.count;
      locked = m.locked;
      stopped = m.stopped;
    }

ime_settled : (s : ImeSet) (i : Ime) → ime_may_be s i ≡ true → ime_may_be (ime_set_after s) (ime_after i) ≡ true
unfolding ime_after
ime_settled s Off h = h
ime_settled s Pending h = ap (λ b. b || s.on) h
ime_settled s On h = ap (λ b. s.pending || b) h ∙ true_right s.pending
  where
    true_right : (b : Bool) → (b || true) ≡ true
    true_right true = refl
    true_right false = refl

-- the machine with an instruction executed, PC where it goes on
abbrev pub moved : ℕ → MState → MState
moved pc s = record s { processor = with_pc (settled s.processor) pc }

pub MeansCore-settle : (s : Core) (entry : Activation) (x : MState) (pc : ℕ) → MeansCore s entry x → MeansCore (core_settle s) entry (moved pc x)
unfolding core_settle
MeansCore-settle s entry x pc m =
    record {
      registers = m.registers;
      flags = m.flags;
      ie = m.ie;
      ime = ime_settled s.ime x.processor.ime m.ime;
      controller = m.controller;
      count = m.count;
      locked = m.locked;
      stopped = m.stopped;
    }

-- the machine with a smaller count
abbrev pub counted : ℕ → MState → MState
counted count s = record s { storage = record s.storage { count = count } }

-- time passes, and the bound falls
pub MeansCore-pass : (s : Core) (entry : Activation) (x : MState) (n : ℕ) → MeansCore s entry x → MeansCore (core_end false n s) entry (counted (x.storage.count - n) x)
unfolding core_end
MeansCore-pass s entry x n m =
    record {
      registers = m.registers;
      flags = m.flags;
      ie = m.ie;
      ime = m.ime;
      controller = m.controller;
      count = let a = m.count in omega arith;
      locked = m.locked;
      stopped = m.stopped;
    }

-- time alone only makes the count smaller
pub MeansCore-wait : (s : Core) (entry : Activation) (x : MState) (n : ℕ) → MeansCore s entry x → MeansCore s entry (counted (x.storage.count - n) x)
MeansCore-wait s entry x n m =
    record {
      registers = m.registers;
      flags = m.flags;
      ie = m.ie;
      ime = m.ime;
      controller = m.controller;
      count = let a = m.count in omega arith;
      locked = m.locked;
      stopped = m.stopped;
    }

pub Holds-single : (n : ℕ) (entry : Activation) → Holds (single n) entry n
Holds-single n entry = record { least = omega arith; most = omega arith; low = refl; origin = λ o e. cc }

-- ---- covering value by value

-- a fact about two records of registers, after a write to the first
set_first :
    {X Y : Type 0} (P : X → Y → Type 0) (r q : Register) (v : X) (vs : Registers X) (xs : Registers Y)
    → P v (get r xs) → ((p : Register) → P (get p vs) (get p xs)) → P (get q (set r v vs)) (get q xs)
set_first P A A v vs xs n o = n
set_first P A q v vs xs n o = o q
set_first P B B v vs xs n o = n
set_first P B q v vs xs n o = o q
set_first P C C v vs xs n o = n
set_first P C q v vs xs n o = o q
set_first P D D v vs xs n o = n
set_first P D q v vs xs n o = o q
set_first P E E v vs xs n o = n
set_first P E q v vs xs n o = o q
set_first P H H v vs xs n o = n
set_first P H q v vs xs n o = o q
set_first P L L v vs xs n o = n
set_first P L q v vs xs n o = o q

-- with the machine's own value of a register for its bounds, a core holds of that machine still
pub MeansCore-with_value :
    (r : Register) (s : Core) (entry : Activation) (x : MState) → MeansCore s entry x → MeansCore (core_with_value r (get r x.processor.registers) s) entry x
unfolding core_with_value
MeansCore-with_value r s entry x m =
    let own = m.registers r in
    record {
      registers = λ q. set_first (λ w y. Holds w entry y) r q (record (get r s.registers) { lo = get r x.processor.registers; hi = get r x.processor.registers; low_bits = 0 })
          s.registers x.processor.registers (record { least = omega arith; most = omega arith; low = refl; origin = own.origin }) m.registers;
      flags = m.flags;
      ie = m.ie;
      ime = m.ime;
      controller = m.controller;
      count = m.count;
      locked = m.locked;
      stopped = m.stopped;
    }

pub MeansParts-with_value :
    (r : Register) (s : AbsState) (entry : Activation) (base : ℕ) (x : MState)
    → MeansParts s entry base x → MeansParts (with_core s (core_with_value r (get r x.processor.registers) s.core)) entry base x
unfolding core_with_value
MeansParts-with_value r s entry base x m =
    record { core = MeansCore-with_value r s.core entry x m.core; memory = m.memory; sp = m.sp; stack = m.stack; items = m.items; cells = m.cells }

-- ---- the operations

pub set_register_sound : (r : Register) (v : Val) (s o : Core) → o ≡ core_set_register r v s → IsSoundSet r v s o
set_register_sound r v s o e =
    record { gives = λ entry x n h m. subst (λ c. MeansCore c entry (register_set r n x)) (sym e) (MeansCore-set_register s entry x r v n h m) }

pub with_value_sound : (r : Register) (n : ℕ) (s o : Core) → o ≡ core_with_value r n s → IsSoundValue r n s o
with_value_sound r n s o e =
    record { gives = λ entry x is m. subst (λ c. MeansCore c entry x) (sym e) (subst (λ k. MeansCore (core_with_value r k s) entry x) is (MeansCore-with_value r s entry x m)) }

pub settle_sound : (s o : Core) → o ≡ core_settle s → IsSoundSettling s o
settle_sound s o e =
    record { gives = λ entry x m. subst (λ c. MeansCore c entry (record x { processor = settled x.processor })) (sym e) (MeansCore-settle s entry x x.processor.pc m) }

MeansCore-start : (s : Core) (entry : Activation) (x : MState) → MeansCore s entry x → MeansCore (record s { bound = 161 }) entry (counted 161 x)
MeansCore-start s entry x m =
    record {
      registers = m.registers;
      flags = m.flags;
      ie = m.ie;
      ime = m.ime;
      controller = m.controller;
      count = omega arith;
      locked = m.locked;
      stopped = m.stopped;
    }

MeansCore-end :
    (starts : Bool) (n : ℕ) (rom : List ℕ) (s : Core) (entry : Activation) (x : MState) → MeansCore s entry x
    → MeansCore (core_end starts n s) entry (record x { storage = (passed (record { rom = rom; storage = x.storage; starting = starts }) n).storage })
unfolding core_end passed
MeansCore-end true n rom s entry x m = MeansCore-start s entry x m
MeansCore-end false n rom s entry x m = MeansCore-pass s entry x n m

pub end_sound : (starts : Bool) (n : ℕ) (s o : Core) → o ≡ core_end starts n s → IsSoundEnd starts n s o
end_sound starts n s o e =
    record {
      gives = λ rom entry x m. subst
          (λ c. MeansCore c entry (record x { storage = (passed (record { rom = rom; storage = x.storage; starting = starts }) n).storage })) (sym e)
          (MeansCore-end starts n rom s entry x m);
    }

-- ---- their ranges

-- a fact about each register, after a write
pub set_one :
    {X : Type 0} (P : X → Type 0) (r q : Register) (v : X) (vs : Registers X)
    → P v → ((p : Register) → P (get p vs)) → P (get q (set r v vs))
set_one P r q v vs n o = set_both (λ w y. P w) r q v v vs vs n o

pub IsCore-set_register : (s : Core) (r : Register) (v : Val) → IsVal v → IsCore s → IsCore (core_set_register r v s)
unfolding core_set_register
IsCore-set_register s r v h c =
    record {
      ime = c.ime;
      bound = c.bound;
      ctl = c.ctl;
      flags = c.flags;
      ie = c.ie;
      registers = λ q. set_one IsVal r q v s.registers h c.registers;
    }

pub IsCore-with_value : (s : Core) (r : Register) (n : ℕ) → n < 256 → IsCore s → IsCore (core_with_value r n s)
unfolding core_with_value
IsCore-with_value s r n h c =
    record {
      ime = c.ime;
      bound = c.bound;
      ctl = c.ctl;
      flags = c.flags;
      ie = c.ie;
      registers = λ q. set_one IsVal r q (record (get r s.registers) { lo = n; hi = n; low_bits = 0 }) s.registers (record { order = omega arith; hi = h; strided = refl }) c.registers;
    }

ime_set_after-any : (i : ImeSet) → may_be_any i ≡ true → may_be_any (ime_set_after i) ≡ true
ime_set_after-any i h = any i.off i.pending i.on h
  where
    any : (a b c : Bool) → (a || b || c) ≡ true → (a || false || (b || c)) ≡ true
    any true b c e = refl
    any false b c e = e

pub IsCore-settle : (s : Core) → IsCore s → IsCore (core_settle s)
unfolding core_settle
IsCore-settle s c =
    record {
      ime = ime_set_after-any s.ime c.ime;
      bound = c.bound;
      ctl = c.ctl;
      flags = c.flags;
      ie = c.ie;
      registers = c.registers;
    }

pub IsCore-bound : (s : Core) (bound : ℕ) → bound ≤ 161 → IsCore s → IsCore (record s { bound = bound })
IsCore-bound s bound h c =
    record {
      ime = c.ime;
      bound = h;
      ctl = c.ctl;
      flags = c.flags;
      ie = c.ie;
      registers = c.registers;
    }

pub IsCore-end : (starts : Bool) (n : ℕ) (s : Core) → IsCore s → IsCore (core_end starts n s)
unfolding core_end
IsCore-end true n s c = IsCore-bound s 161 (omega arith) c
IsCore-end false n s c = IsCore-bound s (s.bound - n) (let most = c.bound in omega arith) c

pub set_register_inhabited : (r : Register) (v : Val) (s o : Core) → o ≡ core_set_register r v s → IsVal v → IsCore s → IsCore o
set_register_inhabited r v s o e h c = subst IsCore (sym e) (IsCore-set_register s r v h c)

pub with_value_inhabited : (r : Register) (n : ℕ) (s o : Core) → o ≡ core_with_value r n s → n < 256 → IsCore s → IsCore o
with_value_inhabited r n s o e h c = subst IsCore (sym e) (IsCore-with_value s r n h c)

pub settle_inhabited : (s o : Core) → o ≡ core_settle s → IsCore s → IsCore o
settle_inhabited s o e c = subst IsCore (sym e) (IsCore-settle s c)

pub end_inhabited : (starts : Bool) (n : ℕ) (s o : Core) → o ≡ core_end starts n s → IsCore s → IsCore o
end_inhabited starts n s o e c = subst IsCore (sym e) (IsCore-end starts n s c)
