-- An instruction that takes the address of the procedure's mark gives it: in HL, or as the word that it stores.
use Rattle.std.proofs.Common.{◌≡◌, ℕ, ◌+◌, ◌-◌, ◌/◌, ◌%◌, ◌*◌, ◌≤◌, ◌<◌, Bool, true, false, cond, ◌==◌, ◌&&◌, nat_lt, length, refl, sym, ◌∙◌, ap, subst, arith}
use Rattle.std.proofs.lemmas.Bool.{eqb-true, and_parts}
use Rattle.gb_ops.specs.declared.machine.Effect.{Effect}
use Rattle.gb_ops.specs.declared.machine.Write.{Write}
use Rattle.gb_ops.specs.declared.machine.Write.TheVariants as machine_write
use Rattle.gb_ops.specs.declared.op.Op.{Op}
use Rattle.gb_ops.specs.declared.op.Op.TheVariants as op
use Rattle.gb_ops.specs.declared.op.Pair.TheVariants as pair
use Rattle.gb_ops.specs.declared.op.Register.{Register}
use Rattle.gb_ops.specs.declared.op.Register.TheVariants.{A, B, C, D, E, H, L}
use Rattle.gb_ops.specs.declared.registers.Processor.{Processor}
use Rattle.gb_ops.specs.declared.registers.Registers.{Registers}
use Rattle.gb_ops.specs.Arithmetic.{displaced}
use Rattle.gb_ops.specs.Effects as Effects
use Rattle.gb_ops.specs.Pairs.{with_pair, pair_value}
use Rattle.gb_ops.specs.Play.{MState}
use Rattle.gb_ops.specs.Registers.{get}
use Rattle.gb_domain.specs.declared.rules.Rules.TheVariants.{Simple}
use Rattle.gb_domain.specs.declared.types.Core.{Core}
use Rattle.gb_domain.specs.declared.types.Origin.{Origin}
use Rattle.gb_domain.specs.declared.types.Origin.TheVariants.{MarkHigh, MarkLow}
use Rattle.gb_domain.specs.declared.types.Val.{Val}
use Rattle.gb_domain.specs.Rules.{IsCore, IsVal}
use Rattle.gb_domain.specs.Types.{AbsState}
use Rattle.gb_product.specs.Below.gb_abs.Meaning.{Activation, Holds, MeansCore, origin_value, is_located}
use Rattle.gb_product.specs.Below.gb_abs.Origins.{own}
use Rattle.gb_product.specs.Below.gb_abs_effects.declared.writes.AbsWrite.{AbsWrite}
use Rattle.gb_product.specs.Below.gb_abs_effects.declared.writes.AbsWrite.TheVariants as write
use Rattle.gb_product.specs.Below.gb_abs_effects.Sound.{HasBytes, HoldsWrite, IsWrite}
use Rattle.gb_successors.specs.declared.stacks.Stack.{Stack}
use Rattle.gb_successors.specs.StackMark.{is_moved_to, takes_mark, is_whole_by, marks, marked_write, marked_core}
use Rattle.gb_successors.specs.Stacks.{address_below}
use Rattle.std.proofs.Common.{Some, None, nat_le}
use Rattle.std.proofs.lemmas.Bool.Decides.{nat_tests}
use Rattle.gb_ops.specs.declared.machine.Region.{Region}
use Rattle.gb_domain.specs.Areas.{IsRegion}
use Rattle.gb_product.specs.Below.gb_abs.Stack.{AreInRegion}
use Rattle.gb_product.specs.Below.gb_abs.Origins.{is_own}
use Rattle.gb_successors.specs.Stacks.{is_mark, held_at_mark, around_of}
use Rattle.gb_successors.proofs.SpMoveLaws.{IsBelow}

none_taken : false ≡ true → ⊥
none_taken h = cc

and_false : (b : Bool) → (b && false) ≡ false
and_false true = refl
and_false false = refl

-- ---- where nothing takes it

-- by the rules of versions 1 and 2
pub marks_simply : (k : Stack) (o : Op) (s : AbsState) (c : Core) → k.setting.rules ≡ Simple → marks k o s c ≡ false
unfolding marks
marks_simply k o s c h =
    let t = takes_mark o c.registers (length s.items) k.mark in
    ap (λ r. t && (is_whole_by r k.setting.is_whole && is_located s)) h ∙ and_false t

-- ---- what stays

pub marked_core_not : (o : Op) (c : Core) → marked_core o false c ≡ c
marked_core_not (op.StoreSp w) c = refl
marked_core_not o c = refl

pub marked_write_not : (w : AbsWrite) → marked_write w false ≡ w
marked_write_not (write.Word a low high) = refl
marked_write_not (write.Byte span v) = refl
marked_write_not (write.Push high low) = refl
marked_write_not write.Nothing = refl

IsVal-own : (o : Origin) (v : Val) → IsVal v → IsVal (own o v)
IsVal-own o v h = record { order = h.order; hi = h.hi; strided = h.strided }

pub IsWrite-marked : (w : AbsWrite) (b : Bool) → IsWrite w → IsWrite (marked_write w b)
IsWrite-marked (write.Word a low high) true h = (IsVal-own MarkLow low h.0, IsVal-own MarkHigh high h.1)
IsWrite-marked (write.Word a low high) false h = h
IsWrite-marked (write.Byte span v) b h = h
IsWrite-marked (write.Push high low) b h = h
IsWrite-marked write.Nothing b h = h

-- HL is that address
abbrev held_in_hl : Core → Core
held_in_hl c = record c { registers = record c.registers { h = own MarkHigh c.registers.h; l = own MarkLow c.registers.l } }

IsCore-held : (c : Core) → IsCore c → IsCore (held_in_hl c)
IsCore-held c h = record { ime = h.ime; bound = h.bound; ctl = h.ctl; flags = h.flags; ie = h.ie; registers = by }
  where
    by : (r : Register) → IsVal (get r (held_in_hl c).registers)
    by A = h.registers A
    by B = h.registers B
    by C = h.registers C
    by D = h.registers D
    by E = h.registers E
    by H = IsVal-own MarkHigh c.registers.h (h.registers H)
    by L = IsVal-own MarkLow c.registers.l (h.registers L)

pub IsCore-marked : (o : Op) (b : Bool) (c : Core) → IsCore c → IsCore (marked_core o b c)
IsCore-marked (op.StoreSp w) b c h = h
IsCore-marked o true c h = IsCore-held c h
IsCore-marked o false c h = h

-- ---- what the machine's instruction gives

-- a word that it stores is this number
abbrev pub IsStored : Write → ℕ → Type 0
IsStored (machine_write.Word a n) m = n ≡ m
IsStored _ m = Unit {0}

-- where none is stored, HL is
abbrev pub IsHeld : Op → Effect → ℕ → Type 0
IsHeld (op.StoreSp w) e m = Unit {0}
IsHeld o e m = (e.processor.registers.h ≡ m / 256) × (e.processor.registers.l ≡ m % 256)

pub record Takes (o : Op) (e : Effect) (m : ℕ) : Type 0 where
  pub stored : IsStored e.write m
  pub held : IsHeld o e m

-- SP with so many bytes held, moved by a number
moved_below : (sp e8 held mark base : ℕ) → is_moved_to e8 held mark ≡ true → e8 < 256 → sp + held ≡ base → held ≤ 65408 → displaced sp e8 ≡ address_below base mark
unfolding displaced
moved_below sp e8 held mark base h small at few = choose (nat_lt e8 128) refl h
  where
    choose : (t : Bool) → nat_lt e8 128 ≡ t → cond t (held == mark + e8) (held + (256 - e8) == mark) ≡ true → (sp + cond t e8 (e8 + 65280)) % 65536 ≡ (base + (65536 - mark)) % 65536
    choose true less e =
        let is : held ≡ mark + e8 = eqb-true held (mark + e8) e in
        omega arith
    choose false less e =
        let is : held + (256 - e8) ≡ mark = eqb-true (held + (256 - e8)) mark e in
        let large : 128 ≤ e8 = grind (arith, nat_tests) in
        omega arith

zero_of : (n m : ℕ) → (m == 0) ≡ true → n ≤ m → n ≡ 0
zero_of n m h le = let is : m ≡ 0 = eqb-true m 0 h in omega arith

pub takes :
    (o : Op) (p : Processor) (l h : ℕ) (vals : Registers Val) (held mark base m : ℕ) → takes_mark o vals held mark ≡ true → HasBytes o → p.sp < 65536 → p.sp + held ≡ base → held ≤ 65408
    → m ≡ address_below base mark → p.registers.h ≤ vals.h.hi → p.registers.l ≤ vals.l.hi → Takes o (Effects.effect_of o p l h) m
unfolding Effects.effect_of with_pair pair_value
takes (op.LoadHlSp e8) p l h vals held mark base m is bytes sp at few e high low =
    let same : displaced p.sp e8 ≡ m = moved_below p.sp e8 held mark base is bytes at few ∙ sym e in
    record { stored = tt; held = (ap (λ n. n / 256) same, ap (λ n. n % 256) same) }
takes (op.AddHl pair.Sp) p l h vals held mark base m is bytes sp at few e high low =
    let both = and_parts (held == mark) (vals.h.hi == 0 && vals.l.hi == 0) is in
    let bytes = and_parts (vals.h.hi == 0) (vals.l.hi == 0) both.1 in
    let count : held ≡ mark = eqb-true held mark both.0 in
    let hi : p.registers.h ≡ 0 = zero_of p.registers.h vals.h.hi bytes.0 high in
    let lo : p.registers.l ≡ 0 = zero_of p.registers.l vals.l.hi bytes.1 low in
    let same : (256 * p.registers.h + p.registers.l + p.sp) % 65536 ≡ m = omega arith in
    record { stored = tt; held = (ap (λ n. n / 256) same, ap (λ n. n % 256) same) }
takes (op.StoreSp w) p l h vals held mark base m is bytes sp at few e high low =
    let count : held ≡ mark = eqb-true held mark is in
    record { stored = omega arith; held = tt }
takes o p l h vals held mark base m is bytes sp at few e high low = absurd (none_taken is)

-- a region holds fewer bytes than the address space has above its first address
pub few_held : (region : Region) (base n : ℕ) → IsRegion region → AreInRegion region base n → n ≤ 65408
few_held region base n is room =
    let area = is.area in
    let first = room.first in
    let last = room.last in
    grind (arith, nat_tests)

-- ---- where SP comes back

-- HL is the mark's address, and as many bytes may be held
pub record IsBack (k : Stack) (core : Core) (n : ℕ) : Type 0 where
  pub count : n ≡ k.mark
  pub few : n ≤ 255
  pub fits : n ≤ k.need
  pub high : is_own MarkHigh core.registers.h ≡ true
  pub low : is_own MarkLow core.registers.l ≡ true

some_same : (n m : ℕ) → Some n ≡ Some m → n ≡ m
some_same n m e = cc

pub back_of : (k : Stack) (s : AbsState) (core : Core) (n : ℕ) → (around_of k s core).back ≡ Some n → IsBack k core n
unfolding around_of
back_of k s core n e = whole k.setting.is_whole e
  where
    by : (t : Bool) → (core.stack_set && (is_mark core.registers && (nat_le k.mark k.need && nat_le k.mark 255))) ≡ t → cond t (Some k.mark) None ≡ Some n → IsBack k core n
    by true f same =
        let set = and_parts core.stack_set (is_mark core.registers && (nat_le k.mark k.need && nat_le k.mark 255)) f in
        let parts = and_parts (is_mark core.registers) (nat_le k.mark k.need && nat_le k.mark 255) set.1 in
        let own = and_parts (is_own MarkHigh core.registers.h) (is_own MarkLow core.registers.l) parts.0 in
        let fits = and_parts (nat_le k.mark k.need) (nat_le k.mark 255) parts.1 in
        let need = fits.0 in
        let most = fits.1 in
        let count : k.mark ≡ n = some_same k.mark n same in
        let few : k.mark ≤ 255 = grind (arith, nat_tests) in
        let enough : k.mark ≤ k.need = grind (arith, nat_tests) in
        record { count = sym count; few = omega arith; fits = omega arith; high = own.0; low = own.1 }
    by false f same = absurd (let bad : None ≡ Some n = same in cc)

    whole : (w : Bool) → cond w (held_at_mark k core) None ≡ Some n → IsBack k core n
    whole true same = by _ refl same
    whole false same = absurd (let bad : None ≡ Some n = same in cc)

-- that address lies so many bytes below the base
pub back_below : (region : Region) (base n after : ℕ) → after ≡ address_below base n → n ≤ 255 → AreInRegion region base n → IsRegion region → IsBelow base n after
back_below region base n after at few room is =
    let area = is.area in
    let first = room.first in
    let last = room.last in
    let small : region.last < 0xFFFF = grind (arith, nat_tests) in
    record { at = omega arith; few = few }

-- ---- what is known of it

Holds-own : (o : Origin) (v : Val) (entry : Activation) (x : ℕ) → x ≡ origin_value o entry → Holds v entry x → Holds (own o v) entry x
Holds-own o v entry x e h = record { least = h.least; most = h.most; low = h.low; origin = λ q same. by q (same_origin q same) }
  where
    same_origin : (q : Origin) → Some o ≡ Some q → o ≡ q
    same_origin q f = cc

    by : (q : Origin) → o ≡ q → x ≡ origin_value q entry
    by q f = subst (λ r. x ≡ origin_value r entry) f e

pub HoldsWrite-marked : (w : AbsWrite) (b : Bool) (entry : Activation) (sp : ℕ) (m : Write) → (b ≡ true → IsStored m entry.mark) → HoldsWrite w entry sp m → HoldsWrite (marked_write w b) entry sp m
HoldsWrite-marked (write.Word a low high) true entry sp (machine_write.Word c n) is h =
    let same = is refl in
    (h.0, Holds-own MarkLow low entry (n % 256) (ap (λ i. i % 256) same) h.1, Holds-own MarkHigh high entry (n / 256) (ap (λ i. i / 256) same) h.2)
HoldsWrite-marked (write.Word a low high) true entry sp machine_write.Nothing is h = absurd h
HoldsWrite-marked (write.Word a low high) true entry sp (machine_write.Byte c n) is h = absurd h
HoldsWrite-marked (write.Word a low high) true entry sp (machine_write.Push c n) is h = absurd h
HoldsWrite-marked (write.Word a low high) false entry sp m is h = h
HoldsWrite-marked (write.Byte span v) b entry sp m is h = h
HoldsWrite-marked (write.Push high low) b entry sp m is h = h
HoldsWrite-marked write.Nothing b entry sp m is h = h

MeansCore-held :
    (c : Core) (entry : Activation) (x : MState) → x.processor.registers.h ≡ entry.mark / 256 → x.processor.registers.l ≡ entry.mark % 256 → MeansCore c entry x → MeansCore (held_in_hl c) entry x
MeansCore-held c entry x high low m =
    record {
      registers = by;
      flags = m.flags;
      ie = m.ie;
      ime = m.ime;
      controller = m.controller;
      count = m.count;
      locked = m.locked;
      stopped = m.stopped;
    }
  where
    by : (r : Register) → Holds (get r (held_in_hl c).registers) entry (get r x.processor.registers)
    by A = m.registers A
    by B = m.registers B
    by C = m.registers C
    by D = m.registers D
    by E = m.registers E
    by H = Holds-own MarkHigh c.registers.h entry x.processor.registers.h high (m.registers H)
    by L = Holds-own MarkLow c.registers.l entry x.processor.registers.l low (m.registers L)

pub MeansCore-marked :
    (o : Op) (b : Bool) (c : Core) (entry : Activation) (x : MState) (e : Effect) → e.processor ≡ x.processor → (b ≡ true → IsHeld o e entry.mark) → MeansCore c entry x → MeansCore (marked_core o b c) entry x
MeansCore-marked (op.StoreSp w) b c entry x e same is m = m
MeansCore-marked o false c entry x e same is m = m
MeansCore-marked o true c entry x e same is m =
    let held = is refl in
    MeansCore-held c entry x (ap (λ p. p.registers.h) (sym same) ∙ held.0) (ap (λ p. p.registers.l) (sym same) ∙ held.1) m
