-- What instructions on a byte do is followed: by operands, by A, and by flags.
use Rattle.std.proofs.Common.{◌≡◌, ℕ, ◌≤◌, false, None}
use Rattle.gb_ops.specs.declared.op.Register.TheVariants.{A}
use Rattle.gb_ops.specs.declared.op.Operand.{Operand}
use Rattle.gb_ops.specs.declared.op.Operand.TheVariants as operand
use Rattle.gb_ops.specs.declared.registers.Flags.{Flags}
use Rattle.gb_ops.specs.declared.machine.Computed.{Computed}
use Rattle.gb_ops.specs.Effects as Effects
use Rattle.gb_ops.specs.Play.{MState}
use Rattle.gb_domain.specs.declared.types.Val.{Val}
use Rattle.gb_domain.specs.declared.types.Flg.{Flg}
use Rattle.gb_domain.specs.declared.types.Core.{Core}
use Rattle.gb_domain.specs.Rules.{IsVal, IsFlg, IsCore}
use Rattle.gb_abs.specs.Below.gb_vals.declared.outcome.AbsComputed.{AbsComputed}
use Rattle.gb_abs.specs.Below.gb_vals.Meaning.{In, FlagsIn, Gives, IsSound, IsSoundOfVal, IsSoundOfFlags, IsSoundOfTest, IsOutcome, IsComputed}
use Rattle.gb_abs.specs.Meaning.{Activation, Holds, HoldsFlags, MeansCore}
use Rattle.gb_abs.proofs.OperationLaws.{MeansCore-set_register, IsCore-set_register}
use Rattle.gb_abs_effects.specs.Transfer.{quiet, with_flags, operand_val, store_operand, update_operand, update_a}
use Rattle.gb_abs_effects.specs.Sound.{Follows, IsAbsEffect}
use Rattle.gb_abs_effects.proofs.CoreLaws.{In-from, FlagsIn-from, Holds-computed, HoldsFlags-written, byte-of, MeansCore-flags, MeansCore-a, IsCore-flags, IsCore-a}
use Rattle.gb_abs_effects.proofs.ReadLaws.{IsIn-hl, hl_span-last}

-- ---- operands

pub Holds-operand :
    (which : Operand) (s : Core) (entry : Activation) (x : MState) (low : Val) (l : ℕ)
    → Holds low entry l → MeansCore s entry x → Holds (operand_val which s low) entry (Effects.operand_value x.processor which l)
unfolding operand_val Effects.operand_value
Holds-operand (operand.Register r) s entry x low l h m = m.registers r
Holds-operand operand.AtHl s entry x low l h m = h

pub operand-byte : (which : Operand) (s : Core) (low : Val) → IsVal low → IsCore s → IsVal (operand_val which s low)
unfolding operand_val
operand-byte (operand.Register r) s low h is = is.registers r
operand-byte operand.AtHl s low h is = h

pub Follows-store_operand :
    (to : Operand) (s : Core) (entry : Activation) (x : MState) (v : Val) (n : ℕ)
    → Holds v entry n → n ≤ 255 → MeansCore s entry x
    → Follows (store_operand to v s) entry x (Effects.store_operand x.processor to n)
unfolding store_operand Effects.store_operand
Follows-store_operand (operand.Register r) s entry x v n h byte m =
    record { core = MeansCore-set_register s entry x r v n h m; write = tt }
Follows-store_operand operand.AtHl s entry x v n h byte m = record { core = m; write = (IsIn-hl s entry x m, h, byte) }

pub IsAbsEffect-store_operand : (to : Operand) (s : Core) (v : Val) → IsVal v → IsCore s → IsAbsEffect (store_operand to v s)
unfolding store_operand
IsAbsEffect-store_operand (operand.Register r) s v h is = record { core = IsCore-set_register s r v h is; write = tt; at = tt }
IsAbsEffect-store_operand operand.AtHl s v h is = record { core = is; write = h; at = hl_span-last s is }

-- the operand and the flags become what was computed
Follows-updated :
    (which : Operand) (s : Core) (entry : Activation) (x : MState) (o : AbsComputed) (c : Computed)
    → Gives o c → IsComputed o → IsOutcome o → MeansCore s entry x
    → Follows (update_operand which o s) entry x (Effects.update_operand x.processor which c)
unfolding update_operand Effects.update_operand
Follows-updated which s entry x o c gives computed is m =
    let value : Holds o.val entry c.value = Holds-computed o.val entry c.value gives.value computed.origin in
    let flags : HoldsFlags o.flags entry c.flags = HoldsFlags-written o.flags entry c.flags gives.flags computed.own in
    let stored = Follows-store_operand which (with_flags o.flags s) entry (record x { processor = Effects.with_flags x.processor c.flags }) o.val c.value value (byte-of o.val entry c.value is.val value) (MeansCore-flags s entry x o.flags c.flags flags m) in
    record { core = stored.core; write = stored.write }

pub Follows-update_operand :
    (machine : ℕ → Flags → Computed) (which : Operand) (s : Core) (entry : Activation) (x : MState) (low : Val) (l : ℕ) (o : AbsComputed)
    → IsSound machine (operand_val which s low) s.flags o → IsComputed o → IsOutcome o
    → Holds low entry l → MeansCore s entry x
    → Follows (update_operand which o s) entry x (Effects.update_operand x.processor which (machine (Effects.operand_value x.processor which l) x.processor.flags))
Follows-update_operand machine which s entry x low l o sound computed is h m =
    let held = Holds-operand which s entry x low l h m in
    Follows-updated which s entry x o (machine (Effects.operand_value x.processor which l) x.processor.flags) (sound.gives (Effects.operand_value x.processor which l) x.processor.flags (In-from (operand_val which s low) entry (Effects.operand_value x.processor which l) held) (FlagsIn-from s.flags entry x.processor.flags m.flags)) computed is m

pub IsAbsEffect-update_operand : (which : Operand) (s : Core) (o : AbsComputed) → IsOutcome o → IsCore s → IsAbsEffect (update_operand which o s)
unfolding update_operand
IsAbsEffect-update_operand which s o is core = IsAbsEffect-store_operand which (with_flags o.flags s) o.val is.val (IsCore-flags s o.flags is.flags core)

-- the operand becomes what was computed of it
pub Follows-change_operand :
    (machine : ℕ → ℕ) (which : Operand) (s : Core) (entry : Activation) (x : MState) (low : Val) (l : ℕ) (v : Val)
    → IsSoundOfVal machine (operand_val which s low) v → v.origin ≡ None → IsVal v
    → Holds low entry l → MeansCore s entry x
    → Follows (store_operand which v s) entry x (Effects.store_operand x.processor which (machine (Effects.operand_value x.processor which l)))
Follows-change_operand machine which s entry x low l v sound computed is h m =
    let held = Holds-operand which s entry x low l h m in
    let n = machine (Effects.operand_value x.processor which l) in
    let in_v : In v n = sound.gives (Effects.operand_value x.processor which l) (In-from (operand_val which s low) entry (Effects.operand_value x.processor which l) held) in
    let value : Holds v entry n = Holds-computed v entry n in_v computed in
    Follows-store_operand which s entry x v n value (byte-of v entry n is value) m

-- ---- A

pub Follows-update_a :
    (s : Core) (entry : Activation) (x : MState) (o : AbsComputed) (c : Computed)
    → Holds o.val entry c.value → HoldsFlags o.flags entry c.flags → MeansCore s entry x
    → Follows (update_a o s) entry x (Effects.update_a x.processor c)
unfolding update_a Effects.update_a
Follows-update_a s entry x o c value flags m =
    record { core = MeansCore-a s entry x o.val o.flags c.value c.flags value flags m; write = tt }

-- A and the flags become what was computed of them
pub Follows-change_a :
    (machine : ℕ → Flags → Computed) (s : Core) (entry : Activation) (x : MState) (o : AbsComputed)
    → IsSound machine s.registers.a s.flags o → IsComputed o → MeansCore s entry x
    → Follows (update_a o s) entry x (Effects.update_a x.processor (machine x.processor.registers.a x.processor.flags))
Follows-change_a machine s entry x o sound computed m =
    let a = x.processor.registers.a in
    let g = x.processor.flags in
    let gives : Gives o (machine a g) = sound.gives a g (In-from s.registers.a entry a (m.registers A)) (FlagsIn-from s.flags entry g m.flags) in
    Follows-update_a s entry x o (machine a g) (Holds-computed o.val entry (machine a g).value gives.value computed.origin) (HoldsFlags-written o.flags entry (machine a g).flags gives.flags computed.own) m

pub IsAbsEffect-update_a : (s : Core) (o : AbsComputed) → IsOutcome o → IsCore s → IsAbsEffect (update_a o s)
unfolding update_a
IsAbsEffect-update_a s o is core = record { core = IsCore-a s o.val o.flags is.val is.flags core; write = tt; at = tt }

-- ---- flags

pub flags-follow :
    (s : Core) (entry : Activation) (x : MState) (f : Flg) (g : Flags)
    → FlagsIn f g → f.is_own ≡ false → MeansCore s entry x
    → Follows (quiet (with_flags f s)) entry x (Effects.quiet (Effects.with_flags x.processor g))
flags-follow s entry x f g h written m =
    record { core = MeansCore-flags s entry x f g (HoldsFlags-written f entry g h written) m; write = tt }

pub Follows-change_flags :
    (machine : Flags → Flags) (s : Core) (entry : Activation) (x : MState) (f : Flg)
    → IsSoundOfFlags machine s.flags f → f.is_own ≡ false → MeansCore s entry x
    → Follows (quiet (with_flags f s)) entry x (Effects.quiet (Effects.with_flags x.processor (machine x.processor.flags)))
Follows-change_flags machine s entry x f sound written m =
    flags-follow s entry x f (machine x.processor.flags) (sound.gives x.processor.flags (FlagsIn-from s.flags entry x.processor.flags m.flags)) written m

pub Follows-test_operand :
    (machine : ℕ → Flags → Flags) (which : Operand) (s : Core) (entry : Activation) (x : MState) (low : Val) (l : ℕ) (f : Flg)
    → IsSoundOfTest machine (operand_val which s low) s.flags f → f.is_own ≡ false
    → Holds low entry l → MeansCore s entry x
    → Follows (quiet (with_flags f s)) entry x (Effects.quiet (Effects.with_flags x.processor (machine (Effects.operand_value x.processor which l) x.processor.flags)))
Follows-test_operand machine which s entry x low l f sound written h m =
    let n = Effects.operand_value x.processor which l in
    let held : Holds (operand_val which s low) entry n = Holds-operand which s entry x low l h m in
    flags-follow s entry x f (machine n x.processor.flags) (sound.gives n x.processor.flags (In-from (operand_val which s low) entry n held) (FlagsIn-from s.flags entry x.processor.flags m.flags)) written m

pub IsAbsEffect-flags : (s : Core) (f : Flg) → IsFlg f → IsCore s → IsAbsEffect (quiet (with_flags f s))
IsAbsEffect-flags s f h is = record { core = IsCore-flags s f h is; write = tt; at = tt }
