-- Instructions that leave SP, or set it: what they leave of a core, and that they neither push nor pop.
use Rattle.std.proofs.Common.{◌≡◌, ℕ, ◌<◌, Bool, true, false, cond, ◌⊎◌, inl, inr, refl, sym, ◌∙◌, subst, arith}
use Rattle.gb_ops.specs.declared.op.Register.{Register}
use Rattle.gb_ops.specs.declared.op.Register.TheVariants.{A, B, C, D, E, H, L}
use Rattle.gb_ops.specs.declared.op.Pair.{Pair}
use Rattle.gb_ops.specs.declared.op.Pair.TheVariants as pair
use Rattle.gb_ops.specs.declared.op.StackPair.{StackPair}
use Rattle.gb_ops.specs.declared.op.StackPair.TheVariants as stack
use Rattle.gb_ops.specs.declared.op.Indirect.{Indirect}
use Rattle.gb_ops.specs.declared.op.Indirect.TheVariants as indirect
use Rattle.gb_ops.specs.declared.op.Operand.{Operand}
use Rattle.gb_ops.specs.declared.op.Operand.TheVariants as operand
use Rattle.gb_ops.specs.declared.op.AluOp.{AluOp}
use Rattle.gb_ops.specs.declared.op.Op.{Op}
use Rattle.gb_ops.specs.declared.op.Op.TheVariants as op
use Rattle.gb_domain.specs.declared.types.Val.{Val}
use Rattle.gb_domain.specs.declared.types.Core.{Core}
use Rattle.gb_domain.specs.Rules.{IsVal, IsCore}
use Rattle.gb_product.specs.Below.gb_abs.declared.span.Span.{Span}
use Rattle.gb_product.specs.Below.gb_abs.Span.{pair_span}
use Rattle.gb_product.specs.Below.gb_abs.Operations.{core_set_register, core_settle}
use Rattle.gb_domain.specs.declared.types.Halves.{Halves}
use Rattle.gb_product.specs.Below.gb_abs_effects.declared.reads.AbsRead.{AbsRead}
use Rattle.gb_product.specs.Below.gb_abs_effects.declared.reads.AbsRead.TheVariants as read
use Rattle.gb_product.specs.Below.gb_abs_effects.declared.writes.AbsWrite.{AbsWrite}
use Rattle.gb_product.specs.Below.gb_abs_effects.declared.writes.AbsWrite.TheVariants as write
use Rattle.gb_product.specs.Below.gb_abs_effects.Accesses.{hl_span, indirect_span, high_span, operand_read, read_of}
use Rattle.gb_product.specs.Below.gb_abs_effects.Pairs.{is_word_known, pair_halves, with_pair, with_indirect, with_stack_pair}
use Rattle.gb_product.specs.Sound.{IsCutCore}
use Rattle.gb_product.specs.Below.gb_abs_effects.declared.targets.Target.{Target}
use Rattle.gb_product.specs.Below.gb_abs_effects.declared.targets.Target.TheVariants as target
use Rattle.gb_product.specs.Below.gb_abs_effects.Targets.{moves_sp, target_of}
use Rattle.gb_product.specs.Below.gb_abs_effects.Transfer.{transfer, store_operand, update_operand, update_a, apply_alu}
use Rattle.gb_product.specs.Below.gb_abs_effects.Sound.{HasBytes}

-- ---- what stays of a core

-- the controller, the bound, IE and the stack are the same
pub record Keeps (s c : Core) : Type 0 where
  pub ctl : c.ctl ≡ s.ctl
  pub bound : c.bound ≡ s.bound
  pub ie : c.ie ≡ s.ie
  pub stack : c.stack_set ≡ s.stack_set

pub Keeps-both : (a b c : Core) → Keeps a b → Keeps b c → Keeps a c
Keeps-both a b c h k = record { ctl = k.ctl ∙ h.ctl; bound = k.bound ∙ h.bound; ie = k.ie ∙ h.ie; stack = k.stack ∙ h.stack }

Keeps-itself : (s : Core) → Keeps s s
Keeps-itself s = record { ctl = refl; bound = refl; ie = refl; stack = refl }

pub Keeps-settle : (s : Core) → Keeps s (core_settle s)
unfolding core_settle
Keeps-settle s = record { ctl = refl; bound = refl; ie = refl; stack = refl }

pub Keeps-cut : (s c : Core) → IsCutCore s c → Keeps s c
Keeps-cut s c h = record { ctl = h.ctl; bound = h.bound; ie = h.ie; stack = h.stack_set }

Keeps-set : (r : Register) (v : Val) (s c : Core) → Keeps s c → Keeps s (core_set_register r v c)
unfolding core_set_register
Keeps-set r v s c h = record { ctl = h.ctl; bound = h.bound; ie = h.ie; stack = h.stack }

Keeps-pair : (which : Pair) (w : Halves) (s c : Core) → Keeps s c → Keeps s (with_pair which w c)
unfolding with_pair
Keeps-pair pair.Bc w s c h = record { ctl = h.ctl; bound = h.bound; ie = h.ie; stack = h.stack }
Keeps-pair pair.De w s c h = record { ctl = h.ctl; bound = h.bound; ie = h.ie; stack = h.stack }
Keeps-pair pair.Hl w s c h = record { ctl = h.ctl; bound = h.bound; ie = h.ie; stack = h.stack }
Keeps-pair pair.Sp w s c h = h

Keeps-indirect : (whole : Bool) (which : Indirect) (s : Core) → Keeps s (with_indirect whole which s)
unfolding with_indirect
Keeps-indirect whole indirect.Bc s = Keeps-itself s
Keeps-indirect whole indirect.De s = Keeps-itself s
Keeps-indirect whole indirect.HlIncrement s = Keeps-pair pair.Hl _ s s (Keeps-itself s)
Keeps-indirect whole indirect.HlDecrement s = Keeps-pair pair.Hl _ s s (Keeps-itself s)

Keeps-stack_pair : (which : StackPair) (w : Halves) (s : Core) → Keeps s (with_stack_pair which w s)
unfolding with_stack_pair
Keeps-stack_pair stack.Bc w s = Keeps-pair pair.Bc w s s (Keeps-itself s)
Keeps-stack_pair stack.De w s = Keeps-pair pair.De w s s (Keeps-itself s)
Keeps-stack_pair stack.Hl w s = Keeps-pair pair.Hl w s s (Keeps-itself s)
Keeps-stack_pair stack.Af w s = record { ctl = refl; bound = refl; ie = refl; stack = refl }

Keeps-store : (to : Operand) (v : Val) (s c : Core) → Keeps s c → Keeps s (store_operand to v c).core
unfolding store_operand
Keeps-store (operand.Register r) v s c h = Keeps-set r v s c h
Keeps-store operand.AtHl v s c h = h

Keeps-alu : (whole : Bool) (how : AluOp) (from : Operand) (s : Core) (low : Val) → Keeps s (apply_alu whole how from s low).core
unfolding apply_alu update_a
Keeps-alu whole how (operand.Register A) s low = record { ctl = refl; bound = refl; ie = refl; stack = refl }
Keeps-alu whole how (operand.Register r) s low = record { ctl = refl; bound = refl; ie = refl; stack = refl }
Keeps-alu whole how operand.AtHl s low = record { ctl = refl; bound = refl; ie = refl; stack = refl }

pub Keeps-transfer : (whole : Bool) (o : Op) (next : ℕ) (sp : Halves) (s : Core) (low high : Val) → Keeps s (transfer whole o next sp s low high).core
unfolding transfer update_operand update_a
Keeps-transfer whole (op.LoadPair to w) next sp s low high = Keeps-pair to _ s s (Keeps-itself s)
Keeps-transfer whole (op.StoreA to) next sp s low high = Keeps-indirect whole to s
Keeps-transfer whole (op.LoadA from) next sp s low high = Keeps-set A low s _ (Keeps-indirect whole from s)
Keeps-transfer whole (op.IncrementPair which) next sp s low high = Keeps-pair which _ s s (Keeps-itself s)
Keeps-transfer whole (op.DecrementPair which) next sp s low high = Keeps-pair which _ s s (Keeps-itself s)
Keeps-transfer whole (op.Increment which) next sp s low high = Keeps-store which _ s _ (record { ctl = refl; bound = refl; ie = refl; stack = refl })
Keeps-transfer whole (op.Decrement which) next sp s low high = Keeps-store which _ s _ (record { ctl = refl; bound = refl; ie = refl; stack = refl })
Keeps-transfer whole (op.LoadImmediate to v) next sp s low high = Keeps-store to _ s s (Keeps-itself s)
Keeps-transfer whole (op.AddHl which) next sp s low high =
    let h = Keeps-pair pair.Hl _ s s (Keeps-itself s) in
    record { ctl = h.ctl; bound = h.bound; ie = h.ie; stack = h.stack }
Keeps-transfer whole (op.Load to from) next sp s low high = Keeps-store to _ s s (Keeps-itself s)
Keeps-transfer whole (op.Alu how from) next sp s low high = Keeps-alu whole how from s low
Keeps-transfer whole (op.Pop to) next sp s low high = Keeps-stack_pair to _ s
Keeps-transfer whole (op.LoadHigh b) next sp s low high = Keeps-set A low s s (Keeps-itself s)
Keeps-transfer whole op.LoadHighC next sp s low high = Keeps-set A low s s (Keeps-itself s)
Keeps-transfer whole (op.LoadAbsolute w) next sp s low high = Keeps-set A low s s (Keeps-itself s)
Keeps-transfer whole (op.LoadHlSp e8) next sp s low high =
    let h = Keeps-pair pair.Hl _ s s (Keeps-itself s) in
    record { ctl = h.ctl; bound = h.bound; ie = h.ie; stack = h.stack }
Keeps-transfer whole (op.Shift how which) next sp s low high = Keeps-store which _ s _ (record { ctl = refl; bound = refl; ie = refl; stack = refl })
Keeps-transfer whole (op.Reset n which) next sp s low high = Keeps-store which _ s s (Keeps-itself s)
Keeps-transfer whole (op.Set n which) next sp s low high = Keeps-store which _ s s (Keeps-itself s)
Keeps-transfer whole o next sp s low high = record { ctl = refl; bound = refl; ie = refl; stack = refl }

-- ---- addresses

-- the addresses of a read are addresses, and it is no word
abbrev pub IsPlainRead : AbsRead → Type 0
IsPlainRead read.Nothing = Unit {0}
IsPlainRead (read.Byte span) = span.last < 65536
IsPlainRead read.Top = ⊥
IsPlainRead (read.Word span) = ⊥

abbrev pub IsPlainWrite : AbsWrite → Type 0
IsPlainWrite write.Nothing = Unit {0}
IsPlainWrite (write.Byte span v) = span.last < 65536
IsPlainWrite (write.Word a low high) = a < 65536
IsPlainWrite (write.Push high low) = ⊥

small_pair : (high low : Val) → IsVal high → IsVal low → (pair_span high low).last < 65536
unfolding pair_span
small_pair high low h l =
    let a = h.hi in
    let b = l.hi in
    omega arith

small_hl : (s : Core) → IsCore s → (hl_span s).last < 65536
unfolding hl_span
small_hl s c = small_pair s.registers.h s.registers.l (c.registers H) (c.registers L)

small_indirect : (which : Indirect) (s : Core) → IsCore s → (indirect_span which s).last < 65536
unfolding indirect_span
small_indirect indirect.Bc s c = small_pair s.registers.b s.registers.c (c.registers B) (c.registers C)
small_indirect indirect.De s c = small_pair s.registers.d s.registers.e (c.registers D) (c.registers E)
small_indirect indirect.HlIncrement s c = small_hl s c
small_indirect indirect.HlDecrement s c = small_hl s c

small_high : (s : Core) → IsCore s → (high_span s).last < 65536
unfolding high_span
small_high s c = small_pair _ s.registers.c (record { order = omega arith; hi = omega arith; strided = refl }) (c.registers C)

IsPlainRead-operand : (which : Operand) (s : Core) → IsCore s → IsPlainRead (operand_read which s)
unfolding operand_read
IsPlainRead-operand (operand.Register r) s c = tt
IsPlainRead-operand operand.AtHl s c = small_hl s c

pub IsPlainRead-read_of : (o : Op) (s : Core) → moves_sp o ≡ false → HasBytes o → IsCore s → IsPlainRead (read_of o s)
unfolding read_of
IsPlainRead-read_of (op.LoadA from) s e b c = small_indirect from s c
IsPlainRead-read_of (op.Increment which) s e b c = IsPlainRead-operand which s c
IsPlainRead-read_of (op.Decrement which) s e b c = IsPlainRead-operand which s c
IsPlainRead-read_of (op.Load to from) s e b c = IsPlainRead-operand from s c
IsPlainRead-read_of (op.Alu how which) s e b c = IsPlainRead-operand which s c
IsPlainRead-read_of (op.ReturnIf condition) s e b c = cc
IsPlainRead-read_of op.Return s e b c = cc
IsPlainRead-read_of op.ReturnFromInterrupt s e b c = cc
IsPlainRead-read_of (op.Pop pair) s e b c = cc
IsPlainRead-read_of (op.LoadHigh n) s e b c = let small : n < 256 = b in omega arith
IsPlainRead-read_of op.LoadHighC s e b c = small_high s c
IsPlainRead-read_of (op.LoadAbsolute w) s e b c = b
IsPlainRead-read_of (op.Shift how which) s e b c = IsPlainRead-operand which s c
IsPlainRead-read_of (op.Bit n which) s e b c = IsPlainRead-operand which s c
IsPlainRead-read_of (op.Reset n which) s e b c = IsPlainRead-operand which s c
IsPlainRead-read_of (op.Set n which) s e b c = IsPlainRead-operand which s c
IsPlainRead-read_of o s e b c = tt

IsPlainWrite-store : (to : Operand) (v : Val) (s c : Core) → hl_span c ≡ hl_span s → IsCore s → IsPlainWrite (store_operand to v c).write
unfolding store_operand
IsPlainWrite-store (operand.Register r) v s c e h = tt
IsPlainWrite-store operand.AtHl v s c e h = subst (λ (x : Span). x.last < 65536) (sym e) (small_hl s h)

IsPlainWrite-alu : (whole : Bool) (how : AluOp) (from : Operand) (s : Core) (low : Val) → IsPlainWrite (apply_alu whole how from s low).write
unfolding apply_alu update_a
IsPlainWrite-alu whole how (operand.Register A) s low = tt
IsPlainWrite-alu whole how (operand.Register r) s low = tt
IsPlainWrite-alu whole how operand.AtHl s low = tt

pub IsPlainWrite-transfer : (whole : Bool) (o : Op) (next : ℕ) (sp : Halves) (s : Core) (low high : Val) → moves_sp o ≡ false → HasBytes o → IsCore s → IsPlainWrite (transfer whole o next sp s low high).write
unfolding transfer update_operand update_a hl_span
IsPlainWrite-transfer whole (op.StoreA to) next sp s low high e b c = small_indirect to s c
IsPlainWrite-transfer whole (op.Increment which) next sp s low high e b c = IsPlainWrite-store which _ s _ refl c
IsPlainWrite-transfer whole (op.Decrement which) next sp s low high e b c = IsPlainWrite-store which _ s _ refl c
IsPlainWrite-transfer whole (op.LoadImmediate to v) next sp s low high e b c = IsPlainWrite-store to _ s s refl c
IsPlainWrite-transfer whole (op.StoreSp w) next sp s low high e b c = b
IsPlainWrite-transfer whole (op.Load to from) next sp s low high e b c = IsPlainWrite-store to _ s s refl c
IsPlainWrite-transfer whole (op.Alu how from) next sp s low high e b c = IsPlainWrite-alu whole how from s low
IsPlainWrite-transfer whole (op.Push from) next sp s low high e b c = cc
IsPlainWrite-transfer whole (op.CallIf condition w) next sp s low high e b c = cc
IsPlainWrite-transfer whole (op.Call w) next sp s low high e b c = cc
IsPlainWrite-transfer whole (op.Restart w) next sp s low high e b c = cc
IsPlainWrite-transfer whole (op.StoreHigh n) next sp s low high e b c = let small : n < 256 = b in omega arith
IsPlainWrite-transfer whole op.StoreHighC next sp s low high e b c = small_high s c
IsPlainWrite-transfer whole (op.StoreAbsolute w) next sp s low high e b c = b
IsPlainWrite-transfer whole (op.Shift how which) next sp s low high e b c = IsPlainWrite-store which _ s _ refl c
IsPlainWrite-transfer whole (op.Reset n which) next sp s low high e b c = IsPlainWrite-store which _ s s refl c
IsPlainWrite-transfer whole (op.Set n which) next sp s low high e b c = IsPlainWrite-store which _ s s refl c
IsPlainWrite-transfer whole o next sp s low high e b c = tt

-- ---- targets

-- an instruction that neither calls nor returns
abbrev pub IsPlainTarget : Target → Type 0
IsPlainTarget (target.Call a) = ⊥
IsPlainTarget target.Return = ⊥
IsPlainTarget _ = Unit {0}

plain_word : (b : Bool) (a : ℕ) → IsPlainTarget (cond b (target.At a) target.Unknown)
plain_word true a = tt
plain_word false a = tt

plain_still : (o : Op) (next : ℕ) (c : Core) → moves_sp o ≡ false → IsPlainTarget (target_of o next c)
unfolding target_of
plain_still (op.ReturnIf k) next c h = cc
plain_still op.Return next c h = cc
plain_still op.ReturnFromInterrupt next c h = cc
plain_still (op.CallIf k w) next c h = cc
plain_still (op.Call w) next c h = cc
plain_still (op.Restart w) next c h = cc
plain_still op.JumpHl next c h = plain_word (is_word_known (pair_halves pair.Hl c)) _
plain_still o next c h = tt

pub plain_target : (o : Op) (base next : ℕ) (c : Core) → (moves_sp o ≡ false) ⊎ (o ≡ op.LoadPair pair.Sp base) → IsPlainTarget (target_of o next c)
unfolding target_of
plain_target o base next c (inl still) = plain_still o next c still
plain_target o base next c (inr e) = subst (λ q. IsPlainTarget (target_of q next c)) (sym e) tt
