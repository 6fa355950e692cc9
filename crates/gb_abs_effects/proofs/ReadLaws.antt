-- What an instruction reads is what is said.
use Rattle.std.proofs.Common.{◌≡◌, ℕ, ◌+◌, ◌<◌, Bool, true, false, refl, sym, ◌∙◌, subst, arith}
use Rattle.std.proofs.lemmas.Bool.{true≢false}
use Rattle.gb_ops.specs.declared.op.Register.TheVariants.{B, C, D, E, H, L}
use Rattle.gb_ops.specs.declared.op.Indirect.{Indirect}
use Rattle.gb_ops.specs.declared.op.Indirect.TheVariants as indirect
use Rattle.gb_ops.specs.declared.op.Operand.{Operand}
use Rattle.gb_ops.specs.declared.op.Operand.TheVariants as operand
use Rattle.gb_ops.specs.declared.op.Op.{Op}
use Rattle.gb_ops.specs.declared.op.Op.TheVariants as op
use Rattle.gb_ops.specs.declared.registers.Processor.{Processor}
use Rattle.gb_ops.specs.declared.machine.Read.{Read}
use Rattle.gb_ops.specs.declared.machine.Read.TheVariants as machine_read
use Rattle.gb_ops.specs.Flags.{is_met}
use Rattle.gb_ops.specs.Pairs.{pair_value}
use Rattle.gb_ops.specs.Effects as Effects
use Rattle.gb_ops.specs.Play.{MState}
use Rattle.gb_domain.specs.declared.types.Val.{Val}
use Rattle.gb_domain.specs.declared.types.Core.{Core}
use Rattle.gb_domain.specs.Rules.{IsVal, IsCore}
use Rattle.gb_abs.specs.Below.gb_vals.Vals.{single}
use Rattle.gb_abs.specs.Span.{IsIn, one, pair_span}
use Rattle.gb_abs.specs.Meaning.{Activation, MeansCore}
use Rattle.gb_abs.proofs.OperationLaws.{Holds-single}
use Rattle.gb_abs_effects.specs.declared.reads.AbsRead.{AbsRead}
use Rattle.gb_abs_effects.specs.Accesses.{hl_span, indirect_span, high_span, operand_read, read_of}
use Rattle.gb_abs_effects.specs.Sound.{HasBytes, HoldsRead, IsReadAt, IsSoundRead}
use Rattle.gb_abs.proofs.SpanLaws.{IsIn-alone}
use Rattle.gb_abs_effects.proofs.CoreLaws.{IsIn-pair}
use Rattle.gb_abs_effects.proofs.SideLaws.{is_taken-with, is_taken-without}

pub IsIn-hl : (s : Core) (entry : Activation) (x : MState) → MeansCore s entry x → IsIn (hl_span s) (Effects.hl x.processor)
unfolding hl_span pair_value
IsIn-hl s entry x m = IsIn-pair s.registers.h s.registers.l entry x.processor.registers.h x.processor.registers.l (m.registers H) (m.registers L)

pub IsIn-indirect : (which : Indirect) (s : Core) (entry : Activation) (x : MState) → MeansCore s entry x → IsIn (indirect_span which s) (Effects.indirect_address x.processor which)
unfolding indirect_span Effects.indirect_address pair_value
IsIn-indirect indirect.Bc s entry x m = IsIn-pair s.registers.b s.registers.c entry x.processor.registers.b x.processor.registers.c (m.registers B) (m.registers C)
IsIn-indirect indirect.De s entry x m = IsIn-pair s.registers.d s.registers.e entry x.processor.registers.d x.processor.registers.e (m.registers D) (m.registers E)
IsIn-indirect indirect.HlIncrement s entry x m = IsIn-hl s entry x m
IsIn-indirect indirect.HlDecrement s entry x m = IsIn-hl s entry x m

pub IsIn-high : (s : Core) (entry : Activation) (x : MState) → MeansCore s entry x → IsIn (high_span s) (0xFF00 + x.processor.registers.c)
unfolding high_span
IsIn-high s entry x m = IsIn-pair (single 0xFF) s.registers.c entry 0xFF x.processor.registers.c (Holds-single 0xFF entry) (m.registers C)

HoldsRead-operand : (which : Operand) (s : Core) (entry : Activation) (x : MState) (sp : ℕ) → MeansCore s entry x → HoldsRead (operand_read which s) sp (Effects.operand_read x.processor which)
unfolding operand_read Effects.operand_read
HoldsRead-operand (operand.Register r) s entry x sp m = tt
HoldsRead-operand operand.AtHl s entry x sp m = IsIn-hl s entry x m

HoldsRead-returns : (b : Bool) (sp : ℕ) (what : AbsRead) → b ≡ true → HoldsRead what sp (machine_read.Word sp) → HoldsRead what sp (Effects.read_if b (machine_read.Word sp))
unfolding Effects.read_if
HoldsRead-returns true sp what e h = h
HoldsRead-returns false sp what e h = cc

HoldsRead-read_of :
    (o : Op) (s : Core) (entry : Activation) (x : MState) (l h : ℕ)
    → MeansCore s entry x → (Effects.effect_of o x.processor l h).is_taken ≡ true
    → HoldsRead (read_of o s) x.processor.sp (Effects.read_of o x.processor)
unfolding read_of Effects.read_of
HoldsRead-read_of (op.LoadA from) s entry x l h m taken = IsIn-indirect from s entry x m
HoldsRead-read_of (op.Increment which) s entry x l h m taken = HoldsRead-operand which s entry x x.processor.sp m
HoldsRead-read_of (op.Decrement which) s entry x l h m taken = HoldsRead-operand which s entry x x.processor.sp m
HoldsRead-read_of (op.Load to from) s entry x l h m taken = HoldsRead-operand from s entry x x.processor.sp m
HoldsRead-read_of (op.Alu how which) s entry x l h m taken = HoldsRead-operand which s entry x x.processor.sp m
HoldsRead-read_of (op.ReturnIf c) s entry x l h m taken =
    HoldsRead-returns (is_met c x.processor.flags) x.processor.sp (read_of (op.ReturnIf c) s) (sym (is_taken-with (op.ReturnIf c) c x.processor l h refl) ∙ taken) refl
HoldsRead-read_of op.Return s entry x l h m taken = refl
HoldsRead-read_of op.ReturnFromInterrupt s entry x l h m taken = refl
HoldsRead-read_of (op.Pop pair) s entry x l h m taken = refl
HoldsRead-read_of (op.LoadHigh b) s entry x l h m taken = IsIn-alone (0xFF00 + b)
HoldsRead-read_of op.LoadHighC s entry x l h m taken = IsIn-high s entry x m
HoldsRead-read_of (op.LoadAbsolute w) s entry x l h m taken = IsIn-alone w
HoldsRead-read_of (op.Shift how which) s entry x l h m taken = HoldsRead-operand which s entry x x.processor.sp m
HoldsRead-read_of (op.Bit n which) s entry x l h m taken = HoldsRead-operand which s entry x x.processor.sp m
HoldsRead-read_of (op.Reset n which) s entry x l h m taken = HoldsRead-operand which s entry x x.processor.sp m
HoldsRead-read_of (op.Set n which) s entry x l h m taken = HoldsRead-operand which s entry x x.processor.sp m
HoldsRead-read_of o s entry x l h m taken = tt

pub read_of_sound : (o : Op) (s : Core) (what : AbsRead) → what ≡ read_of o s → IsSoundRead o s what
read_of_sound o s what e =
    subst (λ k. IsSoundRead o s k) (sym e) (record { gives = λ entry x l h m taken. HoldsRead-read_of o s entry x l h m taken })

read_if-not : (b : Bool) (what : Read) → b ≡ false → Effects.read_if b what ≡ machine_read.Nothing
unfolding Effects.read_if
read_if-not true what e = cc
read_if-not false what e = refl

-- an instruction that isn't taken reads nothing but its own bytes
pub untaken-reads : (o : Op) (p : Processor) (l h : ℕ) → (Effects.effect_of o p l h).is_taken ≡ false → Effects.read_of o p ≡ machine_read.Nothing
unfolding Effects.read_of
untaken-reads (op.JumpRelativeIf c e8) p l h e = refl
untaken-reads (op.ReturnIf c) p l h e = read_if-not (is_met c p.flags) (machine_read.Word p.sp) (sym (is_taken-with (op.ReturnIf c) c p l h refl) ∙ e)
untaken-reads (op.JumpIf c w) p l h e = refl
untaken-reads (op.CallIf c w) p l h e = refl
untaken-reads o p l h e = absurd (true≢false (sym (is_taken-without o p l h refl) ∙ e))

-- ---- what is read lies at addresses

pair_span-last : (high low : Val) → IsVal high → IsVal low → (pair_span high low).last < 65536
unfolding pair_span
pair_span-last high low h l =
    let p : high.hi < 256 = h.hi in
    let q : low.hi < 256 = l.hi in
    omega arith

pub hl_span-last : (s : Core) → IsCore s → (hl_span s).last < 65536
unfolding hl_span
hl_span-last s is = pair_span-last s.registers.h s.registers.l (is.registers H) (is.registers L)

pub indirect_span-last : (which : Indirect) (s : Core) → IsCore s → (indirect_span which s).last < 65536
unfolding indirect_span
indirect_span-last indirect.Bc s is = pair_span-last s.registers.b s.registers.c (is.registers B) (is.registers C)
indirect_span-last indirect.De s is = pair_span-last s.registers.d s.registers.e (is.registers D) (is.registers E)
indirect_span-last indirect.HlIncrement s is = hl_span-last s is
indirect_span-last indirect.HlDecrement s is = hl_span-last s is

pub high_span-last : (s : Core) → IsCore s → (high_span s).last < 65536
unfolding high_span
high_span-last s is = pair_span-last (single 0xFF) s.registers.c (record { order = omega arith; hi = omega arith; strided = refl }) (is.registers C)

pub high-last : (b : ℕ) → b < 256 → 0xFF00 + b < 65536
high-last b h = omega arith

IsReadAt-operand : (which : Operand) (s : Core) → IsCore s → IsReadAt (operand_read which s)
unfolding operand_read
IsReadAt-operand (operand.Register r) s is = tt
IsReadAt-operand operand.AtHl s is = hl_span-last s is

IsReadAt-read_of : (o : Op) (s : Core) → HasBytes o → IsCore s → IsReadAt (read_of o s)
unfolding read_of
IsReadAt-read_of (op.LoadA from) s bytes is = indirect_span-last from s is
IsReadAt-read_of (op.Increment which) s bytes is = IsReadAt-operand which s is
IsReadAt-read_of (op.Decrement which) s bytes is = IsReadAt-operand which s is
IsReadAt-read_of (op.Load to from) s bytes is = IsReadAt-operand from s is
IsReadAt-read_of (op.Alu how which) s bytes is = IsReadAt-operand which s is
IsReadAt-read_of (op.LoadHigh b) s bytes is = high-last b bytes
IsReadAt-read_of op.LoadHighC s bytes is = high_span-last s is
IsReadAt-read_of (op.LoadAbsolute w) s bytes is = bytes
IsReadAt-read_of (op.Shift how which) s bytes is = IsReadAt-operand which s is
IsReadAt-read_of (op.Bit n which) s bytes is = IsReadAt-operand which s is
IsReadAt-read_of (op.Reset n which) s bytes is = IsReadAt-operand which s is
IsReadAt-read_of (op.Set n which) s bytes is = IsReadAt-operand which s is
IsReadAt-read_of o s bytes is = tt

pub read_of_at : (o : Op) (s : Core) (what : AbsRead) → what ≡ read_of o s → HasBytes o → IsCore s → IsReadAt what
read_of_at o s what e bytes is = subst IsReadAt (sym e) (IsReadAt-read_of o s bytes is)
