-- What is known of an instruction by its pairs and its stack, beside what its registers say (abstract interpretation: a reduced
-- product; own rules: version 3).
use Rattle.std.specs.Prelude.{ℕ, Bool, not, ◌&&◌, if◌then◌else◌, nat_lt, Option, Some, None}
use Rattle.gb_ops.specs.declared.op.Pair.TheVariants as pair
use Rattle.gb_ops.specs.declared.op.Op.{Op}
use Rattle.gb_ops.specs.declared.op.Op.TheVariants as op
use Rattle.gb_domain.specs.declared.low_bits.LowBits.{LowBits}
use Rattle.gb_domain.specs.LowBits.{no_low_bits}
use Rattle.gb_domain.specs.declared.pairs.Bounds.{Bounds}
use Rattle.gb_domain.specs.declared.rules.Rules.{Rules}
use Rattle.gb_domain.specs.declared.rules.Rules.TheVariants.{Simple, Extended}
use Rattle.gb_domain.specs.declared.setting.Setting.{Setting}
use Rattle.gb_domain.specs.declared.types.Core.{Core}
use Rattle.gb_domain.specs.declared.types.Halves.{Halves}
use Rattle.gb_domain.specs.declared.types.Origin.TheVariants.{ReturnHigh, ReturnLow}
use Rattle.gb_product.specs.Below.gb_vals.Flags.{known}
use Rattle.gb_product.specs.Below.gb_abs.declared.span.Span.{Span}
use Rattle.gb_product.specs.Below.gb_abs.Origins.{is_own}
use Rattle.gb_product.specs.Below.gb_abs_effects.declared.reads.AbsRead.{AbsRead}
use Rattle.gb_product.specs.Below.gb_abs_effects.declared.reads.AbsRead.TheVariants as read
use Rattle.gb_product.specs.Below.gb_abs_effects.declared.targets.Target.{Target}
use Rattle.gb_product.specs.Below.gb_abs_effects.declared.targets.Target.TheVariants as target
use Rattle.gb_product.specs.Below.gb_abs_effects.declared.writes.AbsEffect.{AbsEffect}
use Rattle.gb_product.specs.Below.gb_abs_effects.declared.writes.AbsWrite.{AbsWrite}
use Rattle.gb_product.specs.Below.gb_abs_effects.declared.writes.AbsWrite.TheVariants as write
use Rattle.gb_product.specs.Below.gb_abs_effects.Pairs.{is_word_known, least_word, pair_halves}
use Rattle.gb_successors.specs.declared.stacks.StackMove.{StackMove}
use Rattle.gb_successors.specs.declared.stacks.StackMove.TheVariants as move

-- ---- addresses and flags

-- where an address is taken from a pair, its bounds are the pair's
abbrev pub span_within : Option Bounds → Span → Span
span_within None span = span
span_within (Some b) span = record { first = b.first; last = b.last; low = span.low }

abbrev pub cut_read : Option Bounds → AbsRead → AbsRead
cut_read b (read.Byte span) = read.Byte (span_within b span)
cut_read b r = r

-- where SP is put aside, POP reads a word there
abbrev pub read_around : Rules → Option Bounds → Op → AbsRead → AbsRead
read_around Extended (Some b) (op.Pop to) r = read.Word (record { first = b.first; last = b.last; low = no_low_bits })
read_around rules aside o r = r

-- where low bits of an address are known, the addresses count that have them
abbrev pub with_bits : Option LowBits → Span → Span
with_bits None span = span
with_bits (Some k) span = record { first = span.first; last = span.last; low = k }

abbrev pub cut_write : Option Bounds → Option LowBits → AbsWrite → AbsWrite
cut_write b k (write.Byte span v) = write.Byte (with_bits k (span_within b span)) v
cut_write b k w = w

abbrev pub with_carry : Option Bool → Core → Core
with_carry None core = core
with_carry (Some c) core = record core { flags = record core.flags { carry = known c } }

-- an effect whose address with its low bits, and whose carry are known so
unfoldable pub refined : Option Bounds → Option LowBits → Option Bool → AbsEffect → AbsEffect
refined b k c e = record { core = with_carry c e.core; write = cut_write b k e.write }

-- ---- where it goes on

-- the bytes of the word that was pushed as the procedure was entered
abbrev pub is_return_word : Halves → Bool
is_return_word w = is_own ReturnHigh w.high && is_own ReturnLow w.low

-- the word is popped: to return, or to go on where it says in the same procedure
abbrev pub popped_target : Bool → Halves → Target
popped_target is_main w =
    if not is_main && is_return_word w then target.Return
    else if is_word_known w then target.At (least_word w)
    else target.Lost

abbrev pub target_within : Option Bounds → Target
target_within None = target.Unknown
target_within (Some b) = if nat_lt b.first b.last then target.Unknown else target.At b.first

-- JP HL: HL may hold the return word
abbrev pub jumped_target : Bool → Halves → Option Bounds → Target
jumped_target is_main w hl = if not is_main && is_return_word w then target.Return else target_within hl

-- where main begins anew it goes on in main
abbrev pub moved_target : StackMove → ℕ → Target → Target
moved_target (move.Restart n) next t = target.Main next
moved_target m next t = t

abbrev pub extended_target : Setting → Op → ℕ → Halves → Core → Option Bounds → StackMove → Target → Target
extended_target z (op.ReturnIf condition) next w core hl m t = popped_target z.is_main w
extended_target z op.Return next w core hl m t = popped_target z.is_main w
extended_target z op.ReturnFromInterrupt next w core hl m t = popped_target z.is_main w
extended_target z op.JumpHl next w core hl m t = jumped_target z.is_main (pair_halves pair.Hl core) hl
extended_target z o next w core hl m t = moved_target m next t

-- where an instruction goes on that read a word, by the rules of version 3
unfoldable pub refined_target : Rules → Setting → Op → ℕ → Halves → Core → Option Bounds → StackMove → Target → Target
refined_target Simple z o next w core hl m t = t
refined_target Extended z o next w core hl m t = extended_target z o next w core hl m t
