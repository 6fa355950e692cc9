-- Where the stack is put aside in the states before an instruction: what it reads and what moves SP then.
use Rattle.std.proofs.Common.{◌≡◌, ℕ, ◌≤◌, ◌<◌, Bool, true, false, Option, Some, None, refl, sym, ◌∙◌, ap, subst}
use Rattle.gb_ops.specs.declared.machine.Read.{Read}
use Rattle.gb_ops.specs.declared.machine.Read.TheVariants as machine_read
use Rattle.gb_ops.specs.declared.op.Op.{Op}
use Rattle.gb_ops.specs.declared.op.Op.TheVariants as op
use Rattle.gb_ops.specs.declared.registers.Processor.{Processor}
use Rattle.gb_domain.specs.declared.pairs.Bounds.{Bounds}
use Rattle.gb_domain.specs.declared.rules.Rules.{Rules}
use Rattle.gb_domain.specs.declared.rules.Rules.TheVariants.{Simple, Extended}
use Rattle.gb_domain.specs.declared.types.Core.{Core}
use Rattle.std.specs.Prelude.{IfSome}
use Rattle.gb_product.proofs.Below.gb_abs_laws.SpanLaws.{Has-none}
use Rattle.gb_product.specs.Below.gb_abs.Located.{IsSpWithin}
use Rattle.gb_product.specs.Below.gb_abs.Meaning.{located_by}
use Rattle.gb_product.specs.Below.gb_abs_effects.declared.reads.AbsRead.{AbsRead}
use Rattle.gb_product.specs.Below.gb_abs_effects.declared.reads.AbsRead.TheVariants as read
use Rattle.gb_product.specs.Below.gb_abs_effects.Accesses.{read_of}
use Rattle.gb_product.specs.Below.gb_abs_effects.Sound.{HoldsRead, IsReadAt}
use Rattle.gb_product.specs.Below.gb_abs_effects.Targets.{is_pop}
use Rattle.gb_product.specs.Below.gb_summaries.Meaning.{IsAside}
use Rattle.gb_successors.specs.declared.stacks.StackMove.{StackMove}
use Rattle.gb_successors.specs.declared.stacks.StackMove.TheVariants as move
use Rattle.gb_successors.specs.Refined.{cut_read, read_around}
use Rattle.gb_successors.specs.Stacks.{aside_if, aside_within, back_or, behind_word, popped_by}

-- ---- where SP is

-- SP lies within its bounds
pub IsSpWithin-aside : (o : Option Bounds) (p : Processor) → IsAside o p → IsSpWithin o p.sp
IsSpWithin-aside None p h = tt
IsSpWithin-aside (Some b) p h = (h.first, h.last)

-- as it is set in both
pub located-same : (o : Option Bounds) (s t : Bool) → s ≡ t → located_by o t ≡ true → located_by o s ≡ true
located-same o s t e h = ap (located_by o) e ∙ h

-- ---- what is read

pub around_top : (r : Rules) (a : Option Bounds) (o : Op) (w : AbsRead) → read_around r a o w ≡ read.Top → w ≡ read.Top
around_top Simple a o w e = e
around_top Extended None o w e = e
around_top Extended (Some b) (op.Pop to) w e = cc
around_top Extended (Some b) o w e = e

-- what pops the word on top of the stack does so where that isn't put aside
pub top_none : (r : Rules) (a : Option Bounds) (o : Op) (w : AbsRead) → r ≡ Extended → is_pop o ≡ true → read_around r a o w ≡ read.Top → a ≡ None
top_none r None o w h pop e = refl
top_none Simple (Some b) o w h pop e = absurd (let bad : Simple ≡ Extended = h in cc)
top_none Extended (Some b) (op.Pop to) w h pop e = cc
top_none Extended (Some b) o w h pop e = absurd (let bad : false ≡ true = pop in cc)

pub around_simply : (r : Rules) (a : Option Bounds) (o : Op) (w : AbsRead) → r ≡ Simple → read_around r a o w ≡ w
around_simply Simple a o w h = refl
around_simply Extended a o w h = absurd (let bad : Extended ≡ Simple = h in cc)

pub HoldsRead-around :
    (r : Rules) (a : Option Bounds) (o : Op) (b : Option Bounds) (core : Core) (sp : ℕ) (m : Read) → IsSpWithin a sp
    → HoldsRead (cut_read b (read_of o core)) sp m → HoldsRead (read_around r a o (cut_read b (read_of o core))) sp m
unfolding read_of
HoldsRead-around Simple a o b core sp m within h = h
HoldsRead-around Extended None o b core sp m within h = h
HoldsRead-around Extended (Some c) (op.Pop to) b core sp (machine_read.Word n) within h =
    record { first = subst (λ k. c.first ≤ k) (sym h) within.0; last = subst (λ k. k ≤ c.last) (sym h) within.1; low = Has-none n }
HoldsRead-around Extended (Some c) (op.Pop to) b core sp machine_read.Nothing within h = absurd h
HoldsRead-around Extended (Some c) (op.Pop to) b core sp (machine_read.Byte n) within h = absurd h
HoldsRead-around Extended (Some c) o b core sp m within h = h

pub IsReadAt-around : (r : Rules) (a : Option Bounds) (o : Op) (w : AbsRead) → IfSome a (λ c. c.last < 65536) → IsReadAt w → IsReadAt (read_around r a o w)
IsReadAt-around Simple a o w small h = h
IsReadAt-around Extended None o w small h = h
IsReadAt-around Extended (Some c) (op.Pop to) w small h = small
IsReadAt-around Extended (Some c) o w small h = h

-- ---- moves

-- what holds of a move, and of one that puts SP aside, holds of either
pub either_aside : (P : StackMove → Type 0) (m : StackMove) (may : Bool) (b : Bounds) → P m → P (move.Aside b) → P (aside_if m may b)
either_aside P move.Lost true b h g = g
either_aside P move.Lost false b h g = h
either_aside P m may b h g = h

pub either_within : (P : StackMove → Type 0) (m : StackMove) (may : Bool) (o : Option Bounds) → P m → IfSome o (λ b. P (move.Aside b)) → P (aside_within m may o)
either_within P m may None h g = h
either_within P m may (Some b) h g = either_aside P m may b h g

pub either_popped : (P : StackMove → Type 0) (r : Rules) (o : Option Bounds) → P (move.Take 2) → IfSome o (λ b. P (move.Aside (behind_word b))) → P (popped_by r o)
either_popped P Extended (Some b) h g = g
either_popped P Extended None h g = h
either_popped P Simple o h g = h

pub either_back : (P : StackMove → Type 0) (r : Rules) (back : Option ℕ) (m : StackMove) → P m → ((n : ℕ) → back ≡ Some n → P (move.Set n)) → P (back_or r back m)
either_back P Extended (Some n) m h g = g n refl
either_back P Extended None m h g = h
either_back P Simple back m h g = h

pub popped_none : (r : Rules) (o : Option Bounds) → o ≡ None → popped_by r o ≡ move.Take 2
popped_none r o e = ap (popped_by r) e ∙ by r
  where
    by : (q : Rules) → popped_by q None ≡ move.Take 2
    by Simple = refl
    by Extended = refl
