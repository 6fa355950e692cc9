-- By the rules of versions 1 and 2 a successor is what the transfer function alone says.
use Rattle.std.proofs.Common.{inl, ◌≡◌, ℕ, ◌+◌, ◌-◌, ◌%◌, Bool, true, false, nat_lt, cond, List, [], ◌++◌, length, take, replicate, Option, Some, None, refl, sym, ◌∙◌, ap, arith}
use Rattle.gb_ops.specs.declared.machine.Region.{Region}
use Rattle.gb_ops.specs.declared.op.Pair.TheVariants as pair
use Rattle.gb_ops.specs.declared.op.Op.{Op}
use Rattle.gb_ops.specs.declared.op.Op.TheVariants as op
use Rattle.gb_ops.specs.declared.op.Row.{Row}
use Rattle.gb_ops.specs.Cartridge.{kind_of}
use Rattle.gb_domain.specs.declared.pairs.Bounds.{Bounds}
use Rattle.gb_domain.specs.declared.pairs.Pairs.{Pairs}
use Rattle.gb_ops.specs.declared.registers.Registers.{Registers}
use Rattle.gb_domain.specs.declared.rules.Rules.{Rules}
use Rattle.gb_domain.specs.declared.rules.Rules.TheVariants.{Simple, Extended}
use Rattle.gb_domain.specs.declared.setting.Setting.{Setting}
use Rattle.gb_domain.specs.declared.types.Cell.{Cell}
use Rattle.gb_domain.specs.declared.types.Core.{Core}
use Rattle.gb_domain.specs.declared.types.Halves.{Halves}
use Rattle.gb_domain.specs.declared.types.Val.{Val}
use Rattle.gb_domain.specs.Limits.{item_room}
use Rattle.gb_domain.specs.Summaries.{Program}
use Rattle.gb_domain.specs.Types.{AbsState}
use Rattle.gb_product.specs.Below.gb_vals.Vals.{any_val}
use Rattle.gb_product.specs.Below.gb_abs.Bytes.{without_newest, resized}
use Rattle.gb_product.specs.Below.gb_abs.Located.{sp_halves, sp_bounds}
use Rattle.gb_product.specs.Below.gb_abs.Operations.{with_core}
use Rattle.gb_product.specs.Below.gb_abs.Stack.{pushed, popped, youngest}
use Rattle.gb_product.specs.Below.gb_abs_effects.declared.reads.AbsRead.{AbsRead}
use Rattle.gb_product.specs.Below.gb_abs_effects.declared.reads.AbsRead.TheVariants as read
use Rattle.gb_product.specs.Below.gb_abs_effects.declared.targets.Target.{Target}
use Rattle.gb_product.specs.Below.gb_abs_effects.declared.writes.AbsEffect.{AbsEffect}
use Rattle.gb_product.specs.Below.gb_abs_effects.declared.writes.AbsWrite.{AbsWrite}
use Rattle.gb_product.specs.Below.gb_abs_effects.declared.writes.AbsWrite.TheVariants as write
use Rattle.gb_product.specs.Below.gb_abs_effects.Accesses.{read_of}
use Rattle.gb_product.specs.Below.gb_abs_effects.Targets.{target_of}
use Rattle.gb_product.specs.Below.gb_abs_effects.Transfer.{transfer}
use Rattle.gb_product.specs.Below.gb_relations.PointedBits.{known_bits}
use Rattle.gb_product.specs.Below.gb_relations.Pointers.{pointer_bounds, known_carry}
use Rattle.gb_product.specs.Below.gb_relations.Transfer.{values_of}
use Rattle.gb_product.specs.declared.parts.Product.{Product}
use Rattle.gb_successors.specs.declared.stacks.Around.{Around}
use Rattle.gb_successors.specs.declared.stacks.Stack.{Stack}
use Rattle.gb_successors.specs.declared.stacks.StackMove.{StackMove}
use Rattle.gb_successors.specs.declared.stacks.StackMove.TheVariants as move
use Rattle.gb_successors.specs.Behind.{written, starts, ended, with_cell_if, moved_state, core_behind}
use Rattle.gb_successors.specs.Loads.{read_word, word_by}
use Rattle.gb_ops.specs.Pointers.{pointer_of}
use Rattle.gb_successors.specs.Summaries.{pointed_bits}
use Rattle.gb_successors.specs.Refined.{cut_read, cut_write, refined, refined_target}
use Rattle.gb_successors.specs.Stacks.{around_of, aside_if, back_or, popped_by, set_to, extended, stack_move, pushed_if_room, set_if_room, with_aside, with_stack_moved, moved_core}
use Rattle.gb_successors.specs.Successors.{pointer_in, read_in, word_in, effect_in, taken_parts, bits_in}
use Rattle.gb_successors.specs.Way.{Successor}
use Rattle.gb_successors.proofs.AroundLaws.{around_simply}
use Rattle.gb_successors.proofs.MovedLaws.{written_by}
use Rattle.gb_successors.specs.StackMark.{marked, marked_write}
use Rattle.gb_successors.proofs.StackMarkLaws.{marks_simply, marked_core_not, marked_write_not}

-- ---- what these rules make of an instruction

-- the address behind an instruction
abbrev pub behind_row : ℕ → Row → ℕ
behind_row a row = (a + row.length) % 65536

-- what is known of what it reads
abbrev pub known_read : Setting → List ℕ → Row → AbsState → Core → Halves
known_read z rom row s c = read_word z rom (with_core s c) (read_of row.op c)

abbrev pub low_of : Setting → List ℕ → Row → AbsState → Core → Val
low_of z rom row s c = (known_read z rom row s c).low

abbrev pub high_of : Setting → List ℕ → Row → AbsState → Core → Val
high_of z rom row s c = (known_read z rom row s c).high

-- the transfer function's effect, next being the address behind it
abbrev pub effect_at : Setting → List ℕ → Row → ℕ → AbsState → Core → AbsEffect
effect_at z rom row next s c = transfer z.is_whole row.op next (sp_halves z s) c (low_of z rom row s c) (high_of z rom row s c)

abbrev pub abs_effect : Setting → List ℕ → Row → ℕ → AbsState → Core → AbsEffect
abs_effect z rom row a s c = effect_at z rom row (behind_row a row) s c

-- LD SP,n16 sets the stack, with nothing on it; PUSH pushes what it writes, and POP pops; all else leaves it
unfoldable pub with_stack_of : Setting → Op → AbsWrite → AbsState → AbsState
with_stack_of z (op.LoadPair pair.Sp w) what s = record s { core = record s.core { stack_set = true }; summary = record s.summary { aside = None }; items = [] }
with_stack_of z (op.Push from) (write.Push high low) s = pushed_if_room z (record { high = high; low = low }) s
with_stack_of z (op.Pop to) what s = popped s
with_stack_of z _ what s = s

-- the successor where it is taken
unfoldable pub simple_parts : Setting → List ℕ → Region → Row → ℕ → AbsState → Core → Successor
simple_parts z rom region row next s c =
    let effect = effect_at z rom row next s c in
    record {
      read = read_of row.op c;
      write = effect.write;
      target = target_of row.op next c;
      next = next;
      state = ended (starts effect.write) row.cycles (written z region (kind_of rom) effect.write (with_stack_of z row.op effect.write (with_core s effect.core)));
    }

-- ---- nothing is known of pairs

pointer_none : (r : Rules) (o : Op) (vals : Registers Val) (s : Pairs) → r ≡ Simple → pointer_bounds r o vals s ≡ None
unfolding pointer_bounds
pointer_none Simple o vals s h = refl
pointer_none Extended o vals s h = absurd cc

carry_none : (r : Rules) (o : Op) (sp : Bounds) (vals : Registers Val) (s : Pairs) → r ≡ Simple → known_carry r o sp vals s ≡ None
unfolding known_carry
carry_none Simple o sp vals s h = refl
carry_none Extended o sp vals s h = absurd cc

bits_none : (r : Rules) (whole : Bool) (o : Op) (vals : Registers Val) → r ≡ Simple → known_bits r whole o vals ≡ None
unfolding known_bits
bits_none Simple whole o vals h = refl
bits_none Extended whole o vals h = absurd cc

read_whole : (r : AbsRead) → cut_read None r ≡ r
read_whole (read.Byte span) = refl
read_whole read.Nothing = refl
read_whole read.Top = refl
read_whole (read.Word span) = refl

write_whole : (w : AbsWrite) → cut_write None None w ≡ w
write_whole (write.Byte span v) = refl
write_whole (write.Word a low high) = refl
write_whole (write.Push high low) = refl
write_whole write.Nothing = refl

refined_whole : (e : AbsEffect) → refined None None None e ≡ e
unfolding refined
refined_whole e = ap (λ w. record e { write = w }) (write_whole e.write)

target_whole :
    (r : Rules) (z : Setting) (o : Op) (next : ℕ) (w : Halves) (c : Core) (hl : Option Bounds) (m : StackMove) (t : Target)
    → r ≡ Simple → refined_target r z o next w c hl m t ≡ t
unfolding refined_target
target_whole Simple z o next w c hl m t h = refl
target_whole Extended z o next w c hl m t h = absurd cc

-- ---- the stack's move

no_extended : (r : Rules) (m : StackMove) → r ≡ Simple → extended r m ≡ move.Stay
no_extended Simple m h = refl
no_extended Extended m h = absurd cc

set_simply : (r : Rules) (k : Stack) (a : ℕ) → r ≡ Simple → set_to r k a ≡ move.Set 0
set_simply Simple k a h = refl
set_simply Extended k a h = absurd cc

some_room : (r : Rules) → nat_lt (item_room r) 0 ≡ false
unfolding item_room
some_room Simple = refl
some_room Extended = refl

-- what a move makes of a state whose core is another one
abbrev moved_with : Setting → StackMove → AbsState → Core → AbsState
moved_with z m s c = with_core (with_stack_moved z m s) (moved_core m c)

none_taken : (items : List Val) → take 0 items ++ replicate (0 - length items) any_val ≡ []
none_taken items =
    let none : 0 - length items ≡ 0 = omega arith in
    rw none refl

set_empty : (z : Setting) (s : AbsState) (c : Core) → moved_with z (move.Set 0) s c ≡ record s { core = record c { stack_set = true }; summary = record s.summary { aside = None }; items = [] }
unfolding with_stack_moved moved_core set_if_room resized
set_empty z s c =
    ap (λ b. with_core (cond b (with_aside None s) (resized 0 (with_aside None s))) (record c { stack_set = true })) (some_room z.rules)
    ∙ ap (λ (items : List Val). record s { core = record c { stack_set = true }; summary = record s.summary { aside = None }; items = items }) (none_taken s.items)

pushed_with : (z : Setting) (i : Halves) (s : AbsState) (c : Core) → with_core (pushed_if_room z i s) c ≡ pushed_if_room z i (with_core s c)
unfolding pushed_if_room pushed
pushed_with z i s c = by (nat_lt (item_room z.rules) (length s.items + 2))
  where
    by : (b : Bool) → with_core (cond b s (pushed i s)) c ≡ cond b (with_core s c) (pushed i (with_core s c))
    by true = refl
    by false = refl

moved_still : (z : Setting) (m : StackMove) (s : AbsState) (c : Core) → m ≡ move.Stay → moved_with z m s c ≡ with_core s c
unfolding with_stack_moved moved_core
moved_still z m s c e = ap (λ n. moved_with z n s c) e

moved_simply :
    (k : Stack) (g : Around) (o : Op) (w : AbsWrite) (s : AbsState) (c : Core) → k.setting.rules ≡ Simple
    → moved_with k.setting (stack_move k g o w None) s c ≡ with_stack_of k.setting o w (with_core s c)
unfolding stack_move with_stack_of with_stack_moved moved_core without_newest popped
moved_simply k g (op.LoadPair pair.Sp a) w s c h = ap (λ m. moved_with k.setting (aside_if m g.may_leave (record { first = a; last = a })) s c) (set_simply k.setting.rules k a h) ∙ set_empty k.setting s c
moved_simply k g (op.LoadPair pair.Bc a) w s c h = refl
moved_simply k g (op.LoadPair pair.De a) w s c h = refl
moved_simply k g (op.LoadPair pair.Hl a) w s c h = refl
moved_simply k g (op.Push from) (write.Push high low) s c h = pushed_with k.setting (record { high = high; low = low }) s c
moved_simply k g (op.Push from) (write.Byte span v) s c h = refl
moved_simply k g (op.Push from) (write.Word a low high) s c h = refl
moved_simply k g (op.Push from) write.Nothing s c h = refl
moved_simply k g (op.Pop to) w s c h = ap (λ r. moved_with k.setting (popped_by r g.aside) s c) h
moved_simply k g (op.IncrementPair pair.Sp) w s c h = moved_still k.setting _ s c (no_extended k.setting.rules _ h)
moved_simply k g (op.IncrementPair pair.Bc) w s c h = refl
moved_simply k g (op.IncrementPair pair.De) w s c h = refl
moved_simply k g (op.IncrementPair pair.Hl) w s c h = refl
moved_simply k g (op.DecrementPair pair.Sp) w s c h = moved_still k.setting _ s c (no_extended k.setting.rules _ h)
moved_simply k g (op.DecrementPair pair.Bc) w s c h = refl
moved_simply k g (op.DecrementPair pair.De) w s c h = refl
moved_simply k g (op.DecrementPair pair.Hl) w s c h = refl
moved_simply k g (op.AddSp e8) w s c h = moved_still k.setting _ s c (no_extended k.setting.rules _ h)
moved_simply k g (op.CallIf condition a) w s c h = moved_still k.setting _ s c (no_extended k.setting.rules _ h)
moved_simply k g (op.Call a) w s c h = moved_still k.setting _ s c (no_extended k.setting.rules _ h)
moved_simply k g (op.Restart a) w s c h = moved_still k.setting _ s c (no_extended k.setting.rules _ h)
moved_simply k g (op.ReturnIf condition) w s c h = moved_still k.setting _ s c (no_extended k.setting.rules _ h)
moved_simply k g op.Return w s c h = moved_still k.setting _ s c (no_extended k.setting.rules _ h)
moved_simply k g op.ReturnFromInterrupt w s c h = moved_still k.setting _ s c (no_extended k.setting.rules _ h)
moved_simply k g op.LoadSpHl w s c h = ap (λ r. moved_with k.setting (back_or r g.back move.Stay) s c) h
moved_simply k g o w s c h = refl

-- ---- a condition's cell

-- a side without a cell, or an instruction that reads no byte
abbrev pub IsTold : Option Cell → AbsRead → Type 0
IsTold None what = Unit {0}
IsTold (Some c) (read.Byte span) = ⊥
IsTold (Some c) (read.Word span) = ⊥
IsTold (Some c) _ = Unit {0}

pub same_word :
    (z : Setting) (rom : List ℕ) (cell : Option Cell) (s : AbsState) (c : Core) (what : AbsRead) → IsTold cell what
    → read_word z rom (with_core s c) what ≡ read_word z rom (with_core (with_cell_if z cell s) c) what
unfolding read_word with_cell_if youngest
same_word z rom None s c what h = refl
same_word z rom (Some d) s c (read.Byte span) h = absurd h
same_word z rom (Some d) s c read.Top h = refl
same_word z rom (Some d) s c (read.Word span) h = absurd h
same_word z rom (Some d) s c read.Nothing h = refl

pub same_sp : (z : Setting) (cell : Option Cell) (s : AbsState) → sp_halves z s ≡ sp_halves z (with_cell_if z cell s)
unfolding sp_halves with_cell_if
same_sp z None s = refl
same_sp z (Some c) s = refl

-- ---- each part of a successor

read_simply : (k : Stack) (o : Op) (s : AbsState) (p : Product) → k.setting.rules ≡ Simple → read_in k o s p ≡ read_of o p.core
read_simply k o s p h =
    around_simply k.setting.rules s.summary.aside o _ h
    ∙ ap (λ b. cut_read b (read_of o p.core)) (pointer_none k.setting.rules o p.core.registers p.relations.pairs h) ∙ read_whole (read_of o p.core)

word_simply :
    (k : Stack) (program : Program) (rom : List ℕ) (row : Row) (s : AbsState) (p : Product) (cell : Option Cell) → k.setting.rules ≡ Simple → IsTold cell (read_of row.op p.core)
    → word_in k program rom row.op s p ≡ known_read k.setting rom row (with_cell_if k.setting cell s) p.core
word_simply k program rom row s p cell h told =
    ap (λ r. word_by r k.setting k.region program rom (values_of p.core.registers p.relations.pairs) (pointed_bits (pointer_of row.op) p.core.registers) (with_core s p.core) (read_in k row.op s p)) h
    ∙ (ap (read_word k.setting rom (with_core s p.core)) (read_simply k row.op s p h) ∙ same_word k.setting rom cell s p.core (read_of row.op p.core) told)

-- what takes no mark's address does as before
marked_not : (o : Op) (e : AbsEffect) → marked false o e ≡ e
unfolding marked
marked_not o e = ap (λ c. record { core = c; write = marked_write e.write false }) (marked_core_not o e.core) ∙ ap (λ w. record { core = e.core; write = w }) (marked_write_not e.write)

effect_simply :
    (k : Stack) (program : Program) (rom : List ℕ) (row : Row) (next : ℕ) (s : AbsState) (p : Product) (cell : Option Cell) → k.setting.rules ≡ Simple → IsTold cell (read_of row.op p.core)
    → effect_in k program rom row.op next s p ≡ effect_at k.setting rom row next (with_cell_if k.setting cell s) p.core
unfolding effect_in
effect_simply k program rom row next s p cell h told =
    let z = k.setting in
    let word = word_in k program rom row.op s p in
    ap (λ t. marked t row.op (refined (pointer_in k row.op p) (bits_in k row.op p) (known_carry z.rules row.op (sp_bounds z s) p.core.registers p.relations.pairs) (transfer z.is_whole row.op next (sp_halves z s) p.core word.low word.high)))
    (marks_simply k row.op s p.core h)
    ∙ (marked_not row.op _
    ∙ (ap (λ b. refined b (bits_in k row.op p) (known_carry z.rules row.op (sp_bounds z s) p.core.registers p.relations.pairs) (transfer z.is_whole row.op next (sp_halves z s) p.core word.low word.high))
    (pointer_none z.rules row.op p.core.registers p.relations.pairs h)
    ∙ (ap (λ i. refined None i (known_carry z.rules row.op (sp_bounds z s) p.core.registers p.relations.pairs) (transfer z.is_whole row.op next (sp_halves z s) p.core word.low word.high))
    (bits_none z.rules z.is_whole row.op p.core.registers h)
    ∙ (ap (λ c. refined None None c (transfer z.is_whole row.op next (sp_halves z s) p.core word.low word.high))
    (carry_none z.rules row.op (sp_bounds z s) p.core.registers p.relations.pairs h)
    ∙ (refined_whole (transfer z.is_whole row.op next (sp_halves z s) p.core word.low word.high)
    ∙ (ap (λ (w : Halves). transfer z.is_whole row.op next (sp_halves z s) p.core w.low w.high) (word_simply k program rom row s p cell h told)
    ∙ ap (λ sp. transfer z.is_whole row.op next sp p.core (low_of z rom row (with_cell_if z cell s) p.core) (high_of z rom row (with_cell_if z cell s) p.core)) (same_sp z cell s)))))))

-- the states behind it, by its effect
state_simply :
    (k : Stack) (rom : List ℕ) (row : Row) (s : AbsState) (core : Core) (cell : Option Cell) (e : AbsEffect) → k.setting.rules ≡ Simple
    → with_core (moved_state k (kind_of rom) cell (stack_move k (around_of k s core) row.op e.write None) e.write s) (core_behind k.setting.is_whole (kind_of rom) (stack_move k (around_of k s core) row.op e.write None) row.cycles e.write e.core)
    ≡ ended (starts e.write) row.cycles (written k.setting k.region (kind_of rom) e.write (with_stack_of k.setting row.op e.write (with_core (with_cell_if k.setting cell s) e.core)))
unfolding moved_state core_behind ended
state_simply k rom row s core cell e h =
    let z = k.setting in
    let m = stack_move k (around_of k s core) row.op e.write None in
    let told = with_cell_if z cell s in
    sym (ap (λ t. ended (starts e.write) row.cycles t)
    (ap (written z k.region (kind_of rom) e.write) (sym (moved_simply k (around_of k s core) row.op e.write told e.core h))
    ∙ written_by z k.region (kind_of rom) e.write (with_stack_moved z m told) (moved_core m e.core) (inl h)))

same_parts : (t u : Successor) → t.read ≡ u.read → t.write ≡ u.write → t.target ≡ u.target → t.next ≡ u.next → t.state ≡ u.state → t ≡ u
same_parts t u r w g n s =
    ap (λ what. record t { read = what }) r
    ∙ (ap (λ what. record t { read = u.read; write = what }) w
    ∙ (ap (λ to. record t { read = u.read; write = u.write; target = to }) g
    ∙ (ap (λ next. record t { read = u.read; write = u.write; target = u.target; next = next }) n
    ∙ ap (λ state. record u { state = state }) s)))

pub taken_simply :
    (k : Stack) (program : Program) (rom : List ℕ) (row : Row) (next : ℕ) (s : AbsState) (p : Product) (cell : Option Cell) → k.setting.rules ≡ Simple → IsTold cell (read_of row.op p.core)
    → taken_parts k program rom row next s p cell ≡ simple_parts k.setting rom k.region row next (with_cell_if k.setting cell s) p.core
unfolding taken_parts simple_parts
taken_simply k program rom row next s p cell h told =
    let z = k.setting in
    let kind = kind_of rom in
    let effect = effect_simply k program rom row next s p cell h told in
    same_parts _ _
    (read_simply k row.op s p h)
    (ap (λ (e : AbsEffect). e.write) effect)
    (target_whole z.rules z row.op next (word_in k program rom row.op s p) p.core (pointer_in k row.op p) _ _ h)
    refl
    (ap (λ b. with_core (moved_state k kind cell (stack_move k (around_of k s p.core) row.op (effect_in k program rom row.op next s p).write b) (effect_in k program rom row.op next s p).write s)
    (core_behind k.setting.is_whole kind (stack_move k (around_of k s p.core) row.op (effect_in k program rom row.op next s p).write b) row.cycles (effect_in k program rom row.op next s p).write (effect_in k program rom row.op next s p).core))
    (pointer_none z.rules row.op p.core.registers p.relations.pairs h)
    ∙ (ap (λ (e : AbsEffect). with_core (moved_state k kind cell (stack_move k (around_of k s p.core) row.op e.write None) e.write s) (core_behind k.setting.is_whole kind (stack_move k (around_of k s p.core) row.op e.write None) row.cycles e.write e.core)) effect
    ∙ state_simply k rom row s p.core cell (effect_at z rom row next (with_cell_if z cell s) p.core) h))
