-- What the rules of version 3 say of the stack's moves is what the machine's SP does.
use Rattle.std.proofs.Common.{◌≡◌, ℕ, ◌+◌, ◌-◌, ◌%◌, ◌≤◌, ◌<◌, Bool, true, false, cond, ◌&&◌, nat_le, nat_lt, ◌⊎◌, inl, inr, Option, Some, None, refl, sym, ap, subst, arith}
use Rattle.std.proofs.lemmas.Bool.Decides.{nat_tests}
use Rattle.std.proofs.lemmas.Bool.{and_parts}
use Rattle.std.specs.Prelude.{is_some, IfSome}
use Rattle.gb_ops.specs.declared.machine.Effect.{Effect}
use Rattle.gb_ops.specs.declared.op.Pair.TheVariants as pair
use Rattle.gb_ops.specs.declared.op.Op.{Op}
use Rattle.gb_ops.specs.declared.op.Op.TheVariants as op
use Rattle.gb_ops.specs.declared.registers.Processor.{Processor}
use Rattle.gb_ops.specs.Arithmetic.{displaced}
use Rattle.gb_ops.specs.Pairs.{with_pair, pair_value}
use Rattle.gb_ops.specs.Effects as Effects
use Rattle.gb_domain.specs.declared.pairs.Bounds.{Bounds}
use Rattle.gb_domain.specs.declared.rules.Rules.{Rules}
use Rattle.gb_domain.specs.declared.rules.Rules.TheVariants.{Simple, Extended}
use Rattle.gb_domain.specs.declared.types.Val.{Val}
use Rattle.gb_domain.specs.declared.types.Core.{Core}
use Rattle.gb_domain.specs.declared.types.Halves.{Halves}
use Rattle.gb_domain.specs.Settings.{known_base, IsBase}
use Rattle.gb_domain.specs.Areas.{IsRegion}
use Rattle.gb_product.specs.Below.gb_abs.Stack.{AreInRegion}
use Rattle.gb_product.specs.Below.gb_abs_effects.declared.reads.AbsRead.TheVariants as read
use Rattle.gb_product.specs.Below.gb_abs_effects.declared.writes.AbsWrite.{AbsWrite}
use Rattle.gb_product.specs.Below.gb_abs_effects.declared.writes.AbsWrite.TheVariants as write
use Rattle.gb_product.specs.Below.gb_abs_effects.Accesses.{read_of}
use Rattle.gb_product.specs.Below.gb_abs_effects.Sound.{HasBytes}
use Rattle.gb_product.specs.Below.gb_abs_effects.Targets.{moves_sp}
use Rattle.gb_product.specs.Below.gb_abs_effects.Transfer.{transfer}
use Rattle.gb_product.specs.Below.gb_abs.Located.{IsSpWithin}
use Rattle.gb_product.specs.Below.gb_relations.Pointers.{WithinIf}
use Rattle.gb_successors.specs.declared.stacks.Around.{Around}
use Rattle.gb_successors.specs.declared.stacks.Stack.{Stack}
use Rattle.gb_successors.specs.declared.stacks.StackMove.{StackMove}
use Rattle.gb_successors.specs.declared.stacks.StackMove.TheVariants as move
use Rattle.gb_successors.specs.Stacks.{bytes_to, bytes_to_if, own_bytes, main_bytes, restart_by, set_by, set_to, set_within, extended, displaced_by, push_of, behind_word, stack_move}
use Rattle.gb_successors.proofs.AroundLaws.{either_aside, either_within, either_back, either_popped}

-- ---- what is written where SP moves

pub extended_is : (r : Rules) (m : StackMove) → r ≡ Extended → extended r m ≡ m
extended_is Extended m h = refl
extended_is Simple m h = absurd (let bad : Simple ≡ Extended = h in cc)

-- a word is put on
pub record Puts (k : Stack) (g : Around) (o : Op) (next : ℕ) (sp : Halves) (c : Core) (low high : Val) : Type 0 where
  pub value : Halves
  pub write_is : (transfer k.setting.is_whole o next sp c low high).write ≡ write.Push value.high value.low
  pub read_is : read_of o c ≡ read.Nothing
  pub move_is : (b : Option Bounds) → stack_move k g o (write.Push value.high value.low) b ≡ move.Push value

less_is : (n m : ℕ) → nat_lt n m ≡ true → n < m
less_is n m h = grind (arith, nat_tests)

no_move : false ≡ true → ⊥
no_move h = cc

-- no word is put on
abbrev pub IsNoPush : StackMove → Type 0
IsNoPush (move.Push w) = ⊥
IsNoPush _ = Unit {0}

no_push_set : (own main : Option ℕ) → IsNoPush (set_by own main)
no_push_set (Some n) main = tt
no_push_set None None = tt
no_push_set None (Some n) = tt

no_push_to : (r : Rules) (k : Stack) (a : ℕ) → IsNoPush (set_to r k a)
no_push_to Simple k a = tt
no_push_to Extended k a = no_push_set (own_bytes k a) (main_bytes k a)

no_push_within : (k : Stack) (b : Option Bounds) → IsNoPush (set_within k b)
no_push_within k None = tt
no_push_within k (Some b) = choose (nat_lt b.first b.last)
  where
    choose : (t : Bool) → IsNoPush (cond t move.Lost (set_to k.setting.rules k b.first))
    choose true = tt
    choose false = no_push_to k.setting.rules k b.first

no_push_extended : (r : Rules) (m : StackMove) → IsNoPush m → IsNoPush (extended r m)
no_push_extended Simple m h = tt
no_push_extended Extended m h = h

no_push_displaced : (e8 : ℕ) → IsNoPush (displaced_by e8)
no_push_displaced e8 = choose (nat_lt e8 128)
  where
    choose : (t : Bool) → IsNoPush (cond t (move.Take e8) (move.Append (256 - e8)))
    choose true = tt
    choose false = tt

any_some : (b : Option Bounds) → IfSome b (λ (c : Bounds). Unit {0})
any_some None = tt
any_some (Some c) = tt

-- where nothing is written no word is put on
pub no_push : (k : Stack) (g : Around) (o : Op) (b : Option Bounds) → IsNoPush (stack_move k g o write.Nothing b)
unfolding stack_move
no_push k g (op.LoadPair pair.Sp a) b = either_aside IsNoPush (set_to k.setting.rules k a) g.may_leave _ (no_push_to k.setting.rules k a) tt
no_push k g op.LoadSpHl b = either_back IsNoPush k.setting.rules g.back _ (either_within IsNoPush (set_within k b) g.may_leave b (no_push_within k b) (any_some b)) (λ n e. tt)
no_push k g (op.IncrementPair pair.Sp) b = no_push_extended k.setting.rules (move.Take 1) tt
no_push k g (op.DecrementPair pair.Sp) b = no_push_extended k.setting.rules (move.Append 1) tt
no_push k g (op.AddSp e8) b = no_push_extended k.setting.rules (displaced_by e8) (no_push_displaced e8)
no_push k g (op.CallIf condition a) b = no_push_extended k.setting.rules move.Stay tt
no_push k g (op.Call a) b = no_push_extended k.setting.rules move.Stay tt
no_push k g (op.Restart a) b = no_push_extended k.setting.rules move.Stay tt
no_push k g (op.ReturnIf condition) b = no_push_extended k.setting.rules (move.Take 2) tt
no_push k g op.Return b = no_push_extended k.setting.rules (move.Take 2) tt
no_push k g op.ReturnFromInterrupt b = no_push_extended k.setting.rules (move.Take 2) tt
no_push k g (op.Pop to) b = either_popped IsNoPush k.setting.rules g.aside tt (any_some g.aside)
no_push k g o b = tt

-- what moves SP puts a word on, or writes nothing
pub puts_or_nothing :
    (k : Stack) (g : Around) (o : Op) (next : ℕ) (sp : Halves) (c : Core) (low high : Val) → k.setting.rules ≡ Extended → moves_sp o ≡ true
    → Puts k g o next sp c low high ⊎ ((transfer k.setting.is_whole o next sp c low high).write ≡ write.Nothing)
unfolding transfer read_of stack_move
puts_or_nothing k g (op.LoadPair to w) next sp c low high h moves = inr refl
puts_or_nothing k g (op.IncrementPair which) next sp c low high h moves = inr refl
puts_or_nothing k g (op.DecrementPair which) next sp c low high h moves = inr refl
puts_or_nothing k g (op.ReturnIf condition) next sp c low high h moves = inr refl
puts_or_nothing k g op.Return next sp c low high h moves = inr refl
puts_or_nothing k g op.ReturnFromInterrupt next sp c low high h moves = inr refl
puts_or_nothing k g (op.Pop to) next sp c low high h moves = inr refl
puts_or_nothing k g (op.Push from) next sp c low high h moves = inl (record { value = _; write_is = refl; read_is = refl; move_is = λ b. refl })
puts_or_nothing k g (op.CallIf condition w) next sp c low high h moves =
    inl (record { value = _; write_is = refl; read_is = refl; move_is = λ b. extended_is k.setting.rules _ h })
puts_or_nothing k g (op.Call w) next sp c low high h moves = inl (record { value = _; write_is = refl; read_is = refl; move_is = λ b. extended_is k.setting.rules _ h })
puts_or_nothing k g (op.Restart w) next sp c low high h moves = inl (record { value = _; write_is = refl; read_is = refl; move_is = λ b. extended_is k.setting.rules _ h })
puts_or_nothing k g (op.AddSp e8) next sp c low high h moves = inr refl
puts_or_nothing k g op.LoadSpHl next sp c low high h moves = inr refl
puts_or_nothing k g o next sp c low high h moves = absurd (no_move moves)

-- the stack moves
abbrev pub IsNoStay : StackMove → Type 0
IsNoStay move.Stay = ⊥
IsNoStay _ = Unit {0}

no_stay_set : (own main : Option ℕ) → IsNoStay (set_by own main)
no_stay_set (Some n) main = tt
no_stay_set None None = tt
no_stay_set None (Some n) = tt

no_stay_to : (r : Rules) (k : Stack) (a : ℕ) → IsNoStay (set_to r k a)
no_stay_to Simple k a = tt
no_stay_to Extended k a = no_stay_set (own_bytes k a) (main_bytes k a)

no_stay_within : (k : Stack) (b : Option Bounds) → is_some b ≡ true → IsNoStay (set_within k b)
no_stay_within k None h = cc
no_stay_within k (Some b) h = choose (nat_lt b.first b.last)
  where
    choose : (t : Bool) → IsNoStay (cond t move.Lost (set_to k.setting.rules k b.first))
    choose true = tt
    choose false = no_stay_to k.setting.rules k b.first

no_stay_displaced : (e8 : ℕ) → IsNoStay (displaced_by e8)
no_stay_displaced e8 = choose (nat_lt e8 128)
  where
    choose : (t : Bool) → IsNoStay (cond t (move.Take e8) (move.Append (256 - e8)))
    choose true = tt
    choose false = tt

no_stay_extended : (r : Rules) (m : StackMove) → r ≡ Extended → IsNoStay m → IsNoStay (extended r m)
no_stay_extended r m e h = subst IsNoStay (sym (extended_is r m e)) h

-- what moves SP, and writes nothing, moves the stack
pub no_stay :
    (k : Stack) (g : Around) (o : Op) (next : ℕ) (sp : Halves) (c : Core) (low high : Val) (b : Option Bounds) → k.setting.rules ≡ Extended → moves_sp o ≡ true
    → (transfer k.setting.is_whole o next sp c low high).write ≡ write.Nothing → (o ≡ op.LoadSpHl → is_some b ≡ true) → IsNoStay (stack_move k g o write.Nothing b)
unfolding transfer stack_move
no_stay k g (op.LoadPair pair.Sp a) next sp c low high b r moves quiet hl = either_aside IsNoStay (set_to k.setting.rules k a) g.may_leave _ (no_stay_to k.setting.rules k a) tt
no_stay k g (op.IncrementPair pair.Sp) next sp c low high b r moves quiet hl = no_stay_extended k.setting.rules (move.Take 1) r tt
no_stay k g (op.DecrementPair pair.Sp) next sp c low high b r moves quiet hl = no_stay_extended k.setting.rules (move.Append 1) r tt
no_stay k g (op.AddSp e8) next sp c low high b r moves quiet hl = no_stay_extended k.setting.rules (displaced_by e8) r (no_stay_displaced e8)
no_stay k g op.LoadSpHl next sp c low high b r moves quiet hl =
    either_back IsNoStay k.setting.rules g.back _ (either_within IsNoStay (set_within k b) g.may_leave b (no_stay_within k b (hl refl)) (any_some b)) (λ n e. tt)
no_stay k g (op.Pop to) next sp c low high b r moves quiet hl = either_popped IsNoStay k.setting.rules g.aside tt (any_some g.aside)
no_stay k g (op.ReturnIf condition) next sp c low high b r moves quiet hl = no_stay_extended k.setting.rules (move.Take 2) r tt
no_stay k g op.Return next sp c low high b r moves quiet hl = no_stay_extended k.setting.rules (move.Take 2) r tt
no_stay k g op.ReturnFromInterrupt next sp c low high b r moves quiet hl = no_stay_extended k.setting.rules (move.Take 2) r tt
no_stay k g (op.Push from) next sp c low high b r moves quiet hl = absurd (let bad : write.Push _ _ ≡ write.Nothing = quiet in cc)
no_stay k g (op.CallIf condition a) next sp c low high b r moves quiet hl = absurd (let bad : write.Push _ _ ≡ write.Nothing = quiet in cc)
no_stay k g (op.Call a) next sp c low high b r moves quiet hl = absurd (let bad : write.Push _ _ ≡ write.Nothing = quiet in cc)
no_stay k g (op.Restart a) next sp c low high b r moves quiet hl = absurd (let bad : write.Push _ _ ≡ write.Nothing = quiet in cc)
no_stay k g o next sp c low high b r moves quiet hl = absurd (no_move moves)

-- what leaves SP moves nothing
pub still_stays : (k : Stack) (g : Around) (o : Op) (w : AbsWrite) (b : Option Bounds) → moves_sp o ≡ false → stack_move k g o w b ≡ move.Stay
unfolding stack_move
still_stays k g (op.LoadPair pair.Bc a) w b h = refl
still_stays k g (op.LoadPair pair.De a) w b h = refl
still_stays k g (op.LoadPair pair.Hl a) w b h = refl
still_stays k g (op.LoadPair pair.Sp a) w b h = cc
still_stays k g (op.IncrementPair pair.Bc) w b h = refl
still_stays k g (op.IncrementPair pair.De) w b h = refl
still_stays k g (op.IncrementPair pair.Hl) w b h = refl
still_stays k g (op.IncrementPair pair.Sp) w b h = cc
still_stays k g (op.DecrementPair pair.Bc) w b h = refl
still_stays k g (op.DecrementPair pair.De) w b h = refl
still_stays k g (op.DecrementPair pair.Hl) w b h = refl
still_stays k g (op.DecrementPair pair.Sp) w b h = cc
still_stays k g (op.ReturnIf condition) w b h = cc
still_stays k g op.Return w b h = cc
still_stays k g op.ReturnFromInterrupt w b h = cc
still_stays k g (op.Pop to) w b h = cc
still_stays k g (op.Push from) w b h = cc
still_stays k g (op.CallIf condition a) w b h = cc
still_stays k g (op.Call a) w b h = cc
still_stays k g (op.Restart a) w b h = cc
still_stays k g (op.AddSp e8) w b h = cc
still_stays k g op.LoadSpHl w b h = cc
still_stays k g o w b h = refl

-- ---- where SP is set to

-- so many bytes below a base, at most 255
pub record IsBelow (base n after : ℕ) : Type 0 where
  pub at : after ≡ base - n
  pub few : n ≤ 255

below_by : (base need a n : ℕ) → bytes_to base need a ≡ Some n → IsBelow base n a
below_by base need a n h = choose (nat_le a base && nat_le (base - a) need && nat_le (base - a) 255) refl h
  where
    same : (i j : ℕ) → Some i ≡ Some j → i ≡ j
    same i j e = cc

    choose : (t : Bool) → (nat_le a base && nat_le (base - a) need && nat_le (base - a) 255) ≡ t → cond t (Some (base - a)) None ≡ Some n → IsBelow base n a
    choose true e h =
        let is : base - a ≡ n = same (base - a) n h in
        let le : a ≤ base = grind (arith, nat_tests) in
        let few : base - a ≤ 255 = grind (arith, nat_tests) in
        record { at = omega arith; few = omega arith }
    choose false e h = absurd (let bad : None ≡ Some n = h in cc)

-- how SP moves in a procedure with this base
abbrev pub IsMovedTo : Stack → ℕ → StackMove → ℕ → ℕ → Type 0
IsMovedTo k base (move.Push w) sp after = after ≡ (sp + 65534) % 65536
IsMovedTo k base (move.Take n) sp after = after ≡ (sp + n) % 65536
IsMovedTo k base (move.Append n) sp after = after ≡ (sp + (65536 - n)) % 65536
IsMovedTo k base (move.Set n) sp after = AreInRegion k.region base n → IsRegion k.region → IsBelow base n after
IsMovedTo k base (move.Restart n) sp after = IsBelow (k.region.last + 1) n after
IsMovedTo k base (move.Aside b) sp after = (b.first ≤ after) × (after ≤ b.last)
IsMovedTo k base _ sp after = Unit {0}

set_moves : (k : Stack) (base : ℕ) (a sp : ℕ) → IsBase k.setting base → IsMovedTo k base (set_by (own_bytes k a) (main_bytes k a)) sp a
set_moves k base a sp right = by (known_base k.setting) refl
  where
    by_main : (t : Bool) → (o : Option ℕ) → cond t None (bytes_to (k.region.last + 1) k.main_need a) ≡ o → IsMovedTo k base (restart_by o) sp a
    by_main true None e = tt
    by_main true (Some n) e = absurd (let bad : None ≡ Some n = e in cc)
    by_main false None e = tt
    by_main false (Some n) e = below_by (k.region.last + 1) k.main_need a n e

    by_own : (b : ℕ) → known_base k.setting ≡ Some b → (o : Option ℕ) → bytes_to b k.need a ≡ o → IsMovedTo k base (set_by o (main_bytes k a)) sp a
    by_own b e None own = by_main k.setting.is_main (main_bytes k a) refl
    by_own b e (Some n) own = λ room is. subst (λ c. IsBelow c n a) (right b e) (below_by b k.need a n own)

    by : (known : Option ℕ) → known_base k.setting ≡ known → IsMovedTo k base (set_by (bytes_to_if known k.need a) (main_bytes k a)) sp a
    by None e = by_main k.setting.is_main (main_bytes k a) refl
    by (Some b) e = by_own b e (bytes_to b k.need a) refl

set_to_moves : (k : Stack) (base : ℕ) (a sp : ℕ) → IsBase k.setting base → k.setting.rules ≡ Extended → IsMovedTo k base (set_to k.setting.rules k a) sp a
set_to_moves k base a sp right h = subst (λ r. IsMovedTo k base (set_to r k a) sp a) (sym h) (set_moves k base a sp right)

set_within_moves : (k : Stack) (base : ℕ) (b : Option Bounds) (sp a : ℕ) → IsBase k.setting base → k.setting.rules ≡ Extended → WithinIf b a → IsMovedTo k base (set_within k b) sp a
set_within_moves k base None sp a right h w = tt
set_within_moves k base (Some b) sp a right h w = choose (nat_lt b.first b.last) refl
  where
    choose : (t : Bool) → nat_lt b.first b.last ≡ t → IsMovedTo k base (cond t move.Lost (set_to k.setting.rules k b.first)) sp a
    choose true e = tt
    choose false e =
        let least = w.least in
        let most = w.most in
        let is : b.first ≡ a = grind (arith, nat_tests) in
        subst (λ n. IsMovedTo k base (set_to k.setting.rules k n) sp a) (sym is) (set_to_moves k base a sp right h)

extended_moves : (k : Stack) (base : ℕ) (m : StackMove) (sp a : ℕ) → k.setting.rules ≡ Extended → IsMovedTo k base m sp a → IsMovedTo k base (extended k.setting.rules m) sp a
extended_moves k base m sp a h is = subst (λ n. IsMovedTo k base n sp a) (sym (extended_is k.setting.rules m h)) is

displaced_moves : (k : Stack) (base : ℕ) (e8 sp : ℕ) → e8 < 256 → IsMovedTo k base (displaced_by e8) sp (displaced sp e8)
unfolding displaced
displaced_moves k base e8 sp small = choose (nat_lt e8 128) refl
  where
    choose : (t : Bool) → nat_lt e8 128 ≡ t → IsMovedTo k base (cond t (move.Take e8) (move.Append (256 - e8))) sp ((sp + cond t e8 (e8 + 65280)) % 65536)
    choose true e = refl
    choose false e = let same : e8 + 65280 ≡ 65536 - (256 - e8) = omega arith in ap (λ n. (sp + n) % 65536) same

only_if-moves : (k : Stack) (base : ℕ) (m : StackMove) (sp : ℕ) (t : Bool) (e : Effect) (p : Processor) → (Effects.only_if t e p).is_taken ≡ true → IsMovedTo k base m sp e.processor.sp → IsMovedTo k base m sp (Effects.only_if t e p).processor.sp
unfolding Effects.only_if
only_if-moves k base m sp true e p taken h = h
only_if-moves k base m sp false e p taken h = cc

pushes_move : (k : Stack) (base : ℕ) (w : AbsWrite) (sp : ℕ) → IsMovedTo k base (push_of w) sp ((sp + 65534) % 65536)
pushes_move k base (write.Push high low) sp = refl
pushes_move k base write.Nothing sp = tt
pushes_move k base (write.Byte span v) sp = tt
pushes_move k base (write.Word a low high) sp = tt

-- SP is put aside where HL is
within_moves : (k : Stack) (base : ℕ) (b : Option Bounds) (sp a : ℕ) → WithinIf b a → IfSome b (λ c. IsMovedTo k base (move.Aside c) sp a)
within_moves k base None sp a h = tt
within_moves k base (Some b) sp a h = (h.least, h.most)

-- put aside, it passes a word
popped_within : (k : Stack) (base : ℕ) (o : Option Bounds) (sp : ℕ) → sp < 65536 → IsSpWithin o sp → IfSome o (λ c. IsMovedTo k base (move.Aside (behind_word c)) sp ((sp + 2) % 65536))
popped_within k base None sp small h = tt
popped_within k base (Some b) sp small h = by (nat_lt b.first 0xFFFE && nat_lt b.last 0xFFFE) refl
  where
    by :
        (t : Bool) → (nat_lt b.first 0xFFFE && nat_lt b.last 0xFFFE) ≡ t
        → ((cond {A = Bounds} t (record { first = b.first + 2; last = b.last + 2 }) (record { first = 0; last = 0xFFFF })).first ≤ (sp + 2) % 65536)
        × ((sp + 2) % 65536 ≤ (cond {A = Bounds} t (record { first = b.first + 2; last = b.last + 2 }) (record { first = 0; last = 0xFFFF })).last)
    by true e =
        let least = h.0 in
        let most = h.1 in
        let both = and_parts (nat_lt b.first 0xFFFE) (nat_lt b.last 0xFFFE) e in
        let near : b.last < 65534 = less_is b.last 65534 both.1 in
        (omega arith, omega arith)
    by false e = (omega arith, omega arith)

-- the machine's SP moves as it is said, where HL lies within the bounds
pub sp_moves :
    (k : Stack) (base : ℕ) (g : Around) (o : Op) (w : AbsWrite) (b : Option Bounds) (p : Processor) (l h : ℕ) → k.setting.rules ≡ Extended → HasBytes o
    → p.sp < 65536 → IsSpWithin g.aside p.sp → IsBase k.setting base
    → (Effects.effect_of o p l h).is_taken ≡ true → (o ≡ op.LoadSpHl → WithinIf b (Effects.hl p))
    → ((n : ℕ) → g.back ≡ Some n → IsMovedTo k base (move.Set n) p.sp (Effects.hl p))
    → IsMovedTo k base (stack_move k g o w b) p.sp (Effects.effect_of o p l h).processor.sp
unfolding stack_move Effects.effect_of Effects.push Effects.call Effects.return_to with_pair pair_value
sp_moves k base g (op.LoadPair pair.Sp a) w b p l h r bytes small aside right taken hl back = either_aside (λ m. IsMovedTo k base m p.sp a) (set_to k.setting.rules k a) g.may_leave _ (set_to_moves k base a p.sp right r) (omega arith, omega arith)
sp_moves k base g op.LoadSpHl w b p l h r bytes small aside right taken hl back =
    either_back (λ m. IsMovedTo k base m p.sp (Effects.hl p)) k.setting.rules g.back _
    (either_within (λ m. IsMovedTo k base m p.sp (Effects.hl p)) (set_within k b) g.may_leave b (set_within_moves k base b p.sp _ right r (hl refl)) (within_moves k base b p.sp (Effects.hl p) (hl refl)))
    back
sp_moves k base g (op.Push from) (write.Push high low) b p l h r bytes small aside right taken hl back = refl
sp_moves k base g (op.Push from) write.Nothing b p l h r bytes small aside right taken hl back = tt
sp_moves k base g (op.Push from) (write.Byte span v) b p l h r bytes small aside right taken hl back = tt
sp_moves k base g (op.Push from) (write.Word a low high) b p l h r bytes small aside right taken hl back = tt
sp_moves k base g (op.Pop to) w b p l h r bytes small aside right taken hl back =
    either_popped (λ m. IsMovedTo k base m p.sp ((p.sp + 2) % 65536)) k.setting.rules g.aside refl (popped_within k base g.aside p.sp small aside)
sp_moves k base g (op.IncrementPair pair.Sp) w b p l h r bytes small aside right taken hl back = extended_moves k base (move.Take 1) p.sp _ r refl
sp_moves k base g (op.DecrementPair pair.Sp) w b p l h r bytes small aside right taken hl back = extended_moves k base (move.Append 1) p.sp _ r refl
sp_moves k base g (op.AddSp e8) w b p l h r bytes small aside right taken hl back = extended_moves k base (displaced_by e8) p.sp _ r (displaced_moves k base e8 p.sp bytes)
sp_moves k base g (op.CallIf condition a) w b p l h r bytes small aside right taken hl back = extended_moves k base (push_of w) p.sp _ r (only_if-moves k base (push_of w) p.sp _ (Effects.call p a) p taken (pushes_move k base w p.sp))
sp_moves k base g (op.Call a) w b p l h r bytes small aside right taken hl back = extended_moves k base (push_of w) p.sp _ r (pushes_move k base w p.sp)
sp_moves k base g (op.Restart a) w b p l h r bytes small aside right taken hl back = extended_moves k base (push_of w) p.sp _ r (pushes_move k base w p.sp)
sp_moves k base g (op.ReturnIf condition) w b p l h r bytes small aside right taken hl back = extended_moves k base (move.Take 2) p.sp _ r (only_if-moves k base (move.Take 2) p.sp _ (Effects.return_to p l h) p taken refl)
sp_moves k base g op.Return w b p l h r bytes small aside right taken hl back = extended_moves k base (move.Take 2) p.sp _ r refl
sp_moves k base g op.ReturnFromInterrupt w b p l h r bytes small aside right taken hl back = extended_moves k base (move.Take 2) p.sp _ r refl
sp_moves k base g o w b p l h r bytes small aside right taken hl back = tt
