-- The lowest reason against an instruction is the lowest of those against its successors, one by one.
use Rattle.gb_successors.specs.Below.gb_domain.declared.pairs.PairBounds.{PairBounds}
use Rattle.gb_rules.specs.Procedures.{entered_of}
use Rattle.std.proofs.Common.{◌≡◌, ℕ, Bool, true, false, cond, ◌&&◌, ◌||◌, List, [], ◌∷◌, Option, Some, None, refl, sym, ◌∙◌, ap, subst}
use Rattle.std.specs.Prelude.{⊤, nat_le, is_some, option_and_then}
use Rattle.std.specs.List.{AllByRecursion, find}
use Rattle.gb_ops.specs.declared.op.Op.{Op}
use Rattle.gb_ops.specs.declared.op.Row.{Row}
use Rattle.gb_successors.specs.Below.gb_domain.declared.rules.Rules.{Rules}
use Rattle.gb_successors.specs.Below.gb_domain.declared.rules.Rules.TheVariants.{Simple, Extended}
use Rattle.gb_successors.specs.Below.gb_domain.Limits.{rules_of}
use Rattle.gb_successors.specs.Below.gb_domain.declared.relations.Relations.{Relations}
use Rattle.gb_successors.specs.Below.gb_domain.declared.types.Val.{Val}
use Rattle.gb_successors.specs.Below.gb_domain.declared.types.Core.{Core}
use Rattle.gb_successors.specs.Below.gb_domain.declared.types.ImeSet.{ImeSet}
use Rattle.gb_successors.specs.Below.gb_domain.Types.{AbsState, Node}
use Rattle.gb_successors.specs.Below.gb_domain.Certificate.{Certificate}
use Rattle.gb_successors.specs.Below.gb_abs.declared.reason.Reason.{Reason}
use Rattle.gb_successors.specs.Below.gb_abs.declared.reason.Reason.TheVariants as reason
use Rattle.gb_successors.specs.Below.gb_abs.Reason.{reason_number}
use Rattle.gb_successors.specs.Below.gb_abs.Operations.{ime_set_after, core_settle}
use Rattle.gb_successors.specs.Below.gb_product.declared.parts.Product.{Product}
use Rattle.gb_successors.specs.Below.gb_product.declared.parts.Branch.{Branch}
use Rattle.gb_successors.specs.Below.gb_product.Reduced.{product_of, reduced}
use Rattle.gb_successors.specs.Below.gb_product.Sides.{taken_side}
use Rattle.gb_successors.specs.Way.{Successor}
use Rattle.gb_successors.specs.declared.stacks.Stack.{Stack}
use Rattle.gb_successors.specs.declared.successors.Successors.{Successors}
use Rattle.gb_successors.specs.Below.gb_product.Covering.{read_by, read_in}
use Rattle.gb_successors.specs.Below.gb_pairs.Reduced.{values_of}
use Rattle.gb_successors.specs.Successors.{memory_before, product_before, settled_way, taken_by_side, taken_successor, reduced_successor, taken_from, not_taken_from, stays, successors_of, has, any_successor}
use Rattle.gb_rules.specs.Procedures.{need_of, setting_of, stack_of, program_of}
use Rattle.gb_rules.specs.Rules.{node_setting, calls_too_deep, handles_too_deep, is_dispatch_limited, is_possible, moves_too_deep, moves_alone_too_deep, taken_too_deep, ways_of, any_of, grows_too_deep, stores_outside, meets_ram, meets_transfer, leads_anywhere, leads_uncovered, calls_wrongly, returns_wrongly, applies_to_row, way_reasons}
use Rattle.gb_rules.specs.Lowest.{lower, lowest, lowest_in, behind, applies_to_way, applies_to_taken, applies_alone}
use Rattle.gb_successors.specs.Below.gb_domain.Summaries.{Program, SummaryParts}
use Rattle.gb_successors.specs.Settled.{branch_outside, told_by, told_successor, held_way}
use Rattle.gb_successors.specs.Below.gb_domain.declared.types.Cell.{Cell}

-- ---- the first of reasons that ascend

-- the first number is lower than the second
abbrev IsBelow : Reason → Reason → Type 0
IsBelow a b = (nat_le (reason_number a) (reason_number b) ≡ true) × (nat_le (reason_number b) (reason_number a) ≡ false)

IsAscending : List Reason → Type 0
IsAscending [] = ⊤
IsAscending (r ∷ rs) = AllByRecursion (IsBelow r) rs × IsAscending rs

found_by : (P : Reason → Type 0) (b : Bool) (r : Reason) (o : Option Reason) (a : Reason) → P r → (o ≡ Some a → P a) → cond b (Some r) o ≡ Some a → P a
found_by P true r o a here later h = let same : r ≡ a = cc in subst P same here
found_by P false r o a here later h = later h

found_has : (P : Reason → Type 0) (f : Reason → Bool) (rs : List Reason) (a : Reason) → AllByRecursion P rs → find f rs ≡ Some a → P a
found_has P f [] a all h = cc
found_has P f (r ∷ rs) a all h = found_by P (f r) r (find f rs) a all.0 (found_has P f rs a all.1) h

either : {X : Type 0} (b : Bool) (x : X) → cond b x x ≡ x
either true x = refl
either false x = refl

-- one reason more at the front
chosen : (b c : Bool) (r : Reason) (p q : Option Reason)
    → ((a : Reason) → p ≡ Some a → IsBelow r a) → ((a : Reason) → q ≡ Some a → IsBelow r a)
    → cond (b || c) (Some r) (lower p q) ≡ lower (cond b (Some r) p) (cond c (Some r) q)
chosen true true r p q ps qs = sym (either (nat_le (reason_number r) (reason_number r)) (Some r))
chosen true false r p None ps qs = refl
chosen true false r p (Some a) ps qs = sym (ap (λ b. cond b (Some r) (Some a)) ((qs a refl).0))
chosen false true r None q ps qs = refl
chosen false true r (Some a) q ps qs = sym (ap (λ b. cond b (Some a) (Some r)) ((ps a refl).1))
chosen false false r p q ps qs = refl

find-either : (f g : Reason → Bool) (rs : List Reason) → IsAscending rs → find (λ r. f r || g r) rs ≡ lower (find f rs) (find g rs)
unfolding IsAscending
find-either f g [] asc = refl
find-either f g (r ∷ rs) asc =
    ap (λ o. cond (f r || g r) (Some r) o) (find-either f g rs asc.1)
    ∙ chosen (f r) (g r) r (find f rs) (find g rs) (λ a. found_has (IsBelow r) f rs a asc.0) (λ a. found_has (IsBelow r) g rs a asc.0)

find-same : (f g : Reason → Bool) (rs : List Reason) → AllByRecursion (λ r. f r ≡ g r) rs → find f rs ≡ find g rs
find-same f g [] all = refl
find-same f g (r ∷ rs) all = ap (λ b. cond b (Some r) (find f rs)) all.0 ∙ ap (λ o. cond (g r) (Some r) o) (find-same f g rs all.1)

ascending : IsAscending way_reasons
unfolding IsAscending
ascending = (
  (
    (refl, refl),
    (
      (refl, refl),
      (
        (refl, refl),
        (
          (refl, refl),
          (
            (refl, refl),
            (
              (refl, refl),
              ((refl, refl), tt),
            ),
          ),
        ),
      ),
    ),
  ),
  (
    (
      (refl, refl),
      (
        (refl, refl),
        (
          (refl, refl),
          (
            (refl, refl),
            (
              (refl, refl),
              ((refl, refl), tt),
            ),
          ),
        ),
      ),
    ),
    (
      (
        (refl, refl),
        (
          (refl, refl),
          (
            (refl, refl),
            (
              (refl, refl),
              ((refl, refl), tt),
            ),
          ),
        ),
      ),
      (
        (
          (refl, refl),
          (
            (refl, refl),
            (
              (refl, refl),
              ((refl, refl), tt),
            ),
          ),
        ),
        (
          (
            (refl, refl),
            (
              (refl, refl),
              ((refl, refl), tt),
            ),
          ),
          (
            (
              (refl, refl),
              ((refl, refl), tt),
            ),
            (((refl, refl), tt), (tt, tt)),
          ),
        ),
      ),
    ),
  ),
)

-- ---- reason by reason

-- what is asked of a successor, where there is one
abbrev asked : (Successor → Reason → Bool) → Option Successor → Reason → Bool
asked test None r = false
asked test (Some t) r = test t r

lowest-asked : (test : Successor → Reason → Bool) (o : Option Successor) → lowest (asked test o) ≡ lowest_in test o
unfolding lowest
lowest-asked test None = refl
lowest-asked test (Some t) = refl

has-asked : (test : Successor → Bool) (other : Successor → Reason → Bool) (r : Reason) (o : Option Successor)
    → ((t : Successor) → test t ≡ other t r) → has test o ≡ asked other o r
has-asked test other r None same = refl
has-asked test other r (Some t) same = same t

-- three successors, and what isn't one's alone
abbrev any_reason : List ℕ → Certificate → Node → Row → Successors → Reason → Bool
any_reason rom cert n row ss r =
    ((applies_alone rom cert n row r || asked (applies_to_taken rom cert n row) ss.taken r)
    || asked (applies_to_way rom cert n row) ss.not_taken r)
    || asked (applies_to_way rom cert n row) ss.stays r

behind-alone : (h t q s : Bool) → (((t || q) || s) || h) ≡ (((h || t) || q) || s)
behind-alone true true q s = refl
behind-alone true false true s = refl
behind-alone true false false true = refl
behind-alone true false false false = refl
behind-alone false true q s = refl
behind-alone false false true s = refl
behind-alone false false false true = refl
behind-alone false false false false = refl

deeper : (m d h t q s : Bool) → (((m || d) || ((t || q) || s)) || h) ≡ ((((m || h) || (d || t)) || q) || s)
deeper true d h t q s = refl
deeper false true true t q s = refl
deeper false true false t q s = refl
deeper false false h t q s = behind-alone h t q s

or_none : (b : Bool) → b ≡ (b || false)
or_none true = refl
or_none false = refl

three : (a b c d x y z w : Bool) → x ≡ a → y ≡ b → z ≡ c → w ≡ d → (((x || y) || z) || w) ≡ (((a || b) || c) || d)
three a b c d x y z w e f g h = rw e (rw f (rw g (rw h refl)))

-- a reason that is asked of each successor alike, and else of what is given
alike : (rom : List ℕ) (cert : Certificate) (n : Node) (row : Row) (ss : Successors) (r : Reason) (test : Successor → Bool) (alone : Bool)
    → alone ≡ applies_alone rom cert n row r
    → ((t : Successor) → test t ≡ applies_to_taken rom cert n row t r) → ((t : Successor) → test t ≡ applies_to_way rom cert n row t r)
    → (any_successor test ss || alone) ≡ any_reason rom cert n row ss r
unfolding any_successor
alike rom cert n row ss r test alone is taken way =
    behind-alone alone (has test ss.taken) (has test ss.not_taken) (has test ss.stays)
    ∙ three _ _ _ _ _ _ _ _ is
    (has-asked test (applies_to_taken rom cert n row) r ss.taken taken)
    (has-asked test (applies_to_way rom cert n row) r ss.not_taken way)
    (has-asked test (applies_to_way rom cert n row) r ss.stays way)

-- how far the instruction moves the stack, by what is asked wherever it leads, and where it is taken
moves-parts : (rules : Rules) (need : ℕ) (n : Node) (o : Op) (taken : Option Successor)
    → moves_too_deep rules need n o taken ≡ (moves_alone_too_deep rules need n o || has (λ t. taken_too_deep rules need n o) taken)
moves-parts Simple need n o None = or_none _
moves-parts Simple need n o (Some t) = or_none _
moves-parts Extended need n o None = refl
moves-parts Extended need n o (Some t) = refl

deep-asked : (rom : List ℕ) (cert : Certificate) (n : Node) (row : Row) (o : Option Successor)
    → (has (λ t. taken_too_deep (rules_of cert.version) (need_of cert n.procedure) n row.op) o
    || has (calls_too_deep (program_of rom cert) cert (node_setting cert n) (need_of cert n.procedure)) o)
    ≡ asked (applies_to_taken rom cert n row) o reason.Depth
unfolding applies_to_taken applies_to_way
deep-asked rom cert n row None = refl
deep-asked rom cert n row (Some t) = refl

way-deep : (rom : List ℕ) (cert : Certificate) (n : Node) (row : Row) (t : Successor)
    → calls_too_deep (program_of rom cert) cert (node_setting cert n) (need_of cert n.procedure) t ≡ applies_to_way rom cert n row t reason.Depth
unfolding applies_to_way
way-deep rom cert n row t = refl

depth : (rom : List ℕ) (cert : Certificate) (n : Node) (row : Row)
    → applies_to_row rom cert n row reason.Depth ≡ any_reason rom cert n row (ways_of rom cert n row) reason.Depth
unfolding applies_to_row grows_too_deep any_of any_successor applies_alone
depth rom cert n row =
    let ss = ways_of rom cert n row in
    let test = calls_too_deep (program_of rom cert) cert (node_setting cert n) (need_of cert n.procedure) in
    let deep = has (λ t. taken_too_deep (rules_of cert.version) (need_of cert n.procedure) n row.op) ss.taken in
    ap (λ b. (b || any_successor test ss) || (handles_too_deep (program_of rom cert) cert n && is_possible rom cert n)) (moves-parts (rules_of cert.version) (need_of cert n.procedure) n row.op ss.taken)
    ∙ deeper (moves_alone_too_deep (rules_of cert.version) (need_of cert n.procedure) n row.op) deep (handles_too_deep (program_of rom cert) cert n && is_possible rom cert n)
    (has test ss.taken) (has test ss.not_taken) (has test ss.stays)
    ∙ three _ _ _ _ _ _ _ _ refl
    (deep-asked rom cert n row ss.taken)
    (has-asked test (applies_to_way rom cert n row) reason.Depth ss.not_taken (way-deep rom cert n row))
    (has-asked test (applies_to_way rom cert n row) reason.Depth ss.stays (way-deep rom cert n row))

-- the others are asked of each successor alike
alone_none : (b c : Bool) → (b || false) ≡ c → b ≡ c
alone_none true c h = h
alone_none false c h = h

store : (rom : List ℕ) (cert : Certificate) (n : Node) (row : Row)
    → applies_to_row rom cert n row reason.Store ≡ any_reason rom cert n row (ways_of rom cert n row) reason.Store
unfolding applies_to_row stores_outside any_of applies_alone applies_to_taken applies_to_way
store rom cert n row = alone_none _ _ (alike rom cert n row (ways_of rom cert n row) reason.Store _ false refl (λ t. refl) (λ t. refl))

closed : (rom : List ℕ) (cert : Certificate) (n : Node) (row : Row)
    → applies_to_row rom cert n row reason.CartridgeRam ≡ any_reason rom cert n row (ways_of rom cert n row) reason.CartridgeRam
unfolding applies_to_row meets_ram any_of applies_alone applies_to_taken applies_to_way
closed rom cert n row = alone_none _ _ (alike rom cert n row (ways_of rom cert n row) reason.CartridgeRam _ false refl (λ t. refl) (λ t. refl))

transfers : (rom : List ℕ) (cert : Certificate) (n : Node) (row : Row)
    → applies_to_row rom cert n row reason.OamTransfer ≡ any_reason rom cert n row (ways_of rom cert n row) reason.OamTransfer
unfolding applies_to_row meets_transfer any_of applies_alone applies_to_taken applies_to_way
transfers rom cert n row = alike rom cert n row (ways_of rom cert n row) reason.OamTransfer _ _ refl (λ t. refl) (λ t. refl)

jumps : (rom : List ℕ) (cert : Certificate) (n : Node) (row : Row)
    → applies_to_row rom cert n row reason.JumpHl ≡ any_reason rom cert n row (ways_of rom cert n row) reason.JumpHl
unfolding applies_to_row leads_anywhere any_of applies_alone applies_to_taken applies_to_way
jumps rom cert n row = alone_none _ _ (alike rom cert n row (ways_of rom cert n row) reason.JumpHl _ false refl (λ t. refl) (λ t. refl))

uncovered : (rom : List ℕ) (cert : Certificate) (n : Node) (row : Row)
    → applies_to_row rom cert n row reason.Uncovered ≡ any_reason rom cert n row (ways_of rom cert n row) reason.Uncovered
unfolding applies_to_row leads_uncovered any_of applies_alone applies_to_taken applies_to_way
uncovered rom cert n row = alone_none _ _ (alike rom cert n row (ways_of rom cert n row) reason.Uncovered _ false refl (λ t. refl) (λ t. refl))

calls : (rom : List ℕ) (cert : Certificate) (n : Node) (row : Row)
    → applies_to_row rom cert n row reason.Callee ≡ any_reason rom cert n row (ways_of rom cert n row) reason.Callee
unfolding applies_to_row calls_wrongly any_of applies_alone applies_to_taken applies_to_way
calls rom cert n row = alone_none _ _ (alike rom cert n row (ways_of rom cert n row) reason.Callee _ false refl (λ t. refl) (λ t. refl))

returns : (rom : List ℕ) (cert : Certificate) (n : Node) (row : Row)
    → applies_to_row rom cert n row reason.Return ≡ any_reason rom cert n row (ways_of rom cert n row) reason.Return
unfolding applies_to_row returns_wrongly any_of applies_alone applies_to_taken applies_to_way
returns rom cert n row = alone_none _ _ (alike rom cert n row (ways_of rom cert n row) reason.Return _ false refl (λ t. refl) (λ t. refl))

-- ---- the lowest

lowest-ways : (rom : List ℕ) (cert : Certificate) (n : Node) (row : Row)
    → lowest (applies_to_row rom cert n row)
    ≡ lower (lower (lower (lowest (applies_alone rom cert n row)) (lowest (asked (applies_to_taken rom cert n row) (ways_of rom cert n row).taken)))
    (lowest (asked (applies_to_way rom cert n row) (ways_of rom cert n row).not_taken)))
    (lowest (asked (applies_to_way rom cert n row) (ways_of rom cert n row).stays))
unfolding lowest
lowest-ways rom cert n row =
    let ss = ways_of rom cert n row in
    let taken = asked (applies_to_taken rom cert n row) ss.taken in
    let not_taken = asked (applies_to_way rom cert n row) ss.not_taken in
    let stay = asked (applies_to_way rom cert n row) ss.stays in
    let alone = applies_alone rom cert n row in
    find-same (applies_to_row rom cert n row) (any_reason rom cert n row ss) way_reasons
    (depth rom cert n row, (store rom cert n row, (closed rom cert n row, (transfers rom cert n row, (jumps rom cert n row, (uncovered rom cert n row, (calls rom cert n row, (returns rom cert n row, tt))))))))
    ∙ find-either (λ r. (alone r || taken r) || not_taken r) stay way_reasons ascending
    ∙ ap (λ o. lower o (find stay way_reasons))
    (find-either (λ r. alone r || taken r) not_taken way_reasons ascending
    ∙ ap (λ o. lower o (find not_taken way_reasons)) (find-either alone taken way_reasons ascending))

-- the same by what is known before the instruction
abbrev IsLowest : List ℕ → Certificate → Node → Row → Stack → Option Product → Type 0
IsLowest rom cert n row k before =
    lowest (applies_to_row rom cert n row)
    ≡ lower (lower (lower (lowest (applies_alone rom cert n row))
    (lowest_in (applies_to_taken rom cert n row) (option_and_then (taken_from k (program_of rom cert) rom row (behind n.address row) n.state) before)))
    (lowest_in (applies_to_way rom cert n row) (option_and_then (not_taken_from k (program_of rom cert) row (behind n.address row) n.state) before)))
    (lowest_in (applies_to_way rom cert n row) (option_and_then (λ (p : Product). stays row n.address n.state) before))

lowest-before : (rom : List ℕ) (cert : Certificate) (n : Node) (row : Row)
    → IsLowest rom cert n row (stack_of cert n.procedure) (product_before (program_of rom cert) (stack_of cert n.procedure).setting.rules (stack_of cert n.procedure).setting.entered n.state)
unfolding ways_of successors_of
lowest-before rom cert n row =
    let ss = ways_of rom cert n row in
    lowest-ways rom cert n row
    ∙ ap (λ o. lower (lower (lower (lowest (applies_alone rom cert n row)) o) (lowest (asked (applies_to_way rom cert n row) ss.not_taken))) (lowest (asked (applies_to_way rom cert n row) ss.stays)))
    (lowest-asked (applies_to_taken rom cert n row) ss.taken)
    ∙ ap (λ o. lower (lower (lower (lowest (applies_alone rom cert n row)) (lowest_in (applies_to_taken rom cert n row) ss.taken)) o) (lowest (asked (applies_to_way rom cert n row) ss.stays)))
    (lowest-asked (applies_to_way rom cert n row) ss.not_taken)
    ∙ ap (λ o. lower (lower (lower (lowest (applies_alone rom cert n row)) (lowest_in (applies_to_taken rom cert n row) ss.taken)) (lowest_in (applies_to_way rom cert n row) ss.not_taken)) o)
    (lowest-asked (applies_to_way rom cert n row) ss.stays)

-- where it is given, by the state itself
pub lowest_of_ways : (rom : List ℕ) (cert : Certificate) (n : Node) (row : Row) (k : Stack) (s : AbsState) (p : Product)
    → k ≡ stack_of cert n.procedure → s ≡ n.state → Some p ≡ product_before (program_of rom cert) k.setting.rules k.setting.entered s
    → lowest (applies_to_row rom cert n row)
    ≡ lower (lower (lower (lowest (applies_alone rom cert n row)) (lowest_in (applies_to_taken rom cert n row) (taken_from k (program_of rom cert) rom row (behind n.address row) s p)))
    (lowest_in (applies_to_way rom cert n row) (not_taken_from k (program_of rom cert) row (behind n.address row) s p)))
    (lowest_in (applies_to_way rom cert n row) (stays row n.address s))
lowest_of_ways rom cert n row k s p stack state before =
    subst (λ (t : AbsState). lowest (applies_to_row rom cert n row)
    ≡ lower (lower (lower (lowest (applies_alone rom cert n row)) (lowest_in (applies_to_taken rom cert n row) (taken_from k (program_of rom cert) rom row (behind n.address row) t p)))
    (lowest_in (applies_to_way rom cert n row) (not_taken_from k (program_of rom cert) row (behind n.address row) t p)))
    (lowest_in (applies_to_way rom cert n row) (stays row n.address t)))
    (sym state)
    (subst (IsLowest rom cert n row k) (sym (before ∙ ap (product_before (program_of rom cert) k.setting.rules k.setting.entered) state))
    (subst (λ m. IsLowest rom cert n row m (product_before (program_of rom cert) m.setting.rules m.setting.entered n.state)) (sym stack) (lowest-before rom cert n row)))

-- the side that is taken, as far as something is meant
abbrev side_way : Stack → Core → Option Cell → Successor → Option Successor
side_way k core cell t = held_way k.setting.rules k (reduced_successor k.setting.rules k.setting.entered (told_successor (told_by k.setting.rules k cell) core t))

settled_side : (k : Stack) (core : Core) (cell : Option Cell) (t : Successor) → side_way k core cell t ≡ settled_way k cell core t
unfolding settled_way
settled_side k core cell t = refl

-- a successor on the side that is given
pub taken_on_side : (test : Successor → Reason → Bool) (program q : Program) (rom : List ℕ) (row : Row) (k : Stack) (s : AbsState) (p : Product)
    (next at : ℕ) (memory : Val) (o : Option Branch) (b : Branch) (t : Successor)
    → q ≡ program → next ≡ at → memory ≡ memory_before k q s p → o ≡ taken_side row.op memory p.core p.relations → o ≡ Some b
    → t ≡ told_successor (told_by k.setting.rules k b.cell) s.core (taken_successor k q rom row next s (branch_outside k.region b))
    → lowest_in test (held_way k.setting.rules k (reduced_successor k.setting.rules k.setting.entered t)) ≡ lowest_in test (taken_from k program rom row at s p)
taken_on_side test program q rom row k s p next at memory o b t same place known is some e =
    ap (λ u. lowest_in test (held_way k.setting.rules k (reduced_successor k.setting.rules k.setting.entered u))) e
    ∙ (ap (λ r. lowest_in test (side_way k s.core b.cell (taken_successor k r rom row next s (branch_outside k.region b)))) same
    ∙ ap (λ a. lowest_in test (side_way k s.core b.cell (taken_successor k program rom row a s (branch_outside k.region b)))) place)
    ∙ ap (lowest_in test) (settled_side k s.core b.cell (taken_successor k program rom row at s (branch_outside k.region b)))
    ∙ ap (λ w. lowest_in test (option_and_then (taken_by_side k program rom row at s) w))
    (sym some ∙ is ∙ ap (λ m. taken_side row.op m p.core p.relations) (known ∙ ap (λ r. memory_before k r s p) same))

-- ---- what is meant before the instruction

rules-stack : (cert : Certificate) (n : Node) (k : Stack) → k ≡ stack_of cert n.procedure → k.setting.rules ≡ rules_of cert.version
unfolding stack_of setting_of
rules-stack cert n k stack = ap (λ m. m.setting.rules) stack

entered-stack : (cert : Certificate) (n : Node) (k : Stack) → k ≡ stack_of cert n.procedure → k.setting.entered ≡ entered_of cert n.procedure
unfolding stack_of setting_of
entered-stack cert n k stack = ap (λ m. m.setting.entered) stack

pub possible_before : (rom : List ℕ) (cert : Certificate) (n : Node) (k : Stack) (s : AbsState) (before : Option Product)
    → k ≡ stack_of cert n.procedure → s ≡ n.state → before ≡ product_before (program_of rom cert) k.setting.rules k.setting.entered s → is_possible rom cert n ≡ is_some before
possible_before rom cert n k s before stack state is =
    sym (ap is_some (is ∙ ap (product_before (program_of rom cert) k.setting.rules k.setting.entered) state ∙ ap (λ rules. product_before (program_of rom cert) rules k.setting.entered n.state) (rules-stack cert n k stack)
    ∙ ap (λ entered. product_before (program_of rom cert) (rules_of cert.version) entered n.state) (entered-stack cert n k stack)))

-- bytes that links read, from the parts of a state
pub read_of_parts : (program : Program) (s lists : AbsState) (core : Core) (r pairs : Relations) (m : SummaryParts) (read : PairBounds) → core ≡ s.core → r ≡ s.relations → m ≡ s.summary → lists ≡ s → pairs ≡ s.relations
    → read ≡ read_by program (values_of core.registers r.pairs) lists.cells m pairs.pairs → read ≡ read_in program s
read_of_parts program s lists core r pairs m read c e f l p h = h ∙ rw c (rw e (rw f (rw l (rw p refl))))

pub before_simply : (program : Program) (rules : Rules) (entered : PairBounds) (core : Core) (r : Relations) (s : AbsState)
    → rules ≡ Simple → core ≡ core_settle s.core → r ≡ s.relations → Some (product_of core r) ≡ product_before program rules entered s
unfolding product_before reduced
before_simply program Simple entered core r s is e f = rw e (rw f refl)
before_simply program Extended entered core r s is e f = cc

pub before_reduced : (program : Program) (rules : Rules) (entered read : PairBounds) (core : Core) (s : AbsState) (o : Option Product)
    → rules ≡ Extended → core ≡ core_settle s.core → read ≡ read_in program s → o ≡ reduced Extended entered read core s.relations → o ≡ product_before program rules entered s
unfolding product_before
before_reduced program Simple entered read core s o is e g f = cc
before_reduced program Extended entered read core s o is e g f =
    f ∙ (ap (λ c. reduced Extended entered read c s.relations) e ∙ ap (λ b. reduced Extended entered b (core_settle s.core) s.relations) g)

ime_of : Bool → Bool → Bool → ImeSet
ime_of off pending on = record { off = off; pending = pending; on = on }

settled_parts : (off pending on : Bool) → pending ≡ false → ime_of off pending on ≡ ime_of off false (pending || on)
settled_parts off true on h = cc
settled_parts off false on h = refl

ime_settled : (ime : ImeSet) → ime.pending ≡ false → ime ≡ ime_set_after ime
unfolding ime_of
ime_settled ime h = settled_parts ime.off ime.pending ime.on h

-- where no interrupts become on, a core is settled
pub settled_core : (core : Core) → core.ime.pending ≡ false → core ≡ core_settle core
unfolding core_settle
settled_core core h = ap (λ ime. record core { ime = ime }) (ime_settled core.ime h)

and_none : (a b : Bool) → b ≡ false → (a && b) ≡ false
and_none true b h = h
and_none false b h = refl

deep_none : (rules : Rules) (need : ℕ) (n : Node) (o : Op) → rules ≡ Extended → moves_alone_too_deep rules need n o ≡ false
deep_none Simple need n o h = cc
deep_none Extended need n o h = refl

none_or : (a b : Bool) → a ≡ false → b ≡ false → (a || b) ≡ false
none_or true b h e = cc
none_or false b h e = e

alone_deep : (rom : List ℕ) (cert : Certificate) (n : Node) (row : Row) → rules_of cert.version ≡ Extended → is_possible rom cert n ≡ false → applies_alone rom cert n row reason.Depth ≡ false
unfolding applies_alone
alone_deep rom cert n row extended none =
    none_or _ _ (deep_none (rules_of cert.version) (need_of cert n.procedure) n row.op extended) (and_none (handles_too_deep (program_of rom cert) cert n) (is_possible rom cert n) none)

alone_limited : (rom : List ℕ) (cert : Certificate) (n : Node) (row : Row) → is_possible rom cert n ≡ false → applies_alone rom cert n row reason.OamTransfer ≡ false
unfolding applies_alone
alone_limited rom cert n row none = and_none (is_dispatch_limited cert.region n) (is_possible rom cert n) none

find-none : (f : Reason → Bool) (rs : List Reason) → AllByRecursion (λ r. f r ≡ false) rs → None ≡ find f rs
find-none f [] all = refl
find-none f (r ∷ rs) all = find-none f rs all.1 ∙ sym (ap (λ b. cond b (Some r) (find f rs)) all.0)

alone-none : (rom : List ℕ) (cert : Certificate) (n : Node) (row : Row) → rules_of cert.version ≡ Extended → is_possible rom cert n ≡ false → None ≡ lowest (applies_alone rom cert n row)
unfolding lowest applies_alone
alone-none rom cert n row extended none =
    find-none (applies_alone rom cert n row) way_reasons
    (alone_deep rom cert n row extended none, (refl, (refl, (alone_limited rom cert n row none, (refl, (refl, (refl, (refl, tt))))))))

-- where nothing is meant, nothing is asked
pub lowest_of_none : (rom : List ℕ) (cert : Certificate) (n : Node) (row : Row) (k : Stack) (s : AbsState)
    → k ≡ stack_of cert n.procedure → s ≡ n.state → k.setting.rules ≡ Extended → None ≡ product_before (program_of rom cert) k.setting.rules k.setting.entered s
    → None ≡ lowest (applies_to_row rom cert n row)
lowest_of_none rom cert n row k s stack state extended before =
    let is : IsLowest rom cert n row k None =
    subst (IsLowest rom cert n row k) (sym (before ∙ ap (product_before (program_of rom cert) k.setting.rules k.setting.entered) state))
    (subst (λ m. IsLowest rom cert n row m (product_before (program_of rom cert) m.setting.rules m.setting.entered n.state)) (sym stack) (lowest-before rom cert n row)) in
    ap (λ o. lower (lower (lower o None) None) None)
    (alone-none rom cert n row (sym (rules-stack cert n k stack) ∙ extended) (possible_before rom cert n k s None stack state before))
    ∙ sym is
