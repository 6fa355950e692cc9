-- What a caller of version 3 goes on with: its pairs are such as may be known, and its items are those that waited, as many as the
-- exit's behind them.
use Rattle.std.proofs.Common.{◌≡◌, ℕ, ◌-◌, Bool, true, false, cond, List, length, Option, Some, None, refl}
use Rattle.std.specs.Prelude.{IfSome, option_map, option_and_then, if◌then◌else◌}
use Rattle.gb_successors.specs.Below.gb_domain.declared.pairs.PairBounds.{PairBounds}
use Rattle.gb_successors.specs.Below.gb_domain.declared.rules.Rules.TheVariants.{Extended}
use Rattle.gb_successors.specs.Below.gb_domain.declared.types.Range.{Range}
use Rattle.gb_successors.specs.Below.gb_domain.Pairs.{ArePairs}
use Rattle.gb_successors.specs.Below.gb_domain.Types.{AbsState}
use Rattle.gb_successors.specs.Below.gb_pairs.declared.values.Values.{Values}
use Rattle.gb_successors.specs.Below.gb_pairs.Reduced.{reduced}
use Rattle.gb_successors.proofs.Below.gb_relations_laws.Below.gb_pairs_laws.KeptLaws.{reduced_kept}
use Rattle.gb_successors.specs.Below.gb_relations.Transfer.{values_of}
use Rattle.gb_calls.specs.Resuming.{given_addresses, is_something, kept_by, rejoined, with_controller, with_banks_cut, with_values, with_values_if, reduced_state, resumed_by, waiting_stack}
use Rattle.gb_calls.specs.TakenOver.{given_back_items}
use Rattle.gb_calls.specs.Told.{val_back}
use Rattle.gb_calls.proofs.ReturnedLaws.{ArePairs-returned}
use Rattle.gb_calls.proofs.TakenOverLaws.{given_back-count}
use Rattle.gb_successors.specs.Below.gb_domain.Summaries.{Program}
use Rattle.gb_successors.specs.Below.gb_domain.declared.types.Ctl.{Ctl}
use Rattle.gb_successors.specs.Below.gb_product.Covering.{values_in, read_in}
use Rattle.gb_successors.specs.Below.gb_product.Reduced.{reduced_controller}
use Rattle.gb_successors.specs.Below.gb_domain.declared.setting.Setting.{Setting}
use Rattle.gb_successors.specs.Below.gb_domain.declared.places.StackBytes.{StackBytes}
use Rattle.gb_ops.specs.declared.machine.Region.{Region}
use Rattle.gb_successors.specs.Below.gb_product.Held.{stack_held, held_relations}
use Rattle.gb_successors.proofs.Below.gb_product_laws.HeldLaws.{free_held, held_placed}
use Rattle.gb_successors.specs.Below.gb_domain.declared.places.OneByte.{OneByte}
use Rattle.gb_successors.specs.Below.gb_product.Below.gb_copies.Places.{has_place, of_places, without_test}
use Rattle.gb_successors.specs.Below.gb_relations.declared.returned.Kept.{Kept}
use Rattle.gb_successors.specs.Below.gb_relations.Returned.{both, kept_places, byte_returned, returned}
use Rattle.gb_successors.specs.Below.gb_relations.Sound.{IsByteFree, IsBytePlaced}

-- the states with which a caller goes on that was in s, where the callee began with k items and left by the exit x; of the stack the
-- items that wait may be places
pub record IsGivenBack (may_be : ℕ → Bool) (waiting : StackBytes) (k : ℕ) (s x after : AbsState) : Type 0 where
  pub pairs : ArePairs may_be after.relations.pairs
  pub count : length after.items ≡ length (given_back_items k s.items x.items)
  pub place : IsBytePlaced waiting after.relations.byte.address

-- ---- places

place_of_places : (stack : StackBytes) (b : OneByte) → IsBytePlaced stack b.address → IsBytePlaced stack (of_places b).address
place_of_places stack b h = choose (has_place b)
  where
    choose : (is : Bool) → IsBytePlaced stack (cond is b (record b { test = None })).address
    choose true = h
    choose false = h

place_kept : (stack : StackBytes) (k : Kept) (b : OneByte) → IsBytePlaced stack b.address → IsBytePlaced stack (kept_places k b).address
unfolding kept_places
place_kept stack k b h = place_of_places stack (record b { registers = both b.registers k.registers; address = if k.address then b.address else None }) (choose k.address)
  where
    choose : (is : Bool) → IsBytePlaced stack (cond is b.address None)
    choose true = h
    choose false = tt

place_returned : (stack : StackBytes) (k : Kept) (s x : OneByte) → IsBytePlaced stack s.address → IsBytePlaced stack x.address → IsBytePlaced stack (byte_returned k s x).address
unfolding byte_returned without_test
place_returned stack k s x h i = choose k.flags (has_place x)
  where
    choose : (flags some : Bool) → IsBytePlaced stack (cond flags (kept_places k s) (cond some x (without_test (kept_places k s)))).address
    choose true some = place_kept stack k s h
    choose false true = i
    choose false false = place_kept stack k s h

-- ---- all of it

-- to cut the controller's banks leaves pairs and items as they are
given_back_cut : (may_be : ℕ → Bool) (program : Program) (waiting : StackBytes) (k : ℕ) (s x t : AbsState) → IsGivenBack may_be waiting k s x t → IfSome (with_banks_cut program t) (IsGivenBack may_be waiting k s x)
unfolding with_banks_cut
given_back_cut may_be program waiting k s x t h = cut (reduced_controller program (values_in t) t.cells t.summary t.core.ctl)
  where
    cut : (o : Option Ctl) → IfSome (option_map (with_controller t) o) (IsGivenBack may_be waiting k s x)
    cut None = tt
    cut (Some c) = record { pairs = h.pairs; count = h.count; place = h.place }

given_back_values : (may_be : ℕ → Bool) (program : Program) (whole : Bool) (waiting : StackBytes) (k : ℕ) (ranges : List Range) (kept : List ℕ) (s x : AbsState) (o : Option Values) → IfSome o (λ w. ArePairs may_be w.pairs)
    → IsBytePlaced waiting (held_relations waiting s.relations).byte.address → IsBytePlaced waiting x.relations.byte.address
    → IfSome (option_and_then (with_banks_cut program) (with_values_if (rejoined program whole waiting k ranges kept s x) o)) (IsGivenBack may_be waiting k s x)
unfolding rejoined returned
given_back_values may_be program whole waiting k ranges kept s x None h held given = tt
given_back_values may_be program whole waiting k ranges kept s x (Some v) h held given =
    let known = held_relations waiting s.relations in
    given_back_cut may_be program waiting k s x (with_values (rejoined program whole waiting k ranges kept s x) v)
    (record {
      pairs = h;
      count = given_back-count k s.items x.items (val_back program whole kept s);
      place = place_returned waiting (kept_by ranges (given_addresses kept x.cells) known x.core) known.byte x.relations.byte held given;
    })

given_back_reduced : (may_be : ℕ → Bool) (program : Program) (entered : PairBounds) (whole : Bool) (waiting : StackBytes) (k : ℕ) (ranges : List Range) (kept : List ℕ) (s x : AbsState) → ArePairs may_be s.relations.pairs → ArePairs may_be x.relations.pairs
    → IsBytePlaced waiting (held_relations waiting s.relations).byte.address → IsBytePlaced waiting x.relations.byte.address
    → IfSome (reduced_state program entered (rejoined program whole waiting k ranges kept s x)) (IsGivenBack may_be waiting k s x)
unfolding reduced_state rejoined
given_back_reduced may_be program entered whole waiting k ranges kept s x h i held given =
    let known = held_relations waiting s.relations in
    given_back_values may_be program whole waiting k ranges kept s x (reduced entered (read_in program (rejoined program whole waiting k ranges kept s x)) (values_of (rejoined program whole waiting k ranges kept s x).core.registers (rejoined program whole waiting k ranges kept s x).relations.pairs))
    (reduced_kept may_be entered (read_in program (rejoined program whole waiting k ranges kept s x)) (values_of (rejoined program whole waiting k ranges kept s x).core.registers (rejoined program whole waiting k ranges kept s x).relations.pairs) _ refl
    (ArePairs-returned may_be (kept_by ranges (given_addresses kept x.cells) known x.core) s.core.registers known x.relations h i)) held given

pub IsGivenBack-resumed : (may_be : ℕ → Bool) (program : Program) (z : Setting) (region : Region) (k : ℕ) (ranges : List Range) (kept : List ℕ) (s x : AbsState) → ArePairs may_be s.relations.pairs → ArePairs may_be x.relations.pairs
    → IsBytePlaced (stack_held z region (length s.items)) s.relations.byte.address → IsByteFree region x.relations.byte.address
    → IfSome (resumed_by Extended program z region k ranges kept s x) (IsGivenBack may_be (waiting_stack z region k s) k s x)
unfolding resumed_by
IsGivenBack-resumed may_be program z region k ranges kept s x h i place free = choose (is_something program z.is_whole kept ranges s x)
  where
    choose : (b : Bool) → IfSome (cond b (reduced_state program z.entered (rejoined program z.is_whole (waiting_stack z region k s) k ranges kept s x)) None) (IsGivenBack may_be (waiting_stack z region k s) k s x)
    choose true =
        given_back_reduced may_be program z.entered z.is_whole (waiting_stack z region k s) k ranges kept s x h i (held_placed z region (length s.items) (length s.items - k) s.relations.byte place)
        (free_held z region (length s.items - k) x.relations.byte.address free)
    choose false = tt
