-- Where the items of a stack lie that may be places.
use Rattle.std.proofs.Common.{◌≡◌, ℕ, ◌+◌, ◌<◌, ◌≤◌, Bool, true, false, ◌==◌, ◌&&◌, ◌||◌, not, cond, nat_le, Option, Some, None, refl, subst, ap, arith}
use Rattle.std.proofs.lemmas.Bool.Decides.{nat_tests}
use Rattle.gb_ops.specs.declared.machine.Region.{Region}
use Rattle.gb_ops.specs.declared.registers.Registers.{Registers}
use Rattle.gb_ops.specs.declared.registers.Flags.{Flags}
use Rattle.gb_ops.specs.Play.{MState}
use Rattle.gb_domain.specs.declared.places.OneByte.{OneByte}
use Rattle.gb_domain.specs.declared.places.StackBytes.{StackBytes}
use Rattle.gb_domain.specs.declared.relations.Relations.{Relations}
use Rattle.gb_domain.specs.declared.setting.Setting.{Setting}
use Rattle.gb_domain.specs.Areas.{are_in_ram, is_area, meets, is_free_byte, is_item, is_place_at}
use Rattle.gb_domain.specs.Settings.{known_base, IsBase}
use Rattle.gb_abs_effects.specs.Below.gb_abs.Storage.{peek}
use Rattle.gb_summaries.specs.Below.gb_copies.Sound.{IsPartOf}
use Rattle.gb_summaries.specs.Below.gb_relations.Items.{held_places, places_outside}
use Rattle.gb_summaries.specs.Below.gb_relations.Meaning.{HoldRelations}
use Rattle.gb_summaries.specs.Below.gb_relations.Places.{is_free}
use Rattle.gb_summaries.specs.Below.gb_relations.Sound.{IsByteFree, IsBytePlaced}
use Rattle.gb_summaries.proofs.Below.gb_relations_laws.AddressLaws.{free-placed}
use Rattle.gb_summaries.proofs.Below.gb_relations_laws.ItemLaws.{held_places_part, held_places_left, places_outside_part, places_outside_free}
use Rattle.gb_product.specs.Held.{stack_held, held_relations, relations_outside}
use Rattle.gb_abs_effects.specs.Below.gb_abs.Meaning.{Activation}
use Rattle.gb_summaries.proofs.Below.gb_pairs_laws.WrittenLaws.{without_bases_sound}
use Rattle.gb_product.specs.Meaning.{entered_with, beside, AreRelated}

-- it lies below the base, and not below the items
pub record IsAmongItems (base count a : ℕ) : Type 0 where
  pub below : a < base
  pub above : base ≤ a + count

among : (base count a : ℕ) → is_item base count a ≡ true → IsAmongItems base count a
among base count a h = record { below = grind (arith, nat_tests); above = grind (arith, nat_tests) }

none_at : (count a : ℕ) → is_item 0 count a ≡ true → true ≡ false
none_at count a h = grind (arith, nat_tests)

differ : true ≡ false → ⊥
differ h = cc

pub item_among : (z : Setting) (region : Region) (count a base : ℕ) → IsBase z base → is_item (stack_held z region count).base count a ≡ true → IsAmongItems base count a
unfolding stack_held known_base
item_among z region count a base right = whole z.is_whole
  where
    known : (b : Bool) → (z.base == 0) ≡ b → is_item z.base count a ≡ true → IsAmongItems base count a
    known true e h =
        let none : z.base ≡ 0 = grind (arith, nat_tests) in
        absurd (differ (none_at count a (subst (λ n. is_item n count a ≡ true) none h)))
    known false e h =
        let is : z.base ≡ base = right z.base (ap (λ b. cond b None (Some z.base)) e) in
        subst (λ n. IsAmongItems n count a) is (among z.base count a h)

    whole : (b : Bool) → is_item (cond b z.base 0) count a ≡ true → IsAmongItems base count a
    whole false h = absurd (differ (none_at count a h))
    whole true h = known (z.base == 0) refl h

-- an address outside the stack may be a place
pub free_at : (z : Setting) (region : Region) (count a : ℕ) → is_free region a ≡ true → is_place_at (stack_held z region count) a ≡ true
unfolding stack_held
free_at z region count a h = free-placed (record { region = region; base = cond z.is_whole z.base 0; count = count }) a h

pub free_held : (z : Setting) (region : Region) (count : ℕ) (o : Option ℕ) → IsByteFree region o → IsBytePlaced (stack_held z region count) o
free_held z region count None h = tt
free_held z region count (Some a) h = free_at z region count a h

-- so may what links read
pub free_byte_at : (z : Setting) (region : Region) (count a : ℕ) → is_free_byte region a ≡ true → is_place_at (stack_held z region count) a ≡ true
unfolding stack_held
free_byte_at z region count a h = or_held (is_area a a) (not (meets region a a)) _ h
  where
    or_held : (x y w : Bool) → (x && y) ≡ true → (x && (y || w)) ≡ true
    or_held true true w e = refl
    or_held true false w e = cc
    or_held false y w e = cc

-- ---- what holds of a byte holds of fewer places

HoldRelations-fewer :
    (r : Relations) (b : OneByte) (was x : Registers ℕ) (memory : ℕ → ℕ) (f : Flags)
    → IsPartOf r.byte b → HoldRelations r was x memory f → HoldRelations (record r { byte = b }) was x memory f
HoldRelations-fewer r b was x memory f part h = record { byte = part.gives x memory f h.byte; zero = h.zero; pairs = h.pairs }

pub related_held : (stack : StackBytes) (r : Relations) (entry : Activation) (y : MState) → AreRelated r entry y → AreRelated (held_relations stack r) entry y
related_held stack r entry y h =
    HoldRelations-fewer r (held_places stack r.byte) (entered_with entry) y.processor.registers (peek y.storage) y.processor.flags (held_places_part stack r.byte _ refl) h

-- however another procedure was entered
pub related_outside : (region : Region) (r : Relations) (entry begun : Activation) (y : MState) → AreRelated r entry y → AreRelated (relations_outside region r) begun y
related_outside region r entry begun y h =
    record {
      byte = (places_outside_part region r.byte _ refl).gives y.processor.registers (peek y.storage) y.processor.flags h.byte;
      zero = h.zero;
      pairs = (without_bases_sound r.pairs _ refl).gives (beside entry y) (entered_with begun) y.processor.registers h.pairs;
    }

-- ---- where they lie then

same_stack : (z : Setting) (region : Region) (n m : ℕ) (o : Option ℕ) → IsBytePlaced (stack_held z region n) o → IsBytePlaced (record (stack_held z region m) { count = n }) o
unfolding stack_held
same_stack z region n m o h = h

-- however many items there were, a place in the stack is one of those that are left
pub held_placed : (z : Setting) (region : Region) (n m : ℕ) (b : OneByte) → IsBytePlaced (stack_held z region n) b.address → IsBytePlaced (stack_held z region m) (held_places (stack_held z region m) b).address
held_placed z region n m b h = (held_places_left (stack_held z region m) b _ refl).gives n (same_stack z region n m b.address h)

of_stack : (z : Setting) (region : Region) (n : ℕ) (o : Option ℕ) → IsBytePlaced (stack_held z region n) o → IsBytePlaced (record { region = region; base = (stack_held z region n).base; count = n }) o
unfolding stack_held
of_stack z region n o h = h

item_more : (base n m a : ℕ) → n ≤ m → is_item base n a ≡ true → is_item base m a ≡ true
item_more base n m a more h = let k = among base n a h in grind (arith, nat_tests, k.below, k.above, more)

or_more : (base n m a : ℕ) (area apart : Bool) → n ≤ m → (area && (apart || is_item base n a)) ≡ true → (area && (apart || is_item base m a)) ≡ true
or_more base n m a true true more h = refl
or_more base n m a true false more h = item_more base n m a more h
or_more base n m a false apart more h = h

-- What was an item is one still where more are held.
pub placed_more : (z : Setting) (region : Region) (n m : ℕ) (o : Option ℕ) → n ≤ m → IsBytePlaced (stack_held z region n) o → IsBytePlaced (stack_held z region m) o
unfolding stack_held
placed_more z region n m None more h = tt
placed_more z region n m (Some a) more h = or_more (cond z.is_whole z.base 0) n m a (nat_le a a && are_in_ram a a) (not (meets region a a)) more h

-- without items it lies outside the stack
pub outside_free : (z : Setting) (region : Region) (n : ℕ) (b : OneByte) → IsBytePlaced (stack_held z region n) b.address → IsByteFree region (places_outside region b).address
outside_free z region n b h =
    (places_outside_free region b _ refl).gives (stack_held z region n).base n (of_stack z region n b.address h)
