-- Where items alone are places in the stack, a byte still holds, and its address may be one.
use Rattle.std.proofs.Common.{◌≡◌, ℕ, ◌-◌, Bool, true, false, not, ◌&&◌, ◌||◌, cond, nat_le, Option, Some, None, refl, sym, subst, arith}
use Rattle.std.proofs.lemmas.Bool.Decides.{nat_tests}
use Rattle.std.proofs.lemmas.Bool.{and_parts}
use Rattle.gb_ops.specs.declared.machine.Region.{Region}
use Rattle.gb_ops.specs.declared.registers.Registers.{Registers}
use Rattle.gb_ops.specs.declared.registers.Flags.{Flags}
use Rattle.gb_domain.specs.declared.places.OneByte.{OneByte}
use Rattle.gb_domain.specs.declared.places.StackBytes.{StackBytes}
use Rattle.gb_domain.specs.Areas.{are_in_ram, meets, is_item, is_place_at}
use Rattle.gb_copies.specs.Meaning.{HoldOneByte}
use Rattle.gb_copies.specs.Places as places
use Rattle.gb_copies.specs.Sound.{IsPartOf}
use Rattle.gb_relations.specs.Places.{is_free}
use Rattle.gb_relations.specs.Sound.{IsByteFree, IsBytePlaced}
use Rattle.gb_relations.specs.Items.{held_places, places_outside, AreItemsLeft, IsOutside}

-- ---- what holds of a byte holds of fewer places

HoldOneByte-of_places :
    (b : OneByte) (x : Registers ℕ) (memory : ℕ → ℕ) (f : Flags) → HoldOneByte b x memory f → HoldOneByte (places.of_places b) x memory f
HoldOneByte-of_places b x memory f h = choose (places.has_place b)
  where
    choose : (is : Bool) → HoldOneByte (cond is b (record b { test = None })) x memory f
    choose true = h
    choose false = record { byte = h.byte; small = h.small; registers = h.registers; address = h.address; test = tt }

-- an address that is left was there
address_outside-there : (first last a : ℕ) (o : Option ℕ) → places.address_outside first last o ≡ Some a → o ≡ Some a
address_outside-there first last a None e = e
address_outside-there first last a (Some b) e = choose (nat_le first b && nat_le b last) e
  where
    choose : (is : Bool) → cond is None (Some b) ≡ Some a → Some b ≡ Some a
    choose true h = cc
    choose false h = h

HoldOneByte-without_addresses :
    (first last : ℕ) (b : OneByte) (x : Registers ℕ) (memory : ℕ → ℕ) (f : Flags)
    → HoldOneByte b x memory f → HoldOneByte (places.without_addresses first last b) x memory f
unfolding places.without_addresses
HoldOneByte-without_addresses first last b x memory f h =
    HoldOneByte-of_places (record b { address = places.address_outside first last b.address }) x memory f
    (record {
      byte = h.byte;
      small = h.small;
      registers = h.registers;
      address = λ a e. h.address a (address_outside-there first last a b.address e);
      test = h.test;
    })

IsPartOf-without_addresses : (first last : ℕ) (b : OneByte) → IsPartOf b (places.without_addresses first last b)
IsPartOf-without_addresses first last b = record { gives = λ x memory f h. HoldOneByte-without_addresses first last b x memory f h }

pub held_places_part : (stack : StackBytes) (b o : OneByte) → o ≡ held_places stack b → IsPartOf b o
unfolding held_places
held_places_part stack b o e =
    subst (λ k. IsPartOf b k) (sym e) (IsPartOf-without_addresses stack.region.first (stack.base - stack.count - 1) b)

pub places_outside_part : (region : Region) (b o : OneByte) → o ≡ places_outside region b → IsPartOf b o
unfolding places_outside
places_outside_part region b o e = subst (λ k. IsPartOf b k) (sym e) (IsPartOf-without_addresses region.first region.last b)

-- ---- where its address lies

of_places-address : (b : OneByte) → (places.of_places b).address ≡ b.address
of_places-address b = choose (places.has_place b)
  where
    choose : (is : Bool) → (cond is b (record b { test = None })).address ≡ b.address
    choose true = refl
    choose false = refl

without_addresses-address : (first last : ℕ) (b : OneByte) → (places.without_addresses first last b).address ≡ places.address_outside first last b.address
unfolding places.without_addresses
without_addresses-address first last b = of_places-address (record b { address = places.address_outside first last b.address })

-- an address that isn't below so many items is one of theirs, if it was one of others'
above_items :
    (stack : StackBytes) (count a : ℕ)
    → is_place_at (record stack { count = count }) a ≡ true
    → (nat_le stack.region.first a && nat_le a (stack.base - stack.count - 1)) ≡ false → is_place_at stack a ≡ true
above_items stack count a h above =
    let parts = and_parts (nat_le a a && are_in_ram a a) (not (meets stack.region a a) || is_item stack.base count a) h in
    simp (parts.0, choose (nat_le a stack.region.last) (nat_le stack.region.first a) refl refl parts.1)
  where
    choose :
        (low high : Bool) → nat_le a stack.region.last ≡ low → nat_le stack.region.first a ≡ high
        → (not (low && high) || is_item stack.base count a) ≡ true → (not (low && high) || is_item stack.base stack.count a) ≡ true
    choose false high l g k = refl
    choose true false l g k = refl
    choose true true l g k = grind (arith, nat_tests)

held_address :
    (stack : StackBytes) (count : ℕ) (o : Option ℕ)
    → IsBytePlaced (record stack { count = count }) o → IsBytePlaced stack (places.address_outside stack.region.first (stack.base - stack.count - 1) o)
held_address stack count None h = tt
held_address stack count (Some a) h = choose (nat_le stack.region.first a && nat_le a (stack.base - stack.count - 1)) refl
  where
    choose :
        (is : Bool) → (nat_le stack.region.first a && nat_le a (stack.base - stack.count - 1)) ≡ is
        → IsBytePlaced stack (cond is None (Some a))
    choose true e = tt
    choose false e = above_items stack count a h e

pub held_places_left : (stack : StackBytes) (b o : OneByte) → o ≡ held_places stack b → AreItemsLeft stack b o
unfolding held_places
held_places_left stack b o e =
    subst (λ k. AreItemsLeft stack b k) (sym e)
    (record {
      gives = λ count h.
          subst (λ a. IsBytePlaced stack a) (sym (without_addresses-address stack.region.first (stack.base - stack.count - 1) b))
          (held_address stack count b.address h);
    })

-- an address outside the region is free
outside_items :
    (region : Region) (base count a : ℕ)
    → is_place_at (record { region = region; base = base; count = count }) a ≡ true
    → (nat_le region.first a && nat_le a region.last) ≡ false → is_free region a ≡ true
outside_items region base count a h out =
    let parts = and_parts (nat_le a a && are_in_ram a a) (not (meets region a a) || is_item base count a) h in
    let ram = and_parts (nat_le a a) (are_in_ram a a) parts.0 in
    simp (ram.1, choose (nat_le a region.last) (nat_le region.first a) refl refl out)
  where
    choose :
        (low high : Bool) → nat_le a region.last ≡ low → nat_le region.first a ≡ high → (high && low) ≡ false → not (low && high) ≡ true
    choose false high l g k = refl
    choose true false l g k = refl
    choose true true l g k = cc

outside_address :
    (region : Region) (base count : ℕ) (o : Option ℕ)
    → IsBytePlaced (record { region = region; base = base; count = count }) o → IsByteFree region (places.address_outside region.first region.last o)
outside_address region base count None h = tt
outside_address region base count (Some a) h = choose (nat_le region.first a && nat_le a region.last) refl
  where
    choose :
        (is : Bool) → (nat_le region.first a && nat_le a region.last) ≡ is → IsByteFree region (cond is None (Some a))
    choose true e = tt
    choose false e = outside_items region base count a h e

pub places_outside_free : (region : Region) (b o : OneByte) → o ≡ places_outside region b → IsOutside region b o
unfolding places_outside
places_outside_free region b o e =
    subst (λ k. IsOutside region b k) (sym e)
    (record {
      gives = λ base count h.
          subst (λ a. IsByteFree region a) (sym (without_addresses-address region.first region.last b))
          (outside_address region base count b.address h);
    })
