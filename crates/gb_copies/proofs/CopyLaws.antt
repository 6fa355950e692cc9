-- What is copied to a place still makes one byte.
use Rattle.std.proofs.Common.{◌≡◌, ℕ, ◌<◌, Bool, true, false, cond, refl, sym, ◌∙◌, ap, subst, arith}
use Rattle.gb_ops.specs.declared.op.Register.{Register}
use Rattle.gb_ops.specs.declared.registers.Registers.{Registers}
use Rattle.gb_ops.specs.declared.registers.Flags.{Flags}
use Rattle.gb_ops.specs.Registers.{get, set}
use Rattle.gb_domain.specs.declared.places.Place.{Place}
use Rattle.gb_domain.specs.declared.places.Place.TheVariants as place
use Rattle.gb_domain.specs.declared.places.OneByte.{OneByte}
use Rattle.gb_domain.specs.Places.{no_place}
use Rattle.gb_copies.specs.Meaning.{HoldOneByte, held_at}
use Rattle.gb_copies.specs.Places.{is_place, without_place, with_place}
use Rattle.gb_copies.specs.Copies.{is_same_place, gives_way, two, copied_beside, copied}
use Rattle.gb_copies.specs.Sound.{IsSoundCopyTo, IsSoundStoreOf}
use Rattle.gb_domain.proofs.RegisterLaws.{set_same, same_register}
use Rattle.gb_copies.proofs.RegisterLaws.{AllHold-set, AllHold-with, AllHold-none}
use Rattle.gb_copies.proofs.PlaceLaws.{same_address, held_at-place, HoldOneByte-without_register, HoldOneByte-without_addresses}

-- ---- to a register

-- the register becomes a place of a byte that it gets
HoldOneByte-loaded :
    (r : Register) (n : ℕ) (b : OneByte) (x : Registers ℕ) (memory : ℕ → ℕ) (f : Flags) (h : HoldOneByte b x memory f)
    → n ≡ h.byte → HoldOneByte (with_place (place.Register r) b) (set r n x) memory f
unfolding with_place
HoldOneByte-loaded r n b x memory f h e =
    record {
      byte = h.byte;
      small = h.small;
      registers = AllHold-set r n h.byte b.registers x e h.registers;
      address = h.address;
      test = h.test;
    }

HoldOneByte-two_to :
    (r : Register) (from : Place) (x : Registers ℕ) (memory : ℕ → ℕ) (f : Flags)
    → held_at from x memory < 256
    → HoldOneByte (two (place.Register r) from) (set r (held_at from x memory) x) memory f
unfolding with_place
HoldOneByte-two_to r (place.Register s) x memory f small =
    record {
      byte = get s x;
      small = small;
      registers = AllHold-set r (get s x) (get s x) (set s true no_place) x refl
          (AllHold-with s (get s x) no_place x refl (AllHold-none (get s x) x));
      address = λ a e. cc;
      test = tt;
    }
HoldOneByte-two_to r (place.Address a) x memory f small =
    record {
      byte = memory a;
      small = small;
      registers = AllHold-set r (memory a) (memory a) no_place x refl (AllHold-none (memory a) x);
      address = λ c e. ap memory (sym (same_address e));
      test = tt;
    }

-- a place that is copied to itself
held_at-same :
    (r : Register) (from : Place) (x : Registers ℕ) (memory : ℕ → ℕ)
    → is_same_place (place.Register r) from ≡ true → set r (held_at from x memory) x ≡ x
held_at-same r (place.Register s) x memory is = ap (λ q. set r (get q x) x) (sym (same_register r s is)) ∙ set_same r x
held_at-same r (place.Address a) x memory is = cc

HoldOneByte-beside_to :
    (r : Register) (from : Place) (b left : OneByte) (x : Registers ℕ) (memory : ℕ → ℕ) (f : Flags)
    → held_at from x memory < 256 → HoldOneByte left (set r (held_at from x memory) x) memory f
    → HoldOneByte (copied_beside (place.Register r) from left) (set r (held_at from x memory) x) memory f
HoldOneByte-beside_to r from b left x memory f small h = choose (gives_way (place.Register r) from left)
  where
    choose : (is : Bool) → HoldOneByte (cond is (two (place.Register r) from) left) (set r (held_at from x memory) x) memory f
    choose true = HoldOneByte-two_to r from x memory f small
    choose false = h

HoldOneByte-copied_to :
    (r : Register) (from : Place) (b : OneByte) (x : Registers ℕ) (memory : ℕ → ℕ) (f : Flags)
    → held_at from x memory < 256 → HoldOneByte b x memory f
    → HoldOneByte (copied (place.Register r) from b) (set r (held_at from x memory) x) memory f
unfolding copied without_place
HoldOneByte-copied_to r from b x memory f small h =
    choose (is_same_place (place.Register r) from) (is_place from b) refl refl
  where
    choose :
        (same is : Bool) → is_same_place (place.Register r) from ≡ same → is_place from b ≡ is
        → HoldOneByte
        (cond same b (cond is (with_place (place.Register r) b) (copied_beside (place.Register r) from (without_place (place.Register r) b))))
        (set r (held_at from x memory) x) memory f
    choose true is e k = subst (λ y. HoldOneByte b y memory f) (sym (held_at-same r from x memory e)) h
    choose false true e k =
        HoldOneByte-loaded r (held_at from x memory) b x memory f h (held_at-place from b x memory f h k)
    choose false false e k =
        HoldOneByte-beside_to r from b (without_place (place.Register r) b) x memory f small
        (HoldOneByte-without_register r b x memory f (held_at from x memory) h)

pub copied_sound_register :
    (r : Register) (to from : Place) (s o : OneByte) → o ≡ copied to from s → to ≡ place.Register r → IsSoundCopyTo r from s o
copied_sound_register r to from s o e t =
    subst (λ k. IsSoundCopyTo r from s k) (ap (λ p. copied p from s) (sym t) ∙ sym e) (record { gives = HoldOneByte-copied_to r from s })

-- ---- to an address

HoldOneByte-stored :
    (a : ℕ) (b : OneByte) (x : Registers ℕ) (memory written : ℕ → ℕ) (f : Flags) (h : HoldOneByte b x memory f)
    → written a ≡ h.byte → HoldOneByte (with_place (place.Address a) b) x written f
unfolding with_place
HoldOneByte-stored a b x memory written f h e =
    record {
      byte = h.byte;
      small = h.small;
      registers = h.registers;
      address = λ c same. ap written (sym (same_address same)) ∙ e;
      test = h.test;
    }

HoldOneByte-two_of :
    (a : ℕ) (r : Register) (x : Registers ℕ) (written : ℕ → ℕ) (f : Flags)
    → get r x < 256 → written a ≡ get r x → HoldOneByte (two (place.Address a) (place.Register r)) x written f
unfolding with_place
HoldOneByte-two_of a r x written f small e =
    record {
      byte = get r x;
      small = small;
      registers = AllHold-with r (get r x) no_place x refl (AllHold-none (get r x) x);
      address = λ c same. ap written (sym (same_address same)) ∙ e;
      test = tt;
    }

HoldOneByte-beside_of :
    (a : ℕ) (r : Register) (left : OneByte) (x : Registers ℕ) (written : ℕ → ℕ) (f : Flags)
    → get r x < 256 → written a ≡ get r x → HoldOneByte left x written f
    → HoldOneByte (copied_beside (place.Address a) (place.Register r) left) x written f
HoldOneByte-beside_of a r left x written f small e h = choose (gives_way (place.Address a) (place.Register r) left)
  where
    choose : (is : Bool) → HoldOneByte (cond is (two (place.Address a) (place.Register r)) left) x written f
    choose true = HoldOneByte-two_of a r x written f small e
    choose false = h

HoldOneByte-copied_of :
    (a : ℕ) (r : Register) (b : OneByte) (x : Registers ℕ) (memory written : ℕ → ℕ) (f : Flags)
    → get r x < 256 → written a ≡ get r x → ((c : ℕ) → (c ≡ a → ⊥) → written c ≡ memory c)
    → HoldOneByte b x memory f → HoldOneByte (copied (place.Address a) (place.Register r) b) x written f
unfolding copied without_place
HoldOneByte-copied_of a r b x memory written f small e others h = choose (is_place (place.Register r) b) refl
  where
    choose :
        (is : Bool) → is_place (place.Register r) b ≡ is
        → HoldOneByte
        (cond is (with_place (place.Address a) b) (copied_beside (place.Address a) (place.Register r) (without_place (place.Address a) b)))
        x written f
    choose true k = HoldOneByte-stored a b x memory written f h (e ∙ held_at-place (place.Register r) b x memory f h k)
    choose false k =
        HoldOneByte-beside_of a r (without_place (place.Address a) b) x written f small e
        (HoldOneByte-without_addresses a a b x memory written f a (omega arith) (omega arith) others h)

pub copied_sound_address :
    (a : ℕ) (r : Register) (to from : Place) (s o : OneByte)
    → o ≡ copied to from s → to ≡ place.Address a → from ≡ place.Register r → IsSoundStoreOf a r s o
copied_sound_address a r to from s o e t u =
    subst (λ k. IsSoundStoreOf a r s k) (ap (λ p. copied p (place.Register r) s) (sym t) ∙ ap (λ p. copied to p s) (sym u) ∙ sym e)
    (record { gives = HoldOneByte-copied_of a r s })
