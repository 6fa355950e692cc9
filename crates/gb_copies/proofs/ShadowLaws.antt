-- Shadows that come and go hold what they say.
use Rattle.std.proofs.Common.{◌≡◌, ℕ, ◌≤◌, ◌<◌, Bool, true, false, ◌&&◌, ◌==◌, nat_le, cond, Option, Some, None, IfSome, refl, sym, ◌∙◌, ap, subst, arith}
use Rattle.std.proofs.lemmas.Bool.{eqb-true}
use Rattle.std.proofs.lemmas.Bool.Decides.{nat_tests}
use Rattle.gb_ops.specs.declared.machine.Banks.{Banks}
use Rattle.gb_ops.specs.declared.machine.Kind.{Kind}
use Rattle.gb_ops.specs.declared.op.Register.{Register}
use Rattle.gb_ops.specs.declared.op.Register.TheVariants.{A, B, C, D, E, H, L}
use Rattle.gb_ops.specs.declared.registers.Registers.{Registers}
use Rattle.gb_ops.specs.declared.registers.Flags.{Flags}
use Rattle.gb_ops.specs.Registers.{get, set}
use Rattle.gb_ops.specs.Cartridge.{kind_after}
use Rattle.gb_domain.specs.declared.places.Place.{Place}
use Rattle.gb_domain.specs.declared.places.Place.TheVariants as place
use Rattle.gb_domain.specs.declared.places.OneByte.{OneByte}
use Rattle.gb_domain.specs.Places.{no_place}
use Rattle.gb_copies.specs.Places.{is_address, address_outside}
use Rattle.gb_copies.specs.Meaning.{HoldOneByte, held_at}
use Rattle.gb_copies.proofs.RegisterLaws.{not_so, set_both}
use Rattle.gb_copies.specs.declared.windows.BankWindow.{BankWindow}
use Rattle.gb_domain.specs.declared.summary.Shadows.{Shadows}
use Rattle.gb_copies.specs.Windows.{is_in_window}
use Rattle.gb_copies.specs.ShadowMeaning.{IsShadow, AreShadows}
use Rattle.gb_copies.specs.Shadows.{is_shadow, without_register, without_addresses, address_or, copied_to_register, copied_to_address, stored_register, stored}
use Rattle.gb_copies.specs.ShadowSound.{IsWrittenAt, IsSoundRegister, IsSoundStore, IsSoundCopyTo, IsSoundStoreOf, IsSoundSwitch}
use Rattle.gb_copies.proofs.WindowLaws.{stores_leave}

-- ---- registers

-- each register among some shadows the window's register
abbrev ShadowAll : Kind → BankWindow → Registers Bool → Registers ℕ → Banks → Type 0
ShadowAll k which s x r = (q : Register) → get q s ≡ true → IsShadow k which (get q x) r

-- a register that gets a byte is among them only if that byte shadows it
ShadowAll-set :
    (k : Kind) (which : BankWindow) (q : Register) (b : Bool) (n : ℕ) (s : Registers Bool) (x : Registers ℕ) (r : Banks)
    → (b ≡ true → IsShadow k which n r) → ShadowAll k which s x r → ShadowAll k which (set q b s) (set q n x) r
ShadowAll-set k which q b n s x r new h p = set_both (λ c y. c ≡ true → IsShadow k which y r) q p b n s x new h

AreShadows-without_register :
    (k : Kind) (which : BankWindow) (q : Register) (s : Shadows) (x : Registers ℕ) (memory : ℕ → ℕ) (r : Banks) (n : ℕ)
    → AreShadows k which s x memory r → AreShadows k which (without_register q s) (set q n x) memory r
unfolding without_register
AreShadows-without_register k which q s x memory r n h =
    record { registers = ShadowAll-set k which q false n s.registers x r not_so h.registers; address = h.address }

pub without_register_sound : (q : Register) (s o : Shadows) → o ≡ without_register q s → IsSoundRegister q s o
without_register_sound q s o e =
    record {
      gives = λ k which x memory r n h.
          subst (λ w. AreShadows k which w (set q n x) memory r) (sym e) (AreShadows-without_register k which q s x memory r n h);
    }

-- ---- addresses

-- an address that stays lies outside
outside-stays : (first last b : ℕ) (o : Option ℕ) → address_outside first last o ≡ Some b → (o ≡ Some b) × ((nat_le first b && nat_le b last) ≡ false)
outside-stays first last b None h = cc
outside-stays first last b (Some c) h = choose (nat_le first c && nat_le c last) refl h
  where
    within : Option ℕ → Bool
    within None = false
    within (Some n) = nat_le first n && nat_le n last

    choose :
        (t : Bool) → (nat_le first c && nat_le c last) ≡ t → cond t None (Some c) ≡ Some b
        → (Some c ≡ Some b) × ((nat_le first b && nat_le b last) ≡ false)
    choose true is e = cc
    choose false is e = (e, sym (ap (λ o. within o) e) ∙ is)

apart : (first last a b : ℕ) → first ≤ a → a ≤ last → (nat_le first b && nat_le b last) ≡ false → b ≡ a → ⊥
apart first last a b low high out e = grind (arith, nat_tests)

AreShadows-without_addresses :
    (k : Kind) (which : BankWindow) (first last : ℕ) (s : Shadows) (x : Registers ℕ) (memory written : ℕ → ℕ) (r : Banks) (a : ℕ)
    → first ≤ a → a ≤ last → IsWrittenAt a memory written
    → AreShadows k which s x memory r → AreShadows k which (without_addresses first last s) x written r
unfolding without_addresses
AreShadows-without_addresses k which first last s x memory written r a low high same h =
    record {
      registers = h.registers;
      address = λ b is.
          let stays = outside-stays first last b s.address is in
          subst (λ n. IsShadow k which n r) (sym (same b (apart first last a b low high stays.1))) (h.address b stays.0);
    }

pub without_addresses_sound : (first last : ℕ) (s o : Shadows) → o ≡ without_addresses first last s → IsSoundStore first last s o
without_addresses_sound first last s o e =
    record {
      gives = λ k which x memory written r a low high same h.
          subst (λ w. AreShadows k which w x written r) (sym e) (AreShadows-without_addresses k which first last s x memory written r a low high same h);
    }

-- ---- copies

-- a place that is one of them holds a shadow
shadow_at :
    (k : Kind) (which : BankWindow) (p : Place) (s : Shadows) (x : Registers ℕ) (memory : ℕ → ℕ) (r : Banks)
    → AreShadows k which s x memory r → is_shadow p s ≡ true → IsShadow k which (held_at p x memory) r
unfolding is_shadow
shadow_at k which (place.Register q) s x memory r h is = h.registers q is
shadow_at k which (place.Address a) s x memory r h is = choose s.address refl is
  where
    choose : (o : Option ℕ) → s.address ≡ o → is_address a o ≡ true → IsShadow k which (memory a) r
    choose None e i = not_so i
    choose (Some b) e i = h.address a (e ∙ ap (λ n. Some n) (sym (eqb-true a b i)))

AreShadows-copied_to_register :
    (k : Kind) (which : BankWindow) (to : Register) (from : Place) (s : Shadows) (x : Registers ℕ) (memory : ℕ → ℕ) (r : Banks)
    → AreShadows k which s x memory r → AreShadows k which (copied_to_register to from s) (set to (held_at from x memory) x) memory r
unfolding copied_to_register
AreShadows-copied_to_register k which to from s x memory r h =
    record {
      registers = ShadowAll-set k which to (is_shadow from s) (held_at from x memory) s.registers x r (shadow_at k which from s x memory r h) h.registers;
      address = h.address;
    }

pub copied_to_register_sound : (to : Register) (from : Place) (s o : Shadows) → o ≡ copied_to_register to from s → IsSoundCopyTo to from s o
copied_to_register_sound to from s o e =
    record {
      gives = λ k which x memory r h.
          subst (λ w. AreShadows k which w (set to (held_at from x memory) x) memory r) (sym e) (AreShadows-copied_to_register k which to from s x memory r h);
    }

-- memory by a test of the address that was written
stored_byte :
    (k : Kind) (which : BankWindow) (a n b : ℕ) (memory written : ℕ → ℕ) (r : Banks)
    → written a ≡ n → IsWrittenAt a memory written → IsShadow k which n r → IsShadow k which (memory b) r → IsShadow k which (written b) r
stored_byte k which a n b memory written r is same new old = choose (b == a) refl
  where
    choose : (t : Bool) → (b == a) ≡ t → IsShadow k which (written b) r
    choose true e = subst (λ m. IsShadow k which m r) (sym (ap written (eqb-true b a e) ∙ is)) new
    choose false e = subst (λ m. IsShadow k which m r) (sym (same b (λ i. grind (arith, nat_tests)))) old

some_same : (a b : ℕ) → Some a ≡ Some b → a ≡ b
some_same a b i = cc

le-refl : (n : ℕ) → n ≤ n
le-refl n = omega arith

AreShadows-copied_to_address :
    (k : Kind) (which : BankWindow) (to : ℕ) (from : Place) (s : Shadows) (x : Registers ℕ) (memory written : ℕ → ℕ) (r : Banks)
    → written to ≡ held_at from x memory → IsWrittenAt to memory written
    → AreShadows k which s x memory r → AreShadows k which (copied_to_address to from s) x written r
unfolding copied_to_address
AreShadows-copied_to_address k which to from s x memory written r is same h = choose (is_shadow from s) refl
  where
    address :
        (o : Option ℕ) → s.address ≡ o → is_shadow from s ≡ true → (b : ℕ) → address_or to o ≡ Some b → IsShadow k which (written b) r
    address None e t b i =
        subst (λ m. IsShadow k which m r) (sym (ap written (sym (some_same to b i)) ∙ is)) (shadow_at k which from s x memory r h t)
    address (Some c) e t b i =
        stored_byte k which to (held_at from x memory) b memory written r is same (shadow_at k which from s x memory r h t) (h.address b (e ∙ i))

    choose :
        (t : Bool) → is_shadow from s ≡ t
        → AreShadows k which (cond t (record s { address = address_or to s.address }) (without_addresses to to s)) x written r
    choose true t = record { registers = h.registers; address = address s.address refl t }
    choose false t = AreShadows-without_addresses k which to to s x memory written r to (le-refl to) (le-refl to) same h

pub copied_to_address_sound : (to : ℕ) (from : Place) (s o : Shadows) → o ≡ copied_to_address to from s → IsSoundStoreOf to from s o
copied_to_address_sound to from s o e =
    record {
      gives = λ k which x memory written r is same h.
          subst (λ w. AreShadows k which w x written r) (sym e) (AreShadows-copied_to_address k which to from s x memory written r is same h);
    }

-- ---- stores into the window

stored_shadow :
    (k : Kind) (which : BankWindow) (n a : ℕ) (old : Banks)
    → n < 256 → is_in_window k which a ≡ true → IsShadow k which n (kind_after k old a n)
stored_shadow k which n a old small is has = sym (stores_leave k which old a n small is)

one_register : (q p : Register) (x : Registers ℕ) (n : ℕ) → get q x ≡ n → get p (set q true no_place) ≡ true → get p x ≡ n
one_register A A x n e h = e
one_register B B x n e h = e
one_register C C x n e h = e
one_register D D x n e h = e
one_register E E x n e h = e
one_register H H x n e h = e
one_register L L x n e h = e
one_register q p x n e h = cc

AreShadows-stored :
    (k : Kind) (which : BankWindow) (q : Register) (b : OneByte) (x : Registers ℕ) (memory : ℕ → ℕ) (f : Flags) (a : ℕ) (old : Banks)
    → get q x < 256 → is_in_window k which a ≡ true → HoldOneByte b x memory f
    → AreShadows k which (stored_register q b) x memory (kind_after k old a (get q x))
AreShadows-stored k which q b x memory f a old small is h = choose (get q b.registers) refl
  where
    new : IsShadow k which (get q x) (kind_after k old a (get q x))
    new = stored_shadow k which (get q x) a old small is

    same : (n : ℕ) → n ≡ get q x → IsShadow k which n (kind_after k old a (get q x))
    same n e = subst (λ m. IsShadow k which m (kind_after k old a (get q x))) (sym e) new

    choose :
        (t : Bool) → get q b.registers ≡ t
        → AreShadows k which
        (cond t (record { registers = b.registers; address = b.address }) (record { registers = set q true no_place; address = None }))
        x memory (kind_after k old a (get q x))
    choose true t =
        record {
          registers = λ p i. same (get p x) (h.registers p i ∙ sym (h.registers q t));
          address = λ c i. same (memory c) (h.address c i ∙ sym (h.registers q t));
        }
    choose false t =
        record {
          registers = λ p i. same (get p x) (one_register q p x (get q x) refl i);
          address = λ c i. cc;
        }

pub stored_sound : (register : Option Register) (b : OneByte) (o : Shadows) → o ≡ stored register b → IfSome register (λ q. IsSoundSwitch q b o)
unfolding stored
stored_sound None b o e = tt
stored_sound (Some q) b o e =
    record {
      gives = λ k which x memory f a old small is h.
          subst (λ w. AreShadows k which w x memory (kind_after k old a (get q x))) (sym e) (AreShadows-stored k which q b x memory f a old small is h);
    }
