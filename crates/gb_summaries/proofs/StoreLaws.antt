-- What is said of the whole program holds after a store.
use Rattle.std.proofs.Common.{◌≡◌, ℕ, zero, suc, ◌≤◌, ◌<◌, Bool, true, false, cond, ◌&&◌, nat_le, List, [], ◌∷◌, length, map, take, Option, Some, None, refl, sym, ◌∙◌, ap, subst, arith}
use Rattle.std.proofs.lemmas.Bool.Decides.{nat_tests}
use Rattle.gb_ops.specs.declared.machine.Banks.{Banks}
use Rattle.gb_ops.specs.declared.machine.Kind.{Kind}
use Rattle.gb_ops.specs.declared.machine.Region.{Region}
use Rattle.gb_ops.specs.declared.op.Register.{Register}
use Rattle.gb_ops.specs.declared.registers.Processor.{Processor}
use Rattle.gb_ops.specs.declared.registers.Registers.{Registers}
use Rattle.gb_ops.specs.Cartridge.{kind_after}
use Rattle.gb_domain.specs.declared.interval.StridedInterval.{StridedInterval}
use Rattle.gb_domain.specs.declared.places.OneByte.{OneByte}
use Rattle.gb_domain.specs.declared.places.Place.{Place}
use Rattle.gb_domain.specs.declared.places.Place.TheVariants as place
use Rattle.gb_domain.specs.declared.summary.Fact.{Fact}
use Rattle.gb_domain.specs.declared.summary.Fill.{Fill}
use Rattle.gb_domain.specs.declared.summary.Shadows.{Shadows}
use Rattle.gb_domain.specs.declared.types.Cell.{Cell}
use Rattle.gb_domain.specs.Summaries.{SummaryParts, Program}
use Rattle.gb_relations.specs.Below.gb_copies.declared.windows.BankWindow.{BankWindow}
use Rattle.gb_relations.specs.Below.gb_copies.declared.windows.BankWindow.TheVariants.{First, Second}
use Rattle.gb_relations.specs.Below.gb_copies.Meaning.{HoldOneByte}
use Rattle.gb_relations.specs.Below.gb_copies.ShadowMeaning.{IsShadow, AreShadows}
use Rattle.gb_relations.specs.Below.gb_copies.Shadows.{stored}
use Rattle.gb_relations.specs.Below.gb_copies.Windows.{is_in_window}
use Rattle.gb_relations.specs.Places.{is_free}
use Rattle.gb_relations.proofs.AddressLaws.{IsAt, IsAt-stored_place}
use Rattle.gb_relations.proofs.Below.gb_copies_laws.ShadowLaws.{copied_to_address_sound, stored_sound}
use Rattle.gb_relations.proofs.Below.gb_copies_laws.WindowLaws.{other_stores_stay}
use Rattle.gb_ram_bounds.specs.declared.addresses.AddressSet.{AddressSet}
use Rattle.gb_ram_bounds.specs.declared.pointers.Pointers.{Pointers}
use Rattle.gb_ram_bounds.specs.Addresses.{is_in}
use Rattle.gb_ram_bounds.specs.Facts.{is_broken, unbroken, is_to_cell, level_after}
use Rattle.gb_ram_bounds.specs.Fills.{filled}
use Rattle.gb_ram_bounds.specs.Meaning.{HoldFacts, HoldFills, GoesThrough, HasCellsOf, IsStored}
use Rattle.gb_ram_bounds.proofs.FactLaws.{level_after_sound}
use Rattle.gb_ram_bounds.proofs.FillLaws.{filled_sound}
use Rattle.gb_summaries.specs.declared.stores.Store.{Store}
use Rattle.gb_summaries.specs.Meaning.{HoldSummary, pointers_of}
use Rattle.gb_summaries.proofs.MeaningLaws.{AreShadows-none}
use Rattle.gb_summaries.specs.Stores.{address_left, without_stored, shadows_by, shadows_stored, stored_in_ram, switched_window, switched, IsFrom, IsAfterStore, IsSoundStore, ShareWindows, IsSoundSwitch}

-- ---- facts

unbroken-most : (x : AddressSet) (v : StridedInterval) (facts : List Fact) → unbroken x v facts ≤ length facts
unbroken-most x v [] = omega arith
unbroken-most x v (f ∷ facts) = choose (is_broken x v f) (unbroken-most x v facts)
  where
    choose : (b : Bool) → unbroken x v facts ≤ length facts → cond b 0 (suc (unbroken x v facts)) ≤ suc (length facts)
    choose true h = omega arith
    choose false h = omega arith

level-most : (facts : List Fact) (cells : List Cell) (x : AddressSet) (v : StridedInterval) → level_after facts cells x v ≤ length facts
unfolding level_after
level-most facts cells x v = choose (is_to_cell cells x) (unbroken-most x v facts)
  where
    choose : (b : Bool) → unbroken x v facts ≤ length facts → cond b (length facts) (unbroken x v facts) ≤ length facts
    choose true h = omega arith
    choose false h = h

few : (m : ℕ) (facts : List Fact) → length (take m facts) ≤ m
few zero facts = omega arith
few (suc m) [] = omega arith
few (suc m) (f ∷ facts) = let h : length (take m facts) ≤ m = few m facts in omega arith

pub level_within : (facts : List Fact) (m : ℕ) (cells : List Cell) (x : AddressSet) (v : StridedInterval) → level_after (take m facts) cells x v ≤ m
level_within facts m cells x v =
    let least : level_after (take m facts) cells x v ≤ length (take m facts) = level-most (take m facts) cells x v in
    let most : length (take m facts) ≤ m = few m facts in
    omega arith

-- the first n of the first m are the first n
HoldFacts-first :
    (facts : List Fact) (n m : ℕ) (cells : List Cell) (memory : ℕ → ℕ)
    → n ≤ length (take m facts) → HoldFacts (take n (take m facts)) cells memory → HoldFacts (take n facts) cells memory
HoldFacts-first facts zero m cells memory few h = tt
HoldFacts-first [] (suc n) m cells memory few h = tt
HoldFacts-first (f ∷ facts) (suc n) zero cells memory few h = absurd (omega (arith, few))
HoldFacts-first (f ∷ facts) (suc n) (suc m) cells memory few h = (h.0, HoldFacts-first facts n m cells memory (omega (arith, few)) h.1)

-- ---- fills

HoldFills-stored :
    (fills : List Fill) (before cells : List Cell) (memory after : ℕ → ℕ) (x : Pointers ℕ) (w : Store)
    → HasCellsOf before cells → (i : IsStored w.addresses w.value memory after) → GoesThrough w.through x i.address
    → HoldFills fills before memory x → HoldFills (map (filled cells w.addresses w.through w.value) fills) cells after x
HoldFills-stored [] before cells memory after x w c i g h = tt
HoldFills-stored (f ∷ fills) before cells memory after x w c i g h = (
  (filled_sound cells w.addresses w.through w.value f _ refl).gives before memory after x c i g h.0,
  HoldFills-stored fills before cells memory after x w c i g h.1,
)

-- ---- shadows

left-stays : (x : AddressSet) (a : ℕ) (o : Option ℕ) → address_left x o ≡ Some a → (o ≡ Some a) × (is_in x a ≡ false)
left-stays x a None h = cc
left-stays x a (Some b) h = choose (is_in x b) refl h
  where
    among : Option ℕ → Bool
    among None = true
    among (Some n) = is_in x n

    choose : (t : Bool) → is_in x b ≡ t → cond t None (Some b) ≡ Some a → (Some b ≡ Some a) × (is_in x a ≡ false)
    choose true is e = cc
    choose false is e = (e, sym (ap (λ o. among o) e) ∙ is)

unlike : (x : AddressSet) (a b : ℕ) → is_in x a ≡ true → is_in x b ≡ false → b ≡ a → ⊥
unlike x a b i j e = cc

AreShadows-without_stored :
    (k : Kind) (which : BankWindow) (x : AddressSet) (v : StridedInterval) (s : Shadows) (r : Registers ℕ) (memory after : ℕ → ℕ) (banks : Banks)
    → IsStored x v memory after → AreShadows k which s r memory banks → AreShadows k which (without_stored x s) r after banks
unfolding without_stored
AreShadows-without_stored k which x v s r memory after banks i h =
    record {
      registers = h.registers;
      address = λ a e.
          let stays = left-stays x a s.address e in
          subst (λ n. IsShadow k which n banks) (sym (i.others a (unlike x i.address a i.among stays.1))) (h.address a stays.0);
    }

AreShadows-by :
    (k : Kind) (which : BankWindow) (region : Region) (w : Store) (o : Option Place) (s : Shadows) (p : Processor) (memory after : ℕ → ℕ) (banks : Banks)
    → (i : IsAfterStore w p memory after) → IsAt (is_free region) i.store.address o → AreShadows k which s p.registers memory banks
    → AreShadows k which (shadows_by o w.from w.addresses s) p.registers after banks
AreShadows-by k which region w None s p memory after banks i at h =
    AreShadows-without_stored k which w.addresses w.value s p.registers memory after banks i.store h
AreShadows-by k which region w (Some (place.Register q)) s p memory after banks i at h =
    AreShadows-without_stored k which w.addresses w.value s p.registers memory after banks i.store h
AreShadows-by k which region w (Some (place.Address a)) s p memory after banks i at h = choose w.from i.from
  where
    same_place : (b c : ℕ) → place.Address b ≡ place.Address c → b ≡ c
    same_place b c e = cc

    here : a ≡ i.store.address
    here = same_place a i.store.address at.0

    choose : (q : Option Register) → IsFrom q p.registers (after i.store.address) → AreShadows k which (shadows_by (Some (place.Address a)) q w.addresses s) p.registers after banks
    choose None e = AreShadows-without_stored k which w.addresses w.value s p.registers memory after banks i.store h
    choose (Some q) e =
        (copied_to_address_sound a (place.Register q) s _ refl).gives k which p.registers memory after banks (ap after here ∙ e)
        (λ b other. i.store.others b (λ is. other (is ∙ sym here))) h

between : (x : AddressSet) (a : ℕ) → is_in x a ≡ true → (x.first ≤ a) × (a ≤ x.last)
unfolding is_in
between x a h = parts (nat_le x.first a) (nat_le a x.last) _ refl refl h
  where
    parts :
        (b c d : Bool) → nat_le x.first a ≡ b → nat_le a x.last ≡ c → (b && c && d) ≡ true → (x.first ≤ a) × (a ≤ x.last)
    parts true true d e f g = (grind (arith, nat_tests), grind (arith, nat_tests))
    parts true false d e f g = cc
    parts false c d e f g = cc

AreShadows-stored :
    (k : Kind) (which : BankWindow) (region : Region) (w : Store) (s : Shadows) (p : Processor) (memory after : ℕ → ℕ) (banks : Banks)
    → IsAfterStore w p memory after → AreShadows k which s p.registers memory banks
    → AreShadows k which (shadows_stored region w s) p.registers after banks
unfolding shadows_stored
AreShadows-stored k which region w s p memory after banks i h =
    let b = between w.addresses i.store.address i.store.among in
    AreShadows-by k which region w _ s p memory after banks i
    (IsAt-stored_place region (record { first = w.addresses.first; last = w.addresses.last }) i.store.address b.0 b.1) h

-- ---- a store to RAM

HoldSummary-stored :
    (program : Program) (region : Region) (before cells : List Cell) (w : Store) (s : SummaryParts) (p : Processor) (memory after : ℕ → ℕ) (banks : Banks)
    → HasCellsOf before cells → IsAfterStore w p memory after → HoldSummary program before s p memory banks
    → HoldSummary program cells (stored_in_ram region program.facts cells w s) p after banks
unfolding stored_in_ram
HoldSummary-stored program region before cells w s p memory after banks c i h =
    record {
      facts =
          HoldFacts-first program.facts (level_after (take s.level program.facts) cells w.addresses w.value) s.level cells after
          (level-most (take s.level program.facts) cells w.addresses w.value)
          ((level_after_sound (take s.level program.facts) cells w.addresses w.value _ refl).gives before memory after c i.store h.facts);
      fills = HoldFills-stored s.fills before cells memory after (pointers_of p) w c i.store i.through h.fills;
      first = AreShadows-stored program.kind First region w s.shadows.first p memory after banks i h.first;
      second = AreShadows-stored program.kind Second region w s.shadows.second p memory after banks i h.second;
      aside = h.aside;
    }

pub stored_in_ram_sound :
    (program : Program) (region : Region) (cells : List Cell) (w : Store) (s o : SummaryParts)
    → o ≡ stored_in_ram region program.facts cells w s → IsSoundStore program cells w s o
stored_in_ram_sound program region cells w s o e =
    subst (λ r. IsSoundStore program cells w s r) (sym e)
    (record { gives = λ before p memory after banks. HoldSummary-stored program region before cells w s p memory after banks })

-- ---- a store into the controller

-- a window that doesn't have the address keeps its register
AreShadows-elsewhere :
    (k : Kind) (which : BankWindow) (s : Shadows) (x : Registers ℕ) (memory : ℕ → ℕ) (banks : Banks) (at byte : ℕ)
    → at < 0x8000 → byte < 256 → is_in_window k which at ≡ false
    → AreShadows k which s x memory banks → AreShadows k which s x memory (kind_after k banks at byte)
AreShadows-elsewhere k which s x memory banks at byte low small out h =
    record {
      registers = λ q e some. h.registers q e some ∙ sym (other_stores_stay k which banks at byte small low some out);
      address = λ a e some. h.address a e some ∙ sym (other_stores_stay k which banks at byte small low some out);
    }

none_is : {X : Type 0} {a : ℕ} → None ≡ Some a → X
none_is h = cc

AreShadows-by_register :
    (k : Kind) (which : BankWindow) (from : Option Register) (b : OneByte) (p : Processor) (memory : ℕ → ℕ) (banks : Banks) (at byte : ℕ)
    → byte < 256 → is_in_window k which at ≡ true → IsFrom from p.registers byte → HoldOneByte b p.registers memory p.flags
    → AreShadows k which (stored from b) p.registers memory (kind_after k banks at byte)
unfolding stored
AreShadows-by_register k which None b p memory banks at byte small is e h = AreShadows-none _ _ _ _ _
AreShadows-by_register k which (Some q) b p memory banks at byte small is e h =
    subst (λ n. AreShadows k which (stored (Some q) b) p.registers memory (kind_after k banks at n)) (sym e)
    ((stored_sound (Some q) b _ refl).gives k which p.registers memory p.flags at banks (subst (λ n. n < 256) e small) is h)

AreShadows-switched :
    (k : Kind) (which : BankWindow) (a : ℕ) (from : Option Register) (b : OneByte) (s : Shadows) (p : Processor) (memory : ℕ → ℕ) (banks : Banks) (at byte : ℕ)
    → ShareWindows k a at → at < 0x8000 → byte < 256 → IsFrom from p.registers byte → HoldOneByte b p.registers memory p.flags
    → AreShadows k which s p.registers memory banks
    → AreShadows k which (switched_window k which a from b s) p.registers memory (kind_after k banks at byte)
unfolding switched_window
AreShadows-switched k which a from b s p memory banks at byte share low small e one h = choose (is_in_window k which a) refl
  where
    choose :
        (t : Bool) → is_in_window k which a ≡ t
        → AreShadows k which (cond t (stored from b) s) p.registers memory (kind_after k banks at byte)
    choose true is = AreShadows-by_register k which from b p memory banks at byte small (sym (share.same which) ∙ is) e one
    choose false is = AreShadows-elsewhere k which s p.registers memory banks at byte low small (sym (share.same which) ∙ is) h

HoldSummary-switched :
    (program : Program) (a : ℕ) (from : Option Register) (b : OneByte) (s : SummaryParts) (cells : List Cell) (p : Processor) (memory : ℕ → ℕ) (banks : Banks) (at byte : ℕ)
    → ShareWindows program.kind a at → at < 0x8000 → byte < 256 → IsFrom from p.registers byte
    → HoldOneByte b p.registers memory p.flags → HoldSummary program cells s p memory banks
    → HoldSummary program cells (switched program.kind a from b s) p memory (kind_after program.kind banks at byte)
unfolding switched
HoldSummary-switched program a from b s cells p memory banks at byte share low small e one h =
    record {
      facts = h.facts;
      fills = h.fills;
      first = AreShadows-switched program.kind First a from b s.shadows.first p memory banks at byte share low small e one h.first;
      second = AreShadows-switched program.kind Second a from b s.shadows.second p memory banks at byte share low small e one h.second;
      aside = h.aside;
    }

pub switched_sound :
    (program : Program) (a : ℕ) (from : Option Register) (b : OneByte) (s o : SummaryParts)
    → o ≡ switched program.kind a from b s → IsSoundSwitch program a from b s o
switched_sound program a from b s o e =
    subst (λ r. IsSoundSwitch program a from b s r) (sym e)
    (record { gives = λ cells p memory banks at byte. HoldSummary-switched program a from b s cells p memory banks at byte })
