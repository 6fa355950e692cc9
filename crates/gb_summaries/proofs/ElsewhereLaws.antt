-- What is stored elsewhere leaves what is said of the whole program, and what is said stays where it is.
use Rattle.std.proofs.Common.{◌≡◌, ℕ, zero, suc, ◌+◌, ◌-◌, Bool, true, false, cond, ◌&&◌, nat_le, nat_lt, min, max, List, [], ◌∷◌, map, take, Option, Some, None, refl, sym, ◌∙◌, subst, arith}
use Rattle.std.proofs.lemmas.Bool.Decides.{nat_tests}
use Rattle.std.specs.List.{AllByRecursion, filter_map, cons_option}
use Rattle.gb_ops.specs.declared.machine.Banks.{Banks}
use Rattle.gb_ops.specs.declared.machine.Kind.{Kind}
use Rattle.gb_ops.specs.declared.machine.Region.{Region}
use Rattle.gb_ops.specs.declared.op.Op.{Op}
use Rattle.gb_ops.specs.declared.op.Op.TheVariants as op
use Rattle.gb_ops.specs.declared.op.Operand.TheVariants as operand
use Rattle.gb_ops.specs.declared.op.Pointer.{Pointer}
use Rattle.gb_ops.specs.declared.op.Register.{Register}
use Rattle.gb_ops.specs.declared.op.Register.TheVariants.{A}
use Rattle.gb_ops.specs.declared.registers.Registers.{Registers}
use Rattle.gb_ops.specs.Registers.{get, set}
use Rattle.gb_domain.specs.declared.interval.StridedInterval.{StridedInterval}
use Rattle.gb_domain.specs.declared.pairs.Bounds.{Bounds}
use Rattle.gb_domain.specs.declared.places.OneByte.{OneByte}
use Rattle.gb_domain.specs.declared.places.Place.{Place}
use Rattle.gb_domain.specs.declared.places.Place.TheVariants as place
use Rattle.gb_domain.specs.declared.summary.Fact.{Fact}
use Rattle.gb_domain.specs.declared.summary.Fill.{Fill}
use Rattle.gb_domain.specs.declared.summary.FillEnd.{FillEnd}
use Rattle.gb_domain.specs.declared.summary.Reach.{Reach}
use Rattle.gb_domain.specs.declared.summary.Reach.TheVariants.{Below, Above}
use Rattle.gb_domain.specs.declared.summary.Shadows.{Shadows}
use Rattle.gb_domain.specs.declared.types.Cell.{Cell}
use Rattle.gb_domain.specs.Meaning.{In}
use Rattle.gb_domain.specs.Places.{no_place}
use Rattle.gb_domain.specs.Summaries.{SummaryParts}
use Rattle.gb_relations.specs.Below.gb_pairs.declared.values.Values.{Values}
use Rattle.gb_relations.specs.Below.gb_copies.declared.windows.BankWindow.{BankWindow}
use Rattle.gb_relations.specs.Below.gb_copies.declared.windows.BankWindow.TheVariants.{First, Second}
use Rattle.gb_relations.specs.Below.gb_copies.ShadowMeaning.{IsShadow, AreShadows}
use Rattle.gb_relations.specs.Below.gb_copies.Shadows.{is_shadow, address_or, without_register, without_addresses, copied_to_register, copied_to_address, stored_register, stored}
use Rattle.gb_relations.specs.Below.gb_copies.Places.{address_outside}
use Rattle.gb_relations.specs.Below.gb_copies.Windows.{is_in_window}
use Rattle.gb_relations.specs.Bytes.{one, at_hl, at_indirect, at_high}
use Rattle.gb_relations.specs.Written.{counted, written}
use Rattle.gb_relations.specs.Places.{is_free, free_place, stored_place, loaded_place}
use Rattle.gb_relations.specs.Sound.{IsByteFree}
use Rattle.gb_relations.specs.Below.gb_pairs.Bounds.{is_one}
use Rattle.gb_ram_bounds.specs.declared.addresses.AddressSet.{AddressSet}
use Rattle.gb_ram_bounds.specs.declared.pointers.Pointers.{Pointers}
use Rattle.gb_ram_bounds.specs.Addresses.{is_in}
use Rattle.gb_ram_bounds.specs.Fills as Fills
use Rattle.gb_ram_bounds.specs.Fills.{at_pointer, is_same_pointer, is_between, bytes_of, grown, grown_if_touched, ends_at, extended_if, filled_by, filled, is_surely_reached, near_end, nearest, cut_to_extent, fixed_at, with_offset, after_rise, after_fall, after_write, raised, lowered}
use Rattle.gb_ram_bounds.specs.Meaning.{HoldsFact, HoldFacts, HoldFills}
use Rattle.gb_summaries.specs.declared.moves.Move.{Move}
use Rattle.gb_summaries.specs.declared.moves.Move.TheVariants.{Stays, Rises, Falls, Lost}
use Rattle.gb_summaries.specs.declared.stores.Store.{Store}
use Rattle.gb_summaries.specs.Meaning.{pointers_of}
use Rattle.gb_summaries.specs.Known.{pointer_bounds}
use Rattle.gb_summaries.specs.Stores.{address_left, without_stored, shadows_by, shadows_stored, stored_in_ram, switched_window, switched}
use Rattle.gb_summaries.specs.Moves.{moves_of, moved_end, moved_by, moved, fills_moved}
use Rattle.gb_summaries.specs.Transfer.{without_registers, loaded, shadows_after, after_registers}
use Rattle.gb_summaries.specs.Elsewhere.{IsFreeFact, IsFreeFill, AreFreeFacts, IsFree, IsLeft, StaysElsewhere, StaysFree}

-- ---- memory elsewhere

HoldsFact-left :
    (region : Region) (f : Fact) (cells : List Cell) (memory after : ℕ → ℕ)
    → IsFreeFact region f → IsLeft region memory after → HoldsFact cells memory f → HoldsFact cells after f
HoldsFact-left region f cells memory after free same h =
    record { gives = λ a has none. subst (λ n. In f.value n) (sym (same a (free.gives a has))) (h.gives a has none) }

HoldFacts-left :
    (region : Region) (facts : List Fact) (n : ℕ) (cells : List Cell) (memory after : ℕ → ℕ)
    → AreFreeFacts region facts → IsLeft region memory after → HoldFacts (take n facts) cells memory → HoldFacts (take n facts) cells after
HoldFacts-left region [] zero cells memory after free same h = tt
HoldFacts-left region [] (suc n) cells memory after free same h = tt
HoldFacts-left region (f ∷ facts) zero cells memory after free same h = tt
HoldFacts-left region (f ∷ facts) (suc n) cells memory after free same h =
    (HoldsFact-left region f cells memory after free.0 same h.0, HoldFacts-left region facts n cells memory after free.1 same h.1)

HoldFills-left :
    (region : Region) (fills : List Fill) (cells : List Cell) (memory after : ℕ → ℕ) (x : Pointers ℕ)
    → AllByRecursion (IsFreeFill region) fills → IsLeft region memory after → HoldFills fills cells memory x → HoldFills fills cells after x
HoldFills-left region [] cells memory after x free same h = tt
HoldFills-left region (f ∷ fills) cells memory after x free same h = (
  record { gives = λ a between reached none. subst (λ n. In (bytes_of f) n) (sym (same a (free.0.gives a between))) (h.0.gives a between reached none) },
  HoldFills-left region fills cells memory after x free.1 same h.1,
)

free_at : (region : Region) (o : Option ℕ) (a : ℕ) → IsByteFree region o → o ≡ Some a → is_free region a ≡ true
free_at region o a free e = subst (λ w. IsByteFree region w) e free

AreShadows-left :
    (k : Kind) (which : BankWindow) (region : Region) (s : Shadows) (x : Registers ℕ) (memory after : ℕ → ℕ) (banks : Banks)
    → IsByteFree region s.address → IsLeft region memory after → AreShadows k which s x memory banks → AreShadows k which s x after banks
AreShadows-left k which region s x memory after banks free same h =
    record {
      registers = h.registers;
      address = λ a e. subst (λ n. IsShadow k which n banks) (sym (same a (free_at region s.address a free e))) (h.address a e);
    }

pub stays_elsewhere : StaysElsewhere
stays_elsewhere program region cells s p memory after banks facts free same h =
    record {
      facts = HoldFacts-left region program.facts s.level cells memory after facts same h.facts;
      fills = HoldFills-left region s.fills cells memory after (pointers_of p) free.fills same h.fills;
      first = AreShadows-left program.kind First region s.shadows.first p.registers memory after banks free.first same h.first;
      second = AreShadows-left program.kind Second region s.shadows.second p.registers memory after banks free.second same h.second;
      aside = h.aside;
    }

-- ---- fills

-- where a fill is
record HasPlaces (f g : Fill) : Type 0 where
  least : g.first ≡ f.first
  most : g.last ≡ f.last

IsFreeFill-places : (region : Region) (f g : Fill) → HasPlaces f g → IsFreeFill region f → IsFreeFill region g
IsFreeFill-places region f g s h =
    record {
      gives = λ a between.
          h.gives a (subst (λ n. (nat_le n a && nat_le a f.last) ≡ true) s.least (subst (λ n. (nat_le g.first a && nat_le a n) ≡ true) s.most between));
    }

HasPlaces-filled : (c : List Cell) (x : AddressSet) (t : Option Pointer) (v : StridedInterval) (f : Fill) → HasPlaces f (filled c x t v f)
unfolding filled grown_if_touched
HasPlaces-filled c x t v f = by_end f.end
  where
    touched : Fill
    touched = grown_if_touched c x v f

    by_bool : (b : Bool) → HasPlaces f (cond b (grown v f) f)
    by_bool true = record { least = refl; most = refl }
    by_bool false = record { least = refl; most = refl }

    extended : (b : Bool) (e : FillEnd) (g : Fill) → HasPlaces f g → HasPlaces f (extended_if b e v f g)
    extended true e g h = record { least = refl; most = refl }
    extended false e g h = h

    by_end : (o : Option FillEnd) → HasPlaces f (filled_by o t v f (grown_if_touched c x v f))
    by_end None = by_bool _
    by_end (Some e) = extended (ends_at t e) e (grown_if_touched c x v f) (by_bool _)

free-filled :
    (region : Region) (c : List Cell) (x : AddressSet) (t : Option Pointer) (v : StridedInterval) (fills : List Fill)
    → AllByRecursion (IsFreeFill region) fills → AllByRecursion (IsFreeFill region) (map (filled c x t v) fills)
free-filled region c x t v [] h = tt
free-filled region c x t v (f ∷ fills) h =
    (IsFreeFill-places region f (filled c x t v f) (HasPlaces-filled c x t v f) h.0, free-filled region c x t v fills h.1)

cut-below : (a first last edge : ℕ) → (nat_le first a && nat_le a (min last edge)) ≡ true → (nat_le first a && nat_le a last) ≡ true
cut-below a first last edge h = grind (arith, nat_tests)

cut-above : (a first last edge : ℕ) → (nat_le (max first edge) a && nat_le a last) ≡ true → (nat_le first a && nat_le a last) ≡ true
cut-above a first last edge h = grind (arith, nat_tests)

IsFreeFill-cut : (region : Region) (r : Reach) (edge : ℕ) (f : Fill) → IsFreeFill region f → IsFreeFill region (cut_to_extent r edge f)
IsFreeFill-cut region Below edge f h = record { gives = λ a between. h.gives a (cut-below a f.first f.last (edge - 32769) between) }
IsFreeFill-cut region Above edge f h = record { gives = λ a between. h.gives a (cut-above a f.first f.last _ between) }

abbrev pub FreeSome : Region → Option Fill → Type 0
FreeSome region None = Unit {0}
FreeSome region (Some f) = IsFreeFill region f

pub FreeSome-cond : (region : Region) (b : Bool) (x y : Option Fill) → FreeSome region x → FreeSome region y → FreeSome region (cond b x y)
FreeSome-cond region true x y h g = h
FreeSome-cond region false x y h g = g

pub FreeSome-fixed : (region : Region) (e : FillEnd) (p : Pointers Bounds) (f : Fill) → IsFreeFill region f → FreeSome region (fixed_at e p f)
unfolding fixed_at
FreeSome-fixed region e p f h =
    FreeSome-cond region (is_surely_reached e p (near_end e.reach f)) (Some (cut_to_extent e.reach (nearest e.reach (at_pointer e.pointer p) + e.offset) f)) None
    (IsFreeFill-cut region e.reach (nearest e.reach (at_pointer e.pointer p) + e.offset) f h) tt

FreeSome-offset : (region : Region) (e : FillEnd) (n : ℕ) (f : Fill) → IsFreeFill region f → FreeSome region (Some (with_offset e n f))
FreeSome-offset region e n f h = IsFreeFill-places region f (with_offset e n f) (record { least = refl; most = refl }) h

FreeSome-raised : (region : Region) (q : Pointer) (n : ℕ) (p : Pointers Bounds) (f : Fill) → IsFreeFill region f → FreeSome region (raised q n p f)
unfolding raised
FreeSome-raised region q n p f h = by_end f.end
  where
    by_end : (o : Option FillEnd) → FreeSome region (after_rise o q n p f)
    by_end None = h
    by_end (Some e) =
        FreeSome-cond region (is_same_pointer q e.pointer) (cond (nat_le n e.offset) (Some (with_offset e (e.offset - n) f)) (fixed_at e p f)) (Some f)
        (FreeSome-cond region (nat_le n e.offset) (Some (with_offset e (e.offset - n) f)) (fixed_at e p f) (FreeSome-offset region e (e.offset - n) f h) (FreeSome-fixed region e p f h)) h

FreeSome-lowered : (region : Region) (q : Pointer) (n : ℕ) (p : Pointers Bounds) (f : Fill) → IsFreeFill region f → FreeSome region (lowered q n p f)
unfolding lowered
FreeSome-lowered region q n p f h = by_end f.end
  where
    by_end : (o : Option FillEnd) → FreeSome region (after_fall o q n p f)
    by_end None = h
    by_end (Some e) =
        FreeSome-cond region (is_same_pointer q e.pointer) (cond (nat_lt (e.offset + n) 65536) (Some (with_offset e (e.offset + n) f)) (fixed_at e p f)) (Some f)
        (FreeSome-cond region (nat_lt (e.offset + n) 65536) (Some (with_offset e (e.offset + n) f)) (fixed_at e p f) (FreeSome-offset region e (e.offset + n) f h) (FreeSome-fixed region e p f h)) h

FreeSome-written : (region : Region) (q : Pointer) (p : Pointers Bounds) (f : Fill) → IsFreeFill region f → FreeSome region (Fills.written q p f)
unfolding Fills.written
FreeSome-written region q p f h = by_end f.end
  where
    by_end : (o : Option FillEnd) → FreeSome region (after_write o q p f)
    by_end None = h
    by_end (Some e) = FreeSome-cond region (is_same_pointer q e.pointer) (fixed_at e p f) (Some f) (FreeSome-fixed region e p f h) h

FreeSome-end : (region : Region) (m : Move) (e : FillEnd) (p : Pointers Bounds) (f : Fill) → IsFreeFill region f → FreeSome region (moved_end m e p f)
FreeSome-end region Stays e p f h = h
FreeSome-end region (Rises n) e p f h = FreeSome-raised region e.pointer n p f h
FreeSome-end region (Falls n) e p f h = FreeSome-lowered region e.pointer n p f h
FreeSome-end region Lost e p f h = FreeSome-written region e.pointer p f h

FreeSome-moved : (region : Region) (m : Pointers Move) (p : Pointers Bounds) (f : Fill) → IsFreeFill region f → FreeSome region (moved m p f)
unfolding moved
FreeSome-moved region m p f h = by_end f.end
  where
    by_end : (o : Option FillEnd) → FreeSome region (moved_by o m p f)
    by_end None = h
    by_end (Some e) = FreeSome-end region (at_pointer e.pointer m) e p f h

free-moved :
    (region : Region) (m : Pointers Move) (p : Pointers Bounds) (fills : List Fill)
    → AllByRecursion (IsFreeFill region) fills → AllByRecursion (IsFreeFill region) (fills_moved m p fills)
unfolding fills_moved
free-moved region m p [] h = tt
free-moved region m p (f ∷ fills) h = one (moved m p f) (FreeSome-moved region m p f h.0) (free-moved region m p fills h.1)
  where
    one :
        (o : Option Fill) → FreeSome region o → AllByRecursion (IsFreeFill region) (filter_map (moved m p) fills)
        → AllByRecursion (IsFreeFill region) (cons_option o (filter_map (moved m p) fills))
    one None here rest = rest
    one (Some g) here rest = (here, rest)

-- ---- shadows

free-left : (region : Region) (x : AddressSet) (o : Option ℕ) → IsByteFree region o → IsByteFree region (address_left x o)
free-left region x None h = tt
free-left region x (Some a) h = choose (is_in x a)
  where
    choose : (b : Bool) → IsByteFree region (cond b None (Some a))
    choose true = tt
    choose false = h

free-outside : (region : Region) (first last : ℕ) (o : Option ℕ) → IsByteFree region o → IsByteFree region (address_outside first last o)
free-outside region first last None h = tt
free-outside region first last (Some a) h = choose (nat_le first a && nat_le a last)
  where
    choose : (b : Bool) → IsByteFree region (cond b None (Some a))
    choose true = tt
    choose false = h

free-or : (region : Region) (a : ℕ) (o : Option ℕ) → is_free region a ≡ true → IsByteFree region o → IsByteFree region (address_or a o)
free-or region a None e h = e
free-or region a (Some b) e h = h

free-copied :
    (region : Region) (a : ℕ) (q : Register) (s : Shadows)
    → is_free region a ≡ true → IsByteFree region s.address → IsByteFree region (copied_to_address a (place.Register q) s).address
unfolding copied_to_address without_addresses
free-copied region a q s e h = choose (is_shadow (place.Register q) s)
  where
    choose :
        (b : Bool)
        → IsByteFree region (cond b (record s { address = address_or a s.address }) (record s { address = address_outside a a s.address })).address
    choose true = free-or region a s.address e h
    choose false = free-outside region a a s.address h

free-without : (region : Region) (x : AddressSet) (s : Shadows) → IsByteFree region s.address → IsByteFree region (without_stored x s).address
unfolding without_stored
free-without region x s h = free-left region x s.address h

abbrev IsFreePlace : Region → Option Place → Type 0
IsFreePlace region (Some (place.Address a)) = is_free region a ≡ true
IsFreePlace region _ = Unit {0}

IsFreePlace-free : (region : Region) (a : ℕ) → IsFreePlace region (free_place region a)
IsFreePlace-free region a = choose (is_free region a) refl
  where
    choose : (b : Bool) → is_free region a ≡ b → IsFreePlace region (cond b (Some (place.Address a)) None)
    choose true e = e
    choose false e = tt

IsFreePlace-stored : (region : Region) (b : Bounds) → IsFreePlace region (stored_place region b)
unfolding stored_place
IsFreePlace-stored region b = choose (is_one b)
  where
    choose : (c : Bool) → IsFreePlace region (cond c (free_place region b.first) None)
    choose true = IsFreePlace-free region b.first
    choose false = tt

free-by :
    (region : Region) (o : Option Place) (q : Option Register) (x : AddressSet) (s : Shadows)
    → IsFreePlace region o → IsByteFree region s.address → IsByteFree region (shadows_by o q x s).address
free-by region (Some (place.Address a)) (Some q) x s e h = free-copied region a q s e h
free-by region (Some (place.Address a)) None x s e h = free-without region x s h
free-by region (Some (place.Register r)) q x s e h = free-without region x s h
free-by region None q x s e h = free-without region x s h

free-stored : (region : Region) (w : Store) (s : Shadows) → IsByteFree region s.address → IsByteFree region (shadows_stored region w s).address
unfolding shadows_stored
free-stored region w s h = free-by region _ w.from w.addresses s (IsFreePlace-stored region _) h

pub stored_in_ram_free :
    (region : Region) (facts : List Fact) (cells : List Cell) (w : Store) (s o : SummaryParts)
    → o ≡ stored_in_ram region facts cells w s → StaysFree region s o
unfolding stored_in_ram
stored_in_ram_free region facts cells w s o e =
    record {
      gives = λ h.
          subst (λ r. IsFree region r) (sym e)
          (record {
            fills = free-filled region cells w.addresses w.through w.value s.fills h.fills;
            first = free-stored region w s.shadows.first h.first;
            second = free-stored region w s.shadows.second h.second;
          });
    }

-- ---- the controller

free-cond : (region : Region) (c : Bool) (s t : Shadows) → IsByteFree region s.address → IsByteFree region t.address → IsByteFree region (cond c s t).address
free-cond region true s t h g = h
free-cond region false s t h g = g

free-register : (region : Region) (q : Register) (b : OneByte) → IsByteFree region b.address → IsByteFree region (stored_register q b).address
free-register region q b h =
    free-cond region (get q b.registers) (record { registers = b.registers; address = b.address }) (record { registers = set q true no_place; address = None }) h tt

free-into : (region : Region) (from : Option Register) (b : OneByte) → IsByteFree region b.address → IsByteFree region (stored from b).address
unfolding stored
free-into region None b h = tt
free-into region (Some q) b h = free-register region q b h

free-switched :
    (region : Region) (k : Kind) (which : BankWindow) (a : ℕ) (from : Option Register) (b : OneByte) (s : Shadows)
    → IsByteFree region b.address → IsByteFree region s.address → IsByteFree region (switched_window k which a from b s).address
unfolding switched_window
free-switched region k which a from b s g h = choose (is_in_window k which a)
  where
    choose : (c : Bool) → IsByteFree region (cond c (stored from b) s).address
    choose true = free-into region from b g
    choose false = h

pub switched_free :
    (region : Region) (k : Kind) (a : ℕ) (from : Option Register) (b : OneByte) (s o : SummaryParts)
    → o ≡ switched k a from b s → IsByteFree region b.address → StaysFree region s o
unfolding switched
switched_free region k a from b s o e g =
    record {
      gives = λ h.
          subst (λ r. IsFree region r) (sym e)
          (record {
            fills = h.fills;
            first = free-switched region k First a from b s.shadows.first g h.first;
            second = free-switched region k Second a from b s.shadows.second g h.second;
          });
    }

-- ---- registers

same-registers : (rs : List Register) (s : Shadows) → (without_registers rs s).address ≡ s.address
unfolding without_register
same-registers [] s = refl
same-registers (r ∷ rest) s = same-registers rest (without_register r s)

same-loaded : (to : Register) (from : Option Place) (s : Shadows) → (loaded to from s).address ≡ s.address
unfolding without_register copied_to_register
same-loaded to None s = refl
same-loaded to (Some from) s = refl

same-after : (region : Region) (o : Op) (v : Values) (s : Shadows) → (shadows_after region o v s).address ≡ s.address
unfolding shadows_after copied_to_register
same-after region (op.LoadA from) v s = same-registers (counted from) (loaded A (loaded_place region (at_indirect from v)) s) ∙ same-loaded A (loaded_place region (at_indirect from v)) s
same-after region (op.Load (operand.Register to) (operand.Register from)) v s = refl
same-after region (op.Load (operand.Register to) operand.AtHl) v s = same-loaded to (loaded_place region (at_hl v)) s
same-after region (op.Load operand.AtHl from) v s = refl
same-after region (op.LoadHigh n) v s = same-loaded A (loaded_place region (one (0xFF00 + n))) s
same-after region op.LoadHighC v s = same-loaded A (loaded_place region (at_high v)) s
same-after region (op.LoadAbsolute w) v s = same-loaded A (loaded_place region (one w)) s
same-after region o v s = same-registers (written o) s

pub after_registers_free :
    (region : Region) (o : Op) (sp : Bounds) (v : Values) (s r : SummaryParts) → r ≡ after_registers region o sp v s → StaysFree region s r
unfolding after_registers
after_registers_free region o sp v s r e =
    record {
      gives = λ h.
          subst (λ t. IsFree region t) (sym e)
          (record {
            fills = free-moved region (moves_of o sp v) (pointer_bounds v) s.fills h.fills;
            first = subst (λ n. IsByteFree region n) (sym (same-after region o v s.shadows.first)) h.first;
            second = subst (λ n. IsByteFree region n) (sym (same-after region o v s.shadows.second)) h.second;
          });
    }
