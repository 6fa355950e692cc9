-- The object in front, found object by object.
use Rattle.std.proofs.Common.{◌≡◌, ℕ, zero, suc, ◌+◌, ◌<◌, ◌≤◌, Bool, true, false, List, length, take, Option, Some, None, refl, sym, ap, ◌∙◌, inl, inr, arith, nat_lt}
use Rattle.std.proofs.lemmas.Bool.{cases_lt}
use Rattle.std.proofs.lemmas.Bool.Decides.{nat_tests}
use Rattle.std.proofs.lemmas.Grind.{common_steps}
use Rattle.std.proofs.lemmas.List.Sums.{length-filter}
use Rattle.std.proofs.lemmas.List.Folds.{fold-map}
use Rattle.std.specs.Prelude.{◌&&◌, if◌then◌else◌, map, filter, count_by}
use Rattle.std.specs.List.{range_with_len}
use Rattle.gb_ppu.specs.declared.objects.Object.{Object}
use Rattle.gb_ppu.specs.Seen.{Seen}
use Rattle.gb_ppu.specs.Control.{has_bit, has_objects}
use Rattle.gb_ppu.specs.Tiles.{shade_of}
use Rattle.gb_ppu.specs.Objects.{object_at, meets_line, object_colour}
use Rattle.gb_ppu.specs.Pixel.{ObjectPixel, is_opaque, object_pixel, nearer, joined, front_pixel, mixed, background_colour, shade}
use Rattle.gb_ppu.specs.FrontObject.{is_used, may_show, x_of, IsFrontOrNone, pixel_of, ShowsFront}
use Rattle.gb_ppu.proofs.LineObjects.{chosen_before, chosen_before-met, chosen_before-apart, chosen_before-full, chosen_before-none}
use Rattle.gb_ppu.proofs.FrontPixels.{front_of, front_of-none, front_of-push, front_of-all}

-- ---- an object more

has_room : (xs : List Object) → nat_lt (length xs) 10 ≡ nat_lt (length (take 10 xs)) 10
has_room xs = grind (arith, common_steps, nat_tests)

count-used : (lcdc : ℕ) (oam : List ℕ) (y n : ℕ)
    → count_by (λ j. meets_line lcdc y (object_at oam j)) (range_with_len 0 n) ≡ length (filter (meets_line lcdc y) (map (object_at oam) (range_with_len 0 n)))
count-used lcdc oam y n = sym (length-filter (meets_line lcdc y) (map (object_at oam) (range_with_len 0 n)) ∙ fold-map _ (object_at oam) 0 (range_with_len 0 n))

room-used : (lcdc : ℕ) (oam : List ℕ) (y n : ℕ)
    → nat_lt (count_by (λ j. meets_line lcdc y (object_at oam j)) (range_with_len 0 n)) 10 ≡ nat_lt (length (chosen_before lcdc oam y n)) 10
unfolding chosen_before
room-used lcdc oam y n = rw (count-used lcdc oam y n) (has_room _)

-- the pixels of an object that is opaque, as one value
unfoldable opaque_pixel : Seen → ℕ → ℕ → Object → ObjectPixel
opaque_pixel scene x y object = record {
  x = object.x;
  shade = shade_of (if has_bit 4 object.attributes then scene.obp1 else scene.obp0) (object_colour scene.video_ram scene.lcdc x y object);
  is_behind = has_bit 7 object.attributes;
}

pixel-opaque : (scene : Seen) (x y : ℕ) (object : Object) → is_opaque scene x y object ≡ true → object_pixel scene x y object ≡ Some (opaque_pixel scene x y object)
unfolding object_pixel opaque_pixel
pixel-opaque scene x y object h = rw h refl

pixel-clear : (scene : Seen) (x y : ℕ) (object : Object) → is_opaque scene x y object ≡ false → object_pixel scene x y object ≡ None
unfolding object_pixel
pixel-clear scene x y object h = rw h refl

-- it may show where objects are drawn
unfoldable is_able : Seen → ℕ → ℕ → ℕ → Bool
is_able scene x y i = is_used scene.lcdc scene.oam y i && is_opaque scene x y (object_at scene.oam i)

-- the pixel that object i gives to those in front
unfoldable given : Seen → ℕ → ℕ → ℕ → Option ObjectPixel
given scene x y i = if is_able scene x y i then Some (opaque_pixel scene x y (object_at scene.oam i)) else None

given-by : (scene : Seen) (x y i : ℕ) (met room opaque : Bool) → i < 40 → meets_line scene.lcdc y (object_at scene.oam i) ≡ met
    → nat_lt (length (chosen_before scene.lcdc scene.oam y i)) 10 ≡ room → is_opaque scene x y (object_at scene.oam i) ≡ opaque
    → given scene x y i ≡ (if met && room && opaque then Some (opaque_pixel scene x y (object_at scene.oam i)) else None)
unfolding given is_able is_used
given-by scene x y i met room opaque within m r o =
    let lt : nat_lt i 40 ≡ true = grind (arith, nat_tests) in
    rw (lt, room-used scene.lcdc scene.oam y i, m, r, o) (assoc met room opaque)
  where
    assoc : (a b c : Bool) → (if (a && b) && c then Some (opaque_pixel scene x y (object_at scene.oam i)) else None) ≡ (if a && b && c then Some (opaque_pixel scene x y (object_at scene.oam i)) else None)
    assoc true b c = refl
    assoc false b c = refl

front-more : (scene : Seen) (x y i : ℕ) (met room opaque : Bool) → i < 40 → meets_line scene.lcdc y (object_at scene.oam i) ≡ met
    → nat_lt (length (chosen_before scene.lcdc scene.oam y i)) 10 ≡ room → is_opaque scene x y (object_at scene.oam i) ≡ opaque
    → front_of scene x y (chosen_before scene.lcdc scene.oam y (i + 1))
    ≡ joined (front_of scene x y (chosen_before scene.lcdc scene.oam y i)) (given scene x y i)
front-more scene x y i false room opaque within m r o =
    rw (given-by scene x y i false room opaque within m r o, chosen_before-apart scene.lcdc scene.oam y i m) refl
front-more scene x y i true false opaque within m r o =
    let full : 10 ≤ length (chosen_before scene.lcdc scene.oam y i) = grind (arith, nat_tests) in
    rw (given-by scene x y i true false opaque within m r o, chosen_before-full scene.lcdc scene.oam y i full) refl
front-more scene x y i true true false within m r o =
    let few : length (chosen_before scene.lcdc scene.oam y i) < 10 = grind (arith, nat_tests) in
    rw (given-by scene x y i true true false within m r o, chosen_before-met scene.lcdc scene.oam y i m few, front_of-push, pixel-clear scene x y (object_at scene.oam i) o) refl
front-more scene x y i true true true within m r o =
    let few : length (chosen_before scene.lcdc scene.oam y i) < 10 = grind (arith, nat_tests) in
    rw (given-by scene x y i true true true within m r o, chosen_before-met scene.lcdc scene.oam y i m few, front_of-push, pixel-opaque scene x y (object_at scene.oam i) o) refl

-- ---- the one in front among the first n objects of OAM

record IsFrontBefore (scene : Seen) (x y n i : ℕ) : Type 0 where
  within : i < n
  able : is_able scene x y i ≡ true
  smallest : (j : ℕ) → j < n → is_able scene x y j ≡ true → x_of scene i ≤ x_of scene j
  earliest : (j : ℕ) → j < n → is_able scene x y j ≡ true → x_of scene j ≡ x_of scene i → i ≤ j

abbrev IsFoundBefore : Seen → ℕ → ℕ → ℕ → Option ℕ → Type 0
IsFoundBefore scene x y n None = (j : ℕ) → j < n → is_able scene x y j ≡ false
IsFoundBefore scene x y n (Some i) = IsFrontBefore scene x y n i

abbrev opaque_of : Seen → ℕ → ℕ → Option ℕ → Option ObjectPixel
opaque_of scene x y None = None
opaque_of scene x y (Some i) = Some (opaque_pixel scene x y (object_at scene.oam i))

record Found (scene : Seen) (x y n : ℕ) : Type 0 where
  front : Option ℕ
  is : IsFoundBefore scene x y n front
  pixel : front_of scene x y (chosen_before scene.lcdc scene.oam y n) ≡ opaque_of scene x y front

given-able : (scene : Seen) (x y i : ℕ) → is_able scene x y i ≡ true → given scene x y i ≡ Some (opaque_pixel scene x y (object_at scene.oam i))
unfolding given
given-able scene x y i h = rw h refl

given-unable : (scene : Seen) (x y i : ℕ) → is_able scene x y i ≡ false → given scene x y i ≡ None
unfolding given
given-unable scene x y i h = rw h refl

-- the pixel in front among one object more
next-pixel : (scene : Seen) (x y n : ℕ) (front : Option ℕ) (more : Option ObjectPixel) → n < 40
    → front_of scene x y (chosen_before scene.lcdc scene.oam y n) ≡ opaque_of scene x y front → given scene x y n ≡ more
    → front_of scene x y (chosen_before scene.lcdc scene.oam y (n + 1)) ≡ joined (opaque_of scene x y front) more
next-pixel scene x y n front more within e g = front-more scene x y n _ _ _ within refl refl refl ∙ rw (e, g) refl

differ : (b : Bool) → b ≡ true → b ≡ false → ⊥
differ b t f = cc

unable-stays : (scene : Seen) (x y n : ℕ) (front : Option ℕ) → is_able scene x y n ≡ false → IsFoundBefore scene x y n front
    → IsFoundBefore scene x y (n + 1) front
unable-stays scene x y n None no_more h = λ j less. elim (cases_lt j n) [
  | inl before ↦ h j before
  | inr last ↦ let e : j ≡ n = omega arith in ap (is_able scene x y) e ∙ no_more
]
unable-stays scene x y n (Some i) no_more h = record {
  within = let lt = h.within in omega arith;
  able = h.able;
  smallest = λ j less able. elim (cases_lt j n) [
    | inl before ↦ h.smallest j before able
    | inr last ↦ let e : j ≡ n = omega arith in absurd (differ _ (ap (is_able scene x y) (sym e) ∙ able) no_more)
  ];
  earliest = λ j less able same. elim (cases_lt j n) [
    | inl before ↦ h.earliest j before able same
    | inr last ↦ let lt = h.within in omega arith
  ];
}

first-found : (scene : Seen) (x y n : ℕ) → ((j : ℕ) → j < n → is_able scene x y j ≡ false) → is_able scene x y n ≡ true → IsFrontBefore scene x y (n + 1) n
first-found scene x y n none able = record {
  within = omega arith;
  able = able;
  smallest = λ j less other. elim (cases_lt j n) [
    | inl before ↦ absurd (differ _ other (none j before))
    | inr last ↦ let e : n ≡ j = omega arith in let same : x_of scene n ≡ x_of scene j = ap (λ k. x_of scene k) e in omega (arith, same)
  ];
  earliest = λ j less other same. elim (cases_lt j n) [
    | inl before ↦ absurd (differ _ other (none j before))
    | inr last ↦ last
  ];
}

smaller-found : (scene : Seen) (x y n i : ℕ) → IsFrontBefore scene x y n i → is_able scene x y n ≡ true → x_of scene n < x_of scene i
    → IsFrontBefore scene x y (n + 1) n
smaller-found scene x y n i h able less_x = record {
  within = omega arith;
  able = able;
  smallest = λ j less other. elim (cases_lt j n) [
    | inl before ↦ let le : x_of scene i ≤ x_of scene j = h.smallest j before other in omega (arith, le, less_x)
    | inr last ↦ let e : n ≡ j = omega arith in let same : x_of scene n ≡ x_of scene j = ap (λ k. x_of scene k) e in omega (arith, same)
  ];
  earliest = λ j less other same. elim (cases_lt j n) [
    | inl before ↦ let le : x_of scene i ≤ x_of scene j = h.smallest j before other in absurd (omega (arith, le, less_x, same))
    | inr last ↦ last
  ];
}

other-found : (scene : Seen) (x y n i : ℕ) → IsFrontBefore scene x y n i → x_of scene i ≤ x_of scene n → IsFrontBefore scene x y (n + 1) i
other-found scene x y n i h le_x = record {
  within = let lt = h.within in omega arith;
  able = h.able;
  smallest = λ j less other. elim (cases_lt j n) [
    | inl before ↦ h.smallest j before other
    | inr last ↦ let e : n ≡ j = omega arith in let same : x_of scene n ≡ x_of scene j = ap (λ k. x_of scene k) e in omega (arith, same, le_x)
  ];
  earliest = λ j less other same. elim (cases_lt j n) [
    | inl before ↦ h.earliest j before other same
    | inr last ↦ let lt = h.within in omega arith
  ];
}

-- of two pixels
nearer-smaller : (scene : Seen) (x y : ℕ) (a b : Object) → b.x < a.x
    → nearer (Some (opaque_pixel scene x y a)) (opaque_pixel scene x y b) ≡ Some (opaque_pixel scene x y b)
unfolding opaque_pixel
nearer-smaller scene x y a b less = let e : nat_lt b.x a.x ≡ true = grind (arith, nat_tests) in rw e refl

nearer-other : (scene : Seen) (x y : ℕ) (a b : Object) → a.x ≤ b.x
    → nearer (Some (opaque_pixel scene x y a)) (opaque_pixel scene x y b) ≡ Some (opaque_pixel scene x y a)
unfolding opaque_pixel
nearer-other scene x y a b le = let e : nat_lt b.x a.x ≡ false = grind (arith, nat_tests) in rw e refl

found-more : (scene : Seen) (x y n : ℕ) (front : Option ℕ) (able : Bool) → n < 40 → is_able scene x y n ≡ able → IsFoundBefore scene x y n front
    → front_of scene x y (chosen_before scene.lcdc scene.oam y n) ≡ opaque_of scene x y front → Found scene x y (n + 1)
found-more scene x y n front false within a h e =
    record { front = front; is = unable-stays scene x y n front a h; pixel = next-pixel scene x y n front None within e (given-unable scene x y n a) }
found-more scene x y n None true within a h e =
    record { front = Some n; is = first-found scene x y n h a; pixel = next-pixel scene x y n None _ within e (given-able scene x y n a) }
found-more scene x y n (Some i) true within a h e = elim (cases_lt (x_of scene n) (x_of scene i)) [
  | inl less ↦
      record {
        front = Some n;
        is = smaller-found scene x y n i h a less;
        pixel = next-pixel scene x y n (Some i) _ within e (given-able scene x y n a) ∙ nearer-smaller scene x y (object_at scene.oam i) (object_at scene.oam n) less;
      }
  | inr le ↦
      record {
        front = Some i;
        is = other-found scene x y n i h le;
        pixel = next-pixel scene x y n (Some i) _ within e (given-able scene x y n a) ∙ nearer-other scene x y (object_at scene.oam i) (object_at scene.oam n) le;
      }
]

found : (scene : Seen) (x y n : ℕ) → n ≤ 40 → Found scene x y n
found scene x y zero within =
    record { front = None; is = λ j less. absurd (omega arith); pixel = rw (chosen_before-none scene.lcdc scene.oam y) (front_of-none scene x y) }
found scene x y (suc n) within =
    let h = found scene x y n (omega arith) in
    let e : n + 1 ≡ suc n = omega arith in
    rw e at (found-more scene x y n h.front (is_able scene x y n) (omega arith) refl h.is h.pixel)

-- ---- the whole of it

and_first : (a b : Bool) → (a && b) ≡ true → a ≡ true
and_first true b h = refl
and_first false b h = h

and_second : (a b : Bool) → (a && b) ≡ true → b ≡ true
and_second true b h = h
and_second false b h = absurd (cc)

able-within : (scene : Seen) (x y i : ℕ) → is_able scene x y i ≡ true → i < 40
unfolding is_able is_used
able-within scene x y i h =
    let used = and_first (is_used scene.lcdc scene.oam y i) (is_opaque scene x y (object_at scene.oam i)) h in
    let meets = meets_line scene.lcdc y (object_at scene.oam i) in
    let few = nat_lt (count_by (λ j. meets_line scene.lcdc y (object_at scene.oam j)) (range_with_len 0 i)) 10 in
    let within : nat_lt i 40 ≡ true = and_first (nat_lt i 40) meets (and_first (nat_lt i 40 && meets) few used) in
    grind (arith, nat_tests)

able-opaque : (scene : Seen) (x y i : ℕ) → is_able scene x y i ≡ true → is_opaque scene x y (object_at scene.oam i) ≡ true
unfolding is_able
able-opaque scene x y i h = and_second (is_used scene.lcdc scene.oam y i) (is_opaque scene x y (object_at scene.oam i)) h

no_more : (b : Bool) → (b ≡ true → ⊥) → b ≡ false
no_more true h = absurd (h refl)
no_more false h = refl

may-show : (scene : Seen) (x y i : ℕ) → has_objects scene.lcdc ≡ true → may_show scene x y i ≡ is_able scene x y i
unfolding may_show is_able
may-show scene x y i on = rw on refl

front-or-none : (scene : Seen) (x y : ℕ) (front : Option ℕ) → has_objects scene.lcdc ≡ true → IsFoundBefore scene x y 40 front
    → IsFrontOrNone scene x y front
front-or-none scene x y None on h = λ i. may-show scene x y i on ∙ no_more _ (λ able. differ _ able (h i (able-within scene x y i able)))
front-or-none scene x y (Some i) on h = record {
  shows = may-show scene x y i on ∙ h.able;
  smallest = λ j shows. let able = sym (may-show scene x y j on) ∙ shows in h.smallest j (able-within scene x y j able) able;
  earliest = λ j shows same. let able = sym (may-show scene x y j on) ∙ shows in h.earliest j (able-within scene x y j able) able same;
}

opaque-pixel : (scene : Seen) (x y : ℕ) (front : Option ℕ) → IsFoundBefore scene x y 40 front → opaque_of scene x y front ≡ pixel_of scene x y front
opaque-pixel scene x y None h = refl
opaque-pixel scene x y (Some i) h = sym (pixel-opaque scene x y (object_at scene.oam i) (able-opaque scene x y i h.able))

shade-on : (scene : Seen) (x y : ℕ) → has_objects scene.lcdc ≡ true
    → shade scene x y ≡ mixed scene (background_colour scene x y) (front_of scene x y (chosen_before scene.lcdc scene.oam y 40))
unfolding shade front_pixel
shade-on scene x y on = rw (on, front_of-all scene x y 40 refl) refl

shade-off : (scene : Seen) (x y : ℕ) → has_objects scene.lcdc ≡ false → shade scene x y ≡ mixed scene (background_colour scene x y) None
unfolding shade front_pixel
shade-off scene x y off = rw off refl

may-not-show : (scene : Seen) (x y i : ℕ) → has_objects scene.lcdc ≡ false → may_show scene x y i ≡ false
unfolding may_show
may-not-show scene x y i off = rw off refl

shows-by : (scene : Seen) (x y s : ℕ) (on : Bool) → has_objects scene.lcdc ≡ on → s ≡ shade scene x y → ShowsFront scene x y s
shows-by scene x y s true on e =
    let h = found scene x y 40 (omega arith) in
    record {
      front = h.front;
      is_front = front-or-none scene x y h.front on h.is;
      mixes = e ∙ shade-on scene x y on ∙ ap (mixed scene (background_colour scene x y)) (h.pixel ∙ opaque-pixel scene x y h.front h.is);
    }
shows-by scene x y s false off e =
    record { front = None; is_front = λ i. may-not-show scene x y i off; mixes = e ∙ shade-off scene x y off }

-- each shade shows the object in front
pub shows_front : (scene : Seen) (x y s : ℕ) → s ≡ shade scene x y → ShowsFront scene x y s
shows_front scene x y s e = shows-by scene x y s (has_objects scene.lcdc) refl e
