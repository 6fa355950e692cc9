-- The window's own line over a frame.
use Rattle.std.proofs.Common.{◌≡◌, ◌≢◌, ℕ, zero, suc, ◌+◌, ◌*◌, ◌/◌, ◌%◌, ◌<◌, ◌≤◌, Bool, true, false, cond, List, [], ◌∷◌, ◌++◌, Option, Some, None, refl, sym, ap, ◌∙◌, inl, inr, arith, nat_eq, nat_lt, nat_le, add-zero}
use Rattle.std.proofs.lemmas.Bool.{cases_lt}
use Rattle.std.proofs.lemmas.Bool.Decides.{nat_tests}
use Rattle.std.proofs.lemmas.List.Folds.{list_any-append}
use Rattle.std.proofs.lemmas.List.Sums.{sum_by_push}
use Rattle.std.specs.Prelude.{◌&&◌, ◌||◌, if◌then◌else◌, is_some, count_by}
use Rattle.std.specs.List.{range_with_len, list_any}
use Rattle.gb_ppu.specs.declared.picture.Picture.{Picture}
use Rattle.gb_ppu.specs.declared.registers.LcdRegister.{LcdRegister}
use Rattle.gb_ppu.specs.declared.registers.LcdRegister.TheVariants as register
use Rattle.gb_ppu.specs.Control.{bit, has_bit, is_on, has_background, has_window}
use Rattle.gb_ppu.specs.Window.{counted, kept, compared}
use Rattle.gb_ppu.specs.SameRegisters.{HasSameRegisters}
use Rattle.gb_ppu.specs.Picture.{line_of, line_begun, drawing_begun, begins_drawing, arrived, ticked}
use Rattle.gb_ppu.specs.LcdRegisters.{lcdc_written, register_written}
use Rattle.gb_ppu.specs.PowerUp.{power_up}
use Rattle.gb_ppu.specs.Frames.{BeginsFrame, powered_up, followed, turned_on, IsWritten, unwritten, written, IsFollowed, IsFrame, meets_wy, has_met_wy, shows_window, window_line, IsWindowLine}
use Rattle.gb_ppu.proofs.SameRegisters.{ticked-registers}

-- ---- one line more

range-more : (a n : ℕ) → range_with_len a (n + 1) ≡ range_with_len a n ++ (a + n) ∷ []
range-more a zero = rw add-zero refl
range-more a (suc n) =
    let e : suc n + 1 ≡ suc (n + 1) = omega arith in
    let f : a + 1 + n ≡ a + suc n = omega arith in
    rw (e, ← f) (ap (λ (xs : List ℕ). a ∷ xs) (range-more (a + 1) n))

or_nothing : (b : Bool) → (b || false) ≡ b
or_nothing true = refl
or_nothing false = refl

any-more : (test : ℕ → Bool) (n : ℕ) → list_any test (range_with_len 0 (n + 1)) ≡ (list_any test (range_with_len 0 n) || test n)
any-more test n =
    let e : 0 + n ≡ n = omega arith in
    rw (range-more 0 n, e, list_any-append test (range_with_len 0 n) (n ∷ [])) (ap (λ b. list_any test (range_with_len 0 n) || b) (or_nothing (test n)))

count-more : (test : ℕ → Bool) (n : ℕ) → count_by test (range_with_len 0 (n + 1)) ≡ count_by test (range_with_len 0 n) + cond (test n) 1 0
count-more test n =
    let e : 0 + n ≡ n = omega arith in
    rw (range-more 0 n, e) (sum_by_push (λ k. cond (test k) 1 0) (range_with_len 0 n) n)

met-more : (frame : ℕ → Picture) (y : ℕ) → has_met_wy frame (y + 1) ≡ (has_met_wy frame y || meets_wy frame (y + 1))
unfolding has_met_wy
met-more frame y = any-more (meets_wy frame) (y + 1)

and_last : (a b c d e : Bool) → e ≡ false → (a && b && c && d && e) ≡ false
and_last true true true true e h = h
and_last true true true false e h = refl
and_last true true false d e h = refl
and_last true false c d e h = refl
and_last false b c d e h = refl

-- where LY hasn't met WY no line has shown the window
shows-none : (frame : ℕ → Picture) (y : ℕ) → has_met_wy frame y ≡ false → shows_window frame y ≡ false
unfolding shows_window
shows-none frame y h =
    let p = frame (114 * y + 20) in
    and_last (nat_lt y 144) (has_background p.lcdc) (has_window p.lcdc) (nat_le p.wx 166) (has_met_wy frame y) h

or_false : (a b : Bool) → (a || b) ≡ false → a ≡ false
or_false true b h = h
or_false false b h = refl

count-none : (frame : ℕ → Picture) (y : ℕ) → has_met_wy frame y ≡ false → count_by (shows_window frame) (range_with_len 0 (y + 1)) ≡ 0
count-none frame zero h = count-more (shows_window frame) 0 ∙ rw (shows-none frame 0 h) refl
count-none frame (suc y) h =
    let e : suc y ≡ y + 1 = omega arith in
    let before : has_met_wy frame y ≡ false = or_false _ _ (sym (met-more frame y) ∙ ap (has_met_wy frame) (sym e) ∙ h) in
    count-more (shows_window frame) (suc y)
    ∙ rw (shows-none frame (suc y) h, add-zero) (ap (λ n. count_by (shows_window frame) (range_with_len 0 n)) e ∙ count-none frame y before)

counted-compared : (met shown equal : Bool) (old new : ℕ) → new ≡ old + cond shown 1 0 → (met ≡ false → new ≡ 0)
    → compared equal (counted shown (if met then Some old else None)) ≡ (if met || equal then Some new else None)
counted-compared true true equal old new e none = ap (λ (n : ℕ). Some n) (sym e)
counted-compared true false equal old new e none = ap (λ (n : ℕ). Some n) (sym (let same : new ≡ old = omega (arith, e) in same))
counted-compared false shown true old new e none = ap (λ (n : ℕ). Some n) (sym (none refl))
counted-compared false shown false old new e none = refl

next-window : (frame : ℕ → Picture) (y : ℕ)
    → compared (meets_wy frame (y + 1)) (counted (shows_window frame y) (window_line frame y)) ≡ window_line frame (y + 1)
unfolding window_line
next-window frame y =
    rw (met-more frame y)
    (counted-compared (has_met_wy frame y) (shows_window frame y) (meets_wy frame (y + 1)) _ _
    (count-more (shows_window frame) y) (count-none frame y))

-- ---- the picture in its frame

-- whether the line shows the window, known from its mode 3 on
unfoldable pub shown_so_far : (ℕ → Picture) → ℕ → Bool
shown_so_far frame n = if nat_lt (n % 114) 20 then false else shows_window frame (n / 114)

-- what the picture's fields are after n M-cycles of a frame
pub record Stands (frame : ℕ → Picture) (n : ℕ) (p : Picture) : Type 0 where
  pub position : p.position ≡ n
  pub on : is_on p.lcdc ≡ true
  pub window : p.window ≡ window_line frame (n / 114)
  pub shown : p.shows_window ≡ shown_so_far frame n

either : (frame : ℕ → Picture) (n : ℕ) (b : Bool) (x y : Picture) → (b ≡ true → Stands frame n x) → (b ≡ false → Stands frame n y)
    → Stands frame n (if b then x else y)
either frame n true x y h k = h refl
either frame n false x y h k = k refl

-- a picture that was moved on to position n + 1, before what happens there
record IsMoved (frame : ℕ → Picture) (n : ℕ) (p : Picture) : Type 0 where
  within : n + 1 < 17556
  position : p.position ≡ n + 1
  on : is_on p.lcdc ≡ true
  window : p.window ≡ window_line frame (n / 114)
  shown : p.shows_window ≡ shown_so_far frame n
  registers : HasSameRegisters p (frame (n + 1))

begun-window : (frame : ℕ → Picture) (y line wy : ℕ) (shown : Bool) (w : Option ℕ) → line ≡ y + 1 → wy ≡ (frame (114 * (y + 1))).wy
    → shown ≡ shows_window frame y → w ≡ window_line frame y
    → compared (nat_eq line wy) (kept (nat_eq line 0) (counted shown w)) ≡ window_line frame (y + 1)
unfolding meets_wy
begun-window frame y line wy shown w l e s f =
    let later : nat_eq (y + 1) 0 ≡ false = grind (arith, nat_tests) in
    rw (l, e, s, f, later) (next-window frame y)

shown-early : (frame : ℕ → Picture) (n : ℕ) → n % 114 < 20 → shown_so_far frame n ≡ false
unfolding shown_so_far
shown-early frame n h = let e : nat_lt (n % 114) 20 ≡ true = grind (arith, nat_tests) in rw e refl

shown-late : (frame : ℕ → Picture) (n : ℕ) → 20 ≤ n % 114 → shown_so_far frame n ≡ shows_window frame (n / 114)
unfolding shown_so_far
shown-late frame n h = let e : nat_lt (n % 114) 20 ≡ false = grind (arith, nat_tests) in rw e refl

line-stands : (frame : ℕ → Picture) (n : ℕ) (p : Picture) → IsMoved frame n p → p.position % 114 ≡ 0 → Stands frame (n + 1) (line_begun p)
unfolding line_begun line_of
line-stands frame n p h begins =
    let line : (n + 1) / 114 ≡ n / 114 + 1 = omega (arith, h.position) in
    let column : n % 114 ≡ 113 = omega (arith, h.position) in
    let start : n + 1 ≡ 114 * (n / 114 + 1) = omega (arith, h.position) in
    let here : p.position / 114 ≡ n / 114 + 1 = omega (arith, h.position) in
    record {
      position = h.position;
      on = h.on;
      window =
          begun-window frame (n / 114) _ _ _ _ here (sym h.registers.wy ∙ ap (λ k. (frame k).wy) start)
          (h.shown ∙ shown-late frame n (omega arith)) h.window
          ∙ ap (window_line frame) (sym line);
      shown = sym (shown-early frame (n + 1) (omega (arith, h.position)));
    }

some-met : (b : Bool) (n : ℕ) → is_some (if b then Some n else None) ≡ b
some-met true n = refl
some-met false n = refl

window-met : (frame : ℕ → Picture) (y : ℕ) → is_some (window_line frame y) ≡ has_met_wy frame y
unfolding window_line
window-met frame y = some-met (has_met_wy frame y) _

shows-here : (frame : ℕ → Picture) (y : ℕ) (p : Picture) → y < 144 → HasSameRegisters p (frame (114 * y + 20)) → p.window ≡ window_line frame y
    → (has_background p.lcdc && has_window p.lcdc && nat_le p.wx 166 && is_some p.window) ≡ shows_window frame y
unfolding shows_window
shows-here frame y p within same w =
    let e : nat_lt y 144 ≡ true = grind (arith, nat_tests) in
    rw (e, same.lcdc, same.wx, w, window-met frame y) refl

drawing-stands : (frame : ℕ → Picture) (n : ℕ) (p : Picture) → IsMoved frame n p → p.position % 114 ≡ 20 → p.position / 114 < 144
    → Stands frame (n + 1) (drawing_begun p)
unfolding drawing_begun
drawing-stands frame n p h begins within =
    let line : n / 114 ≡ (n + 1) / 114 = omega (arith, h.position) in
    let here : n + 1 ≡ 114 * ((n + 1) / 114) + 20 = omega (arith, h.position) in
    let window : p.window ≡ window_line frame ((n + 1) / 114) = h.window ∙ ap (window_line frame) line in
    record {
      position = h.position;
      on = h.on;
      window = window;
      shown =
          shows-here frame ((n + 1) / 114) p (omega (arith, h.position)) (ap-registers frame (n + 1) _ p here h.registers) window
          ∙ sym (shown-late frame (n + 1) (omega (arith, h.position)));
    }
  where
    ap-registers : (frame : ℕ → Picture) (a b : ℕ) (p : Picture) → a ≡ b → HasSameRegisters p (frame a) → HasSameRegisters p (frame b)
    ap-registers frame a b p e same = rw e at same

-- lines 144 to 153
shows-nothing : (frame : ℕ → Picture) (y : ℕ) → 144 ≤ y → shows_window frame y ≡ false
unfolding shows_window
shows-nothing frame y h = let e : nat_lt y 144 ≡ false = grind (arith, nat_tests) in rw e refl

inside-shown : (frame : ℕ → Picture) (n : ℕ) → (n + 1) % 114 ≢ 0 → ((n + 1) % 114 ≡ 20 → 144 ≤ (n + 1) / 114)
    → shown_so_far frame n ≡ shown_so_far frame (n + 1)
inside-shown frame n inside past =
    elim (cases_lt ((n + 1) % 114) 20) [
      | inl early ↦ shown-early frame n (omega (arith, inside)) ∙ sym (shown-early frame (n + 1) early)
      | inr late ↦ elim (cases_lt (n % 114) 20) [
        | inl before ↦
            shown-early frame n before ∙ sym (shown-late frame (n + 1) late ∙ shows-nothing frame _ (past (omega (arith, inside, before, late))))
        | inr after ↦
            let line : n / 114 ≡ (n + 1) / 114 = omega (arith, inside) in
            shown-late frame n after ∙ ap (shows_window frame) line ∙ sym (shown-late frame (n + 1) late)
      ]
    ]

inside-stands : (frame : ℕ → Picture) (n : ℕ) (p : Picture) → IsMoved frame n p → p.position % 114 ≢ 0 → begins_drawing p.position ≡ false
    → Stands frame (n + 1) p
unfolding begins_drawing
inside-stands frame n p h inside quiet =
    let line : n / 114 ≡ (n + 1) / 114 = omega (arith, h.position) in
    record {
      position = h.position;
      on = h.on;
      window = h.window ∙ ap (window_line frame) line;
      shown = h.shown ∙ inside-shown frame n (λ e. omega (arith, h.position)) (λ e. let at : p.position % 114 ≡ 20 = omega (arith, h.position) in grind (arith, nat_tests, h.position));
    }

drawing-at : (position : ℕ) → begins_drawing position ≡ true → (position % 114 ≡ 20) × (position / 114 < 144)
unfolding begins_drawing
drawing-at position d = (grind (arith, nat_tests), grind (arith, nat_tests))

arrived-stands : (frame : ℕ → Picture) (n : ℕ) (p : Picture) → IsMoved frame n p → Stands frame (n + 1) (arrived p)
unfolding arrived
arrived-stands frame n p h =
    either frame (n + 1) (nat_eq (p.position % 114) 0) _ _
    (λ e. line-stands frame n p h (grind (arith, nat_tests)))
    (λ e. either frame (n + 1) (begins_drawing p.position) _ _
    (λ d. let at : (p.position % 114 ≡ 20) × (p.position / 114 < 144) = drawing-at p.position d in drawing-stands frame n p h at.0 at.1)
    (λ d. inside-stands frame n p h (grind (arith, nat_tests)) d))

-- one M-cycle
moved : (frame : ℕ → Picture) (n : ℕ) (p : Picture) → n + 1 < 17556 → Stands frame n p → frame (n + 1) ≡ ticked p
    → IsMoved frame n (record p { position = n + 1 })
moved frame n p within h e =
    let same : HasSameRegisters p (frame (n + 1)) = rw e (ticked-registers p) in
    record {
      within = within;
      position = refl;
      on = h.on;
      window = h.window;
      shown = h.shown;
      registers = record {
        lcdc = same.lcdc;
        stat = same.stat;
        scy = same.scy;
        scx = same.scx;
        lyc = same.lyc;
        bgp = same.bgp;
        obp0 = same.obp0;
        obp1 = same.obp1;
        wy = same.wy;
        wx = same.wx;
      };
    }

ticked-arrived : (n : ℕ) (p : Picture) → n + 1 < 17556 → is_on p.lcdc ≡ true → p.position ≡ n → ticked p ≡ arrived (record p { position = n + 1 })
unfolding ticked
ticked-arrived n p within on here =
    let e : (p.position + 1) % 17556 ≡ n + 1 = omega (arith, here, within) in rw (on, e) refl

ticked-stands : (frame : ℕ → Picture) (n : ℕ) (p : Picture) → n + 1 < 17556 → Stands frame n p → frame (n + 1) ≡ ticked p
    → Stands frame (n + 1) (frame (n + 1))
ticked-stands frame n p within h e =
    let next = arrived-stands frame n (record p { position = n + 1 }) (moved frame n p within h e) in
    rw (sym (e ∙ ticked-arrived n p within h.on h.position)) at next

-- ---- writes that leave the LCD on

record IsAlike (old new : Picture) : Type 0 where
  on : is_on new.lcdc ≡ true
  position : new.position ≡ old.position
  window : new.window ≡ old.window
  shown : new.shows_window ≡ old.shows_window

lcdc-alike : (b : Bool) (value : ℕ) (p x y : Picture) → is_on value ≡ b → is_on p.lcdc ≡ true
    → is_on (if b then (if is_on p.lcdc then record p { lcdc = value } else x) else record y { lcdc = value }).lcdc ≡ true
    → IsAlike p (if b then (if is_on p.lcdc then record p { lcdc = value } else x) else record y { lcdc = value })
lcdc-alike true value p x y e on h = rw on (record { on = e; position = refl; window = refl; shown = refl })
lcdc-alike false value p x y e on h = absurd (cc)

alike-written : (register : LcdRegister) (value : ℕ) (p : Picture) → is_on p.lcdc ≡ true → is_on (register_written register value p).lcdc ≡ true
    → IsAlike p (register_written register value p)
unfolding lcdc_written
alike-written register.Lcdc value p on h =
    lcdc-alike (is_on value) value p (line_begun (record p { lcdc = value; position = 0 })) (record p { position = 0; window = None; shows_window = false }) refl on h
alike-written register.Stat value p on h = record { on = h; position = refl; window = refl; shown = refl }
alike-written register.Scy value p on h = record { on = h; position = refl; window = refl; shown = refl }
alike-written register.Scx value p on h = record { on = h; position = refl; window = refl; shown = refl }
alike-written register.Ly value p on h = record { on = h; position = refl; window = refl; shown = refl }
alike-written register.Lyc value p on h = record { on = h; position = refl; window = refl; shown = refl }
alike-written register.Bgp value p on h = record { on = h; position = refl; window = refl; shown = refl }
alike-written register.Obp0 value p on h = record { on = h; position = refl; window = refl; shown = refl }
alike-written register.Obp1 value p on h = record { on = h; position = refl; window = refl; shown = refl }
alike-written register.Wy value p on h = record { on = h; position = refl; window = refl; shown = refl }
alike-written register.Wx value p on h = record { on = h; position = refl; window = refl; shown = refl }

alike-stands : (frame : ℕ → Picture) (n : ℕ) (p q : Picture) → Stands frame n p → IsAlike p q → Stands frame n q
alike-stands frame n p q h a =
    record { position = a.position ∙ h.position; on = a.on; window = a.window ∙ h.window; shown = a.shown ∙ h.shown }

pub written-stands : (frame : ℕ → Picture) (n : ℕ) (p q : Picture) → Stands frame n p → IsWritten p q → Stands frame n q
written-stands frame n p q h unwritten = h
written-stands frame n p q h (written r register value before on) =
    let stands = written-stands frame n p r h before in
    alike-stands frame n r _ stands (alike-written register value r stands.on on)

-- ---- a frame's start

record IsBegun (p : Picture) : Type 0 where
  before : Picture
  begun : p ≡ line_begun before
  start : before.position ≡ 0
  on : is_on before.lcdc ≡ true

is-begun : (p : Picture) → BeginsFrame p → IsBegun p
unfolding line_begun line_of ticked arrived lcdc_written has_bit bit
is-begun p powered_up = record { before = power_up; begun = refl; start = refl; on = refl }
is-begun p (followed q on last) =
    record {
      before = record q { position = 0 };
      begun = let e : (q.position + 1) % 17556 ≡ 0 = omega (arith, last) in rw (on, e) refl;
      start = refl;
      on = on;
    }
is-begun p (turned_on q value off on) =
    record { before = record q { lcdc = value; position = 0 }; begun = rw (on, off) refl; start = refl; on = on }

first-window : (equal : Bool) (frame : ℕ → Picture) → meets_wy frame 0 ≡ equal → compared equal None ≡ window_line frame 0
unfolding window_line has_met_wy
first-window true frame e = rw e refl
first-window false frame e = rw e refl

first-line : (frame : ℕ → Picture) (position wy : ℕ) (shown : Bool) (w : Option ℕ) → position ≡ 0 → (frame 0).wy ≡ wy
    → compared (nat_eq (position / 114) wy) (kept (nat_eq (position / 114) 0) (counted shown w)) ≡ window_line frame 0
unfolding meets_wy
first-line frame position wy shown w start e = rw (start, ← e) (first-window (meets_wy frame 0) frame refl)

first-stands : (frame : ℕ → Picture) (q : Picture) → q.position ≡ 0 → is_on q.lcdc ≡ true → (frame 0).wy ≡ q.wy → Stands frame 0 (line_begun q)
unfolding line_begun line_of
first-stands frame q start on wy =
    record { position = start; on = on; window = first-line frame _ _ _ _ start wy; shown = sym (shown-early frame 0 (omega arith)) }

line_begun-wy : (q : Picture) → (line_begun q).wy ≡ q.wy
unfolding line_begun
line_begun-wy q = refl

begun-stands : (frame : ℕ → Picture) (p : Picture) → IsBegun p → frame 0 ≡ p → Stands frame 0 p
begun-stands frame p h e =
    let wy : (frame 0).wy ≡ h.before.wy = ap (λ (q : Picture). q.wy) (e ∙ h.begun) ∙ line_begun-wy h.before in
    rw (sym h.begun) at (first-stands frame h.before h.start h.on wy)

-- ---- the whole of it

shorter : (frame : ℕ → Picture) (n : ℕ) → IsFrame frame (suc n) → IsFrame frame n
shorter frame n h =
    let within = h.within in
    record { begins = h.begins; within = omega arith; each = λ k less. h.each k (omega arith) }

pub stands : (frame : ℕ → Picture) (n : ℕ) → IsFrame frame n → Stands frame n (frame n)
stands frame zero h = begun-stands frame (frame 0) (is-begun (frame 0) h.begins) refl
stands frame (suc n) h =
    let step : IsFollowed (frame n) (frame (n + 1)) = h.each n (omega arith) in
    let here = written-stands frame n (frame n) step.left (stands frame n (shorter frame n h)) step.written in
    let within = h.within in
    let e : n + 1 ≡ suc n = omega arith in
    rw e at (ticked-stands frame n step.left (omega arith) here step.passed)

pub the_window_line : (p : Picture) → IsWindowLine p p.window
the_window_line p = λ h. (written-stands h.frame h.cycles (h.frame h.cycles) p (stands h.frame h.cycles h.so_far) h.written).window
