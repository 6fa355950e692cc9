-- The picture and its screen over several M-cycles.
use Rattle.std.proofs.Common.{◌≡◌, ℕ, zero, suc, ◌+◌, ◌-◌, ◌/◌, ◌%◌, ◌<◌, ◌≤◌, Bool, true, false, List, slice_set, bit_or, refl, ap, sym, ◌∙◌, arith, Option, None, length, get_or, IsSome, ◌↔◌}
use Rattle.std.proofs.lemmas.Bool.{and_right}
use Rattle.std.proofs.lemmas.Bool.Decides.{nat_tests}
use Rattle.std.specs.Int.Bits.{or_zero_r}
use Rattle.gb_ops.proofs.Agree.{agree, below}
use Rattle.gb_ppu.specs.declared.picture.Picture.{Picture}
use Rattle.gb_ppu.specs.declared.picture.Requests.{Requests}
use Rattle.gb_ppu.specs.Control.{is_on}
use Rattle.gb_ppu.specs.Picture.{line_of, begins_drawing, ticked, advanced, both, requested_in, IsNextDrawing}
use Rattle.gb_ppu.specs.Requests.{request_bits}
use Rattle.gb_ppu.proofs.Courses.{requested_in-append, off-ticked}
use Rattle.gb_ppu.proofs.Passing.{advanced-append}
use Rattle.gb_ppu.proofs.SameRegisters.{ticked-registers, ticked-position}
use Rattle.gb_ppu.specs.Pixel.{shade}
use Rattle.gb_ppu.specs.Seen.{Seen, seen_by}
use Rattle.gb_bus.specs.Contents.{Contents}
use Rattle.gb_bus.proofs.Copying.{in_a_row}
use Rattle.gb_bus.specs.Screen.{line_drawn, is_drawing, drawn_where, screened, pictured}

-- ---- requests that come one after another

two_bits : (x y z : ℕ) → below (λ r. bit_or (bit_or r x) y) 32 ≡ below (λ r. bit_or r z) 32 → (r : ℕ) → r < 32 → bit_or (bit_or r x) y ≡ bit_or r z
two_bits x y z same r lt = agree (λ r. bit_or (bit_or r x) y) (λ r. bit_or r z) 32 same r lt

by_flags :
    (a b c d : Bool) (r : ℕ) → r < 32
    → bit_or (bit_or r (request_bits (record { vblank = a; stat = b }))) (request_bits (record { vblank = c; stat = d }))
    ≡ bit_or r (request_bits (both (record { vblank = a; stat = b }) (record { vblank = c; stat = d })))
by_flags false false false false r lt = two_bits 0 0 0 refl r lt
by_flags false false false true r lt = two_bits 0 2 2 refl r lt
by_flags false false true false r lt = two_bits 0 1 1 refl r lt
by_flags false false true true r lt = two_bits 0 3 3 refl r lt
by_flags false true false false r lt = two_bits 2 0 2 refl r lt
by_flags false true false true r lt = two_bits 2 2 2 refl r lt
by_flags false true true false r lt = two_bits 2 1 3 refl r lt
by_flags false true true true r lt = two_bits 2 3 3 refl r lt
by_flags true false false false r lt = two_bits 1 0 1 refl r lt
by_flags true false false true r lt = two_bits 1 2 3 refl r lt
by_flags true false true false r lt = two_bits 1 1 1 refl r lt
by_flags true false true true r lt = two_bits 1 3 3 refl r lt
by_flags true true false false r lt = two_bits 3 0 3 refl r lt
by_flags true true false true r lt = two_bits 3 2 3 refl r lt
by_flags true true true false r lt = two_bits 3 1 3 refl r lt
by_flags true true true true r lt = two_bits 3 3 3 refl r lt

or_both : (a b : Requests) (r : ℕ) → r < 32 → bit_or (bit_or r (request_bits a)) (request_bits b) ≡ bit_or r (request_bits (both a b))
or_both a b r lt = by_flags a.vblank a.stat b.vblank b.stat r lt

-- ---- a part of the M-cycles, and then the rest

screened-append :
    (a b : ℕ) (p : Picture) (v o : List ℕ) (s : List (List ℕ)) → screened (a + b) p v o s ≡ screened b (advanced a p) v o (screened a p v o s)
unfolding screened advanced
screened-append zero b p v o s = let e : zero + b ≡ b = omega arith in rw e refl
screened-append (suc a) b p v o s =
    let e : suc a + b ≡ suc (a + b) = omega arith in
    rw e (screened-append a b (ticked p) v o (drawn_where (is_drawing (ticked p)) (ticked p) v o s))

pub pictured-append : (a b : ℕ) (c : Contents) → c.requests < 32 → pictured (a + b) c ≡ pictured b (pictured a c)
unfolding pictured
pictured-append a b c lt =
    rw (
      advanced-append a b c.picture,
      screened-append a b c.picture c.video_ram c.oam c.screen,
      requested_in-append a b c.picture,
      ← or_both (requested_in a c.picture) (requested_in b (advanced a c.picture)) c.requests lt,
    )
    refl

-- ---- M-cycles in which no line is drawn

still_on : (p : Picture) → is_on p.lcdc ≡ true → is_on (ticked p).lcdc ≡ true
still_on p on = ap (λ lcdc. is_on lcdc) (ticked-registers p).lcdc ∙ on

not_drawing : (p : Picture) → begins_drawing p.position ≡ false → is_drawing p ≡ false
unfolding is_drawing
not_drawing p h = and_right (is_on p.lcdc) (begins_drawing p.position) h

pub screened-quiet :
    (n : ℕ) (p : Picture) (v o : List ℕ) (s : List (List ℕ)) → is_on p.lcdc ≡ true
    → ((j : ℕ) → 0 < j → j ≤ n → begins_drawing ((p.position + j) % 17556) ≡ false) → screened n p v o s ≡ s
unfolding screened
screened-quiet zero p v o s on quiet = refl
screened-quiet (suc n) p v o s on quiet =
    let moved : (ticked p).position ≡ (p.position + 1) % 17556 = ticked-position p on in
    let first : begins_drawing (ticked p).position ≡ false = ap begins_drawing moved ∙ quiet 1 (omega arith) (omega arith) in
    rw (not_drawing (ticked p) first)
    (screened-quiet n (ticked p) v o s (still_on p on)
    (λ j some few.
    let e : ((ticked p).position + j) % 17556 ≡ (p.position + (j + 1)) % 17556 = omega (arith, moved) in
    ap begins_drawing e ∙ quiet (j + 1) (omega arith) (omega arith)))

off_not_drawing : (p : Picture) → is_on p.lcdc ≡ false → is_drawing p ≡ false
unfolding is_drawing
off_not_drawing p off = rw off refl

pub screened-off : (n : ℕ) (p : Picture) (v o : List ℕ) (s : List (List ℕ)) → is_on p.lcdc ≡ false → screened n p v o s ≡ s
unfolding screened
screened-off zero p v o s off = refl
screened-off (suc n) p v o s off = rw (off-ticked p off, off_not_drawing p off) (screened-off n p v o s off)

-- ---- a line is drawn with the last M-cycle

drawing : (p : Picture) → is_on p.lcdc ≡ true → begins_drawing p.position ≡ true → is_drawing p ≡ true
unfolding is_drawing
drawing p on h = rw (on, h) refl

one_more :
    (p : Picture) (v o : List ℕ) (s : List (List ℕ)) → screened 1 p v o s ≡ drawn_where (is_drawing (advanced 1 p)) (advanced 1 p) v o s
unfolding screened advanced
one_more p v o s = refl

screened-last :
    (n : ℕ) (p : Picture) (v o : List ℕ) (s : List (List ℕ)) → screened n p v o s ≡ s → is_drawing (advanced (n + 1) p) ≡ true
    → screened (n + 1) p v o s ≡ drawn_where true (advanced (n + 1) p) v o s
screened-last n p v o s quiet draws =
    let last : is_drawing (advanced 1 (advanced n p)) ≡ true = rw (advanced-append n 1 p) at draws in
    screened-append n 1 p v o s ∙ ap (screened 1 (advanced n p) v o) quiet ∙ one_more (advanced n p) v o s
    ∙ ap (λ b. drawn_where b (advanced 1 (advanced n p)) v o s) last
    ∙ ap (λ q. drawn_where true q v o s) (sym (advanced-append n 1 p))

-- before the next line is drawn
pub screened-before :
    (n way : ℕ) (p : Picture) (v o : List ℕ) (s : List (List ℕ)) → is_on p.lcdc ≡ true → IsNextDrawing p.position way → n < way → screened n p v o s ≡ s
screened-before n way p v o s on next less = screened-quiet n p v o s on (λ j some few. next.first j some (omega arith))

-- as it is drawn
drawn_by :
    (n : ℕ) (p : Picture) (v o : List ℕ) (s : List (List ℕ)) → is_on p.lcdc ≡ true → IsNextDrawing p.position (n + 1)
    → (advanced (n + 1) p).position ≡ (p.position + (n + 1)) % 17556 → (advanced (n + 1) p).lcdc ≡ p.lcdc
    → screened (n + 1) p v o s ≡ drawn_where true (advanced (n + 1) p) v o s
drawn_by n p v o s on next moved same =
    screened-last n p v o s (screened-before n (n + 1) p v o s on next (omega arith))
    (drawing (advanced (n + 1) p) (ap (λ lcdc. is_on lcdc) same ∙ on) (ap begins_drawing moved ∙ next.begins))

pub screened-drawn :
    (way : ℕ) (p : Picture) (v o : List ℕ) (s : List (List ℕ)) → is_on p.lcdc ≡ true → IsNextDrawing p.position way
    → (advanced way p).position ≡ (p.position + way) % 17556 → (advanced way p).lcdc ≡ p.lcdc
    → screened way p v o s ≡ slice_set s (line_of (advanced way p)) (line_drawn (advanced way p) v o)
screened-drawn zero p v o s on next moved same = absurd (let some = next.later in omega arith)
screened-drawn (suc n) p v o s on next moved same =
    let e : n + 1 ≡ suc n = omega arith in rw e at (drawn_by n p v o s on (rw (← e) at next) (rw (← e) at moved) (rw (← e) at same))

-- the line that is drawn is one of the screen's
small_by : (position : ℕ) → begins_drawing position ≡ true → position / 114 < 144
unfolding begins_drawing
small_by position h = grind (arith, nat_tests)

pub drawn_line_small :
    (way : ℕ) (p q : Picture) → IsNextDrawing p.position way → q.position ≡ (p.position + way) % 17556 → line_of q < 144
unfolding line_of
drawn_line_small way p q next moved = small_by q.position (ap begins_drawing moved ∙ next.begins)

-- ---- the whole of it

pub pictured-none : (n : ℕ) (c : Contents) → n ≡ 0 → pictured n c ≡ c
unfolding pictured advanced screened requested_in
pictured-none n c e = rw (e, or_zero_r c.requests) refl

-- some M-cycles, and then what is left
pub pictured-rest :
    (some left : ℕ) (c d : Contents) → some ≤ left → c.requests < 32 → d ≡ pictured some c → pictured (left - some) d ≡ pictured left c
pictured-rest some left c d few lt is =
    let whole : some + (left - some) ≡ left = omega arith in
    ap (pictured (left - some)) is ∙ sym (pictured-append some (left - some) c lt) ∙ ap (λ n. pictured n c) whole

-- a picture that went on without a line
pub pictured-quiet :
    (n : ℕ) (c d : Contents) → d ≡ record c { picture = advanced n c.picture; requests = bit_or c.requests (request_bits (requested_in n c.picture)) }
    → screened n c.picture c.video_ram c.oam c.screen ≡ c.screen → d ≡ pictured n c
unfolding pictured
pictured-quiet n c d is quiet = rw quiet is

-- and one whose line was drawn then
pub pictured-drawn :
    (n : ℕ) (c d e : Contents) → d ≡ record c { picture = advanced n c.picture; requests = bit_or c.requests (request_bits (requested_in n c.picture)) }
    → e ≡ record d { screen = slice_set d.screen (line_of d.picture) (line_drawn d.picture d.video_ram d.oam) }
    → screened n c.picture c.video_ram c.oam c.screen ≡ slice_set c.screen (line_of (advanced n c.picture)) (line_drawn (advanced n c.picture) c.video_ram c.oam)
    → e ≡ pictured n c
unfolding pictured
pictured-drawn n c d e is drawn shown =
    rw shown (drawn ∙ ap (λ (x : Contents). record x { screen = slice_set x.screen (line_of x.picture) (line_drawn x.picture x.video_ram x.oam) }) is)

pub ruleset pictures = (pictured-none, pictured-rest)

-- the machine's own memory stays
pub pictured-view : (n : ℕ) (c : Contents) → (pictured n c).view ≡ c.view
unfolding pictured
pictured-view n c = refl

-- a test that finds nothing is false
abbrev nothing : Option ℕ
nothing = None

pub off_of : (b : Bool) → (IsSome nothing ↔ (b ≡ true)) → b ≡ false
off_of true h = absurd (let bad : false ≡ true = h.1 refl in cc)
off_of false h = refl

-- the pixels of a line are the line
pub line_is :
    (p : Picture) (v o line : List ℕ) (scene : Seen) (y : ℕ) → length line ≡ 160 → scene ≡ seen_by p v o → y ≡ line_of p
    → ((x : ℕ) → x < 160 → get_or line x 0 ≡ shade scene x y) → line ≡ line_drawn p v o
unfolding line_drawn
line_is p v o line scene y len is stands each =
    in_a_row (λ x. shade (seen_by p v o) x (line_of p)) line 160 len
    (λ x within. each x within ∙ ap (λ s. shade s x y) is ∙ ap (λ z. shade (seen_by p v o) x z) stands)
