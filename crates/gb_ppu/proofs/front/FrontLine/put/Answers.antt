use Rattle.std.proofs.Common.{◌≡◌, ℕ, ◌+◌, ◌<◌, List, get_or, ap, ◌∙◌, arith}
use Rattle.std.proofs.lemmas.Simd.{get_or-chunk}
use Rattle.std.specs.Simd.Lanes.{chunk}
use Rattle.gb_ppu.specs.FrontLine.{nearer_x, nearer_pixel}
use Rattle.gb_ppu.proofs.FrontLines.{laid_over, nearer_x-clear, nearer_pixel-clear}
use Rattle.gb_ppu.proofs.front.FrontLine.put.Goals as goal

-- a lane of eight bytes that were read
read_lane : (bytes lanes : List ℕ) (at from k : ℕ) → lanes ≡ chunk at 8 bytes → at ≡ from → k < 8 → get_or lanes k 0 ≡ get_or bytes (from + k) 0
read_lane bytes lanes at from k is same less = ap (λ l. get_or l k 0) is ∙ get_or-chunk at 8 bytes k 0 less ∙ ap (λ n. get_or bytes (n + k) 0) same

pub returns-clause-xs : goal.returns-clause-xs
returns-clause-xs c = λ i within.
    let xs = c.args.self.now.xs in
    rw (c.put_eight.ensures, c.from-at.ensures)
    (laid_over (λ k colour. nearer_x c.args.x colour (get_or xs k 0)) c.args.x xs c.nearer_xs.result c.args.colours i (omega arith) c.nearer_xs.ensures.len c.fits-colours.0
    (λ k less. c.nearer_xs.ensures.lanes k less ∙ ap (nearer_x c.args.x (get_or c.args.colours k 0)) (read_lane xs _ _ c.args.x k c.eight_at-xs.ensures c.from-at.ensures less))
    (λ k. nearer_x-clear c.args.x (get_or xs k 0)))

pub returns-clause-pixels : goal.returns-clause-pixels
returns-clause-pixels c = λ i within.
    let xs = c.args.self.now.xs in
    let pixels = c.args.self.now.pixels in
    rw (c.put_eight-2.ensures, c.from-at.ensures)
    (laid_over (λ k colour. nearer_pixel c.args.x colour c.args.attributes (get_or xs k 0) (get_or pixels k 0)) c.args.x pixels c.nearer_pixels-styled.result c.args.colours i (omega arith)
    c.nearer_pixels-styled.ensures.len c.fits-colours.0
    (λ k less. c.nearer_pixels-styled.ensures.lanes k less
    ∙ (λ j. nearer_pixel c.args.x (get_or c.args.colours k 0) c.args.attributes (read_lane xs _ _ c.args.x k c.eight_at-xs.ensures c.from-at.ensures less j) (read_lane pixels _ _ c.args.x k c.eight_at-pixels.ensures c.from-at.ensures less j)))
    (λ k. nearer_pixel-clear c.args.x c.args.attributes (get_or xs k 0) (get_or pixels k 0)))
