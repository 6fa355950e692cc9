-- The screen (Pan Docs: Rendering): a line is drawn as its mode 3 begins.
use Rattle.std.specs.Prelude.{ℕ, zero, suc, Bool, true, false, ◌&&◌, List, map, replicate, slice_set, bit_or}
use Rattle.std.specs.List.{range_with_len}
use Rattle.gb_ppu.specs.declared.picture.Picture.{Picture}
use Rattle.gb_ppu.specs.Control.{is_on}
use Rattle.gb_ppu.specs.Picture.{line_of, begins_drawing, ticked, advanced, requested_in}
use Rattle.gb_ppu.specs.Pixel.{shade}
use Rattle.gb_ppu.specs.Requests.{request_bits}
use Rattle.gb_ppu.specs.Seen.{seen_by}
use Rattle.gb_bus.specs.Contents.{Contents}

-- the shades of the line that a picture stands at
unfoldable pub line_drawn : Picture → List ℕ → List ℕ → List ℕ
line_drawn p video_ram oam = map (λ x. shade (seen_by p video_ram oam) x (line_of p)) (range_with_len 0 160)

-- mode 3 of a line begins
unfoldable pub is_drawing : Picture → Bool
is_drawing p = is_on p.lcdc && begins_drawing p.position

abbrev pub drawn_where : Bool → Picture → List ℕ → List ℕ → List (List ℕ) → List (List ℕ)
drawn_where true p video_ram oam screen = slice_set screen (line_of p) (line_drawn p video_ram oam)
drawn_where false p video_ram oam screen = screen

-- the screen after n M-cycles
unfoldable pub screened : ℕ → Picture → List ℕ → List ℕ → List (List ℕ) → List (List ℕ)
screened zero p video_ram oam screen = screen
screened (suc n) p video_ram oam screen =
    screened n (ticked p) video_ram oam (drawn_where (is_drawing (ticked p)) (ticked p) video_ram oam screen)

-- nothing is shown
unfoldable pub blank : List (List ℕ)
blank = replicate 144 (replicate 160 0)

-- the picture goes on for n M-cycles, with its requests
unfoldable pub pictured : ℕ → Contents → Contents
pictured n c =
    record c {
      picture = advanced n c.picture;
      screen = screened n c.picture c.video_ram c.oam c.screen;
      requests = bit_or c.requests (request_bits (requested_in n c.picture));
    }
