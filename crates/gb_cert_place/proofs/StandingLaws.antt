-- A walk that stops in a part of a certificate stops where that part stands.
use Rattle.std.proofs.Common.{◌≡◌, ℕ, ◌+◌, ◌-◌, List, length, Ok, refl, sym, subst}
use Rattle.gb_fields.specs.Format.{Read, mapped}
use Rattle.gb_cert_place.specs.declared.block.Part.{Part}
use Rattle.gb_cert_place.specs.declared.block.Block.{Block}
use Rattle.gb_cert_place.specs.declared.block.Stop.{Stop}
use Rattle.gb_cert_place.specs.Blocks.{read_block}
use Rattle.gb_cert_place.specs.Standing.{Passed, OneMorePassed, Of}
use Rattle.gb_cert_place.specs.Stops.{StopsAt, Stopped, StopsIn}
use Rattle.gb_cert_place.proofs.WalkLaws.{was_mapped}

-- a walk that stopped at its first block
pub stops_in_front : (stands_at : Part → Block → List ℕ → Type 0) (p : Part) (b : Block) (bytes : List ℕ) (s : Stop) → s.part ≡ p → s.block ≡ b → s.before ≡ length bytes → Stopped (read_block b) bytes s → stands_at p b bytes → StopsIn stands_at s
stops_in_front stands_at p b bytes s e f g t h = record {
  rest = bytes;
  stands = subst (λ q. stands_at q s.block bytes) (sym e) (subst (λ c. stands_at p c bytes) (sym f) h);
  size = sym g;
  stops = subst (λ c. StopsAt (read_block c) bytes s.fault (s.before - s.left)) (sym f) (subst (λ n. StopsAt (read_block b) bytes s.fault (n - s.left)) (sym g) t.stops);
}

-- what stands in a part stands in the whole
pub stops_within : (part_at whole_at : Part → Block → List ℕ → Type 0) (s : Stop) → ((p : Part) (b : Block) (rest : List ℕ) → part_at p b rest → whole_at p b rest) → StopsIn part_at s → StopsIn whole_at s
stops_within part_at whole_at s f t = record { rest = t.rest; stands = f s.part s.block t.rest t.stands; size = t.size; stops = t.stops }

-- the same where the part is one of its own
pub stops_within_part : (p : Part) (block_at : Block → List ℕ → Type 0) (whole_at : Part → Block → List ℕ → Type 0) (s : Stop) → ((b : Block) (rest : List ℕ) → block_at b rest → whole_at p b rest) → StopsIn (Of p block_at) s → StopsIn whole_at s
stops_within_part p block_at whole_at s f t = stops_within (Of p block_at) whole_at s (λ q b rest a. subst (λ r. whole_at r b rest) (sym a.0) (f b rest a.1)) t

pub passed_on : {S X : Type 0} (step : S → Read X) (next : X → S) (first : S) (bytes : List ℕ) (i : ℕ) (s : S) (rest : List ℕ) (x : X) (after : List ℕ) → step s rest ≡ Ok (x, after) → Passed step next first bytes i s rest → Passed step next first bytes (i + 1) (next x) after
passed_on step next first bytes i s rest x after h p = OneMorePassed p (rw h refl)

-- the same where only what the element tells is known, and each leaves the same
pub passed_told : {S X V : Type 0} (step : S → Read X) (next : X → S) (f : X → V) (first : S) (bytes : List ℕ) (i : ℕ) (s t : S) → ((x : X) → next x ≡ t) → (rest : List ℕ) (v : V) (after : List ℕ) → mapped f (step s) rest ≡ Ok (v, after) → Passed step next first bytes i s rest → Passed step next first bytes (i + 1) t after
passed_told step next f first bytes i s t same rest v after h p =
    let w = was_mapped f (step s) rest v after h in
    subst (λ u. Passed step next first bytes (i + 1) u after) (same w.0) (passed_on step next first bytes i s rest w.0 after w.1 p)
