-- What a pair's link says of another pair that becomes equal to it (abstract interpretation: assignments; own rules: pair copies and
-- ADD HL, version 4).
use Rattle.std.specs.Prelude.{Bool, ◌||◌, if◌then◌else◌, Option, Some, None}
use Rattle.gb_domain.specs.declared.pairs.WordPair.{WordPair}
use Rattle.gb_domain.specs.declared.pairs.Other.{Other}
use Rattle.gb_domain.specs.declared.pairs.Other.TheVariants as other
use Rattle.gb_domain.specs.declared.pairs.Link.{Link}
use Rattle.gb_pairs.specs.Bounds.{high_of, low_of}
use Rattle.gb_pairs.specs.Written.{reads}

-- one of the pair's bytes is read
abbrev pub is_read : WordPair → Other → Bool
is_read p o = reads (high_of p) o || reads (low_of p) o

-- of a pair: less q it is 0
abbrev pub equal_to : WordPair → Link
equal_to q = record { other = other.Pair q; factor = 65535; base = None; sum = 0; width = 0 }

-- p becomes what q is: q's link is p's then, unless it reads one of p's bytes
abbrev pub link_copied : WordPair → WordPair → Option Link → Link
link_copied p q None = equal_to q
link_copied p q (Some l) = if is_read p l.other then equal_to q else l
