-- Which links a version can say (own format).
use Rattle.std.specs.Prelude.{Bool, true, false, ◌&&◌, ◌||◌, ◌==◌, Option, Some, None, is_some, is_none}
use Rattle.gb_domain.specs.declared.pairs.Other.{Other}
use Rattle.gb_domain.specs.declared.pairs.Other.TheVariants.{Register as Of, Pair, Nothing}
use Rattle.gb_domain.specs.declared.pairs.Link.{Link}
use Rattle.gb_domain.specs.declared.pairs.Pairs.{Pairs}

-- The link reads something besides its pair and its base.
abbrev pub reads_other : Other → Bool
reads_other Nothing = false
reads_other _ = true

-- The link reads a register or another pair.
abbrev pub reads_register : Other → Bool
reads_register (Of r) = true
reads_register (Pair p) = true
reads_register _ = false

-- In versions 1 to 3 each link does, has no base, and has one sum.
abbrev pub is_plain : Link → Bool
is_plain l = reads_register l.other && (is_none l.base && l.width == 0)

-- In version 4 one that reads nothing else has a base, and has no field for a factor.
abbrev pub is_based : Link → Bool
is_based l = reads_other l.other || is_some l.base && l.factor == 1

abbrev pub is_link_by : Bool → Link → Bool
is_link_by true l = is_based l
is_link_by false l = is_plain l

-- by whether links may have a base and a width, as in version 4
abbrev pub may_be_linked : Bool → Option Link → Bool
may_be_linked wide None = true
may_be_linked wide (Some l) = is_link_by wide l

-- so of each pair
abbrev pub are_linked : Bool → Pairs → Bool
are_linked wide s = may_be_linked wide s.bc.link && (may_be_linked wide s.de.link && may_be_linked wide s.hl.link)
