-- Forgetting: what is left of the pairs where a register was written (abstract interpretation: forget; own).
use Rattle.std.specs.Prelude.{ℕ, Bool, true, false, ◌==◌, if◌then◌else◌, Option, Some, None, is_none}
use Rattle.gb_ops.specs.declared.op.Register.{Register}
use Rattle.gb_ops.specs.declared.op.Register.TheVariants.{B, C, D, E, H, L}
use Rattle.gb_domain.specs.declared.pairs.WordPair.{WordPair}
use Rattle.gb_domain.specs.declared.pairs.WordPair.TheVariants as pair
use Rattle.gb_domain.specs.declared.pairs.Other.{Other}
use Rattle.gb_domain.specs.declared.pairs.Other.TheVariants as other
use Rattle.gb_domain.specs.declared.pairs.Link.{Link}
use Rattle.gb_domain.specs.declared.pairs.PairFacts.{PairFacts}
use Rattle.gb_domain.specs.declared.pairs.Pairs.{Pairs}
use Rattle.gb_domain.specs.Pairs.{nothing_known}
use Rattle.gb_domain.specs.Places.{is_same_register}

-- the register is one of the pair's two
abbrev pub is_half : Register → WordPair → Bool
is_half B pair.Bc = true
is_half C pair.Bc = true
is_half D pair.De = true
is_half E pair.De = true
is_half H pair.Hl = true
is_half L pair.Hl = true
is_half _ _ = false

abbrev pub pair_number : WordPair → ℕ
pair_number pair.Bc = 0
pair_number pair.De = 1
pair_number pair.Hl = 2

abbrev pub is_same_pair : WordPair → WordPair → Bool
is_same_pair p q = pair_number p == pair_number q

-- what a link reads is read from the register
abbrev pub reads : Register → Other → Bool
reads r (other.Register s) = is_same_register r s
reads r (other.Pair p) = is_half r p
reads r (other.Cell a) = false
reads r other.Nothing = false

abbrev pub link_without : Register → Option Link → Option Link
link_without r None = None
link_without r (Some l) = if reads r l.other then None else Some l

abbrev pub facts_without : Register → WordPair → PairFacts → PairFacts
facts_without r p f = if is_half r p then nothing_known else record f { link = link_without r f.link }

-- a register was written: its pair is forgotten, and each link that reads it
unfoldable pub without_register : Register → Pairs → Pairs
without_register r s =
    record { bc = facts_without r pair.Bc s.bc; de = facts_without r pair.De s.de; hl = facts_without r pair.Hl s.hl }

-- ---- a procedure is left

abbrev pub link_without_base : Option Link → Option Link
link_without_base None = None
link_without_base (Some l) = if is_none l.base then Some l else None

abbrev pub facts_without_base : PairFacts → PairFacts
facts_without_base f = record f { link = link_without_base f.link }

-- where another procedure begins, links that have a base are forgotten
unfoldable pub without_bases : Pairs → Pairs
without_bases s = record { bc = facts_without_base s.bc; de = facts_without_base s.de; hl = facts_without_base s.hl }
