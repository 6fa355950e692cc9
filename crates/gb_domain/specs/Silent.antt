-- Summaries that say nothing (own format).
use Rattle.std.specs.Prelude.{ℕ, ◌==◌, Bool, ◌&&◌, not, [], length, None, is_none}
use Rattle.gb_domain.specs.declared.summary.Shadows.{Shadows}
use Rattle.gb_domain.specs.RelationRules.{is_some_register}
use Rattle.gb_domain.specs.Summaries.{SummaryParts, no_bank_shadows}

-- there is no place
abbrev pub is_unshadowed : Shadows → Bool
is_unshadowed s = is_none s.address && not (is_some_register s.registers)

-- nothing is said of the whole program, as in versions 1 to 3
abbrev pub is_silent : SummaryParts → Bool
is_silent s = s.level == 0 && (length s.fills == 0 && (is_unshadowed s.shadows.first && (is_unshadowed s.shadows.second && is_none s.aside)))

-- nothing is said but how many facts hold
abbrev pub is_level_alone : SummaryParts → Bool
is_level_alone s = length s.fills == 0 && (is_unshadowed s.shadows.first && (is_unshadowed s.shadows.second && is_none s.aside))

-- that so many facts hold, and nothing else
abbrev pub level_alone : ℕ → SummaryParts
level_alone n = record { level = n; fills = []; shadows = no_bank_shadows; aside = None }
