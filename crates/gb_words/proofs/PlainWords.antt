-- The words of a command whose only flags answer with a text (help, the version): where a parse
-- finds no fault, each word is a value, `--` apart.
use Rattle.std.proofs.Common.{◌≡◌, ℕ, Bool, true, false, suc, zero, List, [], ◌∷◌, length, Option, Some, None, refl, ap}
use Rattle.std.specs.Prelude.{slice_get, if◌then◌else◌}
use Rattle.std.specs.Option.{option_map_or}
use Rattle.std.specs.Str.{chars}
use Rattle.clap.specs.Kinds.{Kinds, or_else}
use Rattle.clap.specs.Faults.{bundle_fault, flag_word_fault, flags_fault, bundle_step_fault, long_fault, react_fault, settle_fault, short_fault}
use Rattle.clap.specs.Walk.{Held, Outcome, Row, Rule, Text, after_flag, trailing, arg_by_long, arg_by_short, bundle_met, bundle_step, idle, long_or_other, plain, short_or_plain, value}
use Rattle.clap.specs.Simple.{filled, help_rule, version_rule, with_index}
use Rattle.clap.specs.Lexer.{long_of, short_of}

-- no step of two is at fault
pub both_clear : (a b : Kinds) → or_else a b ≡ [] → (a ≡ []) × (b ≡ [])
both_clear [] b h = (refl, h)
both_clear (k ∷ ks) b h = (h, absurd (let bad : k ∷ ks ≡ [] = h in cc))

-- each flag is at fault: it is none of the command's, or answers with a text
pub record HasNoFlags (c : List Rule) : Type 0 where
  pub no_long : (again : Bool) (name : Text) (v : Option Text) (h : Held) → long_fault c again (arg_by_long c name) v h ≡ [] → ⊥
  pub no_short : (again : Bool) (x : ℕ) (rest : Text) (h : Held) (next : Held → Kinds) → short_fault c again (arg_by_short c x) rest h next ≡ [] → ⊥

-- ---- flags that answer with a text

abbrev help : Rule
help = with_index 1 (filled help_rule)

abbrev version : Rule
version = with_index 1 (filled version_rule)

-- the flag that is named, by the tests of the two names
abbrev pub flag_named : Bool → Bool → Option Rule
flag_named is_help is_version = if is_help then Some help else (if is_version then Some version else None)

abbrev settle : List Rule → Bool → Held → Kinds
settle = settle_fault

pub no_long : (c : List Rule) (is_help is_version again : Bool) (v : Option Text) (h : Held) → long_fault c again (flag_named is_help is_version) v h ≡ [] → ⊥
no_long c true is_version again (Some v) h clear = cc
no_long c true is_version again None h clear = let bad = (both_clear (settle c again h) _ clear).1 in cc
no_long c false true again (Some v) h clear = cc
no_long c false true again None h clear = let bad = (both_clear (settle c again h) _ clear).1 in cc
no_long c false false again v h clear = cc

pub no_short : (c : List Rule) (is_help is_version again : Bool) (rest : Text) (h : Held) (next : Held → Kinds)
    → short_fault c again (flag_named is_help is_version) rest h next ≡ [] → ⊥
no_short c true is_version again rest h next clear =
    let bad = (both_clear (settle c again h) _ (both_clear (react_fault c again help [] h) _ clear).0).1 in cc
no_short c false true again rest h next clear =
    let bad = (both_clear (settle c again h) _ (both_clear (react_fault c again version [] h) _ clear).0).1 in cc
no_short c false false again rest h next clear = cc

-- ---- words

abbrev pub held : List Row → Option (Text × List Text) → Held
held rows pending = record { rows = rows; pending = pending; skip = 0 }

module _ (c : List Rule) (none : HasNoFlags c) (again : Bool) where
  -- a bundle of flags without a fault has no flag
  step_plain : (k : ℕ) (o : Option ℕ) (flags : Text) (h : Held) → bundle_step_fault c again o flags 0 h (flags_fault c again k) ≡ []
      → bundle_step c o flags 0 plain h (bundle_met c k) ≡ (h, plain)
  step_plain k None flags h clear = refl
  step_plain k (Some x) flags h clear = absurd (none.no_short again x _ h _ clear)

  flags_plain : (k : ℕ) (flags : Text) (h : Held) → flags_fault c again k flags 0 h ≡ [] → bundle_met c k flags 0 plain h ≡ (h, plain)
  unfolding flags_fault bundle_met
  flags_plain zero flags h clear = refl
  flags_plain (suc k) flags h clear = step_plain k (slice_get (chars flags) 0) flags h clear

  short_plain : (word : Text) (o : Option Text) (rows : List Row) (pending : Option (Text × List Text))
      → option_map_or (λ flags. bundle_fault c again flags (held rows pending)) o [] ≡ [] → short_or_plain c idle word o (held rows pending) ≡ (held rows pending, value)
  short_plain word None rows pending clear = refl
  short_plain word (Some flags) rows pending clear =
      ap (λ (m : Held × Outcome). after_flag c idle word m.0 m.1) (flags_plain (length flags) flags (held rows pending) clear)

  word_plain : (word : Text) (o : Option (Text × Option Text)) (rows : List Row) (pending : Option (Text × List Text))
      → flag_word_fault c again o word (held rows pending) ≡ [] → long_or_other c idle word o (held rows pending) ≡ (held rows pending, value)
  word_plain word (Some p) rows pending clear = absurd (none.no_long again p.0 p.1 _ clear)
  word_plain word None rows pending clear = short_plain word (short_of word) rows pending clear

  -- `--` makes what follows values, and any other word is one
  pub word_is_value : (is_dashes : Bool) (position : ℕ) (word : Text) (rows : List Row) (pending : Option (Text × List Text))
      → (if is_dashes then [] else flag_word_fault c again (long_of word) word (held rows pending)) ≡ []
      → (if is_dashes then (held rows pending, trailing position) else long_or_other c idle word (long_of word) (held rows pending))
      ≡ (held rows pending, (if is_dashes then trailing position else value))
  word_is_value true position word rows pending clear = refl
  word_is_value false position word rows pending clear = word_plain word (long_of word) rows pending clear
