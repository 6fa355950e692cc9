-- What a parse makes of the words behind a command's name: where it finds no fault they are a value
-- for each of the command's arguments.
use Rattle.std.proofs.Common.{◌≡◌, ◌≤◌, ◌<◌, ℕ, Bool, true, false, zero, suc, List, [], ◌∷◌, ◌++◌, length, Option, Some, None, refl, ap, sym, ◌||◌, ◌∙◌, inl, inr, subst, append_assoc, arith, codes, fold}
use Rattle.std.specs.Prelude.{if◌then◌else◌}
use Rattle.std.specs.Str.{bytes_eq}
use Rattle.clap.specs.Kinds.{Kinds}
use Rattle.clap.specs.Faults.{check_fault, level_fault, defaults_fault, settle_fault, step_fault, turn_fault, walk_fault, word_fault}
use Rattle.clap.specs.Walk.{Held, Names, Row, Rule, Step, Text, Walk, after_step, finished, reading_by, settled, idle, nothing_held, rows_after, trailing, value, walk, walk_from, walked}
use Rattle.clap.specs.Simple.{Shape}
use Rattle.clap.specs.declared.parser.matches.ValueSource.TheVariants.{CommandLine}
use Rattle.gb_words.specs.Words.{values_in}
use Rattle.gb_words.proofs.PlainWords.{HasNoFlags, both_clear, held, word_is_value}
use Rattle.std.proofs.lemmas.List.{append-nil, length-append}
use Rattle.std.proofs.Math.Nat.{eq-or-lt_of_le}

-- ---- where the walk stands after some values

abbrev pub rule_row : Rule → Text → Row
rule_row r text = record {
  id = r.id;
  values = text ∷ [];
  count = None;
  source = Some CommandLine;
  reading = reading_by r;
}

-- what is kept of the values
abbrev pub value_rows : List Text → List Rule → List Row
value_rows [] rules = []
value_rows (v ∷ vs) [] = []
value_rows (v ∷ vs) (r ∷ rules) = rule_row r v ∷ value_rows vs rules

-- before the last is settled, of those before it
abbrev pub rows_before : List Text → List Rule → List Row
rows_before [] rules = []
rows_before (v ∷ []) rules = []
rows_before (v ∷ w ∷ vs) [] = []
rows_before (v ∷ w ∷ vs) (r ∷ rules) = rule_row r v ∷ rows_before (w ∷ vs) rules

-- and the last
abbrev pub last_value : List Text → List Rule → Option (Text × List Text)
last_value [] rules = None
last_value (v ∷ vs) [] = None
last_value (v ∷ []) (r ∷ rules) = Some (r.id, v ∷ [])
last_value (v ∷ w ∷ vs) (r ∷ rules) = last_value (w ∷ vs) rules

abbrev pub position_at : List Text → ℕ
position_at vs = suc (length vs)

abbrev pub held_at : List Rule → List Text → Held
held_at rules vs = held (rows_before vs rules) (last_value vs rules)

abbrev pub at : List Rule → Bool → List Text → Walk
at rules t vs = record {
  held = held_at rules vs;
  waiting = idle;
  position = position_at vs;
  is_trailing = t;
  stopped = None;
}

-- P of each list of n values
abbrev pub Exactly : ℕ → (List Text → Type 0) → Type 0
Exactly zero P = P []
Exactly (suc n) P = (v : Text) → Exactly n (λ vs. P (v ∷ vs))

-- P of each list of fewer values
abbrev pub Below : ℕ → (List Text → Type 0) → Type 0
Below zero P = Unit {0}
Below (suc n) P = P [] × ((v : Text) → Below n (λ vs. P (v ∷ vs)))

pub exactly : (n : ℕ) (P : List Text → Type 0) → Exactly n P → (vs : List Text) → length vs ≡ n → P vs
exactly zero P all [] count = all
exactly zero P all (v ∷ vs) count = absurd (omega arith)
exactly (suc n) P all [] count = absurd (omega arith)
exactly (suc n) P all (v ∷ vs) count = exactly n (λ ws. P (v ∷ ws)) (all v) vs (omega arith)

pub below : (n : ℕ) (P : List Text → Type 0) → Below n P → (vs : List Text) → length vs < n → P vs
below zero P all vs less = absurd (omega arith)
below (suc n) P all [] less = all.0
below (suc n) P all (v ∷ vs) less = below n (λ ws. P (v ∷ ws)) (all.1 v) vs (omega arith)

-- ---- what the walk asks of a command

abbrev pub HasRoom : Shape → List Rule → List Text → Type 0
HasRoom s rules vs = step_fault s (position_at vs) (held_at rules vs) value ≡ []

abbrev pub TakesOne : Shape → List Rule → Bool → Text → List Text → Type 0
TakesOne s rules t word vs = after_step s.rules word (at rules t vs) (held_at rules vs) value ≡ at rules (t || false) (vs ++ word ∷ [])

abbrev pub HasAll : Shape → List Rule → List Text → Type 0
HasAll s rules vs = check_fault s (finished s.rules (held_at rules vs)) false ≡ []

abbrev pub KeepsAll : Shape → List Rule → List Text → Type 0
KeepsAll s rules vs = finished s.rules (held_at rules vs) ≡ value_rows vs rules

abbrev pub HasNoDefaults : Shape → List Rule → List Text → Type 0
HasNoDefaults s rules vs = defaults_fault (settled s.rules (held_at rules vs)).rows s.rules ≡ []

-- the command takes a value for each of the rules, and no more
pub record Takes (s : Shape) (rules : List Rule) : Type 0 where
  pub no_flags : HasNoFlags s.rules
  pub has_room : Below (length rules) (HasRoom s rules)
  pub takes_one : (t : Bool) (word : Text) → Below (length rules) (TakesOne s rules t word)
  pub is_full : Exactly (length rules) (λ vs. HasRoom s rules vs → ⊥)
  pub misses : Below (length rules) (λ vs. HasAll s rules vs → ⊥)
  pub has_all : Exactly (length rules) (HasAll s rules)
  pub keeps_all : Exactly (length rules) (KeepsAll s rules)
  pub no_defaults : Exactly (length rules) (HasNoDefaults s rules)

or_false : (t : Bool) → (t || false) ≡ t
or_false true = refl
or_false false = refl

-- ---- words behind a value

abbrev values : Bool → List Text → List Text
values true words = words
values false words = values_in words

abbrev values_after : Bool → List Text → Text → List Text
values_after is_dashes vs word = if is_dashes then vs else vs ++ word ∷ []

regroup : (is_dashes : Bool) (vs : List Text) (word : Text) (rest : List Text)
    → values_after is_dashes vs word ++ values is_dashes rest ≡ vs ++ (if is_dashes then rest else word ∷ values_in rest)
regroup true vs word rest = refl
regroup false vs word rest = append_assoc vs (word ∷ []) (values_in rest)

-- ---- the end of a level

-- of any command: what a parse without a fault says of the walk and of what comes behind it
pub record IsClear (s : Shape) (names : Names) (words : List Text) (has_subcommand : Bool) (below : Kinds) : Type 0 where
  pub walk_is : walk_fault s names (walk_from nothing_held) words ≡ []
  pub below_is : below ≡ []
  pub settles : settle_fault s.rules s.args_override_self (walk s.rules names nothing_held words).held ≡ []
  pub checks : check_fault s (finished s.rules (walk s.rules names nothing_held words).held) has_subcommand ≡ []

pub level_clear : (s : Shape) (names : Names) (words : List Text) (has_subcommand : Bool) (below : Kinds) → level_fault s names nothing_held words has_subcommand below ≡ []
    → IsClear s names words has_subcommand below
level_clear s names words has_subcommand below clear =
    let start = both_clear (walk_fault s names (walk_from nothing_held) words) _ clear in
    let inner = both_clear below _ start.1 in
    let settled_part = both_clear (settle_fault s.rules s.args_override_self (walk s.rules names nothing_held words).held) _ inner.1 in
    let defaults_part = both_clear (defaults_fault (settled s.rules (walk s.rules names nothing_held words).held).rows s.rules) _ settled_part.1 in
    record { walk_is = start.0; below_is = inner.0; settles = settled_part.0; checks = defaults_part.1 }

module _ (s : Shape) (rules : List Rule) (takes : Takes s rules) where
  -- ---- a word

  value_step : (t : Bool) (vs : List Text) (word : Text) → length vs ≤ length rules → step_fault s (position_at vs) (held_at rules vs) value ≡ []
      → (length (vs ++ word ∷ []) ≤ length rules) × (after_step s.rules word (at rules t vs) (held_at rules vs) value ≡ at rules t (vs ++ word ∷ []))
  value_step t vs word few clear = elim (eq-or-lt_of_le few) [
    | inl all ↦ absurd (exactly (length rules) (λ ws. HasRoom s rules ws → ⊥) takes.is_full vs all clear)
    | inr less ↦ (
      omega (arith, length-append vs (word ∷ [])),
      below (length rules) (TakesOne s rules t word) (takes.takes_one t word) vs less ∙ ap (λ b. at rules b (vs ++ word ∷ [])) (or_false t),
    )
  ]

  abbrev step_of_word : Bool → ℕ → Step
  step_of_word is_dashes position = if is_dashes then trailing position else value

  word_step : (is_dashes : Bool) (vs : List Text) (word : Text) → length vs ≤ length rules → step_fault s (position_at vs) (held_at rules vs) (step_of_word is_dashes (position_at vs)) ≡ []
      → (length (values_after is_dashes vs word) ≤ length rules)
      × (after_step s.rules word (at rules false vs) (held_at rules vs) (step_of_word is_dashes (position_at vs)) ≡ at rules is_dashes (values_after is_dashes vs word))
  word_step true vs word few clear = (few, refl)
  word_step false vs word few clear = value_step false vs word few clear

  -- ---- all words

  -- the walk ends behind these values
  record Ends (t : Bool) (vs words : List Text) : Type 0 where
    trailing_then : Bool
    all : List Text
    few : length all ≤ length rules
    values_are : all ≡ vs ++ values t words
    walk_is : fold (walked s.rules []) (at rules t vs) words ≡ at rules trailing_then all

  leaf_walk : (words : List Text) (t : Bool) (vs : List Text) → length vs ≤ length rules → walk_fault s [] (at rules t vs) words ≡ [] → Ends t vs words
  unfolding walk_fault walked
  leaf_walk [] true vs few clear = record { trailing_then = true; all = vs; few = few; values_are = sym (append-nil vs); walk_is = refl }
  leaf_walk [] false vs few clear = record { trailing_then = false; all = vs; few = few; values_are = sym (append-nil vs); walk_is = refl }
  leaf_walk (word ∷ rest) true vs few clear =
      let parts = both_clear (step_fault s (position_at vs) (held_at rules vs) value) _ clear in
      let step = value_step true vs word few parts.0 in
      let tail = leaf_walk rest true (vs ++ word ∷ []) step.0 (subst (λ w. walk_fault s [] w rest ≡ []) step.1 parts.1) in
      record {
        trailing_then = tail.trailing_then;
        all = tail.all;
        few = tail.few;
        values_are = tail.values_are ∙ append_assoc vs (word ∷ []) rest;
        walk_is = ap (λ w. fold (walked s.rules []) w rest) step.1 ∙ tail.walk_is;
      }
  leaf_walk (word ∷ rest) false vs few clear =
      let parts = both_clear (turn_fault s [] (at rules false vs) word) _ clear in
      let turn = both_clear (word_fault s [] false idle word (held_at rules vs)) _ parts.0 in
      let dashes = bytes_eq word (codes "--") in
      let met = word_is_value s.rules takes.no_flags s.args_override_self dashes (position_at vs) word (rows_before vs rules) (last_value vs rules) turn.0 in
      let step = word_step dashes vs word few (ap (λ m. step_fault s (position_at vs) m.0 m.1) (sym met) ∙ turn.1) in
      let to : walked s.rules [] (at rules false vs) word ≡ at rules dashes (values_after dashes vs word) =
      ap (λ m. after_step s.rules word (at rules false vs) m.0 m.1) met ∙ step.1 in
      let tail = leaf_walk rest dashes (values_after dashes vs word) step.0 (subst (λ w. walk_fault s [] w rest ≡ []) to parts.1) in
      record {
        trailing_then = tail.trailing_then;
        all = tail.all;
        few = tail.few;
        values_are = tail.values_are ∙ regroup dashes vs word rest;
        walk_is = ap (λ w. fold (walked s.rules []) w rest) to ∙ tail.walk_is;
      }

  -- ---- the end

  -- what the words give, and what the parse keeps of it
  pub record GivesValues (words : List Text) : Type 0 where
    pub all : List Text
    pub values_are : values_in words ≡ all
    pub count : length all ≡ length rules
    pub settles : settle_fault s.rules s.args_override_self (held_at rules all) ≡ []
    pub rows_are : rows_after s.rules [] words ≡ value_rows all rules

  values_of : (words all : List Text) → length all ≤ length rules → all ≡ values_in words → (walk s.rules [] nothing_held words).held ≡ held_at rules all
      → IsClear s [] words false [] → GivesValues words
  values_of words all few values_are held_is clear =
      let check : check_fault s (finished s.rules (held_at rules all)) false ≡ [] = ap (λ k. check_fault s (finished s.rules k) false) (sym held_is) ∙ clear.checks in
      elim (eq-or-lt_of_le few) [
        | inr less ↦ absurd (below (length rules) (λ ws. HasAll s rules ws → ⊥) takes.misses all less check)
        | inl count ↦ record {
          all = all;
          values_are = sym values_are;
          count = count;
          settles = ap (settle_fault s.rules s.args_override_self) (sym held_is) ∙ clear.settles;
          rows_are = ap (finished s.rules) held_is ∙ exactly (length rules) (KeepsAll s rules) takes.keeps_all all count;
        }
      ]

  pub gives_values : (words : List Text) → level_fault s [] nothing_held words false [] ≡ [] → GivesValues words
  gives_values words clear =
      let level = level_clear s [] words false [] clear in
      let end = leaf_walk words false [] (search arith) level.walk_is in
      values_of words end.all end.few end.values_are (ap (λ w. w.held) end.walk_is) level
