-- Lines, one after another.
use Rattle.std.proofs.Common.{◌≡◌, ℕ, ◌+◌, ◌<◌, List, [], ◌∷◌, ◌++◌, length, get_or, take, drop, Option, sym, ◌∙◌, ap, subst, take-append-drop}
use Rattle.std.specs.List.{flat_map}
use Rattle.std.proofs.lemmas.List.{append-nil, take_more}
use Rattle.std.proofs.lemmas.List.Concat.{flat_map-append}
use Rattle.gb_text.specs.Sink.{Gains}
use Rattle.gb_text.specs.Text.{GainsBeginning}
use Rattle.gb_text.proofs.Gained.{gains_both, begins_first, begins_second}
use Rattle.gb_printed.specs.Screen.{line_text, screen_text}

-- one more line
line_more : {X : Type 0} (text : X → List ℕ) (d : X) (lines : List X) (i : ℕ) → i < length lines
    → flat_map text (take (i + 1) lines) ≡ flat_map text (take i lines) ++ text (get_or lines i d)
line_more text d lines i h =
    ap (flat_map text) (take_more lines i d h) ∙ flat_map-append text (take i lines) (get_or lines i d ∷ [])
    ∙ ap (λ t. flat_map text (take i lines) ++ t) (append-nil (text (get_or lines i d)))

rest_follows : {X : Type 0} (text : X → List ℕ) (lines : List X) (i : ℕ) → flat_map text lines ≡ flat_map text (take i lines) ++ flat_map text (drop i lines)
rest_follows text lines i = ap (flat_map text) (sym (take-append-drop i lines)) ∙ flat_map-append text (take i lines) (drop i lines)

pub any_line_written : {X : Type 0} (text : X → List ℕ) (d : X) (old mid new : Option (List ℕ)) (lines : List X) (i : ℕ) → i < length lines
    → Gains old (flat_map text (take i lines)) mid → Gains mid (text (get_or lines i d)) new → Gains old (flat_map text (take (i + 1) lines)) new
any_line_written text d old mid new lines i lt h g = subst (λ t. Gains old t new) (sym (line_more text d lines i lt)) (gains_both old mid new _ _ h g)

pub any_line_cut : {X : Type 0} (text : X → List ℕ) (d : X) (old mid new : Option (List ℕ)) (lines : List X) (i : ℕ) → i < length lines
    → Gains old (flat_map text (take i lines)) mid → GainsBeginning mid (text (get_or lines i d)) new → GainsBeginning old (flat_map text lines) new
any_line_cut text d old mid new lines i lt h g =
    let cut : GainsBeginning old (flat_map text (take (i + 1) lines)) new =
    subst (λ t. GainsBeginning old t new) (sym (line_more text d lines i lt)) (begins_second old mid new _ _ h g) in
    subst (λ t. GainsBeginning old t new) (sym (rest_follows text lines (i + 1))) (begins_first old new _ _ cut)

-- ---- the lines of a screen

pub line_written : (old mid new : Option (List ℕ)) (lines : List (List ℕ)) (i : ℕ) → i < length lines → Gains old (screen_text (take i lines)) mid → Gains mid (line_text (get_or lines i [])) new
    → Gains old (screen_text (take (i + 1) lines)) new
line_written old mid new lines i lt h g = any_line_written line_text [] old mid new lines i lt h g

pub line_cut : (old mid new : Option (List ℕ)) (lines : List (List ℕ)) (i : ℕ) → i < length lines → Gains old (screen_text (take i lines)) mid → GainsBeginning mid (line_text (get_or lines i [])) new
    → GainsBeginning old (screen_text lines) new
line_cut old mid new lines i lt h g = any_line_cut line_text [] old mid new lines i lt h g
