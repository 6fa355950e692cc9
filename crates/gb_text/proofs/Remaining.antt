-- A text on its way to a sink, part by part.
use Rattle.std.proofs.Common.{◌≡◌, ℕ, List, [], ◌++◌, Option, Some, None, refl, sym, ◌∙◌, ap, subst}
use Rattle.std.proofs.lemmas.List.{append_assoc, append-nil}
use Rattle.gb_text.specs.Sink.{Gains}
use Rattle.gb_text.specs.Text.{GainsBeginning}
use Rattle.gb_text.proofs.Gained.{gains_both, begins_first, begins_second}

-- The sink has taken the text but for what remains.
pub record Remains (old : Option (List ℕ)) (text : List ℕ) (now : Option (List ℕ)) (rest : List ℕ) : Type 0 where
  pub done : List ℕ
  pub gained : Gains old done now
  pub parts : text ≡ done ++ rest

gains_none : (old : Option (List ℕ)) → Gains old [] old
gains_none None = refl
gains_none (Some old) = ap Some (sym (append-nil old))

pub remains_all : (old : Option (List ℕ)) (text : List ℕ) → Remains old text old text
remains_all old text = record { done = []; gained = gains_none old; parts = refl }

-- one more part was taken
pub remains_less : (old mid new : Option (List ℕ)) (text part rest : List ℕ) → Remains old text mid (part ++ rest) → Gains mid part new → Remains old text new rest
remains_less old mid new text part rest r g = record {
  done = r.done ++ part;
  gained = gains_both old mid new r.done part r.gained g;
  parts = r.parts ∙ sym (append_assoc r.done part rest);
}

-- a beginning of the next part was taken
pub remains_cut : (old mid new : Option (List ℕ)) (text part rest : List ℕ) → Remains old text mid (part ++ rest) → GainsBeginning mid part new → GainsBeginning old text new
remains_cut old mid new text part rest r g =
    subst (λ t. GainsBeginning old t new) (sym r.parts) (begins_second old mid new r.done (part ++ rest) r.gained (begins_first mid new part rest g))

pub remains_none : (old new : Option (List ℕ)) (text : List ℕ) → Remains old text new [] → Gains old text new
remains_none old new text r = subst (λ t. Gains old t new) (sym (r.parts ∙ append-nil r.done)) r.gained
