-- The words that ask for an upgrade to a version, one by one.
use Rattle.std.proofs.Common.{◌≡◌, true, List, [], ◌∷◌, length, map, codes, Bor, inr, refl, ◌∙◌, arith}
use Rattle.std.specs.Prelude.{slice_index_or}
use Rattle.clap.specs.Words.{Text}
use Rattle.gb_words.specs.Words.{is_file, version_word, IsUpgradeTo, IsUpgrade}
use Rattle.gb_words.specs.declared.words.TargetVersion.{TargetVersion}
use Rattle.gb_words.specs.declared.words.TargetVersion.TheVariants as version

four_words : (ws : List (Bor Text)) (d : Bor Text) → length ws ≡ 4
    → map (λ w. w.now) ws ≡ (slice_index_or ws 0 d).now ∷ (slice_index_or ws 1 d).now ∷ (slice_index_or ws 2 d).now ∷ (slice_index_or ws 3 d).now ∷ []
four_words [] d h = absurd (omega arith)
four_words (a ∷ []) d h = absurd (omega arith)
four_words (a ∷ b ∷ []) d h = absurd (omega arith)
four_words (a ∷ b ∷ e ∷ []) d h = absurd (omega arith)
four_words (a ∷ b ∷ e ∷ f ∷ []) d h = refl
four_words (a ∷ b ∷ e ∷ f ∷ g ∷ rest) d h = absurd (omega arith)

same_words : (a b e f a2 b2 e2 : Text) → a ≡ a2 → b ≡ b2 → e ≡ e2 → (a ∷ b ∷ e ∷ f ∷ []) ≡ a2 ∷ b2 ∷ e2 ∷ f ∷ []
same_words a b e f a2 b2 e2 g h i = rw (g, h, i) refl

by_version : (words : List Text) (to : TargetVersion) (cert : Text) → IsUpgradeTo words to cert → IsUpgrade words to cert
by_version words version.Two cert h = inr h
by_version words version.Three cert h = h
by_version words version.Four cert h = h

pub asked : (ws : List (Bor Text)) (d : Bor Text) (to : TargetVersion) → length ws ≡ 4 → (slice_index_or ws 0 d).now ≡ codes "upgrade" → (slice_index_or ws 1 d).now ≡ codes "--to" → (slice_index_or ws 2 d).now ≡ version_word to
    → is_file (slice_index_or ws 3 d).now ≡ true → IsUpgrade (map (λ w. w.now) ws) to (slice_index_or ws 3 d).now
asked ws d to count first second third file =
    by_version (map (λ w. w.now) ws) to (slice_index_or ws 3 d).now (record {
      are = four_words ws d count ∙ same_words _ _ _ _ _ _ _ first second third;
      file = file;
    })
