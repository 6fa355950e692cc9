-- The words that ask for a list of events, one by one.
use Rattle.std.proofs.Common.{◌≡◌, ◌≤◌, true, List, Some, [], ◌∷◌, codes, refl, sym, ◌∙◌, ap, ◌-◌, Bor, drop, take, take_all, length, map, arith}
use Rattle.std.specs.Prelude.{slice_index_or}
use Rattle.std.proofs.lemmas.List.{length-drop}
use Rattle.clap.specs.Words.{Text}
use Rattle.gb_words.specs.Words.{is_file, IsReplay, WatchTexts, options_in}

front_two : (ws : List (Bor Text)) (d : Bor Text) → 2 ≤ length ws
    → map (λ w. w.now) ws ≡ (slice_index_or ws 0 d).now ∷ (slice_index_or ws 1 d).now ∷ map (λ w. w.now) (drop 2 ws)
front_two [] d h = absurd (omega arith)
front_two (a ∷ []) d h = absurd (omega arith)
front_two (a ∷ b ∷ rest) d h = refl

pub replayed_words : (ws : List (Bor Text)) (d : Bor Text) (events : Text) (texts : WatchTexts) → 2 ≤ length ws → (slice_index_or ws 0 d).now ≡ codes "watch" → is_file (slice_index_or ws 1 d).now ≡ true
    → Some texts ≡ options_in (map (λ w. w.now) (take (length ws - 2) (drop 2 ws))) → texts.events ≡ Some events
    → IsReplay (map (λ w. w.now) ws) (slice_index_or ws 1 d).now events texts
replayed_words ws d events texts count name rom options are =
    record {
      options = map (λ w. w.now) (drop 2 ws);
      are = front_two ws d count ∙ ap (λ (x : Text). x ∷ (slice_index_or ws 1 d).now ∷ map (λ w. w.now) (drop 2 ws)) name;
      rom_is = rom;
      options_are = sym (options ∙ ap (λ (rest : List (Bor Text)). options_in (map (λ w. w.now) rest)) (take_all (length ws - 2) (drop 2 ws) (omega (arith, length-drop 2 ws))));
      events_are = are;
    }
