-- The words that ask for a watched script, one by one.
use Rattle.std.proofs.Common.{◌≡◌, ◌≤◌, ℕ, true, false, List, Some, None, [], ◌∷◌, decimal, codes, Result, Ok, refl, sym, ◌∙◌, ap, ◌-◌, Bor, drop, take, take_all, inr, length, map, arith}
use Rattle.std.specs.Prelude.{slice_index_or}
use Rattle.std.specs.Str.Parse.{IsNumeral, ParsesUnsigned}
use Rattle.std.proofs.lemmas.Bool.{ne_eqb}
use Rattle.std.proofs.lemmas.Fmt.{decimal_is_IsNumeral, parse-decimal}
use Rattle.std.proofs.lemmas.Str.Parse.{digit_from_value}
use Rattle.std.proofs.lemmas.List.{length-drop}
use Rattle.clap.specs.Words.{Text}
use Rattle.gb_words.specs.Words.{begins_with_plus, is_file, IsFrames, IsWatch, WatchTexts, options_in}

numeral_has_no_plus : (ds : List ℕ) → IsNumeral 10 ds → begins_with_plus ds ≡ false
numeral_has_no_plus [] h = refl
numeral_has_no_plus (d ∷ ds) h = ne_eqb _ _ (λ e. omega (arith, digit_from_value d h.1.0))

-- a number in decimal digits begins with no plus
pub decimal_has_no_plus : (n : ℕ) (word : Text) → n ≤ 36000 → word ≡ decimal n → begins_with_plus word ≡ false
decimal_has_no_plus n word few is = ap begins_with_plus is ∙ numeral_has_no_plus (decimal n) (decimal_is_IsNumeral n (omega arith)).0

-- and is read
pub decimal_is_read : {E : Type 0} (n : ℕ) (word : Text) (r : Result ℕ E) → n ≤ 36000 → word ≡ decimal n → ParsesUnsigned 32 10 word r → r ≡ Ok n
decimal_is_read n word r few is read = parse-decimal 32 n word r (omega arith) (omega arith) is read

front_words : (ws : List (Bor Text)) (d : Bor Text) → 4 ≤ length ws
    → map (λ w. w.now) ws ≡ (slice_index_or ws 0 d).now ∷ (slice_index_or ws 1 d).now ∷ (slice_index_or ws 2 d).now ∷ (slice_index_or ws 3 d).now ∷ map (λ w. w.now) (drop 4 ws)
front_words [] d h = absurd (omega arith)
front_words (a ∷ []) d h = absurd (omega arith)
front_words (a ∷ b ∷ []) d h = absurd (omega arith)
front_words (a ∷ b ∷ e ∷ []) d h = absurd (omega arith)
front_words (a ∷ b ∷ e ∷ f ∷ rest) d h = refl

pub watched_words : (ws : List (Bor Text)) (d : Bor Text) (n : ℕ) (texts : WatchTexts) → 4 ≤ length ws → (slice_index_or ws 0 d).now ≡ codes "watch" → is_file (slice_index_or ws 1 d).now ≡ true
    → is_file (slice_index_or ws 2 d).now ≡ true → IsFrames (slice_index_or ws 3 d).now n → Some texts ≡ options_in (map (λ w. w.now) (take (length ws - 4) (drop 4 ws))) → texts.events ≡ None
    → IsWatch (map (λ w. w.now) ws) (slice_index_or ws 1 d).now (slice_index_or ws 2 d).now n texts
watched_words ws d n texts count name rom script frames options none =
    inr (record {
      word = (slice_index_or ws 3 d).now;
      options = map (λ w. w.now) (drop 4 ws);
      are = front_words ws d count ∙ ap (λ (x : Text). x ∷ (slice_index_or ws 1 d).now ∷ (slice_index_or ws 2 d).now ∷ (slice_index_or ws 3 d).now ∷ map (λ w. w.now) (drop 4 ws)) name;
      rom_is = rom;
      script_is = script;
      frames_are = frames;
      options_are =
          sym (options ∙ ap (λ (rest : List (Bor Text)). options_in (map (λ w. w.now) rest)) (take_all (length ws - 4) (drop 4 ws) (omega (arith, length-drop 4 ws))));
      no_events = none;
    })

ok_value : (k n : ℕ) (r : Result ℕ (Unit {0})) → r ≡ Ok k → r ≡ Ok n → k ≡ n
ok_value k n r a b = cc

pub decimal_value : (n k : ℕ) (word : Text) → n ≤ 36000 → word ≡ decimal n → ParsesUnsigned {E = Unit {0}} 32 10 word (Ok k) → k ≡ n
decimal_value n k word few is read = ok_value k n (Ok k) refl (decimal_is_read n word (Ok k) few is read)
