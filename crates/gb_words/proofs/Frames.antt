-- What `run` reads of its last word.
use Rattle.std.proofs.Common.{◌≡◌, ◌≤◌, ◌==◌, ap, ℕ, Bool, true, false, cond, List, [], ◌∷◌, drop, Option, Some, None, refl, sym, ◌∙◌, subst, arith, pos, decimal, Ok, Result}
use Rattle.std.specs.Prelude.{if◌then◌else◌, neg_ℤ, unwrap_or}
use Rattle.std.specs.Str.Parse.{IsNumeral, ParsesUnsigned, digits_value, signed_digits_value, starts_with_minus, without_leading_plus, without_leading_sign}
use Rattle.std.proofs.lemmas.Bool.{ne_eqb}
use Rattle.std.proofs.lemmas.Str.Parse.{digit_from_value}
use Rattle.std.proofs.lemmas.Int.{ints}
use Rattle.std.proofs.lemmas.Fmt.{decimal_is_IsNumeral}
use Rattle.clap.specs.Lexer.{without_minus}
use Rattle.clap.specs.Kinds.{Kinds, or_else}
use Rattle.clap.specs.Values.{IsSignedIn}
use Rattle.clap.specs.ValueTests.{accepts}
use Rattle.clap.specs.Matches.{ReadsOne}
use Rattle.clap.specs.Walk.{Text}
use Rattle.clap.proofs.CallerReads.{signed_reads}
use Rattle.clap.proofs.ValueTestLemmas.{Accepts-accepts, accepts-Accepts}
use Rattle.clap.specs.declared.error.kind.ErrorKind.TheVariants as kind
use Rattle.clap.specs.declared.builder.value_parser.ValueParser.TheVariants as parser
use Rattle.gb_words.specs.Words.{IsFrames, begins_with_hyphen}
use Rattle.gb_words.proofs.Leaves.{run, watch}
use Rattle.gb_words.proofs.CommandWalk.{settling}

-- the word that `run` settles last is one that the parser takes
abbrev refused_or : Bool → Kinds
refused_or b = or_else (if b then [] else kind.ValueValidation ∷ []) []

taken_if : (b : Bool) → refused_or b ≡ [] → b ≡ true
taken_if true clear = refl
taken_if false clear = absurd cc

pub is_taken : (rom script frames : Text) → settling run (rom ∷ script ∷ frames ∷ []) ≡ [] → IsSignedIn (pos 0) (pos 36000) frames
is_taken rom script frames clear =
    accepts-Accepts false (parser.Signed (pos 0) (pos 36000)) frames (taken_if (accepts false (parser.Signed (pos 0) (pos 36000)) frames) clear)

pub watch_is_taken : (rom script frames : Text) → settling watch (rom ∷ script ∷ frames ∷ []) ≡ [] → IsSignedIn (pos 0) (pos 36000) frames
watch_is_taken rom script frames clear =
    accepts-Accepts false (parser.Signed (pos 0) (pos 36000)) frames (taken_if (accepts false (parser.Signed (pos 0) (pos 36000)) frames) clear)

pub settles : (rom script frames : Text) → IsSignedIn (pos 0) (pos 36000) frames → settling run (rom ∷ script ∷ frames ∷ []) ≡ []
settles rom script frames taken = ap refused_or (Accepts-accepts false (parser.Signed (pos 0) (pos 36000)) frames taken)

-- ---- the number that it writes

without_minus-cond : (word : Text) → without_minus word ≡ cond (starts_with_minus word) (drop 1 word) word
without_minus-cond [] = refl
without_minus-cond (x ∷ xs) = go (x == 45)
  where
    go : (b : Bool) → unwrap_or (cond b (Some xs) None) (x ∷ xs) ≡ cond b xs (x ∷ xs)
    go true = refl
    go false = refl

no_plus : (ds : List ℕ) → IsNumeral 10 ds → without_leading_plus ds ≡ ds
no_plus [] h = refl
no_plus (d ∷ ds) h =
    let plus : (d == 43) ≡ false = ne_eqb _ _ (λ e. omega (arith, digit_from_value d h.1.0)) in
    ap (λ (b : Bool). drop (cond b 1 0) (d ∷ ds)) plus

module _ (E : Type 0) (G : List ℕ → Result ℕ E → Type 0) (only : (bs : List ℕ) (r : Result ℕ E) → G bs r → ParsesUnsigned 32 10 bs r) where
  -- without its hyphen the word reads as the number that it writes, which is 0 where it has one
  reads_by : (word : Text) (n : ℕ) (is_negative : Bool) → starts_with_minus word ≡ is_negative → ReadsOne G (cond is_negative (drop 1 word) word) (Some n)
      → IsSignedIn (pos 0) (pos 36000) word → signed_digits_value 10 word ≡ pos n
  reads_by word n true minus read taken =
      let low = rw minus at taken.2 in
      let numeral : IsNumeral 10 (drop 1 word) = rw minus at taken.0 in
      let n_is : n ≡ digits_value 10 (drop 1 word) = (only (drop 1 word) (Ok n) read).1 ∙ ap (digits_value 10) (no_plus (drop 1 word) numeral) in
      let none : digits_value 10 (drop 1 word) ≡ 0 = omega (arith, ints) in
      let zero_is : 0 ≡ n = omega arith in
      rw minus (ap (λ k. neg_ℤ (pos k)) none ∙ ap pos zero_is)
  reads_by word n false minus read taken =
      let n_is : n ≡ digits_value 10 (without_leading_plus word) = (only word (Ok n) read).1 in
      rw minus (ap pos (sym n_is))

  -- the caller reads the number
  pub reads : (word : Text) (r : Option ℕ) → ReadsOne G (without_minus word) r → IsSignedIn (pos 0) (pos 36000) word → (n : ℕ) × (r ≡ Some n) × (signed_digits_value 10 word ≡ pos n)
  reads word r read taken =
      let got = signed_reads E G 32 0 36000 word r read only (omega arith) taken in
      let same = subst (λ o. ReadsOne G (without_minus word) o) got.1 read in
      (got.0, got.1, reads_by word got.0 (starts_with_minus word) refl (subst (λ (u : List ℕ). ReadsOne G u (Some got.0)) (without_minus-cond word) same) taken)

-- a number in decimal digits is such a word
pub numeral_is_frames : (ds : List ℕ) (n : ℕ) → IsNumeral 10 ds → digits_value 10 ds ≡ n → n ≤ 36000 → IsFrames ds n × (begins_with_hyphen ds ≡ false)
numeral_is_frames [] n numeral value few = absurd (omega (arith, numeral.0))
numeral_is_frames (d ∷ ds) n numeral value few =
    let range = digit_from_value d numeral.1.0 in
    let plus : (d == 43) ≡ false = ne_eqb _ _ (λ e. omega (arith, range)) in
    let minus : (d == 45) ≡ false = ne_eqb _ _ (λ e. omega (arith, range)) in
    let unsigned : without_leading_sign (d ∷ ds) ≡ d ∷ ds = rw (minus, plus) refl in
    let value_is : signed_digits_value 10 (d ∷ ds) ≡ pos n = rw (minus, plus, value) refl in (
      record {
        is_taken = (subst (IsNumeral 10) (sym unsigned) numeral, rw value_is (record { sfits = omega arith }), rw value_is (search (arith, ints)), rw value_is (search (arith, ints)));
        number = value_is;
      },
      minus,
    )

pub decimal_is_frames : (n : ℕ) → n ≤ 36000 → IsFrames (decimal n) n × (begins_with_hyphen (decimal n) ≡ false)
decimal_is_frames n few =
    let digits = decimal_is_IsNumeral n (omega arith) in
    numeral_is_frames (decimal n) n digits.0 digits.1 few
