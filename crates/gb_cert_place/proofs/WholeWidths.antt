-- How many bytes the readers of version 4, and those of any version, take and need at most.
use Rattle.std.proofs.Common.{◌≡◌, ℕ, zero, suc, ◌+◌, ◌≤◌, ◌==◌, ◌&&◌, nat_le, Bool, true, false, List, [], ◌∷◌, length, Option, None, Result, Ok, Err, ◌∙◌, ap, subst, arith}
use Rattle.std.proofs.lemmas.Bool.Decides.{nat_tests}
use Rattle.gb_ops.specs.declared.machine.Region.{Region}
use Rattle.gb_domain.specs.declared.places.StackBytes.{StackBytes}
use Rattle.gb_domain.specs.declared.summary.Shadows.{Shadows}
use Rattle.gb_domain.specs.Summaries.{no_bank_shadows}
use Rattle.gb_fields.specs.declared.fault.CertFault.{CertFault}
use Rattle.gb_fields.specs.declared.fault.CertFault.TheVariants as fault
use Rattle.gb_fields.specs.Limits.{fill_limit}
use Rattle.gb_fields.specs.Format.{Read, go_on, followed, if_passes, several, counted, byte}
use Rattle.gb_fields.specs.Reading.{is_between, count_within, word_count_within, offset_at}
use Rattle.gb_states.specs.declared.form.Form.{Form}
use Rattle.gb_states.specs.declared.form.Form.TheVariants.{Older, Fourth}
use Rattle.gb_states.specs.declared.whole.Declared.{Declared}
use Rattle.gb_states.specs.declared.role.Role.{Role}
use Rattle.gb_states.specs.Forms.{val_by, cell_by}
use Rattle.gb_states.specs.RelationReading.{address_at, bounds_at}
use Rattle.gb_states.specs.WholeRules.{is_said}
use Rattle.gb_states.specs.WholeReading.{val_at, kept_at, stretch_at, said_at, interval_at, fact_at, end_by, end_of, end_at, fill_at, fill_count_at, fills_at, levels_at, no_levels, places_at, shadows_at, others_at, bank_shadows_at, declared_at, summary_at, free_address_at, ctl_at, vals_at, core_at, cell_at, told_at, number_by, key_by, may_be_item, place_of}
use Rattle.gb_states.proofs.Formats.{went_on, same_pair}
use Rattle.gb_cert_place.specs.Forms.{core_by}
use Rattle.gb_cert_place.specs.Layout.{procedure_width, procedure_width_by}
use Rattle.gb_cert_place.proofs.Locality.{failed, same_fault, passed}
use Rattle.gb_cert_place.proofs.Widths.{IsWithin, IsWithin-more, cut_then, IsWithin-byte, IsWithin-followed, IsWithin-both, IsWithin-mapped, IsWithin-checked, IsWithin-word, IsWithin-byte_between, IsWithin-word_between, IsWithin-count_within, IsWithin-yes_no, IsWithin-val, IsWithin-may, IsWithin-ime, IsWithin-test, IsWithin-flg, IsWithin-nothing, IsWithin-defaulted, IsWithin-optional, IsWithin-present, IsWithin-parts, IsWithin-core, IsWithin-cell}

-- ---- so many, at most

-- where what is read first keeps a rule
IsWithin-followed_where : {X Y : Type 0} (P : X → Type 0) (r : Read X) (t : X → Read Y) (n m : ℕ) → IsWithin r n → ((bytes : List ℕ) (x : X) (rest : List ℕ) → r bytes ≡ Ok (x, rest) → P x) → ((x : X) → P x → IsWithin (t x) m) → IsWithin (followed r t) (n + m)
IsWithin-followed_where {X} {Y} P r t n m a known b = record {
  takes = λ bytes p rest e.
      let c = went_on (r bytes) (λ x rest. go_on (t x rest) (λ y end. Ok ((x, y), end))) (p, rest) e in
      let d = went_on (t c.0 c.1) (λ y end. Ok ((c.0, y), end)) (p, rest) c.3 in
      let l : length bytes ≤ n + length c.1 = a.takes bytes c.0 c.1 c.2 in
      let k : length c.1 ≤ m + length d.1 = (b c.0 (known bytes c.0 c.1 c.2)).takes c.1 d.0 d.1 d.2 in
      let s : length d.1 ≡ length rest = ap length (same_pair (c.0, d.0) p d.1 rest d.3).1 in
      omega arith;
  decides = λ bytes le h. cut_then r t n m a bytes (λ x rest g few k. (b x (known bytes x rest g)).decides rest few k) le h;
}

-- so many times so many bytes
abbrev all_of : ℕ → ℕ → ℕ
all_of zero w = 0
all_of (suc n) w = w + all_of n w

all_of-most : (n m w : ℕ) → n ≤ m → all_of n w ≤ all_of m w
all_of-most zero m w le = omega arith
all_of-most (suc n) zero w le = absurd (omega arith)
all_of-most (suc n) (suc m) w le = let l : all_of n w ≤ all_of m w = all_of-most n m w (omega arith) in omega arith

-- fields one after the other are as one behind the other
one_more_cut : {S X : Type 0} (step : S → Read X) (next : X → S) (n : ℕ) (s : S) (bytes : List ℕ) → several step next s (suc n) bytes ≡ Err fault.CutShort → followed (step s) (λ x. several step next (next x) n) bytes ≡ Err fault.CutShort
unfolding several
one_more_cut {S} {X} step next n s bytes h = first (step s bytes) h
  where
    second : (x : X) (read : Result (List X × List ℕ) CertFault) → go_on {Y = List X × List ℕ} read (λ xs end. Ok (x ∷ xs, end)) ≡ Err fault.CutShort → go_on {Y = (X × List X) × List ℕ} read (λ y end. Ok ((x, y), end)) ≡ Err fault.CutShort
    second x (Ok p) g = cc
    second x (Err e) g = ap (λ f. failed {A = (X × List X) × List ℕ} f) (same_fault {A = List X × List ℕ} e fault.CutShort g)

    first : (read : Result (X × List ℕ) CertFault) → go_on {Y = List X × List ℕ} read (λ x rest. go_on (several step next (next x) n rest) (λ xs end. Ok (x ∷ xs, end))) ≡ Err fault.CutShort
        → go_on {Y = (X × List X) × List ℕ} read (λ x rest. go_on (several step next (next x) n rest) (λ y end. Ok ((x, y), end))) ≡ Err fault.CutShort
    first (Ok p) g = second p.0 (several step next (next p.0) n p.1) g
    first (Err e) g = ap (λ f. failed {A = (X × List X) × List ℕ} f) (same_fault {A = List X × List ℕ} e fault.CutShort g)

IsWithin-several : {S X : Type 0} (step : S → Read X) (next : X → S) (w : ℕ) → ((s : S) → IsWithin (step s) w) → (n : ℕ) (s : S) → IsWithin (several step next s n) (all_of n w)
unfolding several
IsWithin-several {S} {X} step next w a zero s = IsWithin-nothing [] 0
IsWithin-several {S} {X} step next w a (suc n) s = record {
  takes = λ bytes xs rest e.
      let c = went_on (step s bytes) (λ x rest. go_on (several step next (next x) n rest) (λ xs end. Ok (x ∷ xs, end))) (xs, rest) e in
      let d = went_on (several step next (next c.0) n c.1) (λ ys end. Ok (c.0 ∷ ys, end)) (xs, rest) c.3 in
      let l : length bytes ≤ w + length c.1 = (a s).takes bytes c.0 c.1 c.2 in
      let k : length c.1 ≤ all_of n w + length d.1 = (IsWithin-several step next w a n (next c.0)).takes c.1 d.0 d.1 d.2 in
      let q : length d.1 ≡ length rest = ap length (same_pair (c.0 ∷ d.0) xs d.1 rest d.3).1 in
      omega arith;
  decides = λ bytes le h. (IsWithin-followed (step s) (λ x. several step next (next x) n) w (all_of n w) (a s) (λ x. IsWithin-several step next w a n (next x))).decides bytes le (one_more_cut step next n s bytes h);
}

-- a count within its limit, and so many
IsWithin-counted : {S X : Type 0} (count : Read ℕ) (step : S → Read X) (next : X → S) (s : S) (n limit w : ℕ) → IsWithin count n → ((bytes : List ℕ) (x : ℕ) (rest : List ℕ) → count bytes ≡ Ok (x, rest) → x ≤ limit) → ((s : S) → IsWithin (step s) w) → IsWithin (counted count step next s) (n + all_of limit w)
IsWithin-counted {S} {X} count step next s n limit w a few b =
    IsWithin-mapped _ _ (n + all_of limit w) (IsWithin-followed_where (λ k. k ≤ limit) count (several step next s) n (all_of limit w) a few
    (λ k le. IsWithin-more (several step next s k) (all_of k w) (all_of limit w) (all_of-most k limit w le) (IsWithin-several step next w b k s)))

-- ---- values

IsWithin-fourth_val : (kept : ℕ) → IsWithin (val_at kept) 3
unfolding val_at
IsWithin-fourth_val kept = IsWithin-checked _ _ _ 3 (λ h. cc) (IsWithin-mapped _ _ 3 (IsWithin-both _ _ 2 1 (IsWithin-checked _ _ _ 2 (λ h. cc) (IsWithin-both _ _ 1 1 IsWithin-byte IsWithin-byte)) (IsWithin-checked _ _ _ 1 (λ h. cc) IsWithin-byte)))

IsWithin-kept : IsWithin kept_at 1
unfolding kept_at
IsWithin-kept = IsWithin-mapped _ _ 1 (IsWithin-byte_between 0 31)

-- ---- facts and fills

IsWithin-stretch : (region : Region) → IsWithin (stretch_at region) 4
unfolding stretch_at
IsWithin-stretch region = IsWithin-checked _ _ _ 4 (λ h. cc) (IsWithin-both _ _ 2 2 IsWithin-word IsWithin-word)

IsWithin-said : IsWithin said_at 2
unfolding said_at
IsWithin-said = IsWithin-checked _ _ _ 2 (λ h. cc) (IsWithin-both _ _ 1 1 IsWithin-byte IsWithin-byte)

IsWithin-interval : IsWithin interval_at 3
unfolding interval_at
IsWithin-interval = IsWithin-checked _ _ _ 3 (λ h. cc) (IsWithin-mapped _ _ 3 (IsWithin-both _ _ 2 1 IsWithin-said IsWithin-byte))

pub IsWithin-fact : (region : Region) → IsWithin (fact_at region) 8
unfolding fact_at
IsWithin-fact region = IsWithin-mapped _ _ 8 (IsWithin-both _ _ 5 3 (IsWithin-checked _ _ _ 5 (λ h. cc) (IsWithin-both _ _ 4 1 (IsWithin-stretch region) IsWithin-byte)) IsWithin-interval)

IsWithin-end_of : (n : ℕ) → IsWithin (end_of n) 2
unfolding offset_at
IsWithin-end_of n = by (n == 0)
  where
    by : (b : Bool) → IsWithin (end_by b n) 2
    by true = IsWithin-nothing None 2
    by false = IsWithin-mapped _ _ 2 (IsWithin-mapped _ _ 2 IsWithin-word)

IsWithin-end : IsWithin end_at 3
unfolding end_at
IsWithin-end = IsWithin-mapped _ _ 3 (IsWithin-followed _ _ 1 2 (IsWithin-byte_between 0 8) IsWithin-end_of)

IsWithin-fill : (region : Region) → IsWithin (fill_at region) 9
unfolding fill_at
IsWithin-fill region = IsWithin-mapped _ _ 9 (IsWithin-both _ _ 4 5 (IsWithin-stretch region) (IsWithin-both _ _ 3 2 IsWithin-end IsWithin-said))

IsWithin-fill_count : (level : ℕ) → IsWithin (fill_count_at level) 1
unfolding fill_count_at
IsWithin-fill_count level = IsWithin-checked _ _ _ 1 (λ h. cc) (IsWithin-count_within fill_limit)

fills_few : (level : ℕ) (bytes : List ℕ) (n : ℕ) (rest : List ℕ) → fill_count_at level bytes ≡ Ok (n, rest) → n ≤ 8
unfolding fill_count_at
fills_few level bytes n rest e =
    let c = went_on (count_within fill_limit bytes) (λ x rest. if_passes fault.Field (is_said level x) x rest) (n, rest) e in
    let s = passed fault.Field (is_said level c.0) c.0 n c.1 rest c.3 in
    let d = went_on (byte bytes) (λ x rest. if_passes fault.Count (is_between 0 fill_limit x) x rest) (c.0, c.1) c.2 in
    let t = passed fault.Count (is_between 0 fill_limit d.0) d.0 c.0 d.1 c.1 d.3 in
    let few : d.0 ≤ 8 = most d.0 t.0 in
    subst (λ k. k ≤ 8) (t.1 ∙ s.1) few
  where
    most : (k : ℕ) → (nat_le 0 k && nat_le k 8) ≡ true → k ≤ 8
    most k h = grind (arith, nat_tests)

IsWithin-fills : (region : Region) (level : ℕ) → IsWithin (fills_at region level) 73
unfolding fills_at
IsWithin-fills region level = IsWithin-counted {S = Unit {0}} (fill_count_at level) (λ s. fill_at region) (λ f. tt) tt 1 8 9 (IsWithin-fill_count level) (fills_few level) (λ s. IsWithin-fill region)

IsWithin-levels : (facts : ℕ) (region : Region) → IsWithin (levels_at facts region) 75
unfolding levels_at
IsWithin-levels facts region = IsWithin-followed _ _ 2 73 (IsWithin-word_between 0 facts) (IsWithin-fills region)

-- ---- shadows

IsWithin-address : (region : Region) → IsWithin (address_at region) 2
unfolding address_at
IsWithin-address region = IsWithin-checked _ _ _ 2 (λ h. cc) IsWithin-word

IsWithin-places : (region : Region) (number : Read ℕ) → IsWithin number 1 → IsWithin (places_at region number) 3
IsWithin-places region number a = IsWithin-mapped _ _ 3 (IsWithin-followed _ _ 1 2 a (λ n. IsWithin-optional _ _ 2 (IsWithin-address region)))

IsWithin-shadows : (region : Region) → IsWithin (shadows_at region) 3
unfolding shadows_at
IsWithin-shadows region = IsWithin-places region byte IsWithin-byte

IsWithin-others : (region : Region) (first : Shadows) → IsWithin (others_at region first) 3
unfolding others_at
IsWithin-others region first = IsWithin-places region _ (IsWithin-checked _ _ _ 1 (λ h. cc) IsWithin-byte)

IsWithin-bank_shadows : (region : Region) → IsWithin (bank_shadows_at region) 6
unfolding bank_shadows_at
IsWithin-bank_shadows region = IsWithin-mapped _ _ 6 (IsWithin-followed _ _ 3 3 (IsWithin-shadows region) (IsWithin-others region))

-- ---- what a state says

IsWithin-declared : (aside item : Bool) → IsWithin (declared_at aside item) 1
unfolding declared_at
IsWithin-declared aside item = IsWithin-checked _ _ _ 1 (λ h. cc) (IsWithin-mapped _ _ 1 (IsWithin-byte_between 0 15))

IsWithin-summary : (facts : ℕ) (region : Region) (d : Declared) → IsWithin (summary_at facts region d) 85
unfolding summary_at bounds_at
IsWithin-summary facts region d =
    IsWithin-mapped _ _ 85 (IsWithin-both _ _ 6 79 (IsWithin-defaulted no_bank_shadows d.shadows _ 6 (IsWithin-bank_shadows region))
    (IsWithin-both _ _ 75 4 (IsWithin-defaulted no_levels d.levels _ 75 (IsWithin-levels facts region))
    (IsWithin-optional d.aside _ 4 (IsWithin-mapped _ _ 4 (IsWithin-checked _ _ _ 4 (λ h. cc) (IsWithin-both _ _ 2 2 IsWithin-word IsWithin-word))))))

pub IsWithin-told : (facts : ℕ) (k : StackBytes) (may_be_aside : Bool) (test : Option ℕ) → IsWithin (told_at facts k may_be_aside test) 131
unfolding told_at
IsWithin-told facts k may_be_aside test =
    IsWithin-mapped _ _ 131 (IsWithin-followed _ _ 2 129 (IsWithin-followed _ _ 1 1 (IsWithin-present test) (λ p. IsWithin-declared may_be_aside (may_be_item k p)))
    (λ d. IsWithin-both _ _ 44 85 (IsWithin-parts true k test (place_of d) d.0) (IsWithin-summary facts k.region d.1)))

-- ---- blocks

pub IsWithin-word_count_within : (limit : ℕ) → IsWithin (word_count_within limit) 2
IsWithin-word_count_within limit = IsWithin-checked _ _ _ 2 (λ h. cc) IsWithin-word

pub IsWithin-free_address : (region : Region) (least : ℕ) → IsWithin (free_address_at region least) 2
unfolding free_address_at
IsWithin-free_address region least = IsWithin-checked _ _ _ 2 (λ h. cc) (IsWithin-address region)

IsWithin-fourth_ctl : IsWithin ctl_at 9
unfolding ctl_at
IsWithin-fourth_ctl =
    IsWithin-mapped _ _ 9 (IsWithin-both _ _ 4 5 (IsWithin-checked _ _ _ 4 (λ h. cc) (IsWithin-both _ _ 2 2 (IsWithin-word_between 0 511) (IsWithin-word_between 0 511)))
    (IsWithin-both _ _ 2 3 (IsWithin-checked _ _ _ 2 (λ h. cc) (IsWithin-both _ _ 1 1 IsWithin-byte IsWithin-byte))
    (IsWithin-both _ _ 1 2 IsWithin-may (IsWithin-both _ _ 1 1 IsWithin-may IsWithin-kept))))

IsWithin-fourth_vals : (kept : ℕ) → IsWithin (vals_at kept) 21
unfolding vals_at
IsWithin-fourth_vals kept =
    let v = IsWithin-fourth_val kept in
    IsWithin-mapped _ _ 21 (IsWithin-both _ _ 3 18 v (IsWithin-both _ _ 3 15 v (IsWithin-both _ _ 3 12 v (IsWithin-both _ _ 3 9 v (IsWithin-both _ _ 3 6 v (IsWithin-both _ _ 3 3 v v))))))

IsWithin-fourth_core : (kept : ℕ) (role : Role) → IsWithin (core_at kept role) 40
unfolding core_at
IsWithin-fourth_core kept role =
    IsWithin-mapped _ _ 40 (IsWithin-both _ _ 1 39 IsWithin-ime (IsWithin-both _ _ 1 38 (IsWithin-byte_between 0 161)
    (IsWithin-both _ _ 1 37 (IsWithin-checked _ _ _ 1 (λ h. cc) IsWithin-yes_no)
    (IsWithin-both _ _ 2 35 IsWithin-test (IsWithin-both _ _ 9 26 IsWithin-fourth_ctl (IsWithin-both _ _ 2 24 IsWithin-flg (IsWithin-both _ _ 3 21 (IsWithin-fourth_val kept) (IsWithin-fourth_vals kept))))))))

IsWithin-fourth_cell : (kept : ℕ) (region : Region) (least : ℕ) → IsWithin (cell_at kept region least) 5
unfolding cell_at
IsWithin-fourth_cell kept region least = IsWithin-mapped _ _ 5 (IsWithin-both _ _ 2 3 (IsWithin-free_address region least) (IsWithin-fourth_val kept))

pub IsWithin-core_by : (form : Form) (role : Role) → IsWithin (core_by form role) 40
IsWithin-core_by (Older rules) role = IsWithin-core rules role
IsWithin-core_by (Fourth facts form) role = IsWithin-fourth_core form.kept role

pub IsWithin-val_by : (form : Form) → IsWithin (val_by form) 3
IsWithin-val_by (Older rules) = IsWithin-val rules
IsWithin-val_by (Fourth facts form) = IsWithin-fourth_val form.kept

pub IsWithin-cell_by : (form : Form) (region : Region) (least : ℕ) → IsWithin (cell_by form region least) 5
IsWithin-cell_by (Older rules) region least = IsWithin-cell rules region least
IsWithin-cell_by (Fourth facts form) region least = IsWithin-fourth_cell form.kept region least

pub IsWithin-key_by : (version procedures : ℕ) (before : ℕ × ℕ) → IsWithin (key_by (version == 4) procedures before) (procedure_width version + 2)
IsWithin-key_by version procedures before = by (version == 4)
  where
    number : (b : Bool) → IsWithin (number_by b) (procedure_width_by b)
    number true = IsWithin-word
    number false = IsWithin-byte

    by : (b : Bool) → IsWithin (key_by b procedures before) (procedure_width_by b + 2)
    by b = IsWithin-checked _ _ _ (procedure_width_by b + 2) (λ h. cc) (IsWithin-both _ _ (procedure_width_by b) 2 (IsWithin-checked _ _ _ (procedure_width_by b) (λ h. cc) (IsWithin-checked _ _ _ (procedure_width_by b) (λ h. cc) (number b))) IsWithin-word)
