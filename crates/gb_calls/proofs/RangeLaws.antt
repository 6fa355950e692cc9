-- What a callee with inner ranges leaves as it is, where its caller has the outer ones.
use Rattle.std.proofs.Common.{◌≡◌, ℕ, ◌≤◌, Bool, true, false, ◌||◌, List, [], ◌∷◌, refl, arith}
use Rattle.std.proofs.lemmas.Bool.{and_parts, or_parts, or_from}
use Rattle.std.proofs.lemmas.Bool.Decides.{nat_tests}
use Rattle.std.specs.List.{list_any, list_all}
use Rattle.gb_ops.specs.declared.machine.Region.{Region}
use Rattle.gb_domain.specs.LowBits.{no_low_bits}
use Rattle.gb_domain.specs.declared.setting.Setting.{Setting}
use Rattle.gb_domain.specs.declared.types.Range.{Range}
use Rattle.gb_product.specs.Below.gb_abs.Span.{one}
use Rattle.gb_abs_memory.specs.Access.{is_range}
use Rattle.gb_abs_memory.specs.Kept.{keeps, IsKept}
use Rattle.gb_calls.specs.Calls.{is_in_one, are_ranges_inside}

-- a byte outside a range is outside each that lies in it
outside-range :
    (o r : Range) (b : ℕ) → is_range (record { first = r.first; last = r.last; low = no_low_bits }) o ≡ true → is_range (one b) o ≡ false → is_range (one b) r ≡ false
outside-range o r b inside apart = grind (arith, nat_tests)

outside-one :
    (outer : List Range) (r : Range) (b : ℕ) → is_in_one outer r ≡ true → list_any (is_range (one b)) outer ≡ false → is_range (one b) r ≡ false
outside-one [] r b inside apart = cc
outside-one (o ∷ outer) r b inside apart =
    let p = or_parts (is_range (one b) o) (list_any (is_range (one b)) outer) apart in
    choose (is_range (record { first = r.first; last = r.last; low = no_low_bits }) o) refl inside p.0 (λ h. outside-one outer r b h p.1)
  where
    choose :
        (t : Bool) → is_range (record { first = r.first; last = r.last; low = no_low_bits }) o ≡ t → (t || is_in_one outer r) ≡ true
        → is_range (one b) o ≡ false → (is_in_one outer r ≡ true → is_range (one b) r ≡ false) → is_range (one b) r ≡ false
    choose true e h here rest = outside-range o r b e here
    choose false e h here rest = rest h

outside-all :
    (inner outer : List Range) (b : ℕ) → list_all (is_in_one outer) inner ≡ true → list_any (is_range (one b)) outer ≡ false
    → list_any (is_range (one b)) inner ≡ false
outside-all [] outer b inside apart = refl
outside-all (r ∷ inner) outer b inside apart =
    let p = and_parts (is_in_one outer r) (list_all (is_in_one outer) inner) inside in
    or_from (is_range (one b) r) (list_any (is_range (one b)) inner) (outside-one outer r b p.0 apart) (outside-all inner outer b p.1 apart)

-- what a procedure keeps, each keeps that writes no more, and was entered further down the stack
pub IsKept-inside :
    (z z' : Setting) (region : Region) (inner outer : List Range) (base base' b : ℕ)
    → keeps z' ≡ true → are_ranges_inside inner outer ≡ true → base' ≤ base → IsKept z region outer base b → IsKept z' region inner base' b
unfolding are_ranges_inside
IsKept-inside z z' region inner outer base base' b does inside below k =
    record {
      procedure = does;
      ram = k.ram;
      outside = outside-all inner outer b inside k.outside;
      above = λ m. let q : base ≤ b = k.above m in omega arith;
    }
