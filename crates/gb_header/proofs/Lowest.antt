-- The fault that is named is the lowest that a file has.
use Rattle.std.proofs.Common.{◌≡◌, ℕ, ◌<◌, Bool, true, false, cond, List, [], ◌∷◌, Option, Some, ◌⊎◌, inl, inr, refl, sym, ◌∙◌, subst, arith, rules}
use Rattle.std.specs.List.{find}
use Rattle.gb_header.specs.declared.fault.HeaderFault.{HeaderFault}
use Rattle.gb_header.specs.declared.fault.HeaderFault.TheVariants as fault
use Rattle.gb_header.specs.Header.{IsLowestFault, fault_number, fault_of, faults, has_fault}

abbrev IsIn : HeaderFault → List HeaderFault → Type 0
IsIn f [] = ⊥
IsIn f (x ∷ xs) = (f ≡ x) ⊎ IsIn f xs

abbrev AllAbove : ℕ → List HeaderFault → Type 0
AllAbove n [] = Unit {0}
AllAbove n (x ∷ xs) = (n < fault_number x) × AllAbove n xs

-- each number is above the ones before it
abbrev IsInOrder : List HeaderFault → Type 0
IsInOrder [] = Unit {0}
IsInOrder (x ∷ xs) = AllAbove (fault_number x) xs × IsInOrder xs

above_in : (n : ℕ) (f : HeaderFault) (xs : List HeaderFault) → AllAbove n xs → IsIn f xs → n < fault_number f
above_in n f [] above h = elim h [ ]
above_in n f (x ∷ xs) above (inl e) = subst (λ y. n < fault_number y) (sym e) above.0
above_in n f (x ∷ xs) above (inr rest) = above_in n f xs above.1 rest

-- what a search finds at the head of a list, or behind it
found : {A : Type 0} (b : Bool) (x f : A) (rest : Option A) → cond b (Some x) rest ≡ Some f → ((b ≡ true) × (x ≡ f)) ⊎ ((b ≡ false) × (rest ≡ Some f))
found true x f rest h = inl (refl, cc)
found false x f rest h = inr (refl, h)

found_present : (test : HeaderFault → Bool) (xs : List HeaderFault) (f : HeaderFault) → find test xs ≡ Some f → test f ≡ true
found_present test [] f h = absurd cc
found_present test (x ∷ xs) f h = elim (found (test x) x f (find test xs) h) [
  | inl here ↦ subst (λ y. test y ≡ true) here.1 here.0
  | inr behind ↦ found_present test xs f behind.1
]

found_lowest : (test : HeaderFault → Bool) (xs : List HeaderFault) (f lower : HeaderFault) → IsInOrder xs → find test xs ≡ Some f → IsIn lower xs
    → fault_number lower < fault_number f → test lower ≡ false
found_lowest test [] f lower order h in_list lt = elim in_list [ ]
found_lowest test (x ∷ xs) f lower order h (inl e) lt = elim (found (test x) x f (find test xs) h) [
  | inl here ↦ let bad : fault_number lower < fault_number lower = subst (λ y. fault_number lower < fault_number y) (sym (e ∙ here.1)) lt in absurd (omega arith)
  | inr behind ↦ subst (λ y. test y ≡ false) (sym e) behind.0
]
found_lowest test (x ∷ xs) f lower order h (inr rest) lt = elim (found (test x) x f (find test xs) h) [
  | inl here ↦ let after : fault_number x < fault_number lower = above_in (fault_number x) lower xs order.0 rest in
      let before : fault_number lower < fault_number x = subst (λ y. fault_number lower < fault_number y) (sym here.1) lt in
      absurd (omega arith)
  | inr behind ↦ found_lowest test xs f lower order.1 behind.1 rest lt
]

each_in : (f : HeaderFault) → IsIn f faults
each_in fault.TooShort = search rules
each_in fault.Type = search rules
each_in fault.RomSize = search rules
each_in fault.Length = search rules
each_in fault.RamSize = search rules
each_in fault.TooLarge = search rules
each_in fault.Checksum = search rules

in_order : IsInOrder faults
in_order = search rules

pub lowest_fault : (bytes : List ℕ) (f : HeaderFault) → fault_of bytes ≡ Some f → IsLowestFault bytes f
unfolding fault_of
lowest_fault bytes f h = record {
  present = found_present (has_fault bytes) faults f h;
  lowest = λ lower lt. found_lowest (has_fault bytes) faults f lower in_order h (each_in lower) lt;
}
