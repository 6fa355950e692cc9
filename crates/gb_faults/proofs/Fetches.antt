-- The fetches of an instruction, one by one.
use Rattle.std.proofs.Common.{◌≡◌, ℕ, Bool, true, false, ◌∷◌, ◌++◌, refl, if◌then◌else◌}
use Rattle.gb_ops.specs.Memory.{View}
use Rattle.gb_ops.specs.Faults.{no_faults, either_faults, fetch_faults, all_fetch_faults, address_where}

pub all_are :
    (m : View) (pc second third : ℕ) (b c : Bool) → all_fetch_faults m (pc ∷ (address_where b second ++ address_where c third))
    ≡ either_faults (fetch_faults m pc)
    (if b then either_faults (fetch_faults m second) (if c then either_faults (fetch_faults m third) no_faults else no_faults)
    else (if c then either_faults (fetch_faults m third) no_faults else no_faults))
all_are m pc second third true true = refl
all_are m pc second third true false = refl
all_are m pc second third false true = refl
all_are m pc second third false false = refl
