-- SP stands where the items end where the stack is set, and isn't put aside.
use Rattle.std.proofs.Common.{◌≡◌, Bool, true, false, Option, Some, None, refl}
use Rattle.gb_domain.specs.declared.pairs.Bounds.{Bounds}
use Rattle.gb_abs.specs.Meaning.{located_by}

pub located-set : (o : Option Bounds) (set : Bool) → located_by o set ≡ true → set ≡ true
located-set None set h = h
located-set (Some b) set h = absurd (let bad : false ≡ true = h in cc)

pub located-none : (o : Option Bounds) (set : Bool) → located_by o set ≡ true → o ≡ None
located-none None set h = refl
located-none (Some b) set h = absurd (let bad : false ≡ true = h in cc)

pub is_located-of : (o : Option Bounds) (set : Bool) → o ≡ None → set ≡ true → located_by o set ≡ true
is_located-of None set h e = e
is_located-of (Some b) set h e = absurd (let bad : Some b ≡ None = h in cc)

-- where as much is set
pub located-more : (o : Option Bounds) (s t : Bool) → (t ≡ true → s ≡ true) → located_by o t ≡ true → located_by o s ≡ true
located-more None s t more h = more h
located-more (Some b) s t more h = h
