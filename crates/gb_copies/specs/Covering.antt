-- Covering: one byte's places and test are among another's (abstract interpretation: inclusion; own).
use Rattle.std.specs.Prelude.{ℕ, Bool, true, false, not, ◌&&◌, ◌||◌, ◌==◌, Option, Some, None}
use Rattle.gb_ops.specs.declared.registers.Registers.{Registers}
use Rattle.gb_domain.specs.declared.places.Test.{Test}
use Rattle.gb_domain.specs.declared.places.Test.TheVariants as test
use Rattle.gb_domain.specs.declared.places.OneByte.{OneByte}

abbrev pub implied : Bool → Bool → Bool
implied a b = not a || b

abbrev pub covers_registers : Registers Bool → Registers Bool → Bool
covers_registers s t =
    implied t.a s.a && implied t.b s.b && implied t.c s.c && implied t.d s.d && implied t.e s.e && implied t.h s.h && implied t.l s.l

abbrev pub covers_address : Option ℕ → Option ℕ → Bool
covers_address s None = true
covers_address None (Some a) = false
covers_address (Some b) (Some a) = b == a

abbrev pub is_same_test : Test → Test → Bool
is_same_test (test.Compare n) (test.Compare m) = n == m
is_same_test (test.Bits n) (test.Bits m) = n == m
is_same_test _ _ = false

abbrev pub covers_test : Option Test → Option Test → Bool
covers_test s None = true
covers_test None (Some t) = false
covers_test (Some s) (Some t) = is_same_test s t

-- t's places are among s's, and t's test is none or the same
unfoldable pub covers_byte : OneByte → OneByte → Bool
covers_byte s t = covers_registers s.registers t.registers && covers_address s.address t.address && covers_test s.test t.test
