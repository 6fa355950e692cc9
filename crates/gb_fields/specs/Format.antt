-- Reading from left to right, with the first fault that is met. Formats are made of smaller ones.
use Rattle.std.specs.Prelude.{◌≡◌, ℕ, zero, suc, Bool, true, false, List, [], ◌∷◌, Option, Some, None, Result, Ok, Err}
use Rattle.gb_fields.specs.declared.fault.CertFault.{CertFault}
use Rattle.gb_fields.specs.declared.fault.CertFault.TheVariants as fault

-- a value and the bytes behind it, or what is wrong
abbrev pub Read : Type 0 → Type 0
Read X = List ℕ → Result (X × List ℕ) CertFault

-- What a function returned, seen by view, is what reading gives.
abbrev pub Gives : {X Y : Type 0} → (X → Y) → Result X CertFault → Result Y CertFault → Type 0
Gives view (Ok x) read = read ≡ Ok (view x)
Gives view (Err e) read = read ≡ Err e

-- The same, unless memory ran out.
abbrev pub GivesUnlessMemory : {X Y : Type 0} → (X → Y) → Result X CertFault → Result Y CertFault → Type 0
GivesUnlessMemory view (Ok x) read = read ≡ Ok (view x)
GivesUnlessMemory view (Err e) read = (e ≡ fault.Memory → ⊥) → read ≡ Err e

-- what follows a field
abbrev pub go_on : {X Y : Type 0} → Result (X × List ℕ) CertFault → (X → List ℕ → Result Y CertFault) → Result Y CertFault
go_on (Ok x) f = f x.0 x.1
go_on (Err e) f = Err e

-- a field, and one behind it whose form it decides
abbrev pub followed : {X Y : Type 0} → Read X → (X → Read Y) → Read (X × Y)
followed r t bytes = go_on (r bytes) (λ x rest. go_on (t x rest) (λ y end. Ok ((x, y), end)))

-- a field and another
abbrev pub both : {X Y : Type 0} → Read X → Read Y → Read (X × Y)
both r t = followed r (λ x. t)

-- what a field stands for
abbrev pub mapped : {X Y : Type 0} → (X → Y) → Read X → Read Y
mapped f r bytes = go_on (r bytes) (λ x rest. Ok (f x, rest))

abbrev pub if_passes : {X : Type 0} → CertFault → Bool → X → List ℕ → Result (X × List ℕ) CertFault
if_passes e true x rest = Ok (x, rest)
if_passes e false x rest = Err e

-- a field that must pass a test, and what is wrong where it doesn't
abbrev pub checked : {X : Type 0} → CertFault → (X → Bool) → Read X → Read X
checked e p r bytes = go_on (r bytes) (λ x rest. if_passes e (p x) x rest)

abbrev pub if_faultless : {X : Type 0} → Option CertFault → X → List ℕ → Result (X × List ℕ) CertFault
if_faultless None x rest = Ok (x, rest)
if_faultless (Some e) x rest = Err e

-- a field in which nothing may be wrong, by a test that says what is
abbrev pub faultless : {X : Type 0} → (X → Option CertFault) → Read X → Read X
faultless fault_of r bytes = go_on (r bytes) (λ x rest. if_faultless (fault_of x) x rest)

-- a field that is there or not
abbrev pub optional : {X : Type 0} → Bool → Read X → Read (Option X)
optional true r = mapped Some r
optional false r = λ bytes. Ok (None, bytes)

-- so many fields, each read by what the one before it leaves
unfoldable pub several : {S X : Type 0} → (S → Read X) → (X → S) → S → ℕ → Read (List X)
several step next s zero bytes = Ok ([], bytes)
several step next s (suc n) bytes = go_on (step s bytes) (λ x rest. go_on (several step next (next x) n rest) (λ xs end. Ok (x ∷ xs, end)))

-- a count, and so many fields
abbrev pub counted : {S X : Type 0} → Read ℕ → (S → Read X) → (X → S) → S → Read (List X)
counted count step next s = mapped (λ p. p.1) (followed count (several step next s))

abbrev pub ended : {X : Type 0} → X → List ℕ → Result X CertFault
ended x [] = Ok x
ended x (b ∷ rest) = Err fault.LeftOver

-- a field that is all of the bytes
abbrev pub whole : {X : Type 0} → Read X → List ℕ → Result X CertFault
whole r bytes = go_on (r bytes) ended

abbrev pub byte : Read ℕ
byte [] = Err fault.CutShort
byte (b ∷ rest) = Ok (b, rest)
