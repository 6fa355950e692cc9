-- What is read is spelled so, and what is spelled so is read: by the parts of a format.
use Rattle.std.proofs.Common.{◌≡◌, ℕ, zero, suc, ◌*◌, ◌/◌, ◌%◌, ◌<◌, Bool, true, false, ◌&&◌, List, [], ◌∷◌, ◌++◌, length, get_or, Option, Some, None, Result, Ok, Err, refl, sym, ◌∙◌, ap, subst, append_assoc, arith}
use Rattle.std.specs.Prelude.{IfSome}
use Rattle.std.specs.List.{flat_map, AllByRecursion, list_all}
use Rattle.std.proofs.lemmas.List.Concat.{flat_map-cons}
use Rattle.std.proofs.Math.Nat.{mod-eq-sub-mul-div, mul-div-le, mul-div_cancel_left}
use Rattle.gb_fields.specs.declared.fault.CertFault.{CertFault}
use Rattle.gb_fields.specs.Format.{Read, go_on, followed, both, mapped, if_passes, checked, if_faultless, faultless, optional, several, counted, byte}
use Rattle.gb_fields.specs.Reading.{nothing}
use Rattle.gb_domain.specs.Rules.{IsChain}

abbrev pub IsBytes : List ℕ → Type 0
IsBytes bytes = (i : ℕ) → get_or bytes i 0 < 256

-- what a reader takes from bytes is spelled, fits, and leaves bytes
pub record Takes {X : Type 0} (write : X → List ℕ) (good : X → Type 0) (bytes : List ℕ) (x : X) (rest : List ℕ) : Type 0 where
  pub parts : bytes ≡ write x ++ rest
  pub is_good : good x
  pub are_bytes : IsBytes rest

pub record IsFormat {X : Type 0} (read : Read X) (write : X → List ℕ) (good : X → Type 0) : Type 0 where
  pub takes : (bytes : List ℕ) (x : X) (rest : List ℕ) → IsBytes bytes → read bytes ≡ Ok (x, rest) → Takes write good bytes x rest
  pub again : (x : X) (rest : List ℕ) → good x → read (write x ++ rest) ≡ Ok (x, rest)

pub went_on : {X Y : Type 0} (r : Result (X × List ℕ) CertFault) (f : X → List ℕ → Result Y CertFault) (y : Y) → go_on r f ≡ Ok y → (x : X) × (rest : List ℕ) × (r ≡ Ok (x, rest)) × (f x rest ≡ Ok y)
went_on (Ok p) f y e = (p.0, p.1, refl, e)
went_on (Err d) f y e = cc

abbrev done : {A : Type 0} → A → Result A CertFault
done x = Ok x

pub ok_is : {A : Type 0} (x y : A) → done x ≡ done y → x ≡ y
ok_is x y e = cc

pub same_pair : {X : Type 0} (x y : X) (a b : List ℕ) → done {A = X × List ℕ} (x, a) ≡ done {A = X × List ℕ} (y, b) → (x ≡ y) × (a ≡ b)
same_pair x y a b e = let p = ok_is (x, a) (y, b) e in (ap (λ q. q.0) p, ap (λ q. q.1) p)

passed : {X : Type 0} (d : CertFault) (b : Bool) (x y : X) (rest end : List ℕ) → if_passes d b x rest ≡ Ok (y, end) → (b ≡ true) × (x ≡ y) × (rest ≡ end)
passed d true x y rest end e = let p = same_pair x y rest end e in (refl, p.0, p.1)
passed d false x y rest end e = cc

-- what was taken is what is asked for
moved : {X : Type 0} (w : X → List ℕ) (g : X → Type 0) (bytes : List ℕ) (x y : X) (a b : List ℕ) → (x ≡ y) → (a ≡ b) → Takes w g bytes x a → Takes w g bytes y b
moved w g bytes x y a b e f t = subst (λ q. Takes w g bytes q b) e (subst (λ q. Takes w g bytes x q) f t)

pub IsFormat-byte : IsFormat byte (λ b. b ∷ []) (λ b. b < 256)
IsFormat-byte = record { takes = takes; again = λ x rest g. refl }
  where
    takes : (bytes : List ℕ) (x : ℕ) (rest : List ℕ) → IsBytes bytes → byte bytes ≡ Ok (x, rest) → Takes (λ b. b ∷ []) (λ b. b < 256) bytes x rest
    takes [] x rest h e = cc
    takes (b ∷ bs) x rest h e =
        let p = same_pair b x bs rest e in
        record { parts = ap (λ y. y ∷ bs) p.0 ∙ ap (λ y. x ∷ y) p.1; is_good = subst (λ y. y < 256) p.0 (h 0); are_bytes = subst IsBytes p.1 (λ i. h (suc i)) }

-- a front, and a front of what is behind it
parted : (bytes a mid b rest : List ℕ) → bytes ≡ a ++ mid → mid ≡ b ++ rest → bytes ≡ (a ++ b) ++ rest
parted bytes a mid b rest e f = e ∙ ap (λ (y : List ℕ). a ++ y) f ∙ sym (append_assoc a b rest)

renamed : (bytes front other rest : List ℕ) → bytes ≡ front ++ rest → other ≡ front → bytes ≡ other ++ rest
renamed bytes front other rest e f = rw f e

pub IsFormat-followed : {X Y : Type 0} (r : Read X) (t : X → Read Y) (v : X → List ℕ) (w : X → Y → List ℕ) (g : X → Type 0) (h : X → Y → Type 0)
    → IsFormat r v g → ((x : X) → g x → IsFormat (t x) (w x) (h x)) → IsFormat (followed r t) (λ p. v p.0 ++ w p.0 p.1) (λ p. g p.0 × h p.0 p.1)
IsFormat-followed {X} {Y} r t v w g h a b = record {
  takes = λ bytes p rest i e.
      let c = went_on (r bytes) (λ x rest. go_on (t x rest) (λ y end. Ok ((x, y), end))) (p, rest) e in
      let d = went_on (t c.0 c.1) (λ y end. Ok ((c.0, y), end)) (p, rest) c.3 in
      let first = a.takes bytes c.0 c.1 i c.2 in
      let second = (b c.0 first.is_good).takes c.1 d.0 d.1 first.are_bytes d.2 in
      let s = same_pair (c.0, d.0) p d.1 rest d.3 in
      let made : Takes (λ (p : X × Y). v p.0 ++ w p.0 p.1) (λ p. g p.0 × h p.0 p.1) bytes (c.0, d.0) d.1 = record {
        parts = parted bytes (v c.0) c.1 (w c.0 d.0) d.1 first.parts second.parts;
        is_good = (first.is_good, second.is_good);
        are_bytes = second.are_bytes;
      } in
      moved _ _ bytes (c.0, d.0) p d.1 rest s.0 s.1 made;
  again = λ p rest good. ap (followed r t) (append_assoc (v p.0) (w p.0 p.1) rest) ∙ rw (a.again p.0 (w p.0 p.1 ++ rest) good.0, (b p.0 good.0).again p.1 rest good.1) refl;
}

pub IsFormat-both : {X Y : Type 0} (r : Read X) (t : Read Y) (v : X → List ℕ) (w : Y → List ℕ) (g : X → Type 0) (h : Y → Type 0)
    → IsFormat r v g → IsFormat t w h → IsFormat (both r t) (λ p. v p.0 ++ w p.1) (λ p. g p.0 × h p.1)
IsFormat-both r t v w g h a b = IsFormat-followed r (λ x. t) v (λ x. w) g (λ x. h) a (λ x good. b)

pub IsFormat-checked : {X : Type 0} (d : CertFault) (p : X → Bool) (r : Read X) (w : X → List ℕ) (g : X → Type 0) → IsFormat r w g → IsFormat (checked d p r) w (λ x. g x × (p x ≡ true))
IsFormat-checked {X} d p r w g a = record {
  takes = λ bytes x rest i e.
      let c = went_on (r bytes) (λ x rest. if_passes d (p x) x rest) (x, rest) e in
      let t = passed d (p c.0) c.0 x c.1 rest c.3 in
      let first = a.takes bytes c.0 c.1 i c.2 in
      let made : Takes w (λ x. g x × (p x ≡ true)) bytes c.0 c.1 = record { parts = first.parts; is_good = (first.is_good, t.0); are_bytes = first.are_bytes } in
      moved w (λ x. g x × (p x ≡ true)) bytes c.0 x c.1 rest t.1 t.2 made;
  again = λ x rest good. rw (a.again x rest good.0, good.1) refl;
}

rightly : {X : Type 0} (o : Option CertFault) (x y : X) (rest end : List ℕ) → if_faultless o x rest ≡ Ok (y, end) → (o ≡ None) × (x ≡ y) × (rest ≡ end)
rightly None x y rest end e = let p = same_pair x y rest end e in (refl, p.0, p.1)
rightly (Some d) x y rest end e = cc

pub IsFormat-faultless : {X : Type 0} (p : X → Option CertFault) (r : Read X) (w : X → List ℕ) (g : X → Type 0) → IsFormat r w g → IsFormat (faultless p r) w (λ x. g x × (p x ≡ None))
IsFormat-faultless {X} p r w g a = record {
  takes = λ bytes x rest i e.
      let c = went_on (r bytes) (λ x rest. if_faultless (p x) x rest) (x, rest) e in
      let t = rightly (p c.0) c.0 x c.1 rest c.3 in
      let first = a.takes bytes c.0 c.1 i c.2 in
      let made : Takes w (λ x. g x × (p x ≡ None)) bytes c.0 c.1 = record { parts = first.parts; is_good = (first.is_good, t.0); are_bytes = first.are_bytes } in
      moved w (λ x. g x × (p x ≡ None)) bytes c.0 x c.1 rest t.1 t.2 made;
  again = λ x rest good. rw (a.again x rest good.0, good.1) refl;
}

-- what it stands for has a rule of its own, and only what is right by it is spelled and read again
pub IsFormat-onto : {X Y : Type 0} (f : X → Y) (back : Y → X) (r : Read X) (w : X → List ℕ) (g : X → Type 0) (h : Y → Type 0) → ((x : X) → g x → (back (f x) ≡ x) × h (f x)) → ((y : Y) → h y → g (back y) × (f (back y) ≡ y))
    → IsFormat r w g → IsFormat (mapped f r) (λ y. w (back y)) h
IsFormat-onto {X} {Y} f back r w g h there again a = record {
  takes = λ bytes y rest i e.
      let c = went_on (r bytes) (λ x rest. Ok (f x, rest)) (y, rest) e in
      let s = same_pair (f c.0) y c.1 rest c.3 in
      let first = a.takes bytes c.0 c.1 i c.2 in
      let k = there c.0 first.is_good in
      let made : Takes (λ y. w (back y)) h bytes (f c.0) c.1 = record { parts = first.parts ∙ ap (λ x. w x ++ c.1) (sym k.0); is_good = k.1; are_bytes = first.are_bytes } in
      moved (λ y. w (back y)) h bytes (f c.0) y c.1 rest s.0 s.1 made;
  again = λ y rest good. rw (a.again (back y) rest (again y good).0, (again y good).1) refl;
}

pub IsFormat-mapped : {X Y : Type 0} (f : X → Y) (back : Y → X) (r : Read X) (w : X → List ℕ) (g : X → Type 0) → ((x : X) → g x → back (f x) ≡ x) → ((y : Y) → g (back y) → f (back y) ≡ y)
    → IsFormat r w g → IsFormat (mapped f r) (λ y. w (back y)) (λ y. g (back y))
IsFormat-mapped f back r w g there again = IsFormat-onto f back r w g (λ y. g (back y)) (λ x good. let k = there x good in (k, subst g (sym k) good)) (λ y good. (good, again y good))

-- the same format, its rule in other words
pub IsFormat-as : {X : Type 0} (r : Read X) (w : X → List ℕ) (g h : X → Type 0) → ((x : X) → g x → h x) → ((x : X) → h x → g x) → IsFormat r w g → IsFormat r w h
IsFormat-as r w g h there back a = record {
  takes = λ bytes x rest i e. let t = a.takes bytes x rest i e in record { parts = t.parts; is_good = there x t.is_good; are_bytes = t.are_bytes };
  again = λ x rest good. a.again x rest (back x good);
}

-- the same format, spelled in other words
pub IsFormat-spelled : {X : Type 0} (r : Read X) (w v : X → List ℕ) (g : X → Type 0) → ((x : X) → g x → w x ≡ v x) → IsFormat r w g → IsFormat r v g
IsFormat-spelled r w v g same a = record {
  takes = λ bytes x rest i e. let t = a.takes bytes x rest i e in record { parts = t.parts ∙ ap (λ y. y ++ rest) (same x t.is_good); is_good = t.is_good; are_bytes = t.are_bytes };
  again = λ x rest good. ap (λ y. r (y ++ rest)) (sym (same x good)) ∙ a.again x rest good;
}

-- ---- what may be there

pub IsFormat-nothing : {X : Type 0} (n : X) (w : X → List ℕ) → w n ≡ [] → IsFormat (nothing n) w (λ x. x ≡ n)
IsFormat-nothing {X} n w none = record { takes = takes; again = again }
  where
    takes : (bytes : List ℕ) (x : X) (rest : List ℕ) → IsBytes bytes → nothing n bytes ≡ Ok (x, rest) → Takes w (λ x. x ≡ n) bytes x rest
    takes bytes x rest i e =
        let s = same_pair n x bytes rest e in
        record { parts = s.1 ∙ sym (ap (λ y. y ++ rest) (ap w (sym s.0) ∙ none)); is_good = sym s.0; are_bytes = subst IsBytes s.1 i }

    again : (x : X) (rest : List ℕ) → x ≡ n → nothing n (w x ++ rest) ≡ Ok (x, rest)
    again x rest e = subst (λ y. nothing n (w y ++ rest) ≡ Ok (y, rest)) (sym e) (ap (λ (y : List ℕ). nothing n (y ++ rest)) none)

-- whether it is there, and how it is spelled
abbrev pub spelled_option : {X : Type 0} → (X → List ℕ) → Option X → List ℕ
spelled_option w None = []
spelled_option w (Some x) = w x

abbrev pub is_there : {X : Type 0} → Option X → Bool
is_there None = false
is_there (Some x) = true

pub IsFormat-optional : {X : Type 0} (there : Bool) (r : Read X) (w : X → List ℕ) (g : X → Type 0) → IsFormat r w g → IsFormat (optional there r) (spelled_option w) (λ o. (is_there o ≡ there) × IfSome o g)
IsFormat-optional {X} true r w g a = record {
  takes = λ bytes o rest i e.
      let c = went_on (r bytes) (λ x rest. Ok (Some x, rest)) (o, rest) e in
      let s = same_pair (Some c.0) o c.1 rest c.3 in
      let first = a.takes bytes c.0 c.1 i c.2 in
      let made : Takes (spelled_option w) (λ o. (is_there o ≡ true) × IfSome o g) bytes (Some c.0) c.1 = record { parts = first.parts; is_good = (refl, first.is_good); are_bytes = first.are_bytes } in
      moved (spelled_option w) (λ o. (is_there o ≡ true) × IfSome o g) bytes (Some c.0) o c.1 rest s.0 s.1 made;
  again = again;
}
  where
    again : (o : Option X) (rest : List ℕ) → (is_there o ≡ true) × IfSome o g → mapped Some r (spelled_option w o ++ rest) ≡ Ok (o, rest)
    again None rest good = absurd cc
    again (Some x) rest good = rw (a.again x rest good.1) refl
IsFormat-optional {X} false r w g a = record {
  takes = λ bytes o rest i e.
      let s = same_pair None o bytes rest e in
      let made : Takes (spelled_option w) (λ o. (is_there o ≡ false) × IfSome o g) bytes None bytes = record { parts = refl; is_good = (refl, tt); are_bytes = i } in
      moved (spelled_option w) (λ o. (is_there o ≡ false) × IfSome o g) bytes None o bytes rest s.0 s.1 made;
  again = again;
}
  where
    again : (o : Option X) (rest : List ℕ) → (is_there o ≡ false) × IfSome o g → optional {X = X} false r (spelled_option w o ++ rest) ≡ Ok (o, rest)
    again None rest good = refl
    again (Some x) rest good = absurd cc

-- ---- lists

-- so many, each right by what the one before leaves
abbrev pub AreSoMany : {S X : Type 0} → (S → X → Type 0) → (X → S) → S → ℕ → List X → Type 0
AreSoMany good next s n xs = (length xs ≡ n) × IsChain good next s xs

pub several_takes : {S X : Type 0} (step : S → Read X) (next : X → S) (w : X → List ℕ) (good : S → X → Type 0) → ((s : S) → IsFormat (step s) w (good s))
    → (n : ℕ) (s : S) (bytes : List ℕ) (xs : List X) (rest : List ℕ) → IsBytes bytes → several step next s n bytes ≡ Ok (xs, rest) → Takes (flat_map w) (AreSoMany good next s n) bytes xs rest
unfolding several
several_takes {S} {X} step next w good f zero s bytes xs rest i e =
    let p = same_pair [] xs bytes rest e in
    let made : Takes (flat_map w) (AreSoMany good next s 0) bytes [] bytes = record { parts = refl; is_good = (refl, tt); are_bytes = i } in
    moved (flat_map w) (AreSoMany good next s 0) bytes [] xs bytes rest p.0 p.1 made
several_takes {S} {X} step next w good f (suc n) s bytes xs rest i e =
    let c = went_on (step s bytes) (λ x rest. go_on (several step next (next x) n rest) (λ xs end. Ok (x ∷ xs, end))) (xs, rest) e in
    let d = went_on (several step next (next c.0) n c.1) (λ ys end. Ok (c.0 ∷ ys, end)) (xs, rest) c.3 in
    let first = (f s).takes bytes c.0 c.1 i c.2 in
    let others = several_takes step next w good f n (next c.0) c.1 d.0 d.1 first.are_bytes d.2 in
    let p = same_pair (c.0 ∷ d.0) xs d.1 rest d.3 in
    let spelled : bytes ≡ flat_map w (c.0 ∷ d.0) ++ d.1 = renamed bytes (w c.0 ++ flat_map w d.0) (flat_map w (c.0 ∷ d.0)) d.1 (parted bytes (w c.0) c.1 (flat_map w d.0) d.1 first.parts others.parts) (flat_map-cons w c.0 d.0) in
    let made : Takes (flat_map w) (AreSoMany good next s (suc n)) bytes (c.0 ∷ d.0) d.1 = record {
      parts = spelled;
      is_good = (ap suc others.is_good.0, (first.is_good, others.is_good.1));
      are_bytes = others.are_bytes;
    } in
    moved (flat_map w) (AreSoMany good next s (suc n)) bytes (c.0 ∷ d.0) xs d.1 rest p.0 p.1 made

pub several_again : {S X : Type 0} (step : S → Read X) (next : X → S) (w : X → List ℕ) (good : S → X → Type 0) → ((s : S) → IsFormat (step s) w (good s))
    → (s : S) (xs : List X) (rest : List ℕ) → IsChain good next s xs → several step next s (length xs) (flat_map w xs ++ rest) ≡ Ok (xs, rest)
unfolding several
several_again step next w good f s [] rest h = refl
several_again step next w good f s (x ∷ xs) rest h =
    let regrouped : flat_map w (x ∷ xs) ++ rest ≡ w x ++ (flat_map w xs ++ rest) = ap (λ y. y ++ rest) (flat_map-cons w x xs) ∙ append_assoc (w x) (flat_map w xs) rest in
    ap (several step next s (suc (length xs))) regrouped ∙ rw ((f s).again x (flat_map w xs ++ rest) h.0, several_again step next w good f (next x) xs rest h.1) refl

pub IsFormat-several : {S X : Type 0} (step : S → Read X) (next : X → S) (w : X → List ℕ) (good : S → X → Type 0) (s : S) (n : ℕ) → ((s : S) → IsFormat (step s) w (good s)) → IsFormat (several step next s n) (flat_map w) (AreSoMany good next s n)
IsFormat-several step next w good s n f = record {
  takes = several_takes step next w good f n s;
  again = λ xs rest h. subst (λ k. several step next s k (flat_map w xs ++ rest) ≡ Ok (xs, rest)) h.0 (several_again step next w good f s xs rest h.1);
}

-- a count, and as many fields as it stands for
pub IsFormat-counted_by : {S X : Type 0} (many count_of : ℕ → ℕ) (count : Read ℕ) (v : ℕ → List ℕ) (g : ℕ → Type 0) (step : S → Read X) (next : X → S) (w : X → List ℕ) (good : S → X → Type 0) (s : S)
    → ((n : ℕ) → count_of (many n) ≡ n) → IsFormat count v g → ((s : S) → IsFormat (step s) w (good s))
    → IsFormat (mapped (λ p. p.1) (followed count (λ n. several step next s (many n)))) (λ xs. v (count_of (length xs)) ++ flat_map w xs) (λ xs. g (count_of (length xs)) × AreSoMany good next s (many (count_of (length xs))) xs)
IsFormat-counted_by {S} {X} many count_of count v g step next w good s back a f =
    IsFormat-mapped (λ (p : ℕ × List X). p.1) (λ xs. (count_of (length xs), xs)) (followed count (λ n. several step next s (many n))) (λ p. v p.0 ++ flat_map w p.1) (λ p. g p.0 × AreSoMany good next s (many p.0) p.1)
    (λ p h. ap (λ (n : ℕ). (let q : ℕ × List X = (n, p.1) in q)) (ap count_of h.1.0 ∙ back p.0)) (λ xs h. refl)
    (IsFormat-followed count (λ n. several step next s (many n)) v (λ n. flat_map w) g (λ n. AreSoMany good next s (many n)) a (λ n h. IsFormat-several step next w good s (many n) f))

-- a count before the list
abbrev pub spelled_list : {X : Type 0} → (ℕ → List ℕ) → (X → List ℕ) → List X → List ℕ
spelled_list v w xs = v (length xs) ++ flat_map w xs

pub IsFormat-counted : {S X : Type 0} (count : Read ℕ) (v : ℕ → List ℕ) (g : ℕ → Type 0) (step : S → Read X) (next : X → S) (w : X → List ℕ) (good : S → X → Type 0) (s : S)
    → IsFormat count v g → ((s : S) → IsFormat (step s) w (good s)) → IsFormat (counted count step next s) (spelled_list v w) (λ xs. g (length xs) × IsChain good next s xs)
IsFormat-counted {S} {X} count v g step next w good s a f =
    IsFormat-as (counted count step next s) (spelled_list v w) (λ xs. g (length xs) × AreSoMany good next s (length xs) xs) (λ xs. g (length xs) × IsChain good next s xs) (λ xs h. (h.0, h.1.1)) (λ xs h. (h.0, (refl, h.1)))
    (IsFormat-counted_by (λ n. n) (λ n. n) count v g step next w good s (λ n. refl) a f)

-- a count before the list, k elements for each one that it counts
abbrev pub spelled_multiple : {X : Type 0} → ℕ → (ℕ → List ℕ) → (X → List ℕ) → List X → List ℕ
spelled_multiple k v w xs = v (length xs / k) ++ flat_map w xs

no_rest : (k n : ℕ) → n ≡ k * (n / k) → n % k ≡ 0
no_rest k n h = omega (arith, mod-eq-sub-mul-div n k)

is_multiple : (k n : ℕ) → n % k ≡ 0 → n ≡ k * (n / k)
is_multiple k n h = omega (arith, mod-eq-sub-mul-div n k, mul-div-le n k)

pub IsFormat-multiple : {S X : Type 0} (k : ℕ) → 0 < k → (count : Read ℕ) (v : ℕ → List ℕ) (g : ℕ → Type 0) (step : S → Read X) (next : X → S) (w : X → List ℕ) (good : S → X → Type 0) (s : S)
    → IsFormat count v g → ((s : S) → IsFormat (step s) w (good s))
    → IsFormat (mapped (λ p. p.1) (followed count (λ n. several step next s (k * n)))) (spelled_multiple k v w) (λ xs. g (length xs / k) × ((length xs % k ≡ 0) × IsChain good next s xs))
IsFormat-multiple k some count v g step next w good s a f =
    IsFormat-as (mapped (λ p. p.1) (followed count (λ n. several step next s (k * n)))) (spelled_multiple k v w) (λ xs. g (length xs / k) × AreSoMany good next s (k * (length xs / k)) xs) (λ xs. g (length xs / k) × ((length xs % k ≡ 0) × IsChain good next s xs))
    (λ xs h. (h.0, (no_rest k (length xs) h.1.0, h.1.1))) (λ xs h. (h.0, (is_multiple k (length xs) h.1.0, h.1.1)))
    (IsFormat-counted_by (λ n. k * n) (λ n. n / k) count v g step next w good s (λ n. mul-div_cancel_left n some) a f)

and_parts : (a b : Bool) → (a && b) ≡ true → (a ≡ true) × (b ≡ true)
and_parts true b h = (refl, h)
and_parts false b h = cc

-- each right by itself
pub all_of_chain : {X : Type 0} (good : X → Type 0) (xs : List X) → IsChain {S = Unit {0}} (λ s. good) (λ x. tt) tt xs → AllByRecursion good xs
all_of_chain good [] h = tt
all_of_chain good (x ∷ xs) h = (h.0, all_of_chain good xs h.1)

pub chain_of_all : {X : Type 0} (good : X → Type 0) (xs : List X) → AllByRecursion good xs → IsChain {S = Unit {0}} (λ s. good) (λ x. tt) tt xs
chain_of_all good [] h = tt
chain_of_all good (x ∷ xs) h = (h.0, chain_of_all good xs h.1)

-- what holds of each, and a test that each passes
pub all_parts : {X : Type 0} (good : X → Type 0) (p : X → Bool) (xs : List X) → AllByRecursion (λ x. good x × (p x ≡ true)) xs → AllByRecursion good xs × (list_all p xs ≡ true)
all_parts good p [] h = (tt, refl)
all_parts good p (x ∷ xs) h = let k = all_parts good p xs h.1 in ((h.0.0, k.0), rw (h.0.1, k.1) refl)

pub parts_all : {X : Type 0} (good : X → Type 0) (p : X → Bool) (xs : List X) → AllByRecursion good xs → list_all p xs ≡ true → AllByRecursion (λ x. good x × (p x ≡ true)) xs
parts_all good p [] h e = tt
parts_all good p (x ∷ xs) h e = let k = and_parts (p x) (list_all p xs) e in ((h.0, k.0), parts_all good p xs h.1 k.1)

-- the same in a chain
pub chain_parts : {S X : Type 0} (good : S → X → Type 0) (p : X → Bool) (next : X → S) (s : S) (xs : List X) → IsChain (λ s x. good s x × (p x ≡ true)) next s xs → IsChain good next s xs × (list_all p xs ≡ true)
chain_parts good p next s [] h = (tt, refl)
chain_parts good p next s (x ∷ xs) h = let k = chain_parts good p next (next x) xs h.1 in ((h.0.0, k.0), rw (h.0.1, k.1) refl)

pub parts_chain : {S X : Type 0} (good : S → X → Type 0) (p : X → Bool) (next : X → S) (s : S) (xs : List X) → IsChain good next s xs → list_all p xs ≡ true → IsChain (λ s x. good s x × (p x ≡ true)) next s xs
parts_chain good p next s [] h e = tt
parts_chain good p next s (x ∷ xs) h e = let k = and_parts (p x) (list_all p xs) e in ((h.0, k.0), parts_chain good p next (next x) xs h.1 k.1)

-- each element of a chain is right, by what some element leaves
pub each_of_chain : {S X : Type 0} (good : S → X → Type 0) (next : X → S) (s : S) (xs : List X) → IsChain good next s xs → AllByRecursion (λ x. (t : S) × good t x) xs
each_of_chain good next s [] h = tt
each_of_chain good next s (x ∷ xs) h = ((s, h.0), each_of_chain good next (next x) xs h.1)
