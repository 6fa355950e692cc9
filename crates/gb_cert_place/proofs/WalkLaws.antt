-- A walk that stops in a part of a format stops in the format at the same place.
use Rattle.std.proofs.Common.{◌≡◌, ℕ, suc, ◌+◌, ◌-◌, ◌≤◌, ◌<◌, List, [], ◌∷◌, ◌++◌, length, map, Result, Ok, refl, sym, ◌∙◌, ap, subst, append_assoc, arith}
use Rattle.std.proofs.lemmas.List.{length-append, append-nil}
use Rattle.gb_fields.specs.declared.fault.CertFault.{CertFault}
use Rattle.gb_fields.specs.Format.{Read, go_on, followed, both, mapped, several}
use Rattle.gb_cert.specs.Skipping.{skipped}
use Rattle.gb_states.proofs.Formats.{went_on, same_pair}
use Rattle.gb_cert.proofs.Skipping.{skipped-mapped}
use Rattle.gb_cert_place.specs.declared.block.Stop.{Stop}
use Rattle.gb_cert_place.specs.Blocks.{forget}
use Rattle.gb_cert_place.specs.Stops.{Stopped}
use Rattle.gb_cert_place.proofs.Locality.{IsLocal, front_of, one_more}
use Rattle.gb_cert_place.proofs.Stopping.{StopsAt-first, StopsAt-mapped, StopsAt-then, StopsAt-unmapped}

-- What is left is no more than there was.
pub shorter : {X : Type 0} (r : Read X) → IsLocal r → (bytes : List ℕ) (x : X) (rest : List ℕ) → r bytes ≡ Ok (x, rest) → length rest ≤ length bytes
shorter r a bytes x rest h =
    let w = a.taken bytes x rest h in
    let l : length bytes ≡ length w.front + length rest = ap length w.parts ∙ length-append w.front rest in
    omega arith

abbrev done : List ℕ → Result (List ℕ) CertFault
done b = Ok b

-- what was passed over was read
pub was_read : {X : Type 0} (r : Read X) (bytes rest : List ℕ) → skipped r bytes ≡ Ok rest → (x : X) × (r bytes ≡ Ok (x, rest))
was_read {X} r bytes rest h =
    let c = went_on (r bytes) (λ x rest. Ok rest) rest h in
    (c.0, c.2 ∙ ap (λ (b : List ℕ). Ok (c.0, b)) (ok_rest c.1 rest c.3))
  where
    ok_rest : (a b : List ℕ) → done a ≡ done b → a ≡ b
    ok_rest a b e = cc

-- what stands for something was read
pub was_mapped : {X Y : Type 0} (f : X → Y) (r : Read X) (bytes : List ℕ) (y : Y) (rest : List ℕ) → mapped f r bytes ≡ Ok (y, rest) → (x : X) × (r bytes ≡ Ok (x, rest)) × (f x ≡ y)
was_mapped {X} {Y} f r bytes y rest h =
    let c = went_on (r bytes) (λ x rest. Ok (f x, rest)) (y, rest) h in
    let p = same_pair (f c.0) y c.1 rest c.3 in
    (c.0, c.2 ∙ ap (λ (b : List ℕ). Ok (c.0, b)) p.1, p.0)

pub is_mapped : {X Y : Type 0} (f : X → Y) (r : Read X) (bytes : List ℕ) (x : X) (y : Y) (rest : List ℕ) → r bytes ≡ Ok (x, rest) → f x ≡ y → mapped f r bytes ≡ Ok (y, rest)
is_mapped {X} {Y} f r bytes x y rest h e = by (r bytes) h ∙ ap (λ (z : Y). Ok (z, rest)) e
  where
    by : (read : Result (X × List ℕ) CertFault) → read ≡ Ok (x, rest) → go_on {Y = Y × List ℕ} read (λ x rest. Ok (f x, rest)) ≡ Ok (f x, rest)
    by read g = rw g refl

pub is_followed : {X Y : Type 0} (r : Read X) (t : X → Read Y) (bytes : List ℕ) (x : X) (mid : List ℕ) (y : Y) (end : List ℕ) → r bytes ≡ Ok (x, mid) → t x mid ≡ Ok (y, end) → followed r t bytes ≡ Ok ((x, y), end)
is_followed r t bytes x mid y end h g = rw (h, g) refl

pub Stopped-first : {X Y : Type 0} (r : Read X) (t : X → Read Y) (bytes : List ℕ) (s : Stop) → Stopped r bytes s → Stopped (followed r t) bytes s
Stopped-first r t bytes s p = record { order = p.order; few = p.few; stops = StopsAt-first r t bytes s.fault (length bytes - s.left) p.stops }

pub Stopped-mapped : {X Y : Type 0} (f : X → Y) (r : Read X) (bytes : List ℕ) (s : Stop) → Stopped r bytes s → Stopped (mapped f r) bytes s
Stopped-mapped f r bytes s p = record { order = p.order; few = p.few; stops = StopsAt-mapped f r bytes s.fault (length bytes - s.left) p.stops }

pub Stopped-unmapped : {X Y : Type 0} (f : X → Y) (r : Read X) (bytes : List ℕ) (s : Stop) → Stopped (mapped f r) bytes s → Stopped r bytes s
Stopped-unmapped f r bytes s p = record { order = p.order; few = p.few; stops = StopsAt-unmapped f r bytes s.fault (length bytes - s.left) p.stops }

pub Stopped-block : {X : Type 0} (r : Read X) (bytes : List ℕ) (s : Stop) → Stopped (mapped forget r) bytes s → Stopped r bytes s
Stopped-block r bytes s p = Stopped-unmapped forget r bytes s p

pub Stopped-then : {X Y : Type 0} (r : Read X) (t : X → Read Y) → IsLocal r → (bytes : List ℕ) (x : X) (rest : List ℕ) (s : Stop) → r bytes ≡ Ok (x, rest) → Stopped (t x) rest s → Stopped (followed r t) bytes s
Stopped-then r t a bytes x rest s h p =
    let l = shorter r a bytes x rest h in
    let f : s.before ≤ length rest = p.few in
    let o : s.left ≤ s.before = p.order in
    let m : s.left ≤ length rest = omega arith in
    record { order = p.order; few = omega arith; stops = StopsAt-then r t a bytes x rest h s.fault s.left m p.stops }

pub Stopped-after : {X Y : Type 0} (r : Read X) (t : Read Y) → IsLocal r → (bytes rest : List ℕ) (s : Stop) → skipped r bytes ≡ Ok rest → Stopped t rest s → Stopped (both r t) bytes s
Stopped-after r t a bytes rest s h p = let w = was_read r bytes rest h in Stopped-then r (λ x. t) a bytes w.0 rest s w.1 p

-- the same reader in other words
pub Stopped-as : {X : Type 0} (r t : Read X) (bytes : List ℕ) (s : Stop) → ((b : List ℕ) → r b ≡ t b) → Stopped r bytes s → Stopped t bytes s
Stopped-as r t bytes s same p = record {
  order = p.order;
  few = p.few;
  stops = record {
    meets = sym (same bytes) ∙ p.stops.meets;
    within = p.stops.within;
    before = λ j lt. sym (same _) ∙ p.stops.before j lt;
    decided = λ more n. sym (same _) ∙ p.stops.decided more n;
    cut = p.stops.cut;
  };
}

-- ---- so many

-- A reader comes to another behind some of the bytes.
pub record Leads {X : Type 0} (r : Read X) (bytes : List ℕ) (t : Read X) (rest : List ℕ) : Type 0 where
  pub passes : skipped t rest ≡ skipped r bytes
  pub stops : (s : Stop) → Stopped t rest s → Stopped r bytes s

one_passed : {S X : Type 0} (step : S → Read X) (next : X → S) (n : ℕ) (s : S) (bytes : List ℕ) (x : X) (after : List ℕ) → step s bytes ≡ Ok (x, after) → skipped (several step next s (suc n)) bytes ≡ skipped (several step next (next x) n) after
unfolding several
one_passed step next n s bytes x after h = rw h (skipped-mapped (λ xs. x ∷ xs) (several step next (next x) n) after)

pub leads_start : {S X : Type 0} (step : S → Read X) (next : X → S) (s : S) (n : ℕ) (bytes : List ℕ) → Leads (several step next s n) bytes (several step next s (n - 0)) bytes
leads_start step next s n bytes =
    let k : n ≡ n - 0 = omega arith in
    subst (λ c. Leads (several step next s n) bytes (several step next s c) bytes) k (record { passes = refl; stops = λ stop p. p })

pub leads_on : {S X : Type 0} (step : S → Read X) (next : X → S) → ((s : S) → IsLocal (step s)) → (r : Read (List X)) (bytes : List ℕ) (s : S) (n i : ℕ) (rest : List ℕ) (x : X) (after : List ℕ) → i < n → step s rest ≡ Ok (x, after)
    → Leads r bytes (several step next s (n - i)) rest → Leads r bytes (several step next (next x) (n - (i + 1))) after
leads_on {S} {X} step next a r bytes s n i rest x after lt h so_far =
    let k : n - i ≡ suc (n - (i + 1)) = omega arith in
    let m : ℕ = n - (i + 1) in
    let l = subst (λ c. Leads r bytes (several step next s c) rest) k so_far in
    record { passes = sym (one_passed step next m s rest x after h) ∙ l.passes; stops = λ stop p. l.stops stop (stopped m stop p) }
  where
    stopped : (m : ℕ) (stop : Stop) → Stopped (several step next (next x) m) after stop → Stopped (several step next s (suc m)) rest stop
    stopped m stop p =
        Stopped-as (mapped front_of (followed (step s) (λ x. several step next (next x) m))) (several step next s (suc m)) rest stop (one_more step next m s)
        (Stopped-mapped front_of (followed (step s) (λ x. several step next (next x) m)) rest stop (Stopped-then (step s) (λ x. several step next (next x) m) (a s) rest x after stop h p))

-- the same where only what the element leaves is known
pub leads_by : {S X : Type 0} (step : S → Read X) (next : X → S) → ((s : S) → IsLocal (step s)) → (r : Read (List X)) (bytes : List ℕ) (s t : S) (n i : ℕ) (rest after : List ℕ) → i < n → mapped next (step s) rest ≡ Ok (t, after)
    → Leads r bytes (several step next s (n - i)) rest → Leads r bytes (several step next t (n - (i + 1))) after
leads_by {S} {X} step next a r bytes s t n i rest after lt h so_far =
    let c = went_on (step s rest) (λ x rest. Ok (next x, rest)) (t, after) h in
    let p = same_pair (next c.0) t c.1 after c.3 in
    let l = leads_on step next a r bytes s n i rest c.0 c.1 lt c.2 so_far in
    subst (λ u. Leads r bytes (several step next u (n - (i + 1))) after) p.0 (subst (λ b. Leads r bytes (several step next (next c.0) (n - (i + 1))) b) p.1 l)

pub leads_end : {S X : Type 0} (step : S → Read X) (next : X → S) (r : Read (List X)) (bytes : List ℕ) (s : S) (n i : ℕ) (rest : List ℕ) (stop : Stop) → i < n → Stopped (step s) rest stop
    → Leads r bytes (several step next s (n - i)) rest → Stopped r bytes stop
leads_end {S} {X} step next r bytes s n i rest stop lt p so_far =
    let k : n - i ≡ suc (n - (i + 1)) = omega arith in
    let m : ℕ = n - (i + 1) in
    let l = subst (λ c. Leads r bytes (several step next s c) rest) k so_far in
    l.stops stop
    (Stopped-as (mapped front_of (followed (step s) (λ x. several step next (next x) m))) (several step next s (suc m)) rest stop (one_more step next m s)
    (Stopped-mapped front_of (followed (step s) (λ x. several step next (next x) m)) rest stop (Stopped-first (step s) (λ x. several step next (next x) m) rest stop p)))

pub leads_done : {S X : Type 0} (step : S → Read X) (next : X → S) (r : Read (List X)) (bytes : List ℕ) (s : S) (n i : ℕ) (rest : List ℕ) → n ≤ i → Leads r bytes (several step next s (n - i)) rest → skipped r bytes ≡ Ok rest
unfolding several
leads_done {S} {X} step next r bytes s n i rest le so_far =
    let k : n - i ≡ 0 = omega arith in
    let l = subst (λ c. Leads r bytes (several step next s c) rest) k so_far in
    sym l.passes

-- ---- so many, each with something that it tells

-- A reader comes to another behind some of the bytes, and this is what the elements before tell.
pub record Tells {X V : Type 0} (f : X → V) (r : Read (List X)) (bytes : List ℕ) (t : Read (List X)) (rest : List ℕ) (told : List V) : Type 0 where
  pub found : (ys : List X) (end : List ℕ) → t rest ≡ Ok (ys, end) → (xs : List X) × (r bytes ≡ Ok (xs, end)) × (map f xs ≡ told ++ map f ys)

pub tells_start : {S X V : Type 0} (f : X → V) (step : S → Read X) (next : X → S) (s : S) (n : ℕ) (bytes : List ℕ) → Tells f (several step next s n) bytes (several step next s (n - 0)) bytes []
tells_start f step next s n bytes =
    let k : n ≡ n - 0 = omega arith in
    subst (λ c. Tells f (several step next s n) bytes (several step next s c) bytes []) k (record { found = λ ys end e. (ys, e, refl) })

one_read : {S X : Type 0} (step : S → Read X) (next : X → S) (n : ℕ) (s : S) (bytes : List ℕ) (x : X) (after : List ℕ) (ys : List X) (end : List ℕ) → step s bytes ≡ Ok (x, after) → several step next (next x) n after ≡ Ok (ys, end) → several step next s (suc n) bytes ≡ Ok (x ∷ ys, end)
unfolding several
one_read step next n s bytes x after ys end h g = rw (h, g) refl

-- where each element leaves the same
pub tells_on : {S X V : Type 0} (f : X → V) (step : S → Read X) (next : X → S) (r : Read (List X)) (bytes : List ℕ) (s t : S) → ((x : X) → next x ≡ t) → (n i : ℕ) (rest : List ℕ) (v : V) (after : List ℕ) (told : List V) → i < n → mapped f (step s) rest ≡ Ok (v, after)
    → Tells f r bytes (several step next s (n - i)) rest told → Tells f r bytes (several step next t (n - (i + 1))) after (told ++ v ∷ [])
tells_on {S} {X} {V} f step next r bytes s t same n i rest v after told lt h so_far =
    let k : n - i ≡ suc (n - (i + 1)) = omega arith in
    let m : ℕ = n - (i + 1) in
    let w = was_mapped f (step s) rest v after h in
    let l = subst (λ c. Tells f r bytes (several step next s c) rest told) k so_far in
    let made : Tells f r bytes (several step next (next w.0) m) after (told ++ f w.0 ∷ []) = record {
      found = λ ys end e.
          let g = l.found (w.0 ∷ ys) end (one_read step next m s rest w.0 after ys end w.1 e) in
          (g.0, g.1, g.2 ∙ sym (append_assoc told (f w.0 ∷ []) (map f ys)));
    } in
    subst (λ u. Tells f r bytes (several step next u m) after (told ++ v ∷ [])) (same w.0) (subst (λ u. Tells f r bytes (several step next (next w.0) m) after (told ++ u ∷ [])) w.2 made)

pub tells_done : {S X V : Type 0} (f : X → V) (step : S → Read X) (next : X → S) (r : Read (List X)) (bytes : List ℕ) (s : S) (n i : ℕ) (rest : List ℕ) (told : List V) → n ≤ i → Tells f r bytes (several step next s (n - i)) rest told → mapped (map f) r bytes ≡ Ok (told, rest)
unfolding several
tells_done f step next r bytes s n i rest told le so_far =
    let k : n - i ≡ 0 = omega arith in
    let l = subst (λ c. Tells f r bytes (several step next s c) rest told) k so_far in
    let g = l.found [] rest refl in
    is_mapped (map f) r bytes g.0 told rest g.1 (g.2 ∙ append-nil told)

-- the same where only what the element tells is known, and each leaves the same
pub leads_told : {S X V : Type 0} (step : S → Read X) (next : X → S) (f : X → V) → ((s : S) → IsLocal (step s)) → (r : Read (List X)) (bytes : List ℕ) (s t : S) → ((x : X) → next x ≡ t) → (n i : ℕ) (rest : List ℕ) (v : V) (after : List ℕ) → i < n → mapped f (step s) rest ≡ Ok (v, after)
    → Leads r bytes (several step next s (n - i)) rest → Leads r bytes (several step next t (n - (i + 1))) after
leads_told {S} {X} step next f a r bytes s t same n i rest v after lt h so_far =
    let w = was_mapped f (step s) rest v after h in
    subst (λ u. Leads r bytes (several step next u (n - (i + 1))) after) (same w.0) (leads_on step next a r bytes s n i rest w.0 after lt w.1 so_far)
