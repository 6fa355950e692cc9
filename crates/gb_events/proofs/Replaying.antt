-- Lists of events, played one after another.
use Rattle.std.proofs.Common.{◌≡◌, ◌≢◌, ◌<◌, ℕ, suc, ◌+◌, ◌-◌, refl, sym, ap, subst, ◌∙◌, List, [], ◌∷◌, ◌++◌, length, replicate, get_or, take, take_all, drop, ◌≤◌, arith, append_assoc}
use Rattle.std.proofs.lemmas.List.{length-append, length-replicate, replicate-append-replicate, replicate_more}
use Rattle.gb_ops.specs.declared.machine.CodePlace.{CodePlace}
use Rattle.gb_ops.specs.declared.machine.Event.{Event}
use Rattle.gb_ops.specs.declared.machine.Faults.{Faults}
use Rattle.gb_ops.specs.declared.machine.Region.{Region}
use Rattle.gb_ops.specs.Faults.{no_faults, code_place}
use Rattle.gb_ops.specs.Play.{MState, IsStart, faults, next, play, within}
use Rattle.gb_plain.specs.Shown.{resting}
use Rattle.gb_events.specs.declared.list.Repeated.{Repeated}
use Rattle.gb_events.specs.declared.play.FaultyEvent.{FaultyEvent}
use Rattle.gb_events.specs.declared.play.Replayed.TheVariants as replayed
use Rattle.gb_events.specs.Replay.{events_of, IsCleared, IsWholeReplay, IsFaultyReplay, WholeReplaysAreFaultless}
use Rattle.gb_events.proofs.Listing.{events_more, events_split}
use Rattle.gb_events.proofs.Runs.{state_both, faults_both, first_none, one_none, one_state, none_faults, none_state}

-- power-up with zeros
pub cleared : (r rom : List ℕ) (p s : MState) → r ≡ rom → p ≡ s → IsStart r s → s.storage.work ≡ replicate 8192 0 → s.storage.high ≡ replicate 127 0 → IsCleared rom p
cleared r rom p s same is start work high =
    subst (λ (t : MState). IsCleared rom t) (sym is) (record { start = subst (λ (x : List ℕ). IsStart x s) same start; work = work; high = high })

-- no event
pub whole_none : (rom : List ℕ) (region : Region) (s : MState) → IsWholeReplay rom region s [] 0 s
whole_none rom region s = record { number_is = refl; faultless = none_faults rom region s; state = none_state rom region s }

-- one event
whole_one : (rom : List ℕ) (region : Region) (s : MState) (e : Event) → faults rom region s e ≡ no_faults → IsWholeReplay rom region s (e ∷ []) 1 (next rom s e)
whole_one rom region s e none = record { number_is = refl; faultless = one_none rom region e s none; state = one_state rom region e s }

-- some events, and then others
pub whole_both : (rom : List ℕ) (region : Region) (old mid new : MState) (first second : List Event) (n m : ℕ) → IsWholeReplay rom region old first n mid → IsWholeReplay rom region mid second m new
    → IsWholeReplay rom region old (first ++ second) (n + m) new
whole_both rom region old mid new first second n m a b =
    record {
      number_is = omega (arith, a.number_is, b.number_is, length-append first second);
      faultless =
          faults_both rom region first second old a.faultless
          ∙ ap (λ (s : MState). (play rom region s second).faults) (sym a.state) ∙ b.faultless;
      state = b.state ∙ ap (λ (s : MState). (play rom region s second).state) a.state ∙ sym (state_both rom region first second old);
    }

-- some events without a fault, and then others up to the first with one
pub faulty_both : (rom : List ℕ) (region : Region) (old mid new : MState) (first second third : List Event) (n : ℕ) (told : FaultyEvent) → IsWholeReplay rom region old first n mid
    → IsFaultyReplay rom region mid second told new → IsFaultyReplay rom region old (first ++ second ++ third) (record told { number = n + told.number }) new
faulty_both rom region old mid new first second third n told a b =
    record {
      before = first ++ b.before;
      after = b.after ++ third;
      events_are =
          ap (λ (x : List Event). first ++ x ++ third) b.events_are
          ∙ append_assoc first (b.before ++ told.event ∷ b.after) third
          ∙ ap (λ (x : List Event). first ++ x) (append_assoc b.before (told.event ∷ b.after) third)
          ∙ sym (append_assoc first b.before (told.event ∷ (b.after ++ third)));
      reached = whole_both rom region old mid new first b.before n told.number a b.reached;
      faults = b.faults;
      faulty = b.faulty;
      place = b.place;
    }

-- ---- an event, so many times

pub none_played : (rom : List ℕ) (region : Region) (s : MState) (e : Event) → IsWholeReplay rom region s (replicate 0 e) 0 s
none_played rom region s e = whole_none rom region s

more : (rom : List ℕ) (region : Region) (old s new : MState) (e : Event) (n : ℕ) → IsWholeReplay rom region old (replicate n e) n s → faults rom region s e ≡ no_faults → new ≡ next rom s e
    → IsWholeReplay rom region old (replicate (n + 1) e) (n + 1) new
more rom region old s new e n w none is =
    let one : IsWholeReplay rom region s (e ∷ []) 1 new = subst (λ (t : MState). IsWholeReplay rom region s (e ∷ []) 1 t) (sym is) (whole_one rom region s e none) in
    subst (λ (events : List Event). IsWholeReplay rom region old events (n + 1) new) (replicate_more n e)
    (whole_both rom region old s new (replicate n e) (e ∷ []) n 1 w one)

faulty : (rom : List ℕ) (region : Region) (old s : MState) (e : Event) (n count : ℕ) (told : Faults) (place : CodePlace) → IsWholeReplay rom region old (replicate n e) n s → n < count
    → told ≡ faults rom region s e → told ≢ no_faults → place ≡ code_place (within rom s).memory s.processor.pc
    → IsFaultyReplay rom region old (replicate count e) (record { number = n; faults = told; place = place; event = e }) s
faulty rom region old s e n count told place w within faults_are some place_is =
    let rest : n + suc (count - n - 1) ≡ count = omega arith in
    record {
      before = replicate n e;
      after = replicate (count - n - 1) e;
      events_are = ap (λ (m : ℕ). replicate m e) (sym rest) ∙ sym (replicate-append-replicate n (suc (count - n - 1)) e);
      reached = w;
      faults = faults_are;
      faulty = some;
      place = place_is;
    }

-- the same of a cartridge that is known to be another one's
pub repeated_more : (r rom : List ℕ) (region : Region) (old s new : MState) (e : Event) (n : ℕ) → r ≡ rom → IsWholeReplay rom region old (replicate n e) n s → faults r region s e ≡ no_faults
    → new ≡ next r s e → IsWholeReplay rom region old (replicate (n + 1) e) (n + 1) new
repeated_more r rom region old s new e n same w none is =
    more rom region old s new e n w (ap (λ (x : List ℕ). faults x region s e) (sym same) ∙ none) (is ∙ ap (λ (x : List ℕ). next x s e) same)

pub repeated_faulty : (r rom : List ℕ) (region : Region) (old s : MState) (e : Event) (n number count : ℕ) (told : Faults) (place : CodePlace) → r ≡ rom → number ≡ n
    → IsWholeReplay rom region old (replicate n e) n s → n < count → told ≡ faults r region s e → told ≢ no_faults → place ≡ code_place (resting r s) s.processor.pc
    → IsFaultyReplay rom region old (replicate count e) (record { number = number; faults = told; place = place; event = e }) s
unfolding within
repeated_faulty r rom region old s e n number count told place same is w lt faults_are some place_is =
    subst (λ (k : ℕ). IsFaultyReplay rom region old (replicate count e) (record { number = k; faults = told; place = place; event = e }) s) (sym is)
    (faulty rom region old s e n count told place w lt (faults_are ∙ ap (λ (x : List ℕ). faults x region s e) same) some
    (place_is ∙ ap (λ (x : List ℕ). code_place (resting x s) s.processor.pc) same))

-- ---- the items of a list, one after another

pub items_none : (rom : List ℕ) (region : Region) (s : MState) → IsWholeReplay rom region s (events_of []) 0 s
unfolding events_of
items_none rom region s = whole_none rom region s

pub items_more : (xs items : List Repeated) (i : ℕ) (d : Repeated) (r rom : List ℕ) (region : Region) (old s new : MState) (n more : ℕ) → xs ≡ items → i < length xs → r ≡ rom
    → IsWholeReplay rom region old (events_of (take i items)) n s → IsWholeReplay r region s (replicate (get_or xs i d).count (get_or xs i d).event) more new
    → IsWholeReplay rom region old (events_of (take (i + 1) items)) (n + more) new
items_more xs items i d r rom region old s new n more are lt same w next_w =
    let item : Repeated = get_or xs i d in
    let within : i < length items = omega (arith, lt, ap length are) in
    subst (λ (events : List Event). IsWholeReplay rom region old events (n + more) new) (sym (events_more items i item d within (ap (λ (ys : List Repeated). get_or ys i d) are)))
    (whole_both rom region old s new (events_of (take i items)) (replicate item.count item.event) n more w
    (subst (λ (x : List ℕ). IsWholeReplay x region s (replicate item.count item.event) more new) same next_w))

pub items_faulty : (xs items : List Repeated) (i : ℕ) (d : Repeated) (r rom : List ℕ) (region : Region) (old s new : MState) (n : ℕ) (told : FaultyEvent) → xs ≡ items → i < length xs → r ≡ rom
    → IsWholeReplay rom region old (events_of (take i items)) n s → IsFaultyReplay r region s (replicate (get_or xs i d).count (get_or xs i d).event) told new
    → IsFaultyReplay rom region old (events_of items) (record told { number = n + told.number }) new
items_faulty xs items i d r rom region old s new n told are lt same w f =
    let item : Repeated = get_or xs i d in
    let within : i < length items = omega (arith, lt, ap length are) in
    subst (λ (events : List Event). IsFaultyReplay rom region old events (record told { number = n + told.number }) new)
    (sym (events_split items i item d within (ap (λ (ys : List Repeated). get_or ys i d) are)))
    (faulty_both rom region old s new (events_of (take i items)) (replicate item.count item.event) (events_of (drop (i + 1) items)) n told w
    (subst (λ (x : List ℕ). IsFaultyReplay x region s (replicate item.count item.event) told new) same f))

-- all items
pub items_all : (xs items : List Repeated) (i : ℕ) (rom : List ℕ) (region : Region) (old s : MState) (n total : ℕ) → xs ≡ items → length xs ≤ i → total ≡ length (events_of items)
    → IsWholeReplay rom region old (events_of (take i items)) n s → IsWholeReplay rom region old (events_of items) total s
items_all xs items i rom region old s n total are past all w =
    let whole : take i items ≡ items = take_all i items (omega (arith, past, ap length are)) in
    let w_all : IsWholeReplay rom region old (events_of items) n s = subst (λ (x : List Repeated). IsWholeReplay rom region old (events_of x) n s) whole w in
    record { number_is = all; faultless = w_all.faultless; state = w_all.state }

-- ---- the numbers of events stay below that of all

counted_within : (items : List Repeated) (i : ℕ) (item d : Repeated) (n k total : ℕ) → i < length items → item ≡ get_or items i d → total ≡ length (events_of items)
    → n ≡ length (events_of (take i items)) → k ≤ item.count → n + k ≤ total
counted_within items i item d n k total lt is all so_far few =
    omega (
      arith,
      all,
      so_far,
      few,
      ap length (events_split items i item d lt is),
      length-append (events_of (take i items) ++ replicate item.count item.event) (events_of (drop (i + 1) items)),
      length-append (events_of (take i items)) (replicate item.count item.event),
      length-replicate item.count item.event,
    )

pub more_within : (xs items : List Repeated) (i : ℕ) (d : Repeated) (r rom : List ℕ) (region : Region) (old s new : MState) (n more total : ℕ) → xs ≡ items → i < length xs → total ≡ length (events_of items)
    → IsWholeReplay rom region old (events_of (take i items)) n s → IsWholeReplay r region s (replicate (get_or xs i d).count (get_or xs i d).event) more new → n + more ≤ total
more_within xs items i d r rom region old s new n more total are lt all w next_w =
    let item : Repeated = get_or xs i d in
    counted_within items i item d n more total (omega (arith, lt, ap length are)) (ap (λ (ys : List Repeated). get_or ys i d) are) all w.number_is
    (omega (arith, next_w.number_is, length-replicate item.count item.event))

pub faulty_within : (xs items : List Repeated) (i : ℕ) (d : Repeated) (r rom : List ℕ) (region : Region) (old s new : MState) (n total : ℕ) (told : FaultyEvent) → xs ≡ items → i < length xs → total ≡ length (events_of items)
    → IsWholeReplay rom region old (events_of (take i items)) n s → IsFaultyReplay r region s (replicate (get_or xs i d).count (get_or xs i d).event) told new → n + told.number ≤ total
faulty_within xs items i d r rom region old s new n total told are lt all w f =
    let item : Repeated = get_or xs i d in
    counted_within items i item d n told.number total (omega (arith, lt, ap length are)) (ap (λ (ys : List Repeated). get_or ys i d) are) all w.number_is
    (omega (arith, f.reached.number_is, ap length f.events_are, length-replicate item.count item.event, length-append f.before (told.event ∷ f.after)))

-- ---- what is told

whole_length : (rom : List ℕ) (region : Region) (old : MState) (events : List Event) (n : ℕ) (new : MState) → IsWholeReplay rom region old events n new → replayed.Whole n ≡ replayed.Whole (length events)
whole_length rom region old events n new w = ap replayed.Whole w.number_is

faulty_not_none : (rom : List ℕ) (region : Region) (old : MState) (events : List Event) (told : FaultyEvent) (new : MState) → IsFaultyReplay rom region old events told new
    → (play rom region old events).faults ≡ no_faults → ⊥
faulty_not_none rom region old events told new f none =
    let split : (play rom region old (f.before ++ told.event ∷ f.after)).faults ≡ no_faults = ap (λ (x : List Event). (play rom region old x).faults) (sym f.events_are) ∙ none in
    let rest : (play rom region (play rom region old f.before).state (told.event ∷ f.after)).faults ≡ no_faults =
    sym (faults_both rom region f.before (told.event ∷ f.after) old f.reached.faultless) ∙ split in
    let there : (play rom region new (told.event ∷ f.after)).faults ≡ no_faults = ap (λ (s : MState). (play rom region s (told.event ∷ f.after)).faults) f.reached.state ∙ rest in
    f.faulty (f.faults ∙ first_none rom region told.event f.after new there)

never_whole : {X : Type 0} (told : FaultyEvent) (n : ℕ) → replayed.Faulty told ≡ replayed.Whole n → X
never_whole told n h = cc

pub whole_are_faultless : WholeReplaysAreFaultless
whole_are_faultless rom region old events (replayed.Whole n) new w = (λ _. w.faultless, λ _. whole_length rom region old events n new w)
whole_are_faultless rom region old events (replayed.Faulty told) new f =
    (λ h. never_whole told (length events) h, λ none. absurd (faulty_not_none rom region old events told new f none))
