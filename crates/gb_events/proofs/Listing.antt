-- The events of lists.
use Rattle.std.proofs.Common.{◌≡◌, ◌<◌, ℕ, ◌+◌, refl, sym, ap, ◌∙◌, List, [], ◌∷◌, ◌++◌, length, replicate, get_or, set, zero, suc, take, drop, arith, append_assoc}
use Rattle.std.proofs.lemmas.List.{length-append, length-replicate, replicate-append-replicate, take_more, take-append-drop}
use Rattle.gb_ops.specs.declared.machine.Event.{Event}
use Rattle.gb_events.specs.declared.list.Repeated.{Repeated}
use Rattle.gb_events.specs.Replay.{events_of}

append_none : (xs : List Event) → xs ++ [] ≡ xs
append_none [] = refl
append_none (x ∷ xs) = ap (λ (ys : List Event). x ∷ ys) (append_none xs)

-- the events of a list behind another one
pub events_both : (first second : List Repeated) → events_of (first ++ second) ≡ events_of first ++ events_of second
unfolding events_of
events_both [] second = refl
events_both (item ∷ first) second =
    ap (λ (x : List Event). replicate item.count item.event ++ x) (events_both first second)
    ∙ sym (append_assoc (replicate item.count item.event) (events_of first) (events_of second))

events_one : (item : Repeated) → events_of (item ∷ []) ≡ replicate item.count item.event
unfolding events_of
events_one item = append_none (replicate item.count item.event)

-- one item more
pub pushed : (items new : List Repeated) (event : Event) (count : ℕ) → new ≡ items ++ record { event = event; count = count } ∷ []
    → events_of new ≡ events_of items ++ replicate count event
pushed items new event count is =
    ap events_of is ∙ events_both items (record { event = event; count = count } ∷ []) ∙ ap (λ (x : List Event). events_of items ++ x) (events_one (record { event = event; count = count }))

-- their number with an event so many times
pub pushed_total : (new old : List Repeated) (event : Event) (count total all : ℕ) → all ≡ total + count → total ≡ length (events_of old) → events_of new ≡ events_of old ++ replicate count event
    → all ≡ length (events_of new)
pushed_total new old event count total all is was more =
    omega (arith, is, was, ap length more, length-append (events_of old) (replicate count event), length-replicate count event)

-- the same event once more often
pub as_one : (first second : Event) (n m : ℕ) → first ≡ second → replicate (n + m) second ≡ replicate n first ++ replicate m second
as_one first second n m is = sym (replicate-append-replicate n m second) ∙ ap (λ (e : Event). replicate n e ++ replicate m second) (sym is)

-- the last item with more events
pub widened : (items : List Repeated) (i : ℕ) (last item d : Repeated) (more : List Event) → i + 1 ≡ length items → last ≡ get_or items i d
    → replicate item.count item.event ≡ replicate last.count last.event ++ more → events_of (set items i item) ≡ events_of items ++ more
unfolding events_of
widened [] i last item d more at is wide = absurd (omega arith)
widened (x ∷ []) zero last item d more at is wide =
    append_none (replicate item.count item.event) ∙ wide
    ∙ ap (λ (y : Repeated). replicate y.count y.event ++ more) is
    ∙ ap (λ (ys : List Event). ys ++ more) (sym (append_none (replicate x.count x.event)))
widened (x ∷ []) (suc i) last item d more at is wide = absurd (omega arith)
widened (x ∷ y ∷ items) zero last item d more at is wide = absurd (omega arith)
widened (x ∷ y ∷ items) (suc i) last item d more at is wide =
    ap (λ (ys : List Event). replicate x.count x.event ++ ys) (widened (y ∷ items) i last item d more (omega arith) is wide)
    ∙ sym (append_assoc (replicate x.count x.event) (events_of (y ∷ items)) more)

-- the events of the items up to the next one
pub events_more : (items : List Repeated) (i : ℕ) (item d : Repeated) → i < length items → item ≡ get_or items i d → events_of (take (i + 1) items) ≡ events_of (take i items) ++ replicate item.count item.event
events_more items i item d lt is =
    ap events_of (take_more items i d lt) ∙ ap (λ (x : Repeated). events_of (take i items ++ x ∷ [])) (sym is) ∙ events_both (take i items) (item ∷ [])
    ∙ ap (λ (x : List Event). events_of (take i items) ++ x) (events_one item)

-- and those behind it
pub events_split : (items : List Repeated) (i : ℕ) (item d : Repeated) → i < length items → item ≡ get_or items i d
    → events_of items ≡ events_of (take i items) ++ replicate item.count item.event ++ events_of (drop (i + 1) items)
events_split items i item d lt is =
    ap events_of (sym (take-append-drop (i + 1) items)) ∙ events_both (take (i + 1) items) (drop (i + 1) items)
    ∙ ap (λ (x : List Event). x ++ events_of (drop (i + 1) items)) (events_more items i item d lt is)
