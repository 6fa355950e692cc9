-- Items that change hands stand for the same bytes.
use Rattle.std.proofs.Common.{◌≡◌, ℕ, suc, ◌+◌, ◌-◌, ◌≤◌, ◌<◌, true, List, [], ◌∷◌, ◌++◌, length, map, refl, sym, ap, subst, arith, length-drop}
use Rattle.std.proofs.lemmas.List.{take-append-drop, length-append, length-map, length-take-le}
use Rattle.gb_ops.specs.Memory.{Storage}
use Rattle.gb_domain.specs.declared.types.Origin.TheVariants.{ReturnHigh, ReturnLow}
use Rattle.gb_domain.specs.declared.types.Val.{Val}
use Rattle.gb_domain.specs.Types.{AbsState}
use Rattle.gb_product.specs.Below.gb_abs.Meaning.{Activation, AreItems, MeansParts, is_located}
use Rattle.gb_product.specs.Below.gb_abs.Storage.{peek}
use Rattle.gb_product.proofs.Below.gb_abs_laws.StorageLaws.{AreItems-same}
use Rattle.gb_product.proofs.Below.gb_abs_laws.OriginLaws.{Holds-own, Holds-without_origin}
use Rattle.gb_calls.specs.TakenOver.{newest, waiting, returning, taken_over, base_below, given_back_items}

-- ---- two lists end to end

AreItems-left : (xs ys : List Val) (entry : Activation) (top : ℕ) (s : Storage) → AreItems (xs ++ ys) entry top s → AreItems xs entry top s
AreItems-left [] ys entry top s h = tt
AreItems-left (x ∷ xs) ys entry top s h = (h.0, AreItems-left xs ys entry (top - 1) s h.1)

AreItems-right : (xs ys : List Val) (entry : Activation) (top : ℕ) (s : Storage) → AreItems (xs ++ ys) entry top s → AreItems ys entry (top - length xs) s
AreItems-right [] ys entry top s h = let e : top ≡ top - 0 = omega arith in subst (λ n. AreItems ys entry n s) e h
AreItems-right (x ∷ xs) ys entry top s h =
    let e : top - 1 - length xs ≡ top - suc (length xs) = omega arith in subst (λ n. AreItems ys entry n s) e (AreItems-right xs ys entry (top - 1) s h.1)

AreItems-both : (xs ys : List Val) (entry : Activation) (top : ℕ) (s : Storage) → AreItems xs entry top s → AreItems ys entry (top - length xs) s → AreItems (xs ++ ys) entry top s
AreItems-both [] ys entry top s h k = let e : top - 0 ≡ top = omega arith in subst (λ n. AreItems ys entry n s) e k
AreItems-both (x ∷ xs) ys entry top s h k =
    let e : top - suc (length xs) ≡ top - 1 - length xs = omega arith in
    (h.0, AreItems-both xs ys entry (top - 1) s h.1 (subst (λ n. AreItems ys entry n s) e k))

-- ---- put on: the callee's items are the caller's newest

-- the last two are the bytes at SP
AreItems-returning : (items : List Val) (entry s : Activation) (top : ℕ) → s.entered.processor.sp + length items ≡ top → AreItems items entry top s.entered.storage → AreItems (returning items) s top s.entered.storage
AreItems-returning [] entry s top e h = tt
AreItems-returning (low ∷ []) entry s top e h =
    let at : top - 1 ≡ s.entered.processor.sp = omega arith in (Holds-own ReturnLow low entry s _ h.0 (ap (peek s.entered.storage) at), tt)
AreItems-returning (high ∷ low ∷ []) entry s top e h =
    let above : top - 1 ≡ s.entered.processor.sp + 1 = omega arith in
    let at : top - 1 - 1 ≡ s.entered.processor.sp = omega arith in
    (Holds-own ReturnHigh high entry s _ h.0 (ap (peek s.entered.storage) above), (Holds-own ReturnLow low entry s _ h.1.0 (ap (peek s.entered.storage) at), tt))
AreItems-returning (v ∷ w ∷ u ∷ rest) entry s top e h =
    (Holds-without_origin v entry s _ h.0, AreItems-returning (w ∷ u ∷ rest) entry s (top - 1) (omega arith) h.1)

-- a list in its two parts
two_parts : (k : ℕ) (items : List Val) → waiting k items ++ newest k items ≡ items
two_parts k items = take-append-drop (length items - k) items

parted : (k : ℕ) (items : List Val) (entry : Activation) (top : ℕ) (s : Storage) → AreItems items entry top s → AreItems (waiting k items ++ newest k items) entry top s
parted k items entry top s h = subst (λ (xs : List Val). AreItems xs entry top s) (sym (two_parts k items)) h

waiting-length : (k : ℕ) (items : List Val) → length (waiting k items) ≡ length items - k
waiting-length k items = length-take-le (length items - k) items (omega arith)

-- what a caller's state means as its callee is entered, the callee's base and items mean too
pub taken_over-items :
    (k : ℕ) (state : AbsState) (entry : Activation) (base : ℕ) (s : Activation)
    → k ≤ length state.items → is_located state ≡ true → MeansParts state entry base s.entered
    → AreItems (taken_over k state.items) s (base_below k state.items base) s.entered.storage
unfolding taken_over
taken_over-items k state entry base s few set m =
    let whole : AreItems (waiting k state.items ++ newest k state.items) entry base s.entered.storage = parted k state.items entry base s.entered.storage m.items in
    let right = AreItems-right (waiting k state.items) (newest k state.items) entry base s.entered.storage whole in
    let newer : AreItems (newest k state.items) entry (base_below k state.items base) s.entered.storage =
    subst (λ n. AreItems (newest k state.items) entry (base - n) s.entered.storage) (waiting-length k state.items) right in
    AreItems-returning (newest k state.items) entry s _ (pointer k state.items s.entered.processor.sp base few (m.stack set)) newer
  where
    pointer : (k : ℕ) (items : List Val) (sp base : ℕ) → k ≤ length items → sp + length items ≡ base → sp + length (newest k items) ≡ base_below k items base
    pointer k items sp base few e = let n = length-drop (length items - k) items in omega arith

length-returning : (items : List Val) → length (returning items) ≡ length items
length-returning [] = refl
length-returning (low ∷ []) = refl
length-returning (high ∷ low ∷ []) = refl
length-returning (v ∷ w ∷ u ∷ rest) = ap suc (length-returning (w ∷ u ∷ rest))

-- SP as the callee begins: its base less what it holds then
pub taken_over-pointer :
    (k : ℕ) (items : List Val) (sp base : ℕ) → k ≤ length items → sp + length items ≡ base → sp + length (taken_over k items) ≡ base_below k items base
unfolding taken_over
taken_over-pointer k items sp base few e =
    let same = length-returning (newest k items) in
    let n = length-drop (length items - k) items in
    omega arith

-- ---- taken off: nobody has written at or above the callee's base, so the caller's waiting items stand

pub given_back-items :
    (k : ℕ) (items given : List Val) (entry : Activation) (base : ℕ) (s t : Storage)
    → k ≤ length items → length items ≤ base → AreItems items entry base s
    → ((b : ℕ) → base_below k items base ≤ b → b < base → peek t b ≡ peek s b)
    → AreItems given entry (base_below k items base) t → AreItems (given_back_items k items given) entry base t
unfolding given_back_items
given_back-items k items given entry base s t few room held same left =
    let whole : AreItems (waiting k items ++ newest k items) entry base s = parted k items entry base s held in
    let before : AreItems (waiting k items) entry base s = AreItems-left (waiting k items) (newest k items) entry base s whole in
    let count = waiting-length k items in
    let now : AreItems (waiting k items) entry base t = AreItems-same (waiting k items) entry (base_below k items base) base s t (bounded k items base count room) same before in
    AreItems-both (waiting k items) given entry base t now (subst (λ n. AreItems given entry (base - n) t) (sym count) left)
  where
    bounded : (k : ℕ) (items : List Val) (base : ℕ) → length (waiting k items) ≡ length items - k → length items ≤ base → base_below k items base + length (waiting k items) ≤ base
    bounded k items base count room = omega arith

-- SP as the caller goes on: base less what it holds then
pub given_back-pointer : (k : ℕ) (items given : List Val) (base sp : ℕ) → k ≤ length items → length items ≤ base → sp + length given ≡ base_below k items base
    → sp + length (given_back_items k items given) ≡ base
unfolding given_back_items
given_back-pointer k items given base sp few room e =
    let count = waiting-length k items in
    let all = length-append (waiting k items) given in
    omega arith

-- ---- how many there are

pub given_back_few :
    (k : ℕ) (held given : List Val) → (length held - k) + length given ≤ 255 → length (given_back_items k held given) ≤ 255
unfolding given_back_items
given_back_few k held given few =
    let count = waiting-length k held in
    let all = length-append (waiting k held) given in
    omega arith

pub given_back_fits :
    (k : ℕ) (held given : List Val) → 255 < (length held - k) + length given → 255 < length (given_back_items k held given)
unfolding given_back_items
given_back_fits k held given many =
    let count = waiting-length k held in
    let all = length-append (waiting k held) given in
    omega arith

-- given back as something else each, they are as many
pub given_back-count :
    (k : ℕ) (held exit : List Val) (f : Val → Val) → length (given_back_items k held (map f exit)) ≡ length (given_back_items k held exit)
unfolding given_back_items
given_back-count k held exit f =
    let all = length-append (waiting k held) exit in
    let other = length-append (waiting k held) (map f exit) in
    let same = length-map exit f in
    omega arith
