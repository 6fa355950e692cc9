-- What the opcode table gives: its operands are bytes and words, and its lengths are those by the opcode.
use Rattle.std.proofs.Common.{◌≡◌, ℕ, ◌+◌, ◌-◌, ◌*◌, ◌/◌, ◌<◌, Bool, true, false, ◌==◌, nat_lt, List, [], ◌∷◌, slice_index, Option, Some, None, refl, sym, ◌∙◌, ap, subst, arith}
use Rattle.std.proofs.lemmas.Bool.{and_parts}
use Rattle.std.proofs.lemmas.Bool.Decides.{nat_tests}
use Rattle.std.specs.Prelude.{IfSome}
use Rattle.std.specs.List.{AllByRecursion}
use Rattle.gb_ops.specs.declared.op.Row.{Row}
use Rattle.gb_ops.specs.Table.{Line, has, table, prefixed_table, row_in, row_of, decoded}
use Rattle.gb_ops.specs.Machine.{length_of}
use Rattle.gb_abs_effects.specs.Sound.{HasBytes}

-- ---- a fact of each row of a table

below : (a b : ℕ) → nat_lt a b ≡ true → a < b
below a b h = grind (arith, nat_tests)

number-below : (line : Line) (opcode : ℕ) → has line opcode ≡ true → (opcode - line.first) / line.apart < line.count
number-below line opcode h = below _ _ (and_parts _ _ (and_parts _ _ h).1).1

abbrev AreRows : (Row → Type 0) → ℕ → ℕ → List Line → Type 0
AreRows P b w lines = AllByRecursion (λ line. (k : ℕ) → k < line.count → P (line.row_at k b w)) lines

row_in-of : (P : Row → Type 0) (lines : List Line) (opcode b w : ℕ) → AreRows P b w lines → IfSome (row_in lines opcode b w) P
unfolding row_in
row_in-of P [] opcode b w h = tt
row_in-of P (line ∷ lines) opcode b w h = choose (has line opcode) refl (row_in-of P lines opcode b w h.1)
  where
    choose :
        (c : Bool) → has line opcode ≡ c → IfSome (row_in lines opcode b w) P
        → IfSome (elim c [ true ↦ Some (line.row_at ((opcode - line.first) / line.apart) b w) | false ↦ row_in lines opcode b w ]) P
    choose true e rest = h.0 _ (number-below line opcode e)
    choose false e rest = rest

of-some : {X : Type 0} (P : X → Type 0) (o : Option X) (x : X) → o ≡ Some x → IfSome o P → P x
of-some P o x e h = subst (λ k. IfSome k P) e h

-- ---- operands

vector-small : (k : ℕ) → k < 8 → 8 * k < 256
vector-small k h = omega arith

HasBytes-table : (b w : ℕ) → b < 256 → w < 65536 → AreRows (λ row. HasBytes row.op) b w table
unfolding table
HasBytes-table b w byte word = search arith

HasBytes-prefixed : AreRows (λ row. HasBytes row.op) 0 0 prefixed_table
unfolding prefixed_table
HasBytes-prefixed = (λ k h. tt, (λ k h. tt, (λ k h. tt, (λ k h. tt, tt))))

HasBytes-row_of : (opcode low high : ℕ) → low < 256 → high < 256 → IfSome (row_of opcode low high) (λ row. HasBytes row.op)
unfolding row_of
HasBytes-row_of opcode low high l h = choose (opcode == 0xCB)
  where
    word : low + 256 * high < 65536
    word = omega arith

    choose : (c : Bool) → IfSome (elim c [ true ↦ row_in prefixed_table low 0 0 | false ↦ row_in table opcode low (low + 256 * high) ]) (λ row. HasBytes row.op)
    choose true = row_in-of (λ row. HasBytes row.op) prefixed_table low 0 0 HasBytes-prefixed
    choose false = row_in-of (λ row. HasBytes row.op) table opcode low (low + 256 * high) (HasBytes-table low (low + 256 * high) l word)

-- the operands of an instruction that is decoded from bytes
pub HasBytes-decoded :
    (bytes : List ℕ) (row : Row) → slice_index bytes 1 < 256 → slice_index bytes 2 < 256 → decoded bytes ≡ Some row → HasBytes row.op
HasBytes-decoded bytes row l h e = of-some (λ r. HasBytes r.op) _ row e (HasBytes-row_of (slice_index bytes 0) _ _ l h)

-- ---- lengths

-- the length of a row; an opcode without one has length 1
abbrev length_in : Option Row → ℕ
length_in None = 1
length_in (Some row) = row.length

abbrev AreAlike : ℕ → ℕ → List Line → Type 0
AreAlike b w lines = AllByRecursion (λ line. (k : ℕ) → (line.row_at k b w).length ≡ (line.row_at k 0 0).length) lines

length-row_in : (lines : List Line) (opcode b w : ℕ) → AreAlike b w lines → length_in (row_in lines opcode b w) ≡ length_in (row_in lines opcode 0 0)
unfolding row_in
length-row_in [] opcode b w h = refl
length-row_in (line ∷ lines) opcode b w h = choose (has line opcode) (length-row_in lines opcode b w h.1)
  where
    choose :
        (c : Bool) → length_in (row_in lines opcode b w) ≡ length_in (row_in lines opcode 0 0)
        → length_in (elim c [ true ↦ Some (line.row_at ((opcode - line.first) / line.apart) b w) | false ↦ row_in lines opcode b w ])
        ≡ length_in (elim c [ true ↦ Some (line.row_at ((opcode - line.first) / line.apart) 0 0) | false ↦ row_in lines opcode 0 0 ])
    choose true rest = h.0 _
    choose false rest = rest

AreAlike-table : (b w : ℕ) → AreAlike b w table
unfolding table
AreAlike-table b w = search arith

prefixed-two : AreRows (λ row. row.length ≡ 2) 0 0 prefixed_table
unfolding prefixed_table
prefixed-two = (λ k h. refl, (λ k h. refl, (λ k h. refl, (λ k h. refl, tt))))

length_of-is : (opcode : ℕ) → length_of opcode ≡ length_in (row_of opcode 0 0)
unfolding length_of
length_of-is opcode = choose (row_of opcode 0 0)
  where
    choose : (o : Option Row) → elim o [ None ↦ 1 | Some row ↦ row.length ] ≡ length_in o
    choose None = refl
    choose (Some row) = refl

-- that of 00 too
first-two : length_in (row_in prefixed_table 0 0 0) ≡ 2
unfolding row_in prefixed_table
first-two = refl

length-row_of : (opcode low high : ℕ) (row : Row) → row_of opcode low high ≡ Some row → row.length ≡ length_in (row_of opcode 0 0)
unfolding row_of
length-row_of opcode low high row = choose (opcode == 0xCB)
  where
    choose :
        (c : Bool) → elim c [ true ↦ row_in prefixed_table low 0 0 | false ↦ row_in table opcode low (low + 256 * high) ] ≡ Some row
        → row.length ≡ length_in (elim c [ true ↦ row_in prefixed_table 0 0 0 | false ↦ row_in table opcode 0 (0 + 256 * 0) ])
    choose true e = of-some (λ r. r.length ≡ 2) _ row e (row_in-of (λ r. r.length ≡ 2) prefixed_table low 0 0 prefixed-two) ∙ sym first-two
    choose false e = sym (ap length_in e) ∙ length-row_in table opcode low (low + 256 * high) (AreAlike-table low (low + 256 * high))

-- the length of an instruction is the one by its opcode
pub length-decoded : (bytes : List ℕ) (row : Row) → decoded bytes ≡ Some row → row.length ≡ length_of (slice_index bytes 0)
length-decoded bytes row e = length-row_of (slice_index bytes 0) _ _ row e ∙ sym (length_of-is (slice_index bytes 0))
