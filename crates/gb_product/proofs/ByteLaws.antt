-- What a state knows of a byte in RAM is a value, whatever the facts and fills are.
use Rattle.std.proofs.Common.{ℕ, ◌≤◌, ◌<◌, Bool, true, false, cond, List, [], ◌∷◌, take, Option, Some, None, refl, arith}
use Rattle.std.specs.Prelude.{IfSome}
use Rattle.gb_domain.specs.declared.interval.StridedInterval.{StridedInterval}
use Rattle.gb_domain.specs.declared.pairs.Bounds.{Bounds}
use Rattle.gb_domain.specs.declared.summary.Fact.{Fact}
use Rattle.gb_domain.specs.declared.summary.Fill.{Fill}
use Rattle.gb_domain.specs.declared.types.Cell.{Cell}
use Rattle.gb_domain.specs.Interval.{any_byte, cut}
use Rattle.gb_domain.specs.Meaning.{AreIn, Leaves, IsStrided, IsOfBytes}
use Rattle.gb_domain.specs.Rules.{IsVal}
use Rattle.gb_domain.specs.Summaries.{SummaryParts, Program}
use Rattle.gb_domain.specs.Values.{interval_of}
use Rattle.gb_domain.proofs.IntervalLaws.{IsOfBytes-any, cut_leaves, cut_strided}
use Rattle.gb_domain.proofs.ValueLaws.{IsStrided-val}
use Rattle.gb_abs_effects.specs.Below.gb_abs.Covering.{cell_at}
use Rattle.gb_abs_effects.proofs.Below.gb_abs_laws.WideningLaws.{IsVal-of_interval}
use Rattle.gb_summaries.specs.Below.gb_pairs.declared.values.Values.{Values}
use Rattle.gb_summaries.specs.Below.gb_ram_bounds.declared.pointers.Pointers.{Pointers}
use Rattle.gb_summaries.specs.Below.gb_ram_bounds.Cells.{cell_at as strided_at, is_there, has_cell}
use Rattle.gb_summaries.specs.Below.gb_ram_bounds.Covering.{cell_or, byte_at}
use Rattle.gb_summaries.specs.Below.gb_ram_bounds.Facts.{or_same, cut_or_same, has_address, cut_by_fact, cut_by_facts}
use Rattle.gb_summaries.specs.Below.gb_ram_bounds.Fills.{bytes_of, is_in_extent, cut_by_fill, cut_by_fills}
use Rattle.gb_summaries.specs.Known.{pointer_bounds}
use Rattle.gb_product.specs.Covering.{uncopied, byte_in}

-- a value that is cut
IsOfBytes-cut : (v w : StridedInterval) → IsOfBytes v → IsOfBytes (cut_or_same v w)
unfolding cut_or_same
IsOfBytes-cut v w h = by (cut v w) (cut_strided v w (cut v w) refl h.most) (cut_leaves v w (cut v w) refl)
  where
    by : (o : Option StridedInterval) → IfSome o IsStrided → Leaves (AreIn v w) o → IsOfBytes (or_same v o)
    by None s l = h
    by (Some u) s l =
        let top : u.hi ≤ v.hi = (l.only u.hi s.greatest).first.most in
        let byte : v.hi < 256 = h.most in
        record { strided = s; most = omega arith }

IsOfBytes-either : (b : Bool) (v w : StridedInterval) → IsOfBytes v → IsOfBytes w → IsOfBytes (cond b v w)
IsOfBytes-either true v w h g = h
IsOfBytes-either false v w h g = g

IsOfBytes-facts : (facts : List Fact) (a : ℕ) (v : StridedInterval) → IsOfBytes v → IsOfBytes (cut_by_facts facts a v)
unfolding cut_by_fact
IsOfBytes-facts [] a v h = h
IsOfBytes-facts (f ∷ facts) a v h =
    IsOfBytes-facts facts a (cut_by_fact f a v) (IsOfBytes-either (has_address f a) (cut_or_same v f.value) v (IsOfBytes-cut v f.value h) h)

IsOfBytes-fills : (p : Pointers Bounds) (fills : List Fill) (a : ℕ) (v : StridedInterval) → IsOfBytes v → IsOfBytes (cut_by_fills p fills a v)
unfolding cut_by_fill
IsOfBytes-fills p [] a v h = h
IsOfBytes-fills p (f ∷ fills) a v h =
    IsOfBytes-fills p fills a (cut_by_fill p f a v) (IsOfBytes-either (is_in_extent p f a) (cut_or_same v (bytes_of f)) v (IsOfBytes-cut v (bytes_of f) h) h)

pub IsVal-uncopied : (v : StridedInterval) → IsOfBytes v → IsVal (uncopied v)
IsVal-uncopied v h = IsVal-of_interval v None h

pub IsVal-byte_in : (program : Program) (v : Values) (cells : List Cell) (s : SummaryParts) (a : ℕ) → IsVal (cell_at a cells) → IsVal (byte_in program v cells s a)
unfolding byte_in byte_at has_cell
IsVal-byte_in program v cells s a cell = by (strided_at cells a)
  where
    facts : List Fact
    facts = take s.level program.facts

    by : (o : Option StridedInterval)
        → IsVal (cond (is_there o) (cell_at a cells) (uncopied (cell_or o (cut_by_fills (pointer_bounds v) s.fills a (cut_by_facts facts a any_byte)))))
    by (Some u) = cell
    by None =
        IsVal-uncopied _ (IsOfBytes-fills (pointer_bounds v) s.fills a (cut_by_facts facts a any_byte) (IsOfBytes-facts facts a any_byte IsOfBytes-any))

-- its bounds are those of bytes where its cell's are
pub byte_in-small : (program : Program) (v : Values) (cells : List Cell) (s : SummaryParts) (a : ℕ) → (cell_at a cells).hi < 256 → (byte_in program v cells s a).hi < 256
unfolding byte_in byte_at has_cell
byte_in-small program v cells s a cell = by (strided_at cells a)
  where
    facts : List Fact
    facts = take s.level program.facts

    by : (o : Option StridedInterval)
        → (cond (is_there o) (cell_at a cells) (uncopied (cell_or o (cut_by_fills (pointer_bounds v) s.fills a (cut_by_facts facts a any_byte))))).hi < 256
    by (Some u) = cell
    by None = (IsOfBytes-fills (pointer_bounds v) s.fills a (cut_by_facts facts a any_byte) (IsOfBytes-facts facts a any_byte IsOfBytes-any)).most

-- its bounds and low bits are those of bytes
pub IsOfBytes-byte_in : (program : Program) (v : Values) (cells : List Cell) (s : SummaryParts) (a : ℕ) → IsVal (cell_at a cells) → IsOfBytes (interval_of (byte_in program v cells s a))
IsOfBytes-byte_in program v cells s a cell =
    let is = IsVal-byte_in program v cells s a cell in
    record { strided = IsStrided-val (byte_in program v cells s a) is; most = is.hi }
