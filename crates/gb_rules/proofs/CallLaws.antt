-- What a call leaves on the stack, and where the callee begins.
use Rattle.std.proofs.Common.{◌≡◌, ℕ, ◌+◌, ◌-◌, ◌*◌, ◌/◌, ◌%◌, ◌≤◌, ◌<◌, true, List, [], ◌∷◌, ◌++◌, length, sym, ◌∙◌, ap, subst, arith, length-append}
use Rattle.std.proofs.lemmas.Bool.Decides.{nat_tests}
use Rattle.gb_ops.specs.declared.machine.Region.{Region}
use Rattle.gb_ops.specs.Memory.{Storage}
use Rattle.gb_ops.specs.Pairs.{word}
use Rattle.gb_ops.specs.Play.{MState}
use Rattle.gb_successors.specs.Below.gb_domain.declared.types.Core.{Core}
use Rattle.gb_successors.specs.Below.gb_domain.declared.types.Val.{Val}
use Rattle.gb_successors.specs.Below.gb_domain.declared.types.Halves.{Halves}
use Rattle.gb_successors.specs.Below.gb_domain.Types.{AbsState}
use Rattle.gb_successors.specs.Below.gb_domain.Areas.{IsRegion}
use Rattle.gb_successors.proofs.Below.gb_product_laws.SummaryLaws.{IsSummarized-quiet}
use Rattle.gb_successors.specs.Below.gb_domain.Summaries.{no_summary}
use Rattle.gb_successors.specs.Below.gb_product.Meaning.{Means}
use Rattle.gb_successors.specs.Below.gb_abs.Meaning.{Activation, Holds, MeansCore, AreItems, MeansParts, is_located}
use Rattle.gb_successors.specs.Below.gb_abs.Stack.{pushed}
use Rattle.gb_successors.specs.Below.gb_abs.Storage.{peek}
use Rattle.gb_calls.specs.Sound.{without_word}
use Rattle.gb_successors.specs.Below.gb_abs_effects.Pairs.{known_word}

-- ---- the bytes that are held, and the word behind them

MeansCore-without_word : (core : Core) (entry : Activation) (x : MState) → MeansCore core entry x → MeansCore core entry (without_word x)
MeansCore-without_word core entry x m = record {
  registers = m.registers;
  flags = m.flags;
  ie = m.ie;
  ime = m.ime;
  controller = m.controller;
  count = m.count;
  locked = m.locked;
  stopped = m.stopped;
}

AreItems-fewer : (items : List Val) (w : Halves) (entry : Activation) (top : ℕ) (t : Storage) → AreItems (items ++ w.high ∷ w.low ∷ []) entry top t → AreItems items entry top t
AreItems-fewer [] w entry top t h = tt
AreItems-fewer (v ∷ items) w entry top t h = (h.0, AreItems-fewer items w entry (top - 1) t h.1)

-- the word that was pushed last
record IsLast (w : Halves) (entry : Activation) (sp : ℕ) (t : Storage) : Type 0 where
  high : Holds w.high entry (peek t (sp + 1))
  low : Holds w.low entry (peek t sp)

last_word_is : (items : List Val) (w : Halves) (entry : Activation) (sp top : ℕ) (t : Storage) → sp + (length items + 2) ≡ top → AreItems (items ++ w.high ∷ w.low ∷ []) entry top t → IsLast w entry sp t
last_word_is [] w entry sp top t e h =
    let one : top - 1 ≡ sp + 1 = omega arith in
    let two : top - 1 - 1 ≡ sp = omega arith in
    record { high = subst (λ n. Holds w.high entry (peek t n)) one h.0; low = subst (λ n. Holds w.low entry (peek t n)) two h.1.0 }
last_word_is (v ∷ items) w entry sp top t e h = last_word_is items w entry sp (top - 1) t (omega arith) h.1

-- where SP stands behind a word more
pub sp_pushed : (w : Halves) (s : AbsState) (entry : Activation) (base : ℕ) (x : MState) → MeansParts (pushed w s) entry base x → is_located s ≡ true
    → x.processor.sp + (length s.items + 2) ≡ base
unfolding pushed
sp_pushed w s entry base x m set =
    let stack = m.stack set in
    let n : length (s.items ++ w.high ∷ w.low ∷ []) ≡ length s.items + 2 = length-append s.items (w.high ∷ w.low ∷ []) in
    ap (λ k. x.processor.sp + k) (sym n) ∙ stack

-- without the word that was pushed last
pub Means-without_word : (w : Halves) (s : AbsState) (entry : Activation) (base : ℕ) (x : MState) → Means (pushed w s) entry base x → s.summary ≡ no_summary → is_located s ≡ true → x.processor.sp + 2 < 65536
    → Means s entry base (without_word x)
unfolding pushed
Means-without_word w s entry base x m quiet set small =
    let sp = sp_pushed w s entry base x m.parts set in
    record {
      parts = record {
        core = MeansCore-without_word s.core entry x m.parts.core;
        memory = m.parts.memory;
        sp = small;
        stack = λ e. less (length s.items) sp;
        items = AreItems-fewer s.items w entry base x.storage m.parts.items;
        cells = m.parts.cells;
      };
      related = m.related;
      summary = IsSummarized-quiet s entry (without_word x) quiet;
    }
  where
    less : (n : ℕ) → x.processor.sp + (n + 2) ≡ base → x.processor.sp + 2 + n ≡ base
    less n e = omega arith

-- the word that was pushed last is found again
pub pushed_word : (w : ℕ) (s : AbsState) (entry : Activation) (base : ℕ) (x : MState) → MeansParts (pushed (known_word w) s) entry base x → is_located s ≡ true
    → word (peek x.storage (x.processor.sp + 1)) (peek x.storage x.processor.sp) ≡ w
unfolding pushed
pushed_word w s entry base x m set =
    let top = last_word_is s.items (known_word w) entry x.processor.sp base x.storage (sp_pushed (known_word w) s entry base x m set) m.items in
    joined (peek x.storage (x.processor.sp + 1)) (peek x.storage x.processor.sp) top.high.least top.high.most top.low.least top.low.most
  where
    joined : (high low : ℕ) → w / 256 ≤ high → high ≤ w / 256 → w % 256 ≤ low → low ≤ w % 256 → 256 * high + low ≡ w
    joined high low a b c d = omega arith

-- ---- the region

-- it ends below FFFF
pub region_end : (region : Region) → IsRegion region → region.last < 0xFFFF
region_end region r = let area = r.area in grind (arith, nat_tests)
