-- Bytes of the stack, taken off and put on, and what is held of them where SP is set (own; CPU instruction set: stack manipulation instructions).
use Rattle.std.specs.Prelude.{◌≡◌, ℕ, ◌+◌, ◌-◌, ◌%◌, true, ◌++◌, length, take, replicate, None}
use Rattle.gb_ops.specs.declared.machine.Region.{Region}
use Rattle.gb_ops.specs.Effects.{with_sp}
use Rattle.gb_ops.specs.Play.{MState}
use Rattle.gb_domain.specs.Areas.{IsRegion}
use Rattle.gb_domain.specs.Types.{AbsState}
use Rattle.gb_vals.specs.Vals.{any_val}
use Rattle.gb_abs.specs.Meaning.{Activation, MeansParts, is_located}
use Rattle.gb_abs.specs.Stack.{AreInRegion}

-- the newest bytes are taken off
unfoldable pub without_newest : ℕ → AbsState → AbsState
without_newest k s = record s { items = take (length s.items - k) s.items }

-- bytes of any value are put on
unfoldable pub with_any_bytes : ℕ → AbsState → AbsState
with_any_bytes k s = record s { items = s.items ++ replicate k any_val }

-- the stack is set, and not put aside, so that it holds n bytes: the oldest n stay, and bytes of any value are behind them where there are fewer
unfoldable pub resized : ℕ → AbsState → AbsState
resized n s =
    record s {
      core = record s.core { stack_set = true };
      summary = record s.summary { aside = None };
      items = take n s.items ++ replicate (n - length s.items) any_val;
    }

-- ---- what that promises

-- of each of these states, with SP where the items end, where SP moves up by as many
pub record IsSoundTaking (k : ℕ) (s after : AbsState) : Type 0 where
  pub gives :
      (region : Region) (entry : Activation) (base : ℕ) (x : MState)
      → MeansParts s entry base x → is_located s ≡ true → AreInRegion region base (length s.items) → IsRegion region
      → MeansParts after entry base (record x { processor = with_sp x.processor ((x.processor.sp + k) % 65536) })

-- of each of these states, with SP where the items end and room for the bytes, where SP moves down by as many
pub record IsSoundAppending (k : ℕ) (s after : AbsState) : Type 0 where
  pub gives :
      (region : Region) (entry : Activation) (base : ℕ) (x : MState)
      → MeansParts s entry base x → is_located s ≡ true → AreInRegion region base (length s.items + k) → IsRegion region
      → MeansParts after entry base (record x { processor = with_sp x.processor ((x.processor.sp + (65536 - k)) % 65536) })

-- of each of these states, its stack set or not, where SP is set to as many bytes below the base
pub record IsSoundResizing (n : ℕ) (s after : AbsState) : Type 0 where
  pub gives :
      (region : Region) (entry : Activation) (base : ℕ) (x : MState)
      → MeansParts s entry base x → AreInRegion region base n → IsRegion region
      → MeansParts after entry base (record x { processor = with_sp x.processor (base - n) })
