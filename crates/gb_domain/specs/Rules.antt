-- Which values, cores, words and cells there are (own format).
use Rattle.std.specs.Prelude.{◌≡◌, ℕ, ◌+◌, ◌≤◌, ◌<◌, Bool, true, false, ◌||◌, List, [], ◌∷◌}
use Rattle.gb_ops.specs.declared.machine.Region.{Region}
use Rattle.gb_ops.specs.declared.op.Register.{Register}
use Rattle.gb_ops.specs.Registers.{get}
use Rattle.gb_domain.specs.declared.types.Val.{Val}
use Rattle.gb_domain.specs.declared.types.May.{May}
use Rattle.gb_domain.specs.declared.types.Flg.{Flg}
use Rattle.gb_domain.specs.declared.types.ImeSet.{ImeSet}
use Rattle.gb_domain.specs.declared.types.Ctl.{Ctl}
use Rattle.gb_domain.specs.declared.types.Core.{Core}
use Rattle.gb_domain.specs.declared.types.Halves.{Halves}
use Rattle.gb_domain.specs.declared.types.Cell.{Cell}
use Rattle.gb_domain.specs.Areas.{is_area, meets}
use Rattle.gb_domain.specs.Values.{is_strided}

-- Each element is right, by what the one before it leaves; s is what the first begins with.
abbrev pub IsChain : {S X : Type 0} → (S → X → Type 0) → (X → S) → S → List X → Type 0
IsChain good next s [] = Unit {0}
IsChain good next s (x ∷ xs) = good s x × IsChain good next (next x) xs

-- ---- values

-- An interval of bytes, or of those bytes in it that have the low bits of its ends.
pub record IsVal (v : Val) : Type 0 where
  pub order : v.lo ≤ v.hi
  pub hi : v.hi < 256
  pub strided : is_strided v ≡ true

-- the bit has a value
abbrev pub has_value : May → Bool
has_value m = m.clear || m.set

-- Each flag has a value.
pub record IsFlg (f : Flg) : Type 0 where
  pub zero : has_value f.zero ≡ true
  pub subtract : has_value f.subtract ≡ true
  pub half_carry : has_value f.half_carry ≡ true
  pub carry : has_value f.carry ≡ true

-- An interval of bank numbers, the greatest 511, one of bytes, and two bits with values.
pub record IsCtl (c : Ctl) : Type 0 where
  pub bank : c.bank_lo ≤ c.bank_hi
  pub bank_hi : c.bank_hi ≤ 511
  pub second : c.second_lo ≤ c.second_hi
  pub second_hi : c.second_hi < 256
  pub gate : has_value c.gate ≡ true
  pub mode : has_value c.mode ≡ true

abbrev pub may_be_any : ImeSet → Bool
may_be_any i = i.off || i.pending || i.on

-- The interrupt master enable has a value, the transfer bound is at most 161, and the parts are such.
pub record IsCore (c : Core) : Type 0 where
  pub ime : may_be_any c.ime ≡ true
  pub bound : c.bound ≤ 161
  pub ctl : IsCtl c.ctl
  pub flags : IsFlg c.flags
  pub ie : IsVal c.ie
  pub registers : (r : Register) → IsVal (get r c.registers)

pub record IsWord (w : Halves) : Type 0 where
  pub high : IsVal w.high
  pub low : IsVal w.low

-- ---- cells

-- A cell is a byte of RAM outside the region, from the least address on.
pub record IsCell (region : Region) (least : ℕ) (c : Cell) : Type 0 where
  pub order : least ≤ c.address
  pub area : is_area c.address c.address ≡ true
  pub apart : meets region c.address c.address ≡ false
  pub val : IsVal c.val

-- the least address of the next
abbrev pub after_cell : Cell → ℕ
after_cell c = c.address + 1
