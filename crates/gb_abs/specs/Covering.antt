-- Covering: one abstract state stands for all that another one does (abstract interpretation: inclusion).
use Rattle.std.specs.Prelude.{ℕ, ◌+◌, ◌%◌, Bool, true, false, not, ◌&&◌, ◌||◌, ◌==◌, if◌then◌else◌, nat_le, List, [], ◌∷◌, Option, Some, None}
use Rattle.std.specs.List.{list_all}
use Rattle.gb_ops.specs.declared.machine.Kind.{Kind}
use Rattle.gb_ops.specs.declared.machine.Kind.TheVariants as kind
use Rattle.gb_ops.specs.declared.registers.Registers.{Registers}
use Rattle.gb_domain.specs.declared.types.Origin.{Origin}
use Rattle.gb_domain.specs.declared.types.Origin.TheVariants as origin
use Rattle.gb_domain.specs.declared.types.Val.{Val}
use Rattle.gb_domain.specs.declared.types.May.{May}
use Rattle.gb_domain.specs.declared.types.Flg.{Flg}
use Rattle.gb_domain.specs.declared.types.ImeSet.{ImeSet}
use Rattle.gb_domain.specs.declared.types.Ctl.{Ctl}
use Rattle.gb_domain.specs.declared.types.KeptBanks.{KeptBanks}
use Rattle.gb_domain.specs.declared.types.Cell.{Cell}
use Rattle.gb_domain.specs.declared.types.Core.{Core}
use Rattle.gb_domain.specs.Types.{AbsState}
use Rattle.gb_domain.specs.Values.{covers_low_bits}
use Rattle.gb_vals.specs.Vals.{any_val}

-- an origin's number, by which two origins are compared
abbrev pub origin_number : Origin → ℕ
origin_number origin.A = 1
origin_number origin.F = 2
origin_number origin.B = 3
origin_number origin.C = 4
origin_number origin.D = 5
origin_number origin.E = 6
origin_number origin.H = 7
origin_number origin.L = 8
origin_number origin.Ie = 9
origin_number origin.ReturnHigh = 10
origin_number origin.ReturnLow = 11
origin_number (origin.Kept i) = 30 + i
origin_number origin.MarkHigh = 28
origin_number origin.MarkLow = 29

-- one fact asks for another
abbrev pub implied : Bool → Bool → Bool
implied a b = not a || b

-- an origin is asked for only where there is one, and then it must be equal
abbrev pub covers_origin : Option Origin → Option Origin → Bool
covers_origin from None = true
covers_origin None (Some to) = false
covers_origin (Some from) (Some to) = origin_number from == origin_number to

-- t's bounds hold s's, what t says of low bits s says too, and s is a copy of what t is a copy of
unfoldable pub covers_val : Val → Val → Bool
covers_val s t =
    nat_le t.lo s.lo && nat_le s.hi t.hi && covers_low_bits s t && covers_origin s.origin t.origin

abbrev pub covers_may : May → May → Bool
covers_may s t = implied s.set t.set && implied s.clear t.clear

unfoldable pub covers_flags : Flg → Flg → Bool
covers_flags s t =
    covers_may s.zero t.zero && covers_may s.subtract t.subtract && covers_may s.half_carry t.half_carry
    && covers_may s.carry t.carry && implied t.is_own s.is_own

unfoldable pub covers_ime : ImeSet → ImeSet → Bool
covers_ime s t = implied s.off t.off && implied s.pending t.pending && implied s.on t.on

-- what is kept by t's account is by s's
unfoldable pub covers_kept : KeptBanks → KeptBanks → Bool
covers_kept s t =
    implied t.bank s.bank && implied t.second s.second && implied t.gate s.gate && implied t.mode s.mode
    && implied t.high_bank s.high_bank

-- of MBC5 the low eight bits of the bank have bounds of their own
unfoldable pub covers_low_bank : Kind → Ctl → Ctl → Bool
covers_low_bank kind.Mbc5 s t = nat_le (t.bank_lo % 256) (s.bank_lo % 256) && nat_le (s.bank_hi % 256) (t.bank_hi % 256)
covers_low_bank _ s t = true

unfoldable pub covers_controller : Kind → Ctl → Ctl → Bool
covers_controller k s t =
    covers_low_bank k s t && nat_le t.bank_lo s.bank_lo && nat_le s.bank_hi t.bank_hi && nat_le t.second_lo s.second_lo
    && nat_le s.second_hi t.second_hi && covers_may s.gate t.gate && covers_may s.mode t.mode && covers_kept s.kept t.kept

unfoldable pub covers_registers : Registers Val → Registers Val → Bool
covers_registers s t =
    covers_val s.a t.a && covers_val s.b t.b && covers_val s.c t.c && covers_val s.d t.d && covers_val s.e t.e
    && covers_val s.h t.h && covers_val s.l t.l

-- with this controller
unfoldable pub covers_core : Kind → Core → Core → Bool
covers_core k s t =
    covers_registers s.registers t.registers && covers_flags s.flags t.flags && covers_val s.ie t.ie && covers_ime s.ime t.ime
    && covers_controller k s.ctl t.ctl && nat_le s.bound t.bound && implied t.stack_set s.stack_set

-- equally many, each covered
abbrev pub covers_items : List Val → List Val → Bool
covers_items [] [] = true
covers_items [] (t ∷ ts) = false
covers_items (s ∷ ss) [] = false
covers_items (s ∷ ss) (t ∷ ts) = covers_val s t && covers_items ss ts

-- what is known of the byte at an address: any where there is no cell
abbrev pub cell_at : ℕ → List Cell → Val
cell_at a [] = any_val
cell_at a (c ∷ cs) = if c.address == a then c.val else cell_at a cs

unfoldable pub covers_cells : List Cell → List Cell → Bool
covers_cells s t = list_all (λ c. covers_val (cell_at c.address s) c.val) t

-- each part of t stands for what that part of s stands for, by itself
unfoldable pub covers_parts : Kind → AbsState → AbsState → Bool
covers_parts k s t = covers_core k s.core t.core && covers_items s.items t.items && covers_cells s.cells t.cells
