-- What stands in bytes that have been checked: the core at their front, each field at its place, and lists. A value stands in three bytes
-- by all versions; of versions 1 to 3 the third of them is below 12 (own format).
use Rattle.std.specs.Prelude.{ℕ, ◌+◌, Bool, true, false, ◌&&◌, ◌==◌, List, [], ◌∷◌, slice_index, Option}
use Rattle.gb_ops.specs.declared.registers.Registers.{Registers}
use Rattle.gb_domain.specs.declared.types.Cell.{Cell}
use Rattle.gb_domain.specs.declared.types.Val.{Val}
use Rattle.gb_domain.specs.declared.types.Flg.{Flg}
use Rattle.gb_domain.specs.declared.types.Ctl.{Ctl}
use Rattle.gb_domain.specs.declared.types.Core.{Core}
use Rattle.gb_domain.specs.declared.types.KeptBanks.{KeptBanks}
use Rattle.gb_domain.specs.Types.{all_or_none}
use Rattle.gb_domain.specs.declared.rules.Rules.TheVariants.{Simple, Extended}
use Rattle.gb_states.specs.declared.form.Form.{Form}
use Rattle.gb_states.specs.declared.form.Form.TheVariants.{Older, Fourth}
use Rattle.gb_fields.specs.Reading.{word_of, is_one}
use Rattle.gb_states.specs.Reading.{to_may, to_ime, to_test, to_flags, to_flg, is_two}
use Rattle.gb_states.specs.WholeReading.{to_val, to_kept}

abbrev pub val_in : List ℕ → ℕ → Val
val_in b i = to_val ((slice_index b i, slice_index b (i + 1)), slice_index b (i + 2))

abbrev pub flg_in : ℕ → ℕ → Flg
flg_in bits own = to_flg (to_flags bits, is_two own)

-- what is kept of the controller: in version 4 five bits, before it all or nothing
abbrev pub kept_in : Bool → ℕ → KeptBanks
kept_in true n = to_kept n
kept_in false n = all_or_none (is_one n)

-- whether of version 4
abbrev pub ctl_in : Bool → List ℕ → Ctl
ctl_in fourth b = record {
  bank_lo = word_of (slice_index b 5, slice_index b 6);
  bank_hi = word_of (slice_index b 7, slice_index b 8);
  second_lo = slice_index b 9;
  second_hi = slice_index b 10;
  gate = to_may (slice_index b 11);
  mode = to_may (slice_index b 12);
  kept = kept_in fourth (slice_index b 13);
}

abbrev pub vals_in : List ℕ → Registers Val
vals_in b = record { a = val_in b 19; b = val_in b 22; c = val_in b 25; d = val_in b 28; e = val_in b 31; h = val_in b 34; l = val_in b 37 }

abbrev pub core_in : Bool → List ℕ → Core
core_in fourth b = record {
  ime = to_ime (slice_index b 0);
  bound = slice_index b 1;
  stack_set = is_one (slice_index b 2);
  ctl = ctl_in fourth b;
  flags = flg_in (slice_index b 14) (slice_index b 15);
  ie = val_in b 16;
  registers = vals_in b;
}

-- the test that stands in it
abbrev pub test_in : List ℕ → Option ℕ
test_in b = to_test (is_one (slice_index b 3), slice_index b 4)

abbrev pub begins_with_zero : List ℕ → Bool
begins_with_zero [] = false
begins_with_zero (n ∷ rest) = n == 0

abbrev pub begins_with_zeros : List ℕ → Bool
begins_with_zeros [] = false
begins_with_zeros (n ∷ rest) = n == 0 && begins_with_zero rest

abbrev pub are_three_zeros : List ℕ → Bool
are_three_zeros [] = false
are_three_zeros (n ∷ rest) = n == 0 && begins_with_zeros rest

abbrev pub are_four_zeros : List ℕ → Bool
are_four_zeros [] = false
are_four_zeros (n ∷ rest) = n == 0 && are_three_zeros rest

-- Behind the core stand the number of items, from version 3 on what is known of several parts together, in version 4 what is said of the
-- whole program, and the number of cells: none of them.
abbrev pub are_none : Form → List ℕ → Bool
are_none (Older Simple) b = begins_with_zeros b
are_none (Older Extended) b = are_three_zeros b
are_none (Fourth facts form) b = are_four_zeros b

-- ---- items and cells that stand one behind the other

-- of items, three bytes each
unfoldable pub listed_items : List ℕ → List Val
listed_items (lo ∷ hi ∷ tag ∷ rest) = to_val ((lo, hi), tag) ∷ listed_items rest
listed_items bytes = []

abbrev pub cell_of : ℕ → ℕ → ℕ → ℕ → ℕ → Cell
cell_of low high lo hi tag = record { address = word_of (low, high); val = to_val ((lo, hi), tag) }

-- of cells, five bytes each
unfoldable pub listed_cells : List ℕ → List Cell
listed_cells (low ∷ high ∷ lo ∷ hi ∷ tag ∷ rest) = cell_of low high lo hi tag ∷ listed_cells rest
listed_cells bytes = []
