-- Once nothing is known of a byte at one of several addresses, nothing will be.
use Rattle.std.proofs.Common.{◌≡◌, ℕ, ◌+◌, ◌-◌, ◌≤◌, ◌<◌, Bool, true, false, cond, ◌==◌, List, [], ◌∷◌, Some, arith}
use Rattle.std.specs.List.{AllByRecursion}
use Rattle.gb_domain.specs.declared.types.Cell.{Cell}
use Rattle.gb_domain.specs.Interval.{any_byte}
use Rattle.gb_domain.specs.Summaries.{SummaryParts, Program}
use Rattle.gb_domain.specs.Values.{interval_of}
use Rattle.gb_product.specs.Below.gb_abs.Covering.{cell_at}
use Rattle.gb_product.specs.Below.gb_pairs.declared.values.Values.{Values}
use Rattle.gb_product.specs.Below.gb_summaries.Below.gb_ram_bounds.declared.addresses.AddressSet.{AddressSet}
use Rattle.gb_product.specs.Below.gb_summaries.Below.gb_ram_bounds.Addresses.{is_in, joined_of, joined_over}
use Rattle.gb_product.specs.Covering.{byte_in}
use Rattle.gb_product.proofs.ByteLaws.{byte_in-small}
use Rattle.gb_product.proofs.Below.gb_summaries_laws.Below.gb_ram_bounds_laws.JoinedLaws.{joined_soon}
pub use Rattle.gb_product.proofs.Below.gb_summaries_laws.Below.gb_ram_bounds_laws.JoinedLaws.{joined_more, joined_same}
use Rattle.gb_abs_memory.specs.Access.{home_of}

cell_small : (cells : List Cell) (a : ℕ) → AllByRecursion (λ c. c.val.hi < 256) cells → (cell_at a cells).hi < 256
cell_small [] a h = omega arith
cell_small (c ∷ cells) a h = choose (c.address == a) (cell_small cells a h.1)
  where
    choose : (b : Bool) → (cell_at a cells).hi < 256 → (cond b c.val (cell_at a cells)).hi < 256
    choose true rest = h.0
    choose false rest = rest

pub told_soon :
    (program : Program) (v : Values) (cells : List Cell) (s : SummaryParts) (x : AddressSet) (n : ℕ)
    → AllByRecursion (λ c. c.val.hi < 256) cells → n ≤ x.last + 1 - x.first
    → joined_of (is_in x) (λ a. interval_of (byte_in program v cells s (home_of a))) x.first n ≡ Some any_byte
    → joined_over x (λ a. interval_of (byte_in program v cells s (home_of a))) ≡ any_byte
told_soon program v cells s x n bytes few e =
    joined_soon x (λ a. interval_of (byte_in program v cells s (home_of a))) n (λ a. byte_in-small program v cells s (home_of a) (cell_small cells (home_of a) bytes)) few e
