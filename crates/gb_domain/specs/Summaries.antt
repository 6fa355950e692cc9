-- What contracts see of what a state says that is about the whole program (own format).
use Rattle.std.specs.Prelude.{Bool, ℕ, List, [], Option, None}
use Rattle.gb_ops.specs.declared.machine.Kind.{Kind}
use Rattle.gb_domain.specs.declared.pairs.Bounds.{Bounds}
use Rattle.gb_domain.specs.declared.summary.Fact.{Fact}
use Rattle.gb_domain.specs.declared.summary.Fill.{Fill}
use Rattle.gb_domain.specs.declared.summary.Shadows.{Shadows}
use Rattle.gb_domain.specs.declared.summary.BankShadows.{BankShadows}
use Rattle.gb_domain.specs.Places.{no_place}

-- how many facts hold, fills, shadows of the controller's registers, and where SP points while the stack is put aside
pub record SummaryParts : Type 0 where
  pub level : ℕ
  pub fills : List Fill
  pub shadows : BankShadows
  pub aside : Option Bounds

abbrev pub no_shadows : Shadows
no_shadows = record { registers = no_place; address = None }

abbrev pub no_bank_shadows : BankShadows
no_bank_shadows = record { first = no_shadows; second = no_shadows }

-- nothing is said
abbrev pub no_summary : SummaryParts
no_summary = record { level = 0; fills = []; shadows = no_bank_shadows; aside = None }

-- A list's unused places hold defaults. Those are zeros, which are written at once.
abbrev pub zero_fill : Fill
zero_fill = record { first = 0; last = 0; lo = 0; hi = 0; end = None }

-- what these are about beside the state: the cartridge's controller, and the facts of the certificate, which is of version 4 or not
pub record Program : Type 0 where
  pub is_whole : Bool
  pub kind : Kind
  pub facts : List Fact
