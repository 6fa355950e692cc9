-- What a state becomes whose core was lent.
use Rattle.std.specs.Borrow.{Lends, MutBor, Fml}
use Rattle.gb_domain.specs.declared.types.Core.{Core}
use Rattle.gb_domain.specs.contracts.types.Core.{the_row as core_row}
use Rattle.gb_domain.specs.contracts.abs.Abs.{the_row}
use Rattle.gb_domain.specs.Types.{AbsState}

-- its core is what was left behind the reference, and all else stays
abbrev pub LendsCore : MutBor AbsState → MutBor Core → Fml
LendsCore state core = Lends the_row core_row state core (λ c. record state.now { core = c })
