-- What a certificate claims of its procedures (own format).
use Rattle.std.specs.Prelude.{ℕ, ◌==◌, if◌then◌else◌, List, [], length, slice_get, Option, Some, None}
use Rattle.gb_successors.specs.Below.gb_domain.declared.pairs.PairBounds.{PairBounds}
use Rattle.gb_successors.specs.Below.gb_domain.declared.pairs.WordPair.TheVariants as pair
use Rattle.gb_successors.specs.Below.gb_domain.Pairs.{any_pairs}
use Rattle.gb_successors.specs.Below.gb_pairs.Bounds.{bounds_of}
use Rattle.gb_successors.specs.Below.gb_product.Covering.{values_in}
use Rattle.gb_successors.specs.Below.gb_domain.declared.setting.Setting.{Setting}
use Rattle.gb_successors.specs.Below.gb_domain.declared.types.Range.{Range}
use Rattle.gb_successors.specs.Below.gb_domain.Limits.{rules_of}
use Rattle.gb_successors.specs.Below.gb_domain.Types.{AbsState, ProcedureParts, Node}
use Rattle.gb_successors.specs.Below.gb_domain.Certificate.{Certificate}
use Rattle.gb_successors.specs.declared.stacks.Stack.{Stack}
pub use Rattle.gb_successors.specs.Programs.{is_fourth}
unfoldable pub use Rattle.gb_successors.specs.Programs.{program_of}

abbrev pub ranges_in : Option ProcedureParts → List Range
ranges_in None = []
ranges_in (Some p) = p.ranges

abbrev pub need_in : Option ProcedureParts → ℕ
need_in None = 0
need_in (Some p) = p.need

abbrev pub exit_in : Option ProcedureParts → Option AbsState
exit_in None = None
exit_in (Some p) = p.exit

abbrev pub kept_in : Option ProcedureParts → List ℕ
kept_in None = []
kept_in (Some p) = p.kept

-- what a procedure may write
unfoldable pub ranges_of : Certificate → ℕ → List Range
ranges_of cert procedure = ranges_in (slice_get cert.procedures procedure)

-- the addresses that it names to be kept
unfoldable pub kept_of : Certificate → ℕ → List ℕ
kept_of cert procedure = kept_in (slice_get cert.procedures procedure)

-- how many bytes it may have on the stack, those of its callees among them
unfoldable pub need_of : Certificate → ℕ → ℕ
need_of cert procedure = need_in (slice_get cert.procedures procedure)

abbrev pub mark_in : Option ProcedureParts → ℕ
mark_in None = 0
mark_in (Some p) = p.mark

-- how many bytes below its base it puts its stack aside
unfoldable pub mark_of : Certificate → ℕ → ℕ
mark_of cert procedure = mark_in (slice_get cert.procedures procedure)

abbrev pub base_in : Option ProcedureParts → ℕ
base_in None = 0
base_in (Some p) = p.base

-- the bounds of a node's pairs
abbrev pub pairs_at : Option Node → PairBounds
pairs_at None = any_pairs
pairs_at (Some n) =
    let v = values_in n.state in
    record { bc = bounds_of pair.Bc v; de = bounds_of pair.De v; hl = bounds_of pair.Hl v }

abbrev pub pairs_in : Certificate → Option ProcedureParts → PairBounds
pairs_in cert None = any_pairs
pairs_in cert (Some p) = pairs_at (slice_get cert.nodes p.entry)

-- within which bounds the pairs lie as the procedure is entered: those of its entry node, of which the rules of version 4 know
unfoldable pub entered_of : Certificate → ℕ → PairBounds
entered_of cert procedure = if is_fourth cert then pairs_in cert (slice_get cert.procedures procedure) else any_pairs

-- where its states stand
unfoldable pub setting_of : Certificate → ℕ → Setting
setting_of cert procedure =
    record {
      rules = rules_of cert.version;
      is_whole = is_fourth cert;
      is_main = procedure == 0;
      base = base_in (slice_get cert.procedures procedure);
      entered = entered_of cert procedure;
    }

-- what it returns with, if it returns
unfoldable pub exit_of : Certificate → ℕ → Option AbsState
exit_of cert procedure = exit_in (slice_get cert.procedures procedure)

-- where its states stand, and how much it may have on the stack
unfoldable pub stack_of : Certificate → ℕ → Stack
stack_of cert procedure =
    record { setting = setting_of cert procedure; region = cert.region; need = need_of cert procedure; main_need = need_of cert 0; mark = mark_of cert procedure }

-- how many bytes a procedure begins with
abbrev pub items_in : Option Node → ℕ
items_in None = 0
items_in (Some n) = length n.state.items

abbrev pub entry_in : Certificate → Option ProcedureParts → ℕ
entry_in cert None = 0
entry_in cert (Some p) = items_in (slice_get cert.nodes p.entry)

-- how many of its caller's bytes a procedure takes over
unfoldable pub taken_by : Certificate → ℕ → ℕ
taken_by cert procedure = entry_in cert (slice_get cert.procedures procedure)
