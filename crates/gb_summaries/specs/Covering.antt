-- Covering of what states say of the whole program (abstract interpretation: the order of the domain; own).
use Rattle.std.specs.Prelude.{ℕ, Bool, true, false, ◌&&◌, nat_le, List, take, drop, Option, Some, None}
use Rattle.gb_ops.specs.declared.registers.Registers.{Registers}
use Rattle.gb_domain.specs.declared.interval.StridedInterval.{StridedInterval}
use Rattle.gb_domain.specs.declared.pairs.Bounds.{Bounds}
use Rattle.gb_domain.specs.declared.summary.Fact.{Fact}
use Rattle.gb_domain.specs.declared.summary.Fill.{Fill}
use Rattle.gb_domain.specs.declared.summary.Shadows.{Shadows}
use Rattle.gb_domain.specs.declared.types.Cell.{Cell}
use Rattle.gb_domain.specs.declared.types.Ctl.{Ctl}
use Rattle.gb_domain.specs.declared.types.Val.{Val}
use Rattle.gb_domain.specs.Interval.{any_byte}
use Rattle.gb_domain.specs.Summaries.{SummaryParts, Program}
use Rattle.gb_domain.specs.Values.{interval_of}
use Rattle.gb_relations.specs.Below.gb_pairs.declared.values.Values.{Values}
use Rattle.gb_relations.specs.Below.gb_copies.declared.windows.BankWindow.{BankWindow}
use Rattle.gb_relations.specs.Below.gb_copies.declared.windows.BankWindow.TheVariants.{First, Second}
use Rattle.gb_relations.specs.Below.gb_copies.declared.bank_covering.Known.{Known}
use Rattle.gb_relations.specs.Below.gb_copies.BankCovering.{covers}
use Rattle.gb_ram_bounds.specs.Covering.{byte_at, gives_facts, gives_fills}
use Rattle.gb_ram_bounds.specs.Facts.{keeps_facts}
use Rattle.gb_summaries.specs.Known.{pointer_bounds, window_bounds}

-- ---- facts and fills

-- those that hold lie in what the cells that go say, and the others are given by what is known of bytes
unfoldable pub covers_facts : List Fact → Values → List Cell → SummaryParts → List Cell → ℕ → Bool
covers_facts facts v cells s kept level =
    keeps_facts (take level (take s.level facts)) cells kept
    && gives_facts (take s.level facts) cells s.fills (pointer_bounds v) kept (drop s.level (take level facts))

unfoldable pub covers_fills : List Fact → Values → List Cell → SummaryParts → List Cell → List Fill → Bool
covers_fills facts v cells s kept fills = gives_fills (take s.level facts) cells s.fills (pointer_bounds v) kept fills

-- ---- shadows

abbrev pub intervals_of : Registers Val → Registers StridedInterval
intervals_of x =
    record {
      a = interval_of x.a;
      b = interval_of x.b;
      c = interval_of x.c;
      d = interval_of x.d;
      e = interval_of x.e;
      h = interval_of x.h;
      l = interval_of x.l;
    }

-- the byte at an address; any where there is none
abbrev pub byte_at_some : List Fact → Values → List Cell → SummaryParts → Option ℕ → StridedInterval
byte_at_some facts v cells s None = any_byte
byte_at_some facts v cells s (Some a) = byte_at (take s.level facts) cells s.fills (pointer_bounds v) a

-- what is known where these shadows are asked for
unfoldable pub known_of : Program → BankWindow → Values → Ctl → List Cell → SummaryParts → Shadows → Known
known_of program which v c cells s t =
    record {
      registers = intervals_of v.registers;
      memory = byte_at_some program.facts v cells s t.address;
      bounds = window_bounds program.kind which c;
    }

-- ---- a stack put aside

-- both are, and the bounds hold the others; or neither is
abbrev pub covers_aside : Option Bounds → Option Bounds → Bool
covers_aside None None = true
covers_aside (Some b) (Some d) = nat_le d.first b.first && nat_le b.last d.last
covers_aside _ _ = false

-- ---- all of it

-- what t says with the cells that are kept is said by a state: its registers, its controller's, its cells, and s
unfoldable pub covers_summary : Program → Values → Ctl → List Cell → SummaryParts → List Cell → SummaryParts → Bool
covers_summary program v c cells s kept t =
    covers_facts program.facts v cells s kept t.level
    && covers_fills program.facts v cells s kept t.fills
    && covers program.kind First (known_of program First v c cells s t.shadows.first) s.shadows.first t.shadows.first
    && covers program.kind Second (known_of program Second v c cells s t.shadows.second) s.shadows.second t.shadows.second
    && covers_aside s.aside t.aside
