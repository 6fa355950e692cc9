-- Values that are copies of what stood somewhere at entry, and values that are no copies (own).
use Rattle.std.specs.Prelude.{Bool, false, Some, None}
use Rattle.gb_ops.specs.declared.registers.Registers.{Registers}
use Rattle.gb_domain.specs.declared.types.Origin.{Origin}
use Rattle.gb_domain.specs.declared.types.Val.{Val}
use Rattle.gb_domain.specs.declared.types.Cell.{Cell}
use Rattle.gb_domain.specs.declared.types.Core.{Core}
use Rattle.gb_domain.specs.Types.{all_or_none}
use Rattle.gb_abs.specs.Covering.{covers_origin}

-- a value that is what this held when the procedure was entered
abbrev pub own : Origin → Val → Val
own o v = record v { origin = Some o }

-- a value that is no copy
abbrev pub without_origin : Val → Val
without_origin v = record v { origin = None }

-- it is what this held at entry
abbrev pub is_own : Origin → Val → Bool
is_own o v = covers_origin v.origin (Some o)

abbrev pub cell_without_origin : Cell → Cell
cell_without_origin c = record c { val = without_origin c.val }

abbrev pub registers_without_origins : Registers Val → Registers Val
registers_without_origins r = record {
  a = without_origin r.a;
  b = without_origin r.b;
  c = without_origin r.c;
  d = without_origin r.d;
  e = without_origin r.e;
  h = without_origin r.h;
  l = without_origin r.l;
}

-- nothing is a copy of what stood anywhere at entry: neither a register nor the flags nor IE, and the controller isn't kept
unfoldable pub core_without_origins : Core → Core
core_without_origins s = record s {
  registers = registers_without_origins s.registers;
  flags = record s.flags { is_own = false };
  ie = without_origin s.ie;
  ctl = record s.ctl { kept = all_or_none false };
}
