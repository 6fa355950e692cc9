-- Pairs that say nothing beyond their bytes. Conveniences for the code: the rules don't speak of them.
use Rattle.std.specs.Prelude.{◌<◌, Bool, ◌&&◌, is_none, nat_le}
use Rattle.gb_ops.specs.declared.registers.Registers.{Registers}
use Rattle.gb_domain.specs.declared.types.Val.{Val}
use Rattle.gb_domain.specs.declared.pairs.Bounds.{Bounds}
use Rattle.gb_domain.specs.declared.pairs.Pairs.{Pairs}
use Rattle.gb_pairs.specs.declared.values.Values.{Values}
use Rattle.gb_pairs.specs.Bounds.{box}

-- no pair is linked
abbrev pub are_unlinked : Pairs → Bool
are_unlinked s = is_none s.bc.link && is_none s.de.link && is_none s.hl.link

-- a pair's bytes aren't empty, and its own bounds hold all that they give
abbrev pub is_plain : Val → Val → Bounds → Bool
is_plain high low own =
    nat_le high.lo high.hi
    && nat_le low.lo low.hi
    && nat_le own.first (box high low).first
    && nat_le (box high low).last own.last

unfoldable pub are_plain : Values → Bool
are_plain v =
    are_unlinked v.pairs
    && is_plain v.registers.b v.registers.c v.pairs.bc.bounds
    && is_plain v.registers.d v.registers.e v.pairs.de.bounds
    && is_plain v.registers.h v.registers.l v.pairs.hl.bounds

-- each pair's own bounds become those that its bytes give
unfoldable pub with_boxes : Values → Values
with_boxes v =
    record v {
      pairs = record {
        bc = record v.pairs.bc { bounds = box v.registers.b v.registers.c };
        de = record v.pairs.de { bounds = box v.registers.d v.registers.e };
        hl = record v.pairs.hl { bounds = box v.registers.h v.registers.l };
      };
    }

-- values of the pairs' registers end in bytes
pub record EndInBytes (x : Registers Val) : Type 0 where
  pub b : x.b.hi < 256
  pub c : x.c.hi < 256
  pub d : x.d.hi < 256
  pub e : x.e.hi < 256
  pub h : x.h.hi < 256
  pub l : x.l.hi < 256
