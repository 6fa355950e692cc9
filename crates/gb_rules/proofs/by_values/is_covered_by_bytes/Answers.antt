use Rattle.std.proofs.Common.{◌≡◌, ℕ, ◌<◌, ◌≤◌, ◌⊎◌, inl, inr, true, false, sym, ◌∙◌, arith}
use Rattle.gb_rules.specs.Covered.{has_cell_there, is_covered_by_byte, with_parts}
use Rattle.gb_rules.proofs.ByteLaws.{bytes_found, bytes_not_found}
use Rattle.gb_rules.proofs.by_values.is_covered_by_bytes.Goals as goal

pub returns-then-is_covered_by_byte : goal.returns-then-is_covered_by_byte
returns-then-is_covered_by_byte c =
    sym (bytes_found c.args.nodes.now.program.now c.args.nodes.now.rules c.args.nodes.now.entered c.args.nodes.now.cert.now.nodes c.args.nodes.now.procedure c.args.nodes.now.address (with_parts c.args.states.now.core.now c.args.states.now.relations.now c.args.states.now.summary.now c.args.states.now.lists.now) c.in-Some.at
    c.in-Some.ensures.some.1 (sym c.is_covered_by_byte.ensures ∙ c.if-is_covered_by_byte.true))

side : (a b : ℕ) → (a < b) ⊎ (b ≤ a)
side a b = grind arith

pub returns : goal.returns
returns c =
    sym (bytes_not_found c.args.nodes.now.program.now c.args.nodes.now.rules c.args.nodes.now.entered c.args.nodes.now.cert.now.nodes c.args.nodes.now.procedure c.args.nodes.now.address (with_parts c.args.states.now.core.now c.args.states.now.relations.now c.args.states.now.summary.now c.args.states.now.lists.now) each)
  where
    each :
        (at : ℕ) → has_cell_there c.args.nodes.now.cert.now.nodes c.args.nodes.now.procedure c.args.nodes.now.address at ≡ true
        → is_covered_by_byte c.args.nodes.now.program.now c.args.nodes.now.rules c.args.nodes.now.entered c.args.nodes.now.cert.now.nodes c.args.nodes.now.procedure c.args.nodes.now.address (with_parts c.args.states.now.core.now c.args.states.now.relations.now c.args.states.now.summary.now c.args.states.now.lists.now) at ≡ false
    each at there = elim (side at c.loop-at.least) [
      | inl before ↦ c.loop-at.invariant.failed at before there
      | inr behind ↦ absurd (c.in_default.ensures.first at behind there)
    ]
