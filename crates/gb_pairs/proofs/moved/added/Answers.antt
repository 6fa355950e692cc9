use Rattle.std.proofs.Common.{◌≡◌, ◌<◌, subst, rules}
use Rattle.gb_domain.specs.declared.pairs.Bounds.{Bounds}
use Rattle.gb_pairs.specs.declared.moved.HlSum.{HlSum}
use Rattle.gb_pairs.specs.Moved.{added}
use Rattle.gb_pairs.proofs.KeptLaws.{added_kept}
use Rattle.gb_pairs.proofs.SumLaws.{added_sound}
use Rattle.gb_pairs.proofs.moved.added.Goals as goal

pub returns-then-not-is_hl-clause-sound : goal.returns-then-not-is_hl-clause-sound
unfolding added
returns-then-not-is_hl-clause-sound c =
    let sum : HlSum = record { pairs = c.stepped-pairs.result; carry = c.carry_of-carry.result } in
    let is : sum ≡ added c.args.addend c.args.is_hl c.args.from c.args.values.now = search rules in
    let below : c.bounds_of-hl.result.last < 65536 = search rules in
    added_sound c.args.addend c.args.is_hl c.args.from c.args.values.now sum is
    (subst (λ (b : Bounds). b.last < 65536) c.bounds_of-hl.ensures.exact below)
    (search rules)

pub returns-then-not-is_hl-clause-kept : goal.returns-then-not-is_hl-clause-kept
unfolding added
returns-then-not-is_hl-clause-kept c =
    let sum : HlSum = record { pairs = c.stepped-pairs.result; carry = c.carry_of-carry.result } in
    let is : sum ≡ added c.args.addend c.args.is_hl c.args.from c.args.values.now = search rules in
    λ may_be. added_kept may_be c.args.addend c.args.is_hl c.args.from c.args.values.now sum is

pub returns-else-is_one-clause-sound : goal.returns-else-is_one-clause-sound
unfolding added
returns-else-is_one-clause-sound c =
    let sum : HlSum = record { pairs = c.with_hl-pairs.result; carry = c.carry_of-carry.result } in
    let is : sum ≡ added c.args.addend c.args.is_hl c.args.from c.args.values.now = search rules in
    let below : c.bounds_of-hl.result.last < 65536 = search rules in
    added_sound c.args.addend c.args.is_hl c.args.from c.args.values.now sum is
    (subst (λ (b : Bounds). b.last < 65536) c.bounds_of-hl.ensures.exact below)
    (search rules)

pub returns-else-is_one-clause-kept : goal.returns-else-is_one-clause-kept
unfolding added
returns-else-is_one-clause-kept c =
    let sum : HlSum = record { pairs = c.with_hl-pairs.result; carry = c.carry_of-carry.result } in
    let is : sum ≡ added c.args.addend c.args.is_hl c.args.from c.args.values.now = search rules in
    λ may_be. added_kept may_be c.args.addend c.args.is_hl c.args.from c.args.values.now sum is
