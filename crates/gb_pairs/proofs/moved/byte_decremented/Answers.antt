use Rattle.std.proofs.Common.{◌≡◌, rules}
use Rattle.gb_domain.specs.declared.pairs.Pairs.{Pairs}
use Rattle.gb_pairs.specs.Moved.{byte_decremented}
use Rattle.gb_pairs.proofs.ByteLaws.{byte_decremented_sound}
use Rattle.gb_pairs.proofs.KeptLaws.{byte_decremented_kept}
use Rattle.gb_pairs.proofs.moved.byte_decremented.Goals as goal

pub returns-then-get-gt0-clause-sound : goal.returns-then-get-gt0-clause-sound
unfolding byte_decremented
returns-then-get-gt0-clause-sound c =
    let moved : Pairs =
    record {
      bc = c.facts_of_byte_down.result;
      de = c.facts_of_byte_down-then-get-gt0.result;
      hl = c.facts_of_byte_down-then-get-gt0-2.result;
    } in
    let is : moved ≡ byte_decremented c.args.register c.args.values.now = search rules in
    byte_decremented_sound c.args.register c.args.values.now moved is

pub returns-then-get-gt0-clause-kept : goal.returns-then-get-gt0-clause-kept
unfolding byte_decremented
returns-then-get-gt0-clause-kept c =
    let moved : Pairs =
    record {
      bc = c.facts_of_byte_down.result;
      de = c.facts_of_byte_down-then-get-gt0.result;
      hl = c.facts_of_byte_down-then-get-gt0-2.result;
    } in
    let is : moved ≡ byte_decremented c.args.register c.args.values.now = search rules in
    λ may_be. byte_decremented_kept may_be c.args.register c.args.values.now moved is
