use Rattle.std.proofs.Common.{◌≡◌, rules}
use Rattle.gb_domain.specs.declared.pairs.Pairs.{Pairs}
use Rattle.gb_pairs.specs.Moved.{byte_incremented}
use Rattle.gb_pairs.proofs.ByteLaws.{byte_incremented_sound}
use Rattle.gb_pairs.proofs.KeptLaws.{byte_incremented_kept}
use Rattle.gb_pairs.proofs.moved.byte_incremented.Goals as goal

pub returns-then-get-lt255-clause-sound : goal.returns-then-get-lt255-clause-sound
unfolding byte_incremented
returns-then-get-lt255-clause-sound c =
    let moved : Pairs =
    record {
      bc = c.facts_of_byte_up.result;
      de = c.facts_of_byte_up-then-get-lt255.result;
      hl = c.facts_of_byte_up-then-get-lt255-2.result;
    } in
    let is : moved ≡ byte_incremented c.args.register c.args.values.now = search rules in
    byte_incremented_sound c.args.register c.args.values.now moved is

pub returns-then-get-lt255-clause-kept : goal.returns-then-get-lt255-clause-kept
unfolding byte_incremented
returns-then-get-lt255-clause-kept c =
    let moved : Pairs =
    record {
      bc = c.facts_of_byte_up.result;
      de = c.facts_of_byte_up-then-get-lt255.result;
      hl = c.facts_of_byte_up-then-get-lt255-2.result;
    } in
    let is : moved ≡ byte_incremented c.args.register c.args.values.now = search rules in
    λ may_be. byte_incremented_kept may_be c.args.register c.args.values.now moved is
