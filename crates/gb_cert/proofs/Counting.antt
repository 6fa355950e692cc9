-- How many keys were asked for, where they are counted from 0 on and the count stops at the most that it can hold.
use Rattle.std.proofs.Common.{◌≡◌, ℕ, ◌+◌, ◌≤◌, List, length, map, arith}
use Rattle.std.specs.Prelude.{min}
use Rattle.std.proofs.Math.Nat.{min-le_left}
use Rattle.std.proofs.lemmas.List.{length-map}
use Rattle.gb_rows.specs.Rows.{AskedAtMost}
use Rattle.gb_domain.specs.Types.{Node}
use Rattle.gb_states.specs.Rules.{key}

-- the count, where so many at most were asked for among the nodes
pub counted : (before count limit : ℕ) → before ≡ 0 → AskedAtMost (λ n. before ≡ min n 4294967295) (λ n. count ≡ min n 4294967295) limit → count ≤ limit
counted before count limit none most =
    let asked = most 0 none in
    let few : asked.0 ≤ limit = asked.1 in
    let is : count ≡ min (0 + asked.0) 4294967295 = asked.2 in
    let left : min (0 + asked.0) 4294967295 ≤ 0 + asked.0 = min-le_left (0 + asked.0) 4294967295 in
    omega arith

-- as many keys as nodes
pub keys_many : (nodes : List Node) (limit : ℕ) → length nodes ≤ limit → length (map key nodes) ≤ limit
keys_many nodes limit h = rw (length-map nodes key) h
