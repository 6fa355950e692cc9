-- What a sink for tests keeps.
use Rattle.std.specs.Prelude.{ℕ, ◌-◌, Bool, List, length, min}

-- the bytes that it can keep at all
abbrev pub room : ℕ
room = 12288

-- the bytes that it took, how many it takes with one put and in all, and whether it failed
pub record Kept : Type 0 where
  pub bytes : List ℕ
  pub at_once : ℕ
  pub most : ℕ
  pub has_failed : Bool

-- how many of n bytes it takes with its next put
abbrev pub takes : Kept → ℕ → ℕ
takes kept n = min n (min kept.at_once (min kept.most room - length kept.bytes))
