-- A field of the clock after many counts, at once. A value below the field's length counts around it;
-- one behind it goes on to the end of its mask first.
use Rattle.std.specs.Prelude.{ℕ, ◌+◌, ◌-◌, ◌/◌, ◌%◌, nat_lt, if◌then◌else◌}

-- what it holds
unfoldable pub value_after : ℕ → ℕ → ℕ → ℕ → ℕ
value_after length size v n =
    if nat_lt v length then (v + n) % length
    else if nat_lt n (size - v) then v + n
    else (n - (size - v)) % length

-- how often it carried
unfoldable pub carries_after : ℕ → ℕ → ℕ → ℕ → ℕ
carries_after length size v n =
    if nat_lt v length then (v + n) / length
    else if nat_lt n (size - v) then 0
    else (n - (size - v)) / length
