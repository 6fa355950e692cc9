-- Sets of requests.
use Rattle.std.proofs.Common.{◌≡◌, ℕ, ◌%◌, ◌==◌, ◌<◌, ◌≤◌, bit_and, Bool, true, false, if◌then◌else◌, ap, sym, ◌∙◌, zero-add, arith}
use Rattle.std.specs.Prelude.{bit_or}
use Rattle.gb_ppu.specs.declared.picture.Requests.{Requests}
use Rattle.gb_ppu.specs.Requests.{request_bits}
use Rattle.std.proofs.lemmas.Nat.{or_lt, and_le_l, and_comm, and_assoc, and_mod, and_or_self, or_shifted}
use Rattle.gb_bus.specs.Access.{shared_bits}

pub or_small : (a b : ℕ) → a < 32 → b < 32 → bit_or a b < 32
or_small a b ha hb = or_lt 5 a b ha hb

pub and_small : (a b : ℕ) → a < 32 → bit_and a b < 32
and_small a b h = let less = and_le_l a b in omega (arith, less)

-- the picture's requests are two bits
few_by : (a b : Bool) → request_bits (record { vblank = a; stat = b }) < 32
few_by false false = omega arith
few_by false true = omega arith
few_by true false = omega arith
few_by true true = omega arith

pub few_bits : (r : Requests) → request_bits r < 32
few_bits r = few_by r.vblank r.stat

-- ---- the interrupts that are enabled and requested

none_and : (n : ℕ) → bit_and 0 n ≡ 0
none_and n = let h : bit_and 0 n ≤ 0 = and_le_l 0 n in omega arith

itself : (x : ℕ) → x < 32 → bit_and x x ≡ x
itself x h =
    let zero_or : bit_or 0 x ≡ x = or_shifted 0 5 x h ∙ zero-add x in
    rw zero_or at (and_or_self x 0)

-- what is shared of two numbers is some of the first one's bits
some : (a b : ℕ) → bit_and (bit_and a b % 32) (a % 32) ≡ bit_and a b % 32
some a b =
    let small : a % 32 < 32 = omega arith in
    let cut : bit_and a b % 32 ≡ bit_and (b % 32) (a % 32) = and_mod a b 5 ∙ and_comm (a % 32) (b % 32) in
    ap (λ n. bit_and n (a % 32)) cut ∙ and_assoc (a % 32) (b % 32) (a % 32) ∙ ap (λ n. bit_and (b % 32) n) (itself (a % 32) small) ∙ sym cut

by_enabled : (none : Bool) (ie requests : ℕ) → bit_and (if none then 0 else bit_and ie requests % 32) (ie % 32) ≡ (if none then 0 else bit_and ie requests % 32)
by_enabled true ie requests = none_and (ie % 32)
by_enabled false ie requests = some ie requests

pub shared_enabled : (ie requests : ℕ) → bit_and (shared_bits ie requests) (ie % 32) ≡ shared_bits ie requests
shared_enabled ie requests = by_enabled (ie % 32 == 0) ie requests
