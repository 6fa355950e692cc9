-- The address among the places stays one at which a byte may be a place.
use Rattle.std.proofs.Common.{◌≡◌, ℕ, Bool, true, false, ◌&&◌, cond, nat_le, List, [], ◌∷◌, Option, Some, None, sym, subst}
use Rattle.gb_ops.specs.declared.op.Register.{Register}
use Rattle.gb_ops.specs.declared.op.Register.TheVariants.{A}
use Rattle.gb_ops.specs.declared.op.AluOp.{AluOp}
use Rattle.gb_ops.specs.declared.op.AluOp.TheVariants as alu
use Rattle.gb_ops.specs.declared.op.Operand.{Operand}
use Rattle.gb_ops.specs.declared.op.Operand.TheVariants as operand
use Rattle.gb_ops.specs.declared.op.Op.{Op}
use Rattle.gb_ops.specs.declared.op.Op.TheVariants as op
use Rattle.gb_ops.specs.Registers.{set}
use Rattle.gb_domain.specs.declared.low_bits.LowBits.{LowBits}
use Rattle.gb_domain.specs.declared.types.Val.{Val}
use Rattle.gb_domain.specs.declared.pairs.Bounds.{Bounds}
use Rattle.gb_domain.specs.declared.places.StackBytes.{StackBytes}
use Rattle.gb_domain.specs.Areas.{is_place_at}
use Rattle.gb_domain.specs.declared.places.Place.{Place}
use Rattle.gb_domain.specs.declared.places.Place.TheVariants as place
use Rattle.gb_domain.specs.declared.places.Test.{Test}
use Rattle.gb_domain.specs.declared.places.Test.TheVariants as test
use Rattle.gb_domain.specs.declared.places.OneByte.{OneByte}
use Rattle.gb_domain.specs.Places.{no_byte}
use Rattle.gb_pairs.specs.declared.values.Values.{Values}
use Rattle.gb_pairs.specs.Bounds.{is_one}
use Rattle.gb_copies.specs.Places as places
use Rattle.gb_copies.specs.Copies.{is_same_place, gives_way, two, copied}
use Rattle.gb_relations.specs.Written.{counted, written, writes_flags}
use Rattle.gb_relations.specs.Places.{place_if, behind_echo, stored_at, place_read, loaded_at}
use Rattle.gb_relations.specs.Bytes as bytes
use Rattle.gb_relations.specs.Sound.{IsBytePlaced}
use Rattle.gb_relations.proofs.AddressLaws.{IsAt, IsAt-place_if, IsAt-place_read}

-- a place that is an address is one at which a byte may be a place
abbrev IsPlaced : StackBytes → Place → Type 0
IsPlaced stack (place.Register r) = Unit {0}
IsPlaced stack (place.Address a) = is_place_at stack a ≡ true

abbrev IsPlacedIn : StackBytes → Option Place → Type 0
IsPlacedIn stack None = Unit {0}
IsPlacedIn stack (Some p) = IsPlaced stack p

-- a place that is known is such an address
IsPlacedIn-at : (stack : StackBytes) (a : ℕ) (o : Option Place) → IsAt (is_place_at stack) a o → IsPlacedIn stack o
IsPlacedIn-at stack a None at = tt
IsPlacedIn-at stack a (Some p) at = subst (λ q. IsPlaced stack q) (sym at.0) at.1

stored_at-placed : (stack : StackBytes) (addresses : Bounds) → IsPlacedIn stack (stored_at stack addresses)
unfolding stored_at
stored_at-placed stack addresses = choose (is_one addresses)
  where
    choose : (b : Bool) → IsPlacedIn stack (cond b (place_if (is_place_at stack) addresses.first) None)
    choose true = IsPlacedIn-at stack addresses.first _ (IsAt-place_if (is_place_at stack) addresses.first)
    choose false = tt

loaded_at-placed : (stack : StackBytes) (addresses : Bounds) → IsPlacedIn stack (loaded_at stack addresses)
unfolding loaded_at
loaded_at-placed stack addresses = choose (is_one addresses)
  where
    choose : (b : Bool) → IsPlacedIn stack (cond b (place_read stack addresses.first) None)
    choose true = IsPlacedIn-at stack (behind_echo addresses.first) _ (IsAt-place_read stack addresses.first)
    choose false = tt

-- ---- forgetting

of_places-placed : (stack : StackBytes) (b : OneByte) → IsBytePlaced stack b.address → IsBytePlaced stack (places.of_places b).address
of_places-placed stack b h = choose (places.has_place b)
  where
    choose : (is : Bool) → IsBytePlaced stack (cond is b (record b { test = None })).address
    choose true = h
    choose false = h

without_register-placed : (stack : StackBytes) (r : Register) (b : OneByte) → IsBytePlaced stack b.address → IsBytePlaced stack (places.without_register r b).address
unfolding places.without_register
without_register-placed stack r b h = of_places-placed stack (record b { registers = set r false b.registers }) h

address_outside-placed :
    (stack : StackBytes) (first last : ℕ) (o : Option ℕ) → IsBytePlaced stack o → IsBytePlaced stack (places.address_outside first last o)
address_outside-placed stack first last None h = tt
address_outside-placed stack first last (Some a) h = choose (nat_le first a && nat_le a last)
  where
    choose : (is : Bool) → IsBytePlaced stack (cond is None (Some a))
    choose true = tt
    choose false = h

without_addresses-placed :
    (stack : StackBytes) (first last : ℕ) (b : OneByte) → IsBytePlaced stack b.address → IsBytePlaced stack (places.without_addresses first last b).address
unfolding places.without_addresses
without_addresses-placed stack first last b h =
    of_places-placed stack (record b { address = places.address_outside first last b.address }) (address_outside-placed stack first last b.address h)

without_test-placed : (stack : StackBytes) (b : OneByte) → IsBytePlaced stack b.address → IsBytePlaced stack (places.without_test b).address
unfolding places.without_test
without_test-placed stack b h = h

without_registers-placed :
    (stack : StackBytes) (rs : List Register) (b : OneByte) → IsBytePlaced stack b.address → IsBytePlaced stack (bytes.without_registers rs b).address
without_registers-placed stack [] b h = h
without_registers-placed stack (r ∷ rest) b h = without_registers-placed stack rest _ (without_register-placed stack r b h)

without_test_if-placed :
    (stack : StackBytes) (writes : Bool) (b : OneByte) → IsBytePlaced stack b.address → IsBytePlaced stack (bytes.without_test_if writes b).address
without_test_if-placed stack true b h = without_test-placed stack b h
without_test_if-placed stack false b h = h

without_place-placed : (stack : StackBytes) (p : Place) (b : OneByte) → IsBytePlaced stack b.address → IsBytePlaced stack (places.without_place p b).address
unfolding places.without_place
without_place-placed stack (place.Register r) b h = without_register-placed stack r b h
without_place-placed stack (place.Address a) b h = without_addresses-placed stack a a b h

-- ---- copies

with_place-placed :
    (stack : StackBytes) (p : Place) (b : OneByte) → IsPlaced stack p → IsBytePlaced stack b.address → IsBytePlaced stack (places.with_place p b).address
unfolding places.with_place
with_place-placed stack (place.Register r) b f h = h
with_place-placed stack (place.Address a) b f h = f

byte_at-placed : (stack : StackBytes) (p : Place) → IsPlaced stack p → IsBytePlaced stack (places.byte_at p).address
byte_at-placed stack p f = with_place-placed stack p no_byte f tt

copied-placed :
    (stack : StackBytes) (to from : Place) (b : OneByte)
    → IsPlaced stack to → IsPlaced stack from → IsBytePlaced stack b.address → IsBytePlaced stack (copied to from b).address
unfolding copied
copied-placed stack to from b t f h =
    choose (is_same_place to from) (places.is_place from b) (gives_way to from (places.without_place to b))
  where
    choose :
        (same is gives : Bool)
        → IsBytePlaced stack (cond same b (cond is (places.with_place to b) (cond gives (two to from) (places.without_place to b)))).address
    choose true is gives = h
    choose false true gives = with_place-placed stack to b t h
    choose false false true = with_place-placed stack to (places.byte_at from) t (byte_at-placed stack from f)
    choose false false false = without_place-placed stack to b h

loaded-placed :
    (stack : StackBytes) (to : Register) (from : Option Place) (b : OneByte)
    → IsPlacedIn stack from → IsBytePlaced stack b.address → IsBytePlaced stack (bytes.loaded to from b).address
loaded-placed stack to None b f h = without_register-placed stack to b h
loaded-placed stack to (Some p) b f h = copied-placed stack (place.Register to) p b tt f h

without_all-placed :
    (stack : StackBytes) (bits : Option LowBits) (addresses : Bounds) (b : OneByte) → IsBytePlaced stack b.address → IsBytePlaced stack (bytes.without_all bits addresses b).address
without_all-placed stack bits addresses b h = choose (bytes.may_meet bits b.address)
  where
    choose : (meets : Bool) → IsBytePlaced stack (cond meets (places.without_addresses addresses.first addresses.last b) b).address
    choose true = without_addresses-placed stack addresses.first addresses.last b h
    choose false = h

stored-placed :
    (stack : StackBytes) (bits : Option LowBits) (from : Register) (addresses : Bounds) (to : Option Place) (b : OneByte)
    → IsPlacedIn stack to → IsBytePlaced stack b.address → IsBytePlaced stack (bytes.stored bits from addresses to b).address
stored-placed stack bits from addresses None b f h = without_all-placed stack bits addresses b h
stored-placed stack bits from addresses (Some p) b f h = copied-placed stack p (place.Register from) b f tt h

loaded_a-placed :
    (stack : StackBytes) (addresses : Bounds) (b : OneByte) → IsBytePlaced stack b.address → IsBytePlaced stack (bytes.loaded_a stack addresses b).address
loaded_a-placed stack addresses b h = loaded-placed stack A (loaded_at stack addresses) b (loaded_at-placed stack addresses) h

stored_a-placed :
    (stack : StackBytes) (bits : Option LowBits) (addresses : Bounds) (b : OneByte) → IsBytePlaced stack b.address → IsBytePlaced stack (bytes.stored_a bits stack addresses b).address
stored_a-placed stack bits addresses b h = stored-placed stack bits A addresses (stored_at stack addresses) b (stored_at-placed stack addresses) h

moved-placed :
    (stack : StackBytes) (bits : Option LowBits) (to from : Operand) (v : Values) (b : OneByte) → IsBytePlaced stack b.address → IsBytePlaced stack (bytes.moved bits stack to from v b).address
moved-placed stack bits (operand.Register to) (operand.Register from) v b h = copied-placed stack (place.Register to) (place.Register from) b tt tt h
moved-placed stack bits (operand.Register to) operand.AtHl v b h = loaded-placed stack to _ b (loaded_at-placed stack (bytes.at_hl v)) h
moved-placed stack bits operand.AtHl (operand.Register from) v b h = stored-placed stack bits from (bytes.at_hl v) _ b (stored_at-placed stack (bytes.at_hl v)) h
moved-placed stack bits operand.AtHl operand.AtHl v b h = without_all-placed stack bits (bytes.at_hl v) b h

-- ---- tests

only_tested-placed : (stack : StackBytes) (p : Place) (t : Test) → IsPlaced stack p → IsBytePlaced stack (places.only_tested p t).address
only_tested-placed stack p t f = byte_at-placed stack p f

tested-placed :
    (stack : StackBytes) (p : Place) (t : Test) (b : OneByte) → IsPlaced stack p → IsBytePlaced stack b.address → IsBytePlaced stack (places.tested p t b).address
unfolding places.tested
tested-placed stack p t b f h = choose (places.is_place p b)
  where
    choose : (is : Bool) → IsBytePlaced stack (cond is (record b { test = Some t }) (places.only_tested p t)).address
    choose true = h
    choose false = only_tested-placed stack p t f

tested_before_a-placed :
    (stack : StackBytes) (t : Test) (b : OneByte) → IsBytePlaced stack b.address → IsBytePlaced stack (places.tested_before_a t b).address
unfolding places.tested_before_a
tested_before_a-placed stack t b h = choose (b.registers.a && nat_le 2 (places.count_places b))
  where
    choose :
        (is : Bool)
        → IsBytePlaced stack (cond is (record (record b { registers = record b.registers { a = false } }) { test = Some t }) (places.only_tested (place.Register A) (test.Bits 255))).address
    choose true = h
    choose false = only_tested-placed stack (place.Register A) (test.Bits 255) tt

computed_at-placed :
    (stack : StackBytes) (bits : Option LowBits) (to : Option Place) (addresses : Bounds) (b : OneByte)
    → IsPlacedIn stack to → IsBytePlaced stack b.address → IsBytePlaced stack (bytes.computed_at bits to addresses b).address
computed_at-placed stack bits None addresses b f h = without_test-placed stack _ (without_all-placed stack bits addresses b h)
computed_at-placed stack bits (Some p) addresses b f h = only_tested-placed stack p bytes.is_zero_test f

computed-placed :
    (stack : StackBytes) (bits : Option LowBits) (which : Operand) (v : Values) (b : OneByte) → IsBytePlaced stack b.address → IsBytePlaced stack (bytes.computed bits stack which v b).address
computed-placed stack bits (operand.Register r) v b h = only_tested-placed stack (place.Register r) bytes.is_zero_test tt
computed-placed stack bits operand.AtHl v b h = computed_at-placed stack bits _ (bytes.at_hl v) b (stored_at-placed stack (bytes.at_hl v)) h

bit_tested_at-placed :
    (stack : StackBytes) (from : Option Place) (n : ℕ) (b : OneByte)
    → IsPlacedIn stack from → IsBytePlaced stack b.address → IsBytePlaced stack (bytes.bit_tested_at from n b).address
bit_tested_at-placed stack None n b f h = without_test-placed stack b h
bit_tested_at-placed stack (Some p) n b f h = tested-placed stack p (bytes.bit_of n) b f h

bit_tested-placed :
    (stack : StackBytes) (n : ℕ) (which : Operand) (v : Values) (b : OneByte)
    → IsBytePlaced stack b.address → IsBytePlaced stack (bytes.bit_tested stack n which v b).address
bit_tested-placed stack n (operand.Register r) v b h = tested-placed stack (place.Register r) (bytes.bit_of n) b tt h
bit_tested-placed stack n operand.AtHl v b h = bit_tested_at-placed stack _ n b (loaded_at-placed stack (bytes.at_hl v)) h

zero_of_a-placed : (stack : StackBytes) → IsBytePlaced stack (places.only_tested (place.Register A) bytes.is_zero_test).address
zero_of_a-placed stack = only_tested-placed stack (place.Register A) bytes.is_zero_test tt

of_a-placed :
    (stack : StackBytes) (how : AluOp) (k : Option ℕ) (b : OneByte) → IsBytePlaced stack b.address → IsBytePlaced stack (bytes.of_a how k b).address
of_a-placed stack alu.Cp (Some n) b h = tested-placed stack (place.Register A) (test.Compare n) b tt h
of_a-placed stack alu.Cp None b h = without_test-placed stack b h
of_a-placed stack alu.Sub (Some n) b h = tested_before_a-placed stack (test.Compare n) b h
of_a-placed stack alu.And (Some n) b h = tested_before_a-placed stack (test.Bits n) b h
of_a-placed stack how k b h = zero_of_a-placed stack

of_a_itself-placed : (stack : StackBytes) (how : AluOp) (b : OneByte) → IsBytePlaced stack b.address → IsBytePlaced stack (bytes.of_a_itself how b).address
of_a_itself-placed stack alu.And b h = tested-placed stack (place.Register A) (test.Compare 0) b tt h
of_a_itself-placed stack alu.Or b h = tested-placed stack (place.Register A) (test.Compare 0) b tt h
of_a_itself-placed stack alu.Cp b h = without_test-placed stack b h
of_a_itself-placed stack how b h = zero_of_a-placed stack

of_a_with-placed :
    (stack : StackBytes) (how : AluOp) (from : Operand) (v : Values) (low : Val) (b : OneByte)
    → IsBytePlaced stack b.address → IsBytePlaced stack (bytes.of_a_with how from v low b).address
of_a_with-placed stack how (operand.Register A) v low b h = of_a_itself-placed stack how b h
of_a_with-placed stack how (operand.Register r) v low b h = of_a-placed stack how _ b h
of_a_with-placed stack how operand.AtHl v low b h = of_a-placed stack how _ b h

-- ---- instructions

pub byte_after-placed :
    (stack : StackBytes) (bits : Option LowBits) (o : Op) (v : Values) (low : Val) (b : OneByte)
    → IsBytePlaced stack b.address → IsBytePlaced stack (bytes.byte_after bits stack o v low b).address
unfolding bytes.byte_after
byte_after-placed stack bits (op.StoreA to) v low b h = without_registers-placed stack (counted to) _ (stored_a-placed stack bits (bytes.at_indirect to v) b h)
byte_after-placed stack bits (op.LoadA from) v low b h = without_registers-placed stack (counted from) _ (loaded_a-placed stack (bytes.at_indirect from v) b h)
byte_after-placed stack bits (op.Increment which) v low b h = computed-placed stack bits which v b h
byte_after-placed stack bits (op.Decrement which) v low b h = computed-placed stack bits which v b h
byte_after-placed stack bits (op.LoadImmediate operand.AtHl n) v low b h = without_all-placed stack bits (bytes.at_hl v) b h
byte_after-placed stack bits (op.StoreSp w) v low b h = without_all-placed stack None _ _ (without_all-placed stack None (bytes.one w) b h)
byte_after-placed stack bits (op.Load to from) v low b h = moved-placed stack bits to from v b h
byte_after-placed stack bits (op.Alu how from) v low b h = of_a_with-placed stack how from v low b h
byte_after-placed stack bits (op.AluImmediate how n) v low b h = of_a-placed stack how (Some n) b h
byte_after-placed stack bits (op.StoreHigh n) v low b h = stored_a-placed stack None _ b h
byte_after-placed stack bits (op.LoadHigh n) v low b h = loaded_a-placed stack _ b h
byte_after-placed stack bits op.StoreHighC v low b h = stored_a-placed stack bits _ b h
byte_after-placed stack bits op.LoadHighC v low b h = loaded_a-placed stack _ b h
byte_after-placed stack bits (op.StoreAbsolute w) v low b h = stored_a-placed stack None _ b h
byte_after-placed stack bits (op.LoadAbsolute w) v low b h = loaded_a-placed stack _ b h
byte_after-placed stack bits (op.Shift how which) v low b h = computed-placed stack bits which v b h
byte_after-placed stack bits (op.Bit n which) v low b h = bit_tested-placed stack n which v b h
byte_after-placed stack bits (op.Reset n operand.AtHl) v low b h = without_all-placed stack bits (bytes.at_hl v) b h
byte_after-placed stack bits (op.Set n operand.AtHl) v low b h = without_all-placed stack bits (bytes.at_hl v) b h
byte_after-placed stack bits o v low b h =
    without_test_if-placed stack (writes_flags o) _ (without_registers-placed stack (written o) b h)
