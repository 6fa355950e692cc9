-- The instruction of a node is what the machine fetches there, without a fault, from places that the node certifies.
use Rattle.std.proofs.Common.{◌≡◌, ℕ, ◌+◌, ◌-◌, ◌%◌, ◌≤◌, ◌<◌, Bool, true, false, cond, not, ◌&&◌, ◌==◌, nat_lt, nat_le, ◌⊎◌, inl, inr, List, [], ◌∷◌, ◌++◌, map, slice_index, Option, Some, None, refl, sym, ◌∙◌, ap, subst, arith}
use Rattle.std.proofs.lemmas.Option.{same_Some}
use Rattle.std.proofs.lemmas.Bool.Decides.{nat_tests}
use Rattle.std.specs.Option.{IfSome}
use Rattle.std.specs.List.{All, AllByRecursion, Contains}
use Rattle.std.proofs.lemmas.List.Elements.{All-map, All-contains_itself, All-from_recursion}
use Rattle.gb_ops.specs.declared.machine.Banks.{Banks}
use Rattle.gb_ops.specs.declared.registers.Processor.{Processor}
use Rattle.gb_ops.specs.Cartridge.{shown_bank}
use Rattle.gb_ops.specs.Memory.{View, is_free, byte_at}
use Rattle.gb_ops.specs.Machine.{Reading, read_at, read_where, fetched, length_of, mark_of}
use Rattle.gb_ops.specs.Faults.{no_faults, either_faults, fetch_faults, all_fetch_faults, fetch_addresses, address_where, code_place}
use Rattle.gb_ops.specs.Play.{MState, within}
use Rattle.gb_abs_memory.specs.Below.gb_domain.declared.types.Core.{Core}
use Rattle.gb_abs_memory.specs.Below.gb_domain.declared.types.Ctl.{Ctl}
use Rattle.gb_abs_memory.specs.Below.gb_domain.Summaries.{Program}
use Rattle.gb_abs_memory.specs.Below.gb_domain.Types.{AbsState, Node}
use Rattle.gb_abs_memory.specs.Below.gb_domain.Rules.{IsVal}
use Rattle.gb_abs_memory.specs.Below.gb_abs.Span.{one, is_inside}
use Rattle.gb_abs_memory.specs.Below.gb_abs.Meaning.{Activation, MeansParts}
use Rattle.gb_abs_memory.specs.Access.{is_limited}
use Rattle.gb_abs_memory.specs.Shown.{known_bank}
use Rattle.gb_abs_memory.specs.Sound.{IsRom}
use Rattle.gb_abs_memory.proofs.LoadLaws.{within_ctl}
use Rattle.gb_abs_memory.proofs.ShownLaws.{known_bank-sound}
use Rattle.gb_product.specs.Meaning.{Means}
use Rattle.gb_successors.specs.Code.{area_end, leaves_area, ends_after, is_other_bank, lies_in_high_ram, known_byte, known_where, three, bytes_from, known_bytes, addresses_of}
use Rattle.gb_successors.specs.Places.{IsCertifiedBy}
use Rattle.gb_successors.specs.Fetched.{FetchesFirst, FetchesAll}
use Rattle.gb_successors.proofs.ByteLaws.{Reads, Reads-known}

-- ---- the bytes that are known

-- the three bytes of an instruction that is known
pub record KnownBytes (program : Program) (rom : List ℕ) (s : AbsState) (a : ℕ) (bytes : List ℕ) : Type 0 where
  pub opcode : ℕ
  pub second : ℕ
  pub third : ℕ
  pub is_opcode : known_byte program rom s a ≡ Some opcode
  pub is_second : known_where (nat_le 2 (length_of opcode)) program rom s ((a + 1) % 65536) ≡ Some second
  pub is_third : known_where (nat_le 3 (length_of opcode)) program rom s ((a + 2) % 65536) ≡ Some third
  pub bytes_are : bytes ≡ opcode ∷ second ∷ third ∷ []

three_some : (a : ℕ) (b c : Option ℕ) (bytes : List ℕ) → three a b c ≡ Some bytes → (x : ℕ) × (y : ℕ) × (b ≡ Some x) × (c ≡ Some y) × (bytes ≡ a ∷ x ∷ y ∷ [])
three_some a None c bytes h = cc
three_some a (Some x) None bytes h = cc
three_some a (Some x) (Some y) bytes h = (x, y, refl, refl, sym (same_Some _ _ h))

KnownBytes-from : (program : Program) (rom : List ℕ) (s : AbsState) (a : ℕ) (o : Option ℕ) (bytes : List ℕ) → known_byte program rom s a ≡ o → bytes_from program rom s a o ≡ Some bytes → KnownBytes program rom s a bytes
KnownBytes-from program rom s a None bytes e h = cc
KnownBytes-from program rom s a (Some opcode) bytes e h =
    let p = three_some opcode _ _ bytes h in
    record { opcode = opcode; second = p.0; third = p.1; is_opcode = e; is_second = p.2; is_third = p.3; bytes_are = p.4 }

pub KnownBytes-known_bytes : (program : Program) (rom : List ℕ) (s : AbsState) (a : ℕ) (bytes : List ℕ) → known_bytes program rom s a ≡ Some bytes → KnownBytes program rom s a bytes
unfolding known_bytes
KnownBytes-known_bytes program rom s a bytes h = KnownBytes-from program rom s a (known_byte program rom s a) bytes refl h

-- a node's instruction is known, inside one area, in the node's bank, and no OAM transfer closes it
pub record IsKnown (program : Program) (rom : List ℕ) (n : Node) (bytes : List ℕ) : Type 0 where
  pub known : KnownBytes program rom n.state n.address bytes
  pub end : ℕ
  pub is_end : area_end n.address ≡ Some end
  pub inside : n.address + length_of known.opcode ≤ end
  pub bank : known_bank rom n.state.core.ctl n.address ≡ Some n.bank
  pub clear : (n.state.core.bound ≡ 0) ⊎ ((0xFF80 ≤ n.address) × (n.address + length_of known.opcode ≤ 0xFFFF))

-- what the tests of area, bank and OAM transfer say where they don't apply

pub end_of : (a opcode : ℕ) (o e : Option ℕ) → o ≡ Some opcode → leaves_area a o e ≡ false → (end : ℕ) × (e ≡ Some end) × (a + length_of opcode ≤ end)
end_of a opcode o None h i = cc
end_of a opcode o (Some end) h i =
    let j : nat_lt end (a + length_of opcode) ≡ false = sym (ap (λ p. ends_after a p end) h) ∙ i in
    (end, refl, grind (arith, nat_tests))

pub bank_of : (o : Option ℕ) (bank : ℕ) → is_other_bank o bank ≡ false → o ≡ Some bank
bank_of None bank h = cc
bank_of (Some shown) bank h = ap Some (same shown bank h)
  where
    same : (a b : ℕ) → not (a == b) ≡ false → a ≡ b
    same a b h = grind (arith, nat_tests)

pub clear_of : (bound a n : ℕ) → (not (bound == 0) && not (lies_in_high_ram a n)) ≡ false → (bound ≡ 0) ⊎ ((0xFF80 ≤ a) × (a + n ≤ 0xFFFF))
unfolding lies_in_high_ram
clear_of bound a n h = grind (arith, nat_tests)

-- ---- areas

-- an address of the area from a to its end
pub record IsInside (a end x : ℕ) : Type 0 where
  pub least : a ≤ x
  pub most : x < end

pub area_cases : (a end : ℕ) → area_end a ≡ Some end
    → ((a < 0x4000) × (end ≡ 0x4000)) ⊎ (((0x4000 ≤ a) × (a < 0x8000) × (end ≡ 0x8000)) ⊎ (((0xC000 ≤ a) × (a < 0xE000) × (end ≡ 0xE000)) ⊎ ((0xFF80 ≤ a) × (a < 0xFFFF) × (end ≡ 0xFFFF))))
unfolding area_end
area_cases a end h = grind (arith, nat_tests)

pub area_small : (a end : ℕ) → area_end a ≡ Some end → (a < end) × (end ≤ 0xFFFF)
area_small a end h = let cases = area_cases a end h in (grind arith, grind arith)

-- ---- the bytes of a node's instruction, one by one

-- a fact of each byte's address
pub record OfEach (P : ℕ → Type 0) (a n : ℕ) : Type 0 where
  pub first : P a
  pub second : nat_le 2 n ≡ true → P ((a + 1) % 65536)
  pub third : nat_le 3 n ≡ true → P ((a + 2) % 65536)

inside_each : (a n end : ℕ) → a < end → end ≤ 0xFFFF → a + n ≤ end → OfEach (IsInside a end) a n
inside_each a n end lt small fits =
    record {
      first = record { least = omega arith; most = lt };
      second = λ w. let two : 2 ≤ n = le_of 2 n w in record { least = omega arith; most = omega arith };
      third = λ w. let three : 3 ≤ n = le_of 3 n w in record { least = omega arith; most = omega arith };
    }
  where
    le_of : (k n : ℕ) → nat_le k n ≡ true → k ≤ n
    le_of k n h = grind (arith, nat_tests)

each_all : (P : ℕ → Type 0) (a n : ℕ) → OfEach P a n → AllByRecursion P (addresses_of a n)
unfolding addresses_of
each_all P a n h = cases (nat_le 2 n) (nat_le 3 n) h.second h.third
  where
    cases : (u v : Bool) → (u ≡ true → P ((a + 1) % 65536)) → (v ≡ true → P ((a + 2) % 65536))
        → AllByRecursion P (a ∷ (address_where u ((a + 1) % 65536) ++ address_where v ((a + 2) % 65536)))
    cases true true s t = (h.first, (s refl, (t refl, tt)))
    cases true false s t = (h.first, (s refl, tt))
    cases false true s t = (h.first, (t refl, tt))
    cases false false s t = (h.first, tt)

-- ---- what no OAM transfer closes

pub clear_byte : (core : Core) (a n end x : ℕ) → (core.bound ≡ 0) ⊎ ((0xFF80 ≤ a) × (a + n ≤ 0xFFFF)) → end ≤ 0xFFFF → IsInside a end x → is_limited core (one x) ≡ false
unfolding is_limited
clear_byte core a n end x (inl none) small i = rw none refl
clear_byte core a n end x (inr high) small i =
    let least : a ≤ x = i.least in
    let most : x < end = i.most in
    let first : 0xFF80 ≤ a = high.0 in
    inside (not (core.bound == 0)) (is_inside 0xFF80 0xFFFE (one x)) (grind (arith, nat_tests))
  where
    inside : (b c : Bool) → c ≡ true → (b && not c) ≡ false
    inside true c h = rw h refl
    inside false c h = refl

-- ---- places

-- an address of a half of ROM, or both addresses of RAM
data Halves (a x : ℕ) : Type 0 where
  InRom : a < 0x8000 → nat_lt x 0x8000 ≡ true → nat_lt x 0x4000 ≡ nat_lt a 0x4000 → Halves a x
  InRam : 0x8000 ≤ a → nat_lt x 0x8000 ≡ false → Halves a x

below : (a n : ℕ) → a < n → nat_lt a n ≡ true
below a n h = grind (arith, nat_tests)

not_below : (a n : ℕ) → n ≤ a → nat_lt a n ≡ false
not_below a n h = grind (arith, nat_tests)

halves : (a end x : ℕ) → area_end a ≡ Some end → IsInside a end x → Halves a x
halves a end x h i =
    let least : a ≤ x = i.least in
    let most : x < end = i.most in
    elim (area_cases a end h) [
      | inl c ↦
          let a_low : a < 0x4000 = c.0 in
          let x_low : x < 0x4000 = omega (arith, c.1) in
          InRom (omega arith) (below x 0x8000 (omega arith)) (below x 0x4000 x_low ∙ sym (below a 0x4000 a_low))
      | inr rest ↦ elim rest [
        | inl c ↦
            let a_high : 0x4000 ≤ a = c.0 in
            let x_rom : x < 0x8000 = omega (arith, c.2) in
            InRom c.1 (below x 0x8000 x_rom) (not_below x 0x4000 (omega arith) ∙ sym (not_below a 0x4000 a_high))
        | inr ram ↦
            let a_ram : 0x8000 ≤ a = elim ram [ inl c ↦ omega (arith, c.0) | inr c ↦ omega (arith, c.0) ] in
            InRam a_ram (not_below x 0x8000 (omega arith))
      ]
    ]

half_same : (rom : List ℕ) (r : Banks) (a x : ℕ) → nat_lt x 0x4000 ≡ nat_lt a 0x4000 → shown_bank rom r x ≡ shown_bank rom r a
unfolding shown_bank
half_same rom r a x h = rw h refl

ram_bank : (rom : List ℕ) (c : Ctl) (a bank : ℕ) → 0x8000 ≤ a → known_bank rom c a ≡ Some bank → 0 ≡ bank
unfolding known_bank
ram_bank rom c a bank h k =
    let low : nat_lt a 0x4000 ≡ false = not_below a 0x4000 (omega arith) in
    let high : nat_lt a 0x8000 ≡ false = not_below a 0x8000 h in
    same_Some 0 bank (rw (low, high) at k)

shown_known : (o : Option ℕ) (shown bank : ℕ) → o ≡ Some bank → IfSome o (λ b. shown ≡ b) → shown ≡ bank
shown_known None shown bank h i = cc
shown_known (Some b) shown bank h i = i ∙ same_Some b bank h

place_bank : (rom : List ℕ) (n : Node) (entry : Activation) (base : ℕ) (x : MState) (a : ℕ) → IsRom rom → MeansParts n.state entry base x → Halves n.address a
    → known_bank rom n.state.core.ctl n.address ≡ Some n.bank → cond (nat_lt a 0x8000) (shown_bank rom x.storage.banks a) 0 ≡ n.bank
place_bank rom n entry base x a r m (InRom a_rom x_rom same) k =
    rw x_rom
    (half_same rom x.storage.banks n.address a same
    ∙ shown_known _ _ n.bank k (known_bank-sound rom n.state.core.ctl n.address x.storage.banks r.size a_rom (within_ctl n.state.core.ctl entry x.storage.banks m.core.controller)))
place_bank rom n entry base x a r m (InRam a_ram x_ram) k = rw x_ram (ram_bank rom n.state.core.ctl n.address n.bank a_ram k)

-- ---- what the machine fetches

memory_rom : (rom : List ℕ) (x : MState) → (within rom x).memory.rom ≡ rom
unfolding within
memory_rom rom x = refl

memory_storage : (rom : List ℕ) (x : MState) → (within rom x).memory.storage ≡ x.storage
unfolding within
memory_storage rom x = refl

-- where the machine stands at a node whose instruction is known
pub record IsAt (program : Program) (rom : List ℕ) (n : Node) (entry : Activation) (base : ℕ) (x : MState) : Type 0 where
  pub cartridge : IsRom rom
  pub program_is : entry.program ≡ program
  pub means : Means n.state entry base x
  pub ie : IsVal n.state.core.ie
  pub at : x.processor.pc ≡ n.address

is_inside_each : (program : Program) (rom : List ℕ) (n : Node) (bytes : List ℕ) (k : IsKnown program rom n bytes) → OfEach (IsInside n.address k.end) n.address (length_of k.known.opcode)
is_inside_each program rom n bytes k =
    let small = area_small n.address k.end k.is_end in
    inside_each n.address (length_of k.known.opcode) k.end small.0 small.1 k.inside

clear_each : (program : Program) (rom : List ℕ) (n : Node) (bytes : List ℕ) (k : IsKnown program rom n bytes) (a : ℕ) → IsInside n.address k.end a → is_limited n.state.core (one a) ≡ false
clear_each program rom n bytes k a i = clear_byte n.state.core n.address (length_of k.known.opcode) k.end a k.clear (area_small n.address k.end k.is_end).1 i

-- one byte of the instruction
reads_byte : (program : Program) (rom : List ℕ) (n : Node) (entry : Activation) (base : ℕ) (x : MState) (bytes : List ℕ) (k : IsKnown program rom n bytes) → IsAt program rom n entry base x → (a b : ℕ)
    → IsInside n.address k.end a → known_byte program rom n.state a ≡ Some b → Reads rom x a b
reads_byte program rom n entry base x bytes k s a b i h = Reads-known program rom n.state entry base x a b s.cartridge s.program_is s.means s.ie (clear_each program rom n bytes k a i) h

certified : (program : Program) (rom : List ℕ) (n : Node) (entry : Activation) (base : ℕ) (x : MState) (bytes : List ℕ) (k : IsKnown program rom n bytes) → IsAt program rom n entry base x → (a : ℕ)
    → IsInside n.address k.end a → Contains (addresses_of n.address (length_of k.known.opcode)) a → IsCertifiedBy program rom n (code_place (within rom x).memory a)
unfolding code_place within
certified program rom n entry base x bytes k s a i c =
    record {
      bank = place_bank rom n entry base x a s.cartridge s.means.parts (halves n.address k.end a k.is_end i) k.bank;
      opcode = k.known.opcode;
      is_known = k.known.is_opcode;
      inside = c;
    }

first_of : (a n : ℕ) → Contains (addresses_of a n) a
unfolding addresses_of
first_of a n = (0, omega arith, refl)

-- the byte at PC
pub FetchesFirst-known : (program : Program) (rom : List ℕ) (n : Node) (entry : Activation) (base : ℕ) (x : MState) (bytes : List ℕ) (k : IsKnown program rom n bytes) → IsAt program rom n entry base x
    → FetchesFirst program rom n x k.known.opcode
FetchesFirst-known program rom n entry base x bytes k s =
    let i = (is_inside_each program rom n bytes k).first in
    let reads = reads_byte program rom n entry base x bytes k s n.address k.known.opcode i k.known.is_opcode in
    record {
      fixed = ap (is_free (within rom x).memory) s.at ∙ reads.fixed;
      byte = ap (byte_at (within rom x).memory) s.at ∙ reads.byte;
      faults = ap (fetch_faults (within rom x).memory) s.at ∙ reads.faults;
      place = subst (λ a. IsCertifiedBy program rom n (code_place (within rom x).memory a)) (sym s.at) (certified program rom n entry base x bytes k s n.address i (first_of n.address _));
    }

abbrev read_fixed : ℕ → List ℕ → Reading
read_fixed b free = record { value = b; rest = free }

read_gives : (rom : List ℕ) (x : MState) (a b : ℕ) (free : List ℕ) → Reads rom x a b → read_at (within rom x).memory a free ≡ read_fixed b free
unfolding read_at
read_gives rom x a b free g = rw (g.fixed, g.byte) refl

where_gives : (wanted : Bool) (program : Program) (rom : List ℕ) (s : AbsState) (x : MState) (a b : ℕ) (free : List ℕ) → (wanted ≡ true → known_byte program rom s a ≡ Some b → Reads rom x a b)
    → known_where wanted program rom s a ≡ Some b → read_where wanted (within rom x).memory a free ≡ read_fixed b free
unfolding read_where
where_gives true program rom s x a b free gives h = read_gives rom x a b free (gives refl h)
where_gives false program rom s x a b free gives h = ap (λ v. read_fixed v free) (same_Some 0 b h)

-- the HALT mark is clear, or the instruction has one byte, so that it makes no difference to what is fetched
abbrev pub IsPlainFetch : Processor → ℕ → Type 0
IsPlainFetch p opcode = (p.halt_mark ≡ false) ⊎ (length_of opcode ≡ 1)

minus_none : (n : ℕ) → n - 0 ≡ n
minus_none n = omega arith

fetched_at : (m : View) (p : Processor) (b0 b1 b2 : ℕ) (free : List ℕ) → IsPlainFetch p b0
    → read_at m p.pc free ≡ read_fixed b0 free
    → read_where (nat_le 2 (length_of b0)) m ((p.pc + 1) % 65536) free ≡ read_fixed b1 free
    → read_where (nat_le 3 (length_of b0)) m ((p.pc + 2) % 65536) free ≡ read_fixed b2 free
    → fetched m p free ≡ b0 ∷ b1 ∷ b2 ∷ []
unfolding fetched read_where
fetched_at m p b0 b1 b2 free (inl mark) h0 h1 h2 =
    let none : mark_of p ≡ 0 = ap (λ b. cond b 1 0) mark in
    rw (none, minus_none (p.pc + 1), minus_none (p.pc + 2), h0, h1, h2) refl
fetched_at m p b0 b1 b2 free (inr short) h0 h1 h2 =
    let second : read_fixed 0 free ≡ read_fixed b1 free = rw short at h1 in
    let third : read_fixed 0 free ≡ read_fixed b2 free = rw short at h2 in
    let e : 0 ≡ b1 = ap (λ (r : Reading). r.value) second in
    let f : 0 ≡ b2 = ap (λ (r : Reading). r.value) third in
    rw (h0, short, sym e, sym f) refl

-- where the bytes are fetched
addresses_are : (p : Processor) (bytes : List ℕ) (a opcode : ℕ) → IsPlainFetch p opcode → p.pc ≡ a → slice_index bytes 0 ≡ opcode → fetch_addresses p bytes ≡ addresses_of a (length_of opcode)
unfolding fetch_addresses addresses_of
addresses_are p bytes a opcode (inl mark) at first =
    let none : mark_of p ≡ 0 = ap (λ b. cond b 1 0) mark in
    rw (none, minus_none (p.pc + 1), minus_none (p.pc + 2), first, at) refl
addresses_are p bytes a opcode (inr short) at first = rw (first, short, at) refl

first_is : (bytes : List ℕ) (a b c : ℕ) → bytes ≡ a ∷ b ∷ c ∷ [] → slice_index bytes 0 ≡ a
first_is bytes a b c h = rw h refl

fine_all : (m : View) (xs : List ℕ) → AllByRecursion (λ a. fetch_faults m a ≡ no_faults) xs → all_fetch_faults m xs ≡ no_faults
unfolding either_faults
fine_all m [] h = refl
fine_all m (a ∷ rest) h = rw (h.0, fine_all m rest h.1) refl

processor_is : (rom : List ℕ) (x : MState) → (within rom x).processor ≡ x.processor
unfolding within
processor_is rom x = refl

wanted_known : (wanted : Bool) (program : Program) (rom : List ℕ) (s : AbsState) (a b : ℕ) → known_where wanted program rom s a ≡ Some b → wanted ≡ true → known_byte program rom s a ≡ Some b
wanted_known true program rom s a b h w = h
wanted_known false program rom s a b h w = cc

-- all bytes of the instruction
pub FetchesAll-known : (program : Program) (rom : List ℕ) (n : Node) (entry : Activation) (base : ℕ) (x : MState) (bytes : List ℕ) (k : IsKnown program rom n bytes) → IsAt program rom n entry base x
    → IsPlainFetch x.processor k.known.opcode → FetchesAll program rom n x bytes
FetchesAll-known program rom n entry base x bytes k s plain =
    let memory = (within rom x).memory in
    let inside = is_inside_each program rom n bytes k in
    let reads : (a b : ℕ) → IsInside n.address k.end a → known_byte program rom n.state a ≡ Some b → Reads rom x a b = reads_byte program rom n entry base x bytes k s in
    let first = reads _ _ inside.first k.known.is_opcode in
    let second : (w : nat_le 2 (length_of k.known.opcode) ≡ true) → Reads rom x ((n.address + 1) % 65536) k.known.second =
    λ w. reads _ _ (inside.second w) (wanted_known _ program rom n.state _ _ k.known.is_second w) in
    let third : (w : nat_le 3 (length_of k.known.opcode) ≡ true) → Reads rom x ((n.address + 2) % 65536) k.known.third =
    λ w. reads _ _ (inside.third w) (wanted_known _ program rom n.state _ _ k.known.is_third w) in
    let addresses : fetch_addresses x.processor bytes ≡ addresses_of n.address (length_of k.known.opcode) =
    addresses_are x.processor bytes n.address k.known.opcode plain s.at (first_is bytes _ _ _ k.known.bytes_are) in
    let within_area = All-from_recursion (IsInside n.address k.end) (addresses_of n.address (length_of k.known.opcode)) (each_all _ _ _ inside) in
    record {
      gives = λ free.
          fetched_at memory x.processor k.known.opcode k.known.second k.known.third free plain
          (ap (λ c. read_at memory c free) s.at ∙ read_gives rom x _ _ free first)
          (ap (λ c. read_where (nat_le 2 (length_of k.known.opcode)) memory ((c + 1) % 65536) free) s.at ∙ where_gives _ program rom n.state x _ _ free (λ w h. second w) k.known.is_second)
          (ap (λ c. read_where (nat_le 3 (length_of k.known.opcode)) memory ((c + 2) % 65536) free) s.at ∙ where_gives _ program rom n.state x _ _ free (λ w h. third w) k.known.is_third)
          ∙ sym k.known.bytes_are;
      faults = ap (all_fetch_faults memory) addresses
          ∙ fine_all memory _ (each_all (λ a. fetch_faults memory a ≡ no_faults) n.address (length_of k.known.opcode) (record {
            first = first.faults;
            second = λ w. (second w).faults;
            third = λ w. (third w).faults;
          }));
      places = subst (λ xs. All (IsCertifiedBy program rom n) (map (code_place memory) xs)) (sym addresses)
          (All-map (IsCertifiedBy program rom n) (code_place memory) (addresses_of n.address (length_of k.known.opcode))
          (λ i d lt. certified program rom n entry base x bytes k s _ (within_area i d lt) (All-contains_itself _ i d lt)));
    }
