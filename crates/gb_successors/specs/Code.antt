-- What a checker knows of the instruction at an address (own rules; Memory map).
use Rattle.std.specs.Prelude.{ℕ, ◌+◌, ◌%◌, Bool, true, false, not, ◌&&◌, ◌==◌, if◌then◌else◌, nat_lt, nat_le, List, [], ◌∷◌, ◌++◌, Option, Some, None}
use Rattle.gb_ops.specs.Cartridge.{is_within}
use Rattle.gb_ops.specs.Machine.{length_of}
use Rattle.gb_ops.specs.Faults.{address_where, is_code_address}
use Rattle.gb_abs_memory.specs.Below.gb_domain.declared.types.Val.{Val}
use Rattle.gb_abs_memory.specs.Below.gb_domain.Summaries.{Program}
use Rattle.gb_abs_memory.specs.Below.gb_domain.Types.{AbsState}
use Rattle.gb_abs_memory.specs.Below.gb_abs.Storage.{is_ram}
use Rattle.gb_abs_memory.specs.Access.{val_at}
use Rattle.gb_product.specs.Covering.{byte_in, values_in}

-- ---- areas

-- the address behind the area of an address, where code may lie: the two halves of ROM, work RAM and high RAM
unfoldable pub area_end : ℕ → Option ℕ
area_end a =
    if nat_lt a 0x4000 then Some 0x4000
    else if nat_lt a 0x8000 then Some 0x8000
    else if is_within 0xC000 0xDFFF a then Some 0xE000
    else if is_within 0xFF80 0xFFFE a then Some 0xFFFF
    else None

-- the instruction runs past its area, its first byte known
abbrev pub ends_after : ℕ → Option ℕ → ℕ → Bool
ends_after a None end = false
ends_after a (Some opcode) end = nat_lt end (a + length_of opcode)

-- an address is in no area for code, or its instruction leaves its area
abbrev pub leaves_area : ℕ → Option ℕ → Option ℕ → Bool
leaves_area a opcode None = true
leaves_area a opcode (Some end) = ends_after a opcode end

-- a bank isn't known, or is another one
abbrev pub is_other_bank : Option ℕ → ℕ → Bool
is_other_bank None bank = true
is_other_bank (Some shown) bank = not (shown == bank)

-- whether an instruction of n bytes lies inside high RAM
unfoldable pub lies_in_high_ram : ℕ → ℕ → Bool
lies_in_high_ram a n = nat_le 0xFF80 a && nat_le (a + n) 0xFFFF

-- ---- bytes

-- the one value of a Val
unfoldable pub single_of : Val → Option ℕ
single_of v = if v.lo == v.hi then Some v.lo else None

-- what is known of the byte at an address: of RAM by cells, and by the facts that hold and the fills
unfoldable pub code_val : Program → List ℕ → AbsState → ℕ → Val
code_val program rom s a = if is_ram a then byte_in program (values_in s) s.cells s.summary a else val_at rom s a

-- the byte at an address where code may lie, if it is the same in each of these states
unfoldable pub known_byte : Program → List ℕ → AbsState → ℕ → Option ℕ
known_byte program rom s a = if is_code_address a then single_of (code_val program rom s a) else None

-- the byte is looked up only if it is wanted
abbrev pub known_where : Bool → Program → List ℕ → AbsState → ℕ → Option ℕ
known_where true program rom s a = known_byte program rom s a
known_where false program rom s a = Some 0

abbrev pub three : ℕ → Option ℕ → Option ℕ → Option (List ℕ)
three first None third = None
three first (Some second) None = None
three first (Some second) (Some third) = Some (first ∷ second ∷ third ∷ [])

abbrev pub bytes_from : Program → List ℕ → AbsState → ℕ → Option ℕ → Option (List ℕ)
bytes_from program rom s a None = None
bytes_from program rom s a (Some opcode) =
    three opcode
    (known_where (nat_le 2 (length_of opcode)) program rom s ((a + 1) % 65536))
    (known_where (nat_le 3 (length_of opcode)) program rom s ((a + 2) % 65536))

-- the bytes of the instruction at an address, three of them, 00 behind its length, where all are known
unfoldable pub known_bytes : Program → List ℕ → AbsState → ℕ → Option (List ℕ)
known_bytes program rom s a = bytes_from program rom s a (known_byte program rom s a)

-- the addresses of an instruction of n bytes
unfoldable pub addresses_of : ℕ → ℕ → List ℕ
addresses_of a n = a ∷ (address_where (nat_le 2 n) ((a + 1) % 65536) ++ address_where (nat_le 3 n) ((a + 2) % 65536))
