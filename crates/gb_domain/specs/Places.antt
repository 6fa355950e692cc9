-- Registers by their numbers, and no places (own format).
use Rattle.std.specs.Prelude.{ℕ, Bool, false, ◌==◌, None}
use Rattle.gb_ops.specs.declared.op.Register.{Register}
use Rattle.gb_ops.specs.declared.op.Register.TheVariants.{A, B, C, D, E, H, L}
use Rattle.gb_ops.specs.declared.registers.Registers.{Registers}
use Rattle.gb_domain.specs.declared.places.OneByte.{OneByte}

-- in the order of the letters
abbrev pub register_number : Register → ℕ
register_number A = 0
register_number B = 1
register_number C = 2
register_number D = 3
register_number E = 4
register_number H = 5
register_number L = 6

abbrev pub is_same_register : Register → Register → Bool
is_same_register r s = register_number r == register_number s

abbrev pub no_place : Registers Bool
no_place = record { a = false; b = false; c = false; d = false; e = false; h = false; l = false }

abbrev pub no_byte : OneByte
no_byte = record { registers = no_place; address = None; test = None }
