-- The numbers of the reasons.
use Rattle.std.specs.Prelude.{ℕ}
use Rattle.gb_abs.specs.declared.reason.Reason.{Reason}
use Rattle.gb_abs.specs.declared.reason.Reason.TheVariants.{Entry, Area, Bank, Unreadable, UndefinedOpcode, Stop, Halt, Stack, Depth, Store, CartridgeRam, OamTransfer, JumpHl, Uncovered, Callee, Return, Interrupt}

abbrev pub reason_number : Reason → ℕ
reason_number Entry = 1
reason_number Area = 2
reason_number Bank = 3
reason_number Unreadable = 4
reason_number UndefinedOpcode = 5
reason_number Stop = 6
reason_number Halt = 7
reason_number Stack = 8
reason_number Depth = 9
reason_number Store = 10
reason_number CartridgeRam = 11
reason_number OamTransfer = 12
reason_number JumpHl = 13
reason_number Uncovered = 14
reason_number Callee = 15
reason_number Return = 16
reason_number Interrupt = 17
