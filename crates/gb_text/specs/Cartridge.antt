-- The line of a file that is no cartridge (own text).
use Rattle.std.specs.Prelude.{ℕ, List, ◌++◌, codes, decimal}
use Rattle.gb_header.specs.declared.fault.HeaderFault.{HeaderFault}
use Rattle.gb_header.specs.Header.{fault_number}
use Rattle.gb_text.specs.Text.{line_feed}

abbrev pub cartridge_text : HeaderFault → List ℕ
cartridge_text fault = codes "CARTRIDGE H" ++ decimal (fault_number fault) ++ line_feed
