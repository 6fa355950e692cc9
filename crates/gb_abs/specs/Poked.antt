-- A byte of RAM that changes (Memory map).
use Rattle.std.specs.Prelude.{◌≡◌, ℕ, true, false, ◌==◌}
use Rattle.gb_ops.specs.Memory.{Storage}
use Rattle.gb_abs.specs.Storage.{is_ram, peek}
use Rattle.gb_abs.specs.Meaning.{IsMemory}

-- the byte at an address of RAM is v now, and nothing else of the storage changed
pub record IsPoked (a v : ℕ) (s t : Storage) : Type 0 where
  pub memory : IsMemory t
  pub banks : t.banks ≡ s.banks
  pub ie : t.ie ≡ s.ie
  pub count : t.count ≡ s.count
  pub byte : peek t a ≡ v
  pub others : (b : ℕ) → is_ram b ≡ true → (b == a) ≡ false → peek t b ≡ peek s b
