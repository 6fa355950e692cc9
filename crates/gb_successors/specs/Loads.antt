-- What is known of what an instruction reads (abstract semantics; own).
use Rattle.std.specs.Prelude.{ℕ, ◌+◌, nat_lt, Bool, not, ◌&&◌, ◌||◌, if◌then◌else◌, List, Option, Some, None, is_some}
use Rattle.gb_ops.specs.declared.machine.Region.{Region}
use Rattle.gb_ops.specs.Memory.{rom_byte}
use Rattle.gb_domain.specs.declared.low_bits.LowBits.{LowBits}
use Rattle.gb_domain.specs.declared.rules.Rules.{Rules}
use Rattle.gb_domain.specs.declared.rules.Rules.TheVariants.{Extended}
use Rattle.gb_domain.specs.declared.setting.Setting.{Setting}
use Rattle.gb_domain.specs.declared.types.Halves.{Halves}
use Rattle.gb_domain.specs.declared.types.Val.{Val}
use Rattle.gb_domain.specs.Areas.{meets}
use Rattle.gb_domain.specs.Interval.{bounds}
use Rattle.gb_domain.specs.LowBits.{no_low_bits}
use Rattle.gb_domain.specs.Summaries.{Program}
use Rattle.gb_domain.specs.Types.{AbsState}
use Rattle.gb_domain.specs.Values.{interval_of}
use Rattle.gb_product.specs.Below.gb_vals.Vals.{any_val}
use Rattle.gb_product.specs.Below.gb_abs.declared.span.Span.{Span}
use Rattle.gb_product.specs.Below.gb_abs.Located.{item_at}
use Rattle.gb_product.specs.Below.gb_abs.Span.{is_one, is_inside}
use Rattle.gb_product.specs.Below.gb_abs.Stack.{youngest}
use Rattle.gb_product.specs.Below.gb_abs.Storage.{is_ram}
use Rattle.gb_product.specs.Below.gb_abs_effects.declared.reads.AbsRead.{AbsRead}
use Rattle.gb_product.specs.Below.gb_abs_effects.declared.reads.AbsRead.TheVariants as read
use Rattle.gb_product.specs.Below.gb_abs_effects.Pairs.{any_word, word_or_any}
use Rattle.gb_product.specs.Below.gb_pairs.declared.values.Values.{Values}
use Rattle.gb_product.specs.Below.gb_summaries.Below.gb_ram_bounds.declared.addresses.AddressSet.{AddressSet}
use Rattle.gb_product.specs.Below.gb_summaries.Below.gb_ram_bounds.Addresses.{joined_over}
use Rattle.gb_product.specs.Covering.{uncopied, byte_in}
use Rattle.gb_abs_memory.specs.Access.{home_of, is_table, loaded_val}
use Rattle.gb_abs_memory.specs.Shown.{known_bank}

-- what is known of what is read by cells alone: of a byte, or of the word that was pushed last
unfoldable pub read_word : Setting → List ℕ → AbsState → AbsRead → Halves
read_word z rom s (read.Byte span) = record { high = any_val; low = loaded_val z rom s span }
read_word z rom s read.Top = word_or_any (youngest s)
read_word z rom s _ = any_word

-- ---- by facts and fills too

-- an address of RAM, or of its echo, where no item stands
unfoldable pub is_plain_ram : Setting → AbsState → ℕ → Bool
is_plain_ram z s a = is_ram (home_of a) && not (is_ram a && is_some (item_at z s a))

-- what is known of the byte at such an address
abbrev pub told_at : Program → Values → AbsState → ℕ → Val
told_at program v s a = byte_in program v s.cells s.summary (home_of a)

-- ---- at one of several addresses

-- all of work RAM, all of high RAM or all of the echo, outside the stack region
unfoldable pub is_stretch : Region → Span → Bool
is_stretch region span =
    (is_inside 0xC000 0xDFFF span || is_inside 0xFF80 0xFFFE span || is_inside 0xE000 0xFDFF span)
    && not (meets region (home_of span.first) (home_of span.last))

-- those of a span whose low byte has the low bits
abbrev pub addresses_of : Span → LowBits → AddressSet
addresses_of span low = record { first = span.first; last = span.last; low = low }

-- of a bank that is known, the bytes at these addresses
abbrev pub table_among : Option ℕ → List ℕ → AddressSet → Val
table_among None rom x = any_val
table_among (Some bank) rom x = uncopied (joined_over x (λ a. bounds (rom_byte rom bank a) (rom_byte rom bank a)))

-- what is known of the byte at one of them: of RAM, of its echo, or of a table in ROM
unfoldable pub joined_in : Region → Program → List ℕ → Values → LowBits → AbsState → Span → Val
joined_in region program rom v low s span =
    if is_stretch region span then uncopied (joined_over (addresses_of span low) (λ a. interval_of (told_at program v s a)))
    else if is_table span then table_among (known_bank rom s.core.ctl span.first) rom (addresses_of span low)
    else any_val

-- ---- by the rules

-- of a byte, by those of version 4
unfoldable pub loaded_whole : Setting → Region → Program → List ℕ → Values → LowBits → AbsState → Span → Val
loaded_whole z region program rom v low s span =
    if not (is_one span) then joined_in region program rom v low s span
    else if is_plain_ram z s span.first then told_at program v s span.first
    else loaded_val z rom s span

-- those of version 3 know of cells alone
abbrev pub loaded_in : Setting → Region → Program → List ℕ → Values → LowBits → AbsState → Span → Val
loaded_in z region program rom v low s span =
    if z.is_whole then loaded_whole z region program rom v low s span else loaded_val z rom s span

-- the addresses behind those of a span
abbrev pub span_behind : Span → Span
span_behind span = if nat_lt span.first 0xFFFF && nat_lt span.last 0xFFFF then record { first = span.first + 1; last = span.last + 1; low = no_low_bits } else record { first = 0; last = 0xFFFF; low = no_low_bits }

-- what is known of what is read, where an address has the low bits; those of versions 1 and 2 know of cells alone
abbrev pub word_by : Rules → Setting → Region → Program → List ℕ → Values → LowBits → AbsState → AbsRead → Halves
word_by Extended z region program rom v low s (read.Byte span) = record { high = any_val; low = loaded_in z region program rom v low s span }
word_by Extended z region program rom v low s (read.Word span) =
    record { high = loaded_in z region program rom v no_low_bits s (span_behind span); low = loaded_in z region program rom v no_low_bits s span }
word_by rules z region program rom v low s what = read_word z rom s what
