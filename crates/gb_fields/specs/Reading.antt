-- Reading the numbers of a certificate, its head, and the fields of procedures and nodes outside their states (own format). A test of two fields is made behind the later one.
use Rattle.std.specs.Prelude.{ℕ, ◌+◌, ◌*◌, ◌%◌, Bool, true, false, ◌&&◌, ◌||◌, not, ◌==◌, nat_le, nat_lt, Ok}
use Rattle.gb_ops.specs.declared.machine.Region.{Region}
use Rattle.gb_fields.specs.declared.fault.CertFault.TheVariants as fault
use Rattle.gb_fields.specs.declared.head.Head.{Head}
use Rattle.gb_fields.specs.declared.head.AnyHead.{AnyHead}
use Rattle.gb_domain.specs.declared.rules.Rules.{Rules}
use Rattle.gb_domain.specs.declared.rules.Rules.TheVariants.{Simple, Extended}
use Rattle.gb_fields.specs.Limits.{procedure_limit, node_limit, unit, need_limit}
use Rattle.gb_fields.specs.Format.{Read, followed, both, mapped, checked, byte}
use Rattle.gb_domain.specs.Areas.{is_area}
use Rattle.gb_domain.specs.Limits.{rules_of}
use Rattle.gb_fields.specs.Rules.{size, fits, usual_base, is_base, is_whole, is_from, is_version_of, is_any_version_of, any_rules_of}

-- ---- numbers

abbrev pub is_between : ℕ → ℕ → ℕ → Bool
is_between low high n = nat_le low n && nat_le n high

abbrev pub is_ordered : ℕ × ℕ → Bool
is_ordered p = nat_le p.0 p.1

abbrev pub word_of : ℕ × ℕ → ℕ
word_of p = p.0 + 256 * p.1

-- two bytes, the low one first
unfoldable pub word : Read ℕ
word = mapped word_of (both byte byte)

abbrev pub quad_of : ℕ × ℕ → ℕ
quad_of p = p.0 + 65536 * p.1

-- two words, the low one first
unfoldable pub quad : Read ℕ
quad = mapped quad_of (both word word)

abbrev pub node_number_by : Bool → Read ℕ
node_number_by true = word
node_number_by false = quad

-- the number of a node, or of all nodes: two bytes in version 1, else four
unfoldable pub node_number : ℕ → Read ℕ
node_number version = node_number_by (version == 1)

-- a number from low to high
abbrev pub byte_between : ℕ → ℕ → Read ℕ
byte_between low high = checked fault.Field (is_between low high) byte

abbrev pub word_between : ℕ → ℕ → Read ℕ
word_between low high = checked fault.Field (is_between low high) word

-- how many there are
abbrev pub count_within : ℕ → Read ℕ
count_within limit = checked fault.Count (is_between 0 limit) byte

-- the same, in two bytes
abbrev pub word_count_within : ℕ → Read ℕ
word_count_within limit = checked fault.Count (is_between 0 limit) word

-- half of all words more, around the end: a word in two's complement as one in offset binary, and back
abbrev pub turned : ℕ → ℕ
turned n = (n + 32768) % 65536

-- a distance, which is spelled in two's complement, in offset binary
unfoldable pub offset_at : Read ℕ
offset_at = mapped turned word

abbrev pub is_one : ℕ → Bool
is_one n = n == 1

-- 0 for no, 1 for yes
unfoldable pub yes_no : Read Bool
yes_no = mapped is_one (byte_between 0 1)

-- ---- procedures and nodes

abbrev pub may_return : Bool → Bool → Bool
may_return is_main returns = not (is_main && returns)

-- whether it returns, which main doesn't
unfoldable pub returns_at : Bool → Read Bool
returns_at is_main = checked fault.Field (may_return is_main) yes_no

abbrev pub is_below : ℕ → ℕ → Bool
is_below limit n = nat_lt n limit

-- the number of its first node, one of so many
unfoldable pub entry_at : ℕ → ℕ → Read ℕ
entry_at version nodes = checked fault.Field (is_below nodes) (node_number version)

-- nothing is read, and it stands for this
abbrev pub nothing : {X : Type 0} → X → Read X
nothing x bytes = Ok (x, bytes)

-- the address above its items; versions 1 and 2 don't say it
unfoldable pub base_at : Rules → Bool → Region → Read ℕ
base_at Simple is_main region = nothing (usual_base is_main region)
base_at Extended is_main region = checked fault.Field (is_base is_main region) word

abbrev pub times : ℕ → ℕ → ℕ
times k n = k * n

-- the bytes of stack that it needs below its base
unfoldable pub need_at : Rules → Bool → Region → Read ℕ
need_at rules is_main region = checked fault.Region (fits is_main region) (mapped (times (unit rules)) (word_between 0 (need_limit rules)))

-- a procedure's number that exists and isn't smaller than the one before; then an address that isn't smaller in the same procedure
unfoldable pub key_at : ℕ → ℕ × ℕ → Read (ℕ × ℕ)
key_at procedures before = checked fault.Order (is_from before) (both (checked fault.Order (nat_le before.0) (checked fault.Field (is_below procedures) byte)) word)

-- ---- the head

abbrev pub Letters : Type 0
Letters = ℕ × (ℕ × (ℕ × ℕ))

-- GBB, and C in versions 1 and 2 or X in version 3
abbrev pub is_magic : Letters → Bool
is_magic p = p.0 == 0x47 && (p.1.0 == 0x42 && (p.1.1.0 == 0x42 && (p.1.1.1 == 0x43 || p.1.1.1 == 0x58)))

abbrev pub kind_by : Bool → Rules
kind_by true = Extended
kind_by false = Simple

-- which of both
abbrev pub kind_of : Letters → Rules
kind_of p = kind_by (p.1.1.1 == 0x58)

unfoldable pub magic_at : Read Rules
magic_at = mapped kind_of (checked fault.Magic is_magic (both byte (both byte (both byte byte))))

-- the letters, and a version that they begin
unfoldable pub version_at : Read ℕ
version_at = mapped (λ p. p.1) (followed magic_at (λ rules. checked fault.Version (is_version_of rules) byte))

abbrev pub to_region : ℕ × ℕ → Region
to_region p = record { first = p.0; last = p.1 }

abbrev pub is_region : Rules → ℕ × ℕ → Bool
is_region rules p = is_area p.0 p.1 && is_whole rules (size (to_region p))

unfoldable pub region_at : Rules → Read Region
region_at rules = mapped to_region (checked fault.Region (is_region rules) (both word word))

abbrev pub is_any : ℕ → Bool
is_any n = nat_lt 0 n

abbrev pub to_head : ℕ × (Region × (ℕ × ℕ)) → Head
to_head p = record { version = p.0; region = p.1.0; procedures = p.1.1.0; nodes = p.1.1.1 }

-- how many nodes there are
unfoldable pub node_count_at : ℕ → Read ℕ
node_count_at version = checked fault.Field is_any (checked fault.Count (is_between 0 (node_limit version)) (node_number version))

unfoldable pub head_at : Read Head
head_at = mapped to_head (followed version_at (λ v. both (region_at (rules_of v)) (both (checked fault.Field is_any (count_within procedure_limit)) (node_count_at v))))

-- ---- the head of a certificate of any version

-- the letters, and a version that they begin, version 4 too
unfoldable pub any_version_at : Read ℕ
any_version_at = mapped (λ p. p.1) (followed magic_at (λ rules. checked fault.Version (is_any_version_of rules) byte))

abbrev pub procedure_count_by : Bool → Read ℕ
procedure_count_by true = word
procedure_count_by false = count_within procedure_limit

-- how many procedures there are: in one byte, or in version 4 in two
unfoldable pub procedure_count_at : ℕ → Read ℕ
procedure_count_at version = checked fault.Field is_any (procedure_count_by (version == 4))

unfoldable pub any_head_at : Read Head
any_head_at = mapped to_head (followed any_version_at (λ v. both (region_at (any_rules_of v)) (both (procedure_count_at v) (node_count_at v))))

-- what contracts see of a head that was read
abbrev pub head_in : AnyHead → Head
head_in h = record { version = h.version; region = h.region; procedures = h.procedures; nodes = h.nodes }
