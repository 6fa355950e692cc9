-- Bytes of RAM by address, where all other addresses hold nothing: what is known together of memory is said of them alone.
use Rattle.std.proofs.Common.{◌≡◌, ℕ, ◌≤◌, ◌<◌, Bool, true, false, not, cond, ◌==◌, nat_le, Option, Some, None, refl, ◌∙◌, ap, subst, arith}
use Rattle.std.proofs.lemmas.Bool.{and_parts, eqb-true}
use Rattle.gb_ops.specs.declared.registers.Registers.{Registers}
use Rattle.gb_ops.specs.declared.registers.Flags.{Flags}
use Rattle.gb_ops.specs.declared.machine.Faults.{Faults}
use Rattle.gb_ops.specs.declared.machine.Region.{Region}
use Rattle.gb_ops.specs.Memory.{View, Storage, wrote, is_closed}
use Rattle.gb_ops.specs.Faults.{no_faults, write_faults, access_faults}
use Rattle.gb_domain.specs.declared.relations.Relations.{Relations}
use Rattle.gb_product.specs.Below.gb_abs.Meaning.{IsMemory}
use Rattle.gb_product.specs.Below.gb_abs.Storage.{is_ram, peek}
use Rattle.gb_product.proofs.Below.gb_abs_laws.StorageLaws.{wrote-poked}
use Rattle.gb_product.specs.Below.gb_relations.Meaning.{HoldRelations}
use Rattle.gb_product.specs.Below.gb_relations.Sound.{IsBytePlaced}
use Rattle.gb_product.specs.Below.gb_pairs.Meaning.{IsOtherIn, IsReadIn, AreReadIn}
use Rattle.gb_domain.specs.declared.places.StackBytes.{StackBytes}
use Rattle.gb_domain.specs.declared.pairs.Link.{Link}
use Rattle.gb_domain.specs.declared.pairs.Other.{Other}
use Rattle.gb_domain.specs.declared.pairs.Other.TheVariants as other
use Rattle.gb_domain.specs.declared.pairs.Pairs.{Pairs}
use Rattle.gb_domain.specs.declared.pairs.WordPair.{WordPair}
use Rattle.gb_domain.specs.declared.pairs.WordPair.TheVariants as words
use Rattle.gb_domain.specs.Areas.{is_area, meets, is_free_byte}
use Rattle.gb_domain.specs.Pairs.{ArePairs, facts_of, bounds_in, any_bounds, any_pairs}
use Rattle.gb_product.proofs.Below.gb_relations_laws.AddressLaws.{placed-ram}
use Rattle.gb_product.proofs.Below.gb_relations_laws.CellLinkLaws.{HoldPairs-elsewhere}

-- the byte of RAM at an address
abbrev pub ram_at : Storage → ℕ → ℕ
ram_at s b = cond (is_ram b) (peek s b) 0

pub ram_same : (s t : Storage) (b : ℕ) → (is_ram b ≡ true → peek t b ≡ peek s b) → ram_at t b ≡ ram_at s b
ram_same s t b h = by (is_ram b) h
  where
    by : (r : Bool) → (r ≡ true → peek t b ≡ peek s b) → cond r (peek t b) 0 ≡ cond r (peek s b) 0
    by true h = h refl
    by false h = refl

pub ram_is : (s : Storage) (b : ℕ) → is_ram b ≡ true → ram_at s b ≡ peek s b
ram_is s b h = ap (λ r. cond r (peek s b) 0) h

pub differs : (a b : ℕ) → (a ≡ b → ⊥) → (a == b) ≡ false
differs a b h = choose (a == b) refl
  where
    choose : (c : Bool) → (a == b) ≡ c → (a == b) ≡ false
    choose true e = absurd (h (eqb-true a b e))
    choose false e = e

-- a write without a fault isn't dropped
not_dropped : (m : View) (a n : ℕ) → write_faults m a n ≡ no_faults → is_closed m.storage a ≡ false
unfolding write_faults access_faults
not_dropped m a n h = ap (λ (f : Faults). f.transfer_met) h

pub wrote_ram : (m : View) (a n : ℕ) → IsMemory m.storage → is_ram a ≡ true → n ≤ 255 → write_faults m a n ≡ no_faults → ram_at (wrote m a n).storage a ≡ n
wrote_ram m a n k ram le faults = ram_is (wrote m a n).storage a ram ∙ (wrote-poked m a n k ram le (not_dropped m a n faults)).byte

-- links read RAM
free_byte_ram : (region : Region) (a : ℕ) → is_free_byte region a ≡ true → is_ram a ≡ true
free_byte_ram region a h = (and_parts (nat_le a a) (is_ram a) (and_parts (is_area a a) (not (meets region a a)) h).0).1

-- what is known together of memory is said of RAM
pub HoldRelations-ram :
    (held : StackBytes) (region : Region) (r : Relations) (was x : Registers ℕ) (memory after : ℕ → ℕ) (f : Flags)
    → IsBytePlaced held r.byte.address → ArePairs (is_free_byte region) r.pairs
    → ((b : ℕ) → is_ram b ≡ true → after b ≡ memory b) → HoldRelations r was x memory f → HoldRelations r was x after f
HoldRelations-ram held region r was x memory after f free are same h =
    record {
      byte = record {
        byte = h.byte.byte;
        small = h.byte.small;
        registers = h.byte.registers;
        address = λ a e. same a (lies r.byte.address a e free) ∙ h.byte.address a e;
        test = h.byte.test;
      };
      zero = h.zero;
      pairs = HoldPairs-elsewhere (is_free_byte region) r.pairs was x memory after are (λ a e. same a (free_byte_ram region a e)) h.pairs;
    }
  where
    same_some : (b a : ℕ) → Some b ≡ Some a → b ≡ a
    same_some b a e = cc

    lies : (o : Option ℕ) (a : ℕ) → o ≡ Some a → IsBytePlaced held o → is_ram a ≡ true
    lies None a e h = absurd (let bad : None ≡ Some a = e in cc)
    lies (Some b) a e h = subst (λ n. is_ram n ≡ true) (same_some b a e) (placed-ram held b h)

-- ---- links that read any bytes

-- each byte of memory is one
pub bytes_small : (s : Storage) → IsMemory s → (a : ℕ) → peek s a < 256
bytes_small s m a = let small = m.bytes a in omega arith

ram_by : (r : Bool) (n : ℕ) → n < 256 → cond r n 0 < 256
ram_by true n h = h
ram_by false n h = omega arith

pub ram_small : (s : Storage) → IsMemory s → (a : ℕ) → ram_at s a < 256
ram_small s m a = ram_by (is_ram a) (peek s a) (bytes_small s m a)

other_any : (o : Other) (memory : ℕ → ℕ) → ((a : ℕ) → memory a < 256) → IsOtherIn o any_bounds memory
other_any (other.Register r) memory small = tt
other_any (other.Pair p) memory small = tt
other_any (other.Cell a) memory small = let n = small a in record { within = record { least = omega arith; most = omega arith }; small = n }
other_any other.Nothing memory small = tt

link_any : (l : Option Link) (memory : ℕ → ℕ) → ((a : ℕ) → memory a < 256) → IsReadIn l any_bounds memory
link_any None memory small = tt
link_any (Some l) memory small = other_any l.other memory small

-- whatever bytes memory holds, they lie within any bounds
pub any_read : (s : Pairs) (memory : ℕ → ℕ) → ((a : ℕ) → memory a < 256) → AreReadIn s any_pairs memory
any_read s memory small = record { each = each }
  where
    each : (p : WordPair) → IsReadIn (facts_of p s).link (bounds_in p any_pairs) memory
    each words.Bc = link_any s.bc.link memory small
    each words.De = link_any s.de.link memory small
    each words.Hl = link_any s.hl.link memory small
