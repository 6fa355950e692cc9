-- The fields of a certificate's head that all versions have: what is read is spelled so, and what is spelled so is read.
use Rattle.std.proofs.Common.{◌≡◌, ℕ, ◌<◌, ◌≤◌, Bool, true, false, ◌&&◌, ◌||◌, ◌==◌, ◌⊎◌, inl, inr, List, [], ◌∷◌, ◌++◌, Result, Ok, Err, refl, sym, ap, arith}
use Rattle.gb_ops.specs.declared.machine.Region.{Region}
use Rattle.gb_states.specs.Below.gb_fields.declared.fault.CertFault.{CertFault}
use Rattle.gb_states.specs.Below.gb_fields.declared.fault.CertFault.TheVariants as fault
use Rattle.gb_states.specs.Below.gb_fields.Limits.{node_limit}
use Rattle.gb_states.specs.Below.gb_fields.Format.{go_on, both, checked, ended, byte}
use Rattle.gb_domain.specs.declared.rules.Rules.{Rules}
use Rattle.gb_domain.specs.declared.rules.Rules.TheVariants.{Simple, Extended}
use Rattle.gb_domain.specs.Areas.{is_area}
use Rattle.gb_states.specs.Below.gb_fields.Rules.{size, is_whole}
use Rattle.gb_states.specs.Below.gb_fields.Reading.{word, is_between, node_number, Letters, is_magic, kind_by, kind_of, magic_at, is_region, to_region, region_at, is_any, node_count_at}
use Rattle.gb_states.specs.Spelling as spelled
use Rattle.gb_states.proofs.Formats.{IsFormat, ok_is, IsFormat-byte, IsFormat-both, IsFormat-checked, IsFormat-mapped, IsFormat-as}
use Rattle.gb_states.proofs.FieldLaws.{and_both, both_and, within, is_within, same, area_small, node_numbers, IsFormat-node_number, IsFormat-word}
use Rattle.gb_states.proofs.StateLaws.{lt_is, is_lt, number_small}

-- ---- the region

from_region : Region → ℕ × ℕ
from_region r = (r.first, r.last)

abbrev IsRegionPair : Rules → Region → Type 0
IsRegionPair rules r = ((r.first < 65536) × (r.last < 65536)) × (is_region rules (r.first, r.last) ≡ true)

-- a region whose bytes can be counted
pub record IsRegionFor (rules : Rules) (r : Region) : Type 0 where
  pub area : is_area r.first r.last ≡ true
  pub whole : is_whole rules (size r) ≡ true

region-is : (rules : Rules) (r : Region) → IsRegionPair rules r → IsRegionFor rules r
region-is rules r h = let a = and_both (is_area r.first r.last) (is_whole rules (size r)) h.1 in record { area = a.0; whole = a.1 }

is-region : (rules : Rules) (r : Region) → IsRegionFor rules r → IsRegionPair rules r
is-region rules r h = (area_small r.first r.last h.area, both_and (is_area r.first r.last) (is_whole rules (size r)) h.area h.whole)

pub IsFormat-region : (rules : Rules) → IsFormat (region_at rules) (λ r. spelled.word r.first ++ spelled.word r.last) (IsRegionFor rules)
unfolding region_at from_region
IsFormat-region rules =
    IsFormat-as (region_at rules) (λ r. spelled.word r.first ++ spelled.word r.last) (IsRegionPair rules) (IsRegionFor rules) (region-is rules) (is-region rules)
    (IsFormat-mapped to_region from_region _ _ _ (λ x h. refl) (λ y h. refl) (IsFormat-checked fault.Region (is_region rules) _ _ _ (IsFormat-both word word _ _ _ _ IsFormat-word IsFormat-word)))

-- ---- the letters

abbrev AreBytes : Letters → Type 0
AreBytes p = (p.0 < 256) × ((p.1.0 < 256) × ((p.1.1.0 < 256) × (p.1.1.1 < 256)))

abbrev pub spelled_letters : Letters → List ℕ
spelled_letters p = p.0 ∷ p.1.0 ∷ p.1.1.0 ∷ p.1.1.1 ∷ []

abbrev pub letters_of : Rules → Letters
letters_of rules = (0x47, (0x42, (0x42, spelled.letter rules)))

abbrev IsMagic : Letters → Type 0
IsMagic p = AreBytes p × (is_magic p ≡ true)

last-letter : (d : ℕ) (b : Bool) → (d == 0x58) ≡ b → (d == 0x43 || b) ≡ true → spelled.letter (kind_by b) ≡ d
last-letter d true e h = sym (same d 0x58 e)
last-letter d false e h = sym (same d 0x43 (or_false (d == 0x43) h))
  where
    or_false : (b : Bool) → (b || false) ≡ true → b ≡ true
    or_false true h = refl
    or_false false h = h

magic-is : (p : Letters) → IsMagic p → letters_of (kind_of p) ≡ p
magic-is p good =
    let a = and_both (p.0 == 0x47) (p.1.0 == 0x42 && (p.1.1.0 == 0x42 && (p.1.1.1 == 0x43 || p.1.1.1 == 0x58))) good.1 in
    let b = and_both (p.1.0 == 0x42) (p.1.1.0 == 0x42 && (p.1.1.1 == 0x43 || p.1.1.1 == 0x58)) a.1 in
    let c = and_both (p.1.1.0 == 0x42) (p.1.1.1 == 0x43 || p.1.1.1 == 0x58) b.1 in
    letters p.0 p.1.0 p.1.1.0 p.1.1.1 (spelled.letter (kind_of p)) (same p.0 0x47 a.0) (same p.1.0 0x42 b.0) (same p.1.1.0 0x42 c.0) (last-letter p.1.1.1 (p.1.1.1 == 0x58) refl c.1)
  where
    letters : (a b c d e : ℕ) → a ≡ 0x47 → b ≡ 0x42 → c ≡ 0x42 → e ≡ d → (let q : Letters = (0x47, (0x42, (0x42, e))) in q) ≡ (a, (b, (c, d)))
    letters a b c d e ea eb ec ed = rw (ea, eb, ec, ed) refl

kind-again : (rules : Rules) → kind_of (letters_of rules) ≡ rules
kind-again Simple = refl
kind-again Extended = refl

letters_good : (rules : Rules) → IsMagic (letters_of rules)
letters_good Simple = ((omega arith, (omega arith, (omega arith, omega arith))), refl)
letters_good Extended = ((omega arith, (omega arith, (omega arith, omega arith))), refl)

abbrev pub spelled_magic : Rules → List ℕ
spelled_magic rules = spelled_letters (letters_of rules)

pub IsFormat-magic : IsFormat magic_at spelled_magic (λ rules. Unit {0})
unfolding magic_at
IsFormat-magic =
    IsFormat-as magic_at spelled_magic (λ rules. IsMagic (letters_of rules)) (λ rules. Unit {0}) (λ rules h. tt) (λ rules h. letters_good rules)
    (IsFormat-mapped kind_of letters_of (checked fault.Magic is_magic (both byte (both byte (both byte byte)))) spelled_letters IsMagic magic-is (λ rules h. kind-again rules)
    (IsFormat-checked fault.Magic is_magic (both byte (both byte (both byte byte))) spelled_letters AreBytes (IsFormat-both _ _ _ _ _ _ IsFormat-byte (IsFormat-both _ _ _ _ _ _ IsFormat-byte (IsFormat-both byte byte _ _ _ _ IsFormat-byte IsFormat-byte)))))

pub or_either : (a b : Bool) → (a || b) ≡ true → (a ≡ true) ⊎ (b ≡ true)
or_either true b h = inl refl
or_either false b h = inr h

-- ---- the number of nodes

pub IsFormat-node_count : (version : ℕ) → IsFormat (node_count_at version) (spelled.node_number version) (λ n. (n ≤ node_limit version) × (0 < n))
unfolding node_count_at
IsFormat-node_count version =
    IsFormat-as (node_count_at version) (spelled.node_number version) (λ n. ((n < node_numbers (version == 1)) × (is_between 0 (node_limit version) n ≡ true)) × (is_any n ≡ true)) (λ n. (n ≤ node_limit version) × (0 < n))
    (λ n h. (within (node_limit version) n h.0.1, lt_is 0 n h.1)) (λ n h. ((number_small version n h.0, is_within (node_limit version) n h.0), is_lt 0 n h.1))
    (IsFormat-checked fault.Field is_any _ _ _ (IsFormat-checked fault.Count (is_between 0 (node_limit version)) (node_number version) (spelled.node_number version) (λ n. n < node_numbers (version == 1)) (IsFormat-node_number version)))

-- ---- all of the bytes

pub whole_is : {X : Type 0} (r : Result (X × List ℕ) CertFault) (x : X) → go_on r ended ≡ Ok x → r ≡ Ok (x, [])
whole_is {X} (Ok p) x e = by p.0 p.1 e
  where
    by : (y : X) (rest : List ℕ) → ended y rest ≡ Ok x → (let q : Result (X × List ℕ) CertFault = Ok (y, rest) in q) ≡ Ok (x, [])
    by y [] e = ap (λ (z : X). (let q : Result (X × List ℕ) CertFault = Ok (z, []) in q)) (ok_is y x e)
    by y (b ∷ rest) e = cc
whole_is (Err f) x e = cc
