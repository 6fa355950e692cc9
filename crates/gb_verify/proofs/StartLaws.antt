-- Power-up is one of the machine states that its abstract state means.
use Rattle.std.proofs.Common.{◌≡◌, ℕ, ◌+◌, ◌≤◌, ◌<◌, Bool, true, false, not, ◌==◌, ◌⊎◌, inl, inr, List, [], ◌∷◌, Option, Some, None, length, get_or, slice_get, slice_index, refl, sym, ◌∙◌, ap, subst, arith}
use Rattle.std.proofs.lemmas.Bool.{eqb-true, not-false, or_parts, and_parts}
use Rattle.gb_ops.specs.declared.machine.Banks.{Banks}
use Rattle.gb_ops.specs.declared.machine.Kind.{Kind}
use Rattle.gb_ops.specs.declared.machine.Kind.TheVariants as kind
use Rattle.gb_ops.specs.declared.machine.Region.{Region}
use Rattle.std.specs.List.{All, Contains}
use Rattle.std.proofs.lemmas.List.{get_or_past}
use Rattle.std.proofs.lemmas.Option.{same_Some}
use Rattle.gb_ops.specs.declared.op.Register.{Register}
use Rattle.gb_ops.specs.declared.op.Register.TheVariants.{A, B, C, D, E, H, L}
use Rattle.gb_ops.specs.declared.machine.Mapped.{Mapped}
use Rattle.gb_ops.specs.declared.machine.Mapped.TheVariants as mapped
use Rattle.gb_ops.specs.Registers.{get}
use Rattle.gb_ops.specs.Memory.{mapped_at}
use Rattle.gb_ops.specs.Play.{MState, IsStart, processor_at_power_up}
use Rattle.gb_rules.specs.Below.gb_domain.declared.types.Origin.{Origin}
use Rattle.gb_rules.specs.Below.gb_domain.declared.types.Origin.TheVariants as origin
use Rattle.gb_rules.specs.Below.gb_domain.declared.types.Val.{Val}
use Rattle.gb_rules.specs.Below.gb_domain.declared.types.Ctl.{Ctl}
use Rattle.gb_rules.specs.Below.gb_domain.declared.types.KeptBanks.{KeptBanks}
use Rattle.gb_rules.specs.Below.gb_domain.Summaries.{Program}
use Rattle.gb_rules.specs.Below.gb_domain.Types.{AbsState, ProcedureParts, Node}
use Rattle.gb_rules.specs.Below.gb_domain.Values.{have_same}
use Rattle.gb_rules.specs.Below.gb_states.Rules.{is_of, have_entries}
use Rattle.gb_rules.specs.Below.gb_states.WholeRules.{IsCertificate}
use Rattle.gb_rules.specs.Below.gb_domain.Certificate.{Certificate}
use Rattle.gb_rules.specs.Below.gb_abs.Storage.{peek, peek_by}
use Rattle.gb_rules.specs.Below.gb_abs.Meaning.{Activation, Holds, HoldsFlags, HoldsLowBank, KeepsBanks, MeansCore, MeansParts, IsMemory, origin_value, ime_may_be}
use Rattle.gb_rules.specs.Below.gb_vals.Flags.{known}
use Rattle.gb_rules.specs.Below.gb_vals.Meaning.{may_be}
use Rattle.gb_rules.proofs.Below.gb_vals_laws.MeaningLaws.{known-may_be}
use Rattle.gb_rules.specs.Below.gb_product.Covering.{covers}
use Rattle.gb_rules.proofs.Below.gb_product_laws.Below.gb_summaries_laws.MeaningLaws.{nothing_holds}
use Rattle.gb_rules.specs.Below.gb_product.Held.{stack_held}
use Rattle.gb_rules.specs.Below.gb_product.Meaning.{Means}
use Rattle.gb_rules.specs.Below.gb_product.Below.gb_relations.Sound.{IsBytePlaced}
use Rattle.gb_rules.specs.Below.gb_domain.declared.places.StackBytes.{StackBytes}
use Rattle.gb_rules.specs.Below.gb_abs.Stack.{AreInRegion}
use Rattle.gb_rules.proofs.Below.gb_product_laws.CoveringLaws.{Means-covered}
use Rattle.gb_rules.proofs.Below.gb_product_laws.MeaningLaws.{HoldRelations-nothing}
use Rattle.gb_rules.specs.Below.gb_domain.Limits.{rules_of}
use Rattle.gb_rules.specs.Below.gb_domain.Settings.{IsBase}
use Rattle.gb_rules.proofs.EntryLaws.{AreWithin-entered}
use Rattle.gb_rules.proofs.NodeLaws.{IsNodeState-node}
use Rattle.gb_rules.specs.Procedures.{pairs_at, pairs_in, need_of, setting_of, program_of}
use Rattle.gb_rules.specs.Safety.{Declares, begun, IsMeant}
use Rattle.gb_rules.proofs.SearchLaws.{Contains-slice_get}
use Rattle.gb_rules.proofs.CoveringLaws.{covered_items, covered_place, IsBytePlaced-among}
use Rattle.gb_rules.proofs.ProcedureLaws.{HasReturnWord-main, main_based, main_room}
use Rattle.gb_verify.specs.PowerUp.{core_at_power_up, state_at_power_up}
use Rattle.gb_verify.specs.Verdict.{is_bad_entry, is_bad_node, main_entry, entry_of}

-- main's base: the address behind the region
abbrev pub main_base : Certificate → ℕ
main_base cert = cert.region.last + 1

not_so : {X : Type 0} → true ≡ false → X
not_so h = cc

least : (x m : ℕ) → x ≡ m → m ≤ x
least x m h = omega arith

most : (x m : ℕ) → x ≡ m → x ≤ m
most x m h = omega arith

Holds-own : (v : Val) (entry : Activation) (x : ℕ) (o : Origin) → v.lo ≡ x → v.hi ≡ x → v.origin ≡ Some o → x ≡ origin_value o entry → v.low_bits ≡ 0 → Holds v entry x
Holds-own v entry x o l h e s none =
    record { least = omega arith; most = omega arith; low = subst (λ n. have_same n x v.lo ≡ true) (sym none) refl; origin = λ q i. let j : o ≡ q = same_Some _ _ (sym e ∙ i) in s ∙ ap (λ p. origin_value p entry) j }

Holds-start : (rom : List ℕ) (cert : Certificate) (s : MState) (r : Register) → s.processor ≡ processor_at_power_up rom
    → Holds (get r (core_at_power_up rom cert.region).registers) (begun rom cert 0 (main_base cert) s) (get r s.processor.registers)
unfolding core_at_power_up processor_at_power_up
Holds-start rom cert s A h = let e = sym (ap (λ p. p.registers.a) h) in Holds-own _ _ _ origin.A e e refl refl refl
Holds-start rom cert s B h = let e = sym (ap (λ p. p.registers.b) h) in Holds-own _ _ _ origin.B e e refl refl refl
Holds-start rom cert s C h = let e = sym (ap (λ p. p.registers.c) h) in Holds-own _ _ _ origin.C e e refl refl refl
Holds-start rom cert s D h = let e = sym (ap (λ p. p.registers.d) h) in Holds-own _ _ _ origin.D e e refl refl refl
Holds-start rom cert s E h = let e = sym (ap (λ p. p.registers.e) h) in Holds-own _ _ _ origin.E e e refl refl refl
Holds-start rom cert s H h = let e = sym (ap (λ p. p.registers.h) h) in Holds-own _ _ _ origin.H e e refl refl refl
Holds-start rom cert s L h = let e = sym (ap (λ p. p.registers.l) h) in Holds-own _ _ _ origin.L e e refl refl refl

HoldsFlags-start : (rom : List ℕ) (cert : Certificate) (s : MState) → s.processor ≡ processor_at_power_up rom
    → HoldsFlags (core_at_power_up rom cert.region).flags (begun rom cert 0 (main_base cert) s) s.processor.flags
unfolding core_at_power_up processor_at_power_up
HoldsFlags-start rom cert s h =
    let others : Bool = not (slice_index rom 0x14D == 0) in
    record {
      zero = ap (λ p. may_be (known true) p.flags.zero) h;
      subtract = ap (λ p. may_be (known false) p.flags.subtract) h;
      half_carry = ap (λ p. may_be (known others) p.flags.half_carry) h ∙ known-may_be others;
      carry = ap (λ p. may_be (known others) p.flags.carry) h ∙ known-may_be others;
      own = λ e. refl;
    }

-- bank 1 is shown, whatever the controller
low_at_start : (k : Kind) (c : Ctl) (bank : ℕ) → c.bank_lo ≡ 1 → c.bank_hi ≡ 1 → bank ≡ 1 → HoldsLowBank k c bank
low_at_start kind.Rom c bank lo hi e = tt
low_at_start kind.Mbc1 c bank lo hi e = tt
low_at_start kind.Mbc3 c bank lo hi e = tt
low_at_start kind.Mbc5 c bank lo hi e = (omega arith, omega arith)

-- what stays is kept
kept_at_start : (k : Kind) (kept : KeptBanks) (b : Banks) → KeepsBanks k kept b b
kept_at_start kind.Rom kept b = record { bank = λ e. refl; second = λ e. refl; gate = λ e. refl; mode = λ e. refl; high_bank = λ e. refl }
kept_at_start kind.Mbc1 kept b = record { bank = λ e. refl; second = λ e. refl; gate = λ e. refl; mode = λ e. refl; high_bank = λ e. tt }
kept_at_start kind.Mbc3 kept b = record { bank = λ e. refl; second = λ e. refl; gate = λ e. refl; mode = λ e. refl; high_bank = λ e. tt }
kept_at_start kind.Mbc5 kept b = record { bank = λ e. refl; second = λ e. refl; gate = λ e. refl; mode = λ e. refl; high_bank = λ e. refl }

MeansCore-at_start : (rom : List ℕ) (cert : Certificate) (s : MState) → IsStart rom s → MeansCore (core_at_power_up rom cert.region) (begun rom cert 0 (main_base cert) s) s
unfolding core_at_power_up processor_at_power_up
MeansCore-at_start rom cert s h =
    record {
      registers = λ r. Holds-start rom cert s r h.processor;
      flags = HoldsFlags-start rom cert s h.processor;
      ie = Holds-own _ _ _ origin.Ie (sym h.ie) (sym h.ie) refl refl refl;
      ime = ap (λ p. ime_may_be (core_at_power_up rom cert.region).ime p.ime) h.processor;
      controller = record {
        bank_least = least s.storage.banks.bank 1 (ap (λ c. c.bank) h.banks);
        bank_most = most s.storage.banks.bank 1 (ap (λ c. c.bank) h.banks);
        low_bank = low_at_start (begun rom cert 0 (main_base cert) s).program.kind (core_at_power_up rom cert.region).ctl s.storage.banks.bank refl refl (ap (λ c. c.bank) h.banks);
        second_least = least s.storage.banks.second 0 (ap (λ c. c.second) h.banks);
        second_most = most s.storage.banks.second 0 (ap (λ c. c.second) h.banks);
        gate = ap (λ c. may_be (known false) c.gate) h.banks;
        mode = ap (λ c. may_be (known false) c.mode) h.banks;
        kept = kept_at_start (begun rom cert 0 (main_base cert) s).program.kind _ s.storage.banks;
      };
      count = most s.storage.count 0 h.count;
      locked = ap (λ p. p.locked) h.processor;
      stopped = ap (λ p. p.stopped) h.processor;
    }

byte_at : (xs : List ℕ) (i : ℕ) → All (λ b. b < 256) xs → slice_index xs i ≤ 255
byte_at xs i h = elim (where_is i (length xs)) [
  | inl lt ↦ let below : get_or xs i 0 < 256 = h i 0 lt in omega arith
  | inr past ↦ let none : get_or xs i 0 ≡ 0 = get_or_past xs i 0 past in omega arith
]
  where
    where_is : (i n : ℕ) → (i < n) ⊎ (n ≤ i)
    where_is i n = grind arith

-- memory holds bytes
IsMemory-start : (rom : List ℕ) (s : MState) → IsStart rom s → IsMemory s.storage
unfolding peek
IsMemory-start rom s h = record { work = h.work_size; high = h.high_size; bytes = λ a. by (mapped_at a) }
  where
    by : (c : Mapped) → peek_by c s.storage.work s.storage.high ≤ 255
    by mapped.Rom = omega arith
    by mapped.CartridgeRam = omega arith
    by (mapped.WorkRam i) = byte_at s.storage.work i h.work
    by (mapped.HighRam i) = byte_at s.storage.high i h.high
    by mapped.InterruptEnable = omega arith
    by mapped.Transfer = omega arith
    by mapped.Hardware = omega arith

stack_start : (last : ℕ) → (last == 0xFFFD) ≡ true → 0xFFFE + 0 ≡ last + 1
stack_start last h = let e : last ≡ 0xFFFD = eqb-true last 0xFFFD h in omega arith

small_start : (sp : ℕ) → sp ≡ 0xFFFE → sp < 65536
small_start sp h = omega arith

MeansParts-start : (rom : List ℕ) (cert : Certificate) (s : MState) → IsStart rom s → MeansParts (state_at_power_up rom cert.region) (begun rom cert 0 (main_base cert) s) (main_base cert) s
unfolding core_at_power_up processor_at_power_up
MeansParts-start rom cert s h =
    record {
      core = MeansCore-at_start rom cert s h;
      memory = IsMemory-start rom s h;
      sp = small_start s.processor.sp (ap (λ p. p.sp) h.processor);
      stack = λ e. ap (λ p. p.sp + 0) h.processor ∙ stack_start cert.region.last e;
      items = tt;
      cells = tt;
    }

byte_start : (x n : ℕ) → x ≡ n → n < 256 → x < 256
byte_start x n h lt = omega arith

register_start : (rom : List ℕ) (s : MState) (r : Register) → s.processor ≡ processor_at_power_up rom → get r s.processor.registers < 256
unfolding processor_at_power_up
register_start rom s A h = byte_start _ 0x01 (ap (λ p. p.registers.a) h) (omega arith)
register_start rom s B h = byte_start _ 0x00 (ap (λ p. p.registers.b) h) (omega arith)
register_start rom s C h = byte_start _ 0x13 (ap (λ p. p.registers.c) h) (omega arith)
register_start rom s D h = byte_start _ 0x00 (ap (λ p. p.registers.d) h) (omega arith)
register_start rom s E h = byte_start _ 0xD8 (ap (λ p. p.registers.e) h) (omega arith)
register_start rom s H h = byte_start _ 0x01 (ap (λ p. p.registers.h) h) (omega arith)
register_start rom s L h = byte_start _ 0x4D (ap (λ p. p.registers.l) h) (omega arith)

Means-start : (rom : List ℕ) (cert : Certificate) (s : MState) → IsStart rom s → Means (state_at_power_up rom cert.region) (begun rom cert 0 (main_base cert) s) (main_base cert) s
Means-start rom cert s h =
    record {
      parts = MeansParts-start rom cert s h;
      related = HoldRelations-nothing _ _ _ _ (record { each = λ r. register_start rom s r h.processor });
      summary = nothing_holds _ _ s.processor (peek s.storage) s.storage.banks;
    }

pc_start : (rom : List ℕ) (s : MState) → IsStart rom s → s.processor.pc ≡ 0x100
unfolding processor_at_power_up
pc_start rom s h = ap (λ p. p.pc) h.processor

mark_start : (rom : List ℕ) (s : MState) → IsStart rom s → s.processor.halt_mark ≡ false
unfolding processor_at_power_up
mark_start rom s h = ap (λ p. p.halt_mark) h.processor

items_covered : (program : Program) (rom : List ℕ) (region : Region) (t : AbsState) → covers program (state_at_power_up rom region) t ≡ true → length t.items ≡ 0
items_covered program rom region t h = covered_items program (state_at_power_up rom region) t h

-- no byte has a place at power-up
place_start : (k : StackBytes) (program : Program) (rom : List ℕ) (region : Region) (t : AbsState) → covers program (state_at_power_up rom region) t ≡ true → IsBytePlaced k t.relations.byte.address
place_start k program rom region t h = IsBytePlaced-among k None t.relations.byte.address (covered_place program (state_at_power_up rom region) t h) tt

-- main's stack has room for the bytes that it may need
room_start : (cert : Certificate) (n : Node) → IsCertificate cert → n.procedure ≡ 0 → AreInRegion cert.region (main_base cert) (need_of cert n.procedure)
room_start cert n c e = subst (λ p. AreInRegion cert.region (main_base cert) (need_of cert p)) (sym e) (main_room cert c)

-- and for none
no_items : (cert : Certificate) (need held : ℕ) → held ≡ 0 → AreInRegion cert.region (main_base cert) need → AreInRegion cert.region (main_base cert) held
no_items cert need held none room =
    let first = room.first in
    record { first = omega arith; last = room.last }

-- main's entry is a node of main's
is_of_main : (o : Option Node) (n : Node) → o ≡ Some n → is_of 0 o ≡ true → n.procedure ≡ 0
is_of_main None n e h = cc
is_of_main (Some m) n e h = let same : m ≡ n = cc in sym (ap (λ (k : Node). k.procedure) same) ∙ eqb-true m.procedure 0 h

main_entry_node : (cert : Certificate) (n : Node) → IsCertificate cert → slice_get cert.nodes (main_entry cert) ≡ Some n → n.procedure ≡ 0
unfolding have_entries
main_entry_node cert n c at = by cert.procedures c.some_procedure c.entries at
  where
    by : (ps : List ProcedureParts) → 0 < length ps → have_entries 0 ps cert.nodes ≡ true → slice_get cert.nodes (entry_of (slice_get ps 0)) ≡ Some n → n.procedure ≡ 0
    by [] lt h e = absurd (omega arith)
    by (p ∷ ps) lt h e = is_of_main (slice_get cert.nodes p.entry) n e (and_parts _ _ h).0

-- its bounds at entry are that node's
main_pairs : (cert : Certificate) (n : Node) → IsCertificate cert → slice_get cert.nodes (main_entry cert) ≡ Some n → n.procedure ≡ 0 → pairs_in cert (slice_get cert.procedures n.procedure) ≡ pairs_at (Some n)
main_pairs cert n c at main = ap (λ q. pairs_in cert (slice_get cert.procedures q)) main ∙ by cert.procedures c.some_procedure at
  where
    by : (ps : List ProcedureParts) → 0 < length ps → slice_get cert.nodes (entry_of (slice_get ps 0)) ≡ Some n → pairs_in cert (slice_get ps 0) ≡ pairs_at (Some n)
    by [] lt e = absurd (omega arith)
    by (p ∷ ps) lt e = ap pairs_at e

IsMeant-entry : (rom : List ℕ) (cert : Certificate) (o : Option Node) (s : MState) → IsCertificate cert → ((n : Node) → o ≡ Some n → Contains cert.nodes n) → ((n : Node) → o ≡ Some n → n.procedure ≡ 0)
    → ((n : Node) → o ≡ Some n → pairs_in cert (slice_get cert.procedures n.procedure) ≡ pairs_at (Some n))
    → is_bad_node rom cert o ≡ false → IsStart rom s → IsMeant rom cert 0 (begun rom cert 0 (main_base cert) s) (main_base cert) s
IsMeant-entry rom cert None s c f g enters h i = not_so h
IsMeant-entry rom cert (Some n) s c f g enters h i =
    let p = or_parts _ _ h in
    let q = or_parts _ _ p.0 in
    let covered = not-false _ p.1 in
    let met = Means-covered (state_at_power_up rom cert.region) n.state (begun rom cert 0 (main_base cert) s) (main_base cert) s covered (Means-start rom cert s i) in
    record {
      node = n;
      is_node = f n refl;
      procedure_is = g n refl;
      at = record {
        address = pc_start rom s i ∙ sym (eqb-true _ _ (not-false _ q.0));
        program = refl;
        names = subst (λ p. Declares cert p (main_base cert) (begun rom cert 0 (main_base cert) s)) (sym (g n refl)) (record { kept = refl; mark = refl });
        means = met;
        mark = inl (mark_start rom s i);
        main = λ is. refl;
        based = subst (λ p. IsBase (setting_of cert p) (main_base cert)) (sym (g n refl)) (main_based cert c);
        within = AreWithin-entered cert n (begun rom cert 0 (main_base cert) s) (main_base cert) s (enters n refl) (IsNodeState-node cert n c (f n refl)).core met;
        return_word = HasReturnWord-main (rules_of cert.version) cert.region n.procedure (main_base cert) (g n refl);
        room = room_start cert n c (g n refl);
        held = no_items cert (need_of cert n.procedure) (length n.state.items) (items_covered (program_of rom cert) rom cert.region n.state covered) (room_start cert n c (g n refl));
        place = place_start (stack_held (setting_of cert n.procedure) cert.region (length n.state.items)) (program_of rom cert) rom cert.region n.state covered;
      };
    }

-- a start is meant by main's entry
pub IsMeant-start : (rom : List ℕ) (cert : Certificate) (s : MState) → IsCertificate cert → is_bad_entry rom cert ≡ false → IsStart rom s → IsMeant rom cert 0 (begun rom cert 0 (main_base cert) s) (main_base cert) s
unfolding is_bad_entry
IsMeant-start rom cert s c good start =
    IsMeant-entry rom cert (slice_get cert.nodes (main_entry cert)) s c (Contains-slice_get cert.nodes (main_entry cert)) (λ n at. main_entry_node cert n c at) (λ n at. main_pairs cert n c at (main_entry_node cert n c at)) good start
