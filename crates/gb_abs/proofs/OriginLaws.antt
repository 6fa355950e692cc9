-- What is no copy holds relative to one entry as to any other; what an origin holds in a state is its own there.
use Rattle.std.proofs.Common.{◌≡◌, ℕ, ◌-◌, ◌%◌, ◌≤◌, false, List, [], ◌∷◌, map, Some, refl, sym, subst}
use Rattle.gb_ops.specs.declared.op.Register.{Register}
use Rattle.gb_ops.specs.declared.op.Register.TheVariants.{A, B, C, D, E, H, L}
use Rattle.gb_ops.specs.declared.registers.Registers.{Registers}
use Rattle.gb_ops.specs.Registers.{get}
use Rattle.gb_ops.specs.Memory.{Storage}
use Rattle.gb_ops.specs.Play.{MState}
use Rattle.gb_domain.specs.declared.types.Origin.{Origin}
use Rattle.gb_domain.specs.declared.types.Val.{Val}
use Rattle.gb_domain.specs.declared.types.Cell.{Cell}
use Rattle.gb_domain.specs.declared.types.Core.{Core}
use Rattle.gb_domain.specs.declared.types.Ctl.{Ctl}
use Rattle.gb_ops.specs.declared.machine.Banks.{Banks}
use Rattle.gb_ops.specs.declared.machine.Kind.{Kind}
use Rattle.gb_ops.specs.declared.machine.Kind.TheVariants as kind
use Rattle.gb_domain.specs.Types.{origin_of_register, all_or_none}
use Rattle.gb_abs.specs.Meaning.{Activation, origin_value, Holds, KeepsBanks, HoldsLowBank, AreItems, MeansCore}
use Rattle.gb_abs.specs.Origins.{own, without_origin, cell_without_origin, registers_without_origins, core_without_origins}
use Rattle.gb_abs.specs.Storage.{peek}
use Rattle.gb_abs.proofs.CoveringLaws.{AreCells}

pub origin_value-of_register : (r : Register) (s : Activation) → origin_value (origin_of_register r) s ≡ get r s.entered.processor.registers
origin_value-of_register A s = refl
origin_value-of_register B s = refl
origin_value-of_register C s = refl
origin_value-of_register D s = refl
origin_value-of_register E s = refl
origin_value-of_register H s = refl
origin_value-of_register L s = refl

same_Some : (o p : Origin) → Some o ≡ Some p → o ≡ p
same_Some o p h = cc

pub Holds-own : (o : Origin) (v : Val) (entry other : Activation) (n : ℕ) → Holds v entry n → n ≡ origin_value o other → Holds (own o v) other n
Holds-own o v entry other n h e =
    record { least = h.least; most = h.most; low = h.low; origin = λ q is. subst (λ p. n ≡ origin_value p other) (same_Some o q is) e }

-- of what is no copy, the state at entry doesn't matter
pub Holds-without_origin : (v : Val) (entry other : Activation) (n : ℕ) → Holds v entry n → Holds (without_origin v) other n
Holds-without_origin v entry other n h = record { least = h.least; most = h.most; low = h.low; origin = λ o e. cc }

pub AreItems-without_origins :
    (items : List Val) (entry other : Activation) (top : ℕ) (s : Storage) → AreItems items entry top s → AreItems (map without_origin items) other top s
AreItems-without_origins [] entry other top s h = tt
AreItems-without_origins (v ∷ items) entry other top s h =
    (Holds-without_origin v entry other (peek s (top - 1)) h.0, AreItems-without_origins items entry other (top - 1) s h.1)

pub AreCells-without_origins :
    (cells : List Cell) (entry other : Activation) (s : Storage) → AreCells cells entry s → AreCells (map cell_without_origin cells) other s
AreCells-without_origins [] entry other s h = tt
AreCells-without_origins (c ∷ cells) entry other s h =
    (Holds-without_origin c.val entry other (peek s c.address) h.0, AreCells-without_origins cells entry other s h.1)

register-without_origin : (s : Registers Val) (r : Register) → get r (registers_without_origins s) ≡ without_origin (get r s)
register-without_origin s A = refl
register-without_origin s B = refl
register-without_origin s C = refl
register-without_origin s D = refl
register-without_origin s E = refl
register-without_origin s H = refl
register-without_origin s L = refl

-- where nothing is said to be kept, that is so
pub nothing_kept : (k : Kind) (before x : Banks) → KeepsBanks k (all_or_none false) before x
nothing_kept k before x = record { bank = λ e. absurd (cc); second = λ e. absurd (cc); gate = λ e. absurd (cc); mode = λ e. absurd (cc); high_bank = λ e. absurd (cc) }

-- the low bank is held by the bank's bounds alone
pub HoldsLowBank-bounds : (k : Kind) (c d : Ctl) (bank : ℕ) → c.bank_lo ≡ d.bank_lo → c.bank_hi ≡ d.bank_hi → HoldsLowBank k c bank → HoldsLowBank k d bank
HoldsLowBank-bounds kind.Rom c d bank lo hi h = tt
HoldsLowBank-bounds kind.Mbc1 c d bank lo hi h = tt
HoldsLowBank-bounds kind.Mbc3 c d bank lo hi h = tt
HoldsLowBank-bounds kind.Mbc5 c d bank lo hi h = (subst (λ n. n % 256 ≤ bank % 256) lo h.0, subst (λ n. bank % 256 ≤ n % 256) hi h.1)

pub MeansCore-without_origins : (s : Core) (entry other : Activation) (x : MState) → entry.program.kind ≡ other.program.kind → MeansCore s entry x → MeansCore (core_without_origins s) other x
unfolding core_without_origins
MeansCore-without_origins s entry other x same m =
    record {
      registers = λ r. subst (λ v. Holds v other (get r x.processor.registers)) (sym (register-without_origin s.registers r))
          (Holds-without_origin (get r s.registers) entry other (get r x.processor.registers) (m.registers r));
      flags = record {
        zero = m.flags.zero;
        subtract = m.flags.subtract;
        half_carry = m.flags.half_carry;
        carry = m.flags.carry;
        own = λ e. absurd (cc);
      };
      ie = Holds-without_origin s.ie entry other x.storage.ie m.ie;
      ime = m.ime;
      controller = record {
        bank_least = m.controller.bank_least;
        bank_most = m.controller.bank_most;
        low_bank = HoldsLowBank-bounds other.program.kind s.ctl _ x.storage.banks.bank refl refl (subst (λ k. HoldsLowBank k s.ctl x.storage.banks.bank) same m.controller.low_bank);
        second_least = m.controller.second_least;
        second_most = m.controller.second_most;
        gate = m.controller.gate;
        mode = m.controller.mode;
        kept = nothing_kept _ _ _;
      };
      count = m.count;
      locked = m.locked;
      stopped = m.stopped;
    }
