-- What a state knows of its pointers holds.
use Rattle.std.proofs.Common.{ℕ, ◌+◌, ◌*◌, ◌≤◌, refl, arith}
use Rattle.gb_ops.specs.declared.machine.Banks.{Banks}
use Rattle.gb_ops.specs.declared.machine.Kind.{Kind}
use Rattle.gb_ops.specs.declared.machine.Kind.TheVariants as kind
use Rattle.gb_ops.specs.declared.op.Pointer.{Pointer}
use Rattle.gb_ops.specs.declared.op.Pointer.TheVariants.{Bc, De, Hl, HighC}
use Rattle.gb_ops.specs.declared.op.Register.TheVariants.{C}
use Rattle.gb_ops.specs.declared.registers.Processor.{Processor}
use Rattle.gb_ops.specs.Pointers.{pointed, byte_or_page, high_register, low_register}
use Rattle.gb_domain.specs.declared.pairs.WordPair.TheVariants as words
use Rattle.gb_domain.specs.declared.types.Val.{Val}
use Rattle.gb_domain.specs.Meaning.{In}
use Rattle.gb_domain.specs.Values.{interval_of}
use Rattle.gb_domain.proofs.ValueLaws.{Has-same}
use Rattle.gb_relations.specs.Below.gb_pairs.declared.values.Values.{Values}
use Rattle.gb_relations.specs.Below.gb_pairs.Meaning.{Beside, Holds}
use Rattle.gb_relations.proofs.Below.gb_pairs_laws.BoundsLaws.{bounds_of_sound}
use Rattle.gb_relations.specs.Below.gb_pairs.Below.gb_vals.Meaning.{In as InVal}
use Rattle.gb_ram_bounds.specs.Fills.{at_pointer}
use Rattle.gb_ram_bounds.specs.Meaning.{PointersIn}
use Rattle.gb_summaries.specs.Meaning.{pointers_of}
use Rattle.gb_domain.specs.declared.types.Ctl.{Ctl}
use Rattle.gb_relations.specs.Below.gb_copies.declared.windows.BankWindow.{BankWindow}
use Rattle.gb_relations.specs.Below.gb_copies.declared.windows.BankWindow.TheVariants.{First, Second}
use Rattle.gb_relations.specs.Below.gb_copies.Windows.{register_of}
use Rattle.gb_summaries.specs.Known.{pointer_bounds, window_bounds, AreWithin, WindowsAreWithin}

-- ---- the same bytes

pub In-interval : (v : Val) (x : ℕ) → InVal v x → In (interval_of v) x
In-interval v x m = record { least = m.least; most = m.most; low = Has-same v.low_bits x v.lo m.low }

-- ---- pointers

high-least : (lo c : ℕ) → lo ≤ c → 0xFF00 + lo ≤ 256 * 0xFF + c
high-least lo c h = omega arith

high-most : (hi c : ℕ) → c ≤ hi → 256 * 0xFF + c ≤ 0xFF00 + hi
high-most hi c h = omega arith

known-least : (v : Values) (was : Beside) (p : Processor) (q : Pointer) → Holds v was p.registers → (at_pointer q (pointer_bounds v)).first ≤ at_pointer q (pointers_of p)
unfolding pointer_bounds pointed byte_or_page high_register low_register
known-least v was p Bc h = ((bounds_of_sound words.Bc v _ refl).gives was p.registers h).least
known-least v was p De h = ((bounds_of_sound words.De v _ refl).gives was p.registers h).least
known-least v was p Hl h = ((bounds_of_sound words.Hl v _ refl).gives was p.registers h).least
known-least v was p HighC h = high-least v.registers.c.lo p.registers.c (h.registers C).least

known-most : (v : Values) (was : Beside) (p : Processor) (q : Pointer) → Holds v was p.registers → at_pointer q (pointers_of p) ≤ (at_pointer q (pointer_bounds v)).last
unfolding pointer_bounds pointed byte_or_page high_register low_register
known-most v was p Bc h = ((bounds_of_sound words.Bc v _ refl).gives was p.registers h).most
known-most v was p De h = ((bounds_of_sound words.De v _ refl).gives was p.registers h).most
known-most v was p Hl h = ((bounds_of_sound words.Hl v _ refl).gives was p.registers h).most
known-most v was p HighC h = high-most v.registers.c.hi p.registers.c (h.registers C).most

pub PointersIn-known : (v : Values) (was : Beside) (p : Processor) → Holds v was p.registers → PointersIn (pointer_bounds v) (pointers_of p)
PointersIn-known v was p h = record { least = λ q. known-least v was p q h; most = λ q. known-most v was p q h }

-- ---- the controller's windows

window-least : (k : Kind) (c : Ctl) (r : Banks) (which : BankWindow) → AreWithin k c r → (window_bounds k which c).first ≤ register_of k which r
unfolding window_bounds register_of
window-least kind.Rom c r First h = h.bank_least
window-least kind.Rom c r Second h = h.second_least
window-least kind.Mbc1 c r First h = h.bank_least
window-least kind.Mbc1 c r Second h = h.second_least
window-least kind.Mbc3 c r First h = h.bank_least
window-least kind.Mbc3 c r Second h = h.second_least
window-least kind.Mbc5 c r First h = h.low_least refl
window-least kind.Mbc5 c r Second h = let least = h.bank_least in omega arith

window-most : (k : Kind) (c : Ctl) (r : Banks) (which : BankWindow) → AreWithin k c r → register_of k which r ≤ (window_bounds k which c).last
unfolding window_bounds register_of
window-most kind.Rom c r First h = h.bank_most
window-most kind.Rom c r Second h = h.second_most
window-most kind.Mbc1 c r First h = h.bank_most
window-most kind.Mbc1 c r Second h = h.second_most
window-most kind.Mbc3 c r First h = h.bank_most
window-most kind.Mbc3 c r Second h = h.second_most
window-most kind.Mbc5 c r First h = h.low_most refl
window-most kind.Mbc5 c r Second h = let most = h.bank_most in omega arith

pub windows_within : WindowsAreWithin
windows_within k c r h = record { least = λ which. window-least k c r which h; most = λ which. window-most k c r which h }
