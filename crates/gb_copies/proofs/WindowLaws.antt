-- What a store into a window leaves.
use Rattle.std.proofs.Common.{arith}
use Rattle.std.proofs.lemmas.Bool.Decides.{nat_tests}
use Rattle.gb_ops.specs.declared.machine.Kind.TheVariants as kind
use Rattle.gb_ops.specs.Cartridge.{mbc1_after, mbc3_after, mbc5_after}
use Rattle.gb_copies.specs.declared.windows.BankWindow.TheVariants.{First, Second}
use Rattle.gb_copies.specs.Windows.{is_in_window, register_of, left_by, StoresLeave, OtherStoresStay}

pub stores_leave : StoresLeave
unfolding is_in_window register_of left_by mbc1_after mbc3_after mbc5_after
stores_leave kind.Rom which r a byte small h = cc
stores_leave kind.Mbc1 First r a byte small h = grind (arith, nat_tests)
stores_leave kind.Mbc1 Second r a byte small h = grind (arith, nat_tests)
stores_leave kind.Mbc3 First r a byte small h = grind (arith, nat_tests)
stores_leave kind.Mbc3 Second r a byte small h = grind (arith, nat_tests)
stores_leave kind.Mbc5 First r a byte small h = grind (arith, nat_tests)
stores_leave kind.Mbc5 Second r a byte small h = grind (arith, nat_tests)

pub other_stores_stay : OtherStoresStay
unfolding is_in_window register_of mbc1_after mbc3_after mbc5_after
other_stores_stay kind.Rom which r a byte small below has h = cc
other_stores_stay kind.Mbc1 First r a byte small below has h = grind (arith, nat_tests)
other_stores_stay kind.Mbc1 Second r a byte small below has h = grind (arith, nat_tests)
other_stores_stay kind.Mbc3 First r a byte small below has h = grind (arith, nat_tests)
other_stores_stay kind.Mbc3 Second r a byte small below has h = grind (arith, nat_tests)
other_stores_stay kind.Mbc5 First r a byte small below has h = grind (arith, nat_tests)
other_stores_stay kind.Mbc5 Second r a byte small below has h = grind (arith, nat_tests)
