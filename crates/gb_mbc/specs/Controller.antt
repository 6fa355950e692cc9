-- A controller of any kind, as it is seen.
use Rattle.gb_ops.specs.declared.machine.Banks.{Banks}
use Rattle.gb_ops.specs.Cartridge.{banks_at_power_up}
use Rattle.gb_mbc.specs.declared.controller.Controller.{Controller}
use Rattle.gb_mbc.specs.declared.controller.Controller.TheVariants as controller
use Rattle.gb_mbc.specs.Controllers.{Features, flat_features, mbc1_features, mbc3_features, mbc5_features}

abbrev pub features : Controller → Features
features (controller.Flat m) = flat_features
features (controller.Mbc1 m) = mbc1_features m
features (controller.Mbc3 m) = mbc3_features m
features (controller.Mbc5 m) = mbc5_features m

abbrev pub registers : Controller → Banks
registers (controller.Flat m) = banks_at_power_up
registers (controller.Mbc1 m) = m.registers
registers (controller.Mbc3 m) = m.registers
registers (controller.Mbc5 m) = m.registers
