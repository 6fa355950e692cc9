use Rattle.std.proofs.Common.{◌≡◌, ap, ◌∙◌}
use Rattle.gb_cpu.specs.Below.gb_mbc.Controllers.{features_of}
use Rattle.gb_plain.proofs.Facts.{parsed_is, ram_or_clock_by_features}
use Rattle.gb_plain.proofs.cartridge.Cartridge.new.Goals as goal

pub invariant_of-result : goal.invariant_of-result
invariant_of-result c =
    let same : features_of c.in-Ok.parsed ≡ features_of c.args.rom.items =
    ap features_of (parsed_is c.deref-2.result.now c.in-Ok.parsed c.in-Ok.ensures.exact ∙ c.deref-2.ensures.value) ∙ (c.in_ok-copy.ensures ∙ ap features_of c.deref.ensures.value) in (
      c.of-controller.ensures.features ∙ same,
      c.has_ram_or_clock-has_ram_or_clock.ensures ∙ ram_or_clock_by_features c.in-Ok.parsed c.args.rom.items same,
    )
