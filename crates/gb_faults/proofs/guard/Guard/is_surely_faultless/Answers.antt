use Rattle.std.proofs.Common.{◌<◌, ◌+◌, ℕ, sym, subst, arith}
use Rattle.gb_ops.specs.Pairs.{pair_value}
use Rattle.gb_faults.specs.Quiet.{IsQuietAddress}
use Rattle.gb_faults.proofs.Guarding.{IsInRom, quiet_touched, quiet_word, quiet_prefixed, rom_byte_is}
use Rattle.gb_faults.proofs.guard.Guard.is_surely_faultless.Goals as goal

pub returns-in-Prefixed : goal.returns-in-Prefixed
unfolding pair_value
returns-in-Prefixed c = λ h.
    let low : c.args.processor.now.pc < 0x7FFE = omega (arith, c.if-pc-ge32766.false) in
    let in_rom : IsInRom c.args.memory.now.view c.args.processor.now = record { still = omega (arith, sym c.transfer_left.ensures, c.if-transfer_left-ne0.false); unmarked = c.if-processor.false; low = low } in
    quiet_prefixed c.args.self.now.region c.args.memory.now.view c.args.processor.now c.rom_byte.result c.rom_byte-in-Prefixed.result in_rom
    (rom_byte_is c.args.memory.now.view c.args.processor.now.pc c.rom_byte.result (omega (arith, low)) c.rom_byte.ensures) c.rom_byte.type_inv
    (rom_byte_is c.args.memory.now.view (c.args.processor.now.pc + 1) c.rom_byte-in-Prefixed.result (omega (arith, low)) c.rom_byte-in-Prefixed.ensures) c.rom_byte-in-Prefixed.type_inv
    c.in-Prefixed.ensures
    (λ six. subst (λ (a : ℕ). IsQuietAddress c.args.memory.now.view a) c.word-hl.ensures (c.is_quiet_prefixed.ensures h six))

pub returns-in-Word : goal.returns-in-Word
returns-in-Word c = λ h.
    let low : c.args.processor.now.pc < 0x7FFE = omega (arith, c.if-pc-ge32766.false) in
    let in_rom : IsInRom c.args.memory.now.view c.args.processor.now = record { still = omega (arith, sym c.transfer_left.ensures, c.if-transfer_left-ne0.false); unmarked = c.if-processor.false; low = low } in
    quiet_word c.args.self.now.region c.args.memory.now.view c.args.processor.now c.rom_byte.result c.rom_byte-in-Word-2.result c.rom_byte-in-Word.result c.word-address.result in_rom
    (rom_byte_is c.args.memory.now.view c.args.processor.now.pc c.rom_byte.result (omega (arith, low)) c.rom_byte.ensures) c.rom_byte.type_inv
    (rom_byte_is c.args.memory.now.view (c.args.processor.now.pc + 1) c.rom_byte-in-Word-2.result (omega (arith, low)) c.rom_byte-in-Word-2.ensures)
    (rom_byte_is c.args.memory.now.view (c.args.processor.now.pc + 2) c.rom_byte-in-Word.result (omega (arith, low)) c.rom_byte-in-Word.ensures)
    (omega (arith, c.word-address.ensures))
    c.in-Word.ensures (c.is_quiet.ensures h)

pub returns-in_default : goal.returns-in_default
returns-in_default c = λ h.
    let low : c.args.processor.now.pc < 0x7FFE = omega (arith, c.if-pc-ge32766.false) in
    let in_rom : IsInRom c.args.memory.now.view c.args.processor.now = record { still = omega (arith, sym c.transfer_left.ensures, c.if-transfer_left-ne0.false); unmarked = c.if-processor.false; low = low } in
    quiet_touched c.args.self.now.region c.args.memory.now.view c.args.processor.now c.rom_byte.result c.touch_of.result in_rom
    (rom_byte_is c.args.memory.now.view c.args.processor.now.pc c.rom_byte.result (omega (arith, low)) c.rom_byte.ensures) c.rom_byte.type_inv
    c.touch_of.ensures (c.is_quiet_touch.ensures h)
