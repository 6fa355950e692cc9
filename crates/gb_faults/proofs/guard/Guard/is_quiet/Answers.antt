use Rattle.std.proofs.Common.{◌≡◌, ℕ, nat_lt, true, ◌<◌, sym, ◌∙◌, arith}
use Rattle.std.proofs.lemmas.Bool.Decides.{nat_tests}
use Rattle.gb_faults.proofs.Quiet.{quiet_open, quiet_elsewhere}
use Rattle.gb_faults.proofs.guard.Guard.is_quiet.Goals as goal

below_of : (a : ℕ) → nat_lt a 0xFF00 ≡ true → a < 0xFF00
below_of a h = grind (arith, nat_tests, h)

pub returns-then-address-lt40960 : goal.returns-then-address-lt40960
returns-then-address-lt40960 c = λ h. quiet_elsewhere c.args.memory.now.view c.args.address c.requires.still (λ least most. omega (arith, least, c.if-address-lt40960.true)) (omega (arith, c.if-address-lt40960.true))

pub returns-then-address-ge49152 : goal.returns-then-address-ge49152
returns-then-address-ge49152 c = λ h.
    let below : c.args.address < 0xFF00 = below_of c.args.address h in
    quiet_elsewhere c.args.memory.now.view c.args.address c.requires.still (λ least most. omega (arith, most, c.if-address-ge49152.true)) below

pub returns : goal.returns
returns c = λ h. quiet_open c.args.memory.now.view c.args.address c.requires.still (sym c.is_ram_open.ensures ∙ h)
