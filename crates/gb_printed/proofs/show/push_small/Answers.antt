use Rattle.std.proofs.Common.{length, decimal, ap, arith}
use Rattle.std.proofs.lemmas.List.{length-append}
use Rattle.gb_printed.proofs.ShowLaws.{short_decimal}
use Rattle.gb_printed.proofs.show.push_small.Goals as goal

pub returns-clause-short : goal.returns-clause-short
returns-clause-short c =
    let n = c.from.result in
    omega (arith, ap length c.push_number.ensures.text, length-append c.args.line.now (decimal n), short_decimal n (omega (arith, c.from.ensures)))
