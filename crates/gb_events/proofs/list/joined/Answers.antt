use Rattle.std.proofs.Common.{◌≡◌, ◌∙◌, ap, replicate}
use Rattle.gb_events.proofs.Listing.{as_one}
use Rattle.gb_events.proofs.list.joined.Goals as goal

pub returns : goal.returns
returns c =
    let same : c.args.last.event ≡ c.args.event = c.is_same.ensures c.if-not-is_same.false in
    ap (λ n. replicate n c.args.event) (c.in_ok-count.ensures.1) ∙ as_one c.args.last.event c.args.event c.args.last.count c.args.count same
