use Rattle.gb_cert.proofs.Counting.{counted, keys_many}
use Rattle.gb_cert.proofs.Lending.{keys-in-order}
use Rattle.gb_cert.proofs.cert.Cert.first_near.Goals as goal

pub first_near-number-requires : goal.first_near-number-requires
first_near-number-requires c = rw c.rows-rows.ensures.cert (keys-in-order c.args.self.now c.region-region.ensures.rules)

pub returns-clause-few : goal.returns-clause-few
returns-clause-few c h = counted _ _ 32 c.rows-rows.ensures.asked (c.first_near-number.ensures.few (keys_many _ 65535 (rw c.rows-rows.ensures.cert h)))

pub returns-clause-most : goal.returns-clause-most
returns-clause-most c h = counted _ _ 42 c.rows-rows.ensures.asked (c.first_near-number.ensures.most (keys_many _ 1048576 (rw c.rows-rows.ensures.cert h)))
