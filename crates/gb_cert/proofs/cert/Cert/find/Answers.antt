use Rattle.gb_cert.proofs.Counting.{counted, keys_many}
use Rattle.gb_cert.proofs.Lending.{keys-in-order}
use Rattle.gb_cert.proofs.cert.Cert.find.Goals as goal

pub find_in-found-requires : goal.find_in-found-requires
find_in-found-requires c = rw c.rows-rows.ensures.cert (keys-in-order c.args.self.now c.region-region.ensures.rules)

pub returns-clause-few : goal.returns-clause-few
returns-clause-few c h = counted _ _ 32 c.rows-rows.ensures.asked (c.find_in-found.ensures.few (keys_many _ 65535 (rw c.rows-rows.ensures.cert h)))

pub returns-clause-most : goal.returns-clause-most
returns-clause-most c h = counted _ _ 42 c.rows-rows.ensures.asked (c.find_in-found.ensures.most (keys_many _ 1048576 (rw c.rows-rows.ensures.cert h)))
