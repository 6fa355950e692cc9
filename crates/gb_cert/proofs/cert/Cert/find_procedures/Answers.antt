use Rattle.std.proofs.Common.{◌≤◌, ◌==◌, length, subst, arith}
use Rattle.gb_rows.specs.Rows.{IsFound}
use Rattle.gb_domain.specs.Certificate.{Certificate}
use Rattle.gb_cert.specs.Namesakes.{starts}
use Rattle.gb_cert.proofs.Counting.{counted}
use Rattle.gb_cert.proofs.Lending.{limit-most}
use Rattle.gb_cert.proofs.NamesakeLaws.{starts-in-order, starts-few, namesakes-found, namesakes-few}
use Rattle.gb_cert.proofs.cert.Cert.find_procedures.Goals as goal

pub find_in-found-requires : goal.find_in-found-requires
find_in-found-requires c = rw c.entry_rows-rows.ensures.cert (starts-in-order c.args.self.now c.requires c.region-region.ensures.rules)

pub overflow_cast-result : goal.overflow_cast-result
overflow_cast-result c =
    let few : length c.args.self.now.procedures ≤ 65535 = limit-most (c.args.self.now.version == 4) (length c.args.self.now.procedures) c.region-region.ensures.rules.procedure_count in
    let found = subst (λ (cert : Certificate). IsFound (starts cert) (0, c.args.address) c.find_in-found.result.first c.find_in-found.result.after) c.entry_rows-rows.ensures.cert c.find_in-found.ensures.found in
    let fits = namesakes-few c.args.self.now c.args.address c.find_in-found.result.first c.find_in-found.result.after few c.region-region.ensures.rules found in
    omega (arith, fits.0)

pub overflow_add-result : goal.overflow_add-result
overflow_add-result c =
    let few : length c.args.self.now.procedures ≤ 65535 = limit-most (c.args.self.now.version == 4) (length c.args.self.now.procedures) c.region-region.ensures.rules.procedure_count in
    let found = subst (λ (cert : Certificate). IsFound (starts cert) (0, c.args.address) c.find_in-found.result.first c.find_in-found.result.after) c.entry_rows-rows.ensures.cert c.find_in-found.ensures.found in
    let fits = namesakes-few c.args.self.now c.args.address c.find_in-found.result.first c.find_in-found.result.after few c.region-region.ensures.rules found in
    omega (arith, fits.0)

pub overflow_cast-result-2 : goal.overflow_cast-result-2
overflow_cast-result-2 c =
    let few : length c.args.self.now.procedures ≤ 65535 = limit-most (c.args.self.now.version == 4) (length c.args.self.now.procedures) c.region-region.ensures.rules.procedure_count in
    let found = subst (λ (cert : Certificate). IsFound (starts cert) (0, c.args.address) c.find_in-found.result.first c.find_in-found.result.after) c.entry_rows-rows.ensures.cert c.find_in-found.ensures.found in
    let fits = namesakes-few c.args.self.now c.args.address c.find_in-found.result.first c.find_in-found.result.after few c.region-region.ensures.rules found in
    omega (arith, fits.1)

pub overflow_add-result-2 : goal.overflow_add-result-2
overflow_add-result-2 c =
    let few : length c.args.self.now.procedures ≤ 65535 = limit-most (c.args.self.now.version == 4) (length c.args.self.now.procedures) c.region-region.ensures.rules.procedure_count in
    let found = subst (λ (cert : Certificate). IsFound (starts cert) (0, c.args.address) c.find_in-found.result.first c.find_in-found.result.after) c.entry_rows-rows.ensures.cert c.find_in-found.ensures.found in
    let fits = namesakes-few c.args.self.now c.args.address c.find_in-found.result.first c.find_in-found.result.after few c.region-region.ensures.rules found in
    omega (arith, fits.1)

pub returns-clause-found : goal.returns-clause-found
returns-clause-found c =
    let found = subst (λ (cert : Certificate). IsFound (starts cert) (0, c.args.address) c.find_in-found.result.first c.find_in-found.result.after) c.entry_rows-rows.ensures.cert c.find_in-found.ensures.found in
    namesakes-found c.args.self.now c.args.address c.find_in-found.result.first c.find_in-found.result.after c.region-region.ensures.rules found

pub returns-clause-few : goal.returns-clause-few
returns-clause-few c =
    let few : length c.args.self.now.procedures ≤ 65535 = limit-most (c.args.self.now.version == 4) (length c.args.self.now.procedures) c.region-region.ensures.rules.procedure_count in
    counted _ _ 32 c.entry_rows-rows.ensures.asked (c.find_in-found.ensures.few (rw c.entry_rows-rows.ensures.cert (starts-few c.args.self.now few)))
