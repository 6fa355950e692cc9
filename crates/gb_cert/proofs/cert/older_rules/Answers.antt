use Rattle.gb_cert.proofs.OlderLaws.{not-fourth, any_certificate, older_certificate, any_spells, older_spells}
use Rattle.gb_cert.proofs.cert.older_rules.Goals as goal

pub returns-clause-older : goal.returns-clause-older
returns-clause-older c = older_certificate

pub returns-clause-whole : goal.returns-clause-whole
returns-clause-whole c = λ cert h. (any_certificate cert h, not-fourth cert.version h.version)

pub returns-clause-older_spelling : goal.returns-clause-older_spelling
returns-clause-older_spelling c = older_spells

pub returns-clause-whole_spelling : goal.returns-clause-whole_spelling
returns-clause-whole_spelling c = any_spells
