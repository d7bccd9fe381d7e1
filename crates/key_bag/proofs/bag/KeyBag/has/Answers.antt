use Rattle.key_bag.proofs.Names.{tested}
use Rattle.key_bag.proofs.bag.KeyBag.has.Goals as goal

pub returns-clause-answer : goal.returns-clause-answer
returns-clause-answer c = tested c.args.self.now.keys c.args.name.now c.key_named.result c.is_some.result c.key_named.ensures.key c.is_some.ensures
