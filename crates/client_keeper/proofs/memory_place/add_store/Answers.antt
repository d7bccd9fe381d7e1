use Rattle.std.proofs.Common.{arith}
use Rattle.std.proofs.lemmas.Grind.{common_steps}
use Rattle.client_keeper.specs.Names.{stores_of}
use Rattle.client_keeper.proofs.StoreLemmas.{own_names_more, has_named, names_kept_named}
use Rattle.client_keeper.proofs.memory_place.add_store.Goals as goal

pub returns-clause-ok : goal.returns-clause-ok
returns-clause-ok c = grind (arith, common_steps)

pub returns-clause-own_names : goal.returns-clause-own_names
returns-clause-own_names c =
    own_names_more (stores_of c.args.stores.now.items) (stores_of c.push.new.self.items) c.args.name.now c.requires (returns-clause-ok c)

pub returns-clause-has : goal.returns-clause-has
returns-clause-has c =
    has_named (stores_of c.args.stores.now.items) (stores_of c.push.new.self.items) c.args.name.now (returns-clause-ok c)

pub returns-clause-kept : goal.returns-clause-kept
returns-clause-kept c =
    names_kept_named (stores_of c.args.stores.now.items) (stores_of c.push.new.self.items) c.args.name.now (returns-clause-ok c)
