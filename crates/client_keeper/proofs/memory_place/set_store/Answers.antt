use Rattle.std.proofs.Common.{List, subst}
use Rattle.client_keeper.specs.Names.{stores_of, IsFirstNamed}
use Rattle.client_keeper.specs.Slots.{shown}
use Rattle.client_keeper.specs.declared.memory_place.Store.{Store}
use Rattle.client_keeper.proofs.StoreLemmas.{set_rows, own_names_kept, names_kept}
use Rattle.client_keeper.proofs.memory_place.set_store.Goals as goal

pub returns-clause-rows : goal.returns-clause-rows
returns-clause-rows c =
    let P : List Store → Type 0 = λ stores. IsFirstNamed stores c.args.name.now c.in-Some.index in
    set_rows c.args.stores.now.items c.args.name.now c.in-Some.index c.index_mut.result.now c.args.slots
    (subst P c.deref.ensures.value c.in-Some.ensures) c.index_mut.ensures.value

pub returns-clause-own_names : goal.returns-clause-own_names
returns-clause-own_names c =
    own_names_kept (stores_of c.args.stores.now.items) _ c.args.name.now (shown c.args.slots.entries) (returns-clause-rows c)

pub returns-clause-kept : goal.returns-clause-kept
returns-clause-kept c =
    names_kept (stores_of c.args.stores.now.items) _ c.args.name.now (shown c.args.slots.entries) (returns-clause-rows c)
