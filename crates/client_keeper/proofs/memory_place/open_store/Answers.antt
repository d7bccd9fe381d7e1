use Rattle.std.proofs.Common.{List, ◌∙◌, ap, subst}
use Rattle.client_keeper.specs.Names.{stores_of, IsFirstNamed}
use Rattle.client_keeper.specs.Slots.{shown}
use Rattle.client_keeper.specs.declared.memory_place.Store.{Store}
use Rattle.client_keeper.proofs.StoreLemmas.{found_rows, rows_there, there_already, has_named}
use Rattle.client_keeper.proofs.memory_place.open_store.Goals as goal

pub returns-in_ok-slots-in-Some-clause-rows : goal.returns-in_ok-slots-in-Some-clause-rows
returns-in_ok-slots-in-Some-clause-rows c =
    let P : List Store → Type 0 = λ stores. IsFirstNamed stores c.args.name.now c.in-Some.index in
    let first = subst P c.deref.ensures.value c.in-Some.ensures in
    let index = c.in-Some.index in
    let stores = c.args.stores.now.items in
    ap shown c.in_ok-slots-in-Some.ensures
    ∙ ap (λ (store : Store). shown store.slots.entries) c.index.ensures
    ∙ rows_there (stores_of stores) c.args.name.now _ (found_rows stores c.args.name.now index c.index.result.now first)

pub returns-in_ok-slots-in-Some-clause-ok : goal.returns-in_ok-slots-in-Some-clause-ok
returns-in_ok-slots-in-Some-clause-ok c =
    let P : List Store → Type 0 = λ stores. IsFirstNamed stores c.args.name.now c.in-Some.index in
    let first = subst P c.deref.ensures.value c.in-Some.ensures in
    there_already (stores_of c.args.stores.now.items) c.args.name.now _
    (found_rows c.args.stores.now.items c.args.name.now c.in-Some.index c.index.result.now first)

pub returns-in_ok-slots-in-Some-clause-has : goal.returns-in_ok-slots-in-Some-clause-has
returns-in_ok-slots-in-Some-clause-has c =
    has_named (stores_of c.args.stores.now.items) (stores_of c.args.stores.now.items) c.args.name.now
    (returns-in_ok-slots-in-Some-clause-ok c)
