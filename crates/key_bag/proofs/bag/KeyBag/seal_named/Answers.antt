use Rattle.std.proofs.Common.{Ok, Err, sym, ap, refl, ◌∙◌}
use Rattle.key_bag.specs.Bags.{key_named}
use Rattle.key_bag.proofs.Exact.{no_lack, lack_told}
use Rattle.key_bag.proofs.bag.KeyBag.seal_named.Goals as goal

pub returns-in_default-clause-no_key : goal.returns-in_default-clause-no_key
returns-in_default-clause-no_key c =
    lack_told c.args.self.now c.args.name.now
    (sym (ap (key_named c.args.self.now.keys) c.as_slice.ensures) ∙ sym c.key_named.ensures.key ∙ c.in_default.is)
    c.no_key.result c.no_key.ensures (Err c.no_key.result) refl

pub returns-clause-no_key : goal.returns-clause-no_key
returns-clause-no_key c =
    no_lack c.args.self.now c.args.name.now c.in-Some.key
    (sym (ap (key_named c.args.self.now.keys) c.as_slice.ensures) ∙ sym c.key_named.ensures.key ∙ c.in-Some.is)
    (Ok c.in_ok-sealed_under.field-0) (λ other same. cc)
