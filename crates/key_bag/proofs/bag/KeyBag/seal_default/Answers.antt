use Rattle.std.proofs.Common.{Some, sym, ap, ◌∙◌}
use Rattle.key_bag.proofs.Bagged.{default_is_found}
use Rattle.key_bag.proofs.bag.KeyBag.seal_default.Goals as goal

pub unreachable-requires : goal.unreachable-requires
unreachable-requires c = default_is_found c.args.self.now c.as_slice.result.now c.key_named.ensures.is_bag
    (sym (ap (λ bag. bag.default) c.self.view_is) ∙ c.in-Some.is ∙ ap Some (sym c.as_slice.ensures))
    (sym c.key_named.ensures.key ∙ c.in_default-key_named.is)
