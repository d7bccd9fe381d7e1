use Rattle.std.proofs.Common.{subst}
use Rattle.key_bag.specs.Bags.{HasName}
use Rattle.key_bag.proofs.Bagged.{bag_with_push}
use Rattle.key_bag.proofs.bag.KeyBag.add.Goals as goal

pub invariant_of-self-2 : goal.invariant_of-self-2
invariant_of-self-2 c =
    bag_with_push _ (record { keys = c.append.new.keys.items; default = c.self.inside.default }) c.args.key.now _ _ c.self.invariant c.in_ok-named.ensures.named
    c.in_ok-named.ensures.parts c.as_slice.ensures
    (λ stands. c.if-has.ensures.answer.1 (subst (λ bag. HasName bag c.as_slice.result.now) c.self.view_is stands)) c.in_ok-append.ensures.ok (λ _. c.self.inside.default)
