use Rattle.std.proofs.Common.{Ok, Err, sym, ap, subst, refl, ◌∙◌}
use Rattle.nigori.specs.Unsealing.{Decodes, HoldsText}
use Rattle.key_bag.specs.Bags.{key_named}
use Rattle.key_bag.specs.Texts.{IsUnsealed}
use Rattle.key_bag.proofs.Exact.{exactly_of_key, no_lack, lack_told, memory_as_such}
use Rattle.key_bag.proofs.bag.KeyBag.unseal_any.Goals as goal

pub returns-in_default-clause-no_key : goal.returns-in_default-clause-no_key
returns-in_default-clause-no_key c =
    lack_told c.args.self.now c.args.sealed.now.key_name
    (sym (ap (key_named c.args.self.now.keys) c.as_slice.ensures) ∙ sym c.key_named.ensures.key ∙ c.in_default.is)
    c.no_key.result c.no_key.ensures (Err c.no_key.result) refl

pub returns-clause-no_key : goal.returns-clause-no_key
returns-clause-no_key c =
    no_lack c.args.self.now c.args.sealed.now.key_name c.in-Some.key
    (sym (ap (key_named c.args.self.now.keys) c.as_slice.ensures) ∙ sym c.key_named.ensures.key ∙ c.in-Some.is)
    c.unsealed.result c.unsealed.ensures.never_lacks

pub returns-clause-text : goal.returns-clause-text
returns-clause-text c =
    λ plain. exactly_of_key c.args.self.now c.args.sealed.now.key_name c.in-Some.key
    (sym (ap (key_named c.args.self.now.keys) c.as_slice.ensures) ∙ sym c.key_named.ensures.key ∙ c.in-Some.is)
    c.unsealed.result (Ok plain)
    (λ key. Decodes c.args.sealed.now.blob (HoldsText key plain))
    ((subst (λ blob. IsUnsealed c.in-Some.key blob c.unsealed.result) c.as_slice-2.ensures c.unsealed.ensures).text plain)

pub returns-clause-memory_is_told_as_such : goal.returns-clause-memory_is_told_as_such
returns-clause-memory_is_told_as_such c = memory_as_such c.in-Some.key c.as_slice-2.result.now c.unsealed.result c.unsealed.ensures
