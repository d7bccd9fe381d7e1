use Rattle.std.proofs.Common.{◌≡◌, subst, sym, ap, ◌∙◌}
use Rattle.std.proofs.lemmas.Result.{IfOk-weaker}
use Rattle.message_fields.specs.Fields.{ArePartsOf}
use Rattle.message_fields.specs.Lookups.{groups_of, StandWith}
use Rattle.message_fields.proofs.LookupLemmas.{groups_within}
use Rattle.message_fields.proofs.message.Message.groups.Goals as goal

pub returns-clause-within : goal.returns-clause-within
returns-clause-within c =
    IfOk-weaker c.groups_of.result (λ parts. parts.items ≡ groups_of c.args.number c.as_slice.result.now)
    (λ parts. StandWith c.args.self.now.fields parts.items)
    (λ parts same input within. subst (ArePartsOf input)
    (sym (same ∙ ap (groups_of c.args.number) c.as_slice.ensures)) (groups_within input c.args.number c.args.self.now.fields within))
    c.groups_of.ensures
