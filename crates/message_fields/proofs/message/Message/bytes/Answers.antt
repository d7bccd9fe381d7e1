use Rattle.std.proofs.Common.{IfSome, subst, sym, ◌∙◌}
use Rattle.message_fields.specs.Fields.{IsPartOf}
use Rattle.message_fields.proofs.LookupLemmas.{content_within}
use Rattle.message_fields.proofs.message.Message.bytes.Goals as goal

pub content-requires-in-Some : goal.content-requires-in-Some
content-requires-in-Some c =
    subst (λ found. IfSome found (IsPartOf c.args.input.now)) (sym c.content.ensures ∙ c.in-Some.is)
    (content_within c.args.input.now c.args.number c.args.self.now.fields c.requires)
