use Rattle.std.proofs.Common.{IfSome, subst, sym, ◌∙◌}
use Rattle.message_fields.specs.Fields.{IsPartOf}
use Rattle.message_fields.proofs.LookupLemmas.{content_within}
use Rattle.message_fields.proofs.message.Message.bytes_in_field.Goals as goal

pub content-requires-2 : goal.content-requires-2
content-requires-2 c =
    subst (λ found. IfSome found (IsPartOf c.args.input.now)) (sym c.content.ensures ∙ c.in_ok-part.was)
    (content_within c.args.input.now c.args.number c.args.self.now.fields c.requires)
