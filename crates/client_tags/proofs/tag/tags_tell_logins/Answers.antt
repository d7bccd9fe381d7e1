use Rattle.client_tags.proofs.Escapes.{tags_tell_logins}
use Rattle.client_tags.proofs.tag.tags_tell_logins.Goals as goal

pub returns : goal.returns
returns c = tags_tell_logins
