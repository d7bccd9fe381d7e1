use Rattle.std.proofs.Common.{ap, ◌∙◌}
use Rattle.std.specs.Prelude.{unwrap_or}
use Rattle.loopback_server.proofs.Ties.{same_lookup}
use Rattle.loopback_server.proofs.index.version_at.Goals as goal

pub returns : goal.returns
returns c =
    c.unwrap_or.ensures ∙ ap (λ found. unwrap_or found 0) (c.copied.ensures ∙ c.get.ensures.value ∙ same_lookup c.args.index.now.entries c.args.key.now)
