use Rattle.std.proofs.Common.{ℕ, List, ◌++◌, ap, ◌∙◌}
use Rattle.sha1.specs.Sha1.{sha1}
use Rattle.client_tags.specs.Hashes.{tag_hash}
use Rattle.client_tags.specs.Tags.{password_tag}
use Rattle.client_tags.proofs.TagPieces.{pieces_join}
use Rattle.client_tags.proofs.login.login_hash.Goals as goal

pub returns : goal.returns
unfolding tag_hash
returns c =
    c.from_bytes.ensures ∙ c.finalize.ensures _ (c.hash_part-4.ensures _ (c.hash_part-3.ensures _ (c.hash_part-2.ensures _ (c.hash_part.ensures _
    (c.hash_escaped.ensures _ (c.update.ensures _ c.new-hasher.ensures))))))
    ∙ ap sha1 (pieces_join c.specifics_prefix.result c.args.origin.now c.args.user_element.now c.args.user_value.now c.args.pass_element.now c.args.realm.now)
    ∙ ap (λ (front : List ℕ). sha1 (front ++ password_tag c.args.origin.now c.args.user_element.now c.args.user_value.now c.args.pass_element.now c.args.realm.now)) c.specifics_prefix.ensures
