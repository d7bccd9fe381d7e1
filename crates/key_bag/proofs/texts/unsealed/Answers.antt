use Rattle.key_bag.proofs.Exact.{told_answers}
use Rattle.key_bag.proofs.texts.unsealed.Goals as goal

pub returns : goal.returns
returns c =
    told_answers c.args.key.now c.args.blob.now c.unseal.result c.any_answer.result c.any_answer.ensures c.unseal.ensures.text
    c.unseal.ensures.not_base64 c.unseal.ensures.bad_length c.unseal.ensures.bad_tag c.unseal.ensures.bad_padding
