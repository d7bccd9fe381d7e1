use Rattle.aes_cbc.proofs.WordLemmas.{round_addend_at_key, round_addend_elsewhere}
use Rattle.aes_cbc.proofs.schedule.round_addend.Goals as goal

pub returns-then-i-ne0 : goal.returns-then-i-ne0
returns-then-i-ne0 c = round_addend_elsewhere c.args.before.now c.args.i c.if-i-ne0.true

pub returns : goal.returns
returns c =
    round_addend_at_key c.args.before.now c.args.i c.sub_byte.result c.sub_byte-2.result c.sub_byte-3.result c.sub_byte-4.result
    c.round_constant-constant.result c.told-before c.if-i-ne0.false c.round_constant-constant.ensures
    c.sub_byte.ensures c.sub_byte-2.ensures c.sub_byte-3.ensures c.sub_byte-4.ensures
