use Rattle.std.proofs.Common.{◌-◌, length, take, drop}
use Rattle.schedule_text.proofs.Cuts.{first_is}
use Rattle.schedule_text.proofs.Escapes.{escaped_is}
use Rattle.schedule_text.proofs.text_word.byte_at.Goals as goal

pub returns : goal.returns
returns c =
    let word = c.args.word.now in
    escaped_is word (take (length word - 1) (drop 1 word)) c.escaped_at.result (first_is word 37 c.in-len1-up.len_at_least c.if-first-ne37.false) c.escaped_at.ensures
