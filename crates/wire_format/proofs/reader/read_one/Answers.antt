use Rattle.std.proofs.Common.{take, subst}
use Rattle.wire_format.specs.Tokens.{IsToken}
use Rattle.wire_format.proofs.ReaderLemmas.{first_stray}
use Rattle.wire_format.proofs.reader.read_one.Goals as goal

pub returns-in-End : goal.returns-in-End
returns-in-End c =
    let token = c.in_ok-token.token in
    first_stray c.args.bytes.now token.len token.number
    (subst (IsToken (take token.len c.args.bytes.now) token.number) c.in-End.is c.in_ok-token.ensures.1)
