use Rattle.std.proofs.Common.{take, subst}
use Rattle.wire_format.specs.Fields.{IsGroupOf, MayFill}
use Rattle.wire_format.proofs.ReaderLemmas.{between}
use Rattle.wire_format.proofs.reader.read_group.Goals as goal

pub returns : goal.returns
returns c =
    let end = c.in_ok-end.end in
    let ends = c.in_ok-end.ensures in (
      ends.0,
      subst (IsGroupOf (MayFill 32) (take end.len c.args.bytes.now) c.args.number)
          (between c.args.bytes.now c.args.start end.content ends.1) ends.3,
    )
