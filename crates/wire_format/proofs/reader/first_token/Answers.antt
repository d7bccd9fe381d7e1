use Rattle.wire_format.proofs.ReaderLemmas.{first_fault}
use Rattle.wire_format.proofs.reader.first_token.Goals as goal

pub returns-in-Err : goal.returns-in-Err
returns-in-Err c = first_fault c.args.bytes.now c.in-Err.fault.reason c.in-Err.fault.place c.requires c.in-Err.ensures
