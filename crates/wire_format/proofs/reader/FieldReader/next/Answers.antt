use Rattle.wire_format.proofs.ReaderLemmas.{next_field, next_fault}
use Rattle.wire_format.proofs.reader.FieldReader.next.Goals as goal

pub returns-in-Ok-clause-first : goal.returns-in-Ok-clause-first
returns-in-Ok-clause-first c none =
    let found = c.in-Ok.found in
    next_field c.args.self.now c.self.inside.bytes.now c.self.inside.at found.len found.number c.self.inside.fault found.payload
    c.self.view_is c.in-Ok.ensures

pub returns-in-Err-clause-first : goal.returns-in-Err-clause-first
returns-in-Err-clause-first c none =
    let fault = c.in-Err.fault in
    next_fault c.args.self.now c.self.inside.bytes.now c.self.inside.at fault.place c.self.inside.fault fault.reason
    c.self.view_is c.in-Err.ensures
