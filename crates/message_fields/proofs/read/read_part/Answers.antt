use Rattle.std.proofs.Common.{◌+◌, None, Ok, length, slice_range, subst, sym, ap, ◌∙◌, arith}
use Rattle.wire_format.specs.Fields.{IsField}
use Rattle.wire_format.specs.Readers.{IsNext, IsFaulty}
use Rattle.message_fields.specs.Fields.{IsFieldIn}
use Rattle.message_fields.specs.Readings.{is_kept}
use Rattle.message_fields.proofs.PartLemmas.{length_part}
use Rattle.message_fields.proofs.PieceLemmas.{next_stands, read_more, read_whole, read_faulty, fault_fits}
use Rattle.message_fields.proofs.read.read_part.Goals as goal

pub placed-placed-requires-clause-is_field : goal.placed-placed-requires-clause-is_field
placed-placed-requires-clause-is_field c =
    let stands = next_stands (is_kept c.args.known) c.args.input.now c.args.part c.args.fields.now.items c.loop-field.fields.items
    c.loop-field.reader c.next.new.self c.next.result c.in-Ok-Some.field-0 c.in-Ok-Some.field c.requires c.loop-field.invariant
    c.next.ensures.first c.in-Ok-Some.is c.in-Ok-Some.field-0-is in
    subst (λ place. IsField (slice_range c.args.input.now (c.args.part.begin + c.in-Ok-Some.field.at) (c.args.part.begin + place)) c.in-Ok-Some.field.number c.in-Ok-Some.field.payload)
    (sym c.place.ensures) stands.is_field

pub placed-placed-requires-clause-before : goal.placed-placed-requires-clause-before
placed-placed-requires-clause-before c =
    let stands = next_stands (is_kept c.args.known) c.args.input.now c.args.part c.args.fields.now.items c.loop-field.fields.items
    c.loop-field.reader c.next.new.self c.next.result c.in-Ok-Some.field-0 c.in-Ok-Some.field c.requires c.loop-field.invariant
    c.next.ensures.first c.in-Ok-Some.is c.in-Ok-Some.field-0-is in
    omega (arith, stands.is_next, stands.goes_on, c.place.ensures)

pub placed-placed-requires-clause-within : goal.placed-placed-requires-clause-within
placed-placed-requires-clause-within c =
    let stands = next_stands (is_kept c.args.known) c.args.input.now c.args.part c.args.fields.now.items c.loop-field.fields.items
    c.loop-field.reader c.next.new.self c.next.result c.in-Ok-Some.field-0 c.in-Ok-Some.field c.requires c.loop-field.invariant
    c.next.ensures.first c.in-Ok-Some.is c.in-Ok-Some.field-0-is in
    omega (arith, stands.is_within, c.place.ensures, c.requires.0, c.requires.1)

pub loop-field-smaller : goal.loop-field-smaller
loop-field-smaller c =
    let stands = next_stands (is_kept c.args.known) c.args.input.now c.args.part c.args.fields.now.items c.loop-field.fields.items
    c.loop-field.reader c.next.new.self c.next.result c.in-Ok-Some.field-0 c.in-Ok-Some.field c.requires c.loop-field.invariant
    c.next.ensures.first c.in-Ok-Some.is c.in-Ok-Some.field-0-is in
    omega (
      arith,
      stands.goes_on,
      stands.is_within,
      ap length stands.is_same,
      ap length c.loop-field.invariant.is_piece,
      length_part c.args.input.now c.args.part.begin c.args.part.end c.requires.0 c.requires.1,
    )

pub loop-field-preserved : goal.loop-field-preserved
loop-field-preserved c =
    let stands = next_stands (is_kept c.args.known) c.args.input.now c.args.part c.args.fields.now.items c.loop-field.fields.items
    c.loop-field.reader c.next.new.self c.next.result c.in-Ok-Some.field-0 c.in-Ok-Some.field c.requires c.loop-field.invariant
    c.next.ensures.first c.in-Ok-Some.is c.in-Ok-Some.field-0-is in
    read_more (is_kept c.args.known) c.args.input.now c.args.part c.args.fields.now.items c.loop-field.fields.items c.push_kept.new.fields.items
    c.loop-field.reader c.next.new.self c.in-Ok-Some.field c.placed-placed.result c.loop-field.invariant stands
    (subst (λ place. IsFieldIn c.args.input.now c.placed-placed.result (c.args.part.begin + place)) c.place.ensures c.placed-placed.ensures.is_field)
    c.placed-placed.ensures.same.1 c.in_ok-push_kept.ensures

pub returns-in-Ok-None : goal.returns-in-Ok-None
returns-in-Ok-None c =
    let so_far = c.loop-field.invariant in
    let ended : IsNext c.loop-field.reader (Ok None) c.next.new.self
    = subst (λ found. IsNext c.loop-field.reader found c.next.new.self) (c.in-Ok-None.is ∙ ap Ok c.in-Ok-None.field-0-is)
    (c.next.ensures.first so_far.has_no_fault) in
    read_whole (is_kept c.args.known) c.args.input.now c.args.part c.args.fields.now.items c.loop-field.fields.items c.loop-field.reader
    c.requires so_far ended.0

pub fault_in-requires : goal.fault_in-requires
fault_in-requires c =
    let so_far = c.loop-field.invariant in
    let faulty : IsFaulty c.loop-field.reader c.in-Err.fault c.next.new.self = c.in-Err.ensures.first so_far.has_no_fault in
    let fits = fault_fits c.args.input.now c.args.part c.loop-field.reader c.next.new.self c.in-Err.fault c.requires
    so_far.is_piece so_far.is_within faulty in
    omega (arith, fits)

pub returns-in-Err : goal.returns-in-Err
returns-in-Err c =
    let so_far = c.loop-field.invariant in
    read_faulty (is_kept c.args.known) c.args.input.now c.args.part c.args.fields.now.items c.loop-field.fields.items c.loop-field.reader
    c.next.new.self c.in-Err.fault c.fault_in.result c.requires so_far (c.in-Err.ensures.first so_far.has_no_fault) c.fault_in.ensures
