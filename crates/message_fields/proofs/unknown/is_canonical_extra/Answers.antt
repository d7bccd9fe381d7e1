use Rattle.std.proofs.Common.{true, false, ◌≡◌, Ok, None, sym, ap, subst, ◌∙◌, refl, true≢false, arith}
use Rattle.wire_format.specs.Readers.{IsNext, IsFaulty}
use Rattle.message_fields.specs.Fields.{IsFieldIn}
use Rattle.message_fields.specs.Unknown.{is_least}
use Rattle.message_fields.proofs.LeastFields.{are_bytes, at_front, field_stands, goes_on, stops, ends, is_at_fault}
use Rattle.message_fields.proofs.unknown.is_canonical_extra.Goals as goal

pub loop-field-init : goal.loop-field-init
loop-field-init c =
    at_front c.args.known.now c.args.extra.now c.new-reader.result (are_bytes c.args.extra.now (λ i. omega (arith, c.type_inv.extra i))) c.new-reader.ensures

pub returns-in-Ok-None : goal.returns-in-Ok-None
returns-in-Ok-None c =
    let so_far = c.loop-field.invariant in
    let ended : IsNext c.loop-field.reader (Ok None) c.next.new.self
    = subst (λ found. IsNext c.loop-field.reader found c.next.new.self) (c.in-Ok-None.is ∙ ap Ok c.in-Ok-None.field-0-is)
    (c.next.ensures.first so_far.has_no_fault) in
    (λ yes. ends c.args.known.now c.args.extra.now c.loop-field.reader so_far ended.0, λ canonical. refl)

pub returns-in-Err : goal.returns-in-Err
returns-in-Err c =
    let so_far = c.loop-field.invariant in
    let faulty : IsFaulty c.loop-field.reader c.in-Err.field-0 c.next.new.self = c.in-Err.ensures.first so_far.has_no_fault in (
      λ no. absurd (true≢false (sym no)),
      λ canonical. absurd (is_at_fault c.args.known.now c.args.extra.now c.loop-field.reader c.next.new.self c.in-Err.field-0 so_far faulty canonical),
    )

pub returns-then-not-is_least : goal.returns-then-not-is_least
returns-then-not-is_least c =
    let stands = field_stands c.args.known.now c.args.extra.now c.loop-field.reader c.next.new.self c.next.result c.in-Ok-Some.field-0
    c.in-Ok-Some.field c.loop-field.invariant c.next.ensures.first c.in-Ok-Some.is c.in-Ok-Some.field-0-is in
    let is : IsFieldIn c.args.extra.now c.placed-placed.result c.next.new.self.at
    = subst (IsFieldIn c.args.extra.now c.placed-placed.result) c.place-end.ensures c.placed-placed.ensures.is_field in
    let least : is_least c.args.known.now c.args.extra.now c.placed-placed.result c.next.new.self.at ≡ false
    = ap (is_least c.args.known.now c.args.extra.now c.placed-placed.result) (sym c.place-end.ensures) ∙ sym c.is_least.ensures ∙ c.if-not-is_least.true in (
      λ no. absurd (true≢false (sym no)),
      λ canonical. absurd (stops c.args.known.now c.args.extra.now c.loop-field.reader c.next.new.self c.in-Ok-Some.field c.placed-placed.result
          c.loop-field.invariant stands is c.placed-placed.ensures.same.1 least canonical),
    )

pub loop-field-preserved : goal.loop-field-preserved
loop-field-preserved c =
    let stands = field_stands c.args.known.now c.args.extra.now c.loop-field.reader c.next.new.self c.next.result c.in-Ok-Some.field-0
    c.in-Ok-Some.field c.loop-field.invariant c.next.ensures.first c.in-Ok-Some.is c.in-Ok-Some.field-0-is in
    let is : IsFieldIn c.args.extra.now c.placed-placed.result c.next.new.self.at
    = subst (IsFieldIn c.args.extra.now c.placed-placed.result) c.place-end.ensures c.placed-placed.ensures.is_field in
    let least : is_least c.args.known.now c.args.extra.now c.placed-placed.result c.next.new.self.at ≡ true
    = ap (is_least c.args.known.now c.args.extra.now c.placed-placed.result) (sym c.place-end.ensures) ∙ sym c.is_least.ensures ∙ c.if-not-is_least.false in
    goes_on c.args.known.now c.args.extra.now c.loop-field.reader c.next.new.self c.in-Ok-Some.field c.placed-placed.result
    c.loop-field.invariant stands is c.placed-placed.ensures.same.1 least
