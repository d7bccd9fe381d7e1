use Rattle.std.proofs.Common.{subst, sym, ◌∙◌, arith}
use Rattle.std.proofs.lemmas.List.{drop_more}
use Rattle.message_fields.specs.Readings.{IsReadingOf, is_kept}
use Rattle.message_fields.proofs.MessageLemmas.{goes_on, stops, all_read, kept_within}
use Rattle.message_fields.proofs.read.read_pieces.Goals as goal

pub loop-part-preserved : goal.loop-part-preserved
loop-part-preserved c =
    goes_on (is_kept c.args.known) c.args.input.now c.args.parts.now c.loop-part.part-index _ c.loop-part.fields.items c.read_part.new.fields.items
    c.in_ok-fault.fault (drop_more c.args.parts.now c.loop-part.part-index _ c.loop-part-test.true) c.loop-part.invariant c.in_ok-fault.ensures
    (sym c.is_some.ensures ∙ c.if-is_some.false)

pub returns-then-is_some-clause-reading : goal.returns-then-is_some-clause-reading
returns-then-is_some-clause-reading c =
    subst (IsReadingOf (is_kept c.args.known) c.args.input.now c.args.parts.now) (sym c.message.ensures)
    (stops (is_kept c.args.known) c.args.input.now c.args.parts.now c.loop-part.part-index _ c.loop-part.fields.items c.read_part.new.fields.items
    c.in_ok-fault.fault (drop_more c.args.parts.now c.loop-part.part-index _ c.loop-part-test.true) c.loop-part.invariant c.in_ok-fault.ensures
    (sym c.is_some.ensures ∙ c.if-is_some.true))

pub returns-then-is_some-clause-within : goal.returns-then-is_some-clause-within
returns-then-is_some-clause-within c =
    kept_within (is_kept c.args.known) c.args.input.now c.args.parts.now c.message.result (returns-then-is_some-clause-reading c)

pub returns-clause-reading : goal.returns-clause-reading
returns-clause-reading c =
    subst (IsReadingOf (is_kept c.args.known) c.args.input.now c.args.parts.now) (sym c.message-2.ensures)
    (all_read (is_kept c.args.known) c.args.input.now c.args.parts.now c.loop-part.part-index c.loop-part.fields.items
    (omega (arith, c.loop-part-test.false)) c.loop-part.invariant)

pub returns-clause-within : goal.returns-clause-within
returns-clause-within c =
    kept_within (is_kept c.args.known) c.args.input.now c.args.parts.now c.message-2.result (returns-clause-reading c)
