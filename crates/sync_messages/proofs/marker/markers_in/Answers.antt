use Rattle.std.proofs.Common.{[], ◌∷◌, ◌++◌, option_to_list, sym, ap, ◌∙◌}
use Rattle.std.specs.List.{filter_map}
use Rattle.std.proofs.lemmas.List.{drop_more}
use Rattle.std.proofs.lemmas.List.Elements.{filter_map-append}
use Rattle.message_fields.specs.Readings.{IsReading}
use Rattle.message_fields.specs.Faults.{first_of}
use Rattle.sync_messages.specs.Markers.{marker_fields, marker_fault, marker_of}
use Rattle.sync_messages.proofs.ListLemmas.{one_more, all_read, one_given}
use Rattle.sync_messages.proofs.marker.markers_in.Goals as goal

pub loop-part-preserved : goal.loop-part-preserved
loop-part-preserved c =
    let message = c.in_ok-message.message in
    let given = marker_of c.args.input.now in
    one_more (λ part found. IsReading marker_fields c.args.input.now (part ∷ []) found) marker_fault (filter_map given)
    c.args.parts.now c.loop-part.part-index _ message c.loop-part.fault c.first_of-fault.result c.loop-part.markers.items
    c.push_marker.new.markers.items (drop_more c.args.parts.now c.loop-part.part-index _ c.loop-part-test.true) c.loop-part.invariant
    c.in_ok-message.ensures.reading (c.first_of-fault.ensures ∙ ap (first_of c.loop-part.fault) c.marker_fault.ensures)
    (λ things same. c.in_ok-push_marker.ensures
    ∙ ap (λ marker. c.loop-part.markers.items ++ option_to_list marker) c.marker_in.ensures
    ∙ ap (λ back. c.loop-part.markers.items ++ back) (sym (one_given given message))
    ∙ ap (λ front. front ++ filter_map given (message ∷ [])) same
    ∙ sym (filter_map-append given things (message ∷ [])))

pub returns : goal.returns
returns c =
    let so_far = c.loop-part.invariant in
    record {
      messages = so_far.things;
      are_readings = all_read (λ part message. IsReading marker_fields c.args.input.now (part ∷ []) message) marker_fault
          (filter_map (marker_of c.args.input.now)) c.args.parts.now c.loop-part.part-index c.loop-part.fault c.loop-part.markers.items
          c.loop-part-test.false so_far;
      is_fault = so_far.is_fault;
      are_markers = so_far.are_values;
    }
