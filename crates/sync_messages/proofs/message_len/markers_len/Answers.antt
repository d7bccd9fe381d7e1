use Rattle.std.proofs.Common.{take, get_or}
use Rattle.wire_format.specs.Spellings.{bytes_field}
use Rattle.client_tags.specs.declared.Kind.TheVariants.{Nigori}
use Rattle.sync_messages.specs.declared.message.Marker.{Marker}
use Rattle.sync_messages.specs.Spellings.{marker_bytes, markers_bytes}
use Rattle.sync_messages.proofs.LengthLemmas.{one_longer}
use Rattle.sync_messages.proofs.message_len.markers_len.Goals as goal

-- what a slice gives where it has nothing
abbrev no_marker : Marker
no_marker = record { kind = Nigori; mark = record { version = 0 } }

pub loop-marker-preserved : goal.loop-marker-preserved
loop-marker-preserved c =
    let markers = c.args.markers.now in
    let index = c.loop-marker.marker-index in
    let marker = get_or markers index no_marker in
    one_longer (λ (marker : Marker). bytes_field c.args.number (marker_bytes marker)) markers index no_marker
    c.len_of_both-total.result c.loop-marker-test.true
    (c.len_of_both-total.ensures (markers_bytes c.args.number (take index markers)) (bytes_field c.args.number (marker_bytes marker))
    c.loop-marker.invariant (c.len_around.ensures (marker_bytes marker) c.marker_len.ensures))
