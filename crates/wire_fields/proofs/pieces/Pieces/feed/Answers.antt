use Rattle.std.proofs.Common.{ℕ, List, ◌++◌, ap, subst, ◌∙◌}
use Rattle.wire_format.specs.Walks.{MayGoOn}
use Rattle.wire_fields.specs.Feeding.{Fed}
use Rattle.wire_fields.proofs.pieces.Pieces.feed.Goals as goal

pub returns-in-Ok-clause-first : goal.returns-in-Ok-clause-first
returns-in-Ok-clause-first c none =
    let piece = c.args.piece.now in (
      ap (λ (bytes : List ℕ). record { bytes = bytes; fault = c.self.inside.fault }) c.in_ok-extend_from_slice.ensures.items
          ∙ ap (λ (fed : Fed). record { bytes = fed.bytes ++ piece; fault = fed.fault }) c.self.view_is,
      subst MayGoOn c.deref.ensures.value c.in-Ok.ensures.may_go_on,
    )
