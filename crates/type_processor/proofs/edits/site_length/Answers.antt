use Rattle.type_processor.proofs.edits.site_length.Goals as goal

pub returns : goal.returns
returns c =
    c.with_text-2.ensures _ (c.with_text-user.ensures _ (c.with_text.ensures _ (c.with_text-site.ensures _ c.text_length.ensures)))
