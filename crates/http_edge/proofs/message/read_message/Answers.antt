use Rattle.std.proofs.Common.{arith, subst, sym}
use Rattle.std.specs.Prelude.{Ok, Err}
use Rattle.outer_edge.proofs.Told.{GaveUpTo-after}
use Rattle.http_edge.specs.Faults.{IfAnswered}
use Rattle.http_edge.specs.Messages.{Answers}
use Rattle.http_edge.proofs.Reading.{told, no_head, bad_head, no_body, whole}
use Rattle.http_edge.proofs.message.read_message.Goals as goal

pub returns-in_err-head-clause-answer : goal.returns-in_err-head-clause-answer
returns-in_err-head-clause-answer g c =
    told c.from_residual.result c.in_err-head.field-0.0
    (λ answer. IfAnswered answer (Answers g.K.MessageKind.says (g.L.Source.left c.args.link.now) (g.L.Source.left c.read_head.new.link) answer))
    c.from_residual.ensures.1
    (no_head g.K.MessageKind.says g.L.Source.left g.L.Source.came c.args.link.now c.read_head.new.link c.in_err-head.field-0.0 c.in_err-head.ensures.fault)

pub returns-in_err-length-clause-answer : goal.returns-in_err-length-clause-answer
returns-in_err-length-clause-answer g c =
    told c.from_residual-in_err-length.result c.in_err-length.field-0.0
    (λ answer. IfAnswered answer (Answers g.K.MessageKind.says (g.L.Source.left c.args.link.now) (g.L.Source.left c.read_head.new.link) answer))
    c.from_residual-in_err-length.ensures.1
    (bad_head g.K.MessageKind.says g.L.Source.left g.L.Source.came c.args.link.now c.read_head.new.link c.in_ok-head.head.items c.in_err-length.field-0.0
    c.in_ok-head.ensures.gave c.in_ok-head.ensures.ends c.in_ok-head.ensures.fits
    (subst (λ head. g.K.MessageKind.says head (Err c.in_err-length.field-0.0)) c.deref.ensures.value c.in_err-length.ensures.says))

pub returns-in_err-body-clause-answer : goal.returns-in_err-body-clause-answer
returns-in_err-body-clause-answer g c =
    told c.from_residual-in_err-body.result c.in_err-body.field-0.0
    (λ answer. IfAnswered answer (Answers g.K.MessageKind.says (g.L.Source.left c.args.link.now) (g.L.Source.left c.read_body.new.link) answer))
    c.from_residual-in_err-body.ensures.1
    (no_body g.K.MessageKind.says g.L.Source.left g.L.Source.came c.args.link.now c.read_head.new.link c.read_body.new.link c.in_ok-head.head.items
    c.in_ok-length.length c.in_err-body.field-0.0 c.in_ok-head.ensures.gave c.in_ok-head.ensures.ends c.in_ok-head.ensures.fits
    (subst (λ head. g.K.MessageKind.says head (Ok c.in_ok-length.length)) c.deref.ensures.value c.in_ok-length.ensures.says) c.in_err-body.ensures.fault)

pub returns-clause-answer : goal.returns-clause-answer
returns-clause-answer g c =
    subst (λ body. Answers g.K.MessageKind.says (g.L.Source.left c.args.link.now) (g.L.Source.left c.read_body.new.link) (Ok body)) (sym c.from_vec.ensures)
    (whole g.K.MessageKind.says g.L.Source.left g.L.Source.came c.args.link.now c.read_head.new.link c.read_body.new.link c.in_ok-head.head.items
    c.in_ok-body.body.items c.in_ok-length.length c.in_ok-head.ensures.gave c.in_ok-head.ensures.ends c.in_ok-head.ensures.fits
    (subst (λ head. g.K.MessageKind.says head (Ok c.in_ok-length.length)) c.deref.ensures.value c.in_ok-length.ensures.says)
    c.in_ok-body.ensures.gave c.in_ok-body.ensures.whole)

pub returns-in_err-body-clause-gave_some : goal.returns-in_err-body-clause-gave_some
returns-in_err-body-clause-gave_some g c =
    GaveUpTo-after _ _ _ _ _ _ _ _ c.in_ok-head.ensures.gave (omega (arith, c.in_ok-head.ensures.fits, c.in_ok-length.ensures.within))
    c.read_body.ensures.gave_some

pub returns-clause-gave_some : goal.returns-clause-gave_some
returns-clause-gave_some g c =
    GaveUpTo-after _ _ _ _ _ _ _ _ c.in_ok-head.ensures.gave (omega (arith, c.in_ok-head.ensures.fits, c.in_ok-length.ensures.within))
    c.read_body.ensures.gave_some
