use Rattle.std.proofs.Common.{sym}
use Rattle.schedule_text.specs.declared.fault.LineReason.TheVariants.{End}
use Rattle.schedule_text.specs.Answers.{IsFaultOf}
use Rattle.schedule_text.specs.Refusals.{IsRefused}
use Rattle.schedule_text.proofs.Cuts.{some_bytes}
use Rattle.schedule_text.proofs.Refusing.{err_at, fault_next, first_read, reads_on, refused_next}
use Rattle.schedule_text.proofs.parse.schedule_of.Goals as goal

pub loop-rest-init : goal.loop-rest-init
loop-rest-init c = rw (c.new.ensures, c.new-2.ensures) (first_read c.args.bytes.now c.in_ok-clients.lines.now c.in_ok-clients.clients c.in_ok-clients.ensures.0 c.in_ok-clients.ensures.1)

pub returns-in_default : goal.returns-in_default
returns-in_default c =
    refused_next c.args.bytes.now c.loop-rest.rest.now c.loop-rest.schedule c.next_line-line.result End c.loop-rest.invariant c.next_line-line.ensures (some_bytes c.loop-rest.rest.now c.loop-rest-test.ensures, c.in_default.ensures)

pub returns-in_err-said : goal.returns-in_err-said
returns-in_err-said c =
    let fault = c.in_err-said.field-0.0 in
    err_at _ (λ f. IsFaultOf (IsRefused c.args.bytes.now) f) c.from_residual-in_err-said.result fault c.from_residual-in_err-said.ensures.1
    (fault_next c.args.bytes.now c.loop-rest.rest.now c.in-Some.line.now c.in-Some.more.now c.loop-rest.schedule fault c.loop-rest.invariant c.in-Some.ensures c.in_err-said.ensures)

pub loop-rest-preserved : goal.loop-rest-preserved
loop-rest-preserved c =
    reads_on c.args.bytes.now c.loop-rest.rest.now c.in-Some.line.now c.in-Some.more.now c.loop-rest.schedule c.put_line.new.before c.in_ok-said.said c.loop-rest.invariant c.in-Some.ensures c.in_ok-said.ensures.0 c.in_ok-said.ensures.1 (sym c.in_ok-put_line.ensures.ok)
