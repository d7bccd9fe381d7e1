use Rattle.schedule_text.specs.declared.fault.LineReason.TheVariants.{End}
use Rattle.schedule_text.specs.Answers.{IsFaultOf}
use Rattle.schedule_text.specs.ScriptRefusals.{IsScriptRefused}
use Rattle.schedule_text.proofs.Cuts.{some_bytes}
use Rattle.schedule_text.proofs.Refusing.{err_at}
use Rattle.schedule_text.proofs.ScriptReading.{fault_there, nothing_read, reads_on, refused_there}
use Rattle.schedule_text.proofs.script_parse.script_of.Goals as goal

pub loop-rest-init : goal.loop-rest-init
loop-rest-init c = nothing_read c.args.bytes.now c.new.result c.new.ensures

pub returns-in_default : goal.returns-in_default
returns-in_default c =
    refused_there c.args.bytes.now c.loop-rest.rest.now c.loop-rest.script c.next_script_line-line.result End c.loop-rest.invariant c.next_script_line-line.ensures (some_bytes c.loop-rest.rest.now c.loop-rest-test.ensures, c.in_default.ensures)

pub returns-in_err-said : goal.returns-in_err-said
returns-in_err-said c =
    let fault = c.in_err-said.field-0.0 in
    err_at _ (λ f. IsFaultOf (IsScriptRefused c.args.bytes.now) f) c.from_residual.result fault c.from_residual.ensures.1
    (fault_there c.args.bytes.now c.loop-rest.rest.now c.in-Some.line.now c.in-Some.more.now c.loop-rest.script fault c.loop-rest.invariant c.in-Some.ensures c.in_err-said.ensures)

pub loop-rest-preserved : goal.loop-rest-preserved
loop-rest-preserved c =
    reads_on c.args.bytes.now c.loop-rest.rest.now c.in-Some.line.now c.in-Some.more.now c.loop-rest.script c.put_script_line.new.before c.in_ok-said.said c.loop-rest.invariant c.in-Some.ensures c.in_ok-said.ensures.0 c.in_ok-said.ensures.1 c.in_ok-put_script_line.ensures.ok
