use Rattle.type_worker.proofs.Opened.{IsExact, refused_told, fault_told, value_told}
use Rattle.type_worker.proofs.opening.opened_text.Goals as goal

pub returns-in_err-text : goal.returns-in_err-text
returns-in_err-text c =
    let exact : IsExact c.args.bag.now c.args.sealed.now c.unseal_any.result =
    record { no_key = c.unseal_any.ensures.no_key; text = c.unseal_any.ensures.text; fault = c.unseal_any.ensures.fault } in
    refused_told c.args.bag.now c.args.specifics.now c.args.sealed.now c.unseal_any.result c.requires exact c.in_err-text.field-0.0 c.in_err-text.was
    c.from_residual.result c.from_residual.ensures.1

pub returns-in_err-said_within : goal.returns-in_err-said_within
returns-in_err-said_within c =
    let exact : IsExact c.args.bag.now c.args.sealed.now c.unseal_any.result =
    record { no_key = c.unseal_any.ensures.no_key; text = c.unseal_any.ensures.text; fault = c.unseal_any.ensures.fault } in
    fault_told c.args.bag.now c.args.specifics.now c.args.sealed.now c.unseal_any.result c.requires exact
    c.bytes_say_one_thing.ensures.specifics c.bytes_say_one_thing.ensures.logins c.bytes_say_one_thing.ensures.bags
    c.in_ok-text.text c.as_slice.result.now c.in_ok-text.was c.as_slice.ensures c.in_err-said_within.field-0.0 c.in_err-said_within.ensures
    c.from_residual-in_err-said_within.result c.from_residual-in_err-said_within.ensures.1

pub returns : goal.returns
returns c =
    let exact : IsExact c.args.bag.now c.args.sealed.now c.unseal_any.result =
    record { no_key = c.unseal_any.ensures.no_key; text = c.unseal_any.ensures.text; fault = c.unseal_any.ensures.fault } in
    value_told c.args.bag.now c.args.specifics.now c.args.sealed.now c.unseal_any.result c.requires exact
    c.bytes_say_one_thing.ensures.specifics c.bytes_say_one_thing.ensures.logins c.bytes_say_one_thing.ensures.bags
    c.in_ok-text.text c.as_slice.result.now c.in_ok-text.was c.as_slice.ensures c.in_ok-said_within.field-0 c.in_ok-said_within.ensures
