use Rattle.std.proofs.Common.{refl, rules, ◌≡◌, length, Result, Err, IsErrAnd}
use Rattle.aes_cbc.specs.declared.fault.CbcFault.{CbcFault}
use Rattle.aes_cbc.specs.declared.fault.CbcFault.TheVariants.{Padding, NoMemory}
use Rattle.aes_cbc.specs.Chaining.{AreWholeBlocks, HasText}
use Rattle.aes_cbc.proofs.ChainSteps.{IsSplit, split_from, is_text, has_text, has_no_padding}
use Rattle.aes_cbc.proofs.chaining.cbc_decrypt.Goals as goal

-- want of memory is no wrong padding
no_wrong_padding : {T : Type 0} (answer : Result T CbcFault) → IsErrAnd answer (λ fault. fault ≡ NoMemory) → answer ≡ Err Padding → ⊥
no_wrong_padding answer memory padding =
    let same : Padding ≡ NoMemory = rw padding at memory in cc

pub returns-in_default-padding_of-clause-padding : goal.returns-in_default-padding_of-clause-padding
returns-in_default-padding_of-clause-padding c =
    let split : IsSplit c.args.schedule.now c.args.iv.now c.args.cipher.now c.in-Some.front.now c.decrypt_last-end.result =
    split_from _ _ _ _ _ _ _ c.as_chunks.ensures.front c.in-Some.ensures.cases.0 c.decrypt_last-end.ensures in
    let whole : AreWholeBlocks c.args.cipher.now = search rules in
    let size : length c.decrypt_last-end.result ≡ 16 = search rules in
    (λ e. (whole, has_no_padding _ _ _ _ _ split size c.in_default-padding_of.ensures), λ h. refl)

pub returns-clause-text : goal.returns-clause-text
returns-clause-text c =
    let split : IsSplit c.args.schedule.now c.args.iv.now c.args.cipher.now c.in-Some.front.now c.decrypt_last-end.result =
    split_from _ _ _ _ _ _ _ c.as_chunks.ensures.front c.in-Some.ensures.cases.0 c.decrypt_last-end.ensures in
    let whole : AreWholeBlocks c.args.cipher.now = search rules in
    (whole, is_text _ _ _ _ _ split c.in-Some-padding_of.size c.in_ok-text.text.items c.in-Some-padding_of.ensures c.in_ok-text.ensures)

pub returns-clause-padding : goal.returns-clause-padding
returns-clause-padding c =
    let split : IsSplit c.args.schedule.now c.args.iv.now c.args.cipher.now c.in-Some.front.now c.decrypt_last-end.result =
    split_from _ _ _ _ _ _ _ c.as_chunks.ensures.front c.in-Some.ensures.cases.0 c.decrypt_last-end.ensures in
    let text : HasText c.args.schedule.now c.args.iv.now c.args.cipher.now = has_text _ _ _ _ _ split c.in-Some-padding_of.size c.in-Some-padding_of.ensures in
    (λ e. absurd (cc), λ h. absurd (h.1 text.0 text.1))

pub returns-in_err-text-clause-padding : goal.returns-in_err-text-clause-padding
returns-in_err-text-clause-padding c =
    let split : IsSplit c.args.schedule.now c.args.iv.now c.args.cipher.now c.in-Some.front.now c.decrypt_last-end.result =
    split_from _ _ _ _ _ _ _ c.as_chunks.ensures.front c.in-Some.ensures.cases.0 c.decrypt_last-end.ensures in
    let text : HasText c.args.schedule.now c.args.iv.now c.args.cipher.now = has_text _ _ _ _ _ split c.in-Some-padding_of.size c.in-Some-padding_of.ensures in
    (λ e. absurd (no_wrong_padding c.from_residual.result c.from_residual.ensures.1 e), λ h. absurd (h.1 text.0 text.1))

pub returns-in_err-text-clause-memory : goal.returns-in_err-text-clause-memory
returns-in_err-text-clause-memory c =
    let split : IsSplit c.args.schedule.now c.args.iv.now c.args.cipher.now c.in-Some.front.now c.decrypt_last-end.result =
    split_from _ _ _ _ _ _ _ c.as_chunks.ensures.front c.in-Some.ensures.cases.0 c.decrypt_last-end.ensures in
    let whole : AreWholeBlocks c.args.cipher.now = search rules in
    let text : HasText c.args.schedule.now c.args.iv.now c.args.cipher.now = has_text _ _ _ _ _ split c.in-Some-padding_of.size c.in-Some-padding_of.ensures in
    λ e. (whole, text)
