use Rattle.std.proofs.Common.{◌≡◌, ℕ, List, Ok, Err, Result, ap, ◌∙◌}
use Rattle.key_bag.specs.declared.fault.AnyFault.{AnyFault}
use Rattle.key_bag.specs.declared.fault.AnyFault.TheVariants.{NoKey, NoMemory}
use Rattle.sync_specifics.specs.declared.sealed.Sealed.{Sealed}
use Rattle.type_worker.proofs.LockLemmas.{not_lacked}
use Rattle.type_worker.proofs.SealedTexts.{sealed_by_name}
use Rattle.type_worker.proofs.sealing.text_under.Goals as goal

ok_is_some : (result : Result Sealed AnyFault) (text : Sealed) → result ≡ Ok text → result ≡ Err NoMemory → ⊥
ok_is_some result text is memory = cc

no_key_is_some : (result : Result Sealed AnyFault) (fault : AnyFault) (name : List ℕ) → result ≡ Err fault → fault ≡ NoKey name → result ≡ Err NoMemory → ⊥
no_key_is_some result fault name is told memory = cc

pub returns-in-Ok : goal.returns-in-Ok
returns-in-Ok c =
    sealed_by_name c.args.bag.now c.args.lock.now c.as_slice.result.now c.args.vector.now c.in-Ok.text c.args.value.now
    ((c.seal_named.ensures.sealed c.in-Ok.text (ok_is_some c.seal_named.result c.in-Ok.text c.in-Ok.is)).0 c.in-Ok.is)
    (c.as_slice.ensures ∙ c.in_ok-plain.ensures)

pub unreachable-requires : goal.unreachable-requires
unreachable-requires c =
    ((c.seal_named.ensures.no_key c.in-Err-NoKey.field-0-0
    (no_key_is_some c.seal_named.result c.in-Err-NoKey.field-0 c.in-Err-NoKey.field-0-0 c.in-Err-NoKey.is c.in-Err-NoKey.field-0-is)).0
    (c.in-Err-NoKey.is ∙ ap Err c.in-Err-NoKey.field-0-is)).1
    (not_lacked c.args.bag.now c.args.lock.now c.requires)
