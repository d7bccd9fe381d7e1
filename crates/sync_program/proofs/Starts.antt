-- What a run without words does.
use Rattle.std.proofs.Common.{◌≡◌, ◌≢◌, subst}
use Rattle.std.specs.declared.io.ErrorKind.{ErrorKind}
use Rattle.std.specs.declared.io.ErrorKind.TheVariants.{OutOfMemory}
use Rattle.sync_program.specs.declared.refusal.Refusal.{Refusal}
use Rattle.sync_program.specs.declared.refusal.Refusal.TheVariants.{UnknownWords, NoMemory}
use Rattle.sync_program.specs.declared.status.Status.{Status}
use Rattle.sync_program.specs.Outside.{Reading, Writing}
use Rattle.sync_program.specs.Refusals.{IsAnswered}
use Rattle.sync_program.specs.Starting.{HasNoWords}

-- the refusal that an error of this kind asks for was answered, and the source left alone
pub refused_words : {S O : Type 0} (kind : ErrorKind) (refusal : Refusal) (status : Status) (r : Reading S) (w : Writing O)
    → (kind ≡ OutOfMemory → refusal ≡ NoMemory) → (kind ≢ OutOfMemory → refusal ≡ UnknownWords) → IsAnswered refusal status w → r.now ≡ r.before
    → HasNoWords kind status r w
refused_words kind refusal status r w lacking unknown answered untouched = record {
  no_memory = λ is.
      let told = subst (λ (refusal : Refusal). IsAnswered refusal status w) (lacking is) answered in
      record { is_no_memory = told.0; is_untouched = untouched; printed = told.1 };
  no_text = λ other.
      let told = subst (λ (refusal : Refusal). IsAnswered refusal status w) (unknown other) answered in
      record { is_usage = told.0; is_untouched = untouched; printed = told.1 };
}
