-- What an attempt to open specifics answers.
use Rattle.std.proofs.Common.{◌≡◌, ◌≢◌, ℕ, List, None, Some, Result, Ok, Err, refl, sym, ap, subst, ◌∙◌, inl, inr, length}
use Rattle.std.specs.Result.{IsErrAnd}
use Rattle.message_fields.specs.Faults.{Answered, no_memory}
use Rattle.message_fields.specs.declared.fault.MessageFault.{MessageFault}
use Rattle.message_fields.specs.declared.fault.MessageReason.{MessageReason}
use Rattle.message_fields.specs.declared.fault.MessageReason.TheVariants as reasons
use Rattle.nigori.specs.declared.fault.UnsealFault.{UnsealFault}
use Rattle.sync_values.specs.declared.value.Value.{Value}
use Rattle.sync_values.specs.declared.value.Value.TheVariants as values
use Rattle.sync_specifics.specs.declared.sealed.Sealed.{Sealed}
use Rattle.sync_specifics.specs.declared.specifics.Specifics.{Specifics}
use Rattle.sync_specifics.specs.declared.specifics.Specifics.TheVariants.{EmptyOf, Preference, SealedPreference, Password, Nigori}
use Rattle.sync_specifics.specs.Keys.{SaysKeys}
use Rattle.sync_specifics.specs.Logins.{SaysLogin}
use Rattle.sync_specifics.specs.Specifics.{SaysSpecifics}
use Rattle.sync_specifics.specs.Laws.{SayOneThing}
use Rattle.key_bag.specs.declared.fault.AnyFault.{AnyFault}
use Rattle.key_bag.specs.declared.fault.AnyFault.TheVariants.{NoKey, Unseal, NoMemory}
use Rattle.key_bag.specs.Bags.{Bag}
use Rattle.key_bag.specs.Texts.{AnswersExactly, IsLacked, UnsealsTo, HasUnsealFault}
use Rattle.type_worker.specs.declared.blocked.BlockCause.TheVariants as causes
use Rattle.type_worker.specs.declared.open_fault.OpenFault.{OpenFault}
use Rattle.type_worker.specs.Opening.{sealed_in, preference_within, SaysPreferenceWithin, said_as, SaysAs, nigori_with, SaysWithin, OpensSealed, OpensTo}
use Rattle.type_worker.specs.Openings.{shut_by, shut_for, shut_within, IsShutAlone, IsOpened}

none_some : {A : Type 0} (value : A) → None ≡ Some value → ⊥
none_some value same = cc

one_some : {A : Type 0} (value other : A) → Some value ≡ Some other → value ≡ other
one_some value other same = cc

-- specifics that have a sealed text say what it says
pub opens_sealed : (bag : Bag) (specifics : Specifics) (sealed : Sealed) (value : Value) → sealed_in specifics ≡ Some sealed →
    OpensTo bag specifics value → OpensSealed bag specifics sealed value
opens_sealed bag (EmptyOf kind) sealed value is says = absurd (none_some sealed is)
opens_sealed bag (Preference preference) sealed value is says = absurd (none_some sealed is)
opens_sealed bag (SealedPreference text) sealed value is says =
    subst (λ other. OpensSealed bag (SealedPreference text) other value) (one_some text sealed is) says
opens_sealed bag (Password text) sealed value is says =
    subst (λ other. OpensSealed bag (Password text) other value) (one_some text sealed is) says
opens_sealed bag (Nigori content) sealed value is says =
    subst (λ other. OpensSealed bag (Nigori content) other value) (one_some content.bag sealed is) says

-- what the sealed text of specifics says, they say
pub sealed_opens : (bag : Bag) (specifics : Specifics) (sealed : Sealed) (value : Value) → sealed_in specifics ≡ Some sealed →
    OpensSealed bag specifics sealed value → OpensTo bag specifics value
sealed_opens bag (EmptyOf kind) sealed value is says = absurd (none_some sealed is)
sealed_opens bag (Preference preference) sealed value is says = absurd (none_some sealed is)
sealed_opens bag (SealedPreference text) sealed value is says =
    subst (λ other. OpensSealed bag (SealedPreference text) other value) (sym (one_some text sealed is)) says
sealed_opens bag (Password text) sealed value is says =
    subst (λ other. OpensSealed bag (Password text) other value) (sym (one_some text sealed is)) says
sealed_opens bag (Nigori content) sealed value is says =
    subst (λ other. OpensSealed bag (Nigori content) other value) (sym (one_some content.bag sealed is)) says

-- what bytes say as a value is one thing where they say one thing as its content
one_as : {A : Type 0} (Says : List ℕ → Result A MessageFault → Type 0) (value : A → Value) (text : List ℕ) (said other : Result Value MessageFault) →
    ((content thing : Result A MessageFault) → Says text content → Says text thing → content ≡ thing) →
    SaysAs Says value text said → SaysAs Says value text other → said ≡ other
one_as Says value text said other one says too =
    says.is_said ∙ ap (said_as value) (one says.content too.content says.is_content too.is_content) ∙ sym too.is_said

-- the unsealed text of specifics says one thing at most
pub one_within : SayOneThing SaysSpecifics → SayOneThing SaysLogin → SayOneThing SaysKeys → (specifics : Specifics) (text : List ℕ)
    (said other : Result Value MessageFault) → SaysWithin specifics text said → SaysWithin specifics text other → said ≡ other
one_within one_specifics one_login one_bag (EmptyOf kind) text said other says too = absurd says
one_within one_specifics one_login one_bag (Preference preference) text said other says too = absurd says
one_within one_specifics one_login one_bag (SealedPreference sealed) text said other says too =
    one_as SaysPreferenceWithin values.Preference text said other
    (λ content thing first second.
    first.is_said ∙ ap (preference_within (length text)) (one_specifics text first.specifics second.specifics first.are_specifics second.are_specifics)
    ∙ sym second.is_said)
    says too
one_within one_specifics one_login one_bag (Password sealed) text said other says too =
    one_as SaysLogin values.Password text said other (one_login text) says too
one_within one_specifics one_login one_bag (Nigori content) text said other says too =
    one_as SaysKeys (nigori_with content) text said other (one_bag text) says too

-- unsealing answers exactly, want of memory apart
pub record IsExact (bag : Bag) (sealed : Sealed) (result : Result (List ℕ) AnyFault) : Type 0 where
  pub no_key : (name : List ℕ) → AnswersExactly NoMemory result (Err (NoKey name)) (IsLacked bag sealed.key_name name)
  pub text : (plain : List ℕ) → AnswersExactly NoMemory result (Ok plain) (UnsealsTo bag sealed plain)
  pub fault : (fault : UnsealFault) → AnswersExactly NoMemory result (Err (Unseal fault)) (HasUnsealFault bag sealed fault)

-- where unsealing is refused, specifics say nothing
says_nothing : (bag : Bag) (specifics : Specifics) (sealed : Sealed) (result : Result (List ℕ) AnyFault) → sealed_in specifics ≡ Some sealed → IsExact bag sealed result →
    (fault : AnyFault) → result ≡ Err fault → fault ≢ NoMemory → (value : Value) → OpensTo bag specifics value → ⊥
says_nothing bag specifics sealed result is_in exact fault is some value says =
    refused (opens_sealed bag specifics sealed value is_in says)
  where
    one_fault : result ≡ Err NoMemory → fault ≡ NoMemory
    one_fault memory = cc

    never : (text : List ℕ) → result ≡ Ok text → ⊥
    never text told = cc

    refused : OpensSealed bag specifics sealed value → ⊥
    refused opens = never opens.text ((exact.text opens.text (λ memory. some (one_fault memory))).1 opens.is_text)

-- why a text is not unsealed is why its specifics do not open
pub not_unsealed : (bag : Bag) (specifics : Specifics) (sealed : Sealed) (result : Result (List ℕ) AnyFault) → sealed_in specifics ≡ Some sealed → IsExact bag sealed result →
    (fault : AnyFault) → result ≡ Err fault → IsOpened bag specifics (Err (shut_by fault))
not_unsealed bag specifics sealed result is_in exact (NoKey name) is = record {
  sealed = sealed;
  is_shut = (is_in, (exact.no_key name (λ memory. another memory)).0 is);
  says_nothing = says_nothing bag specifics sealed result is_in exact (NoKey name) is (λ same. cc);
}
  where
    another : result ≡ Err NoMemory → ⊥
    another memory = cc
not_unsealed bag specifics sealed result is_in exact (Unseal fault) is = record {
  sealed = sealed;
  is_shut = (is_in, (exact.fault fault (λ memory. another memory)).0 is);
  says_nothing = says_nothing bag specifics sealed result is_in exact (Unseal fault) is (λ same. cc);
}
  where
    another : result ≡ Err NoMemory → ⊥
    another memory = cc
not_unsealed bag specifics sealed result is_in exact NoMemory is = tt

-- an answer of want of memory apart is what was said
said_fault : {A : Type 0} (Says : Result A MessageFault → Type 0) (fault : MessageFault) → (fault ≡ no_memory → ⊥) → Answered Says (Err fault) → Says (Err fault)
said_fault Says fault some (inl memory) = absurd (some memory)
said_fault Says fault some (inr says) = says

module _ (bag : Bag) (specifics : Specifics) (sealed : Sealed) (text : List ℕ) (is_in : sealed_in specifics ≡ Some sealed)
    (is_text : UnsealsTo bag sealed text) (is_only : (other : List ℕ) → UnsealsTo bag sealed other → other ≡ text)
    (one : (said other : Result Value MessageFault) → SaysWithin specifics text said → SaysWithin specifics text other → said ≡ other) where
  shut_content : (fault : MessageFault) → SaysWithin specifics text (Err fault) → IsShutAlone bag specifics (causes.Content fault)
  shut_content fault says = record {
    sealed = sealed;
    is_shut = (is_in, record { text = text; is_text = is_text; is_fault = says });
    says_nothing = λ value opens. refused value (opens_sealed bag specifics sealed value is_in opens);
  }
    where
      two_answers : (said : Result Value MessageFault) (value : Value) → said ≡ Ok value → said ≡ Err fault → ⊥
      two_answers said value told refused = cc

      refused : (value : Value) → OpensSealed bag specifics sealed value → ⊥
      refused value opens =
          two_answers (Ok value) value refl (one (Ok value) (Err fault) (subst (λ plain. SaysWithin specifics plain (Ok value)) (is_only opens.text opens.is_text) opens.is_value) says)

  shut_for_reason : (fault : MessageFault) (reason : MessageReason) → fault.reason ≡ reason → Answered (SaysWithin specifics text) (Err fault) → IsOpened bag specifics (Err (shut_for fault reason))
  shut_for_reason fault (reasons.Wire wire) is answered =
      shut_content fault (said_fault (SaysWithin specifics text) fault (λ memory. no_wire memory) answered)
    where
      no_wire : fault ≡ no_memory → ⊥
      no_wire memory = cc
  shut_for_reason fault (reasons.Missing field) is answered =
      shut_content fault (said_fault (SaysWithin specifics text) fault (λ memory. no_missing memory) answered)
    where
      no_missing : fault ≡ no_memory → ⊥
      no_missing memory = cc
  shut_for_reason fault (reasons.WrongKind field) is answered =
      shut_content fault (said_fault (SaysWithin specifics text) fault (λ memory. no_wrong memory) answered)
    where
      no_wrong : fault ≡ no_memory → ⊥
      no_wrong memory = cc
  shut_for_reason fault (reasons.Range field) is answered =
      shut_content fault (said_fault (SaysWithin specifics text) fault (λ memory. no_range memory) answered)
    where
      no_range : fault ≡ no_memory → ⊥
      no_range memory = cc
  shut_for_reason fault (reasons.BadToken len) is answered =
      shut_content fault (said_fault (SaysWithin specifics text) fault (λ memory. no_token memory) answered)
    where
      no_token : fault ≡ no_memory → ⊥
      no_token memory = cc
  shut_for_reason fault reasons.NoMemory is answered = tt

  -- what an unsealed text says is what its specifics say, and what is at fault in it is why they say nothing
  pub unsealed_fault : (fault : MessageFault) → Answered (SaysWithin specifics text) (Err fault) → IsOpened bag specifics (Err (shut_within fault))
  unsealed_fault fault answered = shut_for_reason fault fault.reason refl answered

  pub unsealed_value : (value : Value) → SaysWithin specifics text (Ok value) → OpensTo bag specifics value
  unsealed_value value says = sealed_opens bag specifics sealed value is_in (record { text = text; is_text = is_text; is_value = says })

-- what is so of an error is so of an answer with it
opened_err : (bag : Bag) (specifics : Specifics) (fault : OpenFault) → IsOpened bag specifics (Err fault) → (answer : Result Value OpenFault) →
    IsErrAnd answer (λ told. told ≡ fault) → IsOpened bag specifics answer
opened_err bag specifics fault is (Ok value) told = absurd told
opened_err bag specifics fault is (Err other) told = subst (λ (answer : Result Value OpenFault). IsOpened bag specifics answer) (ap Err (sym told)) is

module _ (bag : Bag) (specifics : Specifics) (sealed : Sealed) (result : Result (List ℕ) AnyFault) (is_in : sealed_in specifics ≡ Some sealed) (exact : IsExact bag sealed result) where
  -- a text is not unsealed
  pub refused_told : (fault : AnyFault) → result ≡ Err fault → (answer : Result Value OpenFault) → IsErrAnd answer (λ told. told ≡ shut_by fault) → IsOpened bag specifics answer
  refused_told fault is answer told = opened_err bag specifics (shut_by fault) (not_unsealed bag specifics sealed result is_in exact fault is) answer told

  module _ (one_specifics : SayOneThing SaysSpecifics) (one_login : SayOneThing SaysLogin) (one_bag : SayOneThing SaysKeys) (text plain : List ℕ) (is : result ≡ Ok text)
      (same : plain ≡ text) where
    some : result ≡ Err NoMemory → ⊥
    some memory = cc

    one_text : (other : List ℕ) → result ≡ Ok other → other ≡ text
    one_text other told = cc

    is_text : UnsealsTo bag sealed text
    is_text = (exact.text text some).0 is

    is_only : (other : List ℕ) → UnsealsTo bag sealed other → other ≡ text
    is_only other unseals = one_text other ((exact.text other some).1 unseals)

    -- an unsealed text has a fault
    pub fault_told : (fault : MessageFault) → Answered (SaysWithin specifics plain) (Err fault) → (answer : Result Value OpenFault) →
        IsErrAnd answer (λ told. told ≡ shut_within fault) → IsOpened bag specifics answer
    fault_told fault answered answer told =
        opened_err bag specifics (shut_within fault)
        (unsealed_fault bag specifics sealed text is_in is_text is_only (one_within one_specifics one_login one_bag specifics text) fault
        (subst (λ (list : List ℕ). Answered (SaysWithin specifics list) (Err fault)) same answered)) answer told

    -- an unsealed text says a value
    pub value_told : (value : Value) → SaysWithin specifics plain (Ok value) → OpensTo bag specifics value
    value_told value says =
        unsealed_value bag specifics sealed text is_in is_text is_only (one_within one_specifics one_login one_bag specifics text) value
        (subst (λ (list : List ℕ). SaysWithin specifics list (Ok value)) same says)
