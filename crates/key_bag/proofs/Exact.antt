-- Exact answers of calls that look a key up.
use Rattle.std.proofs.Common.{◌≡◌, ◌≢◌, ℕ, List, None, Some, Result, Ok, Err, refl, sym, ap, subst, ◌∙◌}
use Rattle.key_derivation.specs.declared.NigoriKey.{NigoriKey}
use Rattle.nigori.specs.Unsealing.{Decodes, IsNoBase64, HasBadLength, HasBadTag, HasBadPadding, HoldsText, AnswersExactly as UnsealsExactly}
use Rattle.nigori.specs.declared.fault.UnsealFault.{UnsealFault}
use Rattle.nigori.specs.declared.fault.UnsealFault.TheVariants.{NotBase64, BadLength, BadTag, BadPadding, NoMemory as UnsealNoMemory}
use Rattle.key_bag.specs.declared.fault.AnyFault.{AnyFault}
use Rattle.key_bag.specs.declared.fault.AnyFault.TheVariants.{NoKey, Unseal, NoMemory}
use Rattle.key_bag.specs.Bags.{Bag, key_named}
use Rattle.key_bag.specs.Texts.{OfKey, IsLacked, IsUnsealFault, AnswersExactly, any_answer, IsUnsealed}
use Rattle.key_bag.proofs.Names.{found_stands, lacked}

-- the answer of unsealing that was told so
back : Result (List ℕ) AnyFault → Result (List ℕ) UnsealFault
back (Ok plain) = Ok plain
back (Err (NoKey name)) = Err UnsealNoMemory
back (Err (Unseal fault)) = Err fault
back (Err NoMemory) = Err UnsealNoMemory

back_again : (answer : Result (List ℕ) UnsealFault) → back (any_answer answer) ≡ answer
unfolding back
back_again (Ok plain) = refl
back_again (Err NotBase64) = refl
back_again (Err (BadLength len)) = refl
back_again (Err (BadTag found computed)) = refl
back_again (Err BadPadding) = refl
back_again (Err UnsealNoMemory) = refl

-- what is told in another way than it would be told again is never told
never_told : (told : Result (List ℕ) AnyFault) → any_answer (back told) ≢ told → (answer : Result (List ℕ) UnsealFault) → any_answer answer ≢ told
never_told told differs answer same =
    differs (ap (λ other. any_answer (back other)) (sym same) ∙ ap any_answer (back_again answer) ∙ same)

lack_differs : (name : List ℕ) → any_answer (back (Err (NoKey name))) ≢ Err (NoKey name)
unfolding back
lack_differs name same = cc

memory_differs : any_answer (back (Err (Unseal UnsealNoMemory))) ≢ Err (Unseal UnsealNoMemory)
unfolding back
memory_differs same = cc

told_exactly : (result answer : Result (List ℕ) UnsealFault) (Holds : Type 0) → UnsealsExactly result answer Holds →
    AnswersExactly NoMemory (any_answer result) (any_answer answer) Holds
told_exactly result answer Holds exactly some =
    let memory : result ≢ Err UnsealNoMemory = λ same. some (ap any_answer same) in (
      λ same. (exactly memory).0 (sym (back_again result) ∙ ap back same ∙ back_again answer),
      λ holds. ap any_answer ((exactly memory).1 holds),
    )

-- the answers of unsealing are exact as they are told
pub told_answers : (key : NigoriKey) (blob : List ℕ) (result : Result (List ℕ) UnsealFault) (told : Result (List ℕ) AnyFault) → told ≡ any_answer result →
    ((plain : List ℕ) → UnsealsExactly result (Ok plain) (Decodes blob (HoldsText key plain))) →
    UnsealsExactly result (Err NotBase64) (IsNoBase64 blob) →
    ((len : ℕ) → UnsealsExactly result (Err (BadLength len)) (Decodes blob (HasBadLength len))) →
    ((found computed : List ℕ) → UnsealsExactly result (Err (BadTag found computed)) (Decodes blob (HasBadTag key found computed))) →
    UnsealsExactly result (Err BadPadding) (Decodes blob (HasBadPadding key)) → IsUnsealed key blob told
told_answers key blob result told is text not_base64 bad_length bad_tag bad_padding =
    subst (IsUnsealed key blob) (sym is) (record {
      text = λ plain. told_exactly result (Ok plain) (Decodes blob (HoldsText key plain)) (text plain);
      fault = of_fault;
      never_lacks = λ name. never_told (Err (NoKey name)) (lack_differs name) result;
    })
  where
    of_fault : (fault : UnsealFault) → AnswersExactly NoMemory (any_answer result) (Err (Unseal fault)) (IsUnsealFault key blob fault)
    of_fault NotBase64 = told_exactly result (Err NotBase64) (IsNoBase64 blob) not_base64
    of_fault (BadLength len) = told_exactly result (Err (BadLength len)) (Decodes blob (HasBadLength len)) (bad_length len)
    of_fault (BadTag found computed) =
        told_exactly result (Err (BadTag found computed)) (Decodes blob (HasBadTag key found computed)) (bad_tag found computed)
    of_fault BadPadding = told_exactly result (Err BadPadding) (Decodes blob (HasBadPadding key)) bad_padding
    of_fault UnsealNoMemory = λ some. (never_told (Err (Unseal UnsealNoMemory)) memory_differs result, λ never. absurd never)

-- want of memory is told as such
pub memory_as_such : (key : NigoriKey) (blob : List ℕ) (result : Result (List ℕ) AnyFault) → IsUnsealed key blob result → result ≢ Err (Unseal UnsealNoMemory)
memory_as_such key blob result is same = (is.fault UnsealNoMemory two_faults).0 same
  where
    two_faults : result ≡ Err NoMemory → ⊥
    two_faults memory = cc

module _ {A : Type 0} (bag : Bag) (name : List ℕ) where
  -- what is exact of a key is exact of the bag's key of a name
  pub exactly_of_key : (key : NigoriKey) → key_named bag.keys name ≡ Some key → (result answer : Result A AnyFault) (Holds : NigoriKey → Type 0) →
      AnswersExactly NoMemory result answer (Holds key) → AnswersExactly NoMemory result answer (OfKey bag name Holds)
  exactly_of_key key found result answer Holds exactly some = (
    λ same. (key, found, (exactly some).0 same),
    λ of. (exactly some).1 (subst Holds (one_key of.0 (sym of.1 ∙ found)) of.2),
  )
    where
      one_key : (other : NigoriKey) → Some other ≡ Some key → other ≡ key
      one_key other same = cc

  -- with a key of the name, it is not told that there is none
  pub no_lack : (key : NigoriKey) → key_named bag.keys name ≡ Some key → (result : Result A AnyFault) →
      ((other : List ℕ) → result ≢ Err (NoKey other)) →
      (other : List ℕ) → AnswersExactly NoMemory result (Err (NoKey other)) (IsLacked bag name other)
  no_lack key found result never other some = (
    λ same. absurd (never other same),
    λ lacks. absurd (lacks.1 (found_stands bag.keys name key found)),
  )

  -- with no key of the name, it is told so
  pub lack_told : key_named bag.keys name ≡ None → (fault : AnyFault) → (fault ≢ NoMemory → fault ≡ NoKey name) →
      (result : Result A AnyFault) → result ≡ Err fault →
      (other : List ℕ) → AnswersExactly NoMemory result (Err (NoKey other)) (IsLacked bag name other)
  lack_told none fault told result is other some =
      let is_told : fault ≡ NoKey name = told (λ same. some (is ∙ ap Err same)) in (
        λ same. (one_name same (is ∙ ap Err is_told), lacked bag.keys name none),
        λ lacks. is ∙ ap Err (is_told ∙ ap NoKey (sym lacks.0)),
      )
    where
      one_name : result ≡ Err (NoKey other) → result ≡ Err (NoKey name) → other ≡ name
      one_name same told = cc
