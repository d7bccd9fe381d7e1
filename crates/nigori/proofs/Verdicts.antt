-- A blob has one verdict, and so the answer is exact.
use Rattle.std.proofs.Common.{◌≡◌, ◌≢◌, ℕ, List, Result, Ok, Err, refl, sym, ap, subst, ◌∙◌, inl, inr, arith}
use Rattle.base64.specs.Engines.{standard}
use Rattle.base64.specs.GeneralPurpose.{decode_of}
use Rattle.aes_cbc.specs.Expansion.{key_expansion}
use Rattle.aes_cbc.specs.Chaining.{cbc_decrypted}
use Rattle.aes_cbc.proofs.PaddingLemmas.{one_text}
use Rattle.key_derivation.specs.declared.NigoriKey.{NigoriKey}
use Rattle.nigori.specs.declared.fault.UnsealFault.{UnsealFault}
use Rattle.nigori.specs.declared.fault.UnsealFault.TheVariants.{NotBase64, BadLength, BadTag, BadPadding, NoMemory}
use Rattle.nigori.specs.Sealing.{iv_in, cipher_in, tag_in, tag_of}
use Rattle.nigori.specs.Unsealing.{Decodes, HasGoodLength, HasBadLength, HasBadTag, HasRightTag, HoldsText, AnswersExactly}
use Rattle.nigori.specs.Verdicts.{IsCipherVerdict, IsBytesVerdict}
use Rattle.nigori.proofs.Parts.{AreParts}

pub one_decoded : (blob a b : List ℕ) → decode_of standard blob ≡ Ok a → decode_of standard blob ≡ Ok b → a ≡ b
one_decoded blob a b x y = cc

good_or_bad : (bytes : List ℕ) (len : ℕ) → HasGoodLength bytes → HasBadLength len bytes → ⊥
good_or_bad bytes len good (same, inl short) = omega (arith, good.0, short)
good_or_bad bytes len good (same, inr part) = part good.1

right_or_bad : (key : NigoriKey) (bytes found computed : List ℕ) → HasRightTag key bytes → HasBadTag key found computed bytes → ⊥
right_or_bad key bytes found computed right bad = bad.3 (bad.1 ∙ right.1 ∙ sym bad.2)

-- a text of the bytes is the only one
pub one_text_of_bytes : (key : NigoriKey) (bytes text other : List ℕ) → HoldsText key text bytes → HoldsText key other bytes → text ≡ other
one_text_of_bytes key bytes text other h k =
    one_text (cbc_decrypted (key_expansion key.enc) (iv_in bytes) (cipher_in bytes)) other text k.1 h.1

module _ (key : NigoriKey) (bytes : List ℕ) where
  -- the verdict on bytes is the only one, but for want of memory
  one_verdict : (r s : Result (List ℕ) UnsealFault) → IsBytesVerdict key bytes r → IsBytesVerdict key bytes s → r ≢ Err NoMemory → s ≢ Err NoMemory → r ≡ s
  one_verdict (Ok t) (Ok u) h k m n = ap Ok (one_text_of_bytes key bytes t u h k)
  one_verdict (Ok t) (Err NotBase64) h k m n = absurd k
  one_verdict (Ok t) (Err (BadLength len)) h k m n = absurd (good_or_bad bytes len h.0.0 k)
  one_verdict (Ok t) (Err (BadTag f c)) h k m n = absurd (right_or_bad key bytes f c h.0 k)
  one_verdict (Ok t) (Err BadPadding) h k m n = absurd (k.1 t h.1)
  one_verdict (Ok t) (Err NoMemory) h k m n = absurd (n refl)
  one_verdict (Err NotBase64) s h k m n = absurd h
  one_verdict (Err (BadLength len)) (Ok t) h k m n = absurd (good_or_bad bytes len k.0.0 h)
  one_verdict (Err (BadLength len)) (Err NotBase64) h k m n = absurd k
  one_verdict (Err (BadLength len)) (Err (BadLength other)) h k m n = ap (λ size. Err (BadLength size)) (h.0 ∙ sym k.0)
  one_verdict (Err (BadLength len)) (Err (BadTag f c)) h k m n = absurd (good_or_bad bytes len k.0 h)
  one_verdict (Err (BadLength len)) (Err BadPadding) h k m n = absurd (good_or_bad bytes len k.0.0 h)
  one_verdict (Err (BadLength len)) (Err NoMemory) h k m n = absurd (n refl)
  one_verdict (Err (BadTag f c)) (Ok t) h k m n = absurd (right_or_bad key bytes f c k.0 h)
  one_verdict (Err (BadTag f c)) (Err NotBase64) h k m n = absurd k
  one_verdict (Err (BadTag f c)) (Err (BadLength len)) h k m n = absurd (good_or_bad bytes len h.0 k)
  one_verdict (Err (BadTag f c)) (Err (BadTag g d)) h k m n =
      ap (λ found. Err (BadTag found c)) (h.1 ∙ sym k.1) ∙ ap (λ computed. Err (BadTag g computed)) (h.2 ∙ sym k.2)
  one_verdict (Err (BadTag f c)) (Err BadPadding) h k m n = absurd (right_or_bad key bytes f c k.0 h)
  one_verdict (Err (BadTag f c)) (Err NoMemory) h k m n = absurd (n refl)
  one_verdict (Err BadPadding) (Ok t) h k m n = absurd (h.1 t k.1)
  one_verdict (Err BadPadding) (Err NotBase64) h k m n = absurd k
  one_verdict (Err BadPadding) (Err (BadLength len)) h k m n = absurd (good_or_bad bytes len h.0.0 k)
  one_verdict (Err BadPadding) (Err (BadTag f c)) h k m n = absurd (right_or_bad key bytes f c h.0 k)
  one_verdict (Err BadPadding) (Err BadPadding) h k m n = refl
  one_verdict (Err BadPadding) (Err NoMemory) h k m n = absurd (n refl)
  one_verdict (Err NoMemory) s h k m n = absurd (m refl)

-- the verdict on a blob's bytes is the exact answer on the blob
pub exact_verdict : (key : NigoriKey) (blob bytes : List ℕ) → decode_of standard blob ≡ Ok bytes
    → (r s : Result (List ℕ) UnsealFault) → IsBytesVerdict key bytes r → s ≢ Err NoMemory
    → AnswersExactly r s (Decodes blob (λ bs. IsBytesVerdict key bs s))
exact_verdict key blob bytes decoded r s verdict some memory = (
  λ same. (bytes, decoded, subst (IsBytesVerdict key bytes) same verdict),
  λ holds.
      let other : IsBytesVerdict key bytes s =
      subst (λ bs. IsBytesVerdict key bs s) (one_decoded blob holds.0 bytes holds.1 decoded) holds.2 in
      one_verdict key bytes r s verdict other memory some,
)

-- the verdict on the cipher text of bytes whose tag is right is that on the bytes
pub verdict_of_cipher : (key : NigoriKey) (bytes iv cipher tag : List ℕ) → AreParts bytes iv cipher tag → tag ≡ tag_of key cipher
    → (r : Result (List ℕ) UnsealFault) → IsCipherVerdict key iv cipher r → IsBytesVerdict key bytes r
verdict_of_cipher key bytes iv cipher tag parts right r verdict =
    let tags : tag_in bytes ≡ tag_of key (cipher_in bytes) = sym parts.is_tag ∙ right ∙ ap (tag_of key) parts.is_cipher in
    let moved : IsCipherVerdict key (iv_in bytes) (cipher_in bytes) r =
    subst (λ v. IsCipherVerdict key v (cipher_in bytes) r) parts.is_iv (subst (λ c. IsCipherVerdict key iv c r) parts.is_cipher verdict) in
    over_parts r (parts.is_good, tags) moved
  where
    over_parts : (r : Result (List ℕ) UnsealFault) → HasRightTag key bytes → IsCipherVerdict key (iv_in bytes) (cipher_in bytes) r → IsBytesVerdict key bytes r
    over_parts (Ok text) right h = (right, h)
    over_parts (Err NotBase64) right h = absurd h
    over_parts (Err (BadLength len)) right h = absurd h
    over_parts (Err (BadTag found computed)) right h = absurd h
    over_parts (Err BadPadding) right h = (right, h)
    over_parts (Err NoMemory) right h = (h.0, (right, h.1))

-- a tag that is another one than that of the cipher text is a bad one
pub bad_tag_of_parts : (key : NigoriKey) (bytes iv cipher tag computed : List ℕ) → AreParts bytes iv cipher tag → computed ≡ tag_of key cipher
    → tag ≢ computed → HasBadTag key tag computed bytes
bad_tag_of_parts key bytes iv cipher tag computed parts is_computed differ =
    (parts.is_good, parts.is_tag, is_computed ∙ ap (tag_of key) parts.is_cipher, differ)
