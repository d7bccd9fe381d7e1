-- Bytes are read in one way: token by token.
use Rattle.std.proofs.Common.{◌≡◌, ℕ, zero, suc, ◌+◌, ◌*◌, ◌<◌, List, [], ◌∷◌, ◌++◌, length, drop, get_or, refl, sym, ap, subst, ◌∙◌, arith}
use Rattle.std.proofs.lemmas.List.{append_assoc}
use Rattle.wire_format.specs.Varints.{GoOn, groups_value, IsVarint}
use Rattle.wire_format.specs.Fields.{IsHeader, IsDelimited}

-- equal lists have equal fronts
pub cons_head : (x y : ℕ) (xs ys : List ℕ) → x ∷ xs ≡ y ∷ ys → x ≡ y
cons_head x y xs ys same = ap (λ l. get_or l 0 0) same

-- equal lists have equal backs
pub cons_tail : (x y : ℕ) (xs ys : List ℕ) → x ∷ xs ≡ y ∷ ys → xs ≡ ys
cons_tail x y xs ys same = ap (drop 1) same

-- the first byte whose top bit is not set stands at one place
front_same : (f g : List ℕ) (l m : ℕ) (x y : List ℕ) → GoOn f → GoOn g → l < 128 → m < 128 →
    (f ++ l ∷ []) ++ x ≡ (g ++ m ∷ []) ++ y → (f ++ l ∷ [] ≡ g ++ m ∷ []) × (x ≡ y)
front_same [] [] l m x y gf gg sl sm same = (ap (λ byte. byte ∷ []) (cons_head l m x y same), cons_tail l m x y same)
front_same [] (k ∷ g) l m x y gf gg sl sm same = absurd (omega (arith, cons_head l k x ((g ++ m ∷ []) ++ y) same, gg.0, sl))
front_same (h ∷ f) [] l m x y gf gg sl sm same = absurd (omega (arith, cons_head h m ((f ++ l ∷ []) ++ x) y same, gf.0, sm))
front_same (h ∷ f) (k ∷ g) l m x y gf gg sl sm same =
    let rest = front_same f g l m x y gf.1 gg.1 sl sm
    (cons_tail h k ((f ++ l ∷ []) ++ x) ((g ++ m ∷ []) ++ y) same) in (
      ap (λ byte. byte ∷ (f ++ l ∷ [])) (cons_head h k ((f ++ l ∷ []) ++ x) ((g ++ m ∷ []) ++ y) same)
          ∙ ap (λ back. k ∷ back) rest.0,
      rest.1,
    )

-- two varints at the front of the same bytes are one
pub varint_same : (a b x y : List ℕ) (v w : ℕ) → IsVarint a v → IsVarint b w → a ++ x ≡ b ++ y →
    (a ≡ b) × (x ≡ y) × (v ≡ w)
varint_same a b x y v w va vb same =
    let found = front_same va.front vb.front va.last vb.last x y va.goes_on vb.goes_on va.ends vb.ends
    (ap (λ front. front ++ x) (sym va.is_whole) ∙ same ∙ ap (λ front. front ++ y) vb.is_whole) in
    let one : a ≡ b = va.is_whole ∙ found.0 ∙ sym vb.is_whole in
    (one, found.1, va.is_value ∙ ap groups_value one ∙ sym vb.is_value)

-- parts of one length at the front of the same bytes are one
pub length_same : (a b x y : List ℕ) → length a ≡ length b → a ++ x ≡ b ++ y → (a ≡ b) × (x ≡ y)
length_same [] [] x y long same = (refl, same)
length_same [] (k ∷ b) x y long same = absurd (omega (arith, long))
length_same (h ∷ a) [] x y long same = absurd (omega (arith, long))
length_same (h ∷ a) (k ∷ b) x y long same =
    let rest = length_same a b x y (omega (arith, long)) (cons_tail h k (a ++ x) (b ++ y) same) in
    (ap (λ byte. byte ∷ a) (cons_head h k (a ++ x) (b ++ y) same) ∙ ap (λ back. k ∷ back) rest.0, rest.1)

-- some varint
pub record IsSomeVarint (bytes : List ℕ) : Type 0 where
  pub value : ℕ
  pub is_varint : IsVarint bytes value

-- some length, and so many bytes
pub record IsSomeDelimited (bytes : List ℕ) : Type 0 where
  pub content : List ℕ
  pub is_delimited : IsDelimited bytes content

-- what follows a header of a kind, up to the next header
abbrev pub IsTail : ℕ → List ℕ → Type 0
IsTail zero body = IsSomeVarint body
IsTail (suc zero) body = length body ≡ 8
IsTail (suc (suc zero)) body = IsSomeDelimited body
IsTail (suc (suc (suc zero))) body = body ≡ []
IsTail (suc (suc (suc (suc zero)))) body = body ≡ []
IsTail (suc (suc (suc (suc (suc zero))))) body = length body ≡ 4
IsTail (suc (suc (suc (suc (suc (suc kind)))))) body = ⊥

delimited_same : (b c x y : List ℕ) → IsSomeDelimited b → IsSomeDelimited c → b ++ x ≡ c ++ y → (b ≡ c) × (x ≡ y)
delimited_same b c x y db dc same =
    let tb = db.is_delimited in
    let tc = dc.is_delimited in
    let joined : tb.count ++ (db.content ++ x) ≡ tc.count ++ (dc.content ++ y)
    = sym (append_assoc tb.count db.content x) ∙ ap (λ front. front ++ x) (sym tb.is_whole) ∙ same
    ∙ ap (λ front. front ++ y) tc.is_whole ∙ append_assoc tc.count dc.content y in
    let counts = varint_same tb.count tc.count (db.content ++ x) (dc.content ++ y) (length db.content) (length dc.content)
    tb.is_count tc.is_count joined in
    let contents = length_same db.content dc.content x y counts.2 counts.1 in (
      tb.is_whole ∙ ap (λ count. count ++ db.content) counts.0 ∙ ap (λ content. tc.count ++ content) contents.0 ∙ sym tc.is_whole,
      contents.1,
    )

-- what follows a header of one kind ends at one place
tail_same : (kind : ℕ) (b c x y : List ℕ) → IsTail kind b → IsTail kind c → b ++ x ≡ c ++ y → (b ≡ c) × (x ≡ y)
tail_same zero b c x y tb tc same =
    let found = varint_same b c x y tb.value tc.value tb.is_varint tc.is_varint same in (found.0, found.1)
tail_same (suc zero) b c x y tb tc same = length_same b c x y (tb ∙ sym tc) same
tail_same (suc (suc zero)) b c x y tb tc same = delimited_same b c x y tb tc same
tail_same (suc (suc (suc zero))) b c x y tb tc same = length_same b c x y (ap length (tb ∙ sym tc)) same
tail_same (suc (suc (suc (suc zero)))) b c x y tb tc same = length_same b c x y (ap length (tb ∙ sym tc)) same
tail_same (suc (suc (suc (suc (suc zero))))) b c x y tb tc same = length_same b c x y (tb ∙ sym tc) same
tail_same (suc (suc (suc (suc (suc (suc kind)))))) b c x y tb tc same = absurd tb

-- a token: a header, and what follows it up to the next header
pub record IsPiece (bytes : List ℕ) (number kind : ℕ) : Type 0 where
  pub header : List ℕ
  pub body : List ℕ
  pub is_whole : bytes ≡ header ++ body
  pub is_header : IsHeader header number kind
  pub is_kind : kind < 8
  pub is_tail : IsTail kind body

-- two tokens at the front of the same bytes are one
pub piece_same : (a b x y : List ℕ) (m n j k : ℕ) → IsPiece a m j → IsPiece b n k → a ++ x ≡ b ++ y →
    (a ≡ b) × (x ≡ y) × (m ≡ n) × (j ≡ k)
piece_same a b x y m n j k pa pb same =
    let joined : pa.header ++ (pa.body ++ x) ≡ pb.header ++ (pb.body ++ y)
    = sym (append_assoc pa.header pa.body x) ∙ ap (λ front. front ++ x) (sym pa.is_whole) ∙ same
    ∙ ap (λ front. front ++ y) pb.is_whole ∙ append_assoc pb.header pb.body y in
    let headers = varint_same pa.header pb.header (pa.body ++ x) (pb.body ++ y) (m * 8 + j) (n * 8 + k)
    pa.is_header.is_varint pb.is_header.is_varint joined in
    let kinds : j ≡ k = omega (arith, headers.2, pa.is_kind, pb.is_kind) in
    let numbers : m ≡ n = omega (arith, headers.2, pa.is_kind, pb.is_kind) in
    let tails = tail_same k pa.body pb.body x y (subst (λ kind. IsTail kind pa.body) kinds pa.is_tail) pb.is_tail headers.1 in (
      pa.is_whole ∙ ap (λ header. header ++ pa.body) headers.0 ∙ ap (λ body. pb.header ++ body) tails.0 ∙ sym pb.is_whole,
      tails.1,
      numbers,
      kinds,
    )
