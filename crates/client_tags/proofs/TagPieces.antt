-- The pieces of a login's tag, one behind the other, are the tag.
use Rattle.std.proofs.Common.{◌≡◌, ℕ, List, ◌∷◌, ◌++◌, ap, ◌∙◌, append_assoc}
use Rattle.client_tags.specs.Tags.{escaped, password_tag}

pub pieces_join : (front origin user_element user_value pass_element realm : List ℕ)
    → front ++ escaped origin ++ (124 ∷ escaped user_element) ++ (124 ∷ escaped user_value) ++ (124 ∷ escaped pass_element) ++ (124 ∷ escaped realm)
    ≡ front ++ password_tag origin user_element user_value pass_element realm
pieces_join front origin user_element user_value pass_element realm =
    let two : List ℕ = 124 ∷ escaped user_element in
    let three : List ℕ = 124 ∷ escaped user_value in
    let four : List ℕ = 124 ∷ escaped pass_element in
    let five : List ℕ = 124 ∷ escaped realm in
    let to_two : List ℕ = escaped origin ++ two in
    let to_three : List ℕ = to_two ++ three in
    let to_four : List ℕ = to_three ++ four in
    let with_two : front ++ escaped origin ++ two ≡ front ++ to_two = append_assoc front (escaped origin) two in
    let with_three : front ++ escaped origin ++ two ++ three ≡ front ++ to_three = ap (λ (text : List ℕ). text ++ three) with_two ∙ append_assoc front to_two three in
    let with_four : front ++ escaped origin ++ two ++ three ++ four ≡ front ++ to_four = ap (λ (text : List ℕ). text ++ four) with_three ∙ append_assoc front to_three four in
    ap (λ (text : List ℕ). text ++ five) with_four ∙ append_assoc front to_four five
