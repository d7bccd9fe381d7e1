-- The order of the keys of rows.
use Rattle.std.proofs.Common.{◌≡◌, refl, sym, ap, ◌∙◌, true≢false, eqb-true}
use Rattle.std.specs.Cmp.{IsTotalOrder, nat_cmp_total, then_total, on_total, unsigned_ties, eq_by_cmp_equiv, IsEquivalence}
use Rattle.std.specs.Cmp.Lexicographic.{slice_cmp, nat_list_cmp_total}
use Rattle.std.specs.Ordering.{nat_cmp, is_eq, ordering_then, eq_by_cmp}
use Rattle.std.specs.declared.cmp.Ordering.{Ordering}
use Rattle.std.specs.declared.cmp.Ordering.TheVariants.{Less, Equal, Greater}
use Rattle.std.proofs.lemmas.Slice.Eq.{bytes_eq-Decides}
use Rattle.std.proofs.lemmas.Map.Text.{is_eq-slice_cmp}
use Rattle.client_keeper.specs.declared.rows.RowKey.{RowKey}
use Rattle.client_keeper.specs.Rows.{by_key}

pub by_key_total : IsTotalOrder by_key
by_key_total = then_total (on_total (λ (key : RowKey). key.table) nat_cmp_total) (on_total (λ (key : RowKey). key.key) nat_list_cmp_total)

pub by_key_equiv : IsEquivalence (eq_by_cmp by_key)
by_key_equiv = eq_by_cmp_equiv by_key_total

both_tie : (a b : Ordering) → ordering_then a b ≡ Equal → (a ≡ Equal) × (b ≡ Equal)
both_tie Less b tie = absurd (true≢false (sym (ap is_eq tie)))
both_tie Equal b tie = (refl, tie)
both_tie Greater b tie = absurd (true≢false (sym (ap is_eq tie)))

-- keys that tie are one
pub same_key : (a b : RowKey) → by_key a b ≡ Equal → a ≡ b
same_key a b tie =
    let parts = both_tie (nat_cmp a.table b.table) (slice_cmp nat_cmp a.key b.key) tie in
    let tables : a.table ≡ b.table = eqb-true a.table b.table (unsigned_ties a.table b.table ∙ ap is_eq parts.0) in
    let keys : a.key ≡ b.key = (bytes_eq-Decides a.key b.key).0 (sym (is_eq-slice_cmp a.key b.key) ∙ ap is_eq parts.1) in
    ap (λ table. record a { table = table }) tables ∙ ap (λ key. record b { key = key }) keys
