-- What the parts of a report add up to.
use Rattle.std.proofs.Common.{◌≡◌, ℕ, ◌+◌, ◌<◌, List, [], ◌∷◌, ◌++◌, length, drop, get_or, sym, ap, ◌∙◌, append_assoc}
use Rattle.std.proofs.lemmas.List.{append-nil, drop_more, drop_all}
use Rattle.std.specs.Prelude.{◌≤◌}
use Rattle.sha2.specs.Sha256.{sha256}
use Rattle.sync_model.specs.Clients.{Client, side_of, wanted_name}
use Rattle.sync_model.specs.Report.{pass_number, entity_lines, events_line, server_line, client_line, side_line, value_lines, for_each_kind, client_lines, clients_lines, totals_line, report}
use Rattle.sync_model.specs.Worlds.{World}
use Rattle.run_setting.specs.Hashed.{hashed}
use Rattle.report_lines.specs.Digests.{digest_line}
use Rattle.replay_messages.specs.Records.{wire_record}
use Rattle.replay_world.specs.Reports.{full_report, fates_text}

-- three parts one after another
pub three_parts : (old a b c first second third : List ℕ) → first ≡ old ++ a → second ≡ first ++ b → third ≡ second ++ c → third ≡ old ++ (a ++ b ++ c)
three_parts old a b c first second third is_first is_second is_third =
    is_third ∙ ap (λ text. text ++ c) (is_second ∙ ap (λ text. text ++ b) is_first) ∙ assoc old where
      assoc : (before : List ℕ) → before ++ a ++ b ++ c ≡ before ++ (a ++ b ++ c)
      assoc before = simp append_assoc

-- four parts one after another
four_parts : (old a b c d first second third fourth : List ℕ) → first ≡ old ++ a → second ≡ first ++ b → third ≡ second ++ c → fourth ≡ third ++ d → fourth ≡ old ++ (a ++ b ++ c ++ d)
four_parts old a b c d first second third fourth is_first is_second is_third is_fourth =
    is_fourth ∙ ap (λ text. text ++ d) (three_parts old a b c first second third is_first is_second is_third) ∙ append_assoc old (a ++ b ++ c) d

-- all lines of a client
pub client_is : (world : World) (number : ℕ) (client : Client) (old first second third fourth : List ℕ) (version : ℕ) → world.passes ≡ [] → version ≡ length world.history
    → first ≡ old ++ client_line version number client
    → second ≡ first ++ for_each_kind (λ kind. side_line number kind (wanted_name hashed client kind) (side_of client kind))
    → third ≡ second ++ for_each_kind (λ kind. value_lines hashed (pass_number hashed []) number kind (side_of client kind).states)
    → fourth ≡ third ++ for_each_kind (fates_text world.outcomes world.settlements number)
    → fourth ≡ old ++ client_lines hashed world number client
unfolding client_lines
client_is world number client old first second third fourth version no_passes is_version is_first is_second is_third is_fourth =
    four_parts old (client_line (length world.history) number client) (for_each_kind (λ kind. side_line number kind (wanted_name hashed client kind) (side_of client kind)))
    (for_each_kind (λ kind. value_lines hashed (pass_number hashed []) number kind (side_of client kind).states)) (for_each_kind (fates_text world.outcomes world.settlements number))
    first second third fourth (is_first ∙ ap (λ n. old ++ client_line n number client) is_version) is_second is_third is_fourth
    ∙ ap (λ (passes : List (List ℕ)). old ++ (client_line (length world.history) number client
    ++ for_each_kind (λ kind. side_line number kind (wanted_name hashed client kind) (side_of client kind))
    ++ for_each_kind (λ kind. value_lines hashed (pass_number hashed passes) number kind (side_of client kind).states)
    ++ for_each_kind (fates_text world.outcomes world.settlements number))) (sym no_passes)

-- one more client
pub clients_more : (world : World) (clients : List Client) (n : ℕ) (client : Client) (all out new : List ℕ) → n < length clients → client ≡ get_or clients n client
    → new ≡ out ++ client_lines hashed world (n + 1) client → out ++ clients_lines hashed world (n + 1) (drop n clients) ≡ all
    → new ++ clients_lines hashed world (n + 1 + 1) (drop (n + 1) clients) ≡ all
unfolding clients_lines
clients_more world clients n client all out new lt is is_new same =
    ap (λ text. text ++ clients_lines hashed world (n + 1 + 1) (drop (n + 1) clients)) is_new
    ∙ append_assoc out (client_lines hashed world (n + 1) client) (clients_lines hashed world (n + 1 + 1) (drop (n + 1) clients))
    ∙ ap (λ (rest : List Client). out ++ clients_lines hashed world (n + 1) rest) (ap (λ (first : Client). first ∷ drop (n + 1) clients) is ∙ sym (drop_more clients n client lt))
    ∙ same

-- no more clients
pub clients_all : (world : World) (clients : List Client) (n : ℕ) (all out : List ℕ) → length clients ≤ n → out ++ clients_lines hashed world (n + 1) (drop n clients) ≡ all → out ≡ all
unfolding clients_lines
clients_all world clients n all out le same =
    sym (append-nil out) ∙ ap (λ (rest : List Client). out ++ clients_lines hashed world (n + 1) rest) (sym (drop_all n clients le)) ∙ same

-- the whole report, and the digest
pub report_is : (world : World) (digest start first second third fourth fifth sixth : List ℕ) → world.passes ≡ [] → digest ≡ sha256 (wire_record world.seed world.outcomes)
    → start ≡ []
    → first ≡ start ++ events_line world.outcomes
    → second ≡ first ++ server_line world.history
    → third ≡ second ++ entity_lines hashed (pass_number hashed []) world.history world.history
    → fourth ≡ third ++ clients_lines hashed world 1 world.clients
    → fifth ≡ fourth ++ totals_line world.outcomes
    → sixth ≡ fifth ++ digest_line digest
    → sixth ≡ full_report world
unfolding report full_report
report_is world digest start first second third fourth fifth sixth no_passes is_digest is_start is_first is_second is_third is_fourth is_fifth is_sixth =
    is_sixth ∙ (λ i. (is_fifth ∙ ap (λ text. text ++ totals_line world.outcomes)
    (is_fourth ∙ ap (λ text. text ++ clients_lines hashed world 1 world.clients)
    (is_third ∙ ap (λ text. text ++ entity_lines hashed (pass_number hashed []) world.history world.history)
    (is_second ∙ ap (λ text. text ++ server_line world.history) (is_first ∙ ap (λ text. text ++ events_line world.outcomes) is_start))))
    ∙ ap (λ (passes : List (List ℕ)). events_line world.outcomes ++ server_line world.history
    ++ entity_lines hashed (pass_number hashed passes) world.history world.history ++ clients_lines hashed world 1 world.clients ++ totals_line world.outcomes) (sym no_passes)) i
    ++ digest_line (is_digest i))
