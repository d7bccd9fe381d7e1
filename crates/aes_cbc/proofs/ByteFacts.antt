-- What holds of each of the 256 bytes, computed from the definitions.
use Rattle.std.proofs.Common.{◌≡◌, ℕ, ◌<◌, get_or, refl, sym, ap, ◌∙◌}
use Rattle.aes_cbc.specs.Substitution.{sub_byte, inv_sub_byte}
use Rattle.aes_cbc.specs.declared.tables.TheConstants.{S_BOX, INV_S_BOX}
use Rattle.aes_cbc.proofs.FieldLemmas.{agree_at_bytes, byte_at_bytes}
use Rattle.aes_cbc.proofs.TableFacts.{at_s_box, at_inv_s_box}

-- ---- the S-box

pub sub_byte-lt : (b : ℕ) → b < 256 → sub_byte b < 256
sub_byte-lt b small = rw (← at_s_box b small) (byte_at_bytes (λ x. get_or S_BOX x 0) refl b small)

pub inv_sub_byte-lt : (b : ℕ) → b < 256 → inv_sub_byte b < 256
inv_sub_byte-lt b small = rw (← at_inv_s_box b small) (byte_at_bytes (λ x. get_or INV_S_BOX x 0) refl b small)

-- the inverse S-box undoes the S-box
pub inv_sub_byte-sub_byte : (b : ℕ) → b < 256 → inv_sub_byte (sub_byte b) ≡ b
inv_sub_byte-sub_byte b small =
    sym (at_inv_s_box (sub_byte b) (sub_byte-lt b small)) ∙ ap (λ x. get_or INV_S_BOX x 0) (sym (at_s_box b small))
    ∙ agree_at_bytes (λ x. get_or INV_S_BOX (get_or S_BOX x 0) 0) (λ x. x) refl b small

-- the S-box undoes the inverse S-box
pub sub_byte-inv_sub_byte : (b : ℕ) → b < 256 → sub_byte (inv_sub_byte b) ≡ b
sub_byte-inv_sub_byte b small =
    sym (at_s_box (inv_sub_byte b) (inv_sub_byte-lt b small)) ∙ ap (λ x. get_or S_BOX x 0) (sym (at_inv_s_box b small))
    ∙ agree_at_bytes (λ x. get_or S_BOX (get_or INV_S_BOX x 0) 0) (λ x. x) refl b small
