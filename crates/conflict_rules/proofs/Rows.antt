-- What row C6 of the conflict table says of the two values.
use Rattle.std.proofs.Common.{◌≡◌, refl, Bool, true, false, ◌&&◌, not, if◌then◌else◌}
use Rattle.sync_values.specs.declared.value.Value.{Value}
use Rattle.sync_model.specs.declared.conflict.Row.{Row}
use Rattle.sync_model.specs.declared.conflict.Row.TheVariants.{C0, C1, C2, C3, C4, C5, C6}
use Rattle.sync_model.specs.Conflicts.{row_of}
use Rattle.sync_model.specs.Values.{same_value, is_absent}

-- the row by the six tests of the table, in the order in which it makes them
abbrev row_by : Bool → Bool → Bool → Bool → Bool → Bool → Row
row_by same echo own_absent remote_absent own_known remote_known =
    if same then C1
    else (if echo then C0
    else (if own_absent && not remote_absent then C2
    else (if own_known then C3
    else (if remote_known then C4
    else (if remote_absent then C5 else C6)))))

differ_by : (same echo own_absent remote_absent own_known remote_known : Bool)
    → row_by same echo own_absent remote_absent own_known remote_known ≡ C6 → same ≡ false
differ_by true _ _ _ _ _ row = cc
differ_by false true _ _ _ _ row = cc
differ_by false false _ _ _ _ row = refl

remote_by : (same echo own_absent remote_absent own_known remote_known : Bool)
    → row_by same echo own_absent remote_absent own_known remote_known ≡ C6 → remote_absent ≡ false
remote_by true _ _ _ _ _ row = cc
remote_by false true _ _ _ _ row = cc
remote_by false false _ false _ _ row = refl
remote_by false false true true true _ row = cc
remote_by false false true true false true row = cc
remote_by false false true true false false row = cc
remote_by false false false true true _ row = cc
remote_by false false false true false true row = cc
remote_by false false false true false false row = cc

own_by : (same echo own_absent remote_absent own_known remote_known : Bool)
    → row_by same echo own_absent remote_absent own_known remote_known ≡ C6 → own_absent ≡ false
own_by true _ _ _ _ _ row = cc
own_by false true _ _ _ _ row = cc
own_by false false false _ _ _ row = refl
own_by false false true false _ _ row = cc
own_by false false true true true _ row = cc
own_by false false true true false true row = cc
own_by false false true true false false row = cc

pub values_differ : (echo : Bool) (base own remote : Value) → row_of echo base own remote ≡ C6 → same_value own remote ≡ false
unfolding row_of
values_differ echo base own remote row =
    differ_by (same_value own remote) echo (is_absent own) (is_absent remote) (same_value own base) (same_value remote base) row

pub remote_is_present : (echo : Bool) (base own remote : Value) → row_of echo base own remote ≡ C6 → is_absent remote ≡ false
unfolding row_of
remote_is_present echo base own remote row =
    remote_by (same_value own remote) echo (is_absent own) (is_absent remote) (same_value own base) (same_value remote base) row

pub own_is_present : (echo : Bool) (base own remote : Value) → row_of echo base own remote ≡ C6 → is_absent own ≡ false
unfolding row_of
own_is_present echo base own remote row =
    own_by (same_value own remote) echo (is_absent own) (is_absent remote) (same_value own base) (same_value remote base) row
