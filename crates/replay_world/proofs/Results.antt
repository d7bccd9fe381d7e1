-- What holds where a call was done, or was not.
use Rattle.std.specs.Prelude.{Result, Ok, Err, IfOk, OnOk, OnErr}

-- what is said of a value, and beside it
pub ok_with : {T E P : Type 0} {Q R : T → Type 0} (result : Result T E) → OnOk result P → IfOk result Q → ((value : T) → P → Q value → R value) → IfOk result R
ok_with (Ok value) beside said then = then value beside said
ok_with (Err fault) beside said then = tt

-- what follows where it was not done
pub err_then : {T E P Q : Type 0} (result : Result T E) → (P → Q) → OnErr result P → OnErr result Q
err_then (Ok value) then said = tt
err_then (Err fault) then said = then said
