-- Bytes that come in pieces, and what feeding one gives.
use Rattle.std.specs.Prelude.{◌≡◌, ℕ, List, ◌++◌, Option, Some, Result, Ok, Err}
use Rattle.wire_format.specs.declared.fault.WireFault.{WireFault}
use Rattle.wire_format.specs.Walks.{IsStayingFault, MayGoOn}
use Rattle.wire_fields.specs.declared.pieces.PieceFault.{PieceFault}
use Rattle.wire_fields.specs.declared.pieces.PieceFault.TheVariants.{Wire, NoMemory}

-- all bytes that were fed, up to the piece that brought a fault that stays, and that fault
pub record Fed : Type 0 where
  pub bytes : List ℕ
  pub fault : Option WireFault

-- what feeding a piece gives where no fault was told yet, and what is fed then
abbrev pub IsFed : Fed → List ℕ → Result (Unit {0}) PieceFault → Fed → Type 0
IsFed old piece (Ok done) new = (new ≡ record old { bytes = old.bytes ++ piece }) × MayGoOn new.bytes
IsFed old piece (Err (Wire fault)) new =
    (new ≡ record { bytes = old.bytes ++ piece; fault = Some fault }) × IsStayingFault new.bytes fault.reason fault.at
IsFed old piece (Err NoMemory) new = new ≡ old
