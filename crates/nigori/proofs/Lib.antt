mod Bytes
mod Names
mod Parts
mod Sealed
mod Verdicts
