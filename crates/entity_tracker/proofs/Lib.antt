mod OfferedValues
