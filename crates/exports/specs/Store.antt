-- What cs_store answers: the desk's own numbers, in C's struct.
-- Assumes nothing.
use Rattle.desk.specs.Desk.{Stored}
use Rattle.exports.specs.declared.keeping.StoreResult.{StoreResult}

-- C's struct, as the desk's
abbrev pub stored_as : StoreResult → Stored
stored_as r = record { number = r.number; place = r.place }
