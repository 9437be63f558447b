-- The worked examples, by computing.
use Rattle.std.proofs.Common.{refl}
use Rattle.sheet.specs.Parts.{parts_in}
use Rattle.sheet_reader.specs.Examples.{WorkedSheets}

pub worked : WorkedSheets
unfolding parts_in
worked = record {
  granted = refl;
  bare_watch = refl;
  empty = refl;
  second_watch = refl;
  reserved_name = refl;
  surplus = refl;
  missing = refl;
  no_operator = refl;
}
