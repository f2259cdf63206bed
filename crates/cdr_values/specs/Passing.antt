-- What is between two cursors: CORBA 3.0.3, section 15.3.
use Rattle.std.specs.Prelude.{◌≡◌, List, Option, Some}
use Rattle.cdr_core.specs.Cursor.{Cursor}
use Rattle.cdr_core.specs.Field.{Field}
use Rattle.cdr_core.specs.Passing.{Spans}

-- from a to b are the fields that are asked for
pub record Passed (a b : Cursor) (asked : Option (List Field)) : Type 0 where
  pub fields : List Field
  pub asks : asked ≡ Some fields
  pub spans : Spans a b fields
