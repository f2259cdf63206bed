use Rattle.std.proofs.Common.{List, ℕ, subst}
use Rattle.cdr_core.specs.Cursor.{Cursor}
use Rattle.cdr_core.specs.Reading.{string_at}
use Rattle.client_calls.specs.Bodies.{Took}
use Rattle.client_calls.proofs.Readings.{took_of}
use Rattle.client_calls.proofs.exceptions.user_in.Goals as goal

pub returns : goal.returns
returns c =
    subst (λ (r : Cursor). Took (λ (t : List ℕ). t) c.take_text.result (string_at r)) c.new-reader.ensures
    (took_of (λ (t : List ℕ). t) c.take_text.result c.take_text.new.reader (string_at c.new-reader.result) c.take_text.ensures)
