-- Bytes that are written after others.
use Rattle.std.proofs.Common.{◌≡◌, ℕ, List, ◌++◌, sym, subst}
use Rattle.orb_base.specs.Outside.{SinkState}
use Rattle.text_streams.specs.Streams.{WritesAll}
use Rattle.text_streams.specs.declared.writing.WriteAll.{WriteAll}
use Rattle.text_streams.specs.declared.writing.WriteAll.TheVariants.{Whole, Failed}
use Rattle.item_writer.proofs.Saying.{whole_both, failed_first}
use Rattle.conn_sides.specs.Saying.{SaysOn}

-- nothing more is written after a failed write
failed_on : (a b : List ℕ) (o m n : SinkState) → WritesAll Failed a o m → n ≡ m → WritesAll Failed (a ++ b) o n
failed_on a b o m n x same = subst (WritesAll Failed (a ++ b) o) (sym same) (failed_first a b o m x)

pub says_on : (before r : WriteAll) (a b : List ℕ) (o m n : SinkState) → WritesAll before a o m → SaysOn before r b m n → WritesAll r (a ++ b) o n
says_on Whole r a b o m n x y = whole_both r a b o m n x y
says_on Failed r a b o m n x y = subst (λ (w : WriteAll). WritesAll w (a ++ b) o n) (sym y.0) (failed_on a b o m n x y.1)

-- the same came of a write, and the sink tells the same
pub says_same : (before r r' : WriteAll) (bytes : List ℕ) (o m n : SinkState) → SaysOn before r bytes o m → r' ≡ r → n ≡ m → SaysOn before r' bytes o n
says_same before r r' bytes o m n x same still = subst (λ (w : WriteAll). SaysOn before w bytes o n) (sym same) (subst (SaysOn before r bytes o) (sym still) x)
