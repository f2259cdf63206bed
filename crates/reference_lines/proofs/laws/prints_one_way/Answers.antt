use Rattle.reference_lines.proofs.TextForms as Forms
use Rattle.reference_lines.proofs.laws.prints_one_way.Goals as goal

pub returns : goal.returns
returns c = Forms.prints_one_way
