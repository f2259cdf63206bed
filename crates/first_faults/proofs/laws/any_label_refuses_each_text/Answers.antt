use Rattle.first_faults.proofs.OfTexts.{any_refuses}
use Rattle.first_faults.proofs.laws.any_label_refuses_each_text.Goals as goal

pub returns : goal.returns
returns c = any_refuses
