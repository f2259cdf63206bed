use Rattle.servant_scripts.proofs.Texts.{told_spells, told_only, told_fault}
use Rattle.servant_scripts.proofs.reading.read_script.Goals as goal

pub returns-clause-spelled : goal.returns-clause-spelled
returns-clause-spelled c = told_spells c.args.text.now c.read_text.result c.read_text.ensures

pub returns-clause-only : goal.returns-clause-only
returns-clause-only c = λ servants spells. told_only c.args.text.now c.read_text.result servants c.read_text.ensures spells

pub returns-clause-fault : goal.returns-clause-fault
returns-clause-fault c = told_fault c.args.text.now c.read_text.result c.read_text.ensures
