use Rattle.servant_scripts.proofs.Texts.{spelled_read}
use Rattle.servant_scripts.proofs.laws.reads_each_script.Goals as goal

pub returns : goal.returns
returns c = spelled_read
