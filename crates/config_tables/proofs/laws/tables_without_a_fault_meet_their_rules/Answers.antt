use Rattle.config_tables.proofs.RulesHold.{tables_hold}
use Rattle.config_tables.proofs.laws.tables_without_a_fault_meet_their_rules.Goals as goal

-- rule by rule, and section by section
pub returns : goal.returns
returns c = tables_hold
