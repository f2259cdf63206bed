use Rattle.std.proofs.Common.{◌≡◌, drop}
use Rattle.cdr_values.specs.Kinds.{cases_view}
use Rattle.cdr_values.specs.Trees.{cases_of}
use Rattle.idl_types.specs.Apart.{case_names}
use Rattle.script_names.specs.Meanings.{unused}
use Rattle.script_names.specs.Views.{pairs_of, with_pairs}
use Rattle.script_names.proofs.putting.put_cases.Given as goal

abbrev pub invariant-loop-case : goal.invariant-loop-case
invariant-loop-case l = with_pairs (pairs_of l.index.entries) (unused l.scope (case_names (cases_of (cases_view (drop l.case-index l.cases)))))
    ≡ with_pairs (pairs_of l.initial.index.entries) (unused l.scope (case_names (cases_of (cases_view l.cases))))
