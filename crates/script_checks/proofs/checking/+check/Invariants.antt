use Rattle.std.proofs.Common.{◌≡◌, drop, map, []}
use Rattle.cdr_values.specs.Kinds.{members_view}
use Rattle.cdr_values.specs.Trees.{members_of}
use Rattle.servant_scripts.specs.Trees.{fields_of, saids_of}
use Rattle.servant_scripts.specs.Views.{said_of, entry_of}
use Rattle.script_values.specs.Views.{parts_view}
use Rattle.script_checks.specs.Checking.{fields, elements}
use Rattle.script_checks.specs.Chains.{chained, joints_view}
use Rattle.script_checks.specs.Views.{ground_of, things_in, vars_view, checked_of}
use Rattle.script_checks.proofs.checking.+check.Given as goal

abbrev pub invariant-check_links-loop-link : goal.invariant-check_links-loop-link
invariant-check_links-loop-link l =
    chained (ground_of l.ground) (vars_view l.vars) l.at (joints_view (drop l.link-index l.links))
    (checked_of (things_in l.ground) l.checked)
    ≡ chained (ground_of l.ground) (vars_view l.vars) l.at (joints_view l.links)
    (checked_of (things_in l.ground) l.fn.first)

abbrev pub invariant-check_fields-loop-field : goal.invariant-check_fields-loop-field
invariant-check_fields-loop-field l =
    fields (ground_of l.ground) (vars_view l.vars) l.place (members_of (members_view l.members))
    (fields_of (map entry_of (drop l.field-index l.fields))) (parts_view (things_in l.ground) l.elements.items)
    ≡ fields (ground_of l.ground) (vars_view l.vars) l.place (members_of (members_view l.members))
    (fields_of (map entry_of l.fields)) []

abbrev pub invariant-check_elements-loop-phrase : goal.invariant-check_elements-loop-phrase
invariant-check_elements-loop-phrase l =
    elements (ground_of l.ground) (vars_view l.vars) l.due
    (saids_of (map said_of (drop l.phrase-index l.phrases))) (parts_view (things_in l.ground) l.elements.items)
    ≡ elements (ground_of l.ground) (vars_view l.vars) l.due (saids_of (map said_of l.phrases)) []
