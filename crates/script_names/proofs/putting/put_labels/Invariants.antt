use Rattle.std.proofs.Common.{◌≡◌, drop}
use Rattle.script_names.specs.Meanings.{enumerators}
use Rattle.script_names.specs.Views.{pairs_of, with_pairs}
use Rattle.script_names.proofs.putting.put_labels.Given as goal

abbrev pub invariant-loop-number : goal.invariant-loop-number
invariant-loop-number l = with_pairs (pairs_of l.index.entries) (enumerators l.place l.scope l.number (drop l.number l.labels))
    ≡ with_pairs (pairs_of l.initial.index.entries) (enumerators l.place l.scope 0 l.labels)
