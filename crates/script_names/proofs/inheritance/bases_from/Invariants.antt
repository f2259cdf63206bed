use Rattle.std.proofs.Common.{◌≡◌, ◌∷◌, [], drop}
use Rattle.std.specs.List.{flat_map}
use Rattle.idl_types.specs.Names.{names_in, with_names}
use Rattle.script_names.specs.Views.{listed}
use Rattle.script_names.proofs.inheritance.bases_from.Given as goal

abbrev pub invariant-loop-base : goal.invariant-loop-base
invariant-loop-base l = with_names (names_in l.ids.keys) (flat_map (λ b. b ∷ listed l.index.entries b) (drop l.base-index l.bases))
    ≡ with_names [] (flat_map (λ b. b ∷ listed l.index.entries b) l.bases)
