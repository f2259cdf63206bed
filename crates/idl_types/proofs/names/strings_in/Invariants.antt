use Rattle.std.proofs.Common.{◌≡◌, map, take}
use Rattle.idl_types.specs.BuiltIn as built_in
use Rattle.idl_types.specs.Views.{param_of}
use Rattle.idl_types.proofs.names.strings_in.Given as goal

abbrev pub invariant-loop-name : goal.invariant-loop-name
invariant-loop-name l = map param_of l.params.items ≡ map built_in.string_in (map (λ b. b.now) (take l.name-index l.names))
