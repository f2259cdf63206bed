use Rattle.std.proofs.Common.{◌≡◌, drop, map}
use Rattle.std.specs.List.{list_all}
use Rattle.idl_types.specs.Sound.{is_sound_type}
use Rattle.idl_types.specs.Views.{param_of}
use Rattle.idl_types.proofs.soundness.params_are_sound.Given as goal

abbrev pub invariant-loop-param : goal.invariant-loop-param
invariant-loop-param l = list_all (λ p. is_sound_type p.kind) (map param_of (drop l.param-index l.params)) ≡ list_all (λ p. is_sound_type p.kind) (map param_of l.params)
