-- Names of parameters that are missing.
use Rattle.std.proofs.Common.{◌≡◌, ℕ, suc, zero, ◌<◌, length, drop, map, List, [], ◌∷◌, refl, arith}
use Rattle.idl_types.specs.declared.param.Param.{Param}
use Rattle.idl_types.specs.Views.{param_of}
use Rattle.servant_scripts.specs.declared.phrase.At.{At}
use Rattle.script_checks.specs.declared.fault.CheckCause.TheVariants as cause
use Rattle.script_checks.specs.Scene.{refused}
use Rattle.script_checks.specs.Methods.{same_names}

-- where no name is left for a parameter, the `)` is at fault
pub missing : (ks : List Param) (n : ℕ) (close : At) → n < length ks
    → same_names (map param_of (drop n ks)) [] close ≡ refused cause.ParameterNames close
missing [] n close h = grind arith
missing (k ∷ ks) zero close h = refl
missing (k ∷ ks) (suc n) close h = missing ks n close (omega arith)
