-- Values as bounds and lengths.
use Rattle.std.proofs.Common.{◌≡◌, ◌≤◌, ℕ, pos, Result, Ok, Err, refl, ap, ◌∙◌}
use Rattle.std.proofs.lemmas.Bool.{le-leb}
use Rattle.idl_grammar.specs.declared.fault.IdlFault.{IdlFault}
use Rattle.idl_constants.specs.declared.misfit.Misfit.{Misfit}
use Rattle.idl_constants.specs.ConstValues.{Value, number, label_of}
use Rattle.idl_constants.specs.Fitting.{fit_number}
use Rattle.idl_names.specs.State.{Valued}
use Rattle.idl_names.specs.Values.{natural, size_so, size_in, misfit_at}

abbrev size_told : ℕ → Result ℕ IdlFault
size_told n = Ok n

fits : (n : ℕ) → 1 ≤ n → n ≤ 65536 → fit_number (pos 1) (pos 65536) (number (pos n)) ≡ Ok tt
fits n low high = rw (le-leb 1 n low, le-leb n 65536 high) refl

-- a number within the ends is the size
pub size_is : (v : Valued) (n : ℕ) → v.value ≡ number (pos n) → 1 ≤ n → n ≤ 65536 → size_in v ≡ Ok n
size_is v n is low high =
    ap (λ f. size_so f v) (ap (fit_number (pos 1) (pos 65536)) is ∙ fits n low high) ∙ ap (λ (x : Value). size_told (natural (label_of x))) is

-- and what isn't is at fault
pub misfit_is : (v : Valued) (m : Misfit) → fit_number (pos 1) (pos 65536) v.value ≡ Err m → size_in v ≡ Err (misfit_at m v)
misfit_is v m is = ap (λ f. size_so f v) is
