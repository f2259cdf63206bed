-- What words ask for, step by step.
use Rattle.std.proofs.Common.{◌≡◌, List, None, refl, sym, subst, ◌∙◌}
use Rattle.std.specs.Prelude.{Result, Ok, Err}
use Rattle.cdr_core.specs.Sequence.{◌>>=◌}
use Rattle.cdr_values.specs.Trees.{Value}
use Rattle.idl_types.specs.Things.{Thing, OperationView}
use Rattle.client_stub.specs.Asking.{Asked}
use Rattle.client_stub.specs.Remotes.{Remote}
use Rattle.client_runs.specs.Judging.{Gives, remote_by, operation_by, arguments_by, asked_by}
use Rattle.client_runs.specs.declared.call_end.CallEnd.{CallEnd}
use Rattle.client_runs.specs.declared.call_end.CallEnd.TheVariants as end
use Rattle.client_runs.specs.declared.call_end.LocalFault.{LocalFault}
use Rattle.client_runs.specs.declared.call_words.CallWords.{CallWords}

-- a step that gives nothing ends those after it
gives_none : {X Y A B : Type 0} (seen : X → A) (seen' : Y → B) (e : CallEnd) (asked : Result A LocalFault) (f : A → Result B LocalFault)
    → Gives seen (Err e) asked → Gives seen' (Err e) (asked >>= f)
gives_none seen seen' (end.Local fault) asked f h = rw h refl
gives_none seen seen' end.NoMemory asked f h = tt
gives_none seen seen' (end.File fault) asked f h = absurd h
gives_none seen seen' end.NetFault asked f h = absurd h
gives_none seen seen' (end.Called fault) asked f h = absurd h
gives_none seen seen' end.WriteFault asked f h = absurd h
gives_none seen seen' end.Done asked f h = absurd h

-- those after one that gives something
gives_some : {A B : Type 0} (x : A) (asked : Result A LocalFault) (f : A → Result B LocalFault) → asked ≡ Ok x → asked >>= f ≡ f x
gives_some x asked f h = rw h refl

-- ---- the three steps

abbrev call_with : CallWords → Remote → OperationView → List Value → Result Asked LocalFault
call_with words remote operation arguments =
    Ok (record { remote = remote; operation = operation; arguments = arguments; priority = words.priority; band = None })

abbrev after_operation : CallWords → Remote → OperationView → Result Asked LocalFault
after_operation words remote operation = arguments_by words operation >>= λ arguments. call_with words remote operation arguments

abbrev after_remote : CallWords → List Thing → Remote → Result Asked LocalFault
after_remote words things remote = operation_by words things remote >>= λ operation. after_operation words remote operation

in_steps : (words : CallWords) (things : List Thing) → asked_by words things ≡ (remote_by words.reference >>= λ remote. after_remote words things remote)
unfolding asked_by
in_steps words things = refl

module _ {X : Type 0} (seen : X → Asked) (words : CallWords) (things : List Thing) where
  pub lacks_remote : (e : CallEnd) → Gives (λ (r : Remote). r) (Err e) (remote_by words.reference) → Gives seen (Err e) (asked_by words things)
  lacks_remote e h =
      let P : Result Asked LocalFault → Type 0 = λ (a : Result Asked LocalFault). Gives seen (Err e) a in
      subst P (sym (in_steps words things)) (gives_none (λ (r : Remote). r) seen e (remote_by words.reference) (λ remote. after_remote words things remote) h)

  has_remote : (remote : Remote) → remote_by words.reference ≡ Ok remote → asked_by words things ≡ after_remote words things remote
  has_remote remote h = in_steps words things ∙ gives_some remote (remote_by words.reference) (λ r. after_remote words things r) h

  pub lacks_operation : {Y : Type 0} (seen' : Y → OperationView) (e : CallEnd) (remote : Remote) → remote_by words.reference ≡ Ok remote
      → Gives seen' (Err e) (operation_by words things remote) → Gives seen (Err e) (asked_by words things)
  lacks_operation seen' e remote found h =
      let P : Result Asked LocalFault → Type 0 = λ (a : Result Asked LocalFault). Gives seen (Err e) a in
      subst P (sym (has_remote remote found))
      (gives_none seen' seen e (operation_by words things remote) (λ operation. after_operation words remote operation) h)

  has_operation : (remote : Remote) (operation : OperationView) → remote_by words.reference ≡ Ok remote
      → operation_by words things remote ≡ Ok operation → asked_by words things ≡ after_operation words remote operation
  has_operation remote operation found h =
      has_remote remote found ∙ gives_some operation (operation_by words things remote) (λ o. after_operation words remote o) h

  pub lacks_arguments : {Y : Type 0} (seen' : Y → List Value) (e : CallEnd) (remote : Remote) (operation : OperationView)
      → remote_by words.reference ≡ Ok remote → operation_by words things remote ≡ Ok operation
      → Gives seen' (Err e) (arguments_by words operation) → Gives seen (Err e) (asked_by words things)
  lacks_arguments seen' e remote operation found named h =
      let P : Result Asked LocalFault → Type 0 = λ (a : Result Asked LocalFault). Gives seen (Err e) a in
      subst P (sym (has_operation remote operation found named))
      (gives_none seen' seen e (arguments_by words operation) (λ arguments. call_with words remote operation arguments) h)

  pub has_all : (remote : Remote) (operation : OperationView) (arguments : List Value)
      → remote_by words.reference ≡ Ok remote → operation_by words things remote ≡ Ok operation → arguments_by words operation ≡ Ok arguments
      → asked_by words things
      ≡ Ok (record { remote = remote; operation = operation; arguments = arguments; priority = words.priority; band = None })
  has_all remote operation arguments found named given =
      has_operation remote operation found named
      ∙ gives_some arguments (arguments_by words operation) (λ a. call_with words remote operation a) given
