-- The component of policies: what is read is what the bytes carry.
use Rattle.std.proofs.Common.{◌≡◌, ℕ, List, Option, Result, Ok, Err, IfOk, refl}
use Rattle.std.specs.Option.{option_map}
use Rattle.orb_base.specs.Room.{Room}
use Rattle.orb_base.specs.Tagged.{Tagged}
use Rattle.orb_base.specs.declared.no_memory.NoMemory.{NoMemory}
use Rattle.cdr_core.specs.Cursor.{AreBytes}
use Rattle.cdr_core.specs.Lists.{list_at, made_at, tagged_of, list_fields, tagged_fields, FitsList, FitsTagged}
use Rattle.cdr_core.proofs.CallerLemmas.{tagged_lists_are_exact, bytes_behind}
use Rattle.service_contexts.specs.Laws.{IsExactly, IsReadAsSpelled}
use Rattle.service_contexts.specs.Moves.{items_of}
use Rattle.service_contexts.specs.Policies.{CarriesPolicies, policies_at}
use Rattle.service_contexts.specs.Reading.{carried}
use Rattle.service_contexts.proofs.Steps.{ok_of}
use Rattle.service_contexts.proofs.Taking.{Takes, Again}
use Rattle.service_contexts.proofs.Carried.{read_as_spelled, exactly}

policies_takes : Takes (List Tagged) (FitsList FitsTagged) (list_fields tagged_fields) policies_at
unfolding policies_at
policies_takes c y fits e =
    let t = tagged_lists_are_exact.found c y fits (ok_of (list_at (made_at tagged_of) c) y e) in
    record { lawful = t.0; spans = t.1; bytes = bytes_behind c y.1 (list_fields tagged_fields y.0) fits t.1 }

policies_again : Again (List Tagged) (FitsList FitsTagged) (list_fields tagged_fields) policies_at
unfolding policies_at
policies_again c d list fits p = rw (tagged_lists_are_exact.only c d list fits p) refl

pub policies_law : IsReadAsSpelled (List Tagged) (FitsList FitsTagged) (list_fields tagged_fields) policies_at
policies_law = read_as_spelled (List Tagged) (FitsList FitsTagged) (list_fields tagged_fields) policies_at policies_takes policies_again

-- what is answered is exactly what the bytes carry, unless memory was wanting
pub policies_exactly : (r : Result (Option (Room Tagged)) NoMemory) (bytes : List ℕ) → AreBytes bytes
    → IfOk r (λ policies. option_map items_of policies ≡ carried policies_at bytes)
    → IfOk r (λ policies. IsExactly (option_map items_of policies) (λ list. CarriesPolicies list bytes))
policies_exactly (Ok policies) bytes fits e =
    exactly (List Tagged) (FitsList FitsTagged) (list_fields tagged_fields) policies_at policies_law (option_map items_of policies) bytes fits e
policies_exactly (Err f) bytes fits e = tt
