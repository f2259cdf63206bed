-- A name service and a servant of its interface answer alike: own profile. `meaning_of` is what a name service makes of
-- a job: a call of its map, or an answer of its own (`Tells`). `outcome_of` is what an object with a servant answers to
-- the same job. The servant is any of the interface, so its script may do anything.
use Rattle.std.specs.Prelude.{◌≡◌, ◌↔◌, ◌⊎◌, codes}
use Rattle.orb_base.specs.JobRecord.{JobRecord}
use Rattle.orb_base.specs.Outcomes.{bad_operation}
use Rattle.orb_base.specs.declared.outcome.Outcome.{Outcome}
use Rattle.idl_types.specs.Sound.{names_id}
use Rattle.dynamic_servants.specs.Outcome.{Served, outcome_of}
use Rattle.name_calls.specs.Bodies.{limited, marshal}
use Rattle.name_calls.specs.declared.meaning.Meaning.TheVariants.{Tells}
use Rattle.names_hall.specs.Entering.{meaning_of}
use Rattle.names_laws.specs.Serving.{ServesNames}

-- a name service answers BAD_OPERATION to the jobs to which such a servant answers BAD_OPERATION, and to no others
abbrev pub UnknownAlike : Type 0
UnknownAlike = (s : Served) → ServesNames s → (job : JobRecord)
    → (meaning_of job ≡ Tells bad_operation) ↔ (outcome_of s names_id job ≡ bad_operation)

-- it answers MARSHAL to the jobs to which such a servant answers MARSHAL, and to no others
abbrev pub UnreadAlike : Type 0
UnreadAlike = (s : Served) → ServesNames s → (job : JobRecord)
    → (meaning_of job ≡ Tells marshal) ↔ (outcome_of s names_id job ≡ marshal)

-- it answers `_is_a` by what such a servant answers
abbrev pub KinAlike : Type 0
KinAlike = (s : Served) → ServesNames s → (job : JobRecord) → job.operation ≡ codes "_is_a"
    → meaning_of job ≡ Tells (outcome_of s names_id job)

-- and it answers `_non_existent` by what such a servant answers
abbrev pub ThereAlike : Type 0
ThereAlike = (s : Served) → ServesNames s → (job : JobRecord) → job.operation ≡ codes "_non_existent"
    → meaning_of job ≡ Tells (outcome_of s names_id job)

-- and all that it answers without asking its map is what such a servant answers, or it is IMP_LIMIT, for a key or a
-- target that breaks its limits
abbrev pub OwnAlike : Type 0
OwnAlike = (s : Served) → ServesNames s → (job : JobRecord) (own : Outcome) → meaning_of job ≡ Tells own
    → (own ≡ limited) ⊎ (own ≡ outcome_of s names_id job)
