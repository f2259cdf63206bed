-- How often a read failed, by how reading a setup and its servants came out.
use Rattle.std.proofs.Common.{◌≡◌, ℕ, List, Option, ap, subst, ◌∙◌}
use Rattle.std.specs.Prelude.{Some, None, Ok, Err}
use Rattle.orb_base.specs.Filing.{FilesState}
use Rattle.orb_base.specs.Outside.{Rose}
use Rattle.adapter_policies.specs.SetupData.{SetupData}
use Rattle.setup_servants.specs.Servants.{GivesServants}
use Rattle.setup_servants.specs.declared.fault.ServingFault.{ServingFault}
use Rattle.setup_servants.specs.declared.fault.ServingFault.TheVariants as fault
use Rattle.setup_servants.specs.declared.fault.TextRole.TheVariants as role
use Rattle.setup_files.specs.Setups.{GivesSetup}
use Rattle.setup_files.specs.Brokers.{GivesBroker}
use Rattle.setup_files.specs.declared.broker.Broker.{Broker}
use Rattle.setup_files.specs.declared.setup_end.SetupEnd.{SetupEnd}
use Rattle.setup_files.specs.declared.setup_end.SetupEnd.TheVariants as end

-- a read fault raises the count of the store, and nothing else moves it
abbrev pub ServingCount : ServingFault → ℕ → ℕ → Type 0
ServingCount fault.ReadFault old new = Rose old new
ServingCount _ old new = new ≡ old

abbrev pub SetupCount : SetupEnd → ℕ → ℕ → Type 0
SetupCount (end.Unserved why) old new = ServingCount why old new
SetupCount end.ReadFault old new = Rose old new
SetupCount _ old new = new ≡ old

given_count : (config : Option (List ℕ)) (setup : SetupData) (old new : FilesState) → GivesSetup (Ok setup) config old new → new.faults ≡ old.faults
given_count (Some name) setup old new h = h.1
given_count None setup old new h = ap (λ (s : FilesState). s.faults) h.1

serving_count : (why : ServingFault) (setup : SetupData) (old new : FilesState) → GivesServants (Err why) setup old new → ServingCount why old.faults new.faults
serving_count (fault.Idl f) setup old new h = h.1
serving_count (fault.Script f) setup old new h = h.2
serving_count (fault.Check f) setup old new h = h.1
serving_count (fault.Object f) setup old new h = h.1
serving_count (fault.Absent role.Idl) setup old new h = h.1
serving_count (fault.Absent role.Scripts) setup old new h = h.2
serving_count (fault.TooLong role.Idl) setup old new h = h.1
serving_count (fault.TooLong role.Scripts) setup old new h = h.2
serving_count fault.ReadFault setup old new h = h.1
serving_count fault.NoMemory setup old new h = h

-- where a setup has servants, no read failed
pub broker_count : (broker : Broker) (config : Option (List ℕ)) (old new : FilesState) → GivesBroker (Ok broker) config old new → new.faults ≡ old.faults
broker_count broker config old new h = h.serves.1.1 ∙ given_count config h.setup old h.between h.given

-- where it has none, by the reason
pub end_count : (why : SetupEnd) (config : Option (List ℕ)) (old new : FilesState) → GivesBroker (Err why) config old new → SetupCount why old.faults new.faults
end_count (end.Unserved f) config old new h =
    subst (λ (n : ℕ). ServingCount f n new.faults) (given_count config h.setup old h.between h.given) (serving_count f h.setup h.between new h.serves)
end_count (end.Refused f) (Some name) old new h = h.1
end_count end.Absent (Some name) old new h = h.1
end_count end.TooLong (Some name) old new h = h.1
end_count end.ReadFault (Some name) old new h = h
end_count end.NoMemory (Some name) old new h = h
end_count (end.Refused f) None old new h = absurd h
end_count end.Absent None old new h = absurd h
end_count end.TooLong None old new h = absurd h
end_count end.ReadFault None old new h = absurd h
end_count end.NoMemory None old new h = ap (λ (s : FilesState). s.faults) h
