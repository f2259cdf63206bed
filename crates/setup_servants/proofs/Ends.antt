-- What a setup comes to, by what its texts give.
use Rattle.std.proofs.Common.{◌≡◌, ℕ, List, Option, refl, ap, subst, inl, inr, ◌∙◌}
use Rattle.std.specs.Prelude.{Result, Ok, Err}
use Rattle.orb_base.specs.Filing.{File, FilesState}
use Rattle.adapter_policies.specs.SetupData.{SetupData}
use Rattle.idl_types.specs.declared.repository.Repository.{Repository}
use Rattle.idl_types.specs.BuiltIn.{with_ping}
use Rattle.idl_types.specs.Contents.{things_of}
use Rattle.idl_types.specs.Things.{Thing}
use Rattle.servant_scripts.specs.declared.line.Script.{Script}
use Rattle.servant_scripts.specs.Trees.{ServantSaid}
use Rattle.servant_scripts.specs.Views.{script_of}
use Rattle.dynamic_servants.specs.Outcome.{Served}
use Rattle.dynamic_servants.specs.Served.{served_by}
use Rattle.dynamic_servants.specs.declared.servants.Servants.{Servants}
use Rattle.setup_servants.specs.Interfaces.{ReadsInterfaces}
use Rattle.setup_servants.specs.Scripts.{ReadsScripts}
use Rattle.setup_servants.specs.Servants.{GivesServants, JudgesObjects, Serves}
use Rattle.setup_servants.specs.declared.fault.TextRole.TheVariants as role
use Rattle.setup_servants.specs.declared.fault.ServingFault.{ServingFault}
use Rattle.setup_servants.specs.declared.fault.ServingFault.TheVariants as fault

-- a script is checked, and the objects are judged
pub serves_judged : (answer : Result Servants ServingFault) (setup : SetupData) (things : List Thing) (said : List ServantSaid) (served : Served)
    → served_by (with_ping things) said ≡ Ok served → JudgesObjects answer setup served → Serves answer setup things said
serves_judged (Ok s) setup things said served checks h = (cc, rw h.0 h.1)
serves_judged (Err (fault.Object f)) setup things said served checks h = record { served = served; checks = checks; first = h }
serves_judged (Err fault.NoMemory) setup things said served checks h = tt
serves_judged (Err (fault.Idl f)) setup things said served checks h = absurd h
serves_judged (Err (fault.Script f)) setup things said served checks h = absurd h
serves_judged (Err (fault.Check f)) setup things said served checks h = absurd h
serves_judged (Err (fault.Absent r)) setup things said served checks h = absurd h
serves_judged (Err (fault.TooLong r)) setup things said served checks h = absurd h
serves_judged (Err fault.ReadFault) setup things said served checks h = absurd h

-- a store that tells the same is the same to us
pub same_state : (a b : FilesState) → a.files ≡ b.files → a.faults ≡ b.faults → a ≡ b
same_state a b files faults =
    let with_files : Option (List File) → FilesState = λ fs. record { files = fs; faults = a.faults } in
    let with_faults : ℕ → FilesState = λ n. record { files = b.files; faults = n } in
    ap with_files files ∙ ap with_faults faults

-- both texts are read in one state of the files
both_here : (answer : Result Servants ServingFault) (setup : SetupData) (r : Repository) (s : Script) (old new : FilesState)
    → ReadsInterfaces (Ok r) setup.idl old old → ReadsScripts (Ok s) setup.scripts old new
    → Serves answer setup (things_of r) (script_of s) → GivesServants answer setup old new
both_here (Ok v) setup r s old new idl scripts h =
    (record { things = things_of r; said = script_of s; interfaces = idl.0; scripts = scripts.0; serves = h }, scripts.1)
both_here (Err (fault.Check f)) setup r s old new idl scripts h =
    (record { things = things_of r; said = script_of s; interfaces = idl.0; scripts = scripts.0; serves = h }, scripts.1)
both_here (Err (fault.Object f)) setup r s old new idl scripts h =
    (record { things = things_of r; said = script_of s; interfaces = idl.0; scripts = scripts.0; serves = h }, scripts.1)
both_here (Err fault.NoMemory) setup r s old new idl scripts h = scripts.1
both_here (Err (fault.Idl f)) setup r s old new idl scripts h = absurd h
both_here (Err (fault.Script f)) setup r s old new idl scripts h = absurd h
both_here (Err (fault.Absent which)) setup r s old new idl scripts h = absurd h
both_here (Err (fault.TooLong which)) setup r s old new idl scripts h = absurd h
both_here (Err fault.ReadFault) setup r s old new idl scripts h = absurd h

-- the scripts aren't read, in one state of the files
not_here : (e : ServingFault) (setup : SetupData) (r : Repository) (old new : FilesState)
    → ReadsInterfaces (Ok r) setup.idl old old → ReadsScripts (Err e) setup.scripts old new → GivesServants (Err e) setup old new
not_here (fault.Script f) setup r old new idl h = (record { things = things_of r; interfaces = idl.0 }, h.0, h.1)
not_here (fault.Absent role.Scripts) setup r old new idl h = (record { things = things_of r; interfaces = idl.0 }, h.0, h.1)
not_here (fault.TooLong role.Scripts) setup r old new idl h = (record { things = things_of r; interfaces = idl.0 }, h.0, h.1)
not_here (fault.Absent role.Idl) setup r old new idl h = absurd h
not_here (fault.TooLong role.Idl) setup r old new idl h = absurd h
not_here fault.ReadFault setup r old new idl h = (inr (record { things = things_of r; interfaces = idl.0 }, h.0), h.1)
not_here fault.NoMemory setup r old new idl h = h
not_here (fault.Idl f) setup r old new idl h = absurd h
not_here (fault.Check f) setup r old new idl h = absurd h
not_here (fault.Object f) setup r old new idl h = absurd h

-- both texts are read, the scripts from the files that were told before the interfaces were read
pub both_read : (answer : Result Servants ServingFault) (setup : SetupData) (r : Repository) (s : Script) (old mid new : FilesState)
    → ReadsInterfaces (Ok r) setup.idl old mid → mid.files ≡ old.files → ReadsScripts (Ok s) setup.scripts mid new
    → Serves answer setup (things_of r) (script_of s) → GivesServants answer setup old new
both_read answer setup r s old mid new idl files scripts h =
    let P : FilesState → Type 0 = λ (st : FilesState). ReadsScripts (Ok s) setup.scripts st new in
    both_here answer setup r s old new (idl.0, refl) (subst P (same_state mid old files idl.1) scripts) h

-- the interfaces are read, and the scripts aren't
pub scripts_not : (e : ServingFault) (setup : SetupData) (r : Repository) (old mid new : FilesState)
    → ReadsInterfaces (Ok r) setup.idl old mid → mid.files ≡ old.files → ReadsScripts (Err e) setup.scripts mid new
    → GivesServants (Err e) setup old new
scripts_not e setup r old mid new idl files h =
    let P : FilesState → Type 0 = λ (st : FilesState). ReadsScripts (Err e) setup.scripts st new in
    not_here e setup r old new (idl.0, refl) (subst P (same_state mid old files idl.1) h)

-- the interfaces aren't read
pub interfaces_not : (e : ServingFault) (setup : SetupData) (old new : FilesState) → ReadsInterfaces (Err e) setup.idl old new
    → GivesServants (Err e) setup old new
interfaces_not (fault.Idl f) setup old new h = h
interfaces_not (fault.Absent role.Idl) setup old new h = h
interfaces_not (fault.TooLong role.Idl) setup old new h = h
interfaces_not (fault.Absent role.Scripts) setup old new h = absurd h
interfaces_not (fault.TooLong role.Scripts) setup old new h = absurd h
interfaces_not fault.ReadFault setup old new h = (inl h.0, h.1)
interfaces_not fault.NoMemory setup old new h = h
interfaces_not (fault.Script f) setup old new h = absurd h
interfaces_not (fault.Check f) setup old new h = absurd h
interfaces_not (fault.Object f) setup old new h = absurd h
