-- What the texts of a setup give, by their bytes.
use Rattle.std.proofs.Common.{◌≡◌, ℕ, List, Option}
use Rattle.std.specs.Prelude.{Result, Ok, Err}
use Rattle.orb_base.specs.Filing.{FilesState}
use Rattle.idl_types.specs.declared.repository.Repository.{Repository}
use Rattle.servant_scripts.specs.declared.line.Script.{Script}
use Rattle.setup_servants.specs.Texts.{IsText, ReadsText}
use Rattle.setup_servants.specs.Interfaces.{Declares, ReadsInterfaces}
use Rattle.setup_servants.specs.Scripts.{Says, ReadsScripts}
use Rattle.setup_servants.specs.declared.fault.TextRole.TheVariants as role
use Rattle.setup_servants.specs.declared.fault.ServingFault.{ServingFault}
use Rattle.setup_servants.specs.declared.fault.ServingFault.TheVariants as fault

-- the bytes of the interfaces are there
pub interfaces_read : (answer : Result Repository ServingFault) (name : Option (List ℕ)) (bytes : List ℕ) (old new : FilesState) → IsText old name bytes
    → new.faults ≡ old.faults → Declares answer bytes → ReadsInterfaces answer name old new
interfaces_read (Ok r) name bytes old new text same h = (record { bytes = bytes; text = text; gives = h }, same)
interfaces_read (Err (fault.Idl f)) name bytes old new text same h = (record { bytes = bytes; text = text; gives = h }, same)
interfaces_read (Err fault.NoMemory) name bytes old new text same h = same
interfaces_read (Err (fault.Script f)) name bytes old new text same h = absurd h
interfaces_read (Err (fault.Check f)) name bytes old new text same h = absurd h
interfaces_read (Err (fault.Object f)) name bytes old new text same h = absurd h
interfaces_read (Err (fault.Absent r)) name bytes old new text same h = absurd h
interfaces_read (Err (fault.TooLong r)) name bytes old new text same h = absurd h
interfaces_read (Err fault.ReadFault) name bytes old new text same h = absurd h

-- or they aren't
pub interfaces_unread : (e : ServingFault) (name : Option (List ℕ)) (old new : FilesState) → ReadsText (Err e) role.Idl name old new
    → ReadsInterfaces (Err e) name old new
interfaces_unread (fault.Absent role.Idl) name old new h = (h.1, h.2)
interfaces_unread (fault.Absent role.Scripts) name old new h = absurd (cc)
interfaces_unread (fault.TooLong role.Idl) name old new h = (h.1, h.2)
interfaces_unread (fault.TooLong role.Scripts) name old new h = absurd (cc)
interfaces_unread fault.ReadFault name old new h = h
interfaces_unread fault.NoMemory name old new h = h
interfaces_unread (fault.Idl f) name old new h = absurd h
interfaces_unread (fault.Script f) name old new h = absurd h
interfaces_unread (fault.Check f) name old new h = absurd h
interfaces_unread (fault.Object f) name old new h = absurd h

-- the bytes of the scripts are there
pub scripts_read : (answer : Result Script ServingFault) (name : Option (List ℕ)) (bytes : List ℕ) (old new : FilesState) → IsText old name bytes
    → new.faults ≡ old.faults → Says answer bytes → ReadsScripts answer name old new
scripts_read (Ok s) name bytes old new text same h = (record { bytes = bytes; text = text; gives = h }, same)
scripts_read (Err (fault.Script f)) name bytes old new text same h = (record { bytes = bytes; text = text; gives = h }, same)
scripts_read (Err fault.NoMemory) name bytes old new text same h = same
scripts_read (Err (fault.Idl f)) name bytes old new text same h = absurd h
scripts_read (Err (fault.Check f)) name bytes old new text same h = absurd h
scripts_read (Err (fault.Object f)) name bytes old new text same h = absurd h
scripts_read (Err (fault.Absent r)) name bytes old new text same h = absurd h
scripts_read (Err (fault.TooLong r)) name bytes old new text same h = absurd h
scripts_read (Err fault.ReadFault) name bytes old new text same h = absurd h

-- or they aren't
pub scripts_unread : (e : ServingFault) (name : Option (List ℕ)) (old new : FilesState) → ReadsText (Err e) role.Scripts name old new
    → ReadsScripts (Err e) name old new
scripts_unread (fault.Absent role.Scripts) name old new h = (h.1, h.2)
scripts_unread (fault.Absent role.Idl) name old new h = absurd (cc)
scripts_unread (fault.TooLong role.Scripts) name old new h = (h.1, h.2)
scripts_unread (fault.TooLong role.Idl) name old new h = absurd (cc)
scripts_unread fault.ReadFault name old new h = h
scripts_unread fault.NoMemory name old new h = h
scripts_unread (fault.Idl f) name old new h = absurd h
scripts_unread (fault.Script f) name old new h = absurd h
scripts_unread (fault.Check f) name old new h = absurd h
scripts_unread (fault.Object f) name old new h = absurd h
