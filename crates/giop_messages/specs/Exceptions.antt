-- System exceptions as a reply's body has them: CORBA 3.0.3, section 4.12 and 15.4.3.2.
use Rattle.std.specs.Prelude.{ℕ, List, [], ◌∷◌, ◌++◌, codes}
use Rattle.std.specs.Int.{w32}
use Rattle.orb_base.specs.declared.order.Order.{Order}
use Rattle.orb_base.specs.declared.system.Sys.{Sys}
use Rattle.orb_base.specs.declared.system.SysName.{SysName}
use Rattle.orb_base.specs.declared.system.SysName.TheVariants.{Marshal, BadOperation, ObjectNotExist, InvPolicy, Transient, DataConversion, ImpLimit, NoMemory}
use Rattle.orb_base.specs.declared.system.Completed.{Completed}
use Rattle.orb_base.specs.declared.system.Completed.TheVariants.{Yes, No, Maybe}
use Rattle.cdr_core.specs.Field.{Field, number, string_fields}
use Rattle.cdr_core.specs.Spelling.{fields_bytes}

-- the name of a system exception
abbrev pub exception_name : SysName → List ℕ
exception_name Marshal = codes "MARSHAL"
exception_name BadOperation = codes "BAD_OPERATION"
exception_name ObjectNotExist = codes "OBJECT_NOT_EXIST"
exception_name InvPolicy = codes "INV_POLICY"
exception_name Transient = codes "TRANSIENT"
exception_name DataConversion = codes "DATA_CONVERSION"
exception_name ImpLimit = codes "IMP_LIMIT"
exception_name NoMemory = codes "NO_MEMORY"

-- its repository id
abbrev pub exception_id : SysName → List ℕ
exception_id name = codes "IDL:omg.org/CORBA/" ++ exception_name name ++ codes ":1.0"

-- the number of a completion status
abbrev pub completion : Completed → ℕ
completion Yes = 0
completion No = 1
completion Maybe = 2

-- a repository id, a minor code and a completion status
abbrev pub parts_fields : List ℕ → ℕ → ℕ → List Field
parts_fields id minor code = string_fields id ++ number w32 minor ∷ number w32 code ∷ []

-- those of an exception
abbrev pub exception_fields : Sys → List Field
exception_fields system = parts_fields (exception_id system.name) system.minor (completion system.completed)

-- the body of a reply without contexts, which begins at place 24
abbrev pub exception_body : Order → Sys → List ℕ
exception_body order system = fields_bytes order 24 (exception_fields system)
