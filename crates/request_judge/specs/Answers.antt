-- What the client of a refused request is given: CORBA 3.0.3, section 4.12. The minor codes are own profile.
use Rattle.std.specs.Prelude.{ℕ}
use Rattle.orb_base.specs.declared.notice.What.{What}
use Rattle.orb_base.specs.declared.notice.What.TheVariants.{System, Addressing}
use Rattle.orb_base.specs.declared.system.SysName.{SysName}
use Rattle.orb_base.specs.declared.system.SysName.TheVariants.{Marshal, ObjectNotExist, InvPolicy, DataConversion}
use Rattle.orb_base.specs.declared.system.Completed.TheVariants.{No}
use Rattle.request_judge.specs.declared.refusal.Refusal.{Refusal}
use Rattle.request_judge.specs.declared.refusal.Refusal.TheVariants.{NoKey, BadContext, UnknownObject, NoBand, BandWithoutLane, NoTransform, OutsideBand, NoNative, NoLane}

-- a system exception before the operation was begun
abbrev pub refused : SysName → ℕ → What
refused name minor = System (record { name = name; minor = minor; completed = No })

-- what a refusal is answered
abbrev pub answer_of : Refusal → What
answer_of NoKey = Addressing
answer_of BadContext = refused Marshal 2
answer_of UnknownObject = refused ObjectNotExist 1
answer_of NoBand = refused Marshal 2
answer_of BandWithoutLane = refused InvPolicy 5
answer_of NoTransform = refused DataConversion 2
answer_of OutsideBand = refused InvPolicy 4
answer_of NoNative = refused DataConversion 1
answer_of NoLane = refused InvPolicy 3
