-- What the replies of the map are as answers to requests: own profile.
use Rattle.std.specs.Prelude.{[], codes}
use Rattle.orb_base.specs.declared.order.Order.{Order}
use Rattle.orb_base.specs.declared.outcome.Outcome.{Outcome}
use Rattle.orb_base.specs.declared.outcome.Outcome.TheVariants.{Returned}
use Rattle.name_map.specs.declared.call.NamesReply.{NamesReply}
use Rattle.name_map.specs.declared.call.NamesReply.TheVariants.{Stored, Target, Key, Count, AlreadyBound, NoRoom, NotFound}
use Rattle.name_calls.specs.Bodies.{text, count, raised}

-- the answer in a byte order
abbrev pub answer : Order → NamesReply → Outcome
answer order Stored = Returned []
answer order (Target target) = text order target
answer order (Key key) = text order key
answer order (Count n) = count order n
answer order AlreadyBound = raised order (codes "IDL:Orb/AlreadyBound:1.0")
answer order NoRoom = raised order (codes "IDL:Orb/NoRoom:1.0")
answer order NotFound = raised order (codes "IDL:Orb/NotFound:1.0")
