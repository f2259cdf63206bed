-- Borrowed parts as plain data: the message that they are, with the lists that their readers are at.
use Rattle.orb_base.specs.NulFree.{HasNoNul}
use Rattle.cdr_core.specs.Lists.{listed, IsAtList, tagged_of, context_of}
use Rattle.giop_messages.specs.Message as Spec
use Rattle.giop_messages.specs.declared.parts.PartTarget.{PartTarget}
use Rattle.giop_messages.specs.declared.parts.PartTarget.TheVariants.{Key, Profile, Addressing}
use Rattle.giop_messages.specs.declared.parts.Parts.{Parts}
use Rattle.giop_messages.specs.declared.parts.Parts.TheVariants.{Request, Reply, Cancel, Locate, Located, Close, Error}

-- the target that parts are
abbrev pub parts_target : PartTarget → Spec.Target
parts_target (Key bytes) = Spec.key bytes.now
parts_target (Profile tag bytes) = Spec.profile (tagged_of (tag, bytes.now))
parts_target (Addressing index type_id profiles) = Spec.addressing index type_id.now (listed tagged_of profiles)

-- the message that parts are
abbrev pub parts_message : Parts → Spec.Message
parts_message (Request id flags target operation contexts body) = Spec.request (record {
  id = id;
  flags = flags;
  target = parts_target target;
  operation = operation.now;
  contexts = listed context_of contexts;
  body = body.now;
})
parts_message (Reply id status contexts body) = Spec.reply_of id status (listed context_of contexts) body.now
parts_message (Cancel id) = Spec.cancel id
parts_message (Locate id target) = Spec.locate (record { id = id; target = parts_target target })
parts_message (Located id status) = Spec.located (record { id = id; status = status })
parts_message Close = Spec.close
parts_message Error = Spec.error

-- the text of a target has no NUL, and its reader is at a list that has a reading
abbrev pub IsSoundTarget : PartTarget → Type 0
IsSoundTarget (Key bytes) = Unit {0}
IsSoundTarget (Profile tag bytes) = Unit {0}
IsSoundTarget (Addressing index type_id profiles) = HasNoNul type_id.now × IsAtList tagged_of profiles

-- no text has a NUL, and each reader is at a list that has a reading
abbrev pub AreSound : Parts → Type 0
AreSound (Request id flags target operation contexts body) = IsSoundTarget target × HasNoNul operation.now × IsAtList context_of contexts
AreSound (Reply id status contexts body) = IsAtList context_of contexts
AreSound (Cancel id) = Unit {0}
AreSound (Locate id target) = IsSoundTarget target
AreSound (Located id status) = Unit {0}
AreSound Close = Unit {0}
AreSound Error = Unit {0}
