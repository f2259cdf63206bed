-- A target of the program as plain data, without the spare room of its lists.
use Rattle.giop_messages.specs.Message as Spec
use Rattle.giop_messages.specs.declared.target.Target.{Target}
use Rattle.giop_messages.specs.declared.target.Target.TheVariants.{Key, Profile, Addressing}

-- the target that a value stands for
abbrev pub target_of : Target → Spec.Target
target_of (Key bytes) = Spec.key bytes.items
target_of (Profile tagged) = Spec.profile tagged
target_of (Addressing index type_id profiles) = Spec.addressing index type_id profiles.items
