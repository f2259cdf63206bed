-- Items whose messages fit into the limit of a message. Own profile.
use Rattle.std.specs.Prelude.{◌≡◌, ◌≤◌, ℕ, List, Some, slice_get}
use Rattle.orb_base.specs.Outcomes.{body_len}
use Rattle.orb_base.specs.declared.limits.TheConstants.{MAX_BODY}
use Rattle.orb_base.specs.declared.item.Item.{Item}
use Rattle.orb_base.specs.declared.item.Item.TheVariants.{Answered, Early, Transient, Noticed}

-- the body of the answer is no longer than an answer's may be
abbrev pub IsShort : Item → Type 0
IsShort (Answered answer) = body_len answer.outcome ≤ MAX_BODY
IsShort (Early _) = Unit {0}
IsShort (Transient _) = Unit {0}
IsShort (Noticed _) = Unit {0}

-- each item is short
abbrev pub AreShort : List Item → Type 0
AreShort items = (k : ℕ) (i : Item) → slice_get items k ≡ Some i → IsShort i
