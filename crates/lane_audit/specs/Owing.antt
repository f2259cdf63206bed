-- What a connection is owed, as the lane machine has it.
use Rattle.orb_base.specs.declared.item.Item.{Item}
use Rattle.orb_base.specs.declared.item.Item.TheVariants as item
use Rattle.trace_lines.specs.ReadBack.{answer_of, notice_of}
use Rattle.lane_audit.specs.declared.owed_item.Owed.{Owed}
use Rattle.lane_audit.specs.declared.owed_item.Owed.TheVariants as owed

-- the item of what is owed
abbrev pub item_of : Owed → Item
item_of (owed.Answered job len) = item.Answered (answer_of job len)
item_of (owed.Early job) = item.Early job
item_of (owed.Transient job) = item.Transient job
item_of (owed.Posted conn id) = item.Noticed (notice_of conn id)
