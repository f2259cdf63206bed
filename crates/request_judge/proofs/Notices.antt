-- Answers without a run, as calls of the lane machine.
use Rattle.std.proofs.Common.{◌≡◌, ℕ, refl}
use Rattle.std.specs.Option.{option_map}
use Rattle.orb_base.specs.declared.conn_id.ConnId.{ConnId}
use Rattle.orb_base.specs.declared.due.Due.{Due}
use Rattle.orb_base.specs.declared.due.Due.TheVariants as due
use Rattle.orb_base.specs.declared.notice.What.{What}
use Rattle.orb_base.specs.declared.order.Order.{Order}
use Rattle.lane_machine.specs.declared.call.LaneCall.TheVariants.{Post}
use Rattle.request_judge.specs.Calls.{notice_when, told_when}

pub posts_the_notice : (d : Due) (conn : ConnId) (order : Order) (id : ℕ) (what : What)
    → told_when d conn order id what ≡ option_map Post (notice_when d conn order id what)
posts_the_notice due.Nothing conn order id what = refl
posts_the_notice due.Early conn order id what = refl
posts_the_notice due.Late conn order id what = refl
