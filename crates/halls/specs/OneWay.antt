-- What a message means in a hall is one thing: the law of its judge.
use Rattle.std.proofs.Common.{Result, sym, ap, ◌∙◌}
use Rattle.orb_base.specs.declared.conn_id.ConnId.{ConnId}
use Rattle.giop_messages.specs.Message.{request, reply, cancel, locate, located, close, error}
use Rattle.heard_messages.specs.Hearing.{IsOneWay}
use Rattle.heard_messages.specs.declared.means.Means.TheVariants.{Goes}
use Rattle.adapter_policies.specs.SetupData.{SetupData}
use Rattle.request_judge.specs.declared.refusal.Refusal.{Refusal}
use Rattle.request_judge.specs.declared.verdict.Place.{Place}
use Rattle.request_judge.proofs.Halls.{one_place}
use Rattle.halls.specs.Meaning.{call_of, means}

pub means_one_thing : (setup : SetupData) (conn : ConnId) → IsOneWay (means setup conn)
means_one_thing setup conn bound serial order size (request r) x y p q =
    p.2 ∙ ap (λ (v : Result Place Refusal). Goes tt (call_of conn serial order size r v)) (one_place setup r p.0 q.0 p.1 q.1) ∙ sym q.2
means_one_thing setup conn bound serial order size (reply r) x y p q = p ∙ sym q
means_one_thing setup conn bound serial order size (cancel id) x y p q = p ∙ sym q
means_one_thing setup conn bound serial order size (locate l) x y p q = p ∙ sym q
means_one_thing setup conn bound serial order size (located l) x y p q = p ∙ sym q
means_one_thing setup conn bound serial order size close x y p q = p ∙ sym q
means_one_thing setup conn bound serial order size error x y p q = p ∙ sym q
