-- Bytes mean one thing so far, and further bytes add to it.
use Rattle.std.proofs.Common.{◌≡◌, List, ◌++◌, Option, Some, None, refl, sym, ap, ◌∙◌, subst}
use Rattle.orb_base.specs.declared.conn_id.ConnId.{ConnId}
use Rattle.orb_base.specs.declared.limits.TheConstants.{MAX_MESSAGE}
use Rattle.giop_frames.specs.Messages as Frames
use Rattle.giop_frames.specs.Stream.{Said, stream}
use Rattle.giop_frames.specs.declared.fault.FrameFault.{FrameFault}
use Rattle.lane_machine.specs.declared.call.LaneCall.{LaneCall}
use Rattle.adapter_policies.specs.SetupData.{SetupData}
use Rattle.heard_calls.specs.Hearing.{Told, Hears}
use Rattle.heard_calls.specs.Laws.{GoesOn}
use Rattle.heard_calls.specs.declared.ending.Ending.{Ending}
use Rattle.heard_calls.proofs.OneMeaning.{hears_one, goes_on}
use Rattle.conn_engine.specs.HeardSoFar.{decided}
use Rattle.conn_engine.specs.Laws.{GrowsBy, HeardIsOne, HearingGrows}
use Rattle.giop_frames.proofs.Grows.{Grows, stream_grows}

pub heard_is_one : HeardIsOne
heard_is_one setup conn bytes a b first second h k =
    let same = hears_one setup conn (stream MAX_MESSAGE bytes).messages None 0 h.told k.told h.hears k.hears in (
      h.calls_are ∙ ap (λ (t : Told). t.calls) same ∙ sym k.calls_are,
      h.ends ∙ ap (λ (t : Told). decided t.ending (stream MAX_MESSAGE bytes).bad) same ∙ sym k.ends,
    )

-- by how a message ended the reading, and by what the stream breaks
grows_by : (o : Option Ending) (bad : Option FrameFault) (setup : SetupData) (conn : ConnId) (s s' : Said) (calls all : List LaneCall) (first ending : Option Ending) (told behind : Told)
    → told.ending ≡ o → s.bad ≡ bad → Grows s s' → Hears setup conn s.messages None 0 told → Hears setup conn s'.messages None 0 behind
    → calls ≡ told.calls → all ≡ behind.calls → first ≡ decided told.ending s.bad → ending ≡ decided behind.ending s'.bad → GrowsBy (decided o bad) calls all ending
grows_by (Some e) bad setup conn s s' calls all first ending told behind is broke g h k are are' ends ends' =
    let goes : GoesOn told.ending setup conn g.new 0 told behind =
    goes_on setup conn s.messages g.new None 0 told behind h (subst (λ (ms : List Frames.Message). Hears setup conn ms None 0 behind) g.more k) in
    let same : behind ≡ told = subst (λ (o : Option Ending). GoesOn o setup conn g.new 0 told behind) is goes in (
      are' ∙ ap (λ (t : Told). t.calls) same ∙ sym are,
      ends' ∙ ap (λ (t : Told). decided t.ending s'.bad) same ∙ ap (λ (o : Option Ending). decided o s'.bad) is,
    )
grows_by None None setup conn s s' calls all first ending told behind is broke g h k are are' ends ends' =
    let goes : GoesOn told.ending setup conn g.new 0 told behind =
    goes_on setup conn s.messages g.new None 0 told behind h (subst (λ (ms : List Frames.Message). Hears setup conn ms None 0 behind) g.more k) in
    let on : GoesOn None setup conn g.new 0 told behind = subst (λ (o : Option Ending). GoesOn o setup conn g.new 0 told behind) is goes in
    (on.0.calls, are' ∙ ap (λ (t : Told). t.calls) on.2 ∙ ap (λ (cs : List LaneCall). cs ++ on.0.calls) (sym are))
grows_by None (Some f) setup conn s s' calls all first ending told behind is broke g h k are are' ends ends' =
    let stops : s' ≡ s = g.stops f broke in
    let again : Hears setup conn s.messages None 0 behind = subst (λ (x : Said). Hears setup conn x.messages None 0 behind) stops k in
    let same : behind ≡ told = hears_one setup conn s.messages None 0 behind told again h in (
      are' ∙ ap (λ (t : Told). t.calls) same ∙ sym are,
      ends' ∙ ap (λ (t : Told). decided t.ending s'.bad) same ∙ ap (λ (x : Said). decided told.ending x.bad) stops
          ∙ ap (λ (o : Option Ending). decided o s.bad) is ∙ ap (decided None) broke,
    )

pub hearing_grows : HearingGrows
hearing_grows setup conn bytes more calls all first ending h k =
    subst (λ (o : Option Ending). GrowsBy o calls all ending) (sym h.ends)
    (grows_by h.told.ending (stream MAX_MESSAGE bytes).bad setup conn (stream MAX_MESSAGE bytes) (stream MAX_MESSAGE (bytes ++ more)) calls all first ending h.told k.told
    refl refl (stream_grows MAX_MESSAGE bytes more) h.hears k.hears h.calls_are k.calls_are h.ends k.ends)
