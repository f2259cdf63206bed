-- What a stream means, its bytes mean as a whole input.
use Rattle.std.proofs.Common.{◌≡◌, ℕ, Bool, true, false, length, Option, Some, None, refl, ap, ◌∙◌}
use Rattle.std.specs.Prelude.{if◌then◌else◌, ◌==◌}
use Rattle.orb_base.specs.declared.limits.TheConstants.{MAX_MESSAGE}
use Rattle.giop_frames.specs.Stream.{stream}
use Rattle.giop_frames.specs.declared.fault.FrameFault.{FrameFault}
use Rattle.heard_calls.specs.Input.{at_end, ending_of}
use Rattle.heard_calls.specs.declared.ending.Ending.{Ending}
use Rattle.conn_engine.specs.HeardSoFar.{decided}
use Rattle.conn_engine.specs.Ends.{read_end}
use Rattle.conn_engine.specs.Laws.{StreamIsInput, StreamHasInput}
use Rattle.conn_engine.specs.declared.read_end.ReadEnd.TheVariants as read
use Rattle.conn_engine.specs.declared.read_end.TheConstants.{MAX_TAKEN}

-- nothing in the bytes ended the reading: it ended at the end of the input
at_input_end : (full ended : Bool) (rest : Option ℕ) (ending : Ending)
    → read.Ended ending ≡ (if full then read.Spent else if ended then read.Ended (at_end None rest) else read.ReadFault) → ending ≡ at_end None rest
at_input_end true ended rest ending is = absurd (cc)
at_input_end false true rest ending is = cc
at_input_end false false rest ending is = absurd (cc)

ends_as_input : (o : Option Ending) (bad : Option FrameFault) (taken : ℕ) (ended : Bool) (rest : Option ℕ) (ending : Ending)
    → read.Ended ending ≡ read_end (decided o bad) taken ended rest → ending ≡ ending_of o bad rest
ends_as_input (Some e) bad taken ended rest ending is = cc
ends_as_input None (Some f) taken ended rest ending is = cc
ends_as_input None None taken ended rest ending is = at_input_end (taken == MAX_TAKEN) ended rest ending is

pub stream_is_input : StreamIsInput
stream_is_input setup conn bytes ended calls ending h =
    let s = stream MAX_MESSAGE bytes in
    record {
      told = h.heard.told;
      hears = h.heard.hears;
      calls_are = h.heard.calls_are;
      ends = ends_as_input h.heard.told.ending s.bad (length bytes) ended s.rest ending
          (h.comes ∙ ap (λ (o : Option Ending). read_end o (length bytes) ended s.rest) h.heard.ends);
    }

pub stream_has_input : StreamHasInput
stream_has_input setup conn bytes ended calls end h =
    let s = stream MAX_MESSAGE bytes in (
      ending_of h.heard.told.ending s.bad s.rest,
      record { told = h.heard.told; hears = h.heard.hears; calls_are = h.heard.calls_are; ends = refl },
    )
