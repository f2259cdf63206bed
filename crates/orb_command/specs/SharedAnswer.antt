-- What the note of `orb call` with several callers means.
use Rattle.std.specs.Prelude.{◌≡◌}
use Rattle.orb_base.specs.Filing.{FilesState}
use Rattle.orb_base.specs.Outside.{SourceState, SinkState}
use Rattle.orb_nets.specs.Nets.{NetState}
use Rattle.shared_calls.specs.Runs.{Team, SharesWith}
use Rattle.shared_calls.specs.declared.shared_call.SharedCall.{SharedCall}
use Rattle.orb_command.specs.CallAnswer.{note_of_end}
use Rattle.orb_command.specs.declared.shared.SharedTold.{SharedTold}

module _ {I O : Type 0} (source : I → SourceState) (sink : O → SinkState) where
  -- a call of several callers came out so, by its words: the store knows the same files as before, and nothing was listened for
  pub record SharesSo (team : Team) (told : SharedTold I O) (files files' : FilesState) (net net' : NetState I O) (out out' : SinkState)
      : Type 0 where
    pub answer : SharedCall I O
    pub note : told.note ≡ note_of_end answer.end
    pub run : told.run ≡ answer.run
    pub link : told.link ≡ answer.link
    pub shares : SharesWith source sink team answer files files' net net' out out'
    pub kept : files'.files ≡ files.files
    pub slots : net'.slots ≡ net.slots
