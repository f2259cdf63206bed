-- What is outside the program, as it is at one moment.
use Rattle.orb_base.specs.Filing.{FilesState}
use Rattle.orb_base.specs.Outside.{SourceState, SinkState}

-- what the store of files, standard input and standard output tell; further devices join as fields
pub record Moment : Type 0 where
  pub files : FilesState
  pub input : SourceState
  pub out : SinkState

-- the moment at which they tell this
abbrev pub moment : FilesState → SourceState → SinkState → Moment
moment files input out = record { files = files; input = input; out = out }
