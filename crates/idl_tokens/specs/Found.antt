-- What a text was cut into.
use Rattle.std.specs.Prelude.{map}
use Rattle.idl_tokens.specs.declared.kind.Kind.{Kind}
use Rattle.idl_tokens.specs.declared.cutting.Found.{Found}
use Rattle.idl_tokens.specs.Placed.{seen}
use Rattle.idl_tokens.specs.Stream.{Stream, stream}

-- the tokens that were found, with what ends them
abbrev pub found_stream : Found → Stream Kind
found_stream found = stream (map seen found.tokens.items) (seen found.end)
