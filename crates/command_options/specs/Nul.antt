-- Words that hold a NUL. Own profile.
use Rattle.std.specs.Prelude.{Bool, List, is_some}
use Rattle.std.specs.List.{list_any}
use Rattle.orb_base.specs.NulFree.{nul_at}
use Rattle.command_options.specs.Items.{Text}

-- one of the words holds a NUL
abbrev pub has_nul : List Text → Bool
has_nul words = list_any (λ word. is_some (nul_at word)) words
