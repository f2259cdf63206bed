-- How the listing of a file comes out: own profile.
use Rattle.std.specs.Prelude.{◌≡◌, ◌<◌, ℕ, List, length, None, Result, Err, IfSome, MatchOption, MatchResult}
use Rattle.orb_base.specs.Filing.{FilesState, content}
use Rattle.orb_base.specs.Outside.{SinkState, Rose}
use Rattle.text_streams.specs.Streams.{WroteText, WroteFrontOf}
use Rattle.idl_tokens.specs.declared.token.TheConstants.{MAX_TEXT}
use Rattle.idl_grammar.specs.declared.fault.IdlFault.{IdlFault}
use Rattle.idl_types.specs.Things.{Thing}
use Rattle.idl_lines.specs.declared.idl_end.IdlEnd.{IdlEnd}
use Rattle.idl_lines.specs.declared.idl_end.IdlEnd.TheVariants.{Done, Refused, Absent, TooLong, ReadFault, WriteFault, NoMemory}
use Rattle.idl_lines.specs.Listing.{listing}
use Rattle.idl_lines.specs.Texts.{FileDeclares, FileFails}

-- the listing of these things was written, or a prefix of it up to a fault of the sink; nothing where memory was wanting
abbrev pub Ends : IdlEnd → List Thing → SinkState → SinkState → Type 0
Ends Done things out out' = WroteText (listing things) out out' × (out'.faults ≡ out.faults)
Ends WriteFault things out out' = WroteFrontOf (listing things) out out' × Rose out.faults out'.faults
Ends NoMemory things out out' = out' ≡ out
Ends _ things out out' = ⊥

-- the file of this name declares things whose listing was written so
pub record Listed (end : IdlEnd) (files : FilesState) (name : List ℕ) (out out' : SinkState) : Type 0 where
  pub things : List Thing
  pub declares : FileDeclares files name things
  pub ends : Ends end things out out'

-- what comes of the file of a name: the listing of what it declares, or why there is none; then nothing was written
abbrev pub Lists : IdlEnd → List ℕ → FilesState → FilesState → SinkState → SinkState → Type 0
Lists Done name old new out out' = Listed Done old name out out' × (new.faults ≡ old.faults)
Lists WriteFault name old new out out' = Listed WriteFault old name out out' × (new.faults ≡ old.faults)
Lists (Refused f) name old new out out' = FileFails old name f × (new.faults ≡ old.faults) × (out' ≡ out)
Lists Absent name old new out out' = IfSome old.files (λ fs. content fs name ≡ None) × (new.faults ≡ old.faults) × (out' ≡ out)
Lists TooLong name old new out out' =
    IfSome old.files (λ fs. MatchOption (content fs name) ⊥ (λ bytes. MAX_TEXT < length bytes)) × (new.faults ≡ old.faults) × (out' ≡ out)
Lists ReadFault name old new out out' = Rose old.faults new.faults × (out' ≡ out)
Lists NoMemory name old new out out' = (new.faults ≡ old.faults) × (out' ≡ out)

-- where these things are declared, their listing was written, unless the store, the sink or memory failed
abbrev pub OnlyLists : IdlEnd → List Thing → SinkState → SinkState → Type 0
OnlyLists Done things out out' = WroteText (listing things) out out'
OnlyLists WriteFault things out out' = WroteFrontOf (listing things) out out'
OnlyLists ReadFault things out out' = Unit {0}
OnlyLists NoMemory things out out' = Unit {0}
OnlyLists _ things out out' = ⊥

-- the listing of what reading by the grammar gives was written, or its fault is given, unless the store, the sink or memory failed
abbrev pub ListsExactly : IdlEnd → Result (List Thing) IdlFault → SinkState → SinkState → Type 0
ListsExactly Done asked out out' = MatchResult asked (λ things. WroteText (listing things) out out') (λ f. ⊥)
ListsExactly WriteFault asked out out' = MatchResult asked (λ things. WroteFrontOf (listing things) out out') (λ f. ⊥)
ListsExactly (Refused f) asked out out' = asked ≡ Err f
ListsExactly ReadFault asked out out' = Unit {0}
ListsExactly NoMemory asked out out' = Unit {0}
ListsExactly _ asked out out' = ⊥
