-- What a command other than the server, the name service and a call answers: the net was not asked.
use Rattle.std.proofs.Common.{◌≡◌, [], None, refl, sym, subst}
use Rattle.orb_base.specs.Links.{AcceptorState}
use Rattle.orb_base.specs.Outside.{SourceState, SinkState}
use Rattle.orb_nets.specs.Nets.{NetState}
use Rattle.command_words.specs.declared.meaning.Meaning.{Meaning}
use Rattle.command_words.specs.declared.meaning.Meaning.TheVariants.{Pipe, Serve, Names, Dump, Audit, Refs, RefsAt, Idl, Call, SharedCall, Load, Unread}
use Rattle.orb_command.specs.declared.answered.Answered.{Answered}
use Rattle.orb_command.specs.declared.answered.Reported.{Reported}
use Rattle.orb_command.specs.Command.{Reports, Answers, LeavesNet, Unlinked, UsesNet, report_of}
use Rattle.orb_command.specs.Moment.{Moment}

-- the words mean another command than the server, the name service and a call
abbrev pub IsPlain : Meaning → Type 0
IsPlain (Serve words) = ⊥
IsPlain (Names at) = ⊥
IsPlain (Pipe words) = Unit {0}
IsPlain Dump = Unit {0}
IsPlain Audit = Unit {0}
IsPlain Refs = Unit {0}
IsPlain (RefsAt place config) = Unit {0}
IsPlain (Idl name) = Unit {0}
IsPlain (Call words) = ⊥
IsPlain (SharedCall words callers) = ⊥
IsPlain (Load words) = Unit {0}
IsPlain Unread = Unit {0}

module _ {A I O : Type 0} (state : A → AcceptorState I O) (source : I → SourceState) (sink : O → SinkState) where
  leaves_net : (command : Meaning) (answered : Answered A I O) (before after : Moment) (net : NetState I O) → IsPlain command
      → LeavesNet answered net net → UsesNet state source sink command answered before after net net
  leaves_net (Serve words) answered before after net plain h = absurd plain
  leaves_net (Names at) answered before after net plain h = absurd plain
  leaves_net (Pipe words) answered before after net plain h = h
  leaves_net Dump answered before after net plain h = h
  leaves_net Audit answered before after net plain h = h
  leaves_net Refs answered before after net plain h = h
  leaves_net (RefsAt place config) answered before after net plain h = h
  leaves_net (Idl name) answered before after net plain h = h
  leaves_net (Call words) answered before after net plain h = absurd plain
  leaves_net (SharedCall words callers) answered before after net plain h = absurd plain
  leaves_net (Load words) answered before after net plain h = h
  leaves_net Unread answered before after net plain h = h

  pub plain_answers : (command : Meaning) (reported : Reported) (answered : Answered A I O) (before after : Moment) (net : NetState I O)
      → IsPlain command → Reports command reported before after → report_of answered ≡ reported → answered.runs.items ≡ [] → answered.names ≡ None → answered.acceptors.items ≡ [] → Unlinked answered
      → Answers state source sink command answered before after net net
  plain_answers command reported answered before after net plain h same runs unnamed none link = record {
    reports = subst (λ r. Reports command r before after) (sym same) h;
    uses = leaves_net command answered before after net plain (record { runs = runs; names = unnamed; acceptors = none; link = link; unasked = refl });
  }
