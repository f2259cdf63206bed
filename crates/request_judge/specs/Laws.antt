-- Laws of judging.
use Rattle.std.specs.Prelude.{◌≡◌, Option, Result}
use Rattle.orb_base.specs.Span.{Span}
use Rattle.giop_messages.specs.Message.{Request}
use Rattle.adapter_policies.specs.SetupData.{SetupData}
use Rattle.request_judge.specs.InHall.{JudgesInHall}
use Rattle.request_judge.specs.Judging.{Judges}
use Rattle.request_judge.specs.declared.refusal.Refusal.{Refusal}
use Rattle.request_judge.specs.declared.verdict.Place.{Place}
use Rattle.request_judge.specs.declared.verdict.Verdict.{Verdict}

-- there are no two verdicts of one request
abbrev pub JudgesOneWay : Type 0
JudgesOneWay = (setup : SetupData) (band : Option Span) (r : Request) (a b : Result Verdict Refusal)
    → Judges setup band r a → Judges setup band r b → a ≡ b

-- there are no two places of one request without lanes, nor a place and a refusal
abbrev pub JudgesInHallOneWay : Type 0
JudgesInHallOneWay = (setup : SetupData) (r : Request) (a b : Result Place Refusal) → JudgesInHall setup r a → JudgesInHall setup r b → a ≡ b
