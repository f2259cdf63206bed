-- What a slot's hand keeps of its connections.
use Rattle.std.proofs.Common.{◌≡◌, ℕ, ◌+◌, Bool, false, List, [], ◌∷◌, ◌++◌, length, refl, sym, ap, subst, ◌∙◌, append-nil, length-append}
use Rattle.std.specs.List.{flat_map}
use Rattle.std.proofs.lemmas.List.Concat.{flat_map-append}
use Rattle.orb_base.specs.Outside.{SourceState, SinkState}
use Rattle.orb_base.specs.declared.answer.Answer.{Answer}
use Rattle.adapter_policies.specs.SetupData.{SetupData}
use Rattle.link_slots.specs.Slots.{AreLinksServed, none, one}
use Rattle.halls.specs.Calls.{MadeBy}
use Rattle.halls.specs.Hands.{HandState, DidAll}
use Rattle.halls.specs.Laws.{SlotKeepsParts}
use Rattle.halls.specs.Served.{ServesLink}
use Rattle.halls.specs.Sides.{took_by}
use Rattle.halls.specs.Steps.{Step, answers_in, answers_of, Making, StopsAtLast}
use Rattle.halls.specs.declared.ends.Took.{Took}
use Rattle.halls.specs.declared.ends.Took.TheVariants.{All, RunClosed, Stopped}
use Rattle.halls.specs.declared.host.LinkLog.{LinkLog}
use Rattle.halls.proofs.Steps.{did_none, did_more}

did_to_stop : (steps : List Step) (old new : Making) → StopsAtLast steps old new → DidAll (answers_of steps) old.hand new.hand
did_to_stop steps old new x =
    subst (λ (z : List Step). DidAll (answers_of z) old.hand new.hand) (sym x.parts)
    (subst (λ (z : List Answer). DidAll z old.hand new.hand)
    (ap (λ (z : List Answer). answers_of x.first ++ z) (sym (append-nil (answers_in x.last))) ∙ sym (flat_map-append answers_in x.first (x.last ∷ [])))
    (did_more (answers_of x.first) (answers_in x.last) old.hand x.mid.hand new.hand x.makes.did x.did))

did_by : (r : Took) (steps : List Step) (old new : Making) → MadeBy r steps old new → DidAll (answers_of steps) old.hand new.hand
did_by All steps old new x = x.did
did_by RunClosed steps old new x = x.did
did_by Stopped steps old new x = did_to_stop steps old new x

-- the parts, one after another
abbrev joined : List (List Answer) → List Answer
joined parts = flat_map (λ part. part) parts

one_more : (parts : List (List Answer)) (part : List Answer) → joined parts ++ part ≡ joined (parts ++ part ∷ [])
one_more parts part =
    sym (flat_map-append (λ (p : List Answer). p) parts (part ∷ []) ∙ ap (λ (z : List Answer). joined parts ++ z) (append-nil part))

module _ {I O H : Type 0} (source : I → SourceState) (sink : O → SinkState) (held : H → HandState) where
  -- the parts of some connections
  abbrev Kept : H → H → List (LinkLog I O) → Type 0
  Kept before after logs = (parts : List (List Answer)) × (length parts ≡ length logs) × DidAll (joined parts) (held before) (held after)

  -- one connection more
  kept_more : (before mid after : H) (logs : List (LinkLog I O)) (log : LinkLog I O) (part : List Answer) → Kept before mid logs → DidAll part (held mid) (held after)
      → Kept before after (logs ++ log ∷ [])
  kept_more before mid after logs log part (parts, many, did) d = (
    parts ++ part ∷ [],
    length-append parts (part ∷ []) ∙ ap (λ (k : ℕ). k + 1) many ∙ sym (length-append logs (log ∷ [])),
    subst (λ (z : List Answer). DidAll z (held before) (held after)) (one_more parts part) (did_more (joined parts) part (held before) (held mid) (held after) did d),
  )

  slot_kept : (setup : SetupData) (before after : H) (links : List (I × O)) (logs : List (LinkLog I O)) (closed : Bool)
      → AreLinksServed (ServesLink source sink setup held) before links logs closed after → Kept before after logs
  slot_kept setup before after links logs closed (none p) = ([], refl, did_none (held p))
  slot_kept setup before after links logs closed (one p xs ls job done a e s) =
      kept_more p job.place done.place ls done.log (answers_of s.sides.reads.takes.steps) (slot_kept setup p job.place xs ls false a)
      (did_by (took_by done.log.read) s.sides.reads.takes.steps _ _ s.sides.reads.takes.made)

  pub slot_keeps : SlotKeepsParts source sink held
  slot_keeps setup before after links logs closed served = slot_kept setup before after links logs closed served
