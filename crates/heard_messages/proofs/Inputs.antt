-- What a stream means, its bytes mean as a whole input.
use Rattle.std.proofs.Common.{◌≡◌, ◌≢◌, ℕ, Bool, true, false, List, ◌++◌, length, Option, Some, None, refl, ap, ◌∙◌, subst}
use Rattle.std.specs.Prelude.{if◌then◌else◌, ◌==◌, unwrap_or}
use Rattle.orb_base.specs.declared.limits.TheConstants.{MAX_MESSAGE}
use Rattle.orb_base.specs.declared.order.Order.{Order}
use Rattle.giop_frames.specs.Stream.{stream}
use Rattle.giop_messages.specs.Message.{Message}
use Rattle.heard_messages.specs.Hearers.{Hearer, IsNew, FeedsOn}
use Rattle.heard_messages.specs.Hearing.{HeardBy}
use Rattle.heard_messages.specs.Inputs.{HearsInput, HearsStream}
use Rattle.heard_messages.specs.ReadEnds.{input_end, read_end}
use Rattle.heard_messages.specs.declared.means.Means.{Means}
use Rattle.heard_messages.specs.declared.read_end.ReadEnd.{ReadEnd}
use Rattle.heard_messages.specs.declared.read_end.ReadEnd.TheVariants.{Spent, ReadFault}
use Rattle.heard_messages.specs.declared.read_end.TheConstants.{MAX_TAKEN}

-- nothing in the bytes ended the reading: it ended at the end of the input
at_input_end : (full ended : Bool) (rest : Option ℕ) (end : ReadEnd) → end ≡ (if full then Spent else if ended then input_end rest else ReadFault) → end ≢ Spent → end ≢ ReadFault
    → end ≡ input_end rest
at_input_end true ended rest end is not_spent not_fault = absurd (not_spent is)
at_input_end false true rest end is not_spent not_fault = is
at_input_end false false rest end is not_spent not_fault = absurd (not_fault is)

ends_as_input : (o : Option ReadEnd) (taken : ℕ) (ended : Bool) (rest : Option ℕ) (end : ReadEnd) → end ≡ read_end o taken ended rest → end ≢ Spent → end ≢ ReadFault
    → end ≡ unwrap_or o (input_end rest)
ends_as_input (Some e) taken ended rest end is not_spent not_fault = is
ends_as_input None taken ended rest end is not_spent not_fault = at_input_end (taken == MAX_TAKEN) ended rest end is not_spent not_fault

module _ {B C : Type 0} (means : B → ℕ → Order → ℕ → Message → Means B C → Type 0) where
  pub stream_is_input : (first : B) (bytes : List ℕ) (ended : Bool) (calls : List C) (end : ReadEnd) → HearsStream means first bytes ended calls end → end ≢ Spent → end ≢ ReadFault
      → HearsInput means first bytes calls end
  stream_is_input first bytes ended calls end h not_spent not_fault =
      record { ending = h.ending; heard = h.heard; comes = ends_as_input h.ending (length bytes) ended (stream MAX_MESSAGE bytes).rest end h.comes not_spent not_fault }

  pub stream_has_input : (first : B) (bytes : List ℕ) (ended : Bool) (calls : List C) (end : ReadEnd) → HearsStream means first bytes ended calls end
      → (whole : ReadEnd) × HearsInput means first bytes calls whole
  stream_has_input first bytes ended calls end h =
      (unwrap_or h.ending (input_end (stream MAX_MESSAGE bytes).rest), record { ending = h.ending; heard = h.heard; comes = refl })

module _ {J B C : Type 0} (first : J → B) (means : J → B → ℕ → Order → ℕ → Message → Means B C → Type 0) where
  -- one piece of a reading that begins
  pub whole_heard : (judge : J) (h h' : Hearer J B C) (bytes : List ℕ) (calls : List C) (ending : Option ReadEnd) (end : ReadEnd) → IsNew first means judge h
      → FeedsOn first means h h' bytes calls ending → end ≡ unwrap_or ending (input_end (stream MAX_MESSAGE h'.framer.fed).rest) → HearsInput (means judge) (first judge) bytes calls end
  whole_heard judge h h' bytes calls ending end new feeds is =
      let fed : h'.framer.fed ≡ bytes = feeds.fed_is ∙ ap (λ (b : List ℕ). b ++ bytes) new.none_fed in
      let given : h'.calls ≡ calls = feeds.calls_are ∙ ap (λ (cs : List C). cs ++ calls) new.none_given in
      record {
        ending = ending;
        heard = subst (λ (j : J). HeardBy (means j) (first j) bytes calls ending) (feeds.same_judge ∙ new.judge_is)
            (subst (λ (b : List ℕ). HeardBy (means h'.judge) (first h'.judge) b calls ending) fed
            (subst (λ (cs : List C). HeardBy (means h'.judge) (first h'.judge) h'.framer.fed cs ending) given feeds.heard));
        comes = is ∙ ap (λ (b : List ℕ). unwrap_or ending (input_end (stream MAX_MESSAGE b).rest)) fed;
      }
