-- What a slot invokes by: own profile.
use Rattle.std.specs.Prelude.{◌≡◌, ◌+◌, ℕ, List, [], ◌∷◌, ◌++◌, length}
use Rattle.orb_base.specs.declared.answer.Answer.{Answer}

-- a hand: the number of its slot, the invocations that were made by it with their outcomes, in order, and how many it may make yet
pub record HandState : Type 0 where
  pub slot : ℕ
  pub done : List Answer
  pub spare : ℕ

-- one invocation more was made, with this outcome
pub record Does (answer : Answer) (old new : HandState) : Type 0 where
  pub slot_is : new.slot ≡ old.slot
  pub done_is : new.done ≡ old.done ++ answer ∷ []
  pub spare_is : old.spare ≡ new.spare + 1

-- these invocations were made by the hand, in order, with their outcomes, and no other
pub record DidAll (answers : List Answer) (old new : HandState) : Type 0 where
  pub slot_is : new.slot ≡ old.slot
  pub done_is : new.done ≡ old.done ++ answers
  pub spare_is : old.spare ≡ new.spare + length answers
