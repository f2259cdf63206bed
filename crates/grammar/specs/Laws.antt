-- What reading by a grammar has to do with the texts that the grammar spells.
use Rattle.std.specs.Prelude.{◌≡◌, ℕ, true, false, [], Ok, Err}
use Rattle.grammar.specs.Language.{Language, RuleOf}
use Rattle.grammar.specs.Reading.{Stream, stream, State, read_whole}
use Rattle.grammar.specs.Grammar.{Sentence}
use Rattle.grammar.specs.Plain.{goes_on, is_plain, IsPlain}
use Rattle.grammar.specs.Refusal.{Whole, Refused, NoneHere}

-- what is read is a text of the rule, and what was built is built of it
abbrev pub ReadsTexts : Language → Type 0
ReadsTexts g = (depth : ℕ) (end : g.Kind) (r : RuleOf g) (s t : State g) → read_whole g depth end r s ≡ Ok t → Whole g (Sentence g depth r) end s.1 s.0 t.0

-- a text of a rule whose choices are told apart by one token is read, where all that is to be done along it may be done
abbrev pub ReadsEachText : Language → Type 0
ReadsEachText g =
    IsPlain g → (depth : ℕ) (end : g.Kind) (r : RuleOf g) → is_plain g r ≡ true → goes_on g r end ≡ false
    → (s : Stream g.Kind) (old new : g.Built) → Whole g (Sentence g depth r) end s old new → read_whole g depth end r (old, s) ≡ Ok (new, stream [] s.end)

-- and any other text is refused at its first token at fault: no text of the rule begins with the tokens before it and
-- that one, or what is to be done there is refused
abbrev pub StopsAtFirstFault : Language → Type 0
StopsAtFirstFault g =
    IsPlain g → (depth : ℕ) (end : g.Kind) (r : RuleOf g) → is_plain g r ≡ true → (s : State g) (f : g.Fault)
    → goes_on g r s.1.end.kind ≡ false → read_whole g depth end r s ≡ Err f → Refused g (NoneHere g depth end r) s f
