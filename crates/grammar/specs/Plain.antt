-- Whether the choices of a grammar are told apart by one token.
use Rattle.std.specs.Prelude.{◌≡◌, ◌||◌, ◌&&◌, Bool, true, false, not}
use Rattle.grammar.specs.Rules.{Rule, one, does, ◌then◌, ◌or◌, maybe, many, chained, nested, turn}
use Rattle.grammar.specs.Language.{Language, RuleOf}
use Rattle.grammar.specs.Reading.{may_be_empty, begins}

-- whether a token of this kind may go on after what the rule spells
abbrev pub goes_on : (g : Language) → RuleOf g → g.Kind → Bool
goes_on g (one k l) kind = false
goes_on g (does l) kind = false
goes_on g (a then b) kind = (may_be_empty g b && goes_on g a kind) || goes_on g b kind
goes_on g (a or b) kind = goes_on g a kind || goes_on g b kind
goes_on g (maybe a) kind = begins g a kind || goes_on g a kind
goes_on g (many a) kind = begins g a kind || goes_on g a kind
-- after a chain what goes on after its first, a further turn, and where the first may be empty what goes on after the second
goes_on g (chained a o l) kind = goes_on g a kind || (begins g (turn a o l) kind || (may_be_empty g a && goes_on g o kind))
goes_on g (nested k o r c l) kind = false

-- whether some kind that begins the rule is such
abbrev pub some_first : (g : Language) → (g.Kind → Bool) → RuleOf g → Bool
some_first g such (one k l) = such k
some_first g such (does l) = false
some_first g such (a then b) = (may_be_empty g a && some_first g such b) || some_first g such a
some_first g such (a or b) = some_first g such a || some_first g such b
some_first g such (maybe a) = some_first g such a
some_first g such (many a) = some_first g such a
some_first g such (chained a o l) = some_first g such a || (may_be_empty g a && some_first g such o)
some_first g such (nested k o r c l) = such k

-- whether some kind that goes on after the rule is such
abbrev pub some_next : (g : Language) → (g.Kind → Bool) → RuleOf g → Bool
some_next g such (one k l) = false
some_next g such (does l) = false
some_next g such (a then b) = (may_be_empty g b && some_next g such a) || some_next g such b
some_next g such (a or b) = some_next g such a || some_next g such b
some_next g such (maybe a) = some_first g such a || some_next g such a
some_next g such (many a) = some_first g such a || some_next g such a
some_next g such (chained a o l) =
    some_next g such a || ((some_first g such o || (may_be_empty g o && some_first g such a)) || (may_be_empty g a && some_next g such o))
some_next g such (nested k o r c l) = false

-- one token tells which alternative it is, and whether an option or a repetition goes on
abbrev pub is_plain : (g : Language) → RuleOf g → Bool
is_plain g (one k l) = true
is_plain g (does l) = true
is_plain g (a then b) = not (some_next g (begins g b) a) && is_plain g a && is_plain g b
is_plain g (a or b) = not (may_be_empty g a) && not (may_be_empty g b) && not (some_first g (begins g b) a) && is_plain g a && is_plain g b
is_plain g (maybe a) = not (may_be_empty g a) && is_plain g a
is_plain g (many a) = not (may_be_empty g a) && not (some_next g (begins g a) a) && is_plain g a
-- in a chain it tells whether a turn goes on, and whether the first comes again after the second; a turn has a token
is_plain g (chained a o l) =
    is_plain g a && is_plain g o && not (may_be_empty g o && may_be_empty g a) && not (some_next g (begins g (a then does l)) o)
    && not (some_next g (begins g (turn a o l)) a) && not (may_be_empty g a && some_next g (begins g (turn a o l)) o)
is_plain g (nested k o r c l) = not (goes_on g (g.inside r) c)

-- kinds that are given the same are one kind, and the rules in brackets are plain
pub record IsPlain (g : Language) : Type 0 where
  pub same_is : (a b : g.Kind) → g.same a b ≡ true → a ≡ b
  pub inside_is : (r : g.Inner) → is_plain g (g.inside r) ≡ true
