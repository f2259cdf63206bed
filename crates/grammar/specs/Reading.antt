-- Reading by a grammar, up to the first token at fault.
use Rattle.std.specs.Prelude.{◌≡◌, ℕ, zero, suc, ◌+◌, ◌||◌, ◌&&◌, Bool, true, false, List, [], ◌∷◌, length, Option, Some, None, if◌then◌else◌, Result, Ok, Err}
pub use Rattle.idl_tokens.specs.Stream.{Stream, stream, first_or, front, rest_of, behind, is_empty}
use Rattle.grammar.specs.Rules.{Rule, one, does, ◌then◌, ◌or◌, maybe, many, chained, nested}
use Rattle.grammar.specs.Language.{Placed, Language, RuleOf}

-- what was built so far, and the tokens that are left
abbrev pub State : Language → Type 0
State g = g.Built × Stream g.Kind

-- what is built and left, or the fault
abbrev pub Reads : Language → Type 0
Reads g = Result (State g) g.Fault

infixl 10 ◌>>=◌
-- one reading and then another, up to the first fault
abbrev pub ◌>>=◌ : {A E : Type 0} → Result A E → (A → Result A E) → Result A E
(Ok x) >>= f = f x
(Err e) >>= f = Err e

-- the front token stops the rule
abbrev pub stop : (g : Language) → State g → Reads g
stop g s = Err (g.stop (front s.1))

-- what was built goes with the tokens that are left
abbrev pub acted : (g : Language) → Result g.Built g.Fault → Stream g.Kind → Reads g
acted g (Ok built) tokens = Ok (built, tokens)
acted g (Err fault) tokens = Err fault

-- the ending token is never taken
unfoldable pub take_one : (g : Language) → g.Kind → g.Label → State g → Reads g
take_one g kind label s =
    if is_empty s.1.tokens then stop g s
    else (if g.same (front s.1).kind kind then acted g (g.act label (front s.1) s.0) (behind s.1) else stop g s)

-- whether the rule may be empty
abbrev pub may_be_empty : (g : Language) → RuleOf g → Bool
may_be_empty g (one k l) = false
may_be_empty g (does l) = true
may_be_empty g (a then b) = may_be_empty g a && may_be_empty g b
may_be_empty g (a or b) = may_be_empty g a || may_be_empty g b
may_be_empty g (maybe a) = true
may_be_empty g (many a) = true
may_be_empty g (chained a o l) = may_be_empty g a && true
may_be_empty g (nested k o r c l) = false

-- whether the rule may begin with a token of this kind
abbrev pub begins : (g : Language) → RuleOf g → g.Kind → Bool
begins g (one k l) kind = g.same kind k
begins g (does l) kind = false
begins g (a then b) kind = (may_be_empty g a && begins g b kind) || begins g a kind
begins g (a or b) kind = begins g a kind || begins g b kind
begins g (maybe a) kind = begins g a kind
begins g (many a) kind = begins g a kind
begins g (chained a o l) kind = (may_be_empty g a && ((may_be_empty g o && ((may_be_empty g a && false) || begins g a kind)) || begins g o kind)) || begins g a kind
begins g (nested k o r c l) kind = g.same kind k

-- as long as the rule begins with the front token; the number is above that of the tokens
unfoldable pub repeated : (g : Language) → ℕ → (g.Kind → Bool) → (State g → Reads g) → State g → Reads g
repeated g zero begin turn s = Ok s
repeated g (suc n) begin turn s = if begin (front s.1).kind then turn s >>= repeated g n begin turn else Ok s

-- how the rules in brackets are read; nothing where no more brackets may open
abbrev pub Readers : Language → Type 0
Readers g = Option (g.Inner → State g → Reads g)

-- the opening token, the rule inside, and the closing one
abbrev pub bracketed : (g : Language) → g.Kind → g.Label → Readers g → g.Inner → g.Kind → g.Label → State g → Reads g
bracketed g k o None r c l s = stop g s
bracketed g k o (Some inner) r c l s = take_one g k o s >>= inner r >>= take_one g c l

-- A rule stops at the first of its parts that has no reading; an alternative is chosen by its first token.
-- Inside brackets the inner rule is read by `inner`; there is none where so many brackets are open.
abbrev pub by_rule : (g : Language) → Readers g → RuleOf g → State g → Reads g
by_rule g inner (one k l) s = take_one g k l s
by_rule g inner (does l) s = acted g (g.judge l s.0) s.1
by_rule g inner (a then b) s = by_rule g inner a s >>= by_rule g inner b
by_rule g inner (a or b) s = if begins g a (front s.1).kind then by_rule g inner a s else by_rule g inner b s
by_rule g inner (maybe a) s = if begins g a (front s.1).kind then by_rule g inner a s else Ok s
by_rule g inner (many a) s = repeated g (length s.1.tokens + 1) (begins g a) (by_rule g inner a) s
by_rule g inner (chained a o l) s =
    by_rule g inner a s >>= (λ t. repeated g (length t.1.tokens + 1) (λ kind. (may_be_empty g o && ((may_be_empty g a && false) || begins g a kind)) || begins g o kind) (λ u. by_rule g inner o u >>= (λ v. by_rule g inner a v >>= (λ w. acted g (g.judge l w.0) w.1))) t)
by_rule g inner (nested k o r c l) s = bracketed g k o inner r c l s

-- how a rule inside brackets is read where this many may still open
unfoldable pub read_inner : (g : Language) → ℕ → Readers g
read_inner g zero = None
read_inner g (suc depth) = Some (λ r. by_rule g (read_inner g depth) (g.inside r))

-- a rule is read, where this many brackets may open
unfoldable pub read_rule : (g : Language) → ℕ → RuleOf g → State g → Reads g
read_rule g depth = by_rule g (read_inner g depth)

-- nothing is left but the end, of this kind
unfoldable pub ended : (g : Language) → g.Kind → State g → Reads g
ended g end s = if is_empty s.1.tokens && g.same (front s.1).kind end then Ok s else stop g s

-- a text is the rule and nothing after it
unfoldable pub read_whole : (g : Language) → ℕ → g.Kind → RuleOf g → State g → Reads g
read_whole g depth end r s = read_rule g depth r s >>= ended g end
