-- Each label changes the height of each stack by what it takes and puts.
use Rattle.std.proofs.Common.{◌≡◌, ◌≤◌, ℕ, suc, ℤ, ◌+◌, List, [], ◌∷◌, length, Option, Some, None, Result, Ok, Err, refl, subst, arith}
use Rattle.idl_tokens.specs.Placed.{Placed}
use Rattle.idl_tokens.specs.Quotes.{unquoted}
use Rattle.idl_tokens.specs.Stream.{rest_of}
use Rattle.idl_tokens.specs.declared.kind.Kind.{Kind}
use Rattle.orb_base.specs.NulFree.{nul_at}
use Rattle.grammar.specs.Grammar.{MarkOf, took, did, act_mark}
use Rattle.script_grammar.specs.declared.fault.ScriptFault.{ScriptFault}
use Rattle.script_grammar.specs.declared.label.ScriptLabel.{ScriptLabel}
use Rattle.script_grammar.specs.declared.label.ScriptLabel.TheVariants as l
use Rattle.servant_scripts.specs.Drafts.{Draft}
use Rattle.servant_scripts.specs.Labels.{with_number, with_text, settle, act}
use Rattle.servant_scripts.specs.Literals.{literal_of}
use Rattle.servant_scripts.specs.Scripts.{scripts}
use Rattle.script_depths.proofs.Counting.{Effect}
use Rattle.script_depths.proofs.Stacks.{Stack, places, unaries, binaries, waiting, names, phrases, lists, fields, blocks, height, there, alone, effect_at}

-- a height that an effect has changed
abbrev Moved : ℕ → ℕ → Effect → Type 0
Moved new old e = new + e.0 ≡ old + e.1

-- one more
pushed : (n : ℕ) → suc n + 0 ≡ n + 1
pushed n = omega arith

-- one less
popped : {A : Type 0} (xs : List A) → 1 ≤ length xs → length (rest_of xs) + 1 ≡ length xs + 0
popped [] h = absurd (omega arith)
popped (x ∷ xs) h = omega arith

-- one in place of one
changed : {A : Type 0} (xs : List A) → 1 ≤ length xs → suc (length (rest_of xs)) + 1 ≡ length xs + 1
changed [] h = absurd (omega arith)
changed (x ∷ xs) h = omega arith

-- one in place of two
joined : {A : Type 0} (xs : List A) → 2 ≤ length xs → suc (length (rest_of (rest_of xs))) + 2 ≡ length xs + 1
joined [] h = absurd (omega arith)
joined (x ∷ []) h = absurd (omega arith)
joined (x ∷ y ∷ xs) h = omega arith

-- one in place of three
chosen : {A : Type 0} (xs : List A) → 3 ≤ length xs → suc (length (rest_of (rest_of (rest_of xs)))) + 3 ≡ length xs + 1
chosen [] h = absurd (omega arith)
chosen (x ∷ []) h = absurd (omega arith)
chosen (x ∷ y ∷ []) h = absurd (omega arith)
chosen (x ∷ y ∷ z ∷ xs) h = omega arith

settle_moves : (label : ScriptLabel) (s : Stack) (d : Draft) → (alone s label).0 ≤ height s d
    → Moved (height s (settle label d)) (height s d) (alone s label)
settle_moves l.Wrap places d h = popped d.places h
settle_moves l.Wrap unaries d h = popped d.unaries h
settle_moves l.Wrap phrases d h = changed d.phrases h
settle_moves l.Wrap s d h = refl
settle_moves l.Join binaries d h = popped d.binaries h
settle_moves l.Join phrases d h = joined d.phrases h
settle_moves l.Join s d h = refl
settle_moves l.UseName names d h = popped d.names h
settle_moves l.UseName phrases d h = pushed (length d.phrases)
settle_moves l.UseName s d h = refl
settle_moves l.Item phrases d h = popped d.phrases h
settle_moves l.Item lists d h = changed d.lists h
settle_moves l.Item s d h = refl
settle_moves l.EndList places d h = popped d.places h
settle_moves l.EndList lists d h = popped d.lists h
settle_moves l.EndList phrases d h = pushed (length d.phrases)
settle_moves l.EndList s d h = refl
settle_moves l.OpenFields fields d h = pushed (length d.fields)
settle_moves l.OpenFields s d h = refl
settle_moves l.Field waiting d h = popped d.waiting h
settle_moves l.Field phrases d h = popped d.phrases h
settle_moves l.Field fields d h = changed d.fields h
settle_moves l.Field s d h = refl
settle_moves l.OpenBlock blocks d h = pushed (length d.blocks)
settle_moves l.OpenBlock s d h = refl
settle_moves l.Let places d h = popped d.places h
settle_moves l.Let waiting d h = popped d.waiting h
settle_moves l.Let phrases d h = popped d.phrases h
settle_moves l.Let blocks d h = changed d.blocks h
settle_moves l.Let s d h = refl
settle_moves l.Set waiting d h = popped d.waiting h
settle_moves l.Set phrases d h = popped d.phrases h
settle_moves l.Set blocks d h = changed d.blocks h
settle_moves l.Set s d h = refl
settle_moves l.If phrases d h = popped d.phrases h
settle_moves l.If blocks d h = chosen d.blocks h
settle_moves l.If s d h = refl
settle_moves l.Leave places d h = popped d.places h
settle_moves l.Leave blocks d h = changed d.blocks h
settle_moves l.Leave s d h = refl
settle_moves l.Return places d h = popped d.places h
settle_moves l.Return phrases d h = popped d.phrases h
settle_moves l.Return blocks d h = changed d.blocks h
settle_moves l.Return s d h = refl
settle_moves l.Servant places d h = popped d.places h
settle_moves l.Servant names d h = popped d.names h
settle_moves l.Servant s d h = refl
settle_moves label places d h = refl
settle_moves label s d h = refl

-- what a step gives, where it isn't refused, has the height that the effect says
abbrev Moves : Stack → Result Draft ScriptFault → Draft → Effect → Type 0
Moves s (Ok c) d e = Moved (height s c) (height s d) e
Moves s (Err f) d e = Unit {0}

number_moves : (z : Option ℤ) (t : Placed Kind) (s : Stack) (d : Draft) → Moves s (with_number z t d) d (there s l.Number)
number_moves None t s d = tt
number_moves (Some z) t phrases d = pushed (length d.phrases)
number_moves (Some z) t s d = refl

text_moves : (nul : Option ℕ) (t : Placed Kind) (s : Stack) (d : Draft) → Moves s (with_text nul t d) d (there s l.Text)
text_moves None t phrases d = pushed (length d.phrases)
text_moves None t s d = refl
text_moves (Some nul) t s d = tt

act_moves : (label : ScriptLabel) (t : Placed Kind) (s : Stack) (d : Draft) → (there s label).0 ≤ height s d
    → Moves s (act label t d) d (there s label)
act_moves l.Number t s d h = number_moves (literal_of t.text) t s d
act_moves l.Text t s d h = text_moves (nul_at (unquoted t.text)) t s d
act_moves (l.Truth b) t phrases d h = pushed (length d.phrases)
act_moves (l.Truth b) t s d h = refl
act_moves l.Priority t phrases d h = pushed (length d.phrases)
act_moves l.Priority t s d h = refl
act_moves l.Place t places d h = pushed (length d.places)
act_moves l.Place t s d h = refl
act_moves (l.Unary o) t places d h = pushed (length d.places)
act_moves (l.Unary o) t unaries d h = pushed (length d.unaries)
act_moves (l.Unary o) t s d h = refl
act_moves (l.Binary o) t binaries d h = pushed (length d.binaries)
act_moves (l.Binary o) t s d h = refl
act_moves l.Rooted t names d h = pushed (length d.names)
act_moves l.Rooted t s d h = refl
act_moves l.FirstPart t names d h = pushed (length d.names)
act_moves l.FirstPart t s d h = refl
act_moves l.NamePart t names d h = changed d.names h
act_moves l.NamePart t s d h = refl
act_moves l.Member t phrases d h = changed d.phrases h
act_moves l.Member t s d h = refl
act_moves l.OpenList t places d h = pushed (length d.places)
act_moves l.OpenList t lists d h = pushed (length d.lists)
act_moves l.OpenList t s d h = refl
act_moves l.Named t waiting d h = pushed (length d.waiting)
act_moves l.Named t s d h = refl
act_moves l.New t places d h = popped d.places h
act_moves l.New t names d h = popped d.names h
act_moves l.New t fields d h = popped d.fields h
act_moves l.New t phrases d h = pushed (length d.phrases)
act_moves l.New t s d h = refl
act_moves l.Raise t names d h = popped d.names h
act_moves l.Raise t fields d h = popped d.fields h
act_moves l.Raise t blocks d h = changed d.blocks h
act_moves l.Raise t s d h = refl
act_moves l.OpenNames t names d h = pushed (length d.names)
act_moves l.OpenNames t s d h = refl
act_moves l.Method t places d h = popped d.places h
act_moves l.Method t waiting d h = popped d.waiting h
act_moves l.Method t names d h = popped d.names h
act_moves l.Method t blocks d h = popped d.blocks h
act_moves l.Method t s d h = refl
act_moves label t s d h = settle_moves label s d h

-- so does each mark
pub marks_move : (s : Stack) (m : MarkOf scripts) (b c : Draft) → (effect_at s m).0 ≤ height s b → act_mark scripts m b ≡ Ok c
    → Moved (height s c) (height s b) (effect_at s m)
marks_move s (took label t) b c h e = subst (λ (r : Result Draft ScriptFault). Moves s r b (there s label)) e (act_moves label t s b h)
marks_move s (did label) b c h e = subst (λ (r : Result Draft ScriptFault). Moves s r b (alone s label)) e (settle_moves label s b h)
