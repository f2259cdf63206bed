-- The laws.
use Rattle.std.proofs.Common.{◌≡◌, ◌≤◌, ℕ, zero, suc, List, [], ◌∷◌, ◌++◌, length, Result, Ok, Err, refl, sym, ap, ◌∙◌, subst, arith}
use Rattle.grammar.specs.Grammar.{MarkOf, took, did, Parts, Spelled, Sentence, SpelledInner, act_mark, acts_then, acts}
use Rattle.grammar.proofs.Basics.{acts_split, ok_is}
use Rattle.script_grammar.specs.ScriptRules.{servant, file}
use Rattle.script_grammar.specs.declared.fault.ScriptFault.{ScriptFault}
use Rattle.script_grammar.specs.declared.label.ScriptLabel.TheVariants as l
use Rattle.servant_scripts.specs.Drafts.{Draft, empty, end_servant}
use Rattle.servant_scripts.specs.Scripts.{scripts}
use Rattle.script_depths.specs.Counts.{Has}
use Rattle.script_depths.specs.Taking.{takes}
use Rattle.script_depths.specs.Laws.{over, each_over, FindsWhatItTakes, LeavesNothing, BelowIsLeft}
use Rattle.script_depths.proofs.Below.{mark_over}
use Rattle.script_depths.proofs.Counting.{none, Finds, found_at, Does, rule_does, inner_does}
use Rattle.script_depths.proofs.Stacks.{Stack, places, unaries, binaries, waiting, names, phrases, lists, fields, blocks, of, height, has_each, there, alone, within, effect_at, file_is, inside_is}
use Rattle.script_depths.proofs.Moves.{marks_move}

-- each mark finds what it takes of one stack
abbrev FindsOf : Stack → List (MarkOf scripts) → Draft → Type 0
FindsOf s ms b = Finds scripts (height s) (there s) (alone s) (within s) ms b

-- a sentence of the rules does nothing to a stack in the end
file_does : (s : Stack) (depth : ℕ) → Does scripts (height s) (there s) (alone s) (within s) none (Sentence scripts depth file)
file_does s depth =
    rule_does scripts (height s) (there s) (alone s) (within s) (marks_move s) (SpelledInner scripts depth)
    (inner_does scripts (height s) (there s) (alone s) (within s) (marks_move s) (inside_is s) depth) file none (file_is s)

finds : (depth : ℕ) (ms : List (MarkOf scripts)) → Sentence scripts depth file ms → (s : Stack) → FindsOf s ms empty
finds depth ms is s = (file_does s depth ms is empty (omega arith)).0

-- what it takes of each stack is what it takes
taken_is : (m : MarkOf scripts) (s : Stack) → (effect_at s m).0 ≡ of s (takes m)
taken_is (took label t) s = refl
taken_is (did label) s = refl

mark_has : (m : MarkOf scripts) (d : Draft) → ((s : Stack) → (effect_at s m).0 ≤ height s d) → Has d (takes m)
mark_has m d h = has_each d (takes m) (λ s. subst (λ (n : ℕ). n ≤ height s d) (taken_is m s) (h s))

pub finds_what_it_takes : FindsWhatItTakes
finds_what_it_takes depth before m after d is e =
    mark_has m d (λ s.
    found_at scripts (height s) (there s) (alone s) (within s) before m after empty d (finds depth (before ++ m ∷ after) is s) e)

-- ---- what is left

none_held : (s : Stack) → height s empty ≡ 0
none_held places = refl
none_held s = refl

none_left : (depth : ℕ) (ms : List (MarkOf scripts)) (d : Draft) → Sentence scripts depth file ms → acts scripts ms empty ≡ Ok d
    → (s : Stack) → height s d ≡ 0
none_left depth ms d is e s =
    let h = (file_does s depth ms is empty (omega arith)).1 d e in
    let z = none_held s in
    omega (arith, h, z)

empty_of : {A : Type 0} (xs : List A) → length xs ≡ 0 → xs ≡ []
empty_of [] e = refl
empty_of (x ∷ xs) e = absurd (omega arith)

-- a servant takes the methods before it
servant_ends : (depth : ℕ) (ms : List (MarkOf scripts)) (b c : Draft) → Spelled scripts (SpelledInner scripts depth) servant ms
    → acts scripts ms b ≡ Ok c → c.methods ≡ []
servant_ends depth ms b c is e =
    let name = is.3 in
    let braces = name.3 in
    let last = took l.Servant braces.2 in
    let first = acts_split scripts is.0 is.1 b c (ap (λ (w : List (MarkOf scripts)). acts scripts w b) (sym is.4) ∙ e) in
    let second =
    acts_split scripts name.0 name.1 first.0 c (ap (λ (w : List (MarkOf scripts)). acts scripts w first.0) (sym name.4) ∙ first.2) in
    let third =
    acts_split scripts (took l.Skip braces.0 ∷ braces.1) (last ∷ []) second.0 c
    (ap (λ (w : List (MarkOf scripts)). acts scripts w second.0) (sym braces.6) ∙ second.2) in
    ap (λ (k : Draft). k.methods) (sym (ok_is (end_servant third.0) c third.2))

servants_end : (depth n : ℕ) (ms : List (MarkOf scripts)) (b c : Draft)
    → Parts scripts (Spelled scripts (SpelledInner scripts depth) servant) n ms
    → b.methods ≡ [] → acts scripts ms b ≡ Ok c → c.methods ≡ []
servants_end depth zero ms b c is start e =
    let same : b ≡ c = ok_is b c (ap (λ (w : List (MarkOf scripts)). acts scripts w b) (sym is) ∙ e) in
    subst (λ (k : Draft). k.methods ≡ []) same start
servants_end depth (suc n) ms b c is start e =
    let s = acts_split scripts is.0 is.1 b c (ap (λ (w : List (MarkOf scripts)). acts scripts w b) (sym is.4) ∙ e) in
    servants_end depth n is.1 s.0 c is.3 (servant_ends depth is.0 b s.0 is.2 s.1) s.2

-- what was built, part by part
abbrev whole : Draft → Draft
whole d =
    record {
      places = d.places;
      unaries = d.unaries;
      binaries = d.binaries;
      waiting = d.waiting;
      names = d.names;
      phrases = d.phrases;
      lists = d.lists;
      fields = d.fields;
      blocks = d.blocks;
      methods = d.methods;
      servants = d.servants;
    }

pub leaves_nothing : LeavesNothing
leaves_nothing depth ms d is e =
    let h = none_left depth ms d is e in
    let methods = servants_end depth is.0 ms empty d is.1 refl e in
    let same : whole d ≡ record empty { servants = d.servants } =
    rw (
      empty_of d.places (h places),
      empty_of d.unaries (h unaries),
      empty_of d.binaries (h binaries),
      empty_of d.waiting (h waiting),
      empty_of d.names (h names),
      empty_of d.phrases (h phrases),
      empty_of d.lists (h lists),
      empty_of d.fields (h fields),
      empty_of d.blocks (h blocks),
      methods,
    ) in
    same

-- ---- what is below

refused : (ms : List (MarkOf scripts)) (f : ScriptFault) → acts_then scripts ms (Err f) ≡ Err f
refused [] f = refl
refused (m ∷ ms) f = refl

step_over : (ms : List (MarkOf scripts)) (below : Draft) (r : Result Draft ScriptFault)
    → ((c : Draft) → r ≡ Ok c → acts scripts ms (over c below) ≡ each_over (acts scripts ms c) below)
    → acts_then scripts ms (each_over r below) ≡ each_over (acts_then scripts ms r) below
step_over ms below (Ok c) f = f c refl
step_over ms below (Err e) f = refused ms e ∙ ap (λ (z : Result Draft ScriptFault). each_over z below) (sym (refused ms e))

run_over : (ms : List (MarkOf scripts)) (b below : Draft) → ((s : Stack) → FindsOf s ms b)
    → acts scripts ms (over b below) ≡ each_over (acts scripts ms b) below
run_over [] b below h = refl
run_over (m ∷ ms) b below h =
    ap (acts_then scripts ms) (mark_over m b below (mark_has m b (λ s. (h s).0)))
    ∙ step_over ms below (act_mark scripts m b) (λ c e. run_over ms c below (λ s. (h s).1 c e))

pub below_is_left : BelowIsLeft
below_is_left depth ms below is = run_over ms empty below (finds depth ms is)
