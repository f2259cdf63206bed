-- A rule in brackets, where brackets may still open, and where none may.
use Rattle.std.proofs.Common.{◌≡◌, ℕ, zero, suc, ◌-◌, ◌<◌, refl, arith}
use Rattle.grammar.specs.Rules.{nested}
use Rattle.grammar.specs.Language.{Language}
use Rattle.grammar.specs.Reading.{State, ◌>>=◌, take_one, stop, read_inner, read_rule}

pub nested_full : (g : Language) (depth : ℕ) (k : g.Kind) (o : g.Label) (r : g.Inner) (c : g.Kind) (l : g.Label) (s : State g) → depth ≡ 0 → read_rule g depth (nested k o r c l) s ≡ stop g s
unfolding read_rule read_inner
nested_full g depth k o r c l s e = rw e refl

pub nested_open : (g : Language) (depth : ℕ) (k : g.Kind) (o : g.Label) (r : g.Inner) (c : g.Kind) (l : g.Label) (s : State g) → 0 < depth
    → read_rule g depth (nested k o r c l) s ≡ take_one g k o s >>= read_rule g (depth - 1) (g.inside r) >>= take_one g c l
unfolding read_rule read_inner
nested_open g zero k o r c l s h = absurd (omega arith)
nested_open g (suc d) k o r c l s h = let e : suc d - 1 ≡ d = omega arith in rw e refl
