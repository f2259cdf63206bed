-- What is done to an expression asks only for its value.
use Rattle.std.proofs.Common.{◌≡◌, ℕ, List, [], ◌∷◌, Ok, Err, ap, sym, ◌∙◌}
use Rattle.cdr_values.specs.Trees.{Value}
use Rattle.script_values.specs.declared.limit.Limit.{Limit}
use Rattle.script_values.specs.Trees.{Term, literal, Joint, operand, member_at, joint, spine}
use Rattle.script_values.specs.Operations.{◌>>=◌, as_items}
use Rattle.script_values.specs.Operations as operation
use Rattle.script_values.specs.Evaluation.{value_at, beside}
use Rattle.script_values.specs.declared.limit.Stop.{Stop}
use Rattle.script_values.specs.declared.limit.Stop.TheVariants as stop
use Rattle.script_values.specs.Gives.{Stops}
use Rattle.idl_types.specs.Things.{Thing}
use Rattle.script_values.specs.declared.tree.Expr.{Expr}
use Rattle.script_values.specs.declared.tree.Link.{Link}
use Rattle.script_values.specs.Views.{first_of, term_of, joint_of, joints_view}
use Rattle.script_values.proofs.Parts.{term_is}

pub same_joint : (p : ℕ) (s : List Value) (t u : Term) → value_at p s t ≡ value_at p s u → (j : Joint) → value_at p s (joint t j) ≡ value_at p s (joint u j)
unfolding value_at
same_joint p s t u e (operand o x) = ap (λ r. r >>= beside o (value_at p s x)) e
same_joint p s t u e (member_at n) = ap (λ r. r >>= (λ v. Ok (operation.member_at (as_items v) n))) e

pub same_spine : (p : ℕ) (s : List Value) (t u : Term) → value_at p s t ≡ value_at p s u → (js : List Joint) → value_at p s (spine t js) ≡ value_at p s (spine u js)
same_spine p s t u e [] = e
same_spine p s t u e (j ∷ js) = same_spine p s (joint t j) (joint u j) (same_joint p s t u e j) js

stopped_joint : (p : ℕ) (s : List Value) (t : Term) (f : Limit) → value_at p s t ≡ Err f → (j : Joint) → value_at p s (joint t j) ≡ Err f
unfolding value_at
stopped_joint p s t f e (operand o x) = ap (λ r. r >>= beside o (value_at p s x)) e
stopped_joint p s t f e (member_at n) = ap (λ r. r >>= (λ v. Ok (operation.member_at (as_items v) n))) e

-- a limit ends all
pub stopped_spine : (p : ℕ) (s : List Value) (t : Term) (f : Limit) → value_at p s t ≡ Err f → (js : List Joint) → value_at p s (spine t js) ≡ Err f
stopped_spine p s t f e [] = e
stopped_spine p s t f e (j ∷ js) = stopped_spine p s (joint t j) f (stopped_joint p s t f e j) js

-- a value stands for the expression that gives it
pub valued_spine : (p : ℕ) (s : List Value) (t : Term) (v : Value) → value_at p s t ≡ Ok v → (js : List Joint) → value_at p s (spine (literal v) js) ≡ value_at p s (spine t js)
unfolding value_at
valued_spine p s t v e js = same_spine p s (literal v) t (sym e) js

-- what stops a part stops the whole
pub stops_on : (p : ℕ) (s : List Value) (t : Term) (js : List Joint) (x : Stop) → Stops x (value_at p s t) → Stops x (value_at p s (spine t js))
stops_on p s t js (stop.Limit f) h = stopped_spine p s t f h js
stops_on p s t js stop.NoMemory h = tt

pub expr_stops : (p : ℕ) (s : List Value) (ts : List Thing) (e : Expr) (x : Stop) → Stops x (value_at p s (first_of ts e.form)) → Stops x (value_at p s (term_of ts e))
expr_stops p s ts e x h = rw (term_is ts e) (stops_on p s (first_of ts e.form) (joints_view ts e.links.items) x h)

pub expr_goes_on : (p : ℕ) (s : List Value) (ts : List Thing) (e : Expr) (v : Value) → value_at p s (first_of ts e.form) ≡ Ok v
    → value_at p s (term_of ts e) ≡ value_at p s (spine (literal v) (joints_view ts e.links.items))
expr_goes_on p s ts e v h = ap (value_at p s) (term_is ts e) ∙ sym (valued_spine p s (first_of ts e.form) v h (joints_view ts e.links.items))

pub link_stops : (p : ℕ) (s : List Value) (ts : List Thing) (v : Value) (l : Link) (ls : List Link) (x : Stop)
    → Stops x (value_at p s (joint (literal v) (joint_of ts l))) → Stops x (value_at p s (spine (literal v) (joints_view ts (l ∷ ls))))
link_stops p s ts v l ls x h = stops_on p s (joint (literal v) (joint_of ts l)) (joints_view ts ls) x h

pub link_goes_on : (p : ℕ) (s : List Value) (ts : List Thing) (v w : Value) (l : Link) (ls : List Link)
    → value_at p s (joint (literal v) (joint_of ts l)) ≡ Ok w → value_at p s (spine (literal w) (joints_view ts ls)) ≡ value_at p s (spine (literal v) (joints_view ts (l ∷ ls)))
link_goes_on p s ts v w l ls h = valued_spine p s (joint (literal v) (joint_of ts l)) w h (joints_view ts ls)
