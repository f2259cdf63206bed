-- The lines of several callers, one after another.
use Rattle.std.proofs.Common.{◌≡◌, ℕ, List, [], ◌∷◌, ◌++◌, refl, sym, ap, subst, ◌∙◌, true, false}
use Rattle.std.specs.Prelude.{Some, Ok, Err}
use Rattle.orb_base.specs.Outside.{SinkState, Rose}
use Rattle.cdr_values.specs.Trees.{Value}
use Rattle.idl_types.specs.Things.{OperationView}
use Rattle.text_streams.specs.Streams.{WroteText, WroteFrontOf, WroteSome}
use Rattle.text_streams.proofs.CallerLemmas.{wrote_nothing, wrote_behind, wrote_start, wrote_all, wrote_more}
use Rattle.client_calls.specs.Replies.{Outcome, Means}
use Rattle.client_calls.specs.declared.call_fault.CallFault.{CallFault}
use Rattle.client_calls.specs.declared.call_fault.CallFault.TheVariants as fault
use Rattle.client_runs.specs.Lines.{line_of, WritesLine}
use Rattle.client_runs.specs.declared.call_end.CallEnd.{CallEnd}
use Rattle.client_runs.specs.declared.call_end.CallEnd.TheVariants as end
use Rattle.mux_sides.specs.declared.calling.CallEnd.{CallEnd as MuxEnd}
use Rattle.shared_calls.specs.Results.{result_of, results_of}
use Rattle.shared_calls.specs.Lines.{lines_of, is_done, is_memory, WritesLines, WritesOne}

-- the results of a call, and its line
pub one_line : (e : CallEnd) (operation : OperationView) (values : List Value) (outcome : Outcome) (out out' : SinkState) → Means (Ok values) outcome
    → WritesLine e (line_of operation values) out out' → WritesOne e operation outcome out out'
unfolding Means
one_line end.Done operation values outcome out out' is wrote = (values, sym is, wrote.0, wrote.1)
one_line end.WriteFault operation values outcome out out' is wrote = (values, sym is, wrote.0, wrote.1)
one_line end.NoMemory operation values outcome out out' is wrote = wrote
one_line (end.File f) operation values outcome out out' is wrote = absurd wrote
one_line (end.Local f) operation values outcome out out' is wrote = absurd wrote
one_line end.NetFault operation values outcome out out' is wrote = absurd wrote
one_line (end.Called f) operation values outcome out out' is wrote = absurd wrote

-- a call without results has no line
pub no_line : (f : CallFault) (operation : OperationView) (outcome : Outcome) (out : SinkState) → is_memory f ≡ false → Means (Err f) outcome
    → WritesOne (end.Called f) operation outcome out out
unfolding Means
no_line (fault.System x) operation outcome out few is = (sym is, refl)
no_line (fault.User x) operation outcome out few is = (sym is, refl)
no_line (fault.Forward x) operation outcome out few is = (sym is, refl)
no_line (fault.Refused x y) operation outcome out few is = (sym is, refl)
no_line fault.BadBody operation outcome out few is = (sym is, refl)
no_line fault.Closed operation outcome out few is = (sym is, refl)
no_line fault.ReadFault operation outcome out few is = (sym is, refl)
no_line fault.WriteFault operation outcome out few is = (sym is, refl)
no_line fault.Limit operation outcome out few is = (sym is, refl)
no_line fault.NoMemory operation outcome out few is = absurd (cc)

-- no caller is left
pub lines_none : (operation : OperationView) (results : List Outcome) (out : SinkState) → results ≡ [] → WritesLines end.Done operation results out out
lines_none operation [] out is = (refl, wrote_nothing out, refl)
lines_none operation (r ∷ more) out is = absurd (cc)

front_on : (a b : List ℕ) (o o' o'' : SinkState) → WroteText a o o' → WroteFrontOf b o' o'' → WroteFrontOf (a ++ b) o o''
front_on a b o o' o'' first then = (then.0, wrote_all a b then.0 o o' o'' first then.1)

-- the line of a call that gave results
has_line : (operation : OperationView) (values vs : List Value) (out mid : SinkState) → ◌≡◌ {A = Outcome} (Ok values) (Ok vs)
    → WroteText (line_of operation vs) out mid → WroteText (line_of operation values) out mid
has_line operation values vs out mid is wrote =
    let same : vs ≡ values = cc in
    subst (λ (z : List Value). WroteText (line_of operation z) out mid) same wrote

-- a line, and those of the callers after it
lines_more : (e : CallEnd) (operation : OperationView) (result : Outcome) (more : List Outcome) (out mid out' : SinkState) → WritesOne end.Done operation result out mid
    → WritesLines e operation more mid out' → WritesLines e operation (result ∷ more) out out'
lines_more e operation (Err f) more out mid out' one then = let no : Err f ≡ Ok one.0 = one.1 in absurd (cc)
lines_more end.Done operation (Ok values) more out mid out' one then =
    (then.0, wrote_behind (line_of operation values) (lines_of operation more) out mid out' (has_line operation values one.0 out mid one.1 one.2) then.1, then.2 ∙ one.3)
lines_more (end.Called f) operation (Ok values) more out mid out' one then =
    (then.0, wrote_behind (line_of operation values) (lines_of operation more) out mid out' (has_line operation values one.0 out mid one.1 one.2) then.1, then.2 ∙ one.3)
lines_more end.WriteFault operation (Ok values) more out mid out' one then = (
  front_on (line_of operation values) (lines_of operation more) out mid out' (has_line operation values one.0 out mid one.1 one.2) then.0,
  subst (λ (n : ℕ). Rose n out'.faults) one.3 then.1,
)
lines_more end.NoMemory operation (Ok values) more out mid out' one then =
    (front_on (line_of operation values) (lines_of operation more) out mid out' (has_line operation values one.0 out mid one.1 one.2) then.0, then.1 ∙ one.3)
lines_more (end.File f) operation (Ok values) more out mid out' one then = absurd then
lines_more (end.Local f) operation (Ok values) more out mid out' one then = absurd then
lines_more end.NetFault operation (Ok values) more out mid out' one then = absurd then

-- a line of which a prefix was written, before the others
front_first : (a b : List ℕ) (o o' : SinkState) → WroteFrontOf a o o' → WroteFrontOf (a ++ b) o o'
front_first a b o o' w = (w.0 ++ b, wrote_more [] a w.0 b o o o' (wrote_nothing o) w.1)

-- the first call that gave no results, or whose line failed
lines_stop : (e : CallEnd) (operation : OperationView) (result : Outcome) (more : List Outcome) (out out' : SinkState) → is_done e ≡ false → WritesOne e operation result out out'
    → WritesLines e operation (result ∷ more) out out'
lines_stop end.Done operation result more out out' other one = absurd (cc)
lines_stop (end.Called f) operation (Err g) more out out' other one =
    let same : g ≡ f = let is : Err g ≡ Err f = one.0 in cc in
    (ap Some same, subst (λ (o : SinkState). WroteText [] out o) (sym one.1) (wrote_nothing out), ap (λ (o : SinkState). o.faults) one.1)
lines_stop (end.Called f) operation (Ok values) more out out' other one = let no : Ok values ≡ Err f = one.0 in absurd (cc)
lines_stop end.WriteFault operation (Ok values) more out out' other one =
    let same : one.0 ≡ values = let is : Ok values ≡ Ok one.0 = one.1 in cc in
    (front_first (line_of operation values) (lines_of operation more) out out' (subst (λ (z : List Value). WroteFrontOf (line_of operation z) out out') same one.2), one.3)
lines_stop end.WriteFault operation (Err g) more out out' other one = let no : Err g ≡ Ok one.0 = one.1 in absurd (cc)
lines_stop end.NoMemory operation result more out out' other one = (
  (
    lines_of operation (result ∷ more),
    subst (λ (o : SinkState). WroteSome (lines_of operation (result ∷ more)) (lines_of operation (result ∷ more)) out o) (sym one)
        (wrote_start (lines_of operation (result ∷ more)) out),
  ),
  ap (λ (o : SinkState). o.faults) one,
)
lines_stop (end.File f) operation result more out out' other one = absurd one
lines_stop (end.Local f) operation result more out out' other one = absurd one
lines_stop end.NetFault operation result more out out' other one = absurd one

-- the same of the callers that are left
pub lines_on : (e one : CallEnd) (operation : OperationView) (ends later : List MuxEnd) (first : MuxEnd) (out mid out' : SinkState) → ends ≡ first ∷ later → is_done one ≡ true
    → WritesOne one operation (result_of operation first) out mid → WritesLines e operation (results_of operation later) mid out' → WritesLines e operation (results_of operation ends) out out'
lines_on e end.Done operation ends later first out mid out' is done wrote then =
    subst (λ (es : List MuxEnd). WritesLines e operation (results_of operation es) out out') (sym is) (lines_more e operation (result_of operation first) (results_of operation later) out mid out' wrote then)
lines_on e (end.Called f) operation ends later first out mid out' is done wrote then = absurd (cc)
lines_on e end.WriteFault operation ends later first out mid out' is done wrote then = absurd (cc)
lines_on e end.NoMemory operation ends later first out mid out' is done wrote then = absurd (cc)
lines_on e (end.File f) operation ends later first out mid out' is done wrote then = absurd (cc)
lines_on e (end.Local f) operation ends later first out mid out' is done wrote then = absurd (cc)
lines_on e end.NetFault operation ends later first out mid out' is done wrote then = absurd (cc)

pub lines_off : (e : CallEnd) (operation : OperationView) (ends later : List MuxEnd) (first : MuxEnd) (out out' : SinkState) → ends ≡ first ∷ later → is_done e ≡ false
    → WritesOne e operation (result_of operation first) out out' → WritesLines e operation (results_of operation ends) out out'
lines_off e operation ends later first out out' is other wrote =
    subst (λ (es : List MuxEnd). WritesLines e operation (results_of operation es) out out') (sym is) (lines_stop e operation (result_of operation first) (results_of operation later) out out' other wrote)
