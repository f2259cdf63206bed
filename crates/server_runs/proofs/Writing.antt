-- What is written of a run: its trace, and then its summary.
use Rattle.std.proofs.Common.{◌≡◌, ◌∙◌, ℕ, List, ◌++◌, true, false, refl, sym, ap, subst}
use Rattle.std.specs.Prelude.{Result, Ok, Err}
use Rattle.orb_base.specs.Outside.{SinkState, Rose}
use Rattle.orb_base.specs.Pool.{Pool}
use Rattle.orb_base.specs.declared.no_memory.NoMemory.{NoMemory}
use Rattle.lane_machine.specs.Histories.{History}
use Rattle.adapter_policies.specs.SetupData.{SetupData}
use Rattle.text_streams.specs.Streams.{WroteText, WroteFrontOf, WritesAll}
use Rattle.text_streams.specs.declared.writing.WriteAll.{WriteAll}
use Rattle.text_streams.specs.declared.writing.WriteAll.TheVariants as write
use Rattle.text_streams.proofs.CallerLemmas.{wrote_all, wrote_behind}
use Rattle.trace_lines.specs.Texts.{trace_text}
use Rattle.trace_lines.specs.Writing.{WritesText}
use Rattle.trace_lines.proofs.Wrote.{prefix_of_more}
use Rattle.server_runs.specs.RunLines.{WritesLines, lines_of}
use Rattle.trace_lines.specs.Summaries.{summary_of, summary_line}
use Rattle.server_runs.specs.declared.serve_end.ServeEnd.{ServeEnd}
use Rattle.server_runs.specs.declared.serve_end.ServeEnd.TheVariants as end

-- the whole of a text is a prefix of more
whole_first : (text more : List ℕ) (o o' : SinkState) → WroteText text o o' → WroteFrontOf (text ++ more) o o'
whole_first text more o o' wrote = (more, record { front = text; parts = refl; wrote = wrote })

-- a prefix of what follows a text
prefix_after : (text more : List ℕ) (o o' o'' : SinkState) → WroteText text o o' → WroteFrontOf more o' o'' → WroteFrontOf (text ++ more) o o''
prefix_after text more o o' o'' first some = (some.0, wrote_all text more some.0 o o' o'' first some.1)

-- the trace was written, and the summary came out so
traced_so : (e : ServeEnd) (text line : List ℕ) (o o' o'' : SinkState) → WritesAll write.Whole text o o' → WritesLines e false line o' o''
    → WritesLines e true (text ++ line) o o''
traced_so end.Done text line o o' o'' first then = (wrote_behind text line o o' o'' first.0 then.0, then.1 ∙ first.1)
traced_so end.WriteFault text line o o' o'' first then = (prefix_after text line o o' o'' first.0 then.0, subst (λ (n : ℕ). Rose n o''.faults) first.1 then.1)
traced_so end.NoMemory text line o o' o'' first then = (
  subst (λ (s : SinkState). WroteFrontOf (text ++ line) o s) (sym then) (whole_first text line o o' first.0),
  ap (λ (s : SinkState). s.faults) then ∙ first.1,
)
traced_so end.NetFault text line o o' o'' first then = absurd then

-- the trace is that of the setup
module _ (setup : SetupData) (h : History) (pool : Pool) (slots per_slot : ℕ) (pool_is : pool ≡ setup.pool) (slots_are : slots ≡ setup.slots)
    (per_slot_is : per_slot ≡ setup.per_slot) (o o' : SinkState) where
  same_text : trace_text pool slots per_slot h ≡ trace_text setup.pool setup.slots setup.per_slot h
  same_text =
      ap (λ (p : Pool). trace_text p slots per_slot h) pool_is ∙ ap (λ (n : ℕ). trace_text setup.pool n per_slot h) slots_are
      ∙ ap (λ (n : ℕ). trace_text setup.pool setup.slots n h) per_slot_is

  wrote_so : (r r' : Result WriteAll NoMemory) → r ≡ r' → WritesText r (trace_text pool slots per_slot h) o o'
      → WritesText r' (trace_text setup.pool setup.slots setup.per_slot h) o o'
  wrote_so r r' is wrote =
      subst (λ (x : List ℕ). WritesText r' x o o') same_text
      (subst (λ (x : Result WriteAll NoMemory). WritesText x (trace_text pool slots per_slot h) o o') is wrote)

  -- it was written, and the summary came out so
  pub traced_whole : (r : Result WriteAll NoMemory) (w : WriteAll) (e : ServeEnd) (o'' : SinkState) → r ≡ Ok w → w ≡ write.Whole
      → WritesText r (trace_text pool slots per_slot h) o o' → WritesLines e false (summary_line (summary_of h)) o' o''
      → WritesLines e true (lines_of true setup h) o o''
  traced_whole r w e o'' ok whole wrote then =
      traced_so e (trace_text setup.pool setup.slots setup.per_slot h) (summary_line (summary_of h)) o o' o''
      (wrote_so r (Ok write.Whole) (ok ∙ ap (λ (x : WriteAll). Ok x) whole) wrote) then

  -- a write failed over it
  pub traced_failed : (r : Result WriteAll NoMemory) (w : WriteAll) → r ≡ Ok w → w ≡ write.Failed
      → WritesText r (trace_text pool slots per_slot h) o o' → WritesLines end.WriteFault true (lines_of true setup h) o o'
  traced_failed r w ok failed wrote =
      let so = wrote_so r (Ok write.Failed) (ok ∙ ap (λ (x : WriteAll). Ok x) failed) wrote in
      (prefix_of_more (trace_text setup.pool setup.slots setup.per_slot h) (summary_line (summary_of h)) o o' so.0, so.1)

  -- memory ran out over it
  pub traced_wanting : (r : Result WriteAll NoMemory) (n : NoMemory) → r ≡ Err n
      → WritesText r (trace_text pool slots per_slot h) o o' → WritesLines end.NoMemory true (lines_of true setup h) o o'
  traced_wanting r n none wrote =
      let so = wrote_so r (Err n) none wrote in
      (prefix_of_more (trace_text setup.pool setup.slots setup.per_slot h) (summary_line (summary_of h)) o o' so.0, so.1)
