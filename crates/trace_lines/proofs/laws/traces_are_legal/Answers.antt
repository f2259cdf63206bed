-- Each step does the same to what a trace keeps.
use Rattle.trace_lines.proofs.Legal.{read_back, stays_legal, stays_fit}
use Rattle.trace_lines.proofs.laws.traces_are_legal.Goals as goal

pub returns : goal.returns
returns c = record {
  read_back = λ s h o l once. read_back s h o l once;
  legal = λ s h o l once. stays_legal s h o l once;
  fit = λ s h o l once f. stays_fit s h o l once f;
}
