use Rattle.std.proofs.Common.{◌≡◌, ◌-◌, ◌+◌, ◌*◌}
use Rattle.grammar.specs.Reading.{read_rule}
use Rattle.grammar.specs.Rules.{does, ◌then◌, many}
use Rattle.grammar.specs.Views.{rule_of, size, language}
use Rattle.grammar.proofs.Turns.{turns}
use Rattle.grammar.proofs.reader.+reading.Given as goal

abbrev pub decreases-read_both : goal.decreases-read_both
decreases-read_both g l = 300000 * l.depth + 2 * (size (rule_of l.a.now) + size (rule_of l.b.now)) + 1

abbrev pub decreases-read_either : goal.decreases-read_either
decreases-read_either g l = 300000 * l.depth + 2 * (size (rule_of l.a.now) + size (rule_of l.b.now)) + 1

abbrev pub decreases-read_many : goal.decreases-read_many
decreases-read_many g l = 300000 * l.depth + 2 * size (rule_of l.a.now) + 1

abbrev pub decreases-read_maybe : goal.decreases-read_maybe
decreases-read_maybe g l = 300000 * l.depth + 2 * size (rule_of l.a.now) + 1

abbrev pub decreases-read_nested : goal.decreases-read_nested
decreases-read_nested g l = 300000 * l.depth + 1

abbrev pub decreases-read_rule : goal.decreases-read_rule
decreases-read_rule g l = 300000 * l.depth + 2 * size (rule_of l.rule.now)

abbrev pub invariant-read_many-loop : goal.invariant-read_many-loop
invariant-read_many-loop g l =
    turns (language g.B.Builder.inside g.B.Builder.act g.B.Builder.judge g.B.Builder.stop) (l.end - l.counter) l.depth (rule_of l.a) (g.B.Builder.built l.builder, l.tokens)
    ≡ read_rule (language g.B.Builder.inside g.B.Builder.act g.B.Builder.judge g.B.Builder.stop) l.depth (many (rule_of l.a)) (g.B.Builder.built l.initial.builder, l.initial.tokens)

abbrev pub decreases-read_turn : goal.decreases-read_turn
decreases-read_turn g l = 300000 * l.depth + 2 * (size (rule_of l.a.now) + size (rule_of l.o.now)) + 1

abbrev pub decreases-read_turns : goal.decreases-read_turns
decreases-read_turns g l = 300000 * l.depth + 2 * (size (rule_of l.a.now) + size (rule_of l.o.now)) + 2

abbrev pub decreases-read_chained : goal.decreases-read_chained
decreases-read_chained g l = 300000 * l.depth + 2 * (size (rule_of l.a.now) + size (rule_of l.o.now)) + 3

abbrev pub invariant-read_turns-loop : goal.invariant-read_turns-loop
invariant-read_turns-loop g l =
    turns (language g.B.Builder.inside g.B.Builder.act g.B.Builder.judge g.B.Builder.stop) (l.end - l.counter) l.depth (rule_of l.o then (rule_of l.a then does l.label)) (g.B.Builder.built l.builder, l.tokens)
    ≡ read_rule (language g.B.Builder.inside g.B.Builder.act g.B.Builder.judge g.B.Builder.stop) l.depth (many (rule_of l.o then (rule_of l.a then does l.label))) (g.B.Builder.built l.initial.builder, l.initial.tokens)
