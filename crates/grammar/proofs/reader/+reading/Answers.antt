use Rattle.std.proofs.Common.{◌≡◌, ◌+◌, true, false, rules}
use Rattle.std.proofs.lemmas.Result.{err_from_is_err_and}
use Rattle.grammar.specs.Language.{Language}
use Rattle.grammar.specs.Rules.{does, ◌then◌}
use Rattle.grammar.specs.Reading.{front, begins, read_rule}
use Rattle.grammar.specs.Views.{rule_of, language}
use Rattle.grammar.proofs.Turns.{turn_on, turn_fails, turns_stop, turns_done}
use Rattle.grammar.proofs.reader.+reading.Goals as goal

pub read_many-returns-then-not-begins : goal.read_many-returns-then-not-begins
read_many-returns-then-not-begins g t c =
    let o = language g.B.Builder.inside g.B.Builder.act g.B.Builder.judge g.B.Builder.stop in
    let over : begins o (rule_of c.args.a.now) (front c.loop.tokens).kind ≡ false = search rules in
    turns_stop o c.args.depth (c.left-end.result + 1) c.loop.counter (rule_of c.args.a.now) (g.B.Builder.built c.loop.builder, c.loop.tokens) _ c.loop-test.true over c.loop.invariant

pub read_many-returns-in_err-read_rule : goal.read_many-returns-in_err-read_rule
read_many-returns-in_err-read_rule g t c =
    let o = language g.B.Builder.inside g.B.Builder.act g.B.Builder.judge g.B.Builder.stop in
    let begun : begins o (rule_of c.args.a.now) (front c.loop.tokens).kind ≡ true = search rules in
    let p = err_from_is_err_and c.from_residual.result c.from_residual.ensures.1 in
    rw (p.1, p.2) (turn_fails o c.in_err-read_rule.field-0.0 c.args.depth (c.left-end.result + 1) c.loop.counter (rule_of c.args.a.now) (g.B.Builder.built c.loop.builder, c.loop.tokens) _ c.loop-test.true begun c.in_err-read_rule.ensures c.loop.invariant)

pub read_many-loop-preserved : goal.read_many-loop-preserved
read_many-loop-preserved g t c =
    let o = language g.B.Builder.inside g.B.Builder.act g.B.Builder.judge g.B.Builder.stop in
    let begun : begins o (rule_of c.args.a.now) (front c.loop.tokens).kind ≡ true = search rules in
    turn_on o c.args.depth (c.left-end.result + 1) c.loop.counter (rule_of c.args.a.now) (g.B.Builder.built c.loop.builder, c.loop.tokens) (g.B.Builder.built c.read_rule.new.builder, c.read_rule.new.tokens) _ c.loop-test.true begun c.in_ok-read_rule.ensures c.loop.invariant

pub read_many-returns : goal.read_many-returns
read_many-returns g t c =
    let o = language g.B.Builder.inside g.B.Builder.act g.B.Builder.judge g.B.Builder.stop in
    turns_done o c.args.depth (c.left-end.result + 1) c.loop.counter (rule_of c.args.a.now) (g.B.Builder.built c.loop.builder, c.loop.tokens) _ c.loop-test.false c.loop.invariant

pub read_turns-returns-then-not-begins_turn : goal.read_turns-returns-then-not-begins_turn
read_turns-returns-then-not-begins_turn g t c =
    let o = language g.B.Builder.inside g.B.Builder.act g.B.Builder.judge g.B.Builder.stop in
    let over : begins o (rule_of c.args.o.now then (rule_of c.args.a.now then does c.args.label)) (front c.loop.tokens).kind ≡ false = search rules in
    turns_stop o c.args.depth (c.left-end.result + 1) c.loop.counter (rule_of c.args.o.now then (rule_of c.args.a.now then does c.args.label)) (g.B.Builder.built c.loop.builder, c.loop.tokens) _ c.loop-test.true over c.loop.invariant

pub read_turns-returns-in_err-read_turn : goal.read_turns-returns-in_err-read_turn
read_turns-returns-in_err-read_turn g t c =
    let o = language g.B.Builder.inside g.B.Builder.act g.B.Builder.judge g.B.Builder.stop in
    let begun : begins o (rule_of c.args.o.now then (rule_of c.args.a.now then does c.args.label)) (front c.loop.tokens).kind ≡ true = search rules in
    let p = err_from_is_err_and c.from_residual.result c.from_residual.ensures.1 in
    rw (p.1, p.2) (turn_fails o c.in_err-read_turn.field-0.0 c.args.depth (c.left-end.result + 1) c.loop.counter (rule_of c.args.o.now then (rule_of c.args.a.now then does c.args.label)) (g.B.Builder.built c.loop.builder, c.loop.tokens) _ c.loop-test.true begun c.in_err-read_turn.ensures c.loop.invariant)

pub read_turns-loop-preserved : goal.read_turns-loop-preserved
read_turns-loop-preserved g t c =
    let o = language g.B.Builder.inside g.B.Builder.act g.B.Builder.judge g.B.Builder.stop in
    let begun : begins o (rule_of c.args.o.now then (rule_of c.args.a.now then does c.args.label)) (front c.loop.tokens).kind ≡ true = search rules in
    turn_on o c.args.depth (c.left-end.result + 1) c.loop.counter (rule_of c.args.o.now then (rule_of c.args.a.now then does c.args.label)) (g.B.Builder.built c.loop.builder, c.loop.tokens) (g.B.Builder.built c.read_turn.new.builder, c.read_turn.new.tokens) _ c.loop-test.true begun c.in_ok-read_turn.ensures c.loop.invariant

pub read_turns-returns : goal.read_turns-returns
read_turns-returns g t c =
    let o = language g.B.Builder.inside g.B.Builder.act g.B.Builder.judge g.B.Builder.stop in
    turns_done o c.args.depth (c.left-end.result + 1) c.loop.counter (rule_of c.args.o.now then (rule_of c.args.a.now then does c.args.label)) (g.B.Builder.built c.loop.builder, c.loop.tokens) _ c.loop-test.false c.loop.invariant
