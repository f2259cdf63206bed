use Rattle.std.proofs.Common.{rules, ◌≡◌, ◌+◌, ◌-◌, ◌≤◌, ℕ, List, [], length, take, drop, map, false, true, refl, sym, ◌∙◌, ap, arith}
use Rattle.idl_tokens.specs.Placed.{seen, same_kind}
use Rattle.idl_tokens.specs.declared.kind.Kind.TheVariants.{Bad}
use Rattle.idl_tokens.proofs.OneTurn.{cut_on, cut_bad, cut_end}
use Rattle.idl_tokens.proofs.cutting.tokens_of.Goals as goal

pub returns-then-same_kind : goal.returns-then-same_kind
returns-then-same_kind c =
    cut_bad c.args.dialect c.loop-rest.line c.loop-rest.column c.loop-rest.rest.now c.split_at.result.0.now c.lex_at-kind.result (map seen c.loop-rest.tokens.items) _
    (omega (arith, c.lex_at-kind.ensures.within)) c.lex_at-kind.ensures.value c.split_at.ensures.front c.lex_at-kind.ensures.within (sym c.same_kind.ensures ∙ c.if-same_kind.true) c.loop-rest.invariant.0

pub loop-rest-preserved : goal.loop-rest-preserved
loop-rest-preserved c =
    let within = c.lex_at-kind.ensures.within in
    let ends = c.place_behind.ensures.within in
    let good : same_kind c.lex_at-kind.result.0 Bad ≡ false = sym c.same_kind.ensures ∙ c.if-same_kind.false in
    let on =
    cut_on c.args.dialect c.loop-rest.line c.loop-rest.column c.loop-rest.rest.now c.split_at.result.0.now c.split_at.result.1.now c.lex_at-kind.result c.place_behind.result (map seen c.loop-rest.tokens.items) (map seen c.keep.new.tokens.items) _
    (omega (arith, within)) c.lex_at-kind.ensures.value c.split_at.ensures.front c.split_at.ensures.back c.place_behind.ensures.value c.in_ok-keep.ensures within good c.loop-rest.invariant.0 in
    (on, omega (arith, c.loop-rest.invariant.1, ends.0, c.split_at.ensures.front_len, c.split_at.ensures.back_len, within), omega (arith, c.loop-rest.invariant.2, ends.1, c.split_at.ensures.front_len, c.split_at.ensures.back_len, within))

pub returns : goal.returns
returns c = cut_end c.args.dialect c.loop-rest.line c.loop-rest.column c.loop-rest.rest.now (map seen c.loop-rest.tokens.items) _ (search rules) c.loop-rest.invariant.0
