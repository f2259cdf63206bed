use Rattle.std.proofs.Common.{◌≡◌, ◌+◌, ◌<◌, ◌≤◌, ◌∷◌, drop, get_or, refl, arith, rules}
use Rattle.std.proofs.lemmas.List.{drop_more}
use Rattle.cdr_values.proofs.Endings.{front_of}
use Rattle.value_json.proofs.Characters.{short_on, long_on, long_off, long_end, two_first}
use Rattle.value_json.proofs.texts.is_text_of.Goals as goal
use Rattle.value_json.proofs.texts.is_text_of.Goals.{then-first-code-2-via-then-first-code-2, then-first-code-2-via-else-first-code-2+then-second-code, then-code-lt128+in-len1-up+else-first-code, else-code-lt128+in-len2-up+else-first-code-2+else-second-code}

pub returns-in_default-rest : goal.returns-in_default-rest
returns-in_default-rest c =
    let l = c.loop-code in
    let cs = c.args.codes.now in
    let b = get_or cs l.code-index 0 in
    let here : drop l.code-index cs ≡ b ∷ drop (l.code-index + 1) cs = drop_more cs l.code-index 0 (omega arith) in
    let low : 128 ≤ b = omega (arith, c.if-code-lt128.false) in
    let high : b < 256 = search rules in
    long_end (drop l.code-index cs) (drop (l.code-index + 1) cs) l.rest.now b _ here c.in_default-rest.len_below low high l.invariant

pub returns-then-first-code-2 : goal.returns-then-first-code-2
returns-then-first-code-2 c =
    let l = c.loop-code in
    let cs = c.args.codes.now in
    let b = get_or cs l.code-index 0 in
    let here : drop l.code-index cs ≡ b ∷ drop (l.code-index + 1) cs = drop_more cs l.code-index 0 (omega arith) in
    let low : 128 ≤ b = omega (arith, c.if-code-lt128.false) in
    let high : b < 256 = search rules in
    elim c.then-first-code-2.branch [
      | then-first-code-2-via-then-first-code-2 w ↦
          long_off (drop l.code-index cs) (drop (l.code-index + 1) cs) l.rest.now _ b _ _ _ here (two_first l.rest.now c.in-len2-up.len_at_least) low high (λ e f. w.if-first-code-2.true e) l.invariant
      | then-first-code-2-via-else-first-code-2+then-second-code w ↦
          long_off (drop l.code-index cs) (drop (l.code-index + 1) cs) l.rest.now _ b _ _ _ here (two_first l.rest.now c.in-len2-up.len_at_least) low high (λ e f. w.if-second-code.true f) l.invariant
    ]

pub loop-code-preserved : goal.loop-code-preserved
loop-code-preserved c =
    let l = c.loop-code in
    let cs = c.args.codes.now in
    let b = get_or cs l.code-index 0 in
    let here : drop l.code-index cs ≡ b ∷ drop (l.code-index + 1) cs = drop_more cs l.code-index 0 (omega arith) in
    let high : b < 256 = search rules in
    elim c.if-code-lt128.branch [
      | then-code-lt128+in-len1-up+else-first-code w ↦
          rw w.rest-is (short_on (drop l.code-index cs) (drop (l.code-index + 1) cs) l.rest.now _ b _ _ here (front_of l.rest.now (get_or l.rest.now 0 0) 0 w.in-len1-up.len_at_least refl)
          w.if-code-lt128.true w.if-first-code.false l.invariant)
      | else-code-lt128+in-len2-up+else-first-code-2+else-second-code w ↦
          rw w.rest-is (long_on (drop l.code-index cs) (drop (l.code-index + 1) cs) l.rest.now _ b _ _ _ here (two_first l.rest.now w.in-len2-up.len_at_least)
          (omega (arith, w.if-code-lt128.false)) high w.if-first-code-2.false w.if-second-code.false l.invariant)
    ]
