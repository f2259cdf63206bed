use Rattle.std.proofs.Common.{◌≡◌, ◌∷◌, [], ℕ, subst, ◌∙◌}
use Rattle.std.specs.Int.{w16}
use Rattle.std.proofs.lemmas.Result.{err_from_is_err_and}
use Rattle.cdr_core.specs.Field.{number}
use Rattle.cdr_core.specs.Writing.{Puts, written, HasFront}
use Rattle.cdr_core.proofs.CallerLemmas.{puts_then, puts_first}
use Rattle.service_contexts.proofs.bands.put_band.Goals as goal

pub returns-in_err-put_u16 : goal.returns-in_err-put_u16
returns-in_err-put_u16 c =
    let p = err_from_is_err_and c.from_residual.result c.from_residual.ensures.1 in
    let low : c.level.result ≡ c.args.band.low = c.level.ensures ∙ c.low.ensures.value in
    let front : HasFront c.args.into.now c.put_u16.new.self (number w16 c.args.band.low ∷ []) =
    subst (λ (n : ℕ). HasFront c.args.into.now c.put_u16.new.self (number w16 n ∷ [])) low c.in_err-put_u16.ensures in
    rw p.1 (puts_first c.args.into.now c.put_u16.new.self (number w16 c.args.band.low ∷ [])
    (number w16 c.args.band.high ∷ []) front)

pub returns : goal.returns
returns c =
    let low : c.level.result ≡ c.args.band.low = c.level.ensures ∙ c.low.ensures.value in
    let high : c.level-2.result ≡ c.args.band.high = c.level-2.ensures ∙ c.high.ensures.value in
    let first : c.put_u16.new.self ≡ written c.args.into.now (number w16 c.args.band.low ∷ []) =
    subst (λ (n : ℕ). c.put_u16.new.self ≡ written c.args.into.now (number w16 n ∷ [])) low c.in_ok-put_u16.ensures in
    let second : Puts c.put_u16-2.result c.put_u16.new.self c.put_u16-2.new.self (number w16 c.args.band.high ∷ []) =
    subst (λ (n : ℕ). Puts c.put_u16-2.result c.put_u16.new.self c.put_u16-2.new.self (number w16 n ∷ [])) high
    c.put_u16-2.ensures in
    puts_then c.put_u16-2.result c.args.into.now c.put_u16.new.self c.put_u16-2.new.self
    (number w16 c.args.band.low ∷ []) (number w16 c.args.band.high ∷ []) first second
