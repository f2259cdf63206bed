use Rattle.std.proofs.Common.{◌≡◌, List, ◌++◌, take, refl, sym, ap, ◌∙◌, subst}
use Rattle.client_lines.specs.Answer.{Answer}
use Rattle.client_lines.specs.Lines.{Line, IsHeard, Gives}
use Rattle.client_lines.proofs.LineLaws.{gives}
use Rattle.client_lines.proofs.line.Line.give.Goals as goal

pub returns : goal.returns
returns c =
    let now : Line = record {
      hearer = c.self.inside.hearing;
      given = c.self.inside.given.items;
      waiting = c.self.inside.waiting.items;
      ending = c.self.inside.ending;
      taken = c.self.inside.taken;
    } in
    let later : Line = record {
      hearer = c.self.inside.hearing;
      given = c.and-self-inside.result.items;
      waiting = c.remove.new.self.items;
      ending = c.self.inside.ending;
      taken = c.self.inside.taken;
    } in
    let is : now ≡ c.args.self.now = c.self.view_is in
    subst (λ (l : Line). Gives l later c.remove.result) is
    (gives now later c.remove.result (subst (λ (l : Line). IsHeard l) (sym is) c.requires.heard) c.remove.ensures.value c.remove.ensures.after
    (c.and-self-inside.ensures ∙ ap (λ (xs : List Answer). c.self.inside.given.items ++ take 1 xs) c.as_slice.ensures) refl refl refl)
