-- The parts were put one after the other into an empty writer.
use Rattle.std.proofs.Common.{◌≡◌, ◌++◌, ◌∷◌, [], ap, ◌∙◌}
use Rattle.std.specs.Int.{w32}
use Rattle.cdr_core.specs.Field.{number, string_fields}
use Rattle.cdr_core.specs.Writing.{Page, page, written}
use Rattle.cdr_core.proofs.CallerLemmas.{written_both}
use Rattle.giop_messages.proofs.exceptions.spell.Goals as goal

pub returns : goal.returns
unfolding written
returns c =
    let start = page c.args.order 24 [] in
    let id = string_fields c.args.id.now in
    let minor = number w32 c.args.minor ∷ [] in
    let code = number w32 c.args.code ∷ [] in
    let all : c.put_u32-2.new.self ≡ written start (id ++ minor ++ code) =
    written_both start c.put_u32.new.self c.put_u32-2.new.self (id ++ minor) code
    (written_both start c.put_string.new.self c.put_u32.new.self id minor (c.in_ok-put_string.ensures ∙ ap (λ (p : Page). written p id) c.new-body.ensures) c.in_ok-put_u32.ensures)
    c.in_ok-put_u32-2.ensures
    in
    c.finish.ensures ∙ ap (λ (p : Page). p.bytes) all
