use Rattle.std.proofs.Common.{rules, ◌∙◌, sym, option_copied}
use Rattle.name_map.proofs.Changing.{find_at, find_none}
use Rattle.name_map.proofs.look.find.Goals as goal

pub returns-then-is_there : goal.returns-then-is_there
returns-then-is_there c = find_at c.args.key.now c.args.bindings.now c.place-index.result (option_copied c.nth.result) c.requires c.place-index.ensures.value (sym c.if-is_there.true ∙ c.is_there.ensures.value) c.nth.ensures

pub returns-else-is_there : goal.returns-else-is_there
returns-else-is_there c = find_none c.args.key.now c.args.bindings.now (sym c.if-is_there.false ∙ c.is_there.ensures.value)
