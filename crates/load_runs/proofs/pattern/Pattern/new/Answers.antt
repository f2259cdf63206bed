use Rattle.std.proofs.Common.{◌≡◌, ℕ, List, ◌++◌, ap, ◌∙◌, subst, sym}
use Rattle.orb_base.specs.declared.order.Order.TheVariants.{Big}
use Rattle.giop_messages.specs.Spelling.{spelled}
use Rattle.load_runs.specs.Generated.{asking}
use Rattle.load_runs.specs.Making.{IsPattern, carries}
use Rattle.load_runs.proofs.Patterns.{cuts_by, is_pattern}
use Rattle.load_runs.proofs.pattern.Pattern.new.Goals as goal

pub parts-requires : goal.parts-requires
parts-requires c =
    let view = c.first.view_is in
    let made = c.in_ok-first.ensures.bytes in
    let told = c.as_slice.ensures in
    let same : c.as_slice.result.now ≡ spelled Big (asking 0 c.args.object.now c.some_level.result) = cc in
    cuts_by c.args.model c.args.object.now c.some_level.result c.as_slice.result.now c.content_len.result c.some_level.ensures c.content_len.ensures same

pub returns : goal.returns
returns c =
    let view = c.first.view_is in
    let made = c.in_ok-first.ensures.bytes in
    let told = c.as_slice.ensures in
    let same : c.as_slice.result.now ≡ spelled Big (asking 0 c.args.object.now c.some_level.result) = cc in
    let whole : IsPattern c.args.object.now (carries c.args.model) c.parts.result.0.now c.parts.result.1.now =
    is_pattern c.args.model c.args.object.now c.some_level.result c.as_slice.result.now c.parts.result.0.now c.parts.result.1.now c.content_len.result c.some_level.ensures
    c.content_len.ensures same c.in_ok-first.ensures.fits c.parts.ensures in
    let new_before = c.new-before.ensures in
    let put_before = c.in_ok-append.ensures.ok in
    let new_after = c.new-after.ensures in
    let put_after = c.in_ok-append-2.ensures.ok in
    let first : c.append.new.self.items ≡ c.parts.result.0.now = put_before ∙ ap (λ (x : List ℕ). x ++ c.parts.result.0.now) new_before in
    let second : c.append-2.new.self.items ≡ c.parts.result.1.now = put_after ∙ ap (λ (x : List ℕ). x ++ c.parts.result.1.now) new_after in
    let P : List ℕ → Type 0 = λ x. IsPattern c.args.object.now (carries c.args.model) x c.append-2.new.self.items in
    let Q : List ℕ → Type 0 = λ x. IsPattern c.args.object.now (carries c.args.model) c.parts.result.0.now x in
    subst P (sym first) (subst Q (sym second) whole)
