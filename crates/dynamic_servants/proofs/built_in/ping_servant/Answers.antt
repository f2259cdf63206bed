use Rattle.std.proofs.Common.{◌≡◌, ◌++◌, List, [], ◌∷◌, refl}
use Rattle.script_checks.specs.declared.checked.CheckedMethod.{CheckedMethod}
use Rattle.dynamic_servants.proofs.Forms.{three}
use Rattle.dynamic_servants.proofs.built_in.ping_servant.Goals as goal

all_three : (none a b c : List CheckedMethod) (x y z : CheckedMethod) → none ≡ [] → a ≡ none ++ x ∷ [] → b ≡ a ++ y ∷ [] → c ≡ b ++ z ∷ [] → c ≡ x ∷ y ∷ z ∷ []
all_three none a b c x y z e f g h = rw (h, g, f, e) refl

pub returns : goal.returns
returns c = λ ts.
    let one = c.in_ok-current.field-0 in
    let two = c.in_ok-echo.field-0 in
    let last = c.does_nothing.result in
    let all : c.push-3.new.self.items ≡ one ∷ two ∷ last ∷ [] =
    all_three _ _ _ _ one two last c.new-methods.ensures.items c.in_ok-push.ensures.items c.in_ok-push-2.ensures.items c.in_ok-push-3.ensures.items in
    let views = three ts one two last _ _ _ (c.in_ok-current.ensures ts) (c.in_ok-echo.ensures ts) (c.does_nothing.ensures ts) in
    rw (all, views) refl
