use Rattle.std.proofs.Common.{◌≡◌, List, ap, subst, ◌∙◌, rules, IsPermutation}
use Rattle.std.specs.List.Sorted.{IsNonDecreasingBy}
use Rattle.std.proofs.lemmas.List.Sorted.{IsNonDecreasingBy-from_sort_by_key}
use Rattle.orb_base.specs.Span.{Span}
use Rattle.orb_base.specs.Apart.{climb}
use Rattle.orb_base.proofs.ApartLaws.{sorted_apart}
use Rattle.orb_base.proofs.apart.are_apart.Goals as goal

pub returns : goal.returns
returns c =
    let ys = c.sort_unstable_by_key.new.self.items in
    let up : IsNonDecreasingBy (λ (s : Span). s.low) ys =
    IsNonDecreasingBy-from_sort_by_key (λ (s : Span). s.low) ys c.sort_unstable_by_key.ensures.sorted (λ a r q k.
    search rules) in
    let moved : IsPermutation c.args.bands.now ys =
    subst (λ (xs : List Span). IsPermutation xs ys) c.in_ok-sorted.ensures.items
    c.sort_unstable_by_key.ensures.permutation in
    let is : c.climb.result ≡ climb ys = c.climb.ensures ∙ ap climb c.as_slice.ensures.value in
    sorted_apart c.args.bands.now ys c.climb.result c.see_ordered.ensures moved up is
