-- Bands that are published share no priority already.
use Rattle.std.proofs.Common.{◌≡◌, ℕ, Bool, true, false, List, Option, Some, None, Result, Ok, Err, refl, ap, ◌∙◌}
use Rattle.std.specs.Prelude.{IfOk, is_ok}
use Rattle.std.specs.Result.{result_ok}
use Rattle.orb_base.specs.Room.{Room}
use Rattle.std.specs.Option.{option_and_then}
use Rattle.orb_base.specs.Span.{Span}
use Rattle.orb_base.specs.Tagged.{Tagged}
use Rattle.orb_base.specs.Apart.{are_apart}
use Rattle.service_contexts.specs.Reading.{◌>>=◌, carried, bands_at}
use Rattle.service_contexts.specs.Publishing.{published, if_apart, published_bands}
use Rattle.service_contexts.specs.declared.policies.TheConstants.{BANDS_POLICY}

one_again : (bands : List Span) (t : Bool) → are_apart bands ≡ t → option_and_then if_apart (if_apart bands) ≡ if_apart bands
one_again bands true is = rw (is, is) refl
one_again bands false is = rw is refl

some_again : (o : Option (List Span)) → option_and_then if_apart (o >>= if_apart) ≡ (o >>= if_apart)
some_again None = refl
some_again (Some bands) = one_again bands (are_apart bands) refl

value_again : (v : Option (List ℕ)) → option_and_then if_apart (v >>= λ x. carried bands_at x >>= if_apart) ≡ (v >>= λ x. carried bands_at x >>= if_apart)
value_again None = refl
value_again (Some x) = some_again (carried bands_at x)

published_again : (components : List Tagged) → option_and_then if_apart (published_bands components) ≡ published_bands components
unfolding published_bands
published_again components = value_again (published BANDS_POLICY components)

pub apart_again : (components : List Tagged) (read bands : Option (List Span)) → read ≡ published_bands components
    → bands ≡ option_and_then if_apart read → bands ≡ published_bands components
apart_again components read bands is apart = apart ∙ ap (option_and_then if_apart) is ∙ published_again components

-- what comes of a list of bands
pub made_apart : (bands : List Span) (answer : Result (List Span) (Room Span)) → is_ok answer ≡ are_apart bands
    → IfOk answer (λ b. b ≡ bands) → result_ok answer ≡ if_apart bands
made_apart bands (Ok b) test same = rw (← test) (ap Some same)
made_apart bands (Err list) test same = rw (← test) refl
