use Rattle.object_refs.specs.Locations.{IsLocation}
use Rattle.object_refs.specs.LocationReading.{location_of}
use Rattle.object_refs.specs.Reference.{Location}
use Rattle.object_refs.proofs.Steps.{found_so, only_so, fails_so, told_so}
use Rattle.object_refs.specs.RefusingTexts.{RefusesLocation}
use Rattle.object_refs.proofs.RefusedTexts.{locations_refuse}
use Rattle.object_refs.proofs.Located.{locations_exact}
use Rattle.object_refs.proofs.corbaloc.parse_corbaloc.Goals as goal

pub returns-clause-found : goal.returns-clause-found
returns-clause-found c =
    let text = c.args.text.now in
    found_so {X = Location} (λ l. l) c.location.result (location_of text) (λ l. IsLocation l text)
    (locations_exact text) c.location.ensures

pub returns-clause-only : goal.returns-clause-only
returns-clause-only c =
    let text = c.args.text.now in
    only_so {X = Location} (λ l. l) c.location.result (location_of text) (λ l. IsLocation l text)
    (locations_exact text) c.location.ensures

pub returns-clause-fails : goal.returns-clause-fails
returns-clause-fails c =
    let text = c.args.text.now in
    fails_so {X = Location} (λ l. l) c.location.result (location_of text) (RefusesLocation text) (locations_refuse text) c.location.ensures

pub returns-clause-told : goal.returns-clause-told
returns-clause-told c =
    let text = c.args.text.now in
    told_so {X = Location} (λ l. l) c.location.result (location_of text) (RefusesLocation text) (locations_refuse text) c.location.ensures
