-- What slots in a row left, the last one's after.
use Rattle.std.proofs.Common.{◌≡◌, List, [], ◌∷◌, ◌++◌, ap, ◌∙◌, append-nil}
use Rattle.std.proofs.lemmas.List.Concat.{flat_map-append}
use Rattle.halls.specs.declared.host.LinkLog.{LinkLog}
use Rattle.names_runs.specs.Jobs.{NamesDone}
use Rattle.names_runs.specs.Giving.{conns_of}

pub conns_more : {A I O : Type 0} (done xs : List (NamesDone A I O)) (x : NamesDone A I O) → done ≡ xs ++ x ∷ [] → conns_of done ≡ conns_of xs ++ x.logs.items
conns_more {A} {I} {O} done xs x e = ap (λ (z : List (NamesDone A I O)). conns_of z) e ∙ (flat_map-append {A = LinkLog I O} (λ (d : NamesDone A I O). d.logs.items) xs (x ∷ [])
    ∙ ap (λ (z : List (LinkLog I O)). conns_of xs ++ z) (append-nil x.logs.items))
