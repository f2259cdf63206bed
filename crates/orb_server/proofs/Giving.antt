-- What slots in a row left, the last one's after.
use Rattle.std.proofs.Common.{◌≡◌, List, [], ◌∷◌, ◌++◌, ap, ◌∙◌, append-nil}
use Rattle.std.proofs.lemmas.List.Concat.{flat_map-append}
use Rattle.orb_server.specs.Jobs.{PoolDone}
use Rattle.orb_server.specs.declared.run.ConnLog.{ConnLog}
use Rattle.orb_server.specs.Giving.{conns_of}

pub conns_more : {A I O : Type 0} (done xs : List (PoolDone A I O)) (x : PoolDone A I O) → done ≡ xs ++ x ∷ [] → conns_of done ≡ conns_of xs ++ x.logs.items
conns_more {A} {I} {O} done xs x e = ap (λ (z : List (PoolDone A I O)). conns_of z) e ∙ (flat_map-append {A = ConnLog I O} (λ (d : PoolDone A I O). d.logs.items) xs (x ∷ [])
    ∙ ap (λ (z : List (ConnLog I O)). conns_of xs ++ z) (append-nil x.logs.items))
