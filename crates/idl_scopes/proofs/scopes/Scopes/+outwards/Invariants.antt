use Rattle.idl_scopes.proofs.scopes.Scopes.+outwards.Given as goal

abbrev pub decreases-outwards : goal.decreases-outwards
decreases-outwards l = l.n
