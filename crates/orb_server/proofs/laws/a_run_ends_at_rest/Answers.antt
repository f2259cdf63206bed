use Rattle.orb_server.specs.Runs.{opening_of}
use Rattle.orb_server.proofs.AtRest.{at_rest}
use Rattle.orb_server.proofs.Closing.{ended_last}
use Rattle.orb_server.proofs.laws.a_run_ends_at_rest.Goals as goal

pub returns : goal.returns
returns c = λ setup outcome h law workers. at_rest (opening_of setup) h
    (λ conn serial. c.each_in_one_place.ensures.place conn serial (opening_of setup) h law.opens law.legal)
    (λ conn serial. c.all_is_done.ensures (opening_of setup) h law.opens law.legal law.fit (ended_last setup outcome h workers) conn serial)
