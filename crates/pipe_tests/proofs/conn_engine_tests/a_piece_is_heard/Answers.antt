use Rattle.pipe_tests.proofs.conn_engine_tests.a_piece_is_heard.Goals as goal

pub at_end-requires : goal.at_end-requires
at_end-requires g c = c.in_ok-heard.ensures.goes_on c.in-None.is
