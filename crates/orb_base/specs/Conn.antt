-- Names of connections.
use Rattle.std.specs.Prelude.{Bool, ◌==◌, ◌&&◌}
use Rattle.orb_base.specs.declared.conn_id.ConnId.{ConnId}

-- two names of one connection
abbrev pub same_conn : ConnId → ConnId → Bool
same_conn a b = (a.slot == b.slot) && (a.nth == b.nth)
