-- What the passes over the requests ask of each.
use Rattle.std.specs.Prelude.{ℕ, Bool, ◌==◌, ◌&&◌}
use Rattle.orb_base.specs.Conn.{same_conn}
use Rattle.orb_base.specs.declared.conn_id.ConnId.{ConnId}
use Rattle.orb_base.specs.declared.job.Job.{Job}
use Rattle.request_buffer.specs.declared.key.Key.{Key}
use Rattle.request_buffer.specs.Kept.{is_late}

-- the key of a request
abbrev pub key_of : Job → Key
key_of job = record { conn = job.conn; id = job.id; due = job.due; lane = job.lane; priority = job.priority }

-- the key is that of a request of the connection with this id, whose reply is still due
abbrev pub names_late : ConnId → ℕ → Key → Bool
names_late conn id key = is_late key.due && same_conn key.conn conn && (key.id == id)
