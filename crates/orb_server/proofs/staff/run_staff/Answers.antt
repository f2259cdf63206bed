use Rattle.std.proofs.Common.{rules}
use Rattle.orb_server.proofs.Kept.{kept_quiet}
use Rattle.orb_server.proofs.staff.run_staff.Goals as goal

pub scoped-requires : goal.scoped-requires
scoped-requires g c =
    let b = c.type_bounds in
    record {
      at = λ a. (
        (
          search rules,
          search rules,
          search rules,
          record { owned = b.send-A.owned; leaving = kept_quiet 0 },
          record { owned = b.send-A-In.owned; leaving = kept_quiet 4 },
          record { owned = b.send-A-Out.owned; leaving = kept_quiet 5 },
          c.requires,
        ),
        (
          record { owned = b.send-A.owned; leaving = kept_quiet 0 },
          record { owned = b.send-A-In.owned; leaving = kept_quiet 4 },
          record { owned = b.send-A-Out.owned; leaving = kept_quiet 5 },
          search rules,
          search rules,
          search rules,
        ),
      );
    }
