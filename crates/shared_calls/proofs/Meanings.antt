-- What calls come to without a reply.
use Rattle.std.proofs.Common.{[], refl}
use Rattle.std.specs.Prelude.{Ok, Err}
use Rattle.client_calls.specs.Replies.{Means}
use Rattle.client_mux.specs.declared.why.Why.{Why}
use Rattle.client_mux.specs.declared.why.Why.TheVariants as why
use Rattle.shared_calls.specs.Results.{fault_of}

pub gone_means : (w : Why) → Means (Err (fault_of w)) (Err (fault_of w))
unfolding Means
gone_means why.Closed = refl
gone_means (why.Refused offset cause) = refl
gone_means why.Limit = refl
gone_means why.ReadFault = refl
gone_means why.WriteFault = refl
gone_means why.NoMemory = tt

pub none_means : Means (Ok []) (Ok [])
unfolding Means
none_means = refl
