-- What the bodies of replies mean, by what was read of them.
use Rattle.std.proofs.Common.{◌≡◌, ℕ, List, Ok, Err, refl, sym, ap}
use Rattle.cdr_core.specs.Cursor.{Cursor, Reads}
use Rattle.cdr_core.specs.Reading.{string_at}
use Rattle.cdr_values.specs.Gives.{Refuses}
use Rattle.cdr_values.specs.Trees.{Kind, Value}
use Rattle.cdr_values.specs.declared.fault.DecodeFault.{DecodeFault}
use Rattle.cdr_values.specs.declared.fault.DecodeFault.TheVariants.{Cdr, NoMemory}
use Rattle.client_calls.specs.Replies.{Outcome, or_bad, giving, telling_user, telling_system, values_at, system_at, Means, fault_of}
use Rattle.client_calls.specs.declared.call_fault.CallFault.{CallFault}
use Rattle.client_calls.specs.declared.call_fault.CallFault.TheVariants.{System, User, Forward}
use Rattle.client_calls.specs.declared.system_exception.SystemException.{SystemException}

-- out of memory, or a bad body
pub fails_so : {A : Type 0} (made : A → Outcome) (e : DecodeFault) (reading : Reads A) → Refuses e reading → Means (Err (fault_of e)) (or_bad made reading)
unfolding Means
fails_so made NoMemory reading h = tt
fails_so made (Cdr f) reading h = sym (ap (or_bad made) h)

pub results_mean : (vs : List Value) (ks : List Kind) (c d : Cursor) → values_at ks c ≡ Ok (vs, d) → Means (Ok vs) (or_bad giving (values_at ks c))
unfolding Means
results_mean vs ks c d h = sym (ap (or_bad giving) h)

pub results_fail : (e : DecodeFault) (f : CallFault) (ks : List Kind) (c : Cursor) → f ≡ fault_of e → Refuses e (values_at ks c) → Means (Err f) (or_bad giving (values_at ks c))
results_fail e f ks c is h = rw is (fails_so giving e (values_at ks c) h)

pub user_means : (id : List ℕ) (c d : Cursor) → string_at c ≡ Ok (id, d) → Means (Err (User id)) (or_bad telling_user (string_at c))
unfolding Means
user_means id c d h = sym (ap (or_bad telling_user) h)

pub user_fails : (e : DecodeFault) (f : CallFault) (c : Cursor) → f ≡ fault_of e → Refuses e (string_at c) → Means (Err f) (or_bad telling_user (string_at c))
user_fails e f c is h = rw is (fails_so telling_user e (string_at c) h)

pub system_means : (x : SystemException) (c d : Cursor) → system_at c ≡ Ok (x, d) → Means (Err (System x)) (or_bad telling_system (system_at c))
unfolding Means
system_means x c d h = sym (ap (or_bad telling_system) h)

pub system_fails : (e : DecodeFault) (f : CallFault) (c : Cursor) → f ≡ fault_of e → Refuses e (system_at c) → Means (Err f) (or_bad telling_system (system_at c))
system_fails e f c is h = rw is (fails_so telling_system e (system_at c) h)

pub elsewhere_means : (status : ℕ) → Means (Err (Forward status)) (Err (Forward status))
unfolding Means
elsewhere_means status = refl
