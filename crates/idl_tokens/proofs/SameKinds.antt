-- Kinds that are told to be the same are one.
use Rattle.std.proofs.Common.{◌≡◌, true}
use denote.Enum.Bare.{same_true}
use Rattle.idl_tokens.specs.Placed.{same_kind}
use Rattle.idl_tokens.specs.contracts.kind.Kind.{the_type}
use Rattle.idl_tokens.specs.declared.kind.Kind.{Kind}

pub same_is : (a b : Kind) → same_kind a b ≡ true → a ≡ b
unfolding same_kind
same_is a b e = same_true the_type tt a b e
