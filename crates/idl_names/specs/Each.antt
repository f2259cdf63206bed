-- Numbers of which each is there once.
pub use Rattle.idl_scopes.specs.Each.{and_new, and_each}
