-- References of objects as plain data: CORBA 3.0.3, sections 13.6.2, 13.6.10 and 15.7.2.
use Rattle.std.specs.Prelude.{ℕ, List}
use Rattle.orb_base.specs.Tagged.{Tagged}

-- a reference: the repository id of its type, and its profiles in order
pub record Reference : Type 0 where
  pub type_id : List ℕ
  pub profiles : List Tagged

-- a profile of IIOP 1.minor: an address, the key of an object there, and components
pub record Profile : Type 0 where
  pub minor : ℕ
  pub host : List ℕ
  pub port : ℕ
  pub key : List ℕ
  pub components : List Tagged

-- what an object URL names: an address, and the key of an object there
pub record Location : Type 0 where
  pub host : List ℕ
  pub port : ℕ
  pub key : List ℕ
