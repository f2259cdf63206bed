-- A remote object as a reference's text tells of it: CORBA 3.0.3, sections 13.6.2 and 13.6.10; Real-time CORBA 1.2, Priority
-- models and Priority banded connections.
use Rattle.std.specs.Prelude.{ℕ, List, [], Option, None}
use Rattle.orb_base.specs.Span.{Span}
use Rattle.object_refs.specs.Reference.{Reference, Profile, Location}
use Rattle.service_contexts.specs.Layout.{ModelValue}
use Rattle.service_contexts.specs.Publishing.{published_model, published_bands}

-- an address, the key of an object there, and the repository id of its type; the priority model with the server's priority,
-- and the bands, where they are known
pub record Remote : Type 0 where
  pub host : List ℕ
  pub port : ℕ
  pub key : List ℕ
  pub type_id : List ℕ
  pub model : Option ModelValue
  pub bands : Option (List Span)

-- the object of a location, of which no more is known
abbrev pub located : Location → Remote
located l = record { host = l.host; port = l.port; key = l.key; type_id = []; model = None; bands = None }

-- the object of a reference by one of its profiles, with the policies that count in it
abbrev pub referred : Reference → Profile → Remote
referred r p = record {
  host = p.host;
  port = p.port;
  key = p.key;
  type_id = r.type_id;
  model = published_model p.components;
  bands = published_bands p.components;
}
