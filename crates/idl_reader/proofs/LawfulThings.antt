-- Each type that a text declares is lawful.
use Rattle.std.proofs.Common.{ℕ, Bool, List, [], ◌∷◌, Option, Some, None, sym, subst}
use Rattle.cdr_values.specs.Lawful.{is_lawful, are_lawful}
use Rattle.cdr_values.specs.Trees.{Kind, members_of}
use Rattle.idl_types.specs.Apart.{is_told_apart}
use Rattle.idl_types.specs.Things.{OperationView, ParamView}
use Rattle.idl_names.specs.State.{Thing, nothing, interface, type, exception, constant, enumerator, operations}
use Rattle.idl_reader.specs.Accepted.{Each, TextsGive, HasLawfulTypes}
use Rattle.idl_reader.proofs.KeptTypes.{IsSoResult, AreSoParams, AreSoOperations, IsSoThing}
use Rattle.idl_reader.proofs.ToldTypes.{told_members}
use Rattle.idl_reader.proofs.TypedThings.{each_typed}
use Rattle.idl_reader.proofs.ApartBodies.{told_text}
use Rattle.idl_reader.proofs.LawfulTypes.{is_formed, lawful_from, lawful_members}
use Rattle.idl_reader.proofs.FilledBodies.{formed_members, formed_text}

-- so of members
abbrev lawful_list : List (List ℕ × Kind) → Bool
lawful_list ms = are_lawful (members_of ms)

-- what is told apart and formed is lawful
lawful_result : (o : Option Kind) → IsSoResult is_told_apart told_members o → IsSoResult is_formed formed_members o → IsSoResult is_lawful lawful_list o
lawful_result None a f = tt
lawful_result (Some k) a f = lawful_from k a f

lawful_params : (ps : List ParamView) → AreSoParams is_told_apart told_members ps → AreSoParams is_formed formed_members ps → AreSoParams is_lawful lawful_list ps
lawful_params [] a f = tt
lawful_params (p ∷ ps) a f = (lawful_from p.kind a.0 f.0, lawful_params ps a.1 f.1)

lawful_operations : (os : List OperationView) → AreSoOperations is_told_apart told_members os → AreSoOperations is_formed formed_members os → AreSoOperations is_lawful lawful_list os
lawful_operations [] a f = tt
lawful_operations (o ∷ os) a f = ((lawful_result o.result a.0.0 f.0.0, lawful_params o.params a.0.1 f.0.1), lawful_operations os a.1 f.1)

lawful_thing : (x : Thing) → IsSoThing is_told_apart told_members x → IsSoThing is_formed formed_members x → IsSoThing is_lawful lawful_list x
lawful_thing nothing a f = tt
lawful_thing (interface bs os) a f = tt
lawful_thing (type k) a f = lawful_from k.kind a f
lawful_thing (exception ms) a f = lawful_members (members_of ms) a f
lawful_thing (constant k v) a f = lawful_from k a f
lawful_thing (enumerator id n) a f = tt
lawful_thing (operations os n) a f = lawful_operations os a f

pub texts_give_lawful_types : TextsGive HasLawfulTypes
texts_give_lawful_types text ts w =
    let n = w.new in
    let a = (told_text text n w.names).things in
    let f = (formed_text text n w.names).things in
    subst (Each HasLawfulTypes []) (sym w.told) (each_typed is_lawful lawful_list n.scopes n.things (λ i x e. lawful_thing x (a i x e) (f i x e)))
