-- The setup without a configuration has the empty texts, and is served.
use Rattle.std.proofs.Common.{◌≡◌, List, [], Some, None, false, true, inl, inr, refl, sym, ap, ◌∙◌, lit<}
use Rattle.std.specs.Prelude.{Result, Ok, Err, not, is_some}
use Rattle.cdr_core.proofs.CallerLemmas.{ok_is}
use Rattle.orb_base.specs.Filing.{FilesState}
use Rattle.adapter_policies.specs.BuiltIn.{built_in, built_in_object}
use Rattle.config_tables.specs.Fault.{Fault, fault_of}
use Rattle.idl_types.specs.BuiltIn.{with_ping}
use Rattle.idl_types.specs.Things.{Thing}
use Rattle.idl_grammar.specs.declared.fault.IdlFault.{IdlFault}
use Rattle.idl_reader.specs.Whole.{text_things}
use Rattle.script_grammar.specs.declared.fault.ScriptFault.{ScriptFault}
use Rattle.grammar.specs.Reading.{read_whole, read_rule, repeated, ended}
use Rattle.idl_tokens.specs.Cutting.{cut}
use Rattle.idl_tokens.specs.Placed.{same_kind}
use Rattle.servant_scripts.specs.Scripts.{tokens_reading, script_reading}
use Rattle.servant_scripts.specs.Trees.{ServantSaid}
use Rattle.dynamic_servants.specs.Outcome.{Served}
use Rattle.dynamic_servants.specs.PingLaw.{ServesPing}
use Rattle.dynamic_servants.specs.Served.{served_by, served_of}
use Rattle.dynamic_servants.proofs.Current.{ping_served, target_is}
use Rattle.setup_servants.specs.Interfaces.{InterfacesGive}
use Rattle.setup_servants.specs.Laws.{BuiltInIsServed, BuiltInHasServants}
use Rattle.setup_servants.specs.Scripts.{ScriptsGive}
use Rattle.setup_servants.specs.Servants.{Judges}
use Rattle.setup_servants.specs.Serving.{is_unserved, unserved_fault}
use Rattle.setup_servants.specs.declared.fault.TextRole.TheVariants as role
use Rattle.setup_servants.specs.declared.fault.ServingFault.TheVariants as fault

-- the empty text declares nothing
nothing_declared : text_things [] ≡ Ok []
unfolding read_whole read_rule repeated ended cut same_kind
nothing_declared = refl

-- the empty text has no servants
nothing_said : script_reading [] ≡ Ok []
unfolding tokens_reading read_whole read_rule repeated ended cut same_kind
nothing_said = refl

declared_none : (old : FilesState) (answer : Result (List Thing) IdlFault) → InterfacesGive old None answer → answer ≡ Ok []
declared_none old answer h = sym h.gives ∙ ap text_things h.text ∙ nothing_declared

said_none : (old : FilesState) (answer : Result (List ServantSaid) ScriptFault) → ScriptsGive old None answer → answer ≡ Ok []
said_none old answer h = sym h.gives ∙ ap script_reading h.text ∙ nothing_said

no_things : (old : FilesState) (things : List Thing) → InterfacesGive old None (Ok things) → things ≡ []
no_things old things h = ok_is things [] (declared_none old (Ok things) h)

no_scripts : (old : FilesState) (said : List ServantSaid) → ScriptsGive old None (Ok said) → said ≡ []
no_scripts old said h = ok_is said [] (said_none old (Ok said) h)

served_so : (old : FilesState) (things : List Thing) (said : List ServantSaid) (s : Served) → InterfacesGive old None (Ok things)
    → served_by (with_ping things) said ≡ Ok s → ServesPing s
served_so old things said s h checks =
    ping_served [] said s refl (lit< tt) (ap (λ (ts : List Thing). served_by (with_ping ts) said) (sym (no_things old things h)) ∙ checks)

pub built_in_is_served : BuiltInIsServed
built_in_is_served s old new (h, same) = served_so old h.things h.said (served_of s) h.interfaces h.serves.0

-- its object is served
ping_is_served : (s : Served) → ServesPing s → is_unserved s built_in_object ≡ false
unfolding is_unserved
ping_is_served s h = ap (λ t. not (is_some t)) (target_is s h)

all_served : (s : Served) → ServesPing s → unserved_fault s built_in ≡ None
all_served s h = rw (ping_is_served s h) refl

no_object : (old : FilesState) (f : Fault) (things : List Thing) (said : List ServantSaid) → InterfacesGive old None (Ok things)
    → Judges built_in things said (Some f) → ⊥
no_object old f things said h judged =
    let none : Some f ≡ None = sym judged.first ∙ all_served judged.served (served_so old things said judged.served h judged.checks) in
    absurd cc

unnamed : false ≡ true → ⊥
unnamed e = cc

pub built_in_has_servants : BuiltInHasServants
built_in_has_servants (fault.Idl f) old new h = let e : Err f ≡ Ok [] = declared_none old (Err f) h.0 in absurd cc
built_in_has_servants (fault.Script f) old new h = let e : Err f ≡ Ok [] = said_none old (Err f) h.1 in absurd cc
built_in_has_servants (fault.Check f) old new (h, same) =
    let e : served_by (with_ping []) [] ≡ Err f =
    ap (λ (ts : List Thing). served_by (with_ping ts) []) (sym (no_things old h.things h.interfaces))
    ∙ ap (λ (vs : List ServantSaid). served_by (with_ping h.things) vs) (sym (no_scripts old h.said h.scripts)) ∙ h.serves in
    absurd cc
built_in_has_servants (fault.Object f) old new (h, same) = absurd (no_object old (fault_of f) h.things h.said h.interfaces h.serves)
built_in_has_servants (fault.Absent role.Idl) old new h = absurd h.0
built_in_has_servants (fault.Absent role.Scripts) old new h = absurd h.1
built_in_has_servants (fault.TooLong role.Idl) old new h = absurd h.0
built_in_has_servants (fault.TooLong role.Scripts) old new h = absurd h.1
built_in_has_servants fault.ReadFault old new h = elim h.0 [ inl n ↦ absurd (unnamed n) | inr n ↦ absurd (unnamed n.1) ]
built_in_has_servants fault.NoMemory old new h = refl
