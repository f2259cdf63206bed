-- The names in the types of a text are told apart, where those of each body are that ends.
use Rattle.std.proofs.Common.{◌≡◌, ℕ, Bool, true, false, ◌&&◌, List, [], ◌∷◌, refl}
use Rattle.std.proofs.lemmas.Bool.{and_from}
use Rattle.grammar.specs.Language.{Placed}
use Rattle.cdr_values.specs.Lawful.{member_names}
use Rattle.cdr_values.specs.Trees.{Kind, members_of, cases_of, Branch}
use Rattle.idl_tokens.specs.declared.kind.Kind as token
use Rattle.idl_grammar.specs.declared.label.Basic.{Basic}
use Rattle.idl_grammar.specs.declared.label.Basic.TheVariants as basic
use Rattle.idl_grammar.specs.declared.label.IdlLabel.{IdlLabel}
use Rattle.idl_grammar.specs.declared.label.IdlLabel.TheVariants as l
use Rattle.idl_types.specs.Apart.{are_apart, case_names, is_told_apart, parts_are_told_apart, cases_are_told_apart, are_told_apart}
use Rattle.idl_names.specs.Sizes.{basic_kind}
use Rattle.idl_names.specs.State.{Built, nothing_built}
use Rattle.idl_names.specs.Labels.{act, judge}
use Rattle.idl_reader.proofs.Steps.{Gives}
use Rattle.idl_reader.proofs.KeptTypes.{AreSoMembers, AreSoCases, AreTypesSo, EndsWell, so_at, so_alone, nothing_so}

-- the names in members, and in their types
abbrev pub told_members : List (List ℕ × Kind) → Bool
told_members ms = are_told_apart (members_of ms)

abbrev pub AreTypesTold : Built → Type 0
AreTypesTold s = AreTypesSo is_told_apart told_members s

-- the names in a body are told apart
pub record AreBodiesApart (s : Built) : Type 0 where
  pub members : are_apart (member_names (members_of s.parts.members)) ≡ true
  pub cases : are_apart (case_names (cases_of s.parts.cases)) ≡ true
  pub enumerators : are_apart s.parts.enumerators ≡ true

-- the labels at which a body ends
abbrev pub ends_body : IdlLabel → Bool
ends_body l.EndStruct = true
ends_body l.EndException = true
ends_body l.EndUnion = true
ends_body l.EndEnum = true
ends_body label = false

parts_told : (ms : List (List ℕ × Kind)) → AreSoMembers is_told_apart told_members ms → parts_are_told_apart (members_of ms) ≡ true
parts_told [] h = refl
parts_told (m ∷ ms) h = and_from (is_told_apart m.1) (parts_are_told_apart (members_of ms)) h.0 (parts_told ms h.1)

cases_told : (cs : List Branch) → AreSoCases is_told_apart told_members cs → cases_are_told_apart (cases_of cs) ≡ true
cases_told [] h = refl
cases_told (c ∷ cs) h = and_from (is_told_apart c.3) (cases_are_told_apart (cases_of cs)) h.0 (cases_told cs h.1)

ends_told : (label : IdlLabel) (s : Built) → (ends_body label ≡ true → AreBodiesApart s) → EndsWell is_told_apart told_members label s
ends_told l.EndStruct s q = λ m. and_from (are_apart (member_names (members_of s.parts.members))) (parts_are_told_apart (members_of s.parts.members)) (q refl).members (parts_told s.parts.members m)
ends_told l.EndException s q = λ m. and_from (are_apart (member_names (members_of s.parts.members))) (parts_are_told_apart (members_of s.parts.members)) (q refl).members (parts_told s.parts.members m)
ends_told l.EndUnion s q = λ m d.
    and_from (is_told_apart s.parts.discriminator) (are_apart (case_names (cases_of s.parts.cases)) && cases_are_told_apart (cases_of s.parts.cases)) d
    (and_from (are_apart (case_names (cases_of s.parts.cases))) (cases_are_told_apart (cases_of s.parts.cases)) (q refl).cases (cases_told s.parts.cases m))
ends_told l.EndEnum s q = (q refl).enumerators
ends_told label s q = tt

basic_told : (b : Basic) → is_told_apart (basic_kind b) ≡ true
basic_told basic.Boolean = refl
basic_told basic.Octet = refl
basic_told basic.Char = refl
basic_told basic.Short = refl
basic_told basic.UShort = refl
basic_told basic.Long = refl
basic_told basic.ULong = refl
basic_told basic.LongLong = refl
basic_told basic.ULongLong = refl

-- what each label keeps so at its token
pub told_at : (label : IdlLabel) (t : Placed token.Kind) (s : Built) → (ends_body label ≡ true → AreBodiesApart s) → AreTypesTold s → Gives AreTypesTold (act label t s)
told_at label t s q h = so_at is_told_apart told_members basic_told (λ n. refl) (λ k n e. e) (λ k n z e. e) label t s (ends_told label s q) h

-- and without a token
pub told_alone : (label : IdlLabel) (s : Built) → AreTypesTold s → Gives AreTypesTold (judge label s)
told_alone label s h = so_alone is_told_apart told_members basic_told (λ n. refl) (λ k n e. e) (λ k n z e. e) label s h

pub nothing_told : AreTypesTold nothing_built
nothing_told = nothing_so is_told_apart told_members basic_told (λ n. refl) (λ k n e. e) (λ k n z e. e)
