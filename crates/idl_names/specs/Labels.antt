-- What is done at each token of IDL, and without one.
use Rattle.std.specs.Prelude.{pos, neg_ℤ, true, false, Ok}
use Rattle.grammar.specs.Language.{Placed}
use Rattle.cdr_values.specs.Trees.{words}
use Rattle.idl_tokens.specs.declared.kind.Kind.{Kind}
use Rattle.idl_grammar.specs.declared.fault.IdlCause.TheVariants as cause
use Rattle.idl_grammar.specs.declared.label.IdlLabel.{IdlLabel}
use Rattle.idl_grammar.specs.declared.label.IdlLabel.TheVariants as l
use Rattle.idl_constants.specs.ConstValues.{number, truth}
use Rattle.idl_names.specs.Sizes.{leaf, basic_kind}
use Rattle.idl_types.specs.declared.way.Way.TheVariants as way
use Rattle.idl_names.specs.State.{rooted, Built}
use Rattle.idl_names.specs.Changes.{Done, place_of, refused, declare, open_body, leave}
use Rattle.idl_names.specs.ScopedNames as names
use Rattle.idl_names.specs.Values as values
use Rattle.idl_names.specs.Bodies as bodies
use Rattle.idl_names.specs.Interfaces as interfaces

-- at a token of a type with a body, or of an operation
abbrev pub act_in_body : IdlLabel → Placed Kind → Built → Done
act_in_body l.EndStruct t s = bodies.end_struct s
act_in_body l.EndException t s = bodies.end_exception s
act_in_body l.DefaultLabel t s = bodies.default_label t s
act_in_body l.EndUnion t s = bodies.end_union s
act_in_body l.Enumerator t s = bodies.enumerate t s
act_in_body l.EndEnum t s = bodies.end_enum s
act_in_body l.ReadOnly t s = Ok (record s { parts = record s.parts { readonly = true } })
act_in_body l.Attribute t s = interfaces.attribute t s
act_in_body l.OneWay t s = Ok (record s { parts = record s.parts { oneway = true } })
act_in_body l.LongResultName t s = names.long_result_name s
act_in_body l.In t s = interfaces.goes way.Input t s
act_in_body l.Out t s = interfaces.goes way.Output t s
act_in_body l.InOut t s = interfaces.goes way.Both t s
act_in_body l.Param t s = interfaces.param t s
act_in_body l.Raises t s = interfaces.raises t s
act_in_body label t s = Ok s

-- at a token of a value
abbrev pub act_on_value : IdlLabel → Placed Kind → Built → Done
act_on_value l.Sign t s = values.literal (number (pos 0)) t s
act_on_value l.Number t s = values.literal (number (values.number_of t)) t s
act_on_value l.Plus t s = values.behind_sign (values.number_of t) t s
act_on_value l.Minus t s = values.behind_sign (neg_ℤ (values.number_of t)) t s
act_on_value l.Character t s = values.literal (values.character_of t) t s
act_on_value l.Text t s = values.literal (values.text_of t) t s
act_on_value (l.Truth b) t s = values.literal (truth b) t s
act_on_value label t s = act_in_body label t s

-- at a token
abbrev pub act : IdlLabel → Placed Kind → Built → Done
act (l.Refuse c) t s = refused c (place_of t)
act l.Module t s = names.module_opened t s
act l.EndModule t s = Ok (leave s)
act l.Interface t s = declare t s
act l.OpenInterface t s = interfaces.open_interface s
act l.EndInterface t s = Ok (leave s)
act l.Rooted t s = Ok (record s { search = rooted })
act l.NamePart t s = names.name_part t s
act (l.Basic b) t s = names.typed (leaf (basic_kind b)) s
act l.AnyText t s = names.typed (leaf (words 0)) s
act l.BoundedText t s = values.bounded_text s
act l.Sequence t s = values.sequenced s
act l.Declare t s = declare t s
act l.Open t s = open_body t s
act label t s = act_on_value label t s

-- without a token
abbrev pub judge : IdlLabel → Built → Done
judge l.Base s = interfaces.base_named (names.meaning s) s
judge l.Inherit s = interfaces.inherit s
judge l.UseType s = names.use_type (names.meaning s) s
judge l.UseConst s = names.use_const (names.meaning s) s
judge l.Bound s = values.bound s
judge l.Length s = values.array_length s
judge l.Typedef s = bodies.typedef s
judge l.Member s = bodies.member s
judge l.CaseMember s = bodies.case_member s
judge l.Switch s = bodies.switch s
judge l.CaseLabel s = bodies.case_label s
judge l.ConstType s = values.const_type s
judge l.EndConst s = values.end_const s
judge l.EndAttribute s = Ok (record s { parts = record s.parts { readonly = false } })
judge l.ResultName s = names.result_name s
judge l.Result s = interfaces.result s
judge l.Raised s = interfaces.raised (names.meaning s) s
judge l.EndOperation s = interfaces.end_operation s
judge label s = Ok s
