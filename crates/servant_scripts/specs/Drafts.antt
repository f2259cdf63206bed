-- What is known in the middle of a script: stacks, the newest first. A stack that is empty gives something blank, which no text
-- of the grammar meets (crate `script_depths`).
use Rattle.std.specs.Prelude.{List, [], ◌∷◌, ◌++◌, Bool, true, false}
use Rattle.idl_tokens.specs.Placed.{Placed}
use Rattle.idl_tokens.specs.Stream.{first_or, rest_of}
use Rattle.idl_tokens.specs.declared.kind.Kind.{Kind}
use Rattle.script_grammar.specs.declared.operator.Unary.{Unary}
use Rattle.script_grammar.specs.declared.operator.Unary.TheVariants.{Group}
use Rattle.script_grammar.specs.declared.operator.Binary.{Binary}
use Rattle.script_grammar.specs.declared.operator.Binary.TheVariants.{Or}
use Rattle.servant_scripts.specs.declared.phrase.At.{At}
use Rattle.servant_scripts.specs.declared.phrase.Part.{Part}
use Rattle.servant_scripts.specs.Trees.{Scoped, Said, said, Shape, say_priority, say_name, say_unary, say_binary, say_member, say_new, say_list, fields_of, saids_of, place_of, Say, say_let, say_set, say_if, say_leave, say_return, say_raise, says_of, MethodSaid, ServantSaid}

-- what was built so far
pub record Draft : Type 0 where
  -- places of words and brackets that are needed when what they begin is whole
  pub places : List At
  -- operators whose operand comes
  pub unaries : List Unary
  -- operators whose second operand comes
  pub binaries : List Binary
  -- names of fields, variables and methods whose value or body comes
  pub waiting : List Part
  -- scoped names, and the parameters of a method
  pub names : List Scoped
  pub phrases : List Said
  pub lists : List (List Said)
  pub fields : List (List (Part × Said))
  pub blocks : List (List Say)
  pub methods : List MethodSaid
  pub servants : List ServantSaid

-- nothing
abbrev pub empty : Draft
empty = record { places = []; unaries = []; binaries = []; waiting = []; names = []; phrases = []; lists = []; fields = []; blocks = []; methods = []; servants = [] }

-- where a token is
abbrev pub place : Placed Kind → At
place t = record { line = t.line; column = t.column }

-- a name, and where it is
abbrev pub part : Placed Kind → Part
part t = record { at = place t; name = t.text }

-- no place, no name, no expression
abbrev pub no_place : At
no_place = record { line = 0; column = 0 }

-- what stands for a name where none waits
abbrev pub no_part : Part
no_part = record { at = no_place; name = [] }

-- what stands for a scoped name where there is none
abbrev pub no_name : Scoped
no_name = record { at = no_place; rooted = false; parts = [] }

-- what stands for an expression where there is none
abbrev pub no_phrase : Said
no_phrase = said no_place say_priority

-- the place of a token is kept
abbrev pub keep : Placed Kind → Draft → Draft
keep t d = record d { places = place t ∷ d.places }

-- an operator begins, whose operand comes
abbrev pub begin_unary : Unary → Placed Kind → Draft → Draft
begin_unary o t d = record d { places = place t ∷ d.places; unaries = o ∷ d.unaries }

-- the newest expression is the operand of the newest operator
abbrev pub wrap : Draft → Draft
wrap d =
    record d {
      places = rest_of d.places;
      unaries = rest_of d.unaries;
      phrases = said (first_or d.places no_place) (say_unary (first_or d.unaries Group) (first_or d.phrases no_phrase)) ∷ rest_of d.phrases;
    }

-- an operator is after its first operand
abbrev pub begin_binary : Binary → Draft → Draft
begin_binary o d = record d { binaries = o ∷ d.binaries }

-- an operator with its operands, which begins where the first one does
abbrev pub both : Binary → Said → Said → Said
both o a b = said (place_of a) (say_binary o a b)

-- the two newest expressions are the operands of the newest operator
abbrev pub join : Draft → Draft
join d =
    record d {
      binaries = rest_of d.binaries;
      phrases = both (first_or d.binaries Or) (first_or (rest_of d.phrases) no_phrase) (first_or d.phrases no_phrase) ∷ rest_of (rest_of d.phrases);
    }

-- an expression of one token
abbrev pub push : Shape → Placed Kind → Draft → Draft
push shape t d = record d { phrases = said (place t) shape ∷ d.phrases }

-- a list of names begins at a token
abbrev pub begin_name : Bool → Placed Kind → Draft → Draft
begin_name rooted t d = record d { names = record { at = place t; rooted = rooted; parts = [] } ∷ d.names }

-- a scoped name begins with `::`
abbrev pub rooted : Placed Kind → Draft → Draft
rooted t d = begin_name true t d

-- a scoped name begins with a part
abbrev pub first_part : Placed Kind → Draft → Draft
first_part t d = record d { names = record { at = place t; rooted = false; parts = part t ∷ [] } ∷ d.names }

-- a scoped name with one more part
abbrev pub with_part : Part → Scoped → Scoped
with_part p n = record n { parts = n.parts ++ p ∷ [] }

-- a further part of the newest name
abbrev pub next_part : Placed Kind → Draft → Draft
next_part t d = record d { names = with_part (part t) (first_or d.names no_name) ∷ rest_of d.names }

-- a name as an expression
abbrev pub named : Scoped → Said
named n = said n.at (say_name n)

-- the newest name is an expression
abbrev pub use_name : Draft → Draft
use_name d = record d { names = rest_of d.names; phrases = named (first_or d.names no_name) ∷ d.phrases }

-- a member of an expression
abbrev pub member_of : Said → Part → Said
member_of s p = said (place_of s) (say_member s p)

-- this member of the newest expression
abbrev pub with_member : Placed Kind → Draft → Draft
with_member t d = record d { phrases = member_of (first_or d.phrases no_phrase) (part t) ∷ rest_of d.phrases }

-- a list opens
abbrev pub open_list : Placed Kind → Draft → Draft
open_list t d = record d { places = place t ∷ d.places; lists = [] ∷ d.lists }

-- the newest expression is the last item of the newest list
abbrev pub item : Draft → Draft
item d = record d { phrases = rest_of d.phrases; lists = (first_or d.lists [] ++ first_or d.phrases no_phrase ∷ []) ∷ rest_of d.lists }

-- the newest list is whole
abbrev pub end_list : Draft → Draft
end_list d =
    record d {
      places = rest_of d.places;
      lists = rest_of d.lists;
      phrases = said (first_or d.places no_place) (say_list (saids_of (first_or d.lists []))) ∷ d.phrases;
    }

-- members open
abbrev pub open_fields : Draft → Draft
open_fields d = record d { fields = [] ∷ d.fields }

-- a name waits for its value or its body
abbrev pub wait : Placed Kind → Draft → Draft
wait t d = record d { waiting = part t ∷ d.waiting }

-- the newest expression is the value of the member whose name waits
abbrev pub end_field : Draft → Draft
end_field d =
    record d {
      waiting = rest_of d.waiting;
      phrases = rest_of d.phrases;
      fields = (first_or d.fields [] ++ (first_or d.waiting no_part, first_or d.phrases no_phrase) ∷ []) ∷ rest_of d.fields;
    }

-- the newest name and the newest members are a new struct, up to this token
abbrev pub make : Placed Kind → Draft → Draft
make t d =
    record d {
      places = rest_of d.places;
      names = rest_of d.names;
      fields = rest_of d.fields;
      phrases = said (first_or d.places no_place) (say_new (first_or d.names no_name) (fields_of (first_or d.fields [])) (place t)) ∷ d.phrases;
    }

-- blocks whose newest has one more statement
abbrev pub with_line : Say → List (List Say) → List (List Say)
with_line s bs = (first_or bs [] ++ s ∷ []) ∷ rest_of bs

-- the newest name and the newest members are an exception that is raised
abbrev pub end_raise : Placed Kind → Draft → Draft
end_raise t d =
    record d {
      names = rest_of d.names;
      fields = rest_of d.fields;
      blocks = with_line (say_raise (first_or d.names no_name) (fields_of (first_or d.fields [])) (place t)) d.blocks;
    }

-- a block opens
abbrev pub open_block : Draft → Draft
open_block d = record d { blocks = [] ∷ d.blocks }

-- a variable with its value
abbrev pub end_let : Draft → Draft
end_let d =
    record d {
      places = rest_of d.places;
      waiting = rest_of d.waiting;
      phrases = rest_of d.phrases;
      blocks = with_line (say_let (first_or d.places no_place) (first_or d.waiting no_part) (first_or d.phrases no_phrase)) d.blocks;
    }

-- a parameter is set
abbrev pub end_set : Draft → Draft
end_set d =
    record d {
      waiting = rest_of d.waiting;
      phrases = rest_of d.phrases;
      blocks = with_line (say_set (first_or d.waiting no_part) (first_or d.phrases no_phrase)) d.blocks;
    }

-- a choice: the newest block is what is done otherwise, and the one before it what is done where the expression is true
abbrev pub end_if : Draft → Draft
end_if d =
    record d {
      phrases = rest_of d.phrases;
      blocks = with_line (say_if (first_or d.phrases no_phrase) (says_of (first_or (rest_of d.blocks) [])) (says_of (first_or d.blocks []))) (rest_of (rest_of d.blocks));
    }

-- a return without a value
abbrev pub leave : Draft → Draft
leave d = record d { places = rest_of d.places; blocks = with_line (say_leave (first_or d.places no_place)) d.blocks }

-- a return with a value
abbrev pub give : Draft → Draft
give d =
    record d {
      places = rest_of d.places;
      phrases = rest_of d.phrases;
      blocks = with_line (say_return (first_or d.places no_place) (first_or d.phrases no_phrase)) d.blocks;
    }

-- the parameters of a method begin
abbrev pub open_names : Placed Kind → Draft → Draft
open_names t d = begin_name false t d

-- a method is whole
abbrev pub end_method : Placed Kind → Draft → Draft
end_method t d =
    record d {
      places = rest_of d.places;
      waiting = rest_of d.waiting;
      names = rest_of d.names;
      blocks = rest_of d.blocks;
      methods = d.methods ++ record { name = first_or d.waiting no_part; parameters = (first_or d.names no_name).parts; close = first_or d.places no_place; body = says_of (first_or d.blocks []); end = place t } ∷ [];
    }

-- a servant is whole
abbrev pub end_servant : Draft → Draft
end_servant d =
    record d {
      places = rest_of d.places;
      names = rest_of d.names;
      methods = [];
      servants = d.servants ++ record { at = first_or d.places no_place; name = first_or d.names no_name; methods = d.methods } ∷ [];
    }
