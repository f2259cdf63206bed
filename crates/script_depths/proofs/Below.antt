-- What is done at a mark is done to what it takes alone.
use Rattle.std.proofs.Common.{◌≡◌, ◌≤◌, ℕ, ℤ, List, [], ◌∷◌, ◌+◌, ◌++◌, length, Option, Some, None, Ok, refl, ap, arith}
use Rattle.idl_tokens.specs.Placed.{Placed}
use Rattle.idl_tokens.specs.Quotes.{unquoted}
use Rattle.idl_tokens.specs.Stream.{first_or, rest_of}
use Rattle.idl_tokens.specs.declared.kind.Kind.{Kind}
use Rattle.orb_base.specs.NulFree.{nul_at}
use Rattle.grammar.specs.Grammar.{took, did}
use Rattle.script_grammar.specs.declared.operator.Unary.TheVariants.{Group}
use Rattle.script_grammar.specs.declared.operator.Binary.TheVariants.{Or}
use Rattle.script_grammar.specs.declared.label.ScriptLabel.{ScriptLabel}
use Rattle.script_grammar.specs.declared.label.ScriptLabel.TheVariants as l
use Rattle.servant_scripts.specs.Drafts.{Draft, no_place, no_part, no_name, no_phrase, wrap, join, next_part, use_name, with_member, item, end_list, end_field, make, end_raise, end_let, end_set, end_if, leave, give, end_method, end_servant}
use Rattle.servant_scripts.specs.Labels.{with_number, with_text, settle, act}
use Rattle.servant_scripts.specs.Literals.{literal_of}
use Rattle.script_depths.specs.Counts.{Has}
use Rattle.script_depths.specs.Taking.{takes_alone, takes_there}
use Rattle.script_depths.specs.Laws.{over, each_over, LabelsTakeNoMore}

-- ---- a stack on another one

first_on : {A : Type 0} (xs ys : List A) (blank : A) → 1 ≤ length xs → first_or (xs ++ ys) blank ≡ first_or xs blank
first_on [] ys blank h = absurd (omega arith)
first_on (x ∷ xs) ys blank h = refl

rest_on : {A : Type 0} (xs ys : List A) → 1 ≤ length xs → rest_of (xs ++ ys) ≡ rest_of xs ++ ys
rest_on [] ys h = absurd (omega arith)
rest_on (x ∷ xs) ys h = refl

-- a stack of two has one, and one more after it
one_of : {A : Type 0} (xs : List A) → 2 ≤ length xs → 1 ≤ length xs
one_of xs h = omega arith

next_of : {A : Type 0} (xs : List A) (n : ℕ) → n + 1 ≤ length xs → n ≤ length (rest_of xs)
next_of [] n h = omega arith
next_of (x ∷ xs) n h = omega arith

-- ---- what needs no token

wrap_over : (d below : Draft) → Has d (takes_alone l.Wrap) → wrap (over d below) ≡ over (wrap d) below
wrap_over d below h =
    rw (
      first_on d.places below.places no_place h.places,
      rest_on d.places below.places h.places,
      first_on d.unaries below.unaries Group h.unaries,
      rest_on d.unaries below.unaries h.unaries,
      first_on d.phrases below.phrases no_phrase h.phrases,
      rest_on d.phrases below.phrases h.phrases,
    )

join_over : (d below : Draft) → Has d (takes_alone l.Join) → join (over d below) ≡ over (join d) below
join_over d below h =
    let one = one_of d.phrases h.phrases in
    let two = next_of d.phrases 1 h.phrases in
    rw (
      first_on d.binaries below.binaries Or h.binaries,
      rest_on d.binaries below.binaries h.binaries,
      first_on d.phrases below.phrases no_phrase one,
      rest_on d.phrases below.phrases one,
      first_on (rest_of d.phrases) below.phrases no_phrase two,
      rest_on (rest_of d.phrases) below.phrases two,
    )

use_name_over : (d below : Draft) → Has d (takes_alone l.UseName) → use_name (over d below) ≡ over (use_name d) below
use_name_over d below h =
    rw (first_on d.names below.names no_name h.names, rest_on d.names below.names h.names)

item_over : (d below : Draft) → Has d (takes_alone l.Item) → item (over d below) ≡ over (item d) below
item_over d below h =
    rw (
      first_on d.phrases below.phrases no_phrase h.phrases,
      rest_on d.phrases below.phrases h.phrases,
      first_on d.lists below.lists [] h.lists,
      rest_on d.lists below.lists h.lists,
    )

end_list_over : (d below : Draft) → Has d (takes_alone l.EndList) → end_list (over d below) ≡ over (end_list d) below
end_list_over d below h =
    rw (
      first_on d.places below.places no_place h.places,
      rest_on d.places below.places h.places,
      first_on d.lists below.lists [] h.lists,
      rest_on d.lists below.lists h.lists,
    )

end_field_over : (d below : Draft) → Has d (takes_alone l.Field) → end_field (over d below) ≡ over (end_field d) below
end_field_over d below h =
    rw (
      first_on d.waiting below.waiting no_part h.waiting,
      rest_on d.waiting below.waiting h.waiting,
      first_on d.phrases below.phrases no_phrase h.phrases,
      rest_on d.phrases below.phrases h.phrases,
      first_on d.fields below.fields [] h.fields,
      rest_on d.fields below.fields h.fields,
    )

end_let_over : (d below : Draft) → Has d (takes_alone l.Let) → end_let (over d below) ≡ over (end_let d) below
end_let_over d below h =
    rw (
      first_on d.places below.places no_place h.places,
      rest_on d.places below.places h.places,
      first_on d.waiting below.waiting no_part h.waiting,
      rest_on d.waiting below.waiting h.waiting,
      first_on d.phrases below.phrases no_phrase h.phrases,
      rest_on d.phrases below.phrases h.phrases,
      first_on d.blocks below.blocks [] h.blocks,
      rest_on d.blocks below.blocks h.blocks,
    )

end_set_over : (d below : Draft) → Has d (takes_alone l.Set) → end_set (over d below) ≡ over (end_set d) below
end_set_over d below h =
    rw (
      first_on d.waiting below.waiting no_part h.waiting,
      rest_on d.waiting below.waiting h.waiting,
      first_on d.phrases below.phrases no_phrase h.phrases,
      rest_on d.phrases below.phrases h.phrases,
      first_on d.blocks below.blocks [] h.blocks,
      rest_on d.blocks below.blocks h.blocks,
    )

end_if_over : (d below : Draft) → Has d (takes_alone l.If) → end_if (over d below) ≡ over (end_if d) below
end_if_over d below h =
    let two = next_of d.blocks 2 h.blocks in
    let three = next_of (rest_of d.blocks) 1 two in
    let one : 1 ≤ length d.blocks = omega (arith, h.blocks) in
    let some = one_of (rest_of d.blocks) two in
    rw (
      first_on d.phrases below.phrases no_phrase h.phrases,
      rest_on d.phrases below.phrases h.phrases,
      first_on d.blocks below.blocks [] one,
      rest_on d.blocks below.blocks one,
      first_on (rest_of d.blocks) below.blocks [] some,
      rest_on (rest_of d.blocks) below.blocks some,
      first_on (rest_of (rest_of d.blocks)) below.blocks [] three,
      rest_on (rest_of (rest_of d.blocks)) below.blocks three,
    )

leave_over : (d below : Draft) → Has d (takes_alone l.Leave) → leave (over d below) ≡ over (leave d) below
leave_over d below h =
    rw (
      first_on d.places below.places no_place h.places,
      rest_on d.places below.places h.places,
      first_on d.blocks below.blocks [] h.blocks,
      rest_on d.blocks below.blocks h.blocks,
    )

give_over : (d below : Draft) → Has d (takes_alone l.Return) → give (over d below) ≡ over (give d) below
give_over d below h =
    rw (
      first_on d.places below.places no_place h.places,
      rest_on d.places below.places h.places,
      first_on d.phrases below.phrases no_phrase h.phrases,
      rest_on d.phrases below.phrases h.phrases,
      first_on d.blocks below.blocks [] h.blocks,
      rest_on d.blocks below.blocks h.blocks,
    )

end_servant_over : (d below : Draft) → Has d (takes_alone l.Servant) → end_servant (over d below) ≡ over (end_servant d) below
end_servant_over d below h =
    rw (
      first_on d.places below.places no_place h.places,
      rest_on d.places below.places h.places,
      first_on d.names below.names no_name h.names,
      rest_on d.names below.names h.names,
    )

settle_over : (label : ScriptLabel) (d below : Draft) → Has d (takes_alone label)
    → settle label (over d below) ≡ over (settle label d) below
settle_over l.Wrap d below h = wrap_over d below h
settle_over l.Join d below h = join_over d below h
settle_over l.UseName d below h = use_name_over d below h
settle_over l.Item d below h = item_over d below h
settle_over l.EndList d below h = end_list_over d below h
settle_over l.Field d below h = end_field_over d below h
settle_over l.Let d below h = end_let_over d below h
settle_over l.Set d below h = end_set_over d below h
settle_over l.If d below h = end_if_over d below h
settle_over l.Leave d below h = leave_over d below h
settle_over l.Return d below h = give_over d below h
settle_over l.Servant d below h = end_servant_over d below h
settle_over label d below h = refl

-- ---- what is done at a token

next_part_over : (t : Placed Kind) (d below : Draft) → Has d (takes_there l.NamePart)
    → next_part t (over d below) ≡ over (next_part t d) below
next_part_over t d below h =
    rw (first_on d.names below.names no_name h.names, rest_on d.names below.names h.names)

with_member_over : (t : Placed Kind) (d below : Draft) → Has d (takes_there l.Member)
    → with_member t (over d below) ≡ over (with_member t d) below
with_member_over t d below h =
    rw (first_on d.phrases below.phrases no_phrase h.phrases, rest_on d.phrases below.phrases h.phrases)

make_over : (t : Placed Kind) (d below : Draft) → Has d (takes_there l.New) → make t (over d below) ≡ over (make t d) below
make_over t d below h =
    rw (
      first_on d.places below.places no_place h.places,
      rest_on d.places below.places h.places,
      first_on d.names below.names no_name h.names,
      rest_on d.names below.names h.names,
      first_on d.fields below.fields [] h.fields,
      rest_on d.fields below.fields h.fields,
    )

end_raise_over : (t : Placed Kind) (d below : Draft) → Has d (takes_there l.Raise) → end_raise t (over d below) ≡ over (end_raise t d) below
end_raise_over t d below h =
    rw (
      first_on d.names below.names no_name h.names,
      rest_on d.names below.names h.names,
      first_on d.fields below.fields [] h.fields,
      rest_on d.fields below.fields h.fields,
      first_on d.blocks below.blocks [] h.blocks,
      rest_on d.blocks below.blocks h.blocks,
    )

end_method_over : (t : Placed Kind) (d below : Draft) → Has d (takes_there l.Method)
    → end_method t (over d below) ≡ over (end_method t d) below
end_method_over t d below h =
    rw (
      first_on d.places below.places no_place h.places,
      rest_on d.places below.places h.places,
      first_on d.waiting below.waiting no_part h.waiting,
      rest_on d.waiting below.waiting h.waiting,
      first_on d.names below.names no_name h.names,
      rest_on d.names below.names h.names,
      first_on d.blocks below.blocks [] h.blocks,
      rest_on d.blocks below.blocks h.blocks,
    )

number_over : (z : Option ℤ) (t : Placed Kind) (d below : Draft) → with_number z t (over d below) ≡ each_over (with_number z t d) below
number_over None t d below = refl
number_over (Some z) t d below = refl

text_over : (nul : Option ℕ) (t : Placed Kind) (d below : Draft) → with_text nul t (over d below) ≡ each_over (with_text nul t d) below
text_over None t d below = refl
text_over (Some nul) t d below = refl

act_over : (label : ScriptLabel) (t : Placed Kind) (d below : Draft) → Has d (takes_there label)
    → act label t (over d below) ≡ each_over (act label t d) below
act_over l.Number t d below h = number_over (literal_of t.text) t d below
act_over l.Text t d below h = text_over (nul_at (unquoted t.text)) t d below
act_over l.NamePart t d below h = ap Ok (next_part_over t d below h)
act_over l.Member t d below h = ap Ok (with_member_over t d below h)
act_over l.New t d below h = ap Ok (make_over t d below h)
act_over l.Raise t d below h = ap Ok (end_raise_over t d below h)
act_over l.Method t d below h = ap Ok (end_method_over t d below h)
act_over l.Wrap t d below h = ap Ok (wrap_over d below h)
act_over l.Join t d below h = ap Ok (join_over d below h)
act_over l.UseName t d below h = ap Ok (use_name_over d below h)
act_over l.Item t d below h = ap Ok (item_over d below h)
act_over l.EndList t d below h = ap Ok (end_list_over d below h)
act_over l.Field t d below h = ap Ok (end_field_over d below h)
act_over l.Let t d below h = ap Ok (end_let_over d below h)
act_over l.Set t d below h = ap Ok (end_set_over d below h)
act_over l.If t d below h = ap Ok (end_if_over d below h)
act_over l.Leave t d below h = ap Ok (leave_over d below h)
act_over l.Return t d below h = ap Ok (give_over d below h)
act_over l.Servant t d below h = ap Ok (end_servant_over d below h)
act_over label t d below h = refl

-- at a mark
pub mark_over : LabelsTakeNoMore
mark_over (took label t) d below h = act_over label t d below h
mark_over (did label) d below h = ap Ok (settle_over label d below h)
