-- What each label of the grammar does to what was built.
use Rattle.std.specs.Prelude.{ℤ, ℕ, Option, Some, None, Result, Ok, Err}
use Rattle.idl_tokens.specs.Placed.{Placed}
use Rattle.idl_tokens.specs.declared.kind.Kind.{Kind}
use Rattle.orb_base.specs.NulFree.{nul_at}
use Rattle.script_grammar.specs.Stopping.{stop}
use Rattle.script_grammar.specs.declared.fault.ScriptFault.{ScriptFault}
use Rattle.script_grammar.specs.declared.label.ScriptLabel.{ScriptLabel}
use Rattle.script_grammar.specs.declared.label.ScriptLabel.TheVariants as l
use Rattle.servant_scripts.specs.Trees.{say_number, say_truth, say_text, say_priority}
use Rattle.idl_tokens.specs.Quotes.{unquoted}
use Rattle.servant_scripts.specs.Literals.{literal_of}
use Rattle.servant_scripts.specs.Drafts.{Draft, keep, begin_unary, wrap, begin_binary, join, push, rooted, first_part, next_part, use_name, with_member, open_list, item, end_list, open_fields, wait, end_field, make, end_raise, open_block, end_let, end_set, end_if, leave, give, open_names, end_method, end_servant}

-- what is built, or the fault
abbrev pub Drafts : Type 0
Drafts = Result Draft ScriptFault

-- a number, if there is one
abbrev pub with_number : Option ℤ → Placed Kind → Draft → Drafts
with_number None t d = Err (stop t)
with_number (Some z) t d = Ok (push (say_number z) t d)

-- a text, which holds no NUL
abbrev pub with_text : Option ℕ → Placed Kind → Draft → Drafts
with_text None t d = Ok (push (say_text (unquoted t.text)) t d)
with_text (Some nul) t d = Err (stop t)

-- what a label does that needs no token
abbrev pub settle : ScriptLabel → Draft → Draft
settle l.Wrap d = wrap d
settle l.Join d = join d
settle l.UseName d = use_name d
settle l.Item d = item d
settle l.EndList d = end_list d
settle l.OpenFields d = open_fields d
settle l.Field d = end_field d
settle l.OpenBlock d = open_block d
settle l.Let d = end_let d
settle l.Set d = end_set d
settle l.If d = end_if d
settle l.Leave d = leave d
settle l.Return d = give d
settle l.Servant d = end_servant d
settle label d = d

-- what it does without a token
abbrev pub judge : ScriptLabel → Draft → Drafts
judge label d = Ok (settle label d)

-- what it does at a token; a number is refused that isn't decimal or isn't below 2^127
abbrev pub act : ScriptLabel → Placed Kind → Draft → Drafts
act l.Number t d = with_number (literal_of t.text) t d
act l.Text t d = with_text (nul_at (unquoted t.text)) t d
act (l.Truth b) t d = Ok (push (say_truth b) t d)
act l.Priority t d = Ok (push say_priority t d)
act l.Place t d = Ok (keep t d)
act (l.Unary o) t d = Ok (begin_unary o t d)
act (l.Binary o) t d = Ok (begin_binary o d)
act l.Rooted t d = Ok (rooted t d)
act l.FirstPart t d = Ok (first_part t d)
act l.NamePart t d = Ok (next_part t d)
act l.Member t d = Ok (with_member t d)
act l.OpenList t d = Ok (open_list t d)
act l.Named t d = Ok (wait t d)
act l.New t d = Ok (make t d)
act l.Raise t d = Ok (end_raise t d)
act l.OpenNames t d = Ok (open_names t d)
act l.Method t d = Ok (end_method t d)
act label t d = Ok (settle label d)
