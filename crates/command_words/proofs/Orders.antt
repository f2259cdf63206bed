-- Options that change places, and options that are used twice, in the words of a command.
use Rattle.std.proofs.Common.{◌≡◌, ◌∙◌, Bool, true, false, ◌||◌, if◌then◌else◌, List, [], ◌∷◌, ◌++◌, Some, refl, sym, ap, ap₂}
use Rattle.std.specs.Prelude.{is_some, option_map}
use Rattle.orb_base.specs.NulFree.{nul_at}
use Rattle.command_options.specs.Given.{given}
use Rattle.command_options.specs.Items.{Text}
use Rattle.command_options.specs.Nul.{has_nul}
use Rattle.command_options.specs.Uses.{Use}
use Rattle.command_options.specs.Whole.{IsWhole}
use Rattle.command_options.proofs.Orders as options
use Rattle.command_words.specs.declared.meaning.Meaning.{Meaning}
use Rattle.command_words.specs.declared.meaning.Meaning.TheVariants.{Unread}
use Rattle.command_words.specs.Words.{Command, command_named, command_of, meant, named_by}

-- ---- words with a NUL

nul_more : (a b : List Text) → has_nul (a ++ b) ≡ (has_nul a || has_nul b)
nul_more [] b = refl
nul_more (word ∷ a) b = ap (λ x. is_some (nul_at word) || x) (nul_more a b) ∙ sym (or_assoc (is_some (nul_at word)) (has_nul a) (has_nul b))
  where
    or_assoc : (x y z : Bool) → ((x || y) || z) ≡ (x || (y || z))
    or_assoc true y z = refl
    or_assoc false y z = refl

nul_three : (a b c : List Text) → has_nul (a ++ (b ++ c)) ≡ (has_nul a || (has_nul b || has_nul c))
nul_three a b c = nul_more a (b ++ c) ∙ ap (λ x. has_nul a || x) (nul_more b c)

or_swap : (a b c : Bool) → (a || (b || c)) ≡ (b || (a || c))
or_swap true true c = refl
or_swap true false c = refl
or_swap false true c = refl
or_swap false false c = refl

nul_same : (before a b after : List Text) → has_nul (before ++ (a ++ (b ++ after))) ≡ has_nul (before ++ (b ++ (a ++ after)))
nul_same before a b after =
    nul_more before (a ++ (b ++ after))
    ∙ ap (λ x. has_nul before || x) (nul_three a b after ∙ or_swap (has_nul a) (has_nul b) (has_nul after) ∙ sym (nul_three b a after))
    ∙ sym (nul_more before (b ++ (a ++ after)))

-- ---- the laws

abbrev unless_nul : Bool → Meaning → Meaning
unless_nul nul meaning = if nul then Unread else meaning

pub order : (name : Text) (command : Command) (before a b after : List Text) (u v : Use) → command_named name ≡ Some command
    → IsWhole command.items a u → IsWhole command.items b v
    → command_of (name ∷ (before ++ (a ++ (b ++ after)))) ≡ command_of (name ∷ (before ++ (b ++ (a ++ after))))
unfolding command_of
order name command before a b after u v is ha hb =
    let same : named_by (name ∷ (before ++ (a ++ (b ++ after)))) ≡ named_by (name ∷ (before ++ (b ++ (a ++ after)))) =
    rw is (ap (meant command.meaning) (options.order command.items before a b after u v ha hb)) in
    ap₂ unless_nul (ap (λ x. is_some (nul_at name) || x) (nul_same before a b after)) same

pub twice : (name : Text) (command : Command) (before a between b after : List Text) (u v : Use) → command_named name ≡ Some command
    → IsWhole command.items a u → IsWhole command.items b v → u.0 ≡ v.0
    → command_of (name ∷ (before ++ (a ++ (between ++ (b ++ after))))) ≡ Unread
unfolding command_of
twice name command before a between b after u v is ha hb same =
    let words : List Text = before ++ (a ++ (between ++ (b ++ after))) in
    let none : named_by (name ∷ words) ≡ Unread =
    rw is (ap (λ r. meant command.meaning (option_map given r)) (options.twice command.items before a between b after u v ha hb same)) in
    ap (unless_nul (has_nul (name ∷ words))) none ∙ either (has_nul (name ∷ words))
  where
    either : (nul : Bool) → unless_nul nul Unread ≡ Unread
    either true = refl
    either false = refl
