-- Lists in parts, one part after the other.
use Rattle.std.proofs.Common.{◌≡◌, ◌≤◌, ◌+◌, ◌<◌, ℕ, List, [], ◌∷◌, ◌++◌, length, drop, append_assoc, refl, sym, ap, ◌∙◌}
use Rattle.std.specs.Prelude.{Vec}
use Rattle.std.specs.declared.alloc.Global.{Global}
use Rattle.std.specs.List.{slice_index_or}
use Rattle.std.proofs.lemmas.List.{append-nil, at_drop_more, drop_all}
use Rattle.idl_scopes.specs.Pieces.{in_parts}

pub joins : (a b c : List ℕ) → (a ++ b) ++ c ≡ a ++ (b ++ c)
joins a b c = simp append_assoc

pub parts_behind : (xs ys : List (Vec ℕ Global)) → in_parts (xs ++ ys) ≡ in_parts xs ++ in_parts ys
parts_behind [] ys = refl
parts_behind (x ∷ xs) ys = ap (λ (zs : List ℕ). x.items ++ zs) (parts_behind xs ys) ∙ sym (joins x.items (in_parts xs) (in_parts ys))

-- one part more
pub part_put : (parts later : List (Vec ℕ Global)) (part : Vec ℕ Global) (items : List ℕ) → later ≡ parts ++ part ∷ [] → part.items ≡ items → in_parts later ≡ in_parts parts ++ items
part_put parts later part items is are =
    ap in_parts is ∙ parts_behind parts (part ∷ []) ∙ ap (λ (zs : List ℕ). in_parts parts ++ zs) (append-nil part.items ∙ are)

-- as far as a loop has come
pub parts_next : (parts : List (Vec ℕ Global)) (n : ℕ) (d : Vec ℕ Global) (items so_far next behind total : List ℕ) → n < length parts → (slice_index_or parts n d).items ≡ items → next ≡ so_far ++ items
    → so_far ++ (in_parts (drop n parts) ++ behind) ≡ total → next ++ (in_parts (drop (n + 1) parts) ++ behind) ≡ total
parts_next parts n d items so_far next behind total lt is added reached =
    ap (λ (zs : List ℕ). zs ++ (in_parts (drop (n + 1) parts) ++ behind)) added
    ∙ joins so_far items (in_parts (drop (n + 1) parts) ++ behind)
    ∙ ap (λ (zs : List ℕ). so_far ++ zs) (sym (joins items (in_parts (drop (n + 1) parts)) behind))
    ∙ ap (λ (zs : List ℕ). so_far ++ ((zs ++ in_parts (drop (n + 1) parts)) ++ behind)) (sym is)
    ∙ ap (λ (zs : List ℕ). so_far ++ (zs ++ behind)) (sym (at_drop_more in_parts parts n d lt))
    ∙ reached

pub parts_end : (parts : List (Vec ℕ Global)) (n : ℕ) (so_far behind total : List ℕ) → length parts ≤ n → so_far ++ (in_parts (drop n parts) ++ behind) ≡ total → so_far ++ behind ≡ total
parts_end parts n so_far behind total le reached = ap (λ (zs : List (Vec ℕ Global)). so_far ++ (in_parts zs ++ behind)) (sym (drop_all n parts le)) ∙ reached

-- the first scopes of a list, put after others
pub put_first : (old front behind next : List ℕ) → next ≡ old ++ front → next ++ behind ≡ old ++ (front ++ behind)
put_first old front behind next is = ap (λ (zs : List ℕ). zs ++ behind) is ∙ joins old front behind
