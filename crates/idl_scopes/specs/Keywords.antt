-- The keywords of IDL, in this profile and outside of it, in lower case: CORBA 3.0.3, section 3.2.4.
use Rattle.std.specs.Prelude.{ℕ, Bool, List, [], ◌∷◌, codes}
use Rattle.std.specs.List.{list_any}
use Rattle.std.specs.Str.{bytes_eq}
use Rattle.idl_scopes.specs.declared.keywords.Keyword.{Keyword}

-- a keyword without where it lies in memory
abbrev pub text_of : Keyword → List ℕ
text_of k = k.text.now

-- the words of the grammar, and those of IDL that it hasn't got
abbrev pub keywords : List (List ℕ)
keywords =
    codes "module" ∷ codes "interface" ∷ codes "typedef" ∷ codes "struct" ∷ codes "union" ∷ codes "switch" ∷ codes "case"
    ∷ codes "default" ∷ codes "enum" ∷ codes "const" ∷ codes "exception" ∷ codes "readonly" ∷ codes "attribute" ∷ codes "oneway"
    ∷ codes "void" ∷ codes "raises" ∷ codes "in" ∷ codes "out" ∷ codes "inout" ∷ codes "sequence" ∷ codes "boolean" ∷ codes "octet"
    ∷ codes "char" ∷ codes "unsigned" ∷ codes "short" ∷ codes "long" ∷ codes "string" ∷ codes "true" ∷ codes "false"
    ∷ codes "float" ∷ codes "double" ∷ codes "fixed" ∷ codes "any" ∷ codes "wchar" ∷ codes "wstring" ∷ codes "object"
    ∷ codes "valuetype" ∷ codes "abstract" ∷ codes "local" ∷ codes "native" ∷ codes "context" ∷ []

-- a name in lower case is one of them
abbrev pub is_keyword : List ℕ → Bool
is_keyword name = list_any (λ k. bytes_eq k name) keywords
