-- What all requests to the object of a key are spelled as, but for their ids and priorities.
use Rattle.std.proofs.Common.{◌≡◌, ℕ, ◌+◌, ◌^◌, ◌<◌, ◌≤◌, List, [], ◌∷◌, ◌++◌, length, replicate, take, drop, is_some, Option, Some, None, refl, ap, sym, ◌∙◌, subst, arith, length-append, append_assoc}
use Rattle.std.proofs.lemmas.List.{append-nil, take_at, drop_at}
use Rattle.std.specs.Int.{w8, w16, w32}
use Rattle.orb_base.specs.declared.order.Order.TheVariants.{Big}
use Rattle.orb_base.specs.declared.priority_model.PriorityModel.{PriorityModel}
use Rattle.orb_base.specs.declared.priority_model.PriorityModel.TheVariants.{ClientPropagated, ServerDeclared}
use Rattle.cdr_core.specs.Encapsulation.{encapsulation, order_byte}
use Rattle.cdr_core.specs.Field.{Field, number, run, number_bytes, string_fields, fields_end}
use Rattle.cdr_core.specs.Spelling.{fields_bytes}
use Rattle.cdr_core.proofs.CallerLemmas.{fields_bytes-append, length-number_bytes}
use Rattle.cdr_core.proofs.Spelled.{pad_one}
use Rattle.service_contexts.specs.Layout.{priority_fields}
use Rattle.service_contexts.specs.declared.contexts.TheConstants.{PRIORITY_CONTEXT}
use Rattle.giop_messages.specs.Layout.{header}
use Rattle.giop_messages.specs.Message.{Fits, kind_of}
use Rattle.giop_messages.specs.Spelling.{all_fields, framed, spelled}
use Rattle.orb_base.specs.Pool.{Pool}
use Rattle.load_runs.specs.Generated.{operation, asking, sent_level}
use Rattle.load_runs.specs.Making.{IsPattern, IsCut, carries, content, content_len}
use Rattle.load_runs.proofs.Requests.{priority_data}

-- the fields after the id, up to the contexts, of which there are so many
abbrev common : List ℕ → ℕ → List Field
common object contexts =
    number w8 3 ∷ run 1 (0 ∷ 0 ∷ 0 ∷ []) ∷ number w16 0 ∷ number w32 (length object) ∷ run 1 object ∷ string_fields operation ++ number w32 contexts ∷ []

-- the same, up to what the context of a priority says
abbrev upto : List ℕ → List Field
upto object = common object 1 ++ number w32 PRIORITY_CONTEXT ∷ number w32 4 ∷ []

abbrev middle : List ℕ → Option ℕ → List ℕ
middle object (Some level) = fields_bytes Big 16 (upto object)
middle object None = fields_bytes Big 16 (common object 0)

abbrev size : Option ℕ → ℕ
size (Some level) = 4
size None = 0

abbrev headed : ℕ → List ℕ
headed n = header Big (order_byte Big) (kind_of (asking 0 [] None)) n

with_level : (id : ℕ) (object : List ℕ) (level : ℕ)
    → fields_bytes Big 12 (all_fields (asking id object (Some level))) ≡ number_bytes Big w32 id ++ (middle object (Some level) ++ content (Some level))
with_level id object level =
    let said : List ℕ = encapsulation Big (priority_fields level) in
    let place : ℕ = fields_end 16 (upto object) in
    let sized : fields_bytes Big 12 (all_fields (asking id object (Some level))) ≡ fields_bytes Big 12 (number w32 id ∷ upto object ++ run 1 said ∷ []) =
    ap (λ (n : ℕ). fields_bytes Big 12 (number w32 id ∷ common object 1 ++ number w32 PRIORITY_CONTEXT ∷ number w32 n ∷ run 1 said ∷ [])) (priority_data level) in
    let cut = fields_bytes-append Big 16 (upto object) (run 1 said ∷ []) in
    let last : fields_bytes Big place (run 1 said ∷ []) ≡ said = ap (λ (n : ℕ). replicate n 0 ++ said ++ []) (pad_one place) ∙ append-nil said in
    sized ∙ ap (λ (x : List ℕ). number_bytes Big w32 id ++ x) (cut ∙ ap (λ (x : List ℕ). fields_bytes Big 16 (upto object) ++ x) last)

inner_is : (id : ℕ) (object : List ℕ) (level : Option ℕ)
    → fields_bytes Big 12 (all_fields (asking id object level)) ≡ number_bytes Big w32 id ++ (middle object level ++ content level)
inner_is id object (Some level) = with_level id object level
inner_is id object None = ap (λ (x : List ℕ). number_bytes Big w32 id ++ x) (sym (append-nil (middle object None)))

content_size : (level : Option ℕ) → length (content level) ≡ size level
content_size (Some level) = priority_data level
content_size None = refl

inner_size : (id : ℕ) (object : List ℕ) (level : Option ℕ)
    → length (number_bytes Big w32 id ++ (middle object level ++ content level)) ≡ 4 + (length (middle object level) + size level)
inner_size id object level =
    omega (
      arith,
      length-append (number_bytes Big w32 id) (middle object level ++ content level),
      length-append (middle object level) (content level),
      length-number_bytes Big w32 id,
      content_size level,
    )

spelled_is : (id : ℕ) (object : List ℕ) (level : Option ℕ)
    → spelled Big (asking id object level)
    ≡ headed (4 + (length (middle object level) + size level)) ++ (number_bytes Big w32 id ++ (middle object level ++ content level))
spelled_is id object level =
    let inner : List ℕ = number_bytes Big w32 id ++ (middle object level ++ content level) in
    ap (λ (x : List ℕ). framed Big (kind_of (asking 0 [] None)) x) (inner_is id object level)
    ∙ ap (λ (n : ℕ). headed n ++ inner) (inner_size id object level)

headed_size : (n : ℕ) → length (headed n) ≡ 12
headed_size n = omega (arith, length-number_bytes Big w32 n)

-- a request is long enough to be cut
pub cuts : (id : ℕ) (object : List ℕ) (level : Option ℕ) → 16 + size level ≤ length (spelled Big (asking id object level))
cuts id object level =
    let n : ℕ = 4 + (length (middle object level) + size level) in
    let inner : List ℕ = number_bytes Big w32 id ++ (middle object level ++ content level) in
    let whole : length (spelled Big (asking id object level)) ≡ length (headed n) + length inner =
    ap (λ (x : List ℕ). length x) (spelled_is id object level) ∙ length-append (headed n) inner in
    omega (arith, whole, headed_size n, inner_size id object level)

-- four lists, one after the other
joined : (a b c d : List ℕ) → a ++ (b ++ (c ++ d)) ≡ a ++ b ++ c ++ d
joined a b c d = sym (append_assoc a b (c ++ d)) ∙ sym (append_assoc (a ++ b) c d)

-- parts of one list that are as long
first_same : (a b c d : List ℕ) → length a ≡ length c → a ++ b ≡ c ++ d → a ≡ c
first_same a b c d len e = sym (take_at a b (length a) refl) ∙ ap (take (length a)) e ∙ take_at c d (length a) (sym len)

rest_same : (a b c d : List ℕ) → length a ≡ length c → a ++ b ≡ c ++ d → b ≡ d
rest_same a b c d len e = sym (drop_at a b (length a) refl) ∙ ap (drop (length a)) e ∙ drop_at c d (length a) (sym len)

-- the parts of a request that was cut
record Parts (object : List ℕ) (level : Option ℕ) (before after : List ℕ) : Type 0 where
  before_is : before ≡ headed (4 + (length (middle object level) + size level))
  after_is : after ≡ middle object level

parts_are : (object : List ℕ) (level : Option ℕ) (bytes before after : List ℕ) → bytes ≡ spelled Big (asking 0 object level) → IsCut bytes (size level) before after
    → Parts object level before after
parts_are object level bytes before after is cut =
    let head : List ℕ = headed (4 + (length (middle object level) + size level)) in
    let inner : List ℕ = number_bytes Big w32 0 ++ (middle object level ++ content level) in
    let whole : before ++ (cut.id ++ (after ++ cut.last)) ≡ head ++ inner = joined before cut.id after cut.last ∙ sym cut.parts ∙ is ∙ spelled_is 0 object level in
    let first : length before ≡ length head = cut.before_len ∙ sym (headed_size (4 + (length (middle object level) + size level))) in
    let rest : cut.id ++ (after ++ cut.last) ≡ inner = rest_same before (cut.id ++ (after ++ cut.last)) head inner first whole in
    let ids : length cut.id ≡ length (number_bytes Big w32 0) = cut.id_len ∙ sym (length-number_bytes Big w32 0) in
    let behind : after ++ cut.last ≡ middle object level ++ content level = rest_same cut.id (after ++ cut.last) (number_bytes Big w32 0) (middle object level ++ content level) ids rest in
    let lens : length after ≡ length (middle object level) =
    omega (arith, ap (λ (x : List ℕ). length x) behind, length-append after cut.last, length-append (middle object level) (content level), cut.last_len, content_size level) in
    record {
      before_is = first_same before (cut.id ++ (after ++ cut.last)) head inner first whole;
      after_is = first_same after cut.last (middle object level) (content level) lens behind;
    }

-- requests that carry a priority have the same shape, and so do those that don't
same_head : (object : List ℕ) (a b : Option ℕ) → is_some a ≡ is_some b
    → headed (4 + (length (middle object a) + size a)) ≡ headed (4 + (length (middle object b) + size b))
same_head object (Some a) (Some b) e = refl
same_head object None None e = refl
same_head object (Some a) None e = absurd (cc)
same_head object None (Some b) e = absurd (cc)

same_middle : (object : List ℕ) (a b : Option ℕ) → is_some a ≡ is_some b → middle object a ≡ middle object b
same_middle object (Some a) (Some b) e = refl
same_middle object None None e = refl
same_middle object (Some a) None e = absurd (cc)
same_middle object None (Some b) e = absurd (cc)

fits_again : (id : ℕ) (object : List ℕ) (a b : Option ℕ) → is_some a ≡ is_some b → id < 2 ^ 32 → Fits (asking 0 object a) → Fits (asking id object b)
fits_again id object (Some a) (Some b) e lt fits =
    let P : ℕ → Type 0 = λ n. n < 2 ^ 32 in
    let short : length (content (Some b)) < 2 ^ 32 = omega (arith, priority_data b) in
    record {
      id = lt;
      flags = fits.flags;
      target = fits.target;
      operation = fits.operation;
      contexts = (fits.contexts.0, ((fits.contexts.1.0.0, short), tt));
    }
fits_again id object None None e lt fits = record { id = lt; flags = fits.flags; target = fits.target; operation = fits.operation; contexts = fits.contexts }
fits_again id object (Some a) None e lt fits = absurd (cc)
fits_again id object None (Some b) e lt fits = absurd (cc)

size_by : (model : PriorityModel) (level : Option ℕ) → is_some level ≡ carries model → content_len model ≡ size level
size_by ClientPropagated (Some level) e = refl
size_by ServerDeclared None e = refl
size_by ClientPropagated None e = absurd (cc)
size_by ServerDeclared (Some level) e = absurd (cc)

-- a request can be cut where what is said of its priority begins
pub cuts_by : (model : PriorityModel) (object : List ℕ) (level : Option ℕ) (bytes : List ℕ) (len : ℕ) → is_some level ≡ carries model → len ≡ content_len model
    → bytes ≡ spelled Big (asking 0 object level) → 16 + len ≤ length bytes
cuts_by model object level bytes len e is same =
    omega (arith, cuts 0 object level, size_by model level e, is, ap (λ (x : List ℕ). length x) same)

-- the first request of a pattern, cut
pub is_pattern : (model : PriorityModel) (object : List ℕ) (level : Option ℕ) (bytes before after : List ℕ) (len : ℕ) → is_some level ≡ carries model → len ≡ content_len model
    → bytes ≡ spelled Big (asking 0 object level) → Fits (asking 0 object level) → IsCut bytes len before after → IsPattern object (carries model) before after
is_pattern model object level bytes before after len e is same fits cut =
    let P : ℕ → Type 0 = λ n. IsCut bytes n before after in
    let parts = parts_are object level bytes before after same (subst P (is ∙ size_by model level e) cut) in
    record {
      says = λ id next so.
          let alike : is_some level ≡ is_some next = e ∙ sym so in
          let first : before ≡ headed (4 + (length (middle object next) + size next)) = parts.before_is ∙ same_head object level next alike in
          let second : after ≡ middle object next = parts.after_is ∙ same_middle object level next alike in
          spelled_is id object next ∙ joined (headed (4 + (length (middle object next) + size next))) (number_bytes Big w32 id) (middle object next) (content next)
          ∙ ap (λ (x : List ℕ). x ++ number_bytes Big w32 id ++ middle object next ++ content next) (sym first)
          ∙ ap (λ (x : List ℕ). before ++ number_bytes Big w32 id ++ x ++ content next) (sym second);
      fits = λ id next so lt. fits_again id object level next (e ∙ sym so) lt fits;
    }

pub carries_so : (model : PriorityModel) (pool : Pool) (seed n : ℕ) → is_some (sent_level model pool seed n) ≡ carries model
carries_so ClientPropagated pool seed n = refl
carries_so ServerDeclared pool seed n = refl
