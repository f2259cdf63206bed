-- What a framer tells that was fed a whole input at once.
use Rattle.std.proofs.Common.{◌≡◌, ℕ, ◌≤◌, false, List, [], ◌∷◌, ◌++◌, length, Option, Some, None, Result, Ok, Err, refl, sym, ap, ◌∙◌, arith}
use Rattle.std.proofs.lemmas.Option.{same_Some}
use Rattle.orb_base.specs.declared.limits.TheConstants.{MAX_MESSAGE}
use Rattle.giop_frames.specs.declared.fault.FeedFault.{FeedFault}
use Rattle.giop_frames.specs.declared.fault.FeedFault.TheVariants as feed
use Rattle.giop_frames.specs.declared.fault.FrameFault.{FrameFault}
use Rattle.giop_frames.specs.Feeds.{Feed, said, Adds, Tells}
use Rattle.giop_frames.specs.Messages.{Message}
use Rattle.giop_frames.specs.Stream.{Said, stream}
use Rattle.heard_calls.specs.Input.{fault_in}
use Rattle.heard_calls.proofs.StreamCounts.{few_messages}

-- the framer is new
abbrev IsNew : Feed → Type 0
IsNew f = f ≡ record { limit = MAX_MESSAGE; fed = []; lacked = false; kept = 0 }

empty_list : {A : Type 0} (xs : List A) → length xs ≤ 0 → xs ≡ []
empty_list [] few = refl
empty_list (x ∷ xs) few = absurd (omega (arith, few))

tells_all : (bad : Option FrameFault) (f f' : Feed) (whole whole' : List Message) (rest : Option ℕ) (input : List ℕ)
    → IsNew f → f'.limit ≡ f.limit → f'.fed ≡ f.fed ++ input → whole ≡ [] → (said f').bad ≡ bad → Adds f f' whole whole' → rest ≡ (said f').rest
    → record { messages = whole'; rest = rest; bad = bad } ≡ stream MAX_MESSAGE input
tells_all bad f f' whole whole' rest input opens limits fed none sound adds left =
    let limit : f'.limit ≡ MAX_MESSAGE = limits ∙ ap (λ (x : Feed). x.limit) opens in
    let all : f'.fed ≡ input = fed ∙ ap (λ (x : Feed). x.fed ++ input) opens in
    let says : said f' ≡ stream MAX_MESSAGE input = ap (λ (n : ℕ). stream n f'.fed) limit ∙ ap (stream MAX_MESSAGE) all in
    let before : (said f).messages ≡ [] = ap (λ (x : Feed). (said x).messages) opens ∙ empty_list (stream MAX_MESSAGE []).messages (few_messages MAX_MESSAGE []) in
    let new : adds.new ≡ (stream MAX_MESSAGE input).messages = sym (adds.says_new ∙ ap (λ (ms : List Message). ms ++ adds.new) before) ∙ ap (λ (x : Said). x.messages) says in
    let messages : whole' ≡ (stream MAX_MESSAGE input).messages = adds.gives ∙ ap (λ (ms : List Message). ms ++ adds.new) none ∙ new in
    let ends : rest ≡ (stream MAX_MESSAGE input).rest = left ∙ ap (λ (x : Said). x.rest) says in
    let breaks : bad ≡ (stream MAX_MESSAGE input).bad = sym sound ∙ ap (λ (x : Said). x.bad) says in
    λ i. record { messages = messages i; rest = ends i; bad = breaks i }

-- the messages, what is left unfinished and the fault are those of the stream
pub fed_at_once : (result : Result (Unit {0}) FeedFault) (bad : Option FrameFault) (f f' : Feed) (whole whole' : List Message) (rest : Option ℕ) (input : List ℕ)
    → fault_in result ≡ Some bad → IsNew f → f'.limit ≡ f.limit → f'.fed ≡ f.fed ++ input → whole ≡ [] → Tells result f f' whole whole'
    → (f'.lacked ≡ false → rest ≡ (said f').rest) → record { messages = whole'; rest = rest; bad = bad } ≡ stream MAX_MESSAGE input
fed_at_once (Ok x) bad f f' whole whole' rest input is opens limits fed none (enough, enough', sound, adds) left =
    tells_all bad f f' whole whole' rest input opens limits fed none (sound ∙ same_Some None bad is) adds (left enough')
fed_at_once (Err (feed.Frame e)) bad f f' whole whole' rest input is opens limits fed none (enough, enough', sound, adds, final) left =
    tells_all bad f f' whole whole' rest input opens limits fed none (sound ∙ same_Some (Some e) bad is) adds (left enough')
fed_at_once (Err feed.NoMemory) bad f f' whole whole' rest input is opens limits fed none tells left = absurd (cc)
