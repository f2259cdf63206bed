-- A list of feeds, by the clauses of one.
use Rattle.std.proofs.Common.{◌≡◌, ℕ, ◌+◌, ◌^◌, ◌<◌, ◌≤◌, false, List, [], ◌∷◌, ◌++◌, length, take, drop, get_or, Option, None, Ok, Err, refl, ap, sym, ◌∙◌, arith, append_assoc, length-append}
use Rattle.std.proofs.lemmas.List.{append-nil, take-append-drop, take_more}
use Rattle.std.proofs.Math.ListN.{drop_of_length-le}
use Rattle.std.proofs.lemmas.Grind.{flat_map-append}
use Rattle.orb_base.specs.Room.{Room}
use Rattle.giop_frames.specs.declared.fault.FeedFault.{FeedFault}
use Rattle.giop_frames.specs.declared.fault.FeedFault.TheVariants.{Frame, NoMemory}
use Rattle.giop_frames.specs.Messages.{Message}
use Rattle.giop_frames.specs.Pieces.{cut}
use Rattle.giop_frames.specs.Messages.{unfinished}
use Rattle.giop_frames.specs.Stream.{Said, stream, said_behind, rest_with, tail_rest}
use Rattle.giop_frames.specs.Feeds.{Feed, said, Adds, AddsFront, Tells, ReadsStream, joined_feeds, FedSoFar}

-- the feeds with one more
joined_more : (i : ℕ) (pieces : List (Room ℕ)) (p : Room ℕ) → i < length pieces → p ≡ get_or pieces i p
    → joined_feeds (take (i + 1) pieces) ≡ joined_feeds (take i pieces) ++ p.items
joined_more i pieces p lt e =
    ap joined_feeds (take_more pieces i p lt ∙ ap (λ (x : Room ℕ). take i pieces ++ x ∷ []) (sym e))
    ∙ flat_map-append (λ (x : Room ℕ). x.items) (take i pieces) (p ∷ [])
    ∙ ap (λ (x : List ℕ). joined_feeds (take i pieces) ++ x) (append-nil p.items)

joined_left : (i : ℕ) (pieces : List (Room ℕ)) → joined_feeds pieces ≡ joined_feeds (take i pieces) ++ joined_feeds (drop i pieces)
joined_left i pieces = ap joined_feeds (sym (take-append-drop i pieces)) ∙ flat_map-append (λ (x : Room ℕ). x.items) (take i pieces) (drop i pieces)

empty_said : (limit : ℕ) → (stream limit [] ≡ record { messages = []; rest = None; bad = None })
unfolding stream cut said_behind unfinished rest_with tail_rest
empty_said limit = refl

pub fed_start : (limit : ℕ) (pieces : List (Room ℕ)) (whole : List Message) (f : Feed) → f ≡ record { limit = limit; fed = []; lacked = false; kept = 0 }
    → FedSoFar limit (joined_feeds (take 0 pieces)) whole f whole
fed_start limit pieces whole f e =
    let s : said f ≡ record { messages = []; rest = None; bad = None } = ap said e ∙ empty_said limit in
    record {
      limit_is = ap (λ (x : Feed). x.limit) e;
      fed_is = ap (λ (x : Feed). x.fed) e;
      enough = ap (λ (x : Feed). x.lacked) e;
      sound = ap (λ (x : Said). x.bad) s;
      gives = sym (append-nil whole) ∙ ap (λ (x : List Message). whole ++ x) (sym (ap (λ (x : Said). x.messages) s));
    }

pub fed_room : (limit i : ℕ) (pieces : List (Room ℕ)) (p : Room ℕ) (bytes : List ℕ) (whole whole' : List Message) (f : Feed) → FedSoFar limit (joined_feeds (take i pieces)) whole f whole' → i < length pieces
    → p ≡ get_or pieces i p → bytes ≡ p.items → length (joined_feeds pieces) < 2 ^ 64 → length f.fed + length bytes < 2 ^ 64
fed_room limit i pieces p bytes whole whole' f s lt e b room =
    omega (
      arith,
      ap length b,
      ap length s.fed_is,
      ap length (joined_more i pieces p lt e),
      length-append (joined_feeds (take i pieces)) p.items,
      ap length (joined_left (i + 1) pieces),
      length-append (joined_feeds (take (i + 1) pieces)) (joined_feeds (drop (i + 1) pieces)),
    )

fed_next : (limit i : ℕ) (pieces : List (Room ℕ)) (p : Room ℕ) (bytes : List ℕ) (whole mid : List Message) (f f' : Feed) → FedSoFar limit (joined_feeds (take i pieces)) whole f mid → i < length pieces
    → p ≡ get_or pieces i p → bytes ≡ p.items → f'.fed ≡ f.fed ++ bytes → f'.fed ≡ joined_feeds (take (i + 1) pieces)
fed_next limit i pieces p bytes whole mid f f' s lt e b fed =
    fed ∙ ap (λ (x : List ℕ). x ++ bytes) s.fed_is ∙ ap (λ (x : List ℕ). joined_feeds (take i pieces) ++ x) b ∙ sym (joined_more i pieces p lt e)

pub fed_step : (limit i : ℕ) (pieces : List (Room ℕ)) (p : Room ℕ) (bytes : List ℕ) (whole mid whole' : List Message) (f f' : Feed) (x : Unit {0}) → FedSoFar limit (joined_feeds (take i pieces)) whole f mid → i < length pieces
    → p ≡ get_or pieces i p → bytes ≡ p.items → f'.limit ≡ f.limit → f'.fed ≡ f.fed ++ bytes → Tells (Ok x) f f' mid whole'
    → FedSoFar limit (joined_feeds (take (i + 1) pieces)) whole f' whole'
fed_step limit i pieces p bytes whole mid whole' f f' x s lt e b l fed t =
    let a : Adds f f' mid whole' = t.3 in
    record {
      limit_is = l ∙ s.limit_is;
      fed_is = fed_next limit i pieces p bytes whole mid f f' s lt e b fed;
      enough = t.1;
      sound = t.2;
      gives = a.gives ∙ ap (λ (y : List Message). y ++ a.new) s.gives ∙ append_assoc whole (said f).messages a.new ∙ ap (λ (y : List Message). whole ++ y) (sym a.says_new);
    }

all_of : (limit i : ℕ) (pieces : List (Room ℕ)) (f' : Feed) → f'.limit ≡ limit → f'.fed ≡ joined_feeds (take i pieces)
    → stream limit (joined_feeds pieces) ≡ stream f'.limit (f'.fed ++ joined_feeds (drop i pieces))
all_of limit i pieces f' l fed =
    ap (stream limit) (joined_left i pieces ∙ ap (λ (y : List ℕ). y ++ joined_feeds (drop i pieces)) (sym fed))
    ∙ ap (λ (n : ℕ). stream n (f'.fed ++ joined_feeds (drop i pieces))) (sym l)

pub fed_err : (fault : FeedFault) (limit i : ℕ) (pieces : List (Room ℕ)) (p : Room ℕ) (bytes : List ℕ) (whole mid whole' : List Message) (f f' : Feed) → FedSoFar limit (joined_feeds (take i pieces)) whole f mid → i < length pieces
    → p ≡ get_or pieces i p → bytes ≡ p.items → f'.limit ≡ f.limit → f'.fed ≡ f.fed ++ bytes → Tells (Err fault) f f' mid whole'
    → ReadsStream (Err fault) (stream limit (joined_feeds pieces)) whole whole'
fed_err (Frame e) limit i pieces p bytes whole mid whole' f f' s lt h b l fed t =
    let a : Adds f f' mid whole' = t.3 in
    let more : List ℕ = joined_feeds (drop (i + 1) pieces) in
    let all : stream limit (joined_feeds pieces) ≡ said f' = all_of limit (i + 1) pieces f' (l ∙ s.limit_is) (fed_next limit i pieces p bytes whole mid f f' s lt h b fed) ∙ t.4 more in (
      a.gives ∙ ap (λ (y : List Message). y ++ a.new) s.gives ∙ append_assoc whole (said f).messages a.new ∙ ap (λ (y : List Message). whole ++ y) (sym a.says_new)
          ∙ ap (λ (y : Said). whole ++ y.messages) (sym all),
      ap (λ (y : Said). y.bad) all ∙ t.2,
    )
fed_err NoMemory limit i pieces p bytes whole mid whole' f f' s lt h b l fed t =
    let a : AddsFront f f' mid whole' = t.1 s.enough in
    let more : List ℕ = joined_feeds (drop (i + 1) pieces) in
    record {
      new = (said f).messages ++ a.new;
      left = a.left more;
      says_new = ap (λ (y : Said). y.messages) (all_of limit (i + 1) pieces f' (l ∙ s.limit_is) (fed_next limit i pieces p bytes whole mid f f' s lt h b fed))
          ∙ a.says_new more ∙ sym (append_assoc (said f).messages a.new (a.left more));
      gives = a.gives ∙ ap (λ (y : List Message). y ++ a.new) s.gives ∙ append_assoc whole (said f).messages a.new;
    }

pub fed_all : (limit i : ℕ) (pieces : List (Room ℕ)) (whole whole' : List Message) (f : Feed) (rest : Option ℕ) → FedSoFar limit (joined_feeds (take i pieces)) whole f whole' → length pieces ≤ i
    → (f.lacked ≡ false → rest ≡ (said f).rest) → ReadsStream (Ok rest) (stream limit (joined_feeds pieces)) whole whole'
fed_all limit i pieces whole whole' f rest s h r =
    let none : joined_feeds (drop i pieces) ≡ [] = ap joined_feeds (drop_of_length-le pieces h) in
    let all : stream limit (joined_feeds pieces) ≡ said f =
    all_of limit i pieces f s.limit_is s.fed_is ∙ ap (λ (y : List ℕ). stream f.limit (f.fed ++ y)) none ∙ ap (stream f.limit) (append-nil f.fed) in
    (s.gives ∙ ap (λ (y : Said). whole ++ y.messages) (sym all), ap (λ (y : Said). y.bad) all ∙ s.sound, r s.enough ∙ ap (λ (y : Said). y.rest) (sym all))

pub fed_none : (s : Said) (whole : List Message) → ReadsStream (Err NoMemory) s whole whole
fed_none s whole = record { new = []; left = s.messages; says_new = refl; gives = sym (append-nil whole) }
