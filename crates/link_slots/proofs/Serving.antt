-- One link of a slot after another.
use Rattle.std.proofs.Common.{◌≡◌, ℕ, ◌+◌, ◌<◌, Bool, true, false, List, [], ◌∷◌, ◌++◌, length, Option, Some, None, refl, sym, ap, subst, ◌∙◌, append_assoc, arith}
use Rattle.std.specs.Prelude.{option_map}
use Rattle.std.proofs.lemmas.List.{length-append}
use Rattle.orb_base.specs.Links.{AcceptorState, Accepts, CountsAcceptFault, CountsDone}
use Rattle.orb_base.specs.Outside.{SourceState, SinkState}
use Rattle.orb_base.specs.declared.accepted.Accepted.TheVariants as accepted
use Rattle.link_slots.specs.SlotEnds.{NoneDone, NoneFailed, HasCause}
use Rattle.link_slots.specs.Slots.{MayServe, MayGoOn, none, one, ServesInOrder, SlotRan}
use Rattle.link_slots.specs.declared.host.LinkJob.{LinkJob}
use Rattle.link_slots.specs.declared.host.LinkDone.{LinkDone}
use Rattle.link_slots.specs.declared.slot.SlotJob.{SlotJob}
use Rattle.link_slots.specs.declared.slot.SlotDone.{SlotDone}
use Rattle.link_slots.specs.declared.slot_end.SlotEnd.{SlotEnd}
use Rattle.link_slots.specs.declared.slot_end.SlotEnd.TheVariants.{Closed}

hands_none : {X : Type 0} (o : Option (List X)) → o ≡ option_map (λ rest. [] ++ rest) o
hands_none (Some xs) = refl
hands_none None = refl

hands_one : {X : Type 0} (xs : List X) (x : X) (a b c : Option (List X)) → a ≡ option_map (λ rest. xs ++ rest) b → b ≡ option_map (λ rest. x ∷ rest) c → a ≡ option_map (λ rest. (xs ++ x ∷ []) ++ rest) c
hands_one xs x a b (Some rest) e f = e ∙ (ap (option_map (λ r. xs ++ r)) f ∙ ap Some (sym (append_assoc xs (x ∷ []) rest)))
hands_one xs x a b None e f = e ∙ ap (option_map (λ r. xs ++ r)) f

module _ {A I O P L : Type 0} (source : I → SourceState) (sink : O → SinkState) (state : A → AcceptorState I O)
    (asks : LinkJob P I O → Type 0) (gives : LinkJob P I O → LinkDone P L → Type 0) (most : ℕ) where
  -- links were served so far, the last one didn't close the slot, and the next may be served
  pub record GoesOn (before : P) (old new : AcceptorState I O) (logs : List L) (after : P) : Type 0 where
    pub serves : ServesInOrder state gives before old new logs false after
    pub none_done : NoneDone old new
    pub none_failed : NoneFailed old new
    pub next : MayServe source sink asks most (length logs) after

  pub goes_first : (p : P) (acc : AcceptorState I O) (logs : List L) → MayServe source sink asks most 0 p → logs ≡ [] → GoesOn p acc acc logs p
  goes_first p acc logs m e = subst (λ (z : List L). GoesOn p acc acc z p) (sym e) (record {
    serves = record { links = []; served = none p; handed = hands_none acc.links };
    none_done = refl;
    none_failed = refl;
    next = m;
  })

  -- the links so far, and one more
  more : (p q : P) (old acc acc' : AcceptorState I O) (n : ℕ) (i : I) (o : O) (logs : List L) (done : LinkDone P L)
      → ServesInOrder state gives p old acc logs false q → Accepts (accepted.Link i o) acc acc' → length logs ≡ n
      → gives (record { nth = n; place = q; source = i; sink = o }) done
      → ServesInOrder state gives p old acc' (logs ++ done.log ∷ []) done.closes done.place
  more p q old acc acc' n i o logs done g a e s = record {
    links = g.links ++ (i, o) ∷ [];
    served = one p g.links logs (record { nth = n; place = q; source = i; sink = o }) done g.served (sym e) s;
    handed = hands_one g.links (i, o) old.links acc.links acc'.links g.handed a;
  }

  pub goes_further : (p q : P) (old acc acc' : AcceptorState I O) (n : ℕ) (i : I) (o : O) (logs all : List L) (done : LinkDone P L)
      → MayGoOn source sink asks most gives → GoesOn p old acc logs q → Accepts (accepted.Link i o) acc acc'
      → CountsAcceptFault (accepted.Link i o) acc acc' → CountsDone (accepted.Link i o) acc acc' → length logs ≡ n
      → gives (record { nth = n; place = q; source = i; sink = o }) done → done.closes ≡ false → all ≡ logs ++ done.log ∷ []
      → GoesOn p old acc' all done.place
  goes_further p q old acc acc' n i o logs all done m g a f d e s c h =
      let count : length (logs ++ done.log ∷ []) ≡ n + 1 = length-append logs (done.log ∷ []) ∙ ap (λ (k : ℕ). k + 1) e in
      subst (λ (z : List L). GoesOn p old acc' z done.place) (sym h) (record {
        serves = subst (λ (b : Bool). ServesInOrder state gives p old acc' (logs ++ done.log ∷ []) b done.place) c (more p q old acc acc' n i o logs done g.serves a e s);
        none_done = d ∙ g.none_done;
        none_failed = f ∙ g.none_failed;
        next = subst (λ (k : ℕ). MayServe source sink asks most k done.place) (sym count) (m (record { nth = n; place = q; source = i; sink = o }) done s);
      })

  pub comes_closed : (job : SlotJob A P L) (q : P) (acc : AcceptorState I O) (n : ℕ) (i : I) (o : O) (logs : List L) (done : LinkDone P L) (out : SlotDone A P L)
      → GoesOn job.place (state job.acceptor) acc logs q → Accepts (accepted.Link i o) acc (state out.acceptor)
      → CountsAcceptFault (accepted.Link i o) acc (state out.acceptor) → CountsDone (accepted.Link i o) acc (state out.acceptor) → length logs ≡ n
      → gives (record { nth = n; place = q; source = i; sink = o }) done → done.closes ≡ true → n < most
      → out.place ≡ done.place → out.logs.items ≡ logs ++ done.log ∷ [] → out.end ≡ Closed
      → SlotRan state gives most job out
  comes_closed job q acc n i o logs done out g x f d e s c l ep el ee =
      let links = more job.place q (state job.acceptor) acc (state out.acceptor) n i o logs done g.serves x e s in
      record {
        closed = done.closes;
        serves = subst (λ (z : List L × P). ServesInOrder state gives job.place (state job.acceptor) (state out.acceptor) z.0 done.closes z.1) (λ j. (sym el j, sym ep j)) links;
        cause = subst (λ (z : List L). HasCause out.end most (length z) done.closes (state job.acceptor) (state out.acceptor)) (sym el)
            (subst (λ (z : SlotEnd). HasCause z most (length (logs ++ done.log ∷ [])) done.closes (state job.acceptor) (state out.acceptor)) (sym ee)
            (let m = length-append logs (done.log ∷ []) in (omega (arith, l, e), c, d ∙ g.none_done, f ∙ g.none_failed)));
      }
